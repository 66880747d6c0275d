-- The start that was read is the one that was pushed.
use Rattle.std.proofs.Common.{◌≡◌, ◌++◌, ◌∷◌, []}
use Rattle.ts_wire.proofs.Loop.{items_on}
use Rattle.ts_column.specs.Tiles.{start_at}
use Rattle.ts_column.proofs.Starts.{start_more}
use Rattle.ts_column.proofs.texts.read_all_starts.Goals as goal

pub loop-place-preserved : goal.loop-place-preserved
loop-place-preserved c =
    let pushed : c.push.new.self ≡ c.loop-place.starts ++ c.in_ok-start.start ∷ [] = c.in_ok-push.ensures.ok in
    let reads = rw c.as_slice.ensures at c.in_ok-start.ensures.reads in
    let follows = rw c.as_slice.ensures at c.in_ok-start.ensures.follows in
    rw pushed (
      items_on (start_at c.args.end) c.args.count c.loop-place.place c.loop-place.starts c.loop-place.cursor c.read_start.new.cursor c.in_ok-start.start _ c.loop-place-test.true reads c.loop-place.invariant.0,
      start_more c.loop-place.starts c.in_ok-start.start c.args.end c.loop-place.place c.loop-place.invariant.1 follows,
    )
