-- The next start is written.
use Rattle.std.proofs.Common.{refl, rules}
use Rattle.ts_dense.proofs.TileStarts.{tile_begun, tile_room, tile_more}
use Rattle.ts_dense.proofs.starts.write_tile.Goals as goal

pub loop-place-init : goal.loop-place-init
loop-place-init c = tile_begun c.args.scribe.now c.args.scribe.now c.args.texts.now c.args.first c.args.end c.requires.few refl

pub overflow_add-at : goal.overflow_add-at
overflow_add-at c =
    let l = c.loop-place in
    let room = tile_room c.args.scribe.now l.scribe c.args.texts.now c.args.first c.args.end l.at l.place _ c.at.result.now l.invariant c.loop-place-test.true c.requires.within c.at.ensures refl in search rules

pub loop-place-preserved : goal.loop-place-preserved
loop-place-preserved c =
    let l = c.loop-place in
    tile_more c.args.scribe.now l.scribe _ c.args.texts.now c.args.first c.args.end l.at _ l.place c.at.result.now l.invariant c.loop-place-test.true c.requires.within c.at.ensures c.in_ok-u64.ensures.ok refl
