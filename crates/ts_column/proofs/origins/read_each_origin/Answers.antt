-- The origin that was read is the one that was pushed.
use Rattle.std.proofs.Common.{◌≡◌, ◌++◌, ◌∷◌, []}
use Rattle.ts_wire.proofs.Loop.{items_on}
use Rattle.ts_column.specs.Origins.{origin_at}
use Rattle.ts_column.proofs.origins.read_each_origin.Goals as goal

pub loop-place-preserved : goal.loop-place-preserved
loop-place-preserved c =
    let l = c.loop-place in
    let pushed : c.push.new.self ≡ l.origins ++ c.in_ok-origin.origin ∷ [] = c.in_ok-push.ensures.ok in
    rw pushed (items_on (λ _. origin_at c.args.entries) c.args.count l.place l.origins l.cursor c.read_origin.new.cursor c.in_ok-origin.origin _ c.loop-place-test.true c.in_ok-origin.ensures l.invariant)
