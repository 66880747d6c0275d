use Rattle.std.proofs.Common.{◌≡◌, ◌+◌, ◌++◌, ◌∷◌, [], length, arith, length-append}
use Rattle.ts_wire.proofs.Loop.{items_loop}
use Rattle.ts_plain.proofs.reading.read_counted_origins.Goals as goal

pub loop-place-preserved : goal.loop-place-preserved
loop-place-preserved c =
    let pushed : c.push.new.self ≡ c.loop-place.origins ++ c.in_ok-origin.origin ∷ [] = c.in_ok-push.ensures.ok in
    let count : length (c.loop-place.origins ++ c.in_ok-origin.origin ∷ []) ≡ c.loop-place.place + 1 = omega (arith, length-append c.loop-place.origins (c.in_ok-origin.origin ∷ [])) in
    (rw pushed count, grind (arith, items_loop))
