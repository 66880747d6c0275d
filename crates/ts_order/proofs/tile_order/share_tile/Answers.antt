use Rattle.std.proofs.Common.{arith, ◌≡◌, to_z-of_z, FitsSigned, ◌-ℤ◌, ◌<ℤ◌, int_rem, true, false}
use Rattle.std.specs.Prelude.{int_lt}
use Rattle.std.specs.Int.{w128}
use Rattle.std.proofs.lemmas.Int.{ints}
use Rattle.ts_order.proofs.TileOrder.{same_tile, later_tile, far_apart, fit_in_dim, MatchBool-from}
use Rattle.ts_order.proofs.tile_order.share_tile.Goals as goal

pub rest-requires-clause-number : goal.rest-requires-clause-number
rest-requires-clause-number c =
    let d = c.args.dim.now in
    let r = c.requires in
    let f = fit_in_dim d c.args.first c.args.second r.sound r.above r.ascending r.below in
    rw (to_z-of_z f.low_fits, to_z-of_z f.first_fits, to_z-of_z f.offset) (omega (arith, ints, r.above))

pub returns-then-apart-dim : goal.returns-then-apart-dim
returns-then-apart-dim c =
    let d = c.args.dim.now in
    let x = c.args.first in
    let y = c.args.second in
    let r = c.requires in
    let f = fit_in_dim d x y r.sound r.above r.ascending r.below in
    let value : c.rest.result ≡ int_rem (x -ℤ d.low) d.extent = rw (to_z-of_z f.low_fits, to_z-of_z f.first_fits, to_z-of_z f.extent_fits, to_z-of_z f.offset) at c.rest.ensures.value in
    let positive = c.rest.ensures.positive in
    let below : c.rest.result <ℤ d.extent = rw (to_z-of_z f.extent_fits) at c.rest.ensures.below in
    let near : int_lt (y -ℤ x) d.extent ≡ true = rw (to_z-of_z f.first_fits, to_z-of_z f.second_fits, to_z-of_z f.extent_fits, to_z-of_z f.apart) at c.if-apart-dim.true in
    let rest_fits : FitsSigned w128 c.rest.result = omega (arith, ints, f.extent_fits) in
    let left_fits : FitsSigned w128 (d.extent -ℤ (y -ℤ x)) = omega (arith, ints, f.extent_fits, f.apart, r.ascending) in
    rw (to_z-of_z f.first_fits, to_z-of_z f.second_fits, to_z-of_z f.extent_fits, to_z-of_z f.apart, to_z-of_z rest_fits, to_z-of_z left_fits)
    (MatchBool-from (int_lt c.rest.result (d.extent -ℤ (y -ℤ x)))
    (λ e. same_tile d.low x y d.extent r.above r.ascending r.sound.some (rw (← value) (omega (arith, ints, e))))
    (λ e. later_tile d.low x y d.extent r.above r.ascending r.sound.some (rw (← value) (omega (arith, ints, e)))))

pub returns-else-apart-dim : goal.returns-else-apart-dim
returns-else-apart-dim c =
    let d = c.args.dim.now in
    let x = c.args.first in
    let y = c.args.second in
    let r = c.requires in
    let f = fit_in_dim d x y r.sound r.above r.ascending r.below in
    let far : int_lt (y -ℤ x) d.extent ≡ false = rw (to_z-of_z f.first_fits, to_z-of_z f.second_fits, to_z-of_z f.extent_fits, to_z-of_z f.apart) at c.if-apart-dim.false in
    rw (to_z-of_z f.first_fits, to_z-of_z f.second_fits, to_z-of_z f.extent_fits, to_z-of_z f.apart, far)
    (far_apart d.low x y d.extent r.above r.ascending r.sound.some (omega (arith, ints, far)))

pub overflow_sub-result : goal.overflow_sub-result
overflow_sub-result c =
    let r = c.requires in
    let f = fit_in_dim c.args.dim.now c.args.first c.args.second r.sound r.above r.ascending r.below in
    rw (to_z-of_z f.first_fits, to_z-of_z f.second_fits, to_z-of_z f.extent_fits, to_z-of_z f.apart) (omega (arith, ints, f.extent_fits, f.apart, r.ascending))
