use Rattle.std.proofs.Common.{rules, arith, get_or, pos, FitsSigned, to_z-of_z}
use Rattle.std.specs.Int.{w128}
use Rattle.ts_domain.proofs.Between.{length-are_bounds}
use Rattle.ts_order.proofs.PlaceSteps.{side_is}
use Rattle.ts_dense_read.proofs.before.side_at.Goals as goal

pub bounds-high-dim : goal.bounds-high-dim
bounds-high-dim c = rw (length-are_bounds c.args.low.now c.args.high.now c.requires.valid) c.requires.within

pub overflow_cast-result : goal.overflow_cast-result
overflow_cast-result c =
    let low : FitsSigned w128 (get_or c.args.low.now c.args.dim (pos 0)) = search rules in
    let high : FitsSigned w128 (get_or c.args.high.now c.args.dim (pos 0)) = search rules in
    let side = side_is c.args.low.now c.args.high.now c.args.dim c.abs_diff.result c.requires.valid c.requires.few c.requires.within (rw (to_z-of_z low, to_z-of_z high) at c.abs_diff.ensures) in
    record { fits = omega (arith, side.1) }

pub overflow_add-result : goal.overflow_add-result
overflow_add-result c =
    let low : FitsSigned w128 (get_or c.args.low.now c.args.dim (pos 0)) = search rules in
    let high : FitsSigned w128 (get_or c.args.high.now c.args.dim (pos 0)) = search rules in
    let side = side_is c.args.low.now c.args.high.now c.args.dim c.abs_diff.result c.requires.valid c.requires.few c.requires.within (rw (to_z-of_z low, to_z-of_z high) at c.abs_diff.ensures) in
    record { fits = omega (arith, side.1) }

pub returns : goal.returns
returns c =
    let low : FitsSigned w128 (get_or c.args.low.now c.args.dim (pos 0)) = search rules in
    let high : FitsSigned w128 (get_or c.args.high.now c.args.dim (pos 0)) = search rules in
    (side_is c.args.low.now c.args.high.now c.args.dim c.abs_diff.result c.requires.valid c.requires.few c.requires.within (rw (to_z-of_z low, to_z-of_z high) at c.abs_diff.ensures)).0
