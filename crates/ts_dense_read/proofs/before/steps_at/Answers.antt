use Rattle.std.proofs.Common.{rules, arith, get_or, sym, pos, FitsSigned, to_z-of_z}
use Rattle.std.specs.Int.{w128}
use Rattle.ts_domain.proofs.Between.{length-is_between}
use Rattle.ts_order.proofs.PlaceSteps.{steps_are}
use Rattle.ts_dense_read.proofs.before.steps_at.Goals as goal

pub bounds-at-dim : goal.bounds-at-dim
bounds-at-dim c = rw (sym (length-is_between c.args.low.now c.args.high.now c.args.at.now c.requires.inside).0) c.requires.within

pub overflow_cast-result : goal.overflow_cast-result
overflow_cast-result c =
    let low : FitsSigned w128 (get_or c.args.low.now c.args.dim (pos 0)) = search rules in
    let at : FitsSigned w128 (get_or c.args.at.now c.args.dim (pos 0)) = search rules in
    let steps = steps_are c.args.low.now c.args.high.now c.args.at.now c.args.dim c.abs_diff.result c.requires.inside c.requires.few c.requires.within (rw (to_z-of_z low, to_z-of_z at) at c.abs_diff.ensures) in
    record { fits = omega (arith, steps.1) }

pub returns : goal.returns
returns c =
    let low : FitsSigned w128 (get_or c.args.low.now c.args.dim (pos 0)) = search rules in
    let at : FitsSigned w128 (get_or c.args.at.now c.args.dim (pos 0)) = search rules in
    (steps_are c.args.low.now c.args.high.now c.args.at.now c.args.dim c.abs_diff.result c.requires.inside c.requires.few c.requires.within (rw (to_z-of_z low, to_z-of_z at) at c.abs_diff.ensures)).0
