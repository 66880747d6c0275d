-- A number on a side fits as the bounds do.
use Rattle.std.proofs.Common.{rules, arith, ◌≡◌, refl, get_or, pos, ◌+ℤ◌, FitsSigned, to_z, to_z-of_z}
use Rattle.std.specs.Int.{w128}
use Rattle.std.proofs.lemmas.Int.{to_z_pos}
use Rattle.ts_domain.proofs.Between.{length-are_bounds}
use Rattle.ts_order.proofs.PlaceSteps.{fits_between}
use Rattle.ts_gather.proofs.sides.number_at.Goals as goal

pub bounds-high-dim : goal.bounds-high-dim
bounds-high-dim c = rw (length-are_bounds c.args.low.now c.args.high.now c.requires.valid) c.requires.within

pub overflow_add-result : goal.overflow_add-result
overflow_add-result c =
    let l = get_or c.args.low.now c.args.dim (pos 0) in
    let h = get_or c.args.high.now c.args.dim (pos 0) in
    let low : FitsSigned w128 l = search rules in
    let high : FitsSigned w128 h = search rules in
    let steps : to_z w128 c.args.steps ≡ pos c.args.steps = to_z_pos w128 c.args.steps (omega arith) in
    rw (to_z-of_z low, steps) (fits_between l h c.args.steps low high c.requires.below)

pub returns : goal.returns
returns c =
    let l = get_or c.args.low.now c.args.dim (pos 0) in
    let h = get_or c.args.high.now c.args.dim (pos 0) in
    let low : FitsSigned w128 l = search rules in
    let high : FitsSigned w128 h = search rules in
    let steps : to_z w128 c.args.steps ≡ pos c.args.steps = to_z_pos w128 c.args.steps (omega arith) in
    let whole : FitsSigned w128 (l +ℤ pos c.args.steps) = fits_between l h c.args.steps low high c.requires.below in
    rw (to_z-of_z low, steps, to_z-of_z whole) refl
