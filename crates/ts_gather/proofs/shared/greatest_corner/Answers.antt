-- One dimension more.
use Rattle.std.proofs.Common.{rules, arith, ◌≡◌, length, get_or, pos, ap, ◌∙◌, length-set, FitsSigned, to_z-of_z}
use Rattle.std.specs.Int.{w128}
use Rattle.ts_domain.proofs.Steps.{greatest_corner_more}
use Rattle.ts_gather.proofs.shared.greatest_corner.Goals as goal

pub loop-dim-preserved : goal.loop-dim-preserved
loop-dim-preserved c =
    let a = c.as_slice-a.result.now in
    let b = c.as_slice-b.result.now in
    let i = c.loop-dim.dim in
    let long_a : length a ≡ length c.args.a.now = ap length c.as_slice-a.ensures in
    let long_b : length b ≡ length c.args.b.now = ap length c.as_slice-b.ensures in
    let first : FitsSigned w128 (get_or a i (pos 0)) = search rules in
    let second : FitsSigned w128 (get_or b i (pos 0)) = search rules in
    let fits : FitsSigned w128 c.max.result = search rules in (
      length-set c.loop-dim.numbers i _ ∙ c.loop-dim.invariant.0,
      greatest_corner_more a b c.loop-dim.numbers i _ (omega arith) (omega arith) (omega arith) _ (to_z-of_z fits ∙ (simp to_z-of_z at c.max.ensures.value)) c.loop-dim.invariant.1,
    )
