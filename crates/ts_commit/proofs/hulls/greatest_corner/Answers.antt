-- All dimensions that both have are done.
use Rattle.std.proofs.Common.{arith, ◌≡◌, ◌≤◌, length, min, take, ap, ◌∙◌}
use Rattle.ts_commit.proofs.Corners.{greatest_corner_all}
use Rattle.ts_domain.specs.Bounds.{greatest_corner}
use Rattle.ts_commit.proofs.hulls.greatest_corner.Goals as goal

pub returns : goal.returns
returns c =
    let a = c.as_slice-a.result.now in
    let b = c.as_slice-b.result.now in
    let ends : min (length a) (length b) ≤ c.loop-dim.dim = omega (arith, ap length c.as_slice-a.ensures, ap length c.as_slice-b.ensures) in
    let made : c.new.result ≡ take c.loop-dim.dim c.loop-dim.numbers = c.new.ensures ∙ ap (λ n. take n c.loop-dim.numbers) (omega arith) in
    made ∙ greatest_corner_all a b c.loop-dim.dim ends c.loop-dim.numbers _ c.loop-dim.invariant.1 ∙ ap (greatest_corner a) c.as_slice-b.ensures ∙ ap (λ l. greatest_corner l c.args.b.now) c.as_slice-a.ensures
