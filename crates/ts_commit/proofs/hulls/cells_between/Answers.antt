-- One dimension more, and all dimensions that both have.
use Rattle.std.proofs.Common.{rules, arith, ◌≡◌, ◌≤◌, ◌-◌, ◌^◌, length, min, get_or, pos, ap, ◌∙◌, FitsSigned, to_z-of_z}
use Rattle.std.specs.Int.{w128}
use Rattle.ts_domain.specs.Bounds.{cells_between}
use Rattle.ts_domain.proofs.Steps.{cells_more}
use Rattle.ts_commit.proofs.Corners.{cells_all}
use Rattle.ts_commit.proofs.hulls.cells_between.Goals as goal

pub loop-dim-preserved : goal.loop-dim-preserved
loop-dim-preserved c =
    let low = c.as_slice-low.result.now in
    let high = c.as_slice-high.result.now in
    let i = c.loop-dim.dim in
    let long_low : length low ≡ length c.args.low.now = ap length c.as_slice-low.ensures in
    let long_high : length high ≡ length c.args.high.now = ap length c.as_slice-high.ensures in
    let first : FitsSigned w128 (get_or low i (pos 0)) = search rules in
    let second : FitsSigned w128 (get_or high i (pos 0)) = search rules in
    rw c.saturating_mul-cells.ensures
    (omega arith, cells_more low high i c.loop-dim.cells c.side.result (2 ^ 64 - 1) _ (omega arith) (omega arith) (simp to_z-of_z at c.side.ensures) c.loop-dim.invariant.1)

pub returns : goal.returns
returns c =
    let low = c.as_slice-low.result.now in
    let high = c.as_slice-high.result.now in
    let ends : min (length low) (length high) ≤ c.loop-dim.dim = omega (arith, ap length c.as_slice-low.ensures, ap length c.as_slice-high.ensures) in
    cells_all low high c.loop-dim.dim ends c.loop-dim.cells (2 ^ 64 - 1) _ c.loop-dim.invariant.0 c.loop-dim.invariant.1
    ∙ ap (λ l. min (cells_between low l) (2 ^ 64 - 1)) c.as_slice-high.ensures ∙ ap (λ l. min (cells_between l c.args.high.now) (2 ^ 64 - 1)) c.as_slice-low.ensures
