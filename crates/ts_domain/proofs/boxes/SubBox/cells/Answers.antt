use Rattle.std.proofs.Common.{rules, arith, IsTrue, get_or, sym, ◌^◌, ◌-◌, pos, FitsSigned, to_z-of_z}
use Rattle.std.specs.Int.{w128}
use Rattle.ts_domain.specs.Bounds.{are_bounds}
use Rattle.ts_domain.proofs.Between.{length-are_bounds, length-coords_between}
use Rattle.ts_domain.proofs.Steps.{are_bounds_at, cells_more, cells_all}
use Rattle.ts_domain.proofs.boxes.SubBox.cells.Goals as goal

pub side-requires : goal.side-requires
side-requires c =
    let low = c.as_slice-low.result.now in
    let high = c.as_slice-high.result.now in
    let i = c.loop-dim.dim in
    let first : FitsSigned w128 (get_or low i (pos 0)) = search rules in
    let second : FitsSigned w128 (get_or high i (pos 0)) = search rules in
    let bounds : IsTrue (are_bounds low high) = rw (c.as_slice-low.ensures, c.as_slice-high.ensures) c.requires in
    simp to_z-of_z (are_bounds_at low high i bounds (omega arith))

pub loop-dim-preserved : goal.loop-dim-preserved
loop-dim-preserved c =
    let low = c.as_slice-low.result.now in
    let high = c.as_slice-high.result.now in
    let i = c.loop-dim.dim in
    let first : FitsSigned w128 (get_or low i (pos 0)) = search rules in
    let second : FitsSigned w128 (get_or high i (pos 0)) = search rules in
    let bounds : IsTrue (are_bounds low high) = rw (c.as_slice-low.ensures, c.as_slice-high.ensures) c.requires in
    rw c.saturating_mul-cells.ensures
    (omega arith, cells_more low high i c.loop-dim.cells c.side.result (2 ^ 64 - 1) _ (omega arith) (omega (arith, length-are_bounds low high bounds)) (simp to_z-of_z at c.side.ensures) c.loop-dim.invariant.1)

pub returns-clause-capped : goal.returns-clause-capped
returns-clause-capped c =
    let low = c.as_slice-low.result.now in
    let high = c.as_slice-high.result.now in
    rw (← c.as_slice-low.ensures, ← c.as_slice-high.ensures) (cells_all low high c.loop-dim.dim c.loop-dim.cells (2 ^ 64 - 1) _ c.loop-dim-test.false c.loop-dim.invariant.0 c.loop-dim.invariant.1)

pub returns-clause-counted : goal.returns-clause-counted
returns-clause-counted c = sym (length-coords_between c.args.self.now.low c.args.self.now.high)
