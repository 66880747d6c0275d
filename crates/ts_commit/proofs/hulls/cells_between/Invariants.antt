use Rattle.std.proofs.Common.{◌≡◌, ◌*◌, ◌-◌, ◌^◌, ◌≤◌, min, drop}
use Rattle.ts_domain.specs.Bounds.{cells_between}
use Rattle.ts_commit.proofs.hulls.cells_between.Given as goal

abbrev pub invariant-loop-dim : goal.invariant-loop-dim
invariant-loop-dim l = (l.cells ≤ 2 ^ 64 - 1) × (min (l.cells * cells_between (drop l.dim l.low) (drop l.dim l.high)) (2 ^ 64 - 1) ≡ min (cells_between l.low l.high) (2 ^ 64 - 1))
