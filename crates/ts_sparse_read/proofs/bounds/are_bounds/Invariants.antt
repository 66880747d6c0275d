-- The bounds before are no reason.
use Rattle.std.proofs.Common.{◌≡◌, drop}
use Rattle.ts_domain.specs.Bounds.{are_bounds}
use Rattle.ts_sparse_read.proofs.bounds.are_bounds.Given as goal

abbrev pub invariant-loop-dim : goal.invariant-loop-dim
invariant-loop-dim l = are_bounds (drop l.dim l.low) (drop l.dim l.high) ≡ are_bounds l.low l.high
