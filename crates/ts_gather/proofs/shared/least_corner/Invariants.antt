-- The corner so far.
use Rattle.std.proofs.Common.{◌≡◌, ◌++◌, length, take, drop}
use Rattle.ts_domain.specs.Bounds.{least_corner}
use Rattle.ts_gather.proofs.shared.least_corner.Given as goal

abbrev pub invariant-loop-dim : goal.invariant-loop-dim
invariant-loop-dim l = (length l.numbers ≡ 8) × (take l.dim l.numbers ++ least_corner (drop l.dim l.a) (drop l.dim l.b) ≡ least_corner l.a l.b)
