-- The corner so far.
use Rattle.std.proofs.Common.{◌≡◌, ◌++◌, length, take, drop}
use Rattle.ts_domain.specs.Bounds.{greatest_corner}
use Rattle.ts_gather.proofs.shared.greatest_corner.Given as goal

abbrev pub invariant-loop-dim : goal.invariant-loop-dim
invariant-loop-dim l = (length l.numbers ≡ 8) × (take l.dim l.numbers ++ greatest_corner (drop l.dim l.a) (drop l.dim l.b) ≡ greatest_corner l.a l.b)
