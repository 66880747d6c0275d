use Rattle.std.proofs.Common.{◌≡◌, drop}
use Rattle.ts_domain.specs.Bounds.{is_between}
use Rattle.ts_domain.proofs.boxes.is_between.Given as goal

abbrev pub invariant-loop-dim : goal.invariant-loop-dim
invariant-loop-dim l = is_between (drop l.dim l.low) (drop l.dim l.high) (drop l.dim l.coords) ≡ is_between l.low l.high l.coords
