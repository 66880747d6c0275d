use Rattle.std.proofs.Common.{◌≡◌, drop}
use Rattle.ts_domain.specs.Bounds.{do_meet}
use Rattle.ts_domain.proofs.boxes.do_meet.Given as goal

abbrev pub invariant-loop-dim : goal.invariant-loop-dim
invariant-loop-dim l = do_meet (drop l.dim l.low) (drop l.dim l.high) (drop l.dim l.other_low) (drop l.dim l.other_high) ≡ do_meet l.low l.high l.other_low l.other_high
