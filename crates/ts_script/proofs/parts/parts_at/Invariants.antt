use Rattle.std.proofs.Common.{◌≡◌, ◌++◌, length, map}
use Rattle.ts_script.specs.Parts.{parts_at}
use Rattle.ts_script.proofs.parts.parts_at.Given as goal

abbrev pub invariant-loop-part : goal.invariant-loop-part
invariant-loop-part l = map (λ p. p.now) l.parts.items ++ parts_at l.mark l.rest ≡ parts_at l.mark l.bytes

abbrev pub decreases-loop-part : goal.decreases-loop-part
decreases-loop-part l = length l.rest
