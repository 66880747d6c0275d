-- What is sought is not among the coordinates before.
use Rattle.std.proofs.Common.{◌≡◌, drop, int_le}
use Rattle.std.specs.List.{list_any}
use Rattle.ts_column.proofs.coords.has_at_least.Given as goal

abbrev pub invariant-loop-place : goal.invariant-loop-place
invariant-loop-place l = list_any (λ x. int_le l.high x) (drop l.place l.coords) ≡ list_any (λ x. int_le l.high x) l.coords
