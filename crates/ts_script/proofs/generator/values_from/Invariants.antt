use Rattle.std.proofs.Common.{◌≡◌, ◌+◌, ◌-◌, ◌++◌}
use Rattle.std.specs.List.{range_with_len}
use Rattle.ts_script.specs.Generator.{values_of}
use Rattle.ts_script.proofs.generator.values_from.Given as goal

abbrev pub invariant-loop-i : goal.invariant-loop-i
invariant-loop-i l = l.values ++ values_of (λ i. i) (range_with_len (l.first + l.i) (l.count - l.i)) ≡ values_of (λ i. i) (range_with_len l.first l.count)
