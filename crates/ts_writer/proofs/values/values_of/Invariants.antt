use Rattle.std.proofs.Common.{◌≡◌, ◌++◌, drop}
use Rattle.std.specs.Option.{option_map}
use Rattle.ts_model.specs.Commands.{value_of, all_of}
use Rattle.ts_writer.proofs.values.values_of.Given as goal

abbrev pub invariant-loop-place : goal.invariant-loop-place
invariant-loop-place l = option_map (λ rest. l.found ++ rest) (all_of (value_of l.attr) (drop l.place l.vals)) ≡ all_of (value_of l.attr) l.vals
