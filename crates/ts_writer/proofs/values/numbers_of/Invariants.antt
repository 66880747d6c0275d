use Rattle.std.proofs.Common.{◌≡◌, ◌++◌, drop}
use Rattle.std.specs.Option.{option_map}
use Rattle.ts_model.specs.Commands.{coordinate, all_of}
use Rattle.ts_writer.proofs.values.numbers_of.Given as goal

abbrev pub invariant-loop-place : goal.invariant-loop-place
invariant-loop-place l = option_map (λ rest. l.numbers ++ rest) (all_of coordinate (drop l.place l.vals)) ≡ all_of coordinate l.vals
