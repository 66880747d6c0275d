use Rattle.std.proofs.Common.{◌≡◌, ◌++◌, drop}
use Rattle.std.specs.Prelude.{string_bytes}
use Rattle.ts_query.specs.Ends.{names_text}
use Rattle.ts_query.proofs.ends.print_names.Given as goal

abbrev pub invariant-loop-name : goal.invariant-loop-name
invariant-loop-name l = string_bytes l.text ++ names_text (drop l.name-index l.names) ≡ string_bytes l.initial.text ++ names_text l.names
