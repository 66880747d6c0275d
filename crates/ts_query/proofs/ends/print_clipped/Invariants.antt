use Rattle.std.proofs.Common.{◌≡◌, ◌++◌, drop}
use Rattle.std.specs.Prelude.{string_bytes}
use Rattle.ts_query.specs.Ends.{clipped_text}
use Rattle.ts_query.proofs.ends.print_clipped.Given as goal

abbrev pub invariant-loop-frag : goal.invariant-loop-frag
invariant-loop-frag l = string_bytes l.text ++ clipped_text (drop l.frag-index l.clipped) ≡ string_bytes l.initial.text ++ clipped_text l.clipped
