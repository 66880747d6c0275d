use Rattle.std.proofs.Common.{◌≡◌, ◌++◌, drop}
use Rattle.hex.specs.Hex.{encode_lower}
use Rattle.ts_query.proofs.rows.print_digits.Given as goal

abbrev pub invariant-loop-byte : goal.invariant-loop-byte
invariant-loop-byte l = l.bytes.items ++ encode_lower (drop l.byte-index l.own) ≡ l.initial.bytes.items ++ encode_lower l.own
