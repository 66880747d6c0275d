-- The answer is that of the bytes so far.
use Rattle.std.proofs.Common.{◌≡◌, take, nat_lt}
use Rattle.std.specs.List.{list_all}
use Rattle.ts_column.proofs.texts.are_ascii.Given as goal

abbrev pub invariant-loop-byte : goal.invariant-loop-byte
invariant-loop-byte l = l.all ≡ list_all (λ b. nat_lt b 128) (take l.byte-index l.bytes)
