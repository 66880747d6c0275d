use Rattle.std.proofs.Common.{◌≡◌, ◌++◌, drop, false}
use Rattle.ts_cond.specs.Tokens.{unquoted}
use Rattle.ts_cond.proofs.literals.unquoted.Given as goal

abbrev pub invariant-loop-byte : goal.invariant-loop-byte
invariant-loop-byte l = l.text ++ unquoted l.second (drop l.byte-index l.raw) ≡ unquoted false l.raw
