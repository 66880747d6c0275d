use Rattle.std.proofs.Common.{◌≡◌, ◌++◌, drop}
use Rattle.ts_cond.specs.Tokens.{unhexed}
use Rattle.ts_cond.proofs.Pairs.{unhexed_behind}
use Rattle.ts_cond.proofs.literals.unhexed.Given as goal

abbrev pub invariant-loop-digit : goal.invariant-loop-digit
invariant-loop-digit l = l.bytes ++ unhexed_behind l.high (drop l.digit-index l.digits) ≡ unhexed l.digits
