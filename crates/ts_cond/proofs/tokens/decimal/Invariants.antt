use Rattle.std.proofs.Common.{◌≡◌, ◌+◌, ◌*◌, ◌^◌, ◌≤◌, drop}
use Rattle.ts_cond.specs.Tokens.{decimal_from}
use Rattle.ts_cond.proofs.tokens.decimal.Given as goal

abbrev pub invariant-loop-place : goal.invariant-loop-place
invariant-loop-place l = (l.value + 23 ≤ 23 * 10 ^ l.place) × (decimal_from l.value (drop l.place l.digits) ≡ decimal_from 0 l.digits)
