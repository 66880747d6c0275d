use Rattle.std.proofs.Common.{◌≡◌, ◌≤◌, drop, true, false}
use Rattle.ts_cond.specs.Tokens.{end_from}
use Rattle.ts_cond.proofs.tokens.end_of.Given as goal

abbrev pub invariant-loop-place : goal.invariant-loop-place
invariant-loop-place l = (l.odd ≡ true → 1 ≤ l.place) × (end_from l.place l.odd (drop l.place l.bytes) ≡ end_from 0 false l.bytes)
