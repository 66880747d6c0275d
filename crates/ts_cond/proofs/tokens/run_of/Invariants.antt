use Rattle.std.proofs.Common.{◌≡◌, drop}
use Rattle.ts_cond.specs.Tokens.{run_from}
use Rattle.ts_cond.specs.Spelled.{passes}
use Rattle.ts_cond.proofs.tokens.run_of.Given as goal

abbrev pub invariant-loop-place : goal.invariant-loop-place
invariant-loop-place l = run_from l.place (passes l.class) (drop l.place l.bytes) ≡ run_from 0 (passes l.class) l.bytes
