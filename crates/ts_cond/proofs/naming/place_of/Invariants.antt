use Rattle.std.proofs.Common.{◌≡◌, drop}
use Rattle.ts_cond.specs.Machine.{named_from}
use Rattle.ts_cond.proofs.naming.place_of.Given as goal

abbrev pub invariant-loop-place : goal.invariant-loop-place
invariant-loop-place l = named_from l.place l.name (drop l.place l.fields) ≡ named_from 0 l.name l.fields
