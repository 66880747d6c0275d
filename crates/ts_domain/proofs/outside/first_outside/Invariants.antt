use Rattle.std.proofs.Common.{◌≡◌, drop}
use Rattle.ts_domain.specs.Domains.{first_outside_from}
use Rattle.ts_domain.proofs.outside.first_outside.Given as goal

abbrev pub invariant-loop-place : goal.invariant-loop-place
invariant-loop-place l = first_outside_from l.place (drop l.place l.dims) (drop l.place l.at) ≡ first_outside_from 0 l.dims l.at
