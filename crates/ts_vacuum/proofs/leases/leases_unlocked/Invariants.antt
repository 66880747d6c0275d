-- Those of the names so far.
use Rattle.std.proofs.Common.{◌≡◌}
use Rattle.ts_model.specs.States.{leases_unlocked}
use Rattle.ts_vacuum.proofs.leases.leases_unlocked.Given as goal

abbrev pub invariant-loop-name : goal.invariant-loop-name
invariant-loop-name l = l.leases ≡ leases_unlocked l.seed l.lane l.yielded
