-- What the test finds from the place on is what it finds of all.
use Rattle.std.proofs.Common.{◌≡◌, drop}
use Rattle.ts_world.specs.Slots.{is_live_from}
use Rattle.ts_world.proofs.leases.is_live.Given as goal

abbrev pub invariant-loop-place : goal.invariant-loop-place
invariant-loop-place g l = is_live_from l.place (drop l.place l.jobs) l.slots l.actor l.lease ≡ is_live_from 0 l.jobs l.slots l.actor l.lease
