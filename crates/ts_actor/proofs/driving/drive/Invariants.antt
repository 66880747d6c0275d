use Rattle.ts_store.specs.Recorders.{WasMade}
use Rattle.ts_actor.specs.Drives.{Exchanged}
use Rattle.ts_actor.proofs.DrivenSoFar.{DrivenSoFar}
use Rattle.ts_actor.proofs.driving.drive.Given as goal

-- the machine is on its way by the calls so far
abbrev pub invariant-asks : goal.invariant-asks
invariant-asks g l = DrivenSoFar g.A.Actor.task g.A.Actor.follows (Exchanged g.S.Store.held g.S.Store.last g.S.Store.faults (WasMade g.S.Store.asked g.S.Store.notes)) l.stop l.fn.actor l.fn.store l.actor l.store l.made l.reply

-- the calls that the machine still makes
abbrev pub decreases-asks : goal.decreases-asks
decreases-asks g l = g.A.Actor.measure l.actor
