use Rattle.std.proofs.Common.{◌≡◌}
use Rattle.ts_actor.proofs.DrivenSoFar.{DrivenSoFar}
use Rattle.ts_turnstile.specs.Belonging.{Belongs}
use Rattle.ts_turnstile.specs.Passes.{pass_view}
use Rattle.ts_lanes.specs.Commands.{CalledShort}
use Rattle.ts_lanes.proofs.driving.drive_in_turn.Given as goal

-- the machine is on its way by the calls so far, which were made through the pass
abbrev pub invariant-asks : goal.invariant-asks
invariant-asks g l =
    Belongs l.turnstile l.pass × (l.pass.number ≡ l.fn.pass.number)
    × DrivenSoFar g.C.Crew.task g.C.Crew.follows (CalledShort l.fn.pass.number) l.stop l.fn.actor (pass_view l.fn.pass) l.actor (pass_view l.pass) l.made l.reply

-- the calls that the machine still makes
abbrev pub decreases-asks : goal.decreases-asks
decreases-asks g l = g.C.Crew.measure l.actor
