-- The command came out by the calls that its machine asked for, or for want of memory without a call.
use Rattle.std.proofs.Common.{refl, inr, []}
use Rattle.ts_model.specs.declared.answers.Driven.TheVariants.{Done}
use Rattle.ts_model.specs.declared.answers.Outcome.TheVariants.{OutOfMemory}
use Rattle.ts_turnstile.specs.Passes.{pass_view}
use Rattle.ts_lanes.specs.Commands.{CameOut}
use Rattle.ts_lanes.proofs.OwnTurns.{had, did_command, driven_command}
use Rattle.ts_lanes.proofs.command.do_command.Goals as goal

pub returns-in_default-clause-did : goal.returns-in_default-clause-did
returns-in_default-clause-did g c =
    did_command (CameOut (g.C.Crew.stop_of c.args.crew.now) (g.C.Crew.offers c.args.crew.now) g.C.Crew.task g.C.Crew.follows g.C.Crew.ends) c.args.lane c.args.number (pass_view c.args.pass.now) [] (pass_view c.go_to.new.self) (Done OutOfMemory)
    (had c.args.lane c.args.number (pass_view c.args.pass.now) [] (pass_view c.go_to.new.self) c.args.pass.now.idle.2 c.requires.lane c.go_to.ensures.view)
    (c.begin.ensures.task.0, c.begin.ensures.task.1, inr (refl, refl))

pub returns-clause-same : goal.returns-clause-same
returns-clause-same g c =
    (driven_command (g.C.Crew.stop_of c.args.crew.now) (g.C.Crew.offers c.args.crew.now) g.C.Crew.task g.C.Crew.follows g.C.Crew.ends c.args.lane c.args.number (pass_view c.args.pass.now) (pass_view c.go_to.new.self) (pass_view c.drive_in_turn-end.new.pass)
    c.in-Ok.begun.actor c.drive_in_turn-end.new.actor c.go_to.new.self.number c.in-Ok.begun.stop c.drive_in_turn-end.result c.in-Ok.ensures.task.0
    c.args.pass.now.idle.2 c.requires.lane c.go_to.ensures.view c.go_to.ensures.number c.in-Ok.ensures.stop c.in-Ok.ensures.task.2.1 c.drive_in_turn-end.ensures.task c.in-Ok.ensures.task.1 c.drive_in_turn-end.ensures.drove).1.same

pub returns-clause-lane : goal.returns-clause-lane
returns-clause-lane g c =
    (driven_command (g.C.Crew.stop_of c.args.crew.now) (g.C.Crew.offers c.args.crew.now) g.C.Crew.task g.C.Crew.follows g.C.Crew.ends c.args.lane c.args.number (pass_view c.args.pass.now) (pass_view c.go_to.new.self) (pass_view c.drive_in_turn-end.new.pass)
    c.in-Ok.begun.actor c.drive_in_turn-end.new.actor c.go_to.new.self.number c.in-Ok.begun.stop c.drive_in_turn-end.result c.in-Ok.ensures.task.0
    c.args.pass.now.idle.2 c.requires.lane c.go_to.ensures.view c.go_to.ensures.number c.in-Ok.ensures.stop c.in-Ok.ensures.task.2.1 c.drive_in_turn-end.ensures.task c.in-Ok.ensures.task.1 c.drive_in_turn-end.ensures.drove).1.lane_stays

pub returns-clause-did : goal.returns-clause-did
returns-clause-did g c =
    (driven_command (g.C.Crew.stop_of c.args.crew.now) (g.C.Crew.offers c.args.crew.now) g.C.Crew.task g.C.Crew.follows g.C.Crew.ends c.args.lane c.args.number (pass_view c.args.pass.now) (pass_view c.go_to.new.self) (pass_view c.drive_in_turn-end.new.pass)
    c.in-Ok.begun.actor c.drive_in_turn-end.new.actor c.go_to.new.self.number c.in-Ok.begun.stop c.drive_in_turn-end.result c.in-Ok.ensures.task.0
    c.args.pass.now.idle.2 c.requires.lane c.go_to.ensures.view c.go_to.ensures.number c.in-Ok.ensures.stop c.in-Ok.ensures.task.2.1 c.drive_in_turn-end.ensures.task c.in-Ok.ensures.task.1 c.drive_in_turn-end.ensures.drove).2
