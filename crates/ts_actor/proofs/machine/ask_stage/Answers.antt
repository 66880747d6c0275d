-- The work of a job does not ask for the removal of its lease.
use Rattle.ts_actor.proofs.MachineLaws.{works_no_release}
use Rattle.ts_actor.proofs.machine.ask_stage.Goals as goal

pub returns-in-Works-clause-no_release : goal.returns-in-Works-clause-no_release
returns-in-Works-clause-no_release g c =
    works_no_release g.K.Automaton.serves g.K.Automaton.calls g.K.Automaton.spares c.args.job.now c.requires.serves g.K.Automaton.codec c.args.stage.now c.in-Works.state c.ask.result c.in-Works.is c.ask.ensures.is c.ask.ensures.works
