-- Where there was no memory for the next call, or it is none, the job was at its work and not over.
use Rattle.std.proofs.Common.{sym, ◌∙◌}
use Rattle.ts_actor.proofs.MachineLaws.{call_short, not_over}
use Rattle.ts_actor.proofs.machine.ask_from.Goals as goal

pub returns-in-None-clause-asks : goal.returns-in-None-clause-asks
returns-in-None-clause-asks g c = λ past came.
    call_short g.K.Automaton.codec g.K.Automaton.serves g.K.Automaton.may c.args.job.now past c.args.stage c.give_up.result c.requires.serves came
    (not_over g.K.Automaton.codec g.K.Automaton.serves g.K.Automaton.may c.args.job.now c.args.stage (sym c.in-Ok-None.field-0-is ∙ c.in-Ok-None.ensures.is) (c.end_of.ensures.works c.in-None.is)) c.give_up.ensures.is

pub returns-in-Err-clause-asks : goal.returns-in-Err-clause-asks
returns-in-Err-clause-asks g c = λ past came.
    call_short g.K.Automaton.codec g.K.Automaton.serves g.K.Automaton.may c.args.job.now past c.args.stage c.give_up-in-Err.result c.requires.serves came c.in-Err.ensures.lacks c.give_up-in-Err.ensures.is
