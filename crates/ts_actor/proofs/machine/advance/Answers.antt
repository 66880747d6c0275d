-- The reply leads on from the stage that the machine is in; where there is no memory it gives up its lease.
use Rattle.std.proofs.Common.{sym, subst, ◌∙◌, inl, inr}
use Rattle.ts_actor.specs.declared.machine.Phase.{Phase}
use Rattle.ts_actor.specs.Machines.{Follows}
use Rattle.ts_actor.specs.Traces.{filled}
use Rattle.ts_actor.proofs.MachineLaws.{comes_on, gave_up, reply_short}
use Rattle.ts_actor.proofs.machine.advance.Goals as goal

pub returns-in-Ok-clause-goes : goal.returns-in-Ok-clause-goes
returns-in-Ok-clause-goes g c = λ t follows can.
    let at = subst (λ (p : Phase _). Follows g.K.Automaton.codec g.K.Automaton.serves g.K.Automaton.may c.args.job.now p t) c.in-Going.is follows in
    c.ask_from-in-Ok.ensures.asks (filled t c.args.reply) (comes_on g.K.Automaton.codec g.K.Automaton.may c.args.job.now c.in-Going.stage t c.args.reply at.1 at.2 ∙ sym c.in-Ok.ensures.is)

pub returns-in-Err-clause-goes : goal.returns-in-Err-clause-goes
returns-in-Err-clause-goes g c = λ t follows can.
    let at = subst (λ (p : Phase _). Follows g.K.Automaton.codec g.K.Automaton.serves g.K.Automaton.may c.args.job.now p t) c.in-Going.is follows in
    reply_short g.K.Automaton.codec g.K.Automaton.serves g.K.Automaton.may c.args.job.now c.in-Going.stage t c.args.reply c.give_up.result at.0 at.1 at.2 c.in-Err.ensures.lacks c.give_up.ensures.is

pub returns-in-GivesUp-clause-goes : goal.returns-in-GivesUp-clause-goes
returns-in-GivesUp-clause-goes g c = λ t follows can. elim c.in-GivesUp.is [
  | inl gives ↦
      gave_up g.K.Automaton.codec g.K.Automaton.serves g.K.Automaton.may c.args.job.now gives.0 t c.args.reply
      (subst (λ (p : Phase _). Follows g.K.Automaton.codec g.K.Automaton.serves g.K.Automaton.may c.args.job.now p t) gives.1 follows).1
  | inr ended ↦ absurd (subst (λ (p : Phase _). Follows g.K.Automaton.codec g.K.Automaton.serves g.K.Automaton.may c.args.job.now p t) ended follows)
]
