-- The stage that a reply leads to is one of the job's, and nearer to its end.
use Rattle.std.proofs.Common.{sym, subst, ◌<◌, ap, ◌∙◌}
use Rattle.ts_model.specs.Stages.{after_leases}
use Rattle.ts_model.specs.declared.states.Stage.TheVariants.{ListsLeases}
use Rattle.ts_actor.specs.Machines.{IsStageOf, stage_left}
use Rattle.ts_actor.proofs.MachineLaws.{after_lease_is, after_leases_is, after_leases_left}
use Rattle.ts_actor.proofs.machine.stage_after.Goals as goal

pub returns-in-PutsLease-clause-stage : goal.returns-in-PutsLease-clause-stage
returns-in-PutsLease-clause-stage g c =
    subst (IsStageOf g.K.Automaton.may c.args.job.now) (sym c.after_lease.ensures)
    (after_lease_is g.K.Automaton.may g.K.Automaton.left c.args.job.now g.K.Automaton.ends c.in-PutsLease.lease c.args.reply (subst (IsStageOf g.K.Automaton.may c.args.job.now) c.in-PutsLease.is c.requires.stage))

pub returns-in-ListsLeases-clause-stage : goal.returns-in-ListsLeases-clause-stage
returns-in-ListsLeases-clause-stage g c =
    subst (IsStageOf g.K.Automaton.may c.args.job.now) (sym c.after_leases.ensures)
    (after_leases_is g.K.Automaton.may g.K.Automaton.left c.args.job.now g.K.Automaton.ends c.in-ListsLeases.lease c.begin.result c.args.reply (subst (IsStageOf g.K.Automaton.may c.args.job.now) c.in-ListsLeases.is c.requires.stage) c.begin.ensures.may)

pub returns-in-ListsLeases-clause-fewer : goal.returns-in-ListsLeases-clause-fewer
returns-in-ListsLeases-clause-fewer g c = λ asks_it.
    subst (λ stage. stage_left g.K.Automaton.left c.args.job.now c.after_leases.result < stage_left g.K.Automaton.left c.args.job.now stage) (sym c.in-ListsLeases.is)
    (subst (λ stage. stage_left g.K.Automaton.left c.args.job.now stage < stage_left g.K.Automaton.left c.args.job.now (ListsLeases c.in-ListsLeases.lease)) (sym (c.after_leases.ensures ∙ ap (λ s. after_leases c.in-ListsLeases.lease s c.args.reply) c.begin.ensures.is))
    (after_leases_left g.K.Automaton.may g.K.Automaton.left c.args.job.now g.K.Automaton.ends c.in-ListsLeases.lease c.args.reply))
