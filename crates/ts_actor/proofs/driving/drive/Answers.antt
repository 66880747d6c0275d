-- The machine makes one more call, is done, or is cut off.
use Rattle.ts_actor.proofs.DrivenSoFar.{at_start, expects, done, stopped, one_more}
use Rattle.ts_actor.proofs.driving.drive.Goals as goal

pub asks-init : goal.asks-init
asks-init g c = at_start _ _ g.A.Actor.ends _ _ _ _ c.requires

pub next-requires-clause-due : goal.next-requires-clause-due
next-requires-clause-due g c = expects _ _ g.A.Actor.ends _ _ _ _ _ _ _ _ c.asks.invariant

pub next-requires-clause-reply_spelled : goal.next-requires-clause-reply_spelled
next-requires-clause-reply_spelled g c = c.asks.invariant.spelled

pub returns-in-Done-clause-drove : goal.returns-in-Done-clause-drove
returns-in-Done-clause-drove g c =
    done _ _ _ _ _ _ _ _ _ _ _ c.asks.invariant _ _ (c.in-Done.ensures.goes_on c.asks.invariant.trace c.asks.invariant.due c.asks.invariant.can_come)

pub returns-then-is_cut-clause-drove : goal.returns-then-is_cut-clause-drove
returns-then-is_cut-clause-drove g c =
    stopped _ _ g.A.Actor.ends _ _ _ _ _ _ _ _ c.asks.invariant _ c.in-Ask.call c.is_cut.result (c.in-Ask.ensures.goes_on c.asks.invariant.trace c.asks.invariant.due c.asks.invariant.can_come) c.is_cut.ensures c.if-is_cut.true

pub asks-preserved-else-is_cut : goal.asks-preserved-else-is_cut
asks-preserved-else-is_cut g c =
    one_more _ _ g.A.Actor.ends _ _ _ _ _ _ _ _ c.asks.invariant _ _ c.in-Ask.call _ _ c.is_cut.result
    (c.in-Ask.ensures.goes_on c.asks.invariant.trace c.asks.invariant.due c.asks.invariant.can_come) c.in-Ask.ensures.task
    c.is_cut.ensures c.if-is_cut.false c.apply-reply.ensures.fits c.apply-reply.ensures.spelled
    (record { fits = c.apply-reply.ensures.fits; short = c.measure.ensures; spelled = c.apply-reply.ensures.spelled; answers = c.apply-reply.ensures.answers; cause = c.apply-reply.ensures.cause; noted = (c.apply-reply.ensures.notes, c.apply-reply.ensures.asked) })
    c.saturating_add-made.ensures

pub asks-preserved : goal.asks-preserved
asks-preserved g c =
    one_more _ _ g.A.Actor.ends _ _ _ _ _ _ _ _ c.asks.invariant _ _ c.in-Ask.call _ _ c.is_cut.result
    (c.in-Ask.ensures.goes_on c.asks.invariant.trace c.asks.invariant.due c.asks.invariant.can_come) c.in-Ask.ensures.task
    c.is_cut.ensures c.if-is_cut.false c.apply-reply.ensures.fits c.apply-reply.ensures.spelled
    (record { fits = c.apply-reply.ensures.fits; short = c.measure.ensures; spelled = c.apply-reply.ensures.spelled; answers = c.apply-reply.ensures.answers; cause = c.apply-reply.ensures.cause; noted = (c.apply-reply.ensures.notes, c.apply-reply.ensures.asked) })
    c.saturating_add-made.ensures
