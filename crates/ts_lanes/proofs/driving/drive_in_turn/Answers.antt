-- The machine makes one more call through the pass, is done, or is cut off.
use Rattle.std.proofs.Common.{refl, ◌∙◌, subst}
use Rattle.ts_turnstile.specs.Passes.{pass_view, CalledInTurn}
use Rattle.ts_actor.proofs.DrivenSoFar.{at_start, expects, done, stopped, one_more}
use Rattle.ts_lanes.proofs.driving.drive_in_turn.Goals as goal

pub asks-init : goal.asks-init
asks-init g c = (c.requires.own, refl, at_start _ _ g.C.Crew.ends _ _ _ _ c.requires.new)

pub next-requires-clause-due : goal.next-requires-clause-due
next-requires-clause-due g c = expects _ _ g.C.Crew.ends _ _ _ _ _ _ _ _ c.asks.invariant.2

pub next-requires-clause-reply_spelled : goal.next-requires-clause-reply_spelled
next-requires-clause-reply_spelled g c = c.asks.invariant.2.spelled

pub returns-in-Done-clause-drove : goal.returns-in-Done-clause-drove
returns-in-Done-clause-drove g c =
    done _ _ _ _ _ _ _ _ _ _ _ c.asks.invariant.2 _ _ (c.in-Done.ensures.goes_on c.asks.invariant.2.trace c.asks.invariant.2.due c.asks.invariant.2.can_come)

pub returns-then-is_cut-clause-drove : goal.returns-then-is_cut-clause-drove
returns-then-is_cut-clause-drove g c =
    stopped _ _ g.C.Crew.ends _ _ _ _ _ _ _ _ c.asks.invariant.2 _ c.in-Ask.call c.is_cut.result (c.in-Ask.ensures.goes_on c.asks.invariant.2.trace c.asks.invariant.2.due c.asks.invariant.2.can_come) c.is_cut.ensures c.if-is_cut.true

pub asks-preserved : goal.asks-preserved
asks-preserved g c = (
  c.call_as-reply.ensures.own,
  c.call_as-reply.ensures.number ∙ c.asks.invariant.1,
  one_more _ _ g.C.Crew.ends _ _ _ _ _ _ _ _ c.asks.invariant.2 _ _ c.in-Ask.call _ _ c.is_cut.result
      (c.in-Ask.ensures.goes_on c.asks.invariant.2.trace c.asks.invariant.2.due c.asks.invariant.2.can_come) c.in-Ask.ensures.task
      c.is_cut.ensures c.if-is_cut.false c.call_as-reply.ensures.fits c.call_as-reply.ensures.spelled
      (subst (λ n. CalledInTurn (pass_view c.asks.pass) (pass_view c.call_as-reply.new.pass) n c.in-Ask.call c.call_as-reply.result) c.asks.invariant.1 c.call_as-reply.ensures.called, c.measure.ensures)
      c.saturating_add-made.ensures,
)
