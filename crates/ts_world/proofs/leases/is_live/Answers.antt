-- The next job is found, or the test goes on behind it.
use Rattle.std.proofs.Common.{sym, ◌∙◌, arith}
use Rattle.ts_world.proofs.LiveLeases.{found_here, found_later, found_nowhere}
use Rattle.ts_world.proofs.Views.{index_at}
use Rattle.ts_world.proofs.leases.is_live.Goals as goal

pub returns-then-is_live_at : goal.returns-then-is_live_at
returns-then-is_live_at g c =
    sym
    (sym c.loop-place.invariant
    ∙ found_here c.args.jobs.now c.args.slots.now c.args.actor c.args.lease c.loop-place.place c.index-jobs-place.result (index_at c.args.jobs.now c.loop-place.place c.index-jobs-place.result (omega (arith, c.loop-place-test.true)) c.index-jobs-place.is)
    (sym c.is_live_at.ensures ∙ c.if-is_live_at.true))

pub loop-place-preserved : goal.loop-place-preserved
loop-place-preserved g c =
    found_later c.args.jobs.now c.args.slots.now c.args.actor c.args.lease c.loop-place.place c.index-jobs-place.result (index_at c.args.jobs.now c.loop-place.place c.index-jobs-place.result (omega (arith, c.loop-place-test.true)) c.index-jobs-place.is)
    (sym c.is_live_at.ensures ∙ c.if-is_live_at.false)
    ∙ c.loop-place.invariant

pub returns : goal.returns
returns g c = sym (sym c.loop-place.invariant ∙ found_nowhere c.args.jobs.now c.args.slots.now c.args.actor c.args.lease c.loop-place.place (omega (arith, c.loop-place-test.false)))
