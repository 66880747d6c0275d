use Rattle.std.proofs.Common.{arith, refl}
use Rattle.ts_domain.proofs.Between.{are_bounds-is_between}
use Rattle.ts_order.proofs.PlaceSteps.{place_step, place_all}
use Rattle.ts_order.proofs.places.place_in.Goals as goal

pub side_at-requires-clause-valid : goal.side_at-requires-clause-valid
side_at-requires-clause-valid c = are_bounds-is_between c.args.low.now c.args.high.now c.args.at.now c.requires.inside

pub overflow_mul-place : goal.overflow_mul-place
overflow_mul-place c =
    let step = place_step c.args.order c.args.low.now c.args.high.now c.args.at.now c.requires.inside c.requires.few c.loop-rank.rank c.loop-rank.place c.side_at.result _ c.loop-rank-test.true c.loop-rank.invariant
    (rw (← c.dim_at-dim.ensures.value) c.side_at.ensures.value) refl in
    record { fits = omega (arith, step.1) }

pub overflow_add-place : goal.overflow_add-place
overflow_add-place c =
    let step = place_step c.args.order c.args.low.now c.args.high.now c.args.at.now c.requires.inside c.requires.few c.loop-rank.rank c.loop-rank.place c.side_at.result c.steps_at.result c.loop-rank-test.true c.loop-rank.invariant
    (rw (← c.dim_at-dim.ensures.value) c.side_at.ensures.value) (rw (← c.dim_at-dim.ensures.value) c.steps_at.ensures) in
    record { fits = step.1 }

pub loop-rank-preserved : goal.loop-rank-preserved
loop-rank-preserved c =
    (place_step c.args.order c.args.low.now c.args.high.now c.args.at.now c.requires.inside c.requires.few c.loop-rank.rank c.loop-rank.place c.side_at.result c.steps_at.result c.loop-rank-test.true c.loop-rank.invariant
    (rw (← c.dim_at-dim.ensures.value) c.side_at.ensures.value) (rw (← c.dim_at-dim.ensures.value) c.steps_at.ensures)).0

pub returns : goal.returns
returns c = place_all c.args.order c.args.low.now c.args.high.now c.args.at.now c.requires.inside c.requires.few c.loop-rank.rank c.loop-rank.place c.loop-rank-test.false c.loop-rank.invariant
