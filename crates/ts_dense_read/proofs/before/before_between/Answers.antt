-- One dimension more, and no count is past that of all cells.
use Rattle.std.proofs.Common.{arith, refl, get_or, pos}
use Rattle.ts_domain.specs.Bounds.{count_between}
use Rattle.ts_domain.proofs.Between.{are_bounds-is_between, length-is_between}
use Rattle.ts_dense_read.proofs.BeforeLaws.{part_fits, counting_step}
use Rattle.ts_dense_read.proofs.before.before_between.Goals as goal

pub overflow_mul-before : goal.overflow_mul-before
overflow_mul-before c =
    let a = c.args in
    let l = c.loop-done in
    let dim = c.rank_dim-dim.result in
    let step = counting_step a.order a.low.now a.high.now a.from.now a.to.now c.requires.few c.requires.valid c.requires.from c.requires.to l.before l.rest l.done dim c.steps_at-steps.result
    (count_between (get_or a.from.now dim (pos 0)) (get_or a.to.now dim (pos 0))) (count_between (get_or a.low.now dim (pos 0)) (get_or a.high.now dim (pos 0)))
    l.invariant c.loop-done-test.true c.rank_dim-dim.ensures.value c.steps_at-steps.ensures refl refl in
    record { fits = omega (arith, step.1) }

pub side_at-requires-clause-few : goal.side_at-requires-clause-few
side_at-requires-clause-few c =
    let a = c.args in
    omega (arith, part_fits a.low.now a.high.now a.from.now a.to.now c.requires.from c.requires.to c.requires.valid, c.requires.few)

pub side_at-requires-clause-within : goal.side_at-requires-clause-within
side_at-requires-clause-within c = omega (arith, c.rank_dim-dim.ensures.within, (length-is_between c.args.low.now c.args.high.now c.args.from.now c.requires.from).0)

pub overflow_mul-before-in-loop-done : goal.overflow_mul-before-in-loop-done
overflow_mul-before-in-loop-done c =
    let a = c.args in
    let l = c.loop-done in
    let dim = c.rank_dim-dim.result in
    let step = counting_step a.order a.low.now a.high.now a.from.now a.to.now c.requires.few c.requires.valid c.requires.from c.requires.to l.before l.rest l.done dim c.steps_at-steps.result c.side_at.result
    (count_between (get_or a.low.now dim (pos 0)) (get_or a.high.now dim (pos 0))) l.invariant c.loop-done-test.true c.rank_dim-dim.ensures.value c.steps_at-steps.ensures c.side_at.ensures refl in
    record { fits = omega (arith, step.1) }

pub overflow_add-before : goal.overflow_add-before
overflow_add-before c =
    let a = c.args in
    let l = c.loop-done in
    let dim = c.rank_dim-dim.result in
    let step = counting_step a.order a.low.now a.high.now a.from.now a.to.now c.requires.few c.requires.valid c.requires.from c.requires.to l.before l.rest l.done dim c.steps_at-steps.result c.side_at.result
    (count_between (get_or a.low.now dim (pos 0)) (get_or a.high.now dim (pos 0))) l.invariant c.loop-done-test.true c.rank_dim-dim.ensures.value c.steps_at-steps.ensures c.side_at.ensures refl in
    record { fits = step.1 }

pub side_at-rest-requires-clause-valid : goal.side_at-rest-requires-clause-valid
side_at-rest-requires-clause-valid c = are_bounds-is_between c.args.low.now c.args.high.now c.args.from.now c.requires.from

pub overflow_mul-rest : goal.overflow_mul-rest
overflow_mul-rest c =
    let a = c.args in
    let l = c.loop-done in
    let step = counting_step a.order a.low.now a.high.now a.from.now a.to.now c.requires.few c.requires.valid c.requires.from c.requires.to l.before l.rest l.done c.rank_dim-dim.result c.steps_at-steps.result c.side_at.result c.side_at-rest.result
    l.invariant c.loop-done-test.true c.rank_dim-dim.ensures.value c.steps_at-steps.ensures c.side_at.ensures c.side_at-rest.ensures in
    record { fits = step.2 }

pub loop-done-preserved : goal.loop-done-preserved
loop-done-preserved c =
    let a = c.args in
    let l = c.loop-done in
    (counting_step a.order a.low.now a.high.now a.from.now a.to.now c.requires.few c.requires.valid c.requires.from c.requires.to l.before l.rest l.done c.rank_dim-dim.result c.steps_at-steps.result c.side_at.result c.side_at-rest.result
    l.invariant c.loop-done-test.true c.rank_dim-dim.ensures.value c.steps_at-steps.ensures c.side_at.ensures c.side_at-rest.ensures).0
