use Rattle.ts_order.proofs.OrderLemmas.{slice_cmp_more, slice_cmp_apart}
use Rattle.ts_order.proofs.compare.cmp_by_rank.Goals as goal

pub returns-in_default : goal.returns-in_default
returns-in_default c =
    slice_cmp_apart c.args.order c.args.a.now c.args.b.now c.loop-rank.rank c.loop-rank-test.true (rw c.requires c.loop-rank-test.true) c.requires _ c.cmp_at.result
    (rw (← c.dim_at.ensures.value) c.cmp_at.ensures) c.in_default.not-Equal c.loop-rank.invariant

pub loop-rank-preserved : goal.loop-rank-preserved
loop-rank-preserved c =
    slice_cmp_more c.args.order c.args.a.now c.args.b.now c.loop-rank.rank c.loop-rank-test.true (rw c.requires c.loop-rank-test.true) c.requires _ c.cmp_at.result
    (rw (← c.dim_at.ensures.value) c.cmp_at.ensures) c.in-Equal.is c.loop-rank.invariant
