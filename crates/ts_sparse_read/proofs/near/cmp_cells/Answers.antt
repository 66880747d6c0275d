-- One dimension more, or the first that tells the cells apart.
use Rattle.ts_sparse_read.proofs.NearLaws.{compared_more, compared_apart, compared_all}
use Rattle.ts_sparse_read.proofs.near.cmp_cells.Goals as goal

pub loop-rank-preserved : goal.loop-rank-preserved
loop-rank-preserved c =
    compared_more c.args.order c.as_slice-columns.result.now c.args.first c.args.second c.loop-rank.rank c.dim_at.result c.index-columns-dim_at.result _ c.cmp_at.result c.loop-rank-test.true c.dim_at.ensures.below c.dim_at.ensures.value
    c.index-columns-dim_at.is c.cmp_at.ensures c.in-Equal.is c.loop-rank.invariant

pub returns-in_default : goal.returns-in_default
returns-in_default c =
    compared_apart c.args.order c.as_slice-columns.result.now c.args.first c.args.second c.loop-rank.rank c.dim_at.result c.index-columns-dim_at.result _ c.cmp_at.result c.loop-rank-test.true c.dim_at.ensures.below c.dim_at.ensures.value
    c.index-columns-dim_at.is c.cmp_at.ensures c.in_default.not-Equal c.loop-rank.invariant

pub returns : goal.returns
returns c = compared_all c.args.order c.as_slice-columns.result.now c.args.first c.args.second c.loop-rank.rank _ c.loop-rank-test.false c.loop-rank.invariant
