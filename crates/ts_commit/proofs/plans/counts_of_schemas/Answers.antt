-- No more fragments are of a schema than there are so far.
use Rattle.std.proofs.Common.{arith}
use Rattle.ts_commit.proofs.PlanSteps.{few_passed}
use Rattle.ts_commit.proofs.plans.counts_of_schemas.Goals as goal

pub overflow_add-count : goal.overflow_add-count
overflow_add-count c = omega (arith, c.count_of-count.ensures, c.loop-head.invariant c.head-item.result.schema, few_passed c.args.eligible.now c.head-item.result.schema c.args.heads.now c.loop-head.head-index (omega arith))
