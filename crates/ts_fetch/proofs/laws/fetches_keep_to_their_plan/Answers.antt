use Rattle.ts_fetch.proofs.PlanLaws.{plan_looks, plan_pays, plan_own}
use Rattle.ts_fetch.proofs.laws.fetches_keep_to_their_plan.Goals as goal

pub returns-clause-looks : goal.returns-clause-looks
returns-clause-looks g c = plan_looks g.J.Judge.judge

pub returns-clause-pays : goal.returns-clause-pays
returns-clause-pays g c = plan_pays g.J.Judge.judge

pub returns-clause-own : goal.returns-clause-own
returns-clause-own g c = plan_own g.J.Judge.judge
