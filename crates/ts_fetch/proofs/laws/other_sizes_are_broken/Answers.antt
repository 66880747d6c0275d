use Rattle.ts_fetch.proofs.PlanLaws.{breaks_lesser}
use Rattle.ts_fetch.proofs.laws.other_sizes_are_broken.Goals as goal

pub returns : goal.returns
returns g c = breaks_lesser g.J.Judge.judge
