use Rattle.ts_fetch.proofs.PlanLaws.{starts_well, asks_held, goes_well}
use Rattle.ts_fetch.proofs.laws.fetches_find_what_is_held.Goals as goal

pub returns-clause-starts : goal.returns-clause-starts
returns-clause-starts g c = starts_well g.J.Judge.judge

pub returns-clause-asks : goal.returns-clause-asks
returns-clause-asks g c = asks_held g.J.Judge.judge

pub returns-clause-goes : goal.returns-clause-goes
returns-clause-goes g c = goes_well g.J.Judge.judge
