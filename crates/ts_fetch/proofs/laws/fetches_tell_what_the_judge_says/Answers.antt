use Rattle.ts_fetch.proofs.Heard.{takes_judged, breaks_judged}
use Rattle.ts_fetch.proofs.Inside.{takes_once, takes_inside}
use Rattle.ts_fetch.proofs.laws.fetches_tell_what_the_judge_says.Goals as goal

pub returns-clause-takes : goal.returns-clause-takes
returns-clause-takes g c = takes_judged g.J.Judge.judge g.P.Pieces.codec c.requires

pub returns-clause-breaks : goal.returns-clause-breaks
returns-clause-breaks g c = breaks_judged g.J.Judge.judge g.P.Pieces.codec c.requires

pub returns-clause-once : goal.returns-clause-once
returns-clause-once g c = takes_once g.J.Judge.judge g.P.Pieces.codec c.requires

pub returns-clause-inside : goal.returns-clause-inside
returns-clause-inside g c = takes_inside g.J.Judge.judge g.P.Pieces.codec c.requires
