-- The name of a fragment is ASCII text.
use Rattle.ts_commit.proofs.FragTexts.{text_is}
use Rattle.ts_commit.proofs.lines.commit_in.Goals as goal

pub returns-in-Err-clause-every : goal.returns-in-Err-clause-every
returns-in-Err-clause-every c f is = absurd (c.in-Err.ensures.cases.0 (text_is f c.args.text.now is))
