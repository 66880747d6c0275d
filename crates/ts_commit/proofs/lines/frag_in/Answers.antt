use Rattle.std.proofs.Common.{◌∙◌, subst, IfSome}
use Rattle.ts_base.specs.Spelling.{FitsFrag}
use Rattle.ts_commit.proofs.Merged.{frag_is}
use Rattle.ts_commit.proofs.lines.frag_in.Goals as goal

pub returns : goal.returns
returns c = c.merged_in.ensures.is ∙ frag_is c.args.text.now _ c.commit_in-name.ensures.spells c.commit_in-name.ensures.every (subst (λ r. IfSome r FitsFrag) c.merged_in.ensures.is c.merged_in.ensures.fits)
