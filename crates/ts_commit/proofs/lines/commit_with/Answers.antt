-- The text between a folder and an ending is the name of the `.vac` of the fragment that it spells.
use Rattle.std.proofs.Common.{◌≡◌, ◌++◌, codes, ap, ◌∙◌, arith, rules}
use Rattle.std.proofs.lemmas.Grind.{common_steps}
use Rattle.ts_base.specs.declared.names.CommitKind.TheVariants as kind
use Rattle.ts_base.specs.declared.names.Name.TheVariants as name
use Rattle.ts_base.specs.Spelling.{name_text}
use Rattle.ts_commit.proofs.FragTexts.{commit_text}
use Rattle.ts_commit.proofs.lines.commit_with.Goals as goal

pub returns-clause-every : goal.returns-clause-every
returns-clause-every c f is =
    let whole : c.as_str.result.now ≡ (codes "__commits/" ++ c.args.text.now) ++ codes ".vac" = first_of (search rules, cc, grind (arith, common_steps)) in
    let same : c.as_str.result.now ≡ name_text (name.Commit f kind.Vac) = whole ∙ ap (λ t. (codes "__commits/" ++ t) ++ codes ".vac") is.same ∙ commit_text f in
    c.parse.ensures.every (name.Commit f kind.Vac) is.fits (is.spelled, tt) same
