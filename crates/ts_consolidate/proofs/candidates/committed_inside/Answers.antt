-- What is inside is among the committed fragments.
use Rattle.std.proofs.Common.{sym, subst}
use Rattle.std.specs.Prelude.{All}
use Rattle.std.proofs.lemmas.Result.{IfOk-weaker}
use Rattle.std.proofs.lemmas.List.Elements.{All-filter, All-weaker}
use Rattle.ts_base.specs.declared.names.CommitKind.TheVariants.{Wrt}
use Rattle.ts_base.specs.Names.{IsSpelledFrag}
use Rattle.ts_commit.specs.Plans.{is_inside}
use Rattle.ts_actor.specs.Listings.{IsSpelledAs}
use Rattle.ts_consolidate.proofs.candidates.committed_inside.Goals as goal

pub returns-clause-spelled : goal.returns-clause-spelled
returns-clause-spelled c =
    let frags = c.in_ok-committed.committed in
    IfOk-weaker c.inside_of.result _ _ (λ inside is.
    subst (All IsSpelledFrag) (sym is) (All-filter (is_inside c.args.from c.args.to) IsSpelledFrag frags (All-weaker (IsSpelledAs Wrt) IsSpelledFrag (λ f spelled. spelled.0) frags c.in_ok-committed.ensures.spelled))) c.inside_of.ensures
