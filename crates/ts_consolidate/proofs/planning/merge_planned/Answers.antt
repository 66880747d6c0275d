-- The sources are among the fragments that were opened.
use Rattle.std.proofs.Common.{sym, subst}
use Rattle.std.proofs.lemmas.List.Elements.{All-filter}
use Rattle.ts_commit.specs.Selections.{is_among}
use Rattle.ts_consolidate.specs.Merges.{AreOpened, IsOpened}
use Rattle.ts_consolidate.proofs.planning.merge_planned.Goals as goal

pub merge_all-requires-clause-opened : goal.merge_all-requires-clause-opened
merge_all-requires-clause-opened g c κs within =
    let codec = g.P.Pieces.codec in
    let frame = c.args.surveyed.survey.frame in
    subst (AreOpened codec frame) (sym c.in_ok-sources-in-Take.ensures) (All-filter (λ o. is_among o.frag c.in-Take.frags) (IsOpened codec frame) c.args.surveyed.opened c.requires.opened)
