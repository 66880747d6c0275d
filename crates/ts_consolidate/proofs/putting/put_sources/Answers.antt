-- What is put is what the piece that was made is put as.
use Rattle.std.proofs.Common.{ap, ◌∙◌, arith}
use Rattle.std.proofs.lemmas.Result.{IfOk-weaker}
use Rattle.ts_commit.specs.Selections.{names_merged}
use Rattle.ts_consolidate.proofs.Sources.{puts_named}
use Rattle.ts_consolidate.proofs.putting.put_sources.Goals as goal

pub returns-in-Ok-merge_sources-clause-is : goal.returns-in-Ok-merge_sources-clause-is
returns-in-Ok-merge_sources-clause-is g c =
    let made = c.in-Ok-merge_sources.ensures in
    IfOk-weaker c.put_piece.result _ _ (λ state is.
    is
    ∙ puts_named g.P.Pieces.codec _ c.args.survey.now.frame c.args.schema.now _ _ _ _ _ _ c.get.ensures made.is (c.in_ok-names.ensures.set ∙ ap (names_merged c.args.survey.now.vacs) c.in_ok-frags.ensures) (omega (arith, c.in-Ok.ensures)) made.named) c.put_piece.ensures.is
