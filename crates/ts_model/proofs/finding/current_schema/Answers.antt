-- One more deed is looked at.
use Rattle.std.proofs.Common.{take, [], ◌∷◌, ◌++◌, sym, ◌∙◌, ap, Option}
use Rattle.std.proofs.lemmas.List.{take_more}
use Rattle.ts_base.specs.Keys.{greater}
use Rattle.ts_schema.specs.declared.schemas.Schema.{Schema}
use Rattle.ts_model.specs.Deeds.{current_schema}
use Rattle.ts_model.proofs.Scans.{current_schema-push}
use Rattle.ts_model.proofs.finding.current_schema.Goals as goal

pub loop-deed-preserved : goal.loop-deed-preserved
loop-deed-preserved c =
    let d = c.deed-item.result in
    let so_far = take c.loop-deed.deed-index c.args.deeds.now in
    c.current_with-last.ensures
    ∙ ap (λ (o : Option Schema). greater (λ s. s.key) o (current_schema (d ∷ []) c.args.b)) c.loop-deed.invariant
    ∙ sym (current_schema-push so_far d c.args.b)
    ∙ ap (λ e. current_schema (so_far ++ e ∷ []) c.args.b) c.deed-item.is
    ∙ sym (ap (λ ds. current_schema ds c.args.b) (take_more c.args.deeds.now c.loop-deed.deed-index d c.loop-deed-test.true))
