-- One more deed is looked at.
use Rattle.std.proofs.Common.{take, [], ◌∷◌, ◌++◌, sym, ◌∙◌, ap, Option}
use Rattle.std.proofs.lemmas.List.{take_more}
use Rattle.ts_base.specs.Keys.{greater}
use Rattle.ts_model.specs.declared.deeds.Written.{Written}
use Rattle.ts_model.specs.Deeds.{last_write}
use Rattle.ts_model.proofs.Scans.{last_write-push}
use Rattle.ts_model.proofs.finding.latest.Goals as goal

pub loop-deed-preserved : goal.loop-deed-preserved
loop-deed-preserved c =
    let d = c.deed-item.result in
    let so_far = take c.loop-deed.deed-index c.args.deeds.now in
    c.latest_with-last.ensures
    ∙ ap (λ (o : Option Written). greater (λ w. w.key) o (last_write (d ∷ []) c.args.from c.args.to c.args.at.now)) c.loop-deed.invariant
    ∙ sym (last_write-push so_far d c.args.from c.args.to c.args.at.now)
    ∙ ap (λ e. last_write (so_far ++ e ∷ []) c.args.from c.args.to c.args.at.now) c.deed-item.is
    ∙ sym (ap (λ ds. last_write ds c.args.from c.args.to c.args.at.now) (take_more c.args.deeds.now c.loop-deed.deed-index d c.loop-deed-test.true))
