use Rattle.std.proofs.Common.{◌∷◌, [], ◌++◌, ap, sym, ◌∙◌}
use Rattle.ts_model.proofs.Checked.{numbers_more}
use Rattle.ts_model.proofs.checking.all_places.Goals as goal

pub loop-place-preserved : goal.loop-place-preserved
loop-place-preserved c = c.in_ok-push.ensures.ok ∙ ap (λ ps. ps ++ c.loop-place.place ∷ []) c.loop-place.invariant ∙ sym (numbers_more c.loop-place.place)
