-- One place more has no version.
use Rattle.std.proofs.Common.{◌<◌, sym, ap, ◌∙◌, [], ◌∷◌, ◌++◌, length, None, arith}
use Rattle.ts_domain.specs.Boxes.{coords_of_box}
use Rattle.ts_reader.proofs.BoxSlots.{none_more}
use Rattle.ts_reader.proofs.slots.empty_slots.Goals as goal

pub loop-place-preserved : goal.loop-place-preserved
loop-place-preserved c =
    let cs = coords_of_box c.args.sub.now in
    let within : c.loop-place._place < length cs = omega arith in
    c.in_ok-push.ensures.ok ∙ ap (λ slots. slots ++ None ∷ []) c.loop-place.invariant ∙ sym (none_more cs c.loop-place._place within)
