-- The hull of one head more.
use Rattle.std.proofs.Common.{◌≡◌, length, sym, ap, ◌∙◌, subst}
use Rattle.ts_base.specs.declared.heads.Head.{Head}
use Rattle.ts_domain.specs.declared.boxes.SubBox.{SubBox}
use Rattle.ts_domain.specs.Boxes.{hull_of}
use Rattle.ts_model.specs.Consolidated.{box_in}
use Rattle.ts_model.specs.Merging.{HasBox}
use Rattle.ts_consolidate.proofs.Folds.{fold_next}
use Rattle.ts_consolidate.proofs.Hulls.{length-corner}
use Rattle.ts_consolidate.proofs.heads.hull_from.Goals as goal

pub loop-head-preserved : goal.loop-head-preserved
loop-head-preserved c =
    let heads = c.args.heads.now in
    let i = c.loop-head.head-index in
    let head = c.head-item.result in
    let hull = c.loop-head.hull in
    let own = subst (HasBox c.args.frame.now) (sym c.head-item.is) (c.requires.boxes i head c.loop-head-test.true) in
    let dims : length c.box_in.result.low ≡ length hull.low = ap (λ (b : SubBox). length b.low) c.box_in.ensures ∙ own.1 ∙ sym c.loop-head.invariant.1 in (
      c.hull-hull.ensures.valid,
      ap (λ (b : SubBox). length b.low) c.hull-hull.ensures.corners ∙ length-corner hull.low c.box_in.result.low dims ∙ c.loop-head.invariant.1,
      fold_next (λ (b : SubBox) (h : Head). hull_of b (box_in h)) c.args.own heads i head _ _ c.loop-head-test.true c.loop-head.invariant.2
          (c.hull-hull.ensures.corners ∙ ap (hull_of hull) (c.box_in.ensures ∙ ap box_in c.head-item.is)),
    )
