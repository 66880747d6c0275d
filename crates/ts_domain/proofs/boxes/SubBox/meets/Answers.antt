use Rattle.std.proofs.Common.{◌≡◌, ◌∙◌, sym}
use Rattle.ts_domain.specs.Boxes.{do_boxes_meet}
use Rattle.ts_domain.proofs.BoxLemmas.{ShareCell-do_boxes_meet, do_boxes_meet-ShareCell}
use Rattle.ts_domain.proofs.boxes.SubBox.meets.Goals as goal

pub returns-clause-shared : goal.returns-clause-shared
returns-clause-shared c =
    let this = c.args.self.now in
    let that = c.args.other.now in
    let tested : c.do_meet.result ≡ do_boxes_meet this that = rw (← c.as_slice.ensures, ← c.as_slice-2.ensures, ← c.as_slice-3.ensures, ← c.as_slice-4.ensures) c.do_meet.ensures in (
      λ meet. ShareCell-do_boxes_meet this that c.requires.this c.requires.that c.requires.dims (sym tested ∙ meet),
      λ shared. tested ∙ do_boxes_meet-ShareCell this that shared,
    )
