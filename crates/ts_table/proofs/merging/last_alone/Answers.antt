-- One version is kept, or none.
use Rattle.std.proofs.Common.{◌∙◌, sym}
use Rattle.ts_table.specs.Orders.{cells_cmp}
use Rattle.ts_table.proofs.MergeTables.{kept_on, left_on}
use Rattle.ts_table.proofs.merging.last_alone.Goals as goal
use Rattle.ts_table.proofs.merging.last_alone.Goals.{then-is_last+in_ok-push, else-is_last}

pub loop-place-preserved : goal.loop-place-preserved
loop-place-preserved c =
    let cmp = cells_cmp c.args.domain.now c.args.order in
    let vs = c.args.table.now in
    elim c.if-is_last.branch [
      | then-is_last+in_ok-push w ↦ kept_on cmp vs c.loop-place.list c.if-is_last.list c.loop-place.place w.of.result w.of.ensures (sym c.is_last.ensures ∙ w.if-is_last.true) (w.list-is ∙ w.in_ok-push.ensures.ok) c.loop-place.invariant
      | else-is_last w ↦ left_on cmp vs c.loop-place.list c.if-is_last.list c.loop-place.place (rw c.len-place-end.ensures at c.loop-place-test.true) (sym c.is_last.ensures ∙ w.if-is_last.false) w.list-is c.loop-place.invariant
    ]
