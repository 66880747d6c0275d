-- The version's cell has its place in the box, and no other.
use Rattle.std.proofs.Common.{sym, ap, ◌∙◌}
use Rattle.std.specs.Prelude.{slice_get, Some}
use Rattle.ts_reader.proofs.BoxSlots.{in_row_order}
use Rattle.ts_reader.proofs.slots.put.Goals as goal

pub put_at-requires-clause-there : goal.put_at-requires-clause-there
put_at-requires-clause-there c = ap (λ cs. slice_get cs c.position_of-place.result) (sym (in_row_order c.args.sub.now)) ∙ c.position_of-place.ensures.place ∙ ap Some c.coords.ensures

pub put_at-requires-clause-only : goal.put_at-requires-clause-only
put_at-requires-clause-only c = λ other there. c.position_of-place.ensures.only other (ap (λ cs. slice_get cs other) (in_row_order c.args.sub.now) ∙ there ∙ ap Some (sym c.coords.ensures))
