-- The end is that of the slot with the number, if there is one.
use Rattle.std.proofs.Common.{sym, ◌∙◌, arith}
use Rattle.std.proofs.lemmas.Option.{slice_get_past}
use Rattle.ts_world.proofs.Views.{index_at, end_at, no_end_at}
use Rattle.ts_world.proofs.slots.end_of.Goals as goal

pub returns-then-slots-place : goal.returns-then-slots-place
returns-then-slots-place g c = sym (no_end_at c.args.slots.now c.args.number (slice_get_past c.args.slots.now c.args.number (omega (arith, c.if-slots-place.true))))

pub returns : goal.returns
returns g c =
    c.end_in.ensures
    ∙ sym (end_at c.args.slots.now c.args.number c.index-slots-place.result (index_at c.args.slots.now c.args.number c.index-slots-place.result (omega (arith, c.if-slots-place.false)) c.index-slots-place.is))
