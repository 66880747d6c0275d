-- The call is that of the slot with the number, if that runs.
use Rattle.std.proofs.Common.{Some, refl, sym, ◌∙◌, ap, arith}
use Rattle.std.proofs.lemmas.Option.{same_Some, slice_get_within}
use Rattle.ts_world.proofs.Views.{index_at}
use Rattle.ts_world.proofs.slots.asked_by.Goals as goal

pub returns-then-slots-place : goal.returns-then-slots-place
returns-then-slots-place g c = (refl, λ r at. let within = slice_get_within c.args.slots.now c.args.number _ at in absurd (omega (arith, within, c.if-slots-place.true)))

pub returns-in_ok-copy-in-Runs : goal.returns-in_ok-copy-in-Runs
returns-in_ok-copy-in-Runs g c = (
  c.in-Runs.running,
  index_at c.args.slots.now c.args.number c.index-slots-place.result (omega (arith, c.if-slots-place.false)) c.index-slots-place.is ∙ ap Some c.in-Runs.is,
  c.in_ok-copy-in-Runs.ensures,
)

pub returns-in_default : goal.returns-in_default
returns-in_default g c = (refl, λ r at. c.in_default.not-Runs r (same_Some _ _ (sym (index_at c.args.slots.now c.args.number c.index-slots-place.result (omega (arith, c.if-slots-place.false)) c.index-slots-place.is) ∙ at)))
