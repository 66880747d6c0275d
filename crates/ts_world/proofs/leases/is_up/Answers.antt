-- The slot at the place has an actor that runs, or there is none.
use Rattle.std.proofs.Common.{sym, arith}
use Rattle.ts_world.proofs.Views.{no_slot_up, slot_up, slot_down}
use Rattle.ts_world.proofs.leases.is_up.Goals as goal

pub returns-then-slots-place : goal.returns-then-slots-place
returns-then-slots-place g c = sym (no_slot_up c.args.slots.now c.args.place (omega (arith, c.if-slots-place.true)))

pub returns-in-Runs : goal.returns-in-Runs
returns-in-Runs g c = sym (slot_up c.args.slots.now c.args.place c.index-slots-place.result c.in-Runs.field-0 (omega (arith, c.if-slots-place.false)) c.index-slots-place.is c.in-Runs.is)

pub returns-in_default : goal.returns-in_default
returns-in_default g c = sym (slot_down c.args.slots.now c.args.place c.index-slots-place.result (omega (arith, c.if-slots-place.false)) c.index-slots-place.is c.in_default.not-Runs)
