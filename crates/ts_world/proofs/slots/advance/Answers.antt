-- The slot was taken out, and its actor's next one put there.
use Rattle.std.proofs.Common.{Some, ◌<◌, ◌∙◌, ap, subst, sym}
use Rattle.std.proofs.lemmas.List.{length-set}
use Rattle.ts_world.specs.Slots.{IsDue}
use Rattle.std.proofs.lemmas.Option.{get_or_from_slice_get}
use Rattle.ts_world.proofs.Lists.{set_again}
use Rattle.ts_world.proofs.slots.advance.Goals as goal

pub bounds-slots-place : goal.bounds-slots-place
bounds-slots-place g c = c.requires.within

pub next_slot-next-requires-after_bounds : goal.next_slot-next-requires-after_bounds
next_slot-next-requires-after_bounds g c κs within =
    subst (λ s. IsDue g.P.Pieces.codec s c.args.reply) (sym (c.replace-slot.ensures.value ∙ get_or_from_slice_get c.args.slots.now c.args.number c.requires.slot_is _ c.requires.there)) c.requires.due

pub put_slot-requires : goal.put_slot-requires
put_slot-requires g c = subst (λ n. c.args.number < n) (sym (length-set c.args.slots.now c.args.number c.replace-slot.new.dest)) c.requires.within

pub returns : goal.returns
returns g c = record {
  running = c.requires.due.running;
  runs = c.requires.there ∙ ap Some c.requires.due.runs;
  next = c.next_slot-next.result;
  next_is = c.next_slot-next.ensures.next c.requires.due.running (c.replace-slot.ensures.value ∙ get_or_from_slice_get c.args.slots.now c.args.number c.requires.slot_is _ c.requires.there ∙ c.requires.due.runs);
  is = c.put_slot.ensures ∙ set_again c.args.slots.now c.args.number _ _;
}
