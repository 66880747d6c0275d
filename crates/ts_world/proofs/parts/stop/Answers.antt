-- The call was made, and the actor's slot is that of a dropped one.
use Rattle.std.proofs.Common.{◌≡◌, refl, sym, subst, ap, ◌∙◌}
use Rattle.std.specs.Prelude.{slice_get}
use Rattle.std.proofs.lemmas.Option.{slice_get_within}
use Rattle.ts_store.specs.Memory.{held_in}
use Rattle.ts_world.specs.declared.slots.Slot.TheVariants as slot
use Rattle.ts_world.specs.Views.{Dropped}
use Rattle.ts_world.specs.Slots.{IsKept, standings, view_of}
use Rattle.ts_world.specs.Clauses.{Called}
use Rattle.ts_world.proofs.Calls.{parts_kept, call_seen, written_back}
use Rattle.ts_world.proofs.parts.stop.Goals as goal

pub put_slot-requires : goal.put_slot-requires
put_slot-requires g c =
    let called = c.in_ok-reply.ensures.called in
    slice_get_within c.deref_mut.result.now c.args.number _ (ap (λ l. slice_get l c.args.number) (c.deref_mut.ensures.value ∙ called.made.slots) ∙ called.runs)

pub returns-clause-kept : goal.returns-clause-kept
returns-clause-kept g c =
    let later = c.call.new.parts in
    let P : _ → Type 0 = λ l. IsKept g.P.Pieces.codec g.P.Spelling.spelled g.P.Pieces.tracks (held_in later.opening.value) later.past later.jobs later.told.items (held_in later.store) later.journal l in
    subst P (sym (written_back later.slots c.args.number slot.Dropped c.deref_mut.result.now c.put_slot.new.slots c.deref_mut.ensures.value c.put_slot.ensures))
    (parts_kept g.P.Pieces.codec g.P.Spelling.spelled g.P.Pieces.tracks c.args.number c.args.fate c.args.parts.now later c.in_ok-reply.reply c.requires.kept c.in_ok-reply.ensures.called g.met.P.Pieces.laws slot.Dropped tt)

pub returns-clause-called : goal.returns-clause-called
returns-clause-called g c =
    let later = c.call.new.parts in
    let P : _ → Type 0 = λ l. Called g.P.Pieces.codec c.args.number c.args.fate (λ s. s ≡ Dropped) (view_of c.args.parts.now) (record { opening = held_in later.opening.value; past = later.past; jobs = later.jobs; told = later.told.items; held = held_in later.store; journal = later.journal; actors = standings l }) in
    subst P (sym (written_back later.slots c.args.number slot.Dropped c.deref_mut.result.now c.put_slot.new.slots c.deref_mut.ensures.value c.put_slot.ensures))
    (call_seen g.P.Pieces.codec g.P.Spelling.spelled g.P.Pieces.tracks c.args.number c.args.fate c.args.parts.now later c.in_ok-reply.reply c.requires.kept c.in_ok-reply.ensures.called (λ s. s ≡ Dropped) slot.Dropped refl)
