-- The call was made, and the actor took the reply.
use Rattle.std.proofs.Common.{◌≢◌, sym, ◌∙◌, ap, subst}
use Rattle.std.specs.Prelude.{slice_get}
use Rattle.ts_store.specs.Memory.{held_in}
use Rattle.ts_world.specs.Views.{Dropped}
use Rattle.ts_world.specs.Slots.{IsKept, IsDueAt, standings, view_of}
use Rattle.ts_world.specs.Clauses.{Called}
use Rattle.ts_world.proofs.Calls.{parts_kept, call_seen, next_is_slot, due_now, written_back}
use Rattle.ts_world.proofs.parts.step.Goals as goal

pub advance-requires-after_bounds : goal.advance-requires-after_bounds
advance-requires-after_bounds g c = λ κs outlives.
    let P : _ → Type 0 = λ l. IsDueAt g.P.Pieces.codec l c.args.number c.in_ok-reply.reply in
    subst P (sym c.deref_mut.ensures.value) (due_now g.P.Pieces.codec g.P.Spelling.spelled g.P.Pieces.tracks c.args.number c.args.fate c.args.parts.now c.call.new.parts c.in_ok-reply.reply c.requires.kept c.in_ok-reply.ensures.called)

pub returns-clause-kept : goal.returns-clause-kept
returns-clause-kept g c =
    let later = c.call.new.parts in
    let P : _ → Type 0 = λ l. IsKept g.P.Pieces.codec g.P.Spelling.spelled g.P.Pieces.tracks (held_in later.opening.value) later.past later.jobs later.told.items (held_in later.store) later.journal l in
    subst P (sym (written_back later.slots c.args.number c.advance.ensures.next c.deref_mut.result.now c.advance.new.slots c.deref_mut.ensures.value c.advance.ensures.is))
    (parts_kept g.P.Pieces.codec g.P.Spelling.spelled g.P.Pieces.tracks c.args.number c.args.fate c.args.parts.now later c.in_ok-reply.reply c.requires.kept c.in_ok-reply.ensures.called g.met.P.Pieces.laws c.advance.ensures.next
    (next_is_slot g.P.Pieces.codec g.P.Spelling.spelled g.P.Pieces.tracks c.args.number c.args.fate c.args.parts.now later c.in_ok-reply.reply c.requires.kept c.in_ok-reply.ensures.called c.advance.ensures.running c.advance.ensures.next
    (ap (λ l. slice_get l c.args.number) (sym c.deref_mut.ensures.value) ∙ c.advance.ensures.runs) c.advance.ensures.next_is))

pub returns-clause-called : goal.returns-clause-called
returns-clause-called g c =
    let later = c.call.new.parts in
    let P : _ → Type 0 = λ l. Called g.P.Pieces.codec c.args.number c.args.fate (λ s. s ≢ Dropped) (view_of c.args.parts.now) (record { opening = held_in later.opening.value; past = later.past; jobs = later.jobs; told = later.told.items; held = held_in later.store; journal = later.journal; actors = standings l }) in
    subst P (sym (written_back later.slots c.args.number c.advance.ensures.next c.deref_mut.result.now c.advance.new.slots c.deref_mut.ensures.value c.advance.ensures.is))
    (call_seen g.P.Pieces.codec g.P.Spelling.spelled g.P.Pieces.tracks c.args.number c.args.fate c.args.parts.now later c.in_ok-reply.reply c.requires.kept c.in_ok-reply.ensures.called (λ s. s ≢ Dropped) c.advance.ensures.next c.advance.ensures.next_is.up)
