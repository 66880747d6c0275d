-- A call that was made and entered leads to parts that keep what a world keeps.
use Rattle.std.proofs.Common.{◌≡◌, ℕ, inr, List, [], ◌∷◌, ◌++◌, Some, length, set, refl, sym, ◌∙◌, ap, subst}
use Rattle.std.specs.Prelude.{slice_get}
use Rattle.std.proofs.lemmas.Bool.{cond-false}
use Rattle.std.proofs.lemmas.List.{map-set, length-set, with_items_is}
use Rattle.std.proofs.lemmas.Option.{same_Some, slice_get_within}
use Rattle.std.specs.Prelude.{Vec}
use Rattle.std.specs.Vec.{with_items}
use Rattle.ts_base.specs.Held.{Held}
use Rattle.ts_store.specs.declared.call.Reply.{Reply}
use Rattle.ts_store.specs.declared.fate.Fate.{Fate}
use Rattle.ts_store.specs.Calls.{is_no_memory, after, IsSpelledCall}
use Rattle.ts_store.specs.Memory.{held_in}
use Rattle.ts_model.specs.declared.commands.Job.{Job}
use Rattle.ts_model.specs.Codecs.{Codec, CodecLaws, Spelled, Tracking}
use Rattle.ts_model.specs.Told.{Told, trace_of, after_told, changes, IsReplied}
use Rattle.ts_world.specs.declared.parts.Parts.{Parts}
use Rattle.ts_world.specs.declared.slots.Running.{Running}
use Rattle.ts_world.specs.declared.slots.Slot.{Slot}
use Rattle.ts_world.specs.declared.slots.Slot.TheVariants as slot
use Rattle.ts_world.specs.Views.{Standing}
use Rattle.ts_world.specs.Slots.{standing_of, standings, view_of, IsSlot, IsKept, ArePartsOk, IsCalled, IsDueAt, IsNextSlot}
use Rattle.ts_world.specs.Clauses.{Called}
use Rattle.ts_world.proofs.Views.{seen_at}
use Rattle.ts_world.proofs.Laws.{job_at, running_at, running_asks, called_kept}

module _ {P F : Type 0} (codec : Codec F) (spelled : Spelled) (tracks : Tracking F) (number : ℕ) (fate : Fate) (before later : Parts P F) (r : Reply) (is : ArePartsOk codec spelled tracks before) (called : IsCalled number fate before later r) where
  abbrev told_now : Told
  told_now = record { job = Some number; call = called.running.asked; fate = fate; reply = r; changed = changes (held_in before.store) called.running.asked fate }

  abbrev held_before : Held
  held_before = held_in before.store

  abbrev opened : Held
  opened = held_in before.opening.value

  pub of_job : (job : Job) × (slice_get before.jobs number ≡ Some job)
  of_job = job_at codec spelled tracks opened before.past before.jobs before.told.items held_before before.journal before.slots.items is number (slot.Runs called.running) called.runs

  held_now : held_in later.store ≡ after_told held_before told_now
  held_now = called.made.answer.held ∙ sym (cond-false (is_no_memory r) held_before (after held_before called.running.asked fate) called.made.answer.memory)

  replied_now : IsReplied held_before told_now
  replied_now = inr (called.made.answer.reply, refl)

  -- the parts with the actor's next slot
  pub parts_kept : CodecLaws codec spelled tracks → (s : Slot P F) → IsSlot codec of_job.0 (trace_of number before.told.items ++ record { call = called.running.asked; reply = r } ∷ []) s
      → IsKept codec spelled tracks (held_in later.opening.value) later.past later.jobs later.told.items (held_in later.store) later.journal (set later.slots.items number s)
  parts_kept laws s slot_is =
      rw (called.made.opening, called.made.past, called.made.jobs, called.made.told, held_now, called.made.entered, called.made.slots)
      (called_kept codec spelled tracks opened before.past before.jobs before.told.items held_before before.journal before.slots.items is number called.running of_job.0 called.runs of_job.1 told_now refl refl called.made.answer.memory replied_now called.made.short laws called.spares s slot_is)

  -- what is seen of them
  pub call_seen : (may : Standing → Type 0) (s : Slot P F) → may (standing_of s)
      → Called codec number fate may (view_of before) (record { opening = held_in later.opening.value; past = later.past; jobs = later.jobs; told = later.told.items; held = held_in later.store; journal = later.journal; actors = standings (set later.slots.items number s) })
  call_seen may s holds = record {
    job = of_job.0;
    is_job = of_job.1;
    ran = seen_at before.slots.items number (slot.Runs called.running) called.runs;
    call = called.running.asked;
    asked = running_asks codec spelled tracks opened before.past before.jobs before.told.items held_before before.journal before.slots.items is number called.running of_job.0 called.runs of_job.1;
    spares = called.spares;
    reply = r;
    memory = called.made.answer.memory;
    changed = changes held_before called.running.asked fate;
    standing = standing_of s;
    stands = holds;
    replied = replied_now;
    is = rw (called.made.opening, called.made.past, called.made.jobs, called.made.told, held_now, called.made.entered, called.made.slots, map-set standing_of before.slots.items number s) refl;
  }

  -- the actor can take the reply
  pub due_now : IsDueAt codec later.slots.items number r
  due_now = record {
    slot_is = slot.Runs called.running;
    within = slice_get_within later.slots.items number (slot.Runs called.running) (ap (λ (l : List (Slot P F)). slice_get l number) called.made.slots ∙ called.runs);
    there = ap (λ (l : List (Slot P F)). slice_get l number) called.made.slots ∙ called.runs;
    due = record {
      running = called.running;
      runs = refl;
      trace = trace_of number before.told.items;
      follows = (running_at codec spelled tracks opened before.past before.jobs before.told.items held_before before.journal before.slots.items is number called.running of_job.0 called.runs of_job.1).follows;
      fits = called.made.answer.fits;
      spelled = called.made.answer.spelled;
    };
  }

  -- the actor that takes the reply is the one that made the call, and its next slot is one of its job
  pub next_is_slot : (run : Running P F) (next : Slot P F) → slice_get later.slots.items number ≡ Some (slot.Runs run) → IsNextSlot codec run r next
      → IsSlot codec of_job.0 (trace_of number before.told.items ++ record { call = called.running.asked; reply = r } ∷ []) next
  next_is_slot run next at next_is =
      let same : run ≡ called.running = one_running (same_Some (slot.Runs run) (slot.Runs called.running) (sym at ∙ ap (λ (l : List (Slot P F)). slice_get l number) called.made.slots ∙ called.runs)) in
      let is_next = subst (λ (q : Running P F). IsNextSlot codec q r next) same next_is in
      let runs = running_at codec spelled tracks opened before.past before.jobs before.told.items held_before before.journal before.slots.items is number called.running of_job.0 called.runs of_job.1 in
      subst (λ (job : Job). IsSlot codec job (trace_of number before.told.items ++ record { call = called.running.asked; reply = r } ∷ []) next) runs.task (is_next.is_slot (trace_of number before.told.items) runs.follows)
    where
      one_running : slot.Runs run ≡ slot.Runs called.running → run ≡ called.running
      one_running same = cc

-- an item of a vector that is seen as a slice was changed
pub written_back : {P F Z : Type 0} (v : Vec (Slot P F) Z) (number : ℕ) (s : Slot P F) (now later : List (Slot P F)) → now ≡ v.items → later ≡ set now number s → (with_items v later).items ≡ set v.items number s
written_back {P} {F} v number s now later seen is =
    let changed : later ≡ set v.items number s = is ∙ ap (λ (l : List (Slot P F)). set l number s) seen in
    with_items_is v later (ap length changed ∙ length-set v.items number s ∙ sym v.ok.0) ∙ changed

-- the call that a running actor waits for has a spelling
pub spelled_at : {P F : Type 0} (codec : Codec F) (spelled : Spelled) (tracks : Tracking F) (p : Parts P F) (number : ℕ) (r : Running P F) → ArePartsOk codec spelled tracks p → slice_get p.slots.items number ≡ Some (slot.Runs r) → IsSpelledCall r.asked
spelled_at codec spelled tracks p number r is at =
    let of = job_at codec spelled tracks (held_in p.opening.value) p.past p.jobs p.told.items (held_in p.store) p.journal p.slots.items is number (slot.Runs r) at in
    (running_at codec spelled tracks (held_in p.opening.value) p.past p.jobs p.told.items (held_in p.store) p.journal p.slots.items is number r of.0 at of.1).spelled
