-- The call is that of the running actor, or it does not run, or its call would take a lease from another one.
use Rattle.std.proofs.Common.{◌≡◌, ℕ, Some, Ok, Err, sym, ◌∙◌, ap, subst}
use Rattle.std.specs.Prelude.{Result, IfOk, slice_get}
use Rattle.ts_base.specs.declared.names.Name.{Name}
use Rattle.ts_store.specs.declared.call.Call.{Call}
use Rattle.ts_store.specs.declared.call.Reply.{Reply}
use Rattle.ts_store.specs.declared.fate.Fate.{Fate}
use Rattle.ts_store.specs.Calls.{IsSpelledCall}
use Rattle.ts_store.specs.Memory.{held_in}
use Rattle.ts_model.specs.Codecs.{Codec, Spelled, Tracking}
use Rattle.ts_model.specs.Driven.{MayAsk}
use Rattle.ts_model.specs.Stages.{stage_of}
use Rattle.ts_model.specs.Told.{trace_of}
use Rattle.ts_world.specs.declared.parts.Parts.{Parts}
use Rattle.ts_world.specs.declared.events.WorldFault.{WorldFault}
use Rattle.ts_world.specs.declared.events.WorldFault.TheVariants.{IdTaken, NoActor, LeaseLive, OutOfMemory}
use Rattle.ts_world.specs.declared.slots.Running.{Running}
use Rattle.ts_world.specs.declared.slots.Slot.TheVariants as slot
use Rattle.ts_world.specs.Breaks.{TakesLive}
use Rattle.ts_world.specs.Slots.{standings, view_of, ArePartsOk, AsksFor, IsCalled, IsMade, IsOwnFault}
use Rattle.ts_world.specs.Clauses.{IsCallFault}
use Rattle.ts_world.proofs.Views.{seen_at, up_at}
use Rattle.ts_world.proofs.Laws.{job_at, running_asks}
use Rattle.ts_world.proofs.Calls.{spelled_at}
use Rattle.ts_world.proofs.parts.call.Goals as goal

-- a call that no actor made has a cause
no_call : {P F : Type 0} (codec : Codec F) (p : Parts P F) (number : ℕ) (fault : WorldFault) → AsksFor p.slots.items number (Err fault) → IsCallFault {X = Reply} codec (view_of p) number (Err fault)
no_call codec p number (IdTaken id) is = absurd is
no_call codec p number (LeaseLive live) is = absurd is
no_call codec p number (NoActor none) is = (is.0, λ up. let runs = up_at p.slots.items number up in is.1 runs.0 runs.1)
no_call codec p number OutOfMemory is = tt

-- one that a running actor made, or was not to make, too
own_call : {P F : Type 0} (codec : Codec F) (spelled : Spelled) (tracks : Tracking F) (p : Parts P F) (number : ℕ) (r : Running P F) (c : Call) → ArePartsOk codec spelled tracks p
    → slice_get p.slots.items number ≡ Some (slot.Runs r) → c ≡ r.asked → (result : Result Reply WorldFault) → IsOwnFault p number c result → IsCallFault codec (view_of p) number result
own_call codec spelled tracks p number r c kept at same (Ok reply) is = seen_at p.slots.items number (slot.Runs r) at
own_call codec spelled tracks p number r c kept at same (Err (IdTaken id)) is = absurd is
own_call codec spelled tracks p number r c kept at same (Err (NoActor none)) is = absurd is
own_call codec spelled tracks p number r c kept at same (Err (LeaseLive live)) is =
    let (job, of) = job_at codec spelled tracks (held_in p.opening.value) p.past p.jobs p.told.items (held_in p.store) p.journal p.slots.items kept number (slot.Runs r) at in
    record {
      job = job;
      is_job = of;
      runs = seen_at p.slots.items number (slot.Runs r) at;
      call = c;
      asked = subst (MayAsk codec job (stage_of codec job (trace_of number p.told.items))) (sym same) (running_asks codec spelled tracks (held_in p.opening.value) p.past p.jobs p.told.items (held_in p.store) p.journal p.slots.items kept number r job at of);
      takes = is;
    }
own_call codec spelled tracks p number r c kept at same (Err OutOfMemory) is = tt

-- one that was made took no lease from another actor
made_call : {P F : Type 0} (before later : Parts P F) (number : ℕ) (fate : Fate) (r : Running P F) (c : Call) → slice_get before.slots.items number ≡ Some (slot.Runs r) → c ≡ r.asked → (result : Result Reply WorldFault)
    → IfOk result (λ reply. IsMade (Some number) c fate before later reply) → IsOwnFault before number c result → IfOk result (λ reply. IsCalled number fate before later reply)
made_call before later number fate r c at same (Ok reply) made spares =
    record {
      running = r;
      runs = at;
      spares = subst (λ (d : Call). (lease : Name) → TakesLive before.jobs (standings before.slots.items) (Some number) d lease → ⊥) same spares;
      made = subst (λ (d : Call). IsMade (Some number) d fate before later reply) same made;
    }
made_call before later number fate r c at same (Err fault) made spares = tt

pub make_own-requires-clause-spelled : goal.make_own-requires-clause-spelled
make_own-requires-clause-spelled g c =
    let runs = c.in-Ok.ensures in
    subst IsSpelledCall (sym runs.2) (spelled_at g.P.Pieces.codec g.P.Spelling.spelled g.P.Pieces.tracks c.args.parts.now c.args.number runs.0 c.requires.kept (ap (λ l. slice_get l c.args.number) (sym c.as_slice.ensures.value) ∙ runs.1))

pub returns-in-Ok-clause-called : goal.returns-in-Ok-clause-called
returns-in-Ok-clause-called g c =
    let runs = c.in-Ok.ensures in
    made_call c.args.parts.now c.make_own.new.parts c.args.number c.args.fate runs.0 c.in-Ok.call (ap (λ l. slice_get l c.args.number) (sym c.as_slice.ensures.value) ∙ runs.1) runs.2 c.make_own.result c.make_own.ensures.made c.make_own.ensures.fault

pub returns-in-Ok-clause-cause : goal.returns-in-Ok-clause-cause
returns-in-Ok-clause-cause g c =
    let runs = c.in-Ok.ensures in
    own_call g.P.Pieces.codec g.P.Spelling.spelled g.P.Pieces.tracks c.args.parts.now c.args.number runs.0 c.in-Ok.call c.requires.kept (ap (λ l. slice_get l c.args.number) (sym c.as_slice.ensures.value) ∙ runs.1) runs.2 c.make_own.result c.make_own.ensures.fault

pub returns-in-Err-clause-cause : goal.returns-in-Err-clause-cause
returns-in-Err-clause-cause g c =
    no_call g.P.Pieces.codec c.args.parts.now c.args.number c.in-Err.fault (let P : _ → Type 0 = λ l. AsksFor l c.args.number (Err c.in-Err.fault) in subst P c.as_slice.ensures.value c.in-Err.ensures)
