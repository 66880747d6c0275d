-- A lease that no running actor has is broken, and the world keeps what a world keeps.
use Rattle.std.proofs.Common.{◌≡◌, ℕ, inr, List, [], ◌∷◌, ◌++◌, Some, None, refl, sym, ◌∙◌, ap, subst}
use Rattle.std.specs.Prelude.{slice_get}
use Rattle.std.specs.List.{cons_option}
use Rattle.std.specs.FinMap as finite
use Rattle.std.proofs.lemmas.Option.{none-some}
use Rattle.std.proofs.lemmas.List.Elements.{All-push, filter_map-append}
use Rattle.ts_base.specs.declared.keys.Key.{Key}
use Rattle.ts_base.specs.declared.names.LeaseMode.{LeaseMode}
use Rattle.ts_base.specs.declared.names.Name.{Name}
use Rattle.ts_base.specs.declared.names.Name.TheVariants as name
use Rattle.ts_base.specs.Names.{IsSpelled}
use Rattle.ts_base.specs.Held.{Held}
use Rattle.ts_store.specs.declared.call.Call.TheVariants as call
use Rattle.ts_store.specs.declared.call.Reply.TheVariants as reply
use Rattle.ts_store.specs.declared.fate.Fate.TheVariants.{Done}
use Rattle.ts_store.specs.declared.journal.Entry.{Entry}
use Rattle.ts_store.specs.Journals.{entry}
use Rattle.ts_model.specs.declared.commands.Job.{Job}
use Rattle.ts_model.specs.Codecs.{Codec, CodecLaws, Spelled, Tracking}
use Rattle.ts_model.specs.Deeds.{History}
use Rattle.ts_model.specs.States.{Exchange}
use Rattle.ts_model.specs.Driven.{AskedFrom}
use Rattle.ts_model.specs.Stages.{first_stage, lease_of}
use Rattle.ts_model.specs.Told.{Told, IsReplied, changes, entries_of, entry_of, trace_of}
use Rattle.ts_model.proofs.Traces.{trace_of-other}
use Rattle.ts_law.specs.Fresh.{id_in}
use Rattle.ts_law.specs.Lanes.{AreInLanes, IsWithin, nobodys_lane, own_lane}
use Rattle.ts_law.specs.Leases.{IsBroken, IsNobodys}
use Rattle.ts_law.proofs.KeptLaws.{step_kept}
use Rattle.ts_law.proofs.Lanes.{apart_in_turn}
use Rattle.ts_law.proofs.LeaseSteps.{lease_is}
use Rattle.ts_law.proofs.Openings.{allowed_push}
use Rattle.ts_world.specs.declared.slots.Slot.{Slot}
use Rattle.ts_world.specs.Views.{Runs, lane_of}
use Rattle.ts_world.specs.Breaks.{IsLease, IsLive, dropped_in}
use Rattle.ts_world.specs.Slots.{IsSlot, IsActor, IsKept, standings}
use Rattle.ts_world.proofs.Began.{replied-push}
use Rattle.ts_world.proofs.Laws.{nobodys}

-- nobody makes one more call
nobodys_call : {F : Type 0} (codec : Codec F) (jobs : List Job) (told : List Told) (e : Told) → AreInLanes codec own_lane jobs told → e.job ≡ None → AreInLanes codec own_lane jobs (told ++ e ∷ [])
nobodys_call codec jobs told e lanes nobodys = record {
  within = All-push (IsWithin jobs) told e lanes.within (λ n by_it. absurd (none-some n (sym nobodys ∙ by_it)));
  asked = λ k j j_at.
      let Q : List Exchange → Type 0 = λ t. AskedFrom codec j (first_stage j) t in
      subst Q (sym (trace_of-other k told e (λ by_it. none-some k (sym nobodys ∙ by_it)))) (lanes.asked k j j_at);
  in_turn = apart_in_turn (told ++ e ∷ []);
}

-- the name of a lease has a key and a mode
named_lease : (lease : Name) → IsLease lease → (key : Key) × (mode : LeaseMode) × (lease ≡ name.Lease key mode)
named_lease (name.Lease key mode) is = (key, mode, refl)
named_lease (name.Schema key) is = absurd is
named_lease (name.Commit frag kind) is = absurd is
named_lease (name.Part frag part) is = absurd is
named_lease name.Domain is = absurd is

-- and a spelling
pub lease_spelled : (lease : Name) → IsLease lease → IsSpelled lease
lease_spelled (name.Lease key mode) is = tt
lease_spelled (name.Schema key) is = absurd is
lease_spelled (name.Commit frag kind) is = absurd is
lease_spelled (name.Part frag part) is = absurd is
lease_spelled name.Domain is = absurd is

module _ {P F : Type 0} (codec : Codec F) (spelled : Spelled) (tracks : Tracking F) (laws : CodecLaws codec spelled tracks) (opening : Held) (past : History) (jobs : List Job) (told : List Told) (held : Held) (journal : List Entry) (slots : List (Slot P F)) (is : IsKept codec spelled tracks opening past jobs told held journal slots)
    (lease : Name) (is_lease : IsLease lease) (free : IsLive jobs (standings slots) None lease → ⊥) where
  -- what is told of it
  abbrev removal : Told
  removal = record { job = None; call = call.Remove lease; fate = Done; reply = reply.Removed; changed = changes held (call.Remove lease) Done }

  -- the numbers of the actors that were dropped
  abbrev gone : List ℕ
  gone = dropped_in (standings slots)

  replied_now : IsReplied held removal
  replied_now = inr (refl, refl)

  -- no running actor's job has the lease
  no_holder : (number : ℕ) (job : Job) → slice_get jobs number ≡ Some job → slice_get (standings slots) number ≡ Some Runs → lease_of job ≡ Some lease → ⊥
  no_holder number job at runs has =
      let (mode, named) = lease_is job lease has in
      free (record { number = number; job = job; is_job = at; runs = runs; other = λ same. none-some number same; carries = ap id_in named })

  is_broken : IsBroken codec jobs gone told removal
  is_broken =
      let (key, mode, named) = named_lease lease is_lease in
      record {
        nobodys = refl;
        key = key;
        mode = mode;
        removes = ap call.Remove named;
        free = subst (IsNobodys codec jobs gone told) named (nobodys codec spelled tracks opening past jobs told held journal slots is lease no_holder);
      }

  actor_on : (k : ℕ) (j : Job) (s : Slot P F) → IsActor codec told k j s → IsActor codec (told ++ removal ∷ []) k j s
  actor_on k j s before =
      let trace = trace_of-other k told removal (λ mine. none-some k mine) in
      record { free = before.free; slot_is = subst (λ (t : List Exchange). IsSlot codec j t s) (sym trace) before.slot_is }

  -- the world after it keeps the same
  pub broken_kept : IsKept codec spelled tracks opening past jobs (told ++ removal ∷ []) (finite.remove held lease) (journal ++ entry nobodys_lane (call.Remove lease) Done ∷ []) slots
  broken_kept = record {
    begins = is.begins;
    may = allowed_push codec jobs [] gone [] told removal is.may (inr is_broken);
    replied = replied-push opening told removal is.replied (subst (λ m. IsReplied m removal) is.kept.is_held replied_now);
    kept = step_kept codec spelled tracks laws opening past jobs gone told held removal is.kept (inr is_broken) replied_now;
    entries = ap (λ es. es ++ entry nobodys_lane (call.Remove lease) Done ∷ []) is.entries ∙ sym (filter_map-append (entry_of lane_of) told (removal ∷ []));
    in_lanes = nobodys_call codec jobs told removal is.in_lanes refl;
    one_each = is.one_each;
    few = is.few;
    actors = λ k j s j_at s_at. actor_on k j s (is.actors k j s j_at s_at);
  }
