-- Each event keeps what a world keeps.
use Rattle.std.proofs.Common.{◌≡◌, ℕ, ◌<◌, Bool, false, cond, inl, inr, List, [], ◌∷◌, ◌++◌, Option, Some, None, length, map, set, refl, sym, ◌∙◌, ap, subst, arith}
use Rattle.std.specs.Prelude.{Contains, slice_get, option_map}
use Rattle.std.specs.List.{cons_option}
use Rattle.std.proofs.lemmas.Bool.{cases_eq}
use Rattle.std.proofs.lemmas.Option.{same_Some, none-some, slice_get_within, slice_get-map}
use Rattle.std.proofs.lemmas.List.{length-set, length-map, length_push, map-append}
use Rattle.std.proofs.lemmas.List.Elements.{All-nil, All-weaker, filter_map-append}
use Rattle.ts_base.specs.declared.heads.Stop.TheVariants.{Never}
use Rattle.ts_base.specs.Held.{Held}
use Rattle.ts_base.specs.declared.names.Name.{Name}
use Rattle.ts_store.specs.declared.journal.Entry.{Entry}
use Rattle.ts_store.specs.Calls.{is_no_memory}
use Rattle.ts_store.specs.Journals.{entry}
use Rattle.ts_model.specs.declared.commands.Job.{Job}
use Rattle.ts_model.specs.Deeds.{History}
use Rattle.ts_model.specs.Jobs.{IsFit, key_of}
use Rattle.ts_model.specs.States.{Exchange}
use Rattle.ts_model.specs.Stages.{lease_of, stage_of}
use Rattle.ts_law.specs.Stands.{Stands}
use Rattle.ts_law.specs.Fresh.{IsNewId, id_in}
use Rattle.ts_law.specs.Lanes.{IsWithin, nobodys_lane}
use Rattle.ts_model.specs.Told.{Told, IsShortCall, trace_of, entry_of, entries_of, after_told, IsReplied}
use Rattle.ts_model.specs.Driven.{MayAsk}
use Rattle.ts_law.specs.Kept.{AreAmong, IsAllowed, Kept}
use Rattle.ts_law.specs.Leases.{IsNobodys, Spares}
use Rattle.ts_model.proofs.ListLemmas.{slice_get_left, slice_get_push}
use Rattle.ts_model.proofs.Traces.{trace_of-own, trace_of-other}
use Rattle.ts_model.specs.Codecs.{Codec, CodecLaws, Spelled, Tracking}
use Rattle.ts_law.proofs.Broken.{drop_kept}
use Rattle.ts_law.proofs.KeptLaws.{step_kept}
use Rattle.ts_law.proofs.LeaseSteps.{lease_is}
use Rattle.ts_law.proofs.Leasing.{ended_unrelied}
use Rattle.ts_law.proofs.Openings.{allowed_drop, allowed_more, allowed_push, new_at_first}
use Rattle.ts_law.proofs.Lanes.{none_made, no_lanes, one_more_call, one_more_job}
use Rattle.ts_law.proofs.Spawns.{spawn_kept, starts_kept}
use Rattle.ts_commands.proofs.Asked.{asks_it}
use Rattle.ts_world.specs.declared.slots.Running.{Running}
use Rattle.ts_world.specs.declared.slots.Slot.{Slot}
use Rattle.ts_world.specs.declared.slots.Slot.TheVariants as slot
use Rattle.ts_world.specs.Views.{Runs, Dropped, dropped, lane_of}
use Rattle.ts_world.specs.Breaks.{TakesLive, dropped_in}
use Rattle.ts_world.specs.Slots.{IsRunning, IsSlot, IsActor, IsKept, dropped_slot, standing_of, standings}
use Rattle.ts_law.proofs.Lists.{item_at}
use Rattle.ts_world.proofs.Began.{replied-push}
use Rattle.ts_world.proofs.Dropped.{dropped_from_seen, dropped_on, not_dropped}
use Rattle.ts_world.proofs.LiveLeases.{removed_is}
use Rattle.ts_world.proofs.Lists.{get_changed, get_unchanged}
use Rattle.ts_world.proofs.Views.{restart_seen, seen_at}

module _ {P F : Type 0} (codec : Codec F) (spelled : Spelled) (tracks : Tracking F) (opening : Held) (past : History) (jobs : List Job) (told : List Told) (held : Held) (journal : List Entry) (slots : List (Slot P F)) (is : IsKept codec spelled tracks opening past jobs told held journal slots) where
  -- the job of an actor
  pub job_at : (number : ℕ) (s : Slot P F) → slice_get slots number ≡ Some s → (job : Job) × (slice_get jobs number ≡ Some job)
  job_at number s at = item_at slots jobs number is.one_each (slice_get_within slots number s at)

  -- the numbers of the actors that were dropped
  abbrev gone : List ℕ
  gone = dropped_in (standings slots)

  -- a lease that is no running actor's is nobody's
  pub nobodys : (lease : Name) → ((number : ℕ) (job : Job) → slice_get jobs number ≡ Some job → slice_get (standings slots) number ≡ Some Runs → lease_of job ≡ Some lease → ⊥) → IsNobodys codec jobs gone told lease
  nobodys lease none number job holds =
      let (s, at) = item_at jobs slots number (sym is.one_each) (slice_get_within jobs number job holds.is_job) in
      by_slot s at (is.actors number job s holds.is_job at).slot_is
    where
      by_slot : (s : Slot P F) → slice_get slots number ≡ Some s → IsSlot codec job (trace_of number told) s → ⊥
      by_slot (slot.Runs r) at slot_is = none number job holds.is_job (seen_at slots number (slot.Runs r) at) holds.has
      by_slot (slot.Ended end) at slot_is = ended_unrelied codec job lease (trace_of number told) end holds.has slot_is holds.stage
      by_slot slot.Dropped at slot_is = holds.alive (dropped_from_seen (standings slots) number (seen_at slots number slot.Dropped at))

  -- the actor that runs
  pub running_at : (number : ℕ) (r : Running P F) (job : Job) → slice_get slots number ≡ Some (slot.Runs r) → slice_get jobs number ≡ Some job → IsRunning codec job (trace_of number told) r
  running_at number r job at of = (is.actors number job (slot.Runs r) of at).slot_is

  pub running_asks : (number : ℕ) (r : Running P F) (job : Job) → slice_get slots number ≡ Some (slot.Runs r) → slice_get jobs number ≡ Some job → MayAsk codec job (stage_of codec job (trace_of number told)) r.asked
  running_asks number r job at of =
      let runs = running_at number r job at of in
      subst (λ (j : Job). MayAsk codec j (stage_of codec j (trace_of number told)) r.asked) runs.task (asks_it codec r.actor (trace_of number told) r.asked runs.follows)

  -- ---- one call

  module _ (number : ℕ) (r : Running P F) (job : Job) (at : slice_get slots number ≡ Some (slot.Runs r)) (of : slice_get jobs number ≡ Some job)
      (e : Told) (own : e.job ≡ Some number) (calls : e.call ≡ r.asked) (memory : is_no_memory e.reply ≡ false) (replied : IsReplied held e) (short : IsShortCall e.call) where
    abbrev last : Exchange
    last = record { call = e.call; reply = e.reply }

    asked_now : MayAsk codec job (stage_of codec job (trace_of number told)) e.call
    asked_now = subst (MayAsk codec job (stage_of codec job (trace_of number told))) (sym calls) (running_asks number r job at of)

    -- it was not dropped
    alive_now : Contains gone number → ⊥
    alive_now = not_dropped (standings slots) number Runs (seen_at slots number (slot.Runs r) at) (λ same. cc)

    module _ (spares : (lease : Name) → TakesLive jobs (standings slots) (Some number) e.call lease → ⊥) where
      -- its call removes no lease that the job of another actor holds
      spares_now : Spares codec jobs gone told job e.call
      spares_now lease removes other = nobodys lease (λ k j j_at runs has.
          let (mode, named) = lease_is j lease has in
          spares lease (record {
            removes = removed_is e.call lease (key_of j) mode removes named;
            live = record {
              number = k;
              job = j;
              is_job = j_at;
              runs = runs;
              other = λ same. other (ap lease_of (same_Some job j (sym of ∙ ap (slice_get jobs) (same_Some number k same) ∙ j_at)) ∙ has);
              carries = ap id_in named;
            };
          }))

      allowed_now : IsAllowed codec jobs gone told e
      allowed_now = record { number = number; job = job; own = own; is_job = of; alive = alive_now; asked = asked_now; spares = spares_now; short = short }

      kept_now : CodecLaws codec spelled tracks → Kept codec spelled tracks opening past jobs gone (told ++ e ∷ []) (after_told held e)
      kept_now laws = step_kept codec spelled tracks laws opening past jobs gone told held e is.kept (inl allowed_now) replied

    entered : entries_of lane_of (told ++ e ∷ []) ≡ entries_of lane_of told ++ entry number e.call e.fate ∷ []
    entered =
        filter_map-append (entry_of lane_of) told (e ∷ [])
        ∙ ap (λ o. entries_of lane_of told ++ cons_option o []) (one_entry (is_no_memory e.reply) e.job memory own)
      where
        one_entry : (b : Bool) (j : Option ℕ) → b ≡ false → j ≡ Some number → cond b None (Some (record { lane = lane_of j; call = e.call; fate = e.fate })) ≡ Some (entry number e.call e.fate)
        one_entry b j found by = rw (found, by) refl

    own_actor : (s : Slot P F) → IsSlot codec job (trace_of number told ++ last ∷ []) s → IsActor codec (told ++ e ∷ []) number job s
    own_actor s slot_is =
        let before = is.actors number job (slot.Runs r) of at in
        record { free = before.free; slot_is = subst (λ (t : List Exchange). IsSlot codec job t s) (sym (trace_of-own number told e own)) slot_is }

    other_actor : (k : ℕ) (j : Job) (s : Slot P F) → (number ≡ k → ⊥) → IsActor codec told k j s → IsActor codec (told ++ e ∷ []) k j s
    other_actor k j s apart before =
        let trace = trace_of-other k told e (λ mine. apart (same_Some number k (sym own ∙ mine))) in
        record { free = before.free; slot_is = subst (λ (t : List Exchange). IsSlot codec j t s) (sym trace) before.slot_is }

    -- whatever becomes of it, those that were dropped stay so
    gone_on : (s : Slot P F) → AreAmong gone (dropped_in (standings (set slots number s)))
    gone_on s = dropped_on (standings slots) (standings (set slots number s)) (λ k dropped_k.
        let apart : number ≡ k → ⊥ = λ same. alive_now (subst (Contains gone) (sym same) (dropped_from_seen (standings slots) k dropped_k)) in
        slice_get-map standing_of (set slots number s) k ∙ ap (option_map standing_of) (get_unchanged slots number k s apart) ∙ sym (slice_get-map standing_of slots k) ∙ dropped_k)

    -- a running actor that makes its call leaves a world that keeps the same
    pub called_kept : CodecLaws codec spelled tracks → ((lease : Name) → TakesLive jobs (standings slots) (Some number) e.call lease → ⊥) → (s : Slot P F) → IsSlot codec job (trace_of number told ++ last ∷ []) s
        → IsKept codec spelled tracks opening past jobs (told ++ e ∷ []) (after_told held e) (journal ++ entry number e.call e.fate ∷ []) (set slots number s)
    called_kept laws spares s slot_is = record {
      begins = is.begins;
      may = allowed_drop codec jobs [] gone (dropped_in (standings (set slots number s))) [] (told ++ e ∷ []) (gone_on s) (allowed_push codec jobs [] gone [] told e is.may (inl (allowed_now spares)));
      replied = replied-push opening told e is.replied (subst (λ m. IsReplied m e) is.kept.is_held replied);
      kept = drop_kept codec spelled tracks opening past jobs gone (dropped_in (standings (set slots number s))) (told ++ e ∷ []) (after_told held e) (gone_on s) (kept_now spares laws);
      entries = ap (λ es. es ++ entry number e.call e.fate ∷ []) is.entries ∙ sym entered;
      in_lanes = one_more_call codec jobs told e number job is.in_lanes own of asked_now;
      one_each = length-set slots number s ∙ is.one_each;
      few = is.few;
      actors = λ k j t j_at t_at. elim (cases_eq number k) [
        | inl same ↦
            let same_job : job ≡ j = same_Some job j (sym of ∙ ap (slice_get jobs) same ∙ j_at) in
            let same_slot : s ≡ t = same_Some s t (sym (get_changed slots number s (slice_get_within slots number (slot.Runs r) at)) ∙ ap (slice_get (set slots number s)) same ∙ t_at) in
            subst (λ n. IsActor codec (told ++ e ∷ []) n j t) same (subst (λ (i : Job). IsActor codec (told ++ e ∷ []) number i t) same_job (subst (λ (i : Slot P F). IsActor codec (told ++ e ∷ []) number job i) same_slot (own_actor s slot_is)))
        | inr apart ↦ other_actor k j t apart (is.actors k j t j_at (sym (get_unchanged slots number k s apart) ∙ t_at))
      ];
    }

  -- ---- one actor more

  -- the job that comes has made no call
  no_calls : (number : ℕ) → length jobs ≡ number → trace_of number told ≡ []
  no_calls number end = none_made number told (All-weaker (IsWithin jobs) (λ e. e.job ≡ Some number → ⊥) (λ e below by_it. let less = below number by_it in omega (arith, less, end)) told is.in_lanes.within)

  new_actor : (job j : Job) (s t : Slot P F) (k : ℕ) → job.stop ≡ Never → IsSlot codec job [] s → length jobs ≡ k → job ≡ j → s ≡ t → IsActor codec told k j t
  new_actor job j s t k free slot_is end same_job same_slot =
      subst (λ (i : Job). IsActor codec told k i t) same_job (subst (λ (i : Slot P F). IsActor codec told k job i) same_slot
      (record { free = free; slot_is = subst (λ (x : List Exchange). IsSlot codec job x s) (sym (no_calls k end)) slot_is }))

  -- those that were dropped stay so
  gone_more : (s : Slot P F) → AreAmong gone (dropped_in (standings (slots ++ s ∷ [])))
  gone_more s = dropped_on (standings slots) (standings (slots ++ s ∷ [])) (λ k dropped_k.
      ap (λ l. slice_get l k) (map-append standing_of slots (s ∷ [])) ∙ slice_get_left (standings slots) (standing_of s ∷ []) k Dropped dropped_k)

  pub spawned_kept : (job : Job) (s : Slot P F) → length jobs < nobodys_lane → IsNewId opening past held jobs job.id → IsFit job → job.stop ≡ Never → IsSlot codec job [] s
      → IsKept codec spelled tracks opening past (jobs ++ job ∷ []) told held journal (slots ++ s ∷ [])
  spawned_kept job s fewer new fit free slot_is = record {
    begins = spawn_kept codec spelled tracks opening past jobs [] [] opening job is.begins fit (new_at_first opening past held jobs job.id new);
    may = allowed_drop codec (jobs ++ job ∷ []) [] gone (dropped_in (standings (slots ++ s ∷ []))) [] told (gone_more s) (allowed_more codec jobs job [] gone [] told (All-nil (IsWithin jobs)) is.in_lanes.within is.may);
    replied = is.replied;
    kept = drop_kept codec spelled tracks opening past (jobs ++ job ∷ []) gone (dropped_in (standings (slots ++ s ∷ []))) told held (gone_more s) (spawn_kept codec spelled tracks opening past jobs gone told held job is.kept fit new);
    entries = is.entries;
    in_lanes = one_more_job codec jobs told job is.in_lanes;
    one_each = let a = length_push slots s in let b = length_push jobs job in omega (arith, a, b, is.one_each);
    few = let b = length_push jobs job in omega (arith, b, fewer);
    actors = λ k j t j_at t_at. elim (slice_get_push slots s k t t_at) [
      | inl t_before ↦ elim (slice_get_push jobs job k j j_at) [
        | inl j_before ↦ is.actors k j t j_before t_before
        | inr j_last ↦ let less = slice_get_within slots k t t_before in absurd (omega (arith, less, j_last.0, is.one_each))
      ]
      | inr t_last ↦ elim (slice_get_push jobs job k j j_at) [
        | inl j_before ↦ let less = slice_get_within jobs k j j_before in absurd (omega (arith, less, t_last.0, is.one_each))
        | inr j_last ↦ new_actor job j s t k free slot_is (sym j_last.0) j_last.1 t_last.1
      ]
    ];
  }

  -- ---- all running actors dropped

  dropped_is : (job : Job) (trace : List Exchange) (s : Slot P F) → IsSlot codec job trace s → IsSlot codec job trace (dropped_slot s)
  dropped_is job trace (slot.Runs r) slot_is = tt
  dropped_is job trace (slot.Ended end) slot_is = slot_is
  dropped_is job trace slot.Dropped slot_is = slot_is

  after_restart : (k : ℕ) (j : Job) (t : Slot P F) (o : Option (Slot P F)) → slice_get slots k ≡ o → slice_get jobs k ≡ Some j → option_map dropped_slot o ≡ Some t → IsActor codec told k j t
  after_restart k j t None at j_at now = absurd (none-some t now)
  after_restart k j t (Some s) at j_at now =
      let before = is.actors k j s j_at at in
      subst (λ (i : Slot P F). IsActor codec told k j i) (same_Some (dropped_slot s) t now) (record { free = before.free; slot_is = dropped_is j (trace_of k told) s before.slot_is })

  -- those that were dropped stay so
  gone_all : AreAmong gone (dropped_in (standings (map dropped_slot slots)))
  gone_all = dropped_on (standings slots) (standings (map dropped_slot slots)) (λ k dropped_k.
      ap (λ l. slice_get l k) (restart_seen slots) ∙ slice_get-map dropped (standings slots) k ∙ ap (option_map dropped) dropped_k)

  pub restarted_kept : IsKept codec spelled tracks opening past jobs told held journal (map dropped_slot slots)
  restarted_kept = record {
    begins = is.begins;
    may = allowed_drop codec jobs [] gone (dropped_in (standings (map dropped_slot slots))) [] told gone_all is.may;
    replied = is.replied;
    kept = drop_kept codec spelled tracks opening past jobs gone (dropped_in (standings (map dropped_slot slots))) told held gone_all is.kept;
    entries = is.entries;
    in_lanes = is.in_lanes;
    one_each = length-map slots dropped_slot ∙ is.one_each;
    few = is.few;
    actors = λ k j t j_at t_at. after_restart k j t (slice_get slots k) refl j_at (sym (slice_get-map dropped_slot slots k) ∙ t_at);
  }

-- a world to which nothing has happened keeps what a world keeps
pub first_kept : {P F : Type 0} (codec : Codec F) (spelled : Spelled) (tracks : Tracking F) (past : History) (m : Held) → Stands spelled m past → IsKept {P = P} codec spelled tracks m past [] [] m [] []
first_kept codec spelled tracks past m stands = record {
  begins = starts_kept codec spelled tracks past m stands;
  may = λ n at. at;
  replied = tt;
  kept = starts_kept codec spelled tracks past m stands;
  entries = refl;
  in_lanes = no_lanes codec;
  one_each = refl;
  few = omega arith;
  actors = λ number job s at there. absurd (none-some job at);
}
