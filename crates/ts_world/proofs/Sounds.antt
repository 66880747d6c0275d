-- What a world keeps says what holds of it at any time.
use Rattle.std.proofs.Common.{◌≡◌, ℕ, ◌+◌, inl, inr, List, [], ◌∷◌, ◌++◌, Some, refl, sym, ◌∙◌, ap, subst}
use Rattle.std.specs.Prelude.{Contains, slice_get}
use Rattle.std.proofs.lemmas.List.{length-map}
use Rattle.ts_base.specs.declared.heads.Stop.{Stop}
use Rattle.ts_base.specs.declared.heads.Stop.TheVariants.{Never}
use Rattle.ts_base.specs.Held.{Held}
use Rattle.ts_store.specs.declared.journal.Entry.{Entry}
use Rattle.ts_model.specs.declared.commands.Job.{Job}
use Rattle.ts_model.specs.declared.answers.Outcome.{Outcome}
use Rattle.ts_model.specs.declared.answers.Driven.TheVariants.{Done}
use Rattle.ts_model.specs.Deeds.{History}
use Rattle.ts_model.specs.States.{Exchange}
use Rattle.ts_model.specs.Codecs.{Codec, CodecLaws, Spelled, Tracking}
use Rattle.ts_model.specs.Stops.{Uncut}
use Rattle.ts_model.specs.Told.{Told, held_told, history_told, trace_of}
use Rattle.ts_model.specs.declared.answers.Outcome.TheVariants as outcome
use Rattle.ts_store.specs.Journals.{held_after}
use Rattle.ts_law.specs.Histories.{history_of}
use Rattle.ts_law.specs.Shared.{StaysShared}
use Rattle.ts_law.specs.Stands.{Stands}
use Rattle.ts_law.specs.Ends.{IsTrueEnd}
use Rattle.ts_model.specs.Driven.{EndsBy, IsDriven}
use Rattle.ts_law.proofs.TrueOver.{true_over}
use Rattle.ts_law.proofs.Journals.{journal_held}
use Rattle.ts_law.proofs.Idle.{refused_idle}
use Rattle.ts_law.proofs.OwnFragments.{stays_own}
use Rattle.ts_law.proofs.OwnLanes.{journal_tells}
use Rattle.ts_law.proofs.KeptLaws.{end_is_true, every_prefix}
use Rattle.ts_law.proofs.Refused.{refused_for}
use Rattle.ts_law.proofs.Short.{short_undone}
use Rattle.ts_law.proofs.Segments.{segment_of}
use Rattle.ts_law.proofs.SweepsAlone.{sweeps_alone}
use Rattle.ts_law.proofs.LeftAlone.{looks_alone, puts_alone, unlocks_alone}
use Rattle.ts_law.proofs.Sharing.{stays_shared}
use Rattle.ts_world.specs.declared.slots.Slot.{Slot}
use Rattle.ts_world.specs.declared.slots.Slot.TheVariants as slot
use Rattle.ts_world.specs.Views.{WorldView, Ended, lane_of}
use Rattle.ts_world.specs.Breaks.{dropped_in}
use Rattle.ts_world.specs.Slots.{standing_of, standings, IsKept}
use Rattle.ts_world.specs.Clauses.{EndsTruly, IsSound}
use Rattle.ts_world.proofs.Dropped.{not_dropped}
use Rattle.ts_world.proofs.Views.{up_at, ended_at}
use Rattle.ts_world.proofs.Laws.{running_asks}

-- a job without a stop is never cut off
never_cut : (stop : Stop) (made : ℕ) (xs : List Exchange) → stop ≡ Never → Uncut stop made xs
never_cut stop made xs free = subst (λ s. Uncut s made xs) (sym free) (uncut made xs)
  where
    uncut : (made : ℕ) (xs : List Exchange) → Uncut Never made xs
    uncut made [] = tt
    uncut made (x ∷ xs) = (refl, uncut (made + 1) xs)

module _ {P F : Type 0} (codec : Codec F) (spelled : Spelled) (tracks : Tracking F) (laws : CodecLaws codec spelled tracks) (opening : Held) (past : History) (jobs : List Job) (told : List Told) (held : Held) (journal : List Entry) (slots : List (Slot P F)) (is : IsKept codec spelled tracks opening past jobs told held journal slots) where
  abbrev seen : WorldView
  seen = record { opening = opening; past = past; jobs = jobs; told = told; held = held; journal = journal; actors = standings slots }

  -- the numbers of the actors that were dropped
  abbrev gone : List ℕ
  gone = dropped_in (standings slots)

  -- an actor that ended is none of them
  alive : (number : ℕ) (end : Outcome) → slice_get (standings slots) number ≡ Some (Ended end) → Contains gone number → ⊥
  alive number end stands = not_dropped (standings slots) number (Ended end) stands (λ same. cc)

  true_end : (number : ℕ) (job : Job) (end : Outcome) → slice_get jobs number ≡ Some job → slice_get (standings slots) number ≡ Some (Ended end) → EndsBy codec job (trace_of number told) end → IsTrueEnd spelled opening jobs past told number job end
  true_end number job end at stands (inl over) = end_is_true codec spelled tracks opening past jobs gone told held is.kept number job end at (alive number end stands) over
  true_end number job end at stands (inr none) = subst (IsTrueEnd spelled opening jobs past told number job) (sym none.0) tt

  -- each first part of the calls leaves objects that stand for its history
  stood : (front back : List Told) → told ≡ front ++ back → Stands spelled (held_told opening front) (history_told jobs past front)
  stood front back parts = ((every_prefix codec spelled tracks laws opening past jobs [] gone [] opening told front back is.begins is.may is.replied parts).kept).stands

  ends_truly : (number : ℕ) (job : Job) (end : Outcome) → slice_get jobs number ≡ Some job → slice_get (standings slots) number ≡ Some (Ended end) → EndsTruly codec spelled seen number job end
  ends_truly number job end at stands =
      let actor = is.actors number job (slot.Ended end) at (ended_at slots number end stands) in
      let driven : IsDriven codec job (trace_of number told) (Done end) = record { asked = is.in_lanes.asked number job at; uncut = never_cut job.stop 0 (trace_of number told) actor.free; ends = actor.slot_is } in
      let tells = true_end number job end at stands actor.slot_is in
      record {
        driven = driven;
        segment = segment_of codec laws.looks job (trace_of number told) (Done end) driven;
        is_true = true_over spelled opening jobs past told number job end
            (λ short. short_undone codec spelled tracks laws past jobs opening told gone is.begins is.may is.replied number job at (alive number end stands) (subst (EndsBy codec job (trace_of number told)) short actor.slot_is)) tells;
        cause = λ r same. refused_for spelled opening jobs past told is.replied stood number codec job r (subst (IsTrueEnd spelled opening jobs past told number job) same tells)
            (segment_of codec laws.looks job (trace_of number told) (Done (outcome.Refused r)) (subst (λ o. IsDriven codec job (trace_of number told) (Done o)) same driven));
        idle = λ r same. refused_idle codec spelled tracks laws opening past jobs gone told is.begins is.may is.replied number job r at (subst (EndsBy codec job (trace_of number told)) same actor.slot_is);
      }

  pub is_sound : IsSound codec spelled seen
  is_sound = record {
    stood = is.begins.stands;
    began = record { replied = is.replied; held_told_is = is.kept.is_held; held_is = is.kept.is_held ∙ journal_held lane_of opening told ∙ ap (held_after opening) (sym is.entries) };
    stands = is.kept.stands;
    same_history = ap (history_of past opening jobs) is.entries ∙ sym (journal_tells codec spelled tracks laws opening past jobs told gone is.few is.begins is.may is.replied is.in_lanes.within);
    entries = is.entries;
    apart = is.kept.apart;
    one_each = length-map slots standing_of ∙ is.one_each;
    in_lanes = is.in_lanes;
    leased = is.kept.leased;
    own = stays_own codec spelled tracks laws opening past jobs gone told is.begins is.may is.replied;
    shared = subst (StaysShared codec opening jobs gone told) (sym is.kept.is_held) (stays_shared codec spelled tracks laws opening past jobs gone told is.begins is.may is.replied);
    sweeps = λ number job at vacuums. sweeps_alone codec spelled tracks laws opening past jobs gone told is.begins is.may is.replied number job at vacuums;
    unlocks = λ number job seed lane at unlocks. unlocks_alone codec spelled tracks laws opening past jobs gone told is.begins is.may is.replied number job at seed lane unlocks;
    looks = λ number job at looks. looks_alone codec spelled tracks laws opening past jobs gone told is.begins is.may is.replied number job at looks;
    puts = λ number job at none. puts_alone codec spelled tracks laws opening past jobs gone told is.begins is.may is.replied number job at none;
    runs = λ number job at stands. let up = up_at slots number stands in (up.0.asked, running_asks codec spelled tracks opening past jobs told held journal slots is number up.0 job up.1 at);
    ends = ends_truly;
  }
