-- The removals of a vacuum: each leaves objects that stand for the same history, and leads to the next one or to the end.
use Rattle.std.proofs.Common.{◌≡◌, ℕ, suc, Bool, true, false, inl, inr, List, [], ◌∷◌, ◌++◌, Option, Some, None, refl, sym, ◌∙◌, ap, subst, arith}
use Rattle.std.specs.Prelude.{Contains, option_map, slice_get}
use Rattle.std.specs.FinMap as map
use Rattle.std.proofs.lemmas.Bool.{cases_eq, true≢false}
use Rattle.std.proofs.lemmas.List.{append-nil}
use Rattle.std.proofs.lemmas.Option.{none-some, same_Some}
use Rattle.ts_base.specs.declared.keys.FragKey.{FragKey}
use Rattle.ts_base.specs.declared.names.LeaseMode.TheVariants.{Exc}
use Rattle.ts_base.specs.declared.names.Name.{Name}
use Rattle.ts_base.specs.declared.names.Name.TheVariants as name
use Rattle.ts_base.specs.declared.names.Part.{Part}
use Rattle.ts_base.specs.declared.names.Place.TheVariants as place
use Rattle.ts_base.specs.declared.names.Prefix.TheVariants.{Commits}
use Rattle.ts_base.specs.Exact.{name_decides}
use Rattle.ts_base.specs.Names.{name_eq, wrt_of}
use Rattle.ts_base.specs.Held.{Held}
use Rattle.ts_store.specs.Calls.{is_no_memory}
use Rattle.ts_store.specs.declared.call.Call.TheVariants as call
use Rattle.ts_store.specs.declared.call.Reply.{Reply}
use Rattle.ts_store.specs.declared.call.Reply.TheVariants as reply
use Rattle.ts_commit.specs.Selections.{removal_set}
use Rattle.ts_model.specs.declared.answers.Outcome.{Outcome}
use Rattle.ts_model.specs.declared.answers.Refusal.TheVariants as refusal
use Rattle.ts_model.specs.declared.commands.Job.{Job}
use Rattle.ts_model.specs.declared.states.State.{State}
use Rattle.ts_model.specs.declared.states.State.TheVariants.{Removes}
use Rattle.ts_model.specs.Codecs.{Codec, CodecLaws, Spelled, Tracking}
use Rattle.ts_model.specs.Deeds.{History, IsHistory}
use Rattle.ts_model.specs.Jobs.{key_of}
use Rattle.ts_model.specs.Stages.{mode_of}
use Rattle.ts_model.specs.States.{on_removed, removing, vac_of, with_item}
use Rattle.ts_model.specs.Told.{Told, after_told, history_told}
use Rattle.ts_model.proofs.Traces.{held_told-append}
use Rattle.ts_law.specs.Ends.{IsGone, IsTrueRefusal, IsUndone}
use Rattle.ts_law.specs.Kept.{Claims, Clean}
use Rattle.ts_law.specs.Removals.{AreCoveredOutside, IsNoPartOf, Remains, SafeRemoval}
use Rattle.ts_law.specs.Removals as safe
use Rattle.ts_law.specs.Stands.{IsCommitted, Stands}
use Rattle.ts_law.specs.Steps.{Clears, Comes, Moves}
use Rattle.ts_law.specs.Sweeps.{IsSwept, OfCommit, OfOther, OfPart, OfVac, Vacuuming}
use Rattle.ts_law.proofs.ClaimsLess.{none_left, removal_commits}
use Rattle.ts_law.proofs.Fetches.{one_head}
use Rattle.ts_law.proofs.LeaseSteps.{leased_history, stands_beside}
use Rattle.ts_law.proofs.Removals.{covered_grows, covered_stays, remains_told, removal_stands, safe_commit, was_committed}
use Rattle.ts_law.proofs.Spent.{unspent_on}
use Rattle.ts_law.proofs.StandsLaws.{free_from_get, get_free}
use Rattle.ts_law.proofs.Stays.{finds_schema_stays, gone_stays, listed_stays}
use Rattle.ts_law.proofs.SweepKnows.{vacuuming_claims}
use Rattle.ts_law.proofs.SweepSets.{name_spent}
use Rattle.ts_law.proofs.SweepStays.{parts_listed_stay}
use Rattle.ts_law.proofs.UnlockSteps.{removed_gone}

-- one `.wrt` is of one fragment, and no part and no `.vac` is one
one_wrt : (f g : FragKey) → wrt_of f ≡ wrt_of g → f ≡ g
one_wrt f g same = cc

part_no_wrt : (f g : FragKey) (part : Part) → name.Part f part ≡ wrt_of g → ⊥
part_no_wrt f g part same = cc

vac_no_wrt : (f g : FragKey) → vac_of f ≡ wrt_of g → ⊥
vac_no_wrt f g same = cc

module _ {F : Type 0} (codec : Codec F) (spelled : Spelled) (tracks : Tracking F) (opening : Held) (past : History) (jobs : List Job) (seen : List Told) (e : Told) (m : Held) (number : ℕ) (job : Job)
    (laws : CodecLaws codec spelled tracks) (names : List Name) (next : ℕ) (end : Outcome) (is : Vacuuming spelled opening past jobs seen m number job names next end)
    (comes : Comes codec spelled tracks opening past jobs seen e m number job (Removes names next end)) where
  -- the history before the call
  abbrev h : History
  h = history_told jobs past seen

  -- the history after the call
  abbrev h' : History
  h' = history_told jobs past (seen ++ e ∷ [])

  -- what is held after the call
  abbrev m' : Held
  m' = after_told m e

  -- what a state of the job claims after the call
  abbrev ClaimsLater : State F → Type 0
  ClaimsLater s = Claims codec spelled tracks opening past jobs (seen ++ e ∷ []) m' number job s

  -- the fragments that are to be removed
  abbrev set : List FragKey
  set = removal_set (is.sweep).vacs

  -- a vacuum does no deed
  same_history : h' ≡ h
  same_history = leased_history past jobs seen e number job (name.Lease (key_of job) Exc) comes.own comes.is_job (ap (λ c. option_map (name.Lease (key_of job)) (mode_of c)) is.vacuums)

  undone : IsUndone h' job
  undone = subst (λ g. IsUndone g job) (sym same_history) (is.clean).undone

  module _ (n : Name) (at : slice_get names next ≡ Some n) where
    -- the call removes the name
    called : e.call ≡ call.Remove n
    called = sym (same_Some _ _ (ap (option_map call.Remove) (sym at) ∙ comes.asked))

    -- which is one that a vacuum removes
    swept : IsSwept set (is.sweep).vacs n
    swept = (is.sweeping).each next n at

    -- what is left
    left : Remains m n m'
    left = remains_told m n e called

    -- a part that comes next is one of a fragment that is not committed
    led_off : (f : FragKey) (part : Part) → n ≡ name.Part f part → IsCommitted m f → ⊥
    led_off f part same committed =
        let before = (is.sweeping).led next f part (omega arith) (at ∙ ap Some same) committed in
        let low = before.1 in
        let high = before.2 in
        omega (arith, low, high)

    -- a `.wrt` that comes next is one of a fragment of the set
    wrt_in_set : (g : FragKey) → n ≡ wrt_of g → Contains set g
    wrt_in_set g same = by_kind swept
      where
        by_kind : IsSwept set (is.sweep).vacs n → Contains set g
        by_kind (OfCommit f own named) = subst (Contains set) (one_wrt f g (sym named ∙ same)) own
        by_kind (OfPart f part own named) = absurd (part_no_wrt f g part (sym named ∙ same))
        by_kind (OfVac f own named) = absurd (vac_no_wrt f g (sym named ∙ same))
        by_kind (OfOther v there named) = absurd (vac_no_wrt v.frag g (sym named ∙ same))

    -- what is left where the removal was safe
    stands_left : SafeRemoval spelled m h n → Stands spelled m' h × AreCoveredOutside spelled h m' set
    stands_left may = (
      removal_stands m n m' left spelled h may (one_head codec spelled tracks laws h m) comes.stands,
      covered_stays m n m' left spelled h may set wrt_in_set is.covered,
    )

    -- where nothing was there all stays as it was
    nothing_left : map.get m n ≡ None → Stands spelled m' h × AreCoveredOutside spelled h m' set
    nothing_left none = (
      stands_beside spelled m m' (λ q _. same q) h comes.stands,
      subst (λ g. AreCoveredOutside spelled g m' set) (append-nil h)
          (covered_grows spelled m m' h [] set (λ q bytes _ held. same q ∙ held) (subst IsHistory (sym (append-nil h)) (comes.stands).history) (λ f _ committed. was_committed m n m' left f committed) is.covered),
    )
      where
        same : (q : Name) → map.get m' q ≡ map.get m q
        same q = by_test (name_eq q n) refl
          where
            by_test : (b : Bool) → name_eq q n ≡ b → map.get m' q ≡ map.get m q
            by_test true tie = let one = (name_decides q n).0 tie in none_left m n m' left q (ap (map.get m) one ∙ none) ∙ sym (ap (map.get m) one ∙ none)
            by_test false apart = left.others q (λ one. true≢false (sym ((name_decides q n).1 one) ∙ apart))

    -- so it stands for the same history, and the set is covered
    after : Stands spelled m' h × AreCoveredOutside spelled h m' set
    after = by_kind swept
      where
        by_commit : (f : FragKey) → Contains set f → n ≡ wrt_of f → (b : Bool) → map.contains_key m (wrt_of f) ≡ b → Stands spelled m' h × AreCoveredOutside spelled h m' set
        by_commit f own named true committed = stands_left (subst (SafeRemoval spelled m h) (sym named) (safe_commit spelled m h set f is.covered own committed))
        by_commit f own named false free = nothing_left (ap (map.get m) named ∙ get_free m (wrt_of f) (λ held. true≢false (sym held ∙ free)))

        by_kind : IsSwept set (is.sweep).vacs n → Stands spelled m' h × AreCoveredOutside spelled h m' set
        by_kind (OfCommit f own named) = by_commit f own named (map.contains_key m (wrt_of f)) refl
        by_kind (OfPart f part own named) = stands_left (safe.OfPart f part named (led_off f part named))
        by_kind (OfVac f own named) = stands_left (safe.OfVac f named)
        by_kind (OfOther v there named) = stands_left (safe.OfVac v.frag named)

    -- the job stays clean
    clean_left : Clean opening past jobs (seen ++ e ∷ []) m' job
    clean_left = record {
      free = λ q carries no_lease. none_left m n m' left q ((is.clean).free q carries no_lease);
      undone = undone;
      unspent = unspent_on opening past seen e job.id (removal_commits e n job.id called) (is.clean).unspent;
    }

    -- what the call leads to
    clears : Clears spelled opening past jobs seen e m job
    clears =
        let carried = name_spent spelled opening past jobs seen m number job names next end is n swept in
        record {
          vacuums = is.vacuums;
          removed = n;
          removes = called;
          id = carried.0;
          carries = carried.1;
          spent = carried.2;
          same_history = same_history;
          stands = subst (Stands spelled m') (sym same_history) after.0;
        }

    module _ (said : e.reply ≡ reply.Removed) where
      -- the object is gone
      gone : map.get m' n ≡ None
      gone = removed_gone m e n called comes.replied said

      -- so a fragment that is committed has another `.wrt`
      other_wrt : (f : FragKey) → IsCommitted m' f → n ≡ wrt_of f → ⊥
      other_wrt f committed same = free_from_get m' (wrt_of f) (ap (map.get m') (sym same) ∙ gone) committed

      gone_now : IsGone opening (seen ++ e ∷ []) number n
      gone_now = record {
        removed = record { before = seen; made = e; later = []; place = refl; own = comes.own; makes = called; memory = ap is_no_memory said };
        gone = ap (λ x. map.get x n) (held_told-append opening seen (e ∷ []) ∙ ap (λ x. after_told x e) (sym comes.is_held)) ∙ gone;
      }

      -- the vacuum goes on with the next name
      goes_on : Vacuuming spelled opening past jobs (seen ++ e ∷ []) m' number job names (suc next) end
      goes_on = record {
        clean = clean_left;
        vacuums = is.vacuums;
        commits = listed_stays seen e number Commits is.commits;
        sweep = is.sweep;
        is_found = is.is_found;
        all_vacs = is.all_vacs;
        found = finds_schema_stays past jobs seen e number job is.found;
        listed = is.listed;
        all_listed = is.all_listed;
        parts = parts_listed_stay opening seen e number (is.commits).before (is.commits).listing set is.listed is.parts;
        names_are = is.names_are;
        ends = is.ends;
        spent = is.spent;
        covered = subst (λ g. AreCoveredOutside spelled g m' set) (sym same_history) after.1;
        sweeping = record {
          each = (is.sweeping).each;
          led = λ i f part from there committed.
              let before = (is.sweeping).led i f part (omega (arith, from)) there (was_committed m n m' left f committed) in
              let first = before.1 in
              elim (cases_eq before.0 next) [
                | inl same ↦ absurd (other_wrt f committed (same_Some n (wrt_of f) (sym at ∙ ap (slice_get names) (sym same) ∙ before.3)))
                | inr apart ↦ (before.0, omega (arith, first, apart), before.2, before.3)
              ];
          left = λ f own committed.
              let there = (is.sweeping).left f own (was_committed m n m' left f committed) in
              let first = there.1 in
              elim (cases_eq there.0 next) [
                | inl same ↦ absurd (other_wrt f committed (same_Some n (wrt_of f) (sym at ∙ ap (slice_get names) (sym same) ∙ there.2)))
                | inr apart ↦ (there.0, omega (arith, first, apart), there.2)
              ];
        };
        gone = λ i q before there. elim (cases_eq i next) [
          | inl same ↦ subst (IsGone opening (seen ++ e ∷ []) number) (same_Some n q (sym at ∙ ap (slice_get names) (sym same) ∙ there)) gone_now
          | inr apart ↦ gone_stays opening seen e number q (is.gone i q (omega (arith, before, apart)) there)
        ];
      }

    -- a refusal for a removal that failed is true
    failed_true : (q : Name) → IsTrueRefusal spelled opening jobs past (seen ++ e ∷ []) number job (refusal.StoreFault (place.Name q))
    failed_true (name.Commit f kind) = inr undone
    failed_true (name.Schema k) = inr undone
    failed_true _ = undone

    -- where the reply leads
    removed_lead : (on : State F) (r : Reply) → (r ≡ reply.Removed → ClaimsLater on) → ClaimsLater (on_removed (call.Remove n) on r)
    removed_lead on reply.Removed leads = leads refl
    removed_lead on reply.Failed leads = failed_true n
    removed_lead on _ leads = tt

    moves : Moves codec spelled tracks opening past jobs seen e m number job (Removes names next end)
    moves = record {
      leads = inr clears;
      own = subst (λ o. ClaimsLater (with_item (λ q. on_removed (call.Remove q) (removing names (suc next) end) e.reply) o)) (sym at)
          (removed_lead (removing names (suc next) end) e.reply
          (λ said. vacuuming_claims codec spelled tracks laws opening past jobs (seen ++ e ∷ []) m' number job names (suc next) end (goes_on said)));
    }

  -- each removal leads on
  pub clear_steps : Moves codec spelled tracks opening past jobs seen e m number job (Removes names next end)
  clear_steps = by_item (slice_get names next) refl
    where
      by_item : (o : Option Name) → slice_get names next ≡ o → Moves codec spelled tracks opening past jobs seen e m number job (Removes names next end)
      by_item None none = absurd (none-some e.call (ap (option_map call.Remove) (sym none) ∙ comes.asked))
      by_item (Some n) at = moves n at
