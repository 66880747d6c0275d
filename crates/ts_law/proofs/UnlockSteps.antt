-- The calls of an unlock, and of a list of the commits: the one listing, and the removals of leases; and why they are refused.
use Rattle.std.proofs.Common.{Bool, List, None, Option, Some, [], ap, arith, cond, false, inl, inr, length, refl, subst, suc, sym, true, ℕ, ◌++◌, ◌+◌, ◌∙◌, ◌∷◌, ◌≡◌}
use Rattle.std.specs.Prelude.{Contains, nat_lt, option_map, slice_get}
use Rattle.std.proofs.lemmas.Bool.{cases_eq, ltb-false, true≢false}
use Rattle.std.proofs.lemmas.Option.{none-some, same_Some, slice_get_within}
use Rattle.ts_base.specs.Exact.{name_total, name_exact}
use Rattle.ts_base.specs.Held.{Held}
use Rattle.ts_base.specs.declared.keys.Key.{Key}
use Rattle.ts_base.specs.declared.names.LeaseMode.{LeaseMode}
use Rattle.ts_base.specs.declared.names.Name.{Name}
use Rattle.ts_base.specs.declared.names.Place.{Place}
use Rattle.ts_base.specs.declared.names.Prefix.{Prefix}
use Rattle.ts_base.specs.declared.names.Prefix.TheVariants.{Commits, Leases}
use Rattle.ts_store.specs.Calls.{after, is_no_memory, names_under, reply_of}
use Rattle.ts_store.specs.declared.call.Reply.{Reply}
use Rattle.ts_store.specs.declared.fate.Fate.{Fate}
use Rattle.ts_model.specs.declared.answers.Outcome.{Outcome}
use Rattle.ts_model.specs.declared.commands.Command.{Command}
use Rattle.ts_model.specs.declared.commands.Command.TheVariants.{Consolidate, Create, Unlock, Fragments}
use Rattle.ts_model.specs.declared.commands.Job.{Job}
use Rattle.ts_model.specs.declared.states.State.{State}
use Rattle.ts_model.specs.declared.states.State.TheVariants.{Lists, Removes, Over}
use Rattle.ts_model.specs.declared.answers.Refusal.{Refusal}
use Rattle.ts_model.specs.Codecs.{Codec, CodecLaws, Spelled, Tracking}
use Rattle.ts_model.specs.Deeds.{History}
use Rattle.ts_model.specs.Jobs.{key_of}
use Rattle.ts_model.specs.Stages.{mode_of}
use Rattle.ts_model.specs.States.{is_unlocked, leases_unlocked, list_commits, list_leases, listing_of, lists, on_names, on_removed, removing, with_item}
use Rattle.ts_model.specs.Told.{IsReplied, Told, after_told, held_told, history_told}
use Rattle.ts_model.proofs.KeyLemmas.{tie_itself}
use Rattle.ts_model.proofs.ListLemmas.{Contains-slice_get, filter-Contains, slice_get-Contains}
use Rattle.ts_model.proofs.Traces.{held_told-append}
use Rattle.ts_law.specs.Ends.{IsGone, IsUndone, dead_leases}
use Rattle.ts_law.specs.Kept.{Claims, Clean, MakesListing, Unlocking}
use Rattle.ts_law.specs.Refusals.{FindsFault, IsRefusedAs, IsRefusedFor, WorksInSchema, refusal_in}
use Rattle.ts_law.specs.Steps.{Advances, Comes}
use Rattle.ts_law.proofs.Effects.{listed}
use Rattle.ts_law.proofs.LeaseSteps.{removal_of_lease}
use Rattle.ts_law.proofs.ListSteps.{looked}
use Rattle.ts_law.specs.Fresh.{DoesCommit}
use Rattle.ts_base.specs.Names.{wrt_of}
use Rattle.ts_law.proofs.Stays.{clean_stays, gone_stays, listed_now, listed_stays}
use Rattle.std.specs.FinMap as map
use Rattle.ts_base.specs.declared.names.Name.TheVariants as name
use Rattle.ts_store.specs.declared.call.Call.TheVariants as call
use Rattle.ts_store.specs.declared.call.Reply.TheVariants as reply
use Rattle.ts_store.specs.declared.fate.Fate.TheVariants as fate
use Rattle.ts_model.specs.declared.answers.Outcome.TheVariants as outcome
use Rattle.ts_model.specs.declared.answers.Refusal.TheVariants as refusal

-- ---- the calls

-- the one listing of such a job puts nothing
pub own_listing_no_put : (command : Command) (n : Name) (bytes : List ℕ) → MakesListing command → Some (listing_of command) ≡ Some (call.Put n bytes) → ⊥
own_listing_no_put command n bytes (inl (seed, lane, is)) asked = let same = subst (λ c. Some (listing_of c) ≡ Some (call.Put n bytes)) is asked in cc
own_listing_no_put command n bytes (inr is) asked = let same = subst (λ c. Some (listing_of c) ≡ Some (call.Put n bytes)) is asked in cc

-- what an unlock removes is a lease
lease_unlocked : (seed lane : ℕ) (names : List Name) (n : Name) → Contains (leases_unlocked seed lane names) n → (k : Key) × (mode : LeaseMode) × (n ≡ name.Lease k mode)
lease_unlocked seed lane names n at = by_name n (filter-Contains (is_unlocked seed lane) names n at).1
  where
    by_name : (q : Name) → is_unlocked seed lane q ≡ true → (k : Key) × (mode : LeaseMode) × (q ≡ name.Lease k mode)
    by_name (name.Lease k mode) is = (k, mode, refl)
    by_name _ is = absurd (true≢false (sym is))

-- an object that was removed is not held
pub removed_gone : (m : Held) (e : Told) (n : Name) → e.call ≡ call.Remove n → IsReplied m e → e.reply ≡ reply.Removed → map.get (after_told m e) n ≡ None
removed_gone m e n is (inl none) said = absurd (true≢false (sym none.0 ∙ ap is_no_memory said))
removed_gone m e n is (inr replied) said =
    ap (λ r. map.get (cond (is_no_memory r) m (after m e.call e.fate)) n) said
    ∙ ap (λ c. map.get (after m c e.fate) n) is
    ∙ by_fate e.fate (sym said ∙ replied.0 ∙ ap (λ c. reply_of m c e.fate) is)
  where
    by_fate : (f : Fate) → reply.Removed ≡ reply_of m (call.Remove n) f → map.get (after m (call.Remove n) f) n ≡ None
    by_fate fate.Done same = map.get-remove name_total m n n ∙ ap (λ b. cond b None (map.get m n)) (tie_itself name_total name_exact n)
    by_fate fate.FailedDone same = cc
    by_fate fate.FailedSkipped same = cc
    by_fate fate.Unknown same = cc

-- a removal by which a job is over for want of memory, which has an end of its own, changed nothing
pub removal_still : {F : Type 0} (m : Held) (e : Told) (n : Name) (names : List Name) (next : ℕ) (end : Outcome) → e.call ≡ call.Remove n → IsReplied m e → (end ≡ outcome.OutOfMemory → ⊥)
    → ◌≡◌ {A = State F} (on_removed (call.Remove n) (removing names (suc next) end) e.reply) (Over outcome.OutOfMemory) → e.changed ≡ false
removal_still m e n names next end is (inl none) ends over = none.1
removal_still {F} m e n names next end is (inr replied) ends over =
    absurd (by_fate e.fate (subst (λ r. ◌≡◌ {A = State F} (on_removed (call.Remove n) (removing names (suc next) end) r) (Over outcome.OutOfMemory)) (replied.0 ∙ ap (λ c. reply_of m c e.fate) is) over))
  where
    Over_at : Reply → Type 0
    Over_at r = ◌≡◌ {A = State F} (on_removed (call.Remove n) (removing names (suc next) end) r) (Over outcome.OutOfMemory)

    by_count : (b : Bool) → ◌≡◌ {A = State F} (cond b (Removes names (suc next) end) (Over end)) (Over outcome.OutOfMemory) → ⊥
    by_count true same = cc
    by_count false same = let last : end ≡ outcome.OutOfMemory = cc in ends last

    by_fate : (f : Fate) → Over_at (reply_of m (call.Remove n) f) → ⊥
    by_fate fate.Done same = by_count (nat_lt (suc next) (length names)) same
    by_fate fate.FailedDone same = cc
    by_fate fate.FailedSkipped same = cc
    by_fate fate.Unknown same = cc

-- ---- the claims

-- the claims of an unlock stay by the calls of others
pub unlocking_stays : (opening : Held) (past : History) (jobs : List Job) (seen : List Told) (e : Told) (m m' : Held) (number : ℕ) (job : Job) (names : List Name) (next : ℕ) (end : Outcome)
    → (Clean opening past jobs seen m job → Clean opening past jobs (seen ++ e ∷ []) m' job)
    → Unlocking opening past jobs seen m number job names next end → Unlocking opening past jobs (seen ++ e ∷ []) m' number job names next end
unlocking_stays opening past jobs seen e m m' number job names next end cleans is = record {
  clean = cleans is.clean;
  seed = is.seed;
  lane = is.lane;
  unlocks = is.unlocks;
  leases = listed_stays seen e number Leases is.leases;
  names_are = is.names_are;
  ends = is.ends;
  gone = λ i n before at. gone_stays opening seen e number n (is.gone i n before at);
}

module _ {F : Type 0} (codec : Codec F) (spelled : Spelled) (tracks : Tracking F) (opening : Held) (past : History) (jobs : List Job) (seen : List Told) (m : Held) (number : ℕ) (job : Job) where
  -- an unlock that removes leases from a place on claims what is true
  removing_claims : (names : List Name) (next : ℕ) (end : Outcome) → Unlocking opening past jobs seen m number job names next end → Claims codec spelled tracks opening past jobs seen m number job (removing names next end)
  removing_claims names next end is = by_count (nat_lt next (length names)) refl
    where
      all_gone : nat_lt next (length names) ≡ false → (n : Name) → Contains (dead_leases is.seed is.lane opening (is.leases).before) n → IsGone opening seen number n
      all_gone none n at =
          let (i, there) = slice_get-Contains names n (subst (λ ns. Contains ns n) (sym is.names_are) at) in
          let within = slice_get_within names i n there in
          let past_all = ltb-false next (length names) none in
          is.gone i n (omega (arith, within, past_all)) there

      by_count : (b : Bool) → nat_lt next (length names) ≡ b → Claims codec spelled tracks opening past jobs seen m number job (cond b (Removes names next end) (Over end))
      by_count true some = inl is
      by_count false none =
          subst (λ o. Claims codec spelled tracks opening past jobs seen m number job (Over o)) (sym is.ends)
          ((is.clean).undone, record { seed = is.seed; lane = is.lane; unlocks = is.unlocks; leases = is.leases; counted = ap length is.names_are; gone = all_gone none })

-- ---- one call

module _ {F : Type 0} (codec : Codec F) (spelled : Spelled) (tracks : Tracking F) (opening : Held) (past : History) (jobs : List Job) (seen : List Told) (e : Told) (m : Held) (number : ℕ) (job : Job) where
  -- the history after the call
  abbrev h' : History
  h' = history_told jobs past (seen ++ e ∷ [])

  -- what is held after the call
  abbrev m' : Held
  m' = after_told m e

  -- what a state of the job claims after the call
  abbrev ClaimsLater : State F → Type 0
  ClaimsLater s = Claims codec spelled tracks opening past jobs (seen ++ e ∷ []) m' number job s

  -- the call comes to the job in a state
  abbrev ComesHere : State F → Type 0
  ComesHere s = Comes codec spelled tracks opening past jobs seen e m number job s

  -- the call advances the job from a state
  abbrev AdvancesHere : State F → Type 0
  AdvancesHere s = Advances codec spelled tracks opening past jobs seen e m number job s

  -- where the reply to a listing leads
  names_lead : (p : Prefix) (on : List Name → State F) (r : Reply) → ((names : List Name) → r ≡ reply.Names names → ClaimsLater (on names)) → IsUndone h' job → ClaimsLater (on_names (call.List p) on r)
  names_lead p on (reply.Names names) goes_on undone = goes_on names refl
  names_lead p on reply.Failed goes_on undone = undone
  names_lead p on _ goes_on undone = tt

  -- the listing advances such a job
  pub list_steps : CodecLaws codec spelled tracks → ComesHere Lists → AdvancesHere Lists
  list_steps laws c = by_command c.claims.1
    where
      Goes : Command → Type 0
      Goes command = ClaimsLater (on_names (listing_of command) (lists command) e.reply)

      by_command : MakesListing job.command → AdvancesHere Lists
      by_command (inl (seed, lane, unlocks)) =
          let is : e.call ≡ list_leases = sym (same_Some _ _ (ap (λ x. Some (listing_of x)) (sym unlocks) ∙ c.asked)) in
          let look = looked spelled opening past jobs seen e m job list_leases is tt c.stands c.replied c.claims.0 in
          record {
            leads = look.leads;
            own = subst Goes (sym unlocks) (names_lead Leases (lists (Unlock seed lane)) e.reply
                (λ names said.
                let all : names ≡ names_under Leases m = listed m e Leases names is c.replied said in
                removing_claims codec spelled tracks opening past jobs (seen ++ e ∷ []) m' number job (leases_unlocked seed lane names) 0 (outcome.Unlocked (length (leases_unlocked seed lane names))) (record {
                  clean = look.clean;
                  seed = seed;
                  lane = lane;
                  unlocks = unlocks;
                  leases = listed_now seen e number Leases c.own is (ap is_no_memory said);
                  names_are = ap (leases_unlocked seed lane) (all ∙ ap (names_under Leases) c.is_held);
                  ends = refl;
                  gone = λ i n before at. absurd (omega (arith, before));
                }))
                look.clean.undone);
          }
      by_command (inr fragments) =
          let is : e.call ≡ list_commits = sym (same_Some _ _ (ap (λ x. Some (listing_of x)) (sym fragments) ∙ c.asked)) in
          let look = looked spelled opening past jobs seen e m job list_commits is tt c.stands c.replied c.claims.0 in
          record {
            leads = look.leads;
            own = subst Goes (sym fragments) (names_lead Commits (lists Fragments) e.reply
                (λ names said. (look.clean.undone, record { lists = fragments; commits = listed_now seen e number Commits c.own is (ap is_no_memory said); names_are = listed m e Commits names is c.replied said ∙ ap (names_under Commits) c.is_held }))
                look.clean.undone);
          }

  -- where the reply to a removal leads
  removed_lead : (k : Key) (mode : LeaseMode) (on : State F) (r : Reply) → (r ≡ reply.Removed → ClaimsLater on) → IsUndone h' job → ClaimsLater (on_removed (call.Remove (name.Lease k mode)) on r)
  removed_lead k mode on reply.Removed goes_on undone = goes_on refl
  removed_lead k mode on reply.Failed goes_on undone = undone
  removed_lead k mode on _ goes_on undone = tt

  -- each removal advances an unlock
  pub remove_steps : CodecLaws codec spelled tracks → (names : List Name) (next : ℕ) (end : Outcome) → Unlocking opening past jobs seen m number job names next end → ComesHere (Removes names next end) → AdvancesHere (Removes names next end)
  remove_steps laws names next end claims c = by_item (slice_get names next) refl
    where
      by_lease : (n : Name) → slice_get names next ≡ Some n → (k : Key) (mode : LeaseMode) → n ≡ name.Lease k mode → AdvancesHere (Removes names next end)
      by_lease n at k mode named =
          let is : e.call ≡ call.Remove n = sym (same_Some _ _ (ap (option_map call.Remove) (sym at) ∙ c.asked)) in
          let called : e.call ≡ call.Remove (name.Lease k mode) = is ∙ ap call.Remove named in
          let own = removal_of_lease spelled past jobs seen e m number job c.own c.is_job c.stands job.id k mode called in
          let other = removal_of_lease spelled past jobs seen e m number job c.own c.is_job c.stands (job.id + 1) k mode called in
          let commits_none : DoesCommit e job.id → ⊥ = λ d. (let clash : call.Remove (name.Lease k mode) ≡ call.Put (wrt_of d.frag) d.bytes = sym called ∙ d.puts in cc) in
          let clean : Clean opening past jobs (seen ++ e ∷ []) m' job = clean_stays opening past jobs seen e m m' (job.id + 1) (other.1).leaves job (λ same. omega (arith, same)) commits_none claims.clean in
          let later = unlocking_stays opening past jobs seen e m m' number job names next end (λ before. clean) claims in
          record {
            leads = own.1;
            own = subst (λ o. ClaimsLater (with_item (λ q. on_removed (call.Remove q) (removing names (suc next) end) e.reply) o)) (sym (at ∙ ap Some named))
                (removed_lead k mode (removing names (suc next) end) e.reply
                (λ said. removing_claims codec spelled tracks opening past jobs (seen ++ e ∷ []) m' number job names (suc next) end (record {
                  clean = clean;
                  seed = later.seed;
                  lane = later.lane;
                  unlocks = later.unlocks;
                  leases = later.leases;
                  names_are = later.names_are;
                  ends = later.ends;
                  gone = λ i q before there. elim (cases_eq i next) [
                    | inl same ↦ subst (IsGone opening (seen ++ e ∷ []) number) (same_Some n q (sym at ∙ ap (slice_get names) (sym same) ∙ there)) (gone_now n is said)
                    | inr apart ↦ later.gone i q (omega (arith, before, apart)) there
                  ];
                }))
                clean.undone);
          }
        where
          gone_now : (q : Name) → e.call ≡ call.Remove q → e.reply ≡ reply.Removed → IsGone opening (seen ++ e ∷ []) number q
          gone_now q is said = record {
            removed = record { before = seen; made = e; later = []; place = refl; own = c.own; makes = is; memory = ap is_no_memory said };
            gone = ap (λ x. map.get x q) (held_told-append opening seen (e ∷ []) ∙ ap (λ x. after_told x e) (sym c.is_held)) ∙ removed_gone m e q is c.replied said;
          }

      by_item : (o : Option Name) → slice_get names next ≡ o → AdvancesHere (Removes names next end)
      by_item None none = absurd (none-some e.call (ap (option_map call.Remove) (sym none) ∙ c.asked))
      by_item (Some n) at =
          let listed_it = subst (λ ns. Contains ns n) claims.names_are (Contains-slice_get names next n at) in
          let (k, mode, named) = lease_unlocked claims.seed claims.lane (names_under Leases (held_told opening (claims.leases).before)) n listed_it in
          by_lease n at k mode named

-- ---- refusals

module _ (spelled : Spelled) (opening : Held) (jobs : List Job) (past : History) (told : List Told) (number : ℕ) (job : Job) where
  -- what is so of no unlock and of no list of the commits
  of_neither : (P : Command → Type 0) → ((seed lane : ℕ) → P (Unlock seed lane) → ⊥) → (P Fragments → ⊥) → MakesListing job.command → P job.command → ⊥
  of_neither P no_unlock no_list (inl (seed, lane, is)) p = no_unlock seed lane (subst P is p)
  of_neither P no_unlock no_list (inr is) p = no_list (subst P is p)

  -- neither finds a fault in a frame and a schema
  no_fault : (r : Refusal) → MakesListing job.command → FindsFault jobs past told number job r → ⊥
  no_fault r makes is = of_neither (λ c. refusal_in is.frame (is.current).attrs c ≡ Some r) (λ seed lane e. none-some r e) (λ e. none-some r e) makes is.refused

  -- an unlock and a list of the commits are refused for nothing but a call that failed
  pub only_failed : (r : Refusal) → MakesListing job.command → IsRefusedFor spelled opening jobs past told number job r → (p : Place) × (r ≡ refusal.StoreFault p)
  only_failed (refusal.StoreFault p) makes is = (p, refl)
  only_failed refusal.ArrayExists makes (made, creates, there) = absurd (of_neither (λ c. c ≡ Create made) (λ seed lane e. cc) (λ e. cc) makes creates)
  only_failed (refusal.NoSchema at) makes is = absurd (of_neither WorksInSchema (λ seed lane e. e) (λ e. e) makes is.works)
  only_failed (refusal.Leased other) makes is =
      absurd (of_neither (λ c. option_map (name.Lease (key_of job)) (mode_of c) ≡ Some is.own) (λ seed lane e. none-some is.own e) (λ e. none-some is.own e) makes is.has)
  only_failed (refusal.NothingToDo count) makes is = absurd (of_neither (λ c. c ≡ Consolidate is.from is.to is.limits) (λ seed lane e. cc) (λ e. cc) makes is.merges)
  only_failed (refusal.Taken n) makes is = absurd is
  only_failed (refusal.Missing n) makes is = absurd is
  only_failed (refusal.Damaged n at) makes is = absurd is
  only_failed r makes is = absurd (of_neither (IsRefusedAs jobs past told number job r) (λ seed lane f. no_fault r makes f) (λ f. no_fault r makes f) makes is)
