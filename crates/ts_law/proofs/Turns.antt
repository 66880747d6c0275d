-- Jobs in lanes, those of a lane one after the other: a call removes no lease on which another job relies. An unlock alone removes leases of others, and of its run those of its own lane. Of that lane the jobs before it came to their ends or were stopped, those after it made no call. So each call may come.
use Rattle.std.proofs.Common.{◌≡◌, ◌≢◌, ℕ, zero, suc, Bool, true, false, cond, ◌&&◌, ◌<◌, inl, inr, List, [], ◌∷◌, ◌++◌, Option, Some, None, length, refl, sym, ◌∙◌, ap, subst, append_assoc, arith}
use Rattle.std.specs.Prelude.{All, Contains, slice_get}
use Rattle.std.specs.List.{cons_option}
use Rattle.std.proofs.lemmas.Bool.{cases_eq, cases_lt, true≢false}
use Rattle.std.proofs.lemmas.List.{append-nil}
use Rattle.std.proofs.lemmas.List.Elements.{All-cons, All-contains, All-contains_itself, All-head, All-tail, All-weaker, Contains-append_cases}
use Rattle.std.proofs.lemmas.Option.{same_Some, slice_get_within}
use Rattle.ts_base.specs.declared.keys.Key.{Key}
use Rattle.ts_base.specs.declared.names.LeaseMode.{LeaseMode}
use Rattle.ts_base.specs.declared.names.Name.{Name}
use Rattle.ts_base.specs.declared.names.Name.TheVariants as name
use Rattle.ts_base.specs.Held.{Held}
use Rattle.ts_base.specs.declared.names.Prefix.TheVariants.{Leases}
use Rattle.ts_store.specs.Calls.{names_under}
use Rattle.ts_store.specs.declared.call.Call.{Call}
use Rattle.ts_store.specs.declared.call.Call.TheVariants as call
use Rattle.ts_model.specs.declared.answers.Driven.{Driven}
use Rattle.ts_model.specs.declared.answers.Driven.TheVariants.{Done, Stopped}
use Rattle.ts_model.specs.declared.answers.Outcome.{Outcome}
use Rattle.ts_model.specs.declared.commands.Command.TheVariants.{Unlock}
use Rattle.ts_model.specs.declared.commands.Job.{Job}
use Rattle.ts_model.specs.declared.states.Creating.TheVariants.{PutsFrame}
use Rattle.ts_model.specs.declared.states.Stage.{Stage}
use Rattle.ts_model.specs.declared.states.Stage.TheVariants.{ListsLeases, PutsLease, Releases}
use Rattle.ts_model.specs.declared.states.Stage.TheVariants as stages
use Rattle.ts_model.specs.declared.states.State.{State}
use Rattle.ts_model.specs.declared.states.State.TheVariants.{Creates, Puts, Removes}
use Rattle.ts_model.specs.Codecs.{Codec, CodecLaws, Spelled, Tracking}
use Rattle.ts_model.specs.Deeds.{History}
use Rattle.ts_model.specs.Driven.{AskedFrom, ComesOut, MayAsk}
use Rattle.ts_model.specs.Jobs.{key_of}
use Rattle.ts_model.specs.Stages.{first_stage, lease_of, put_lease, stage_of}
use Rattle.ts_model.specs.States.{Exchange, asks, frame_put, is_unlocked, list_leases, made_by, put_of}
use Rattle.ts_model.specs.Told.{IsShortCall, Replied, Suits, Told, after_told, exchange_of, held_told, trace_of}
use Rattle.ts_model.proofs.ListLemmas.{Contains-cons, Contains-here, Contains-nil, Contains-slice_get, Contains-there, filter-Contains}
use Rattle.ts_model.proofs.Traces.{exchange_of_other, exchange_of_own, stage_of-other, stage_of-own, trace_of-append}
use Rattle.ts_commit.specs.declared.vacs.VacOf.{VacOf}
use Rattle.ts_base.specs.declared.keys.FragKey.{FragKey}
use Rattle.ts_law.specs.Kept.{AreAllowed, AreAmong, Claims, IsAllowed, Kept, Removing, StageClaims}
use Rattle.ts_law.specs.Lanes.{IsBefore, IsOwned, IsWithin, InTurn}
use Rattle.ts_law.specs.Leases.{Spares, is_relying}
use Rattle.ts_law.specs.Runs.{AreDriven}
use Rattle.ts_law.specs.Sweeps.{IsSwept, OfCommit, OfOther, OfPart, OfVac}
use Rattle.ts_law.proofs.Broken.{drop_kept}
use Rattle.ts_law.proofs.Idle.{looks_else}
use Rattle.ts_law.proofs.KeptLaws.{asked_by, step_kept}
use Rattle.ts_law.proofs.Leasing.{ended_unrelied, first_unrelied}
use Rattle.ts_law.proofs.LeaseSteps.{lease_is, release_is}
use Rattle.ts_law.proofs.Lanes.{none_made}
use Rattle.ts_law.proofs.Lists.{item_at}

-- ---- jobs that were stopped

-- a job came out stopped
abbrev is_stopped : Option (Driven Outcome) → Bool
is_stopped (Some Stopped) = true
is_stopped _ = false

-- the numbers below a bound that pass a test
abbrev numbers_that : (ℕ → Bool) → ℕ → List ℕ
numbers_that test zero = []
numbers_that test (suc n) = cond (test n) (n ∷ numbers_that test n) (numbers_that test n)

-- of the jobs before a place the numbers of those that were stopped
abbrev pub stopped_before : List (Driven Outcome) → ℕ → List ℕ
stopped_before results n = numbers_that (λ k. is_stopped (slice_get results k)) n

-- a job makes none of the calls
abbrev is_silent : List Exchange → Bool
is_silent [] = true
is_silent (x ∷ xs) = false

-- of the jobs before a place the numbers of those that were stopped, and make none of these calls
abbrev gone_before : List (Driven Outcome) → List Told → ℕ → List ℕ
gone_before results rest n = numbers_that (λ k. is_stopped (slice_get results k) && is_silent (trace_of k rest)) n

-- each of such numbers stands before the bound, and passes the test
passes : (test : ℕ → Bool) (n k : ℕ) → Contains (numbers_that test n) k → (k < n) × (test k ≡ true)
passes test zero k at = absurd (Contains-nil k at)
passes test (suc n) k at = elim (test n) as (λ b. test n ≡ b → Contains (cond b (n ∷ numbers_that test n) (numbers_that test n)) k → (k < suc n) × (test k ≡ true)) [
  | true ↦ λ is there. elim (Contains-cons n (numbers_that test n) k there) [
    | inl same ↦ (omega (arith, same), ap test (sym same) ∙ is)
    | inr later ↦ let (less, passed) = passes test n k later in (omega (arith, less), passed)
  ]
  | false ↦ λ is there. let (less, passed) = passes test n k there in (omega (arith, less), passed)
] refl at

-- each that stands before the bound and passes is one of them
passes_there : (test : ℕ → Bool) (n k : ℕ) → k < n → test k ≡ true → Contains (numbers_that test n) k
passes_there test zero k less passed = absurd (omega (arith, less))
passes_there test (suc n) k less passed = elim (test n) as (λ b. test n ≡ b → Contains (cond b (n ∷ numbers_that test n) (numbers_that test n)) k) [
  | true ↦ λ is. elim (cases_eq k n) [
    | inl same ↦ subst (λ i. Contains (n ∷ numbers_that test n) i) (sym same) (Contains-here n (numbers_that test n))
    | inr apart ↦ Contains-there n (numbers_that test n) k (passes_there test n k (omega (arith, less, apart)) passed)
  ]
  | false ↦ λ is. elim (cases_eq k n) [
    | inl same ↦ absurd (true≢false (sym passed ∙ ap test same ∙ is))
    | inr apart ↦ passes_there test n k (omega (arith, less, apart)) passed
  ]
] refl

both_true : (a b : Bool) → (a && b) ≡ true → (a ≡ true) × (b ≡ true)
both_true true b is = (refl, is)
both_true false b is = absurd (true≢false (sym is))

from_both : (a b : Bool) → a ≡ true → b ≡ true → (a && b) ≡ true
from_both true b left right = right
from_both false b left right = absurd (true≢false (sym left))

silent_is : (xs : List Exchange) → is_silent xs ≡ true → xs ≡ []
silent_is [] is = refl
silent_is (x ∷ xs) is = absurd (true≢false (sym is))

module _ (results : List (Driven Outcome)) where
  -- a job that came to its end is none of them
  pub done_apart : (n k : ℕ) (end : Outcome) → slice_get results k ≡ Some (Done end) → Contains (stopped_before results n) k → ⊥
  done_apart n k end at there = true≢false (sym (passes (λ i. is_stopped (slice_get results i)) n k there).1 ∙ ap is_stopped at)

  -- those that are gone were stopped
  gone_stopped : (rest : List Told) (n : ℕ) → AreAmong (gone_before results rest n) (stopped_before results n)
  gone_stopped rest n k at =
      let (less, passed) = passes (λ i. is_stopped (slice_get results i) && is_silent (trace_of i rest)) n k at in
      passes_there (λ i. is_stopped (slice_get results i)) n k less (both_true (is_stopped (slice_get results k)) (is_silent (trace_of k rest)) passed).0

  -- those that are gone before a call are so after it
  gone_later : (e : Told) (rest : List Told) (n : ℕ) → AreAmong (gone_before results (e ∷ rest) n) (gone_before results rest n)
  gone_later e rest n k at =
      let (less, passed) = passes (λ i. is_stopped (slice_get results i) && is_silent (trace_of i (e ∷ rest))) n k at in
      let (stopped, silent) = both_true (is_stopped (slice_get results k)) (is_silent (trace_of k (e ∷ rest))) passed in
      passes_there (λ i. is_stopped (slice_get results i) && is_silent (trace_of i rest)) n k less
      (from_both (is_stopped (slice_get results k)) (is_silent (trace_of k rest)) stopped (fewer (exchange_of k e) silent))
    where
      fewer : (o : Option Exchange) → is_silent (cons_option o (trace_of k rest)) ≡ true → is_silent (trace_of k rest) ≡ true
      fewer None is = is
      fewer (Some x) is = absurd (true≢false (sym is))

-- ---- what a job removes

module _ {F : Type 0} (codec : Codec F) (spelled : Spelled) (tracks : Tracking F) (laws : CodecLaws codec spelled tracks) (opening : Held) (past : History) (jobs : List Job) where
  module _ (seen : List Told) (m : Held) (number : ℕ) (job : Job) (k : Key) (mode : LeaseMode) (other : lease_of job ≡ Some (name.Lease k mode) → ⊥) where
    -- the removal of the lease, which is none of the job's own
    abbrev removal : Call
    removal = call.Remove (name.Lease k mode)

    -- the job is an unlock, which takes the lease for dead
    abbrev TakesForDead : Type 0
    TakesForDead = (seed : ℕ) × (lane : ℕ) × (job.command ≡ Unlock seed lane) × (is_unlocked seed lane (name.Lease k mode) ≡ true)

    -- what a vacuum removes is no lease
    none_swept : (set : List FragKey) (vacs : List VacOf) → IsSwept set vacs (name.Lease k mode) → ⊥
    none_swept set vacs (OfCommit f at is) = cc
    none_swept set vacs (OfPart f part at is) = cc
    none_swept set vacs (OfVac f at is) = cc
    none_swept set vacs (OfOther v at is) = cc

    dead_removed : (names : List Name) (next : ℕ) (end : Outcome) → Removing spelled opening past jobs seen m number job names next end → slice_get names next ≡ Some (name.Lease k mode) → TakesForDead
    dead_removed names next end (inl is) at =
        (is.seed, is.lane, is.unlocks, (filter-Contains (is_unlocked is.seed is.lane) (names_under Leases (held_told opening (is.leases).before)) (name.Lease k mode) (subst (λ l. Contains l (name.Lease k mode)) is.names_are (Contains-slice_get names next (name.Lease k mode) at))).1)
    dead_removed names next end (inr is) at = absurd (none_swept _ _ ((is.sweeping).each next (name.Lease k mode) at))

    one_removed : (q n : Name) → call.Remove q ≡ call.Remove n → q ≡ n
    one_removed q n same = cc

    -- a job that removes a lease at its work is such an unlock
    work_removes : (s : State F) → Claims codec spelled tracks opening past jobs seen m number job s → asks codec job s ≡ Some removal → TakesForDead
    work_removes (Creates PutsFrame) claims asked = let (f, made, is) = asked_by frame_put (made_by job.command) removal asked in absurd (let no : frame_put f ≡ removal = is in cc)
    work_removes (Puts objects next end) claims asked = let (o, at, is) = asked_by put_of (slice_get objects next) removal asked in absurd (let no : put_of o ≡ removal = is in cc)
    work_removes (Removes names next end) claims asked =
        let (q, at, is) = asked_by call.Remove (slice_get names next) removal asked in
        dead_removed names next end claims (at ∙ ap Some (one_removed q (name.Lease k mode) is))
    work_removes s claims asked = absurd (looks_else codec spelled tracks laws opening past jobs seen m number job s removal claims asked refl)

    -- so is one that removes it at all
    call_removes : (stage : Stage F) → StageClaims codec spelled tracks opening past jobs seen m number job stage → MayAsk codec job stage removal → TakesForDead
    call_removes (PutsLease lease) claims (inl asked) = absurd (let no : put_lease lease ≡ removal = same_Some (put_lease lease) removal asked in cc)
    call_removes (ListsLeases lease) claims (inl asked) = absurd (let no : list_leases ≡ removal = same_Some list_leases removal asked in cc)
    call_removes (stages.Works s) claims (inl asked) = work_removes s claims asked
    call_removes (Releases lease end) claims (inl asked) = absurd (other (claims.0 ∙ ap Some (one_removed lease (name.Lease k mode) (same_Some (call.Remove lease) removal asked))))
    call_removes stage claims (inr gives_up) = let (lease, some, removes) = release_is job removal gives_up.0 in absurd (other (some ∙ ap Some (sym (one_removed (name.Lease k mode) lease removes))))

-- ---- the calls

-- each of the calls puts no object that is too long
abbrev pub AreShort : List Told → Type 0
AreShort told = (e : Told) → Contains told e → IsShortCall e.call

-- what suits is short
pub short_from_suits : (told : List Told) → All Suits told → AreShort told
short_from_suits told suit e at = (All-contains Suits told e suit at).short

-- of the leases of other jobs an unlock takes those of its own lane alone for dead
abbrev pub TakeTheirLane : (ℕ → ℕ) → List Job → Type 0
TakeTheirLane lanes jobs =
    (i k : ℕ) (unlock holder : Job) (seed lane : ℕ) (mode : LeaseMode) → i ≢ k → slice_get jobs i ≡ Some unlock → slice_get jobs k ≡ Some holder → unlock.command ≡ Unlock seed lane
    → is_unlocked seed lane (name.Lease (key_of holder) mode) ≡ true → lanes k ≡ lanes i

module _ {F : Type 0} (codec : Codec F) (spelled : Spelled) (tracks : Tracking F) (laws : CodecLaws codec spelled tracks) (opening : Held) (past : History)
    (lanes : ℕ → ℕ) (jobs : List Job) (takes : TakeTheirLane lanes jobs) (results : List (Driven Outcome)) (one_each : length results ≡ length jobs) where
  -- the jobs that are dropped before these calls: those that were stopped, and make none of them
  abbrev gone : List Told → List ℕ
  gone rest = gone_before results rest (length jobs)

  -- a call removes no lease on which another job relies
  spares : (seen rest : List Told) (m : Held) (number : ℕ) (job : Job) (c : Call) → slice_get jobs number ≡ Some job
      → StageClaims codec spelled tracks opening past jobs seen m number job (stage_of codec job (trace_of number seen)) → MayAsk codec job (stage_of codec job (trace_of number seen)) c
      → ((k : ℕ) → k < number → lanes k ≡ lanes number → trace_of k rest ≡ []) → ((k : ℕ) → number < k → lanes k ≡ lanes number → trace_of k seen ≡ [])
      → ((k : ℕ) (j : Job) (r : Driven Outcome) → slice_get jobs k ≡ Some j → slice_get results k ≡ Some r → ComesOut codec j (trace_of k (seen ++ rest)) r)
      → Spares codec jobs (gone rest) seen job c
  spares seen rest m number job c at claims asked late early ends lease removes other k holder is =
      let (mode, named) = lease_is holder lease is.has in
      let calls : c ≡ call.Remove (name.Lease (key_of holder) mode) = removes ∙ ap call.Remove named in
      let (by, lane, unlocks, dead) = call_removes codec spelled tracks laws opening past jobs seen m number job (key_of holder) mode (λ has. other (has ∙ ap Some (sym named)))
      (stage_of codec job (trace_of number seen)) claims (subst (MayAsk codec job (stage_of codec job (trace_of number seen))) calls asked) in
      elim (cases_eq k number) [
        | inl it ↦
            let one : holder ≡ job = same_Some holder job (sym is.is_job ∙ ap (slice_get jobs) it ∙ at) in
            other (ap lease_of (sym one) ∙ is.has)
        | inr apart ↦
            let same : lanes k ≡ lanes number = takes number k job holder by lane mode (λ equal. apart (sym equal)) at is.is_job unlocks dead in
            elim (cases_lt k number) [
              | inl before ↦
                  let whole : trace_of k (seen ++ rest) ≡ trace_of k seen = trace_of-append k seen rest ∙ ap (λ t. trace_of k seen ++ t) (late k before same) ∙ append-nil (trace_of k seen) in
                  let (r, r_at) = item_at jobs results k (sym one_each) (slice_get_within jobs k holder is.is_job) in
                  by_result (late k before same) r r_at (subst (λ t. ComesOut codec holder t r) whole (ends k holder r is.is_job r_at))
              | inr most ↦ true≢false (sym is.stage ∙ ap (λ t. is_relying (stage_of codec holder t)) (early k (omega (arith, most, apart)) same) ∙ first_unrelied is_relying holder lease (λ own. refl) is.has)
            ]
      ]
    where
      by_result : trace_of k rest ≡ [] → (r : Driven Outcome) → slice_get results k ≡ Some r → ComesOut codec holder (trace_of k seen) r → ⊥
      by_result none (Done end) r_at comes = ended_unrelied codec holder lease (trace_of k seen) end is.has comes is.stage
      by_result none Stopped r_at comes =
          is.alive (passes_there (λ i. is_stopped (slice_get results i) && is_silent (trace_of i rest)) (length jobs) k (slice_get_within jobs k holder is.is_job)
          (from_both (is_stopped (slice_get results k)) (is_silent (trace_of k rest)) (ap is_stopped r_at) (ap is_silent none)))

  -- calls of jobs in lanes may come, where each job asked for its own
  lanes_allowed : (dead : List ℕ) (seen told : List Told) (m : Held) → Kept codec spelled tracks opening past jobs dead seen m → Replied m told → AreAmong dead (gone told)
      → All IsOwned told → All (IsWithin jobs) told → AreShort told → InTurn lanes told → ((d : Told) → Contains seen d → All (IsBefore lanes d) told)
      → ((k : ℕ) (job : Job) → slice_get jobs k ≡ Some job → AskedFrom codec job (stage_of codec job (trace_of k seen)) (trace_of k told))
      → ((k : ℕ) (job : Job) (r : Driven Outcome) → slice_get jobs k ≡ Some job → slice_get results k ≡ Some r → ComesOut codec job (trace_of k (seen ++ told)) r)
      → AreAllowed codec jobs dead (stopped_before results (length jobs)) seen told
  lanes_allowed dead seen [] m kept replied among owned within short turn before asked ends = λ k at. gone_stopped results [] (length jobs) k (among k at)
  lanes_allowed dead seen (e ∷ told) m kept replied among owned within short turn before asked ends =
      let (number, mine) = All-head IsOwned e told owned in
      let less : number < length jobs = All-head (IsWithin jobs) e told within number mine in
      let (job, at) = item_at jobs jobs number refl less in
      let now : List ℕ = gone (e ∷ told) in
      let then : Kept codec spelled tracks opening past jobs now seen m = drop_kept codec spelled tracks opening past jobs dead now seen m among kept in
      let alive : Contains now number → ⊥ = λ there.
      let silent = (both_true (is_stopped (slice_get results number)) (is_silent (trace_of number (e ∷ told))) (passes (λ i. is_stopped (slice_get results i) && is_silent (trace_of i (e ∷ told))) (length jobs) number there).1).1 in
      true≢false (sym silent ∙ ap (λ o. is_silent (cons_option o (trace_of number told))) (exchange_of_own number e mine)) in
      let may : IsAllowed codec jobs now seen e = record {
        number = number;
        job = job;
        own = mine;
        is_job = at;
        alive = alive;
        asked = (own number job mine at).0;
        spares = spares seen (e ∷ told) m number job e.call at (then.claims number job at alive) (own number job mine at).0 (late number mine) (early number mine) ends;
        short = short e (Contains-here e told);
      } in (
        now,
        among,
        inl may,
        lanes_allowed now (seen ++ e ∷ []) told (after_told m e) (step_kept codec spelled tracks laws opening past jobs now seen m e then (inl may) replied.0) replied.1 (gone_later results e told (length jobs))
            (All-tail IsOwned e told owned) (All-tail (IsWithin jobs) e told within) (λ d there. short d (Contains-there e told d there)) turn.1 pairs (next number mine)
            (λ k j r j_at r_at. subst (λ t. ComesOut codec j (trace_of k t) r) (sym (append_assoc seen (e ∷ []) told)) (ends k j r j_at r_at)),
      )
    where
      -- what a job asks from the call on, where it made the call
      own : (k : ℕ) (j : Job) → e.job ≡ Some k → slice_get jobs k ≡ Some j → AskedFrom codec j (stage_of codec j (trace_of k seen)) (record { call = e.call; reply = e.reply } ∷ trace_of k told)
      own k j by_it j_at = subst (λ o. AskedFrom codec j (stage_of codec j (trace_of k seen)) (cons_option o (trace_of k told))) (exchange_of_own k e by_it) (asked k j j_at)

      -- and after it
      next : (number : ℕ) → e.job ≡ Some number → (k : ℕ) (j : Job) → slice_get jobs k ≡ Some j → AskedFrom codec j (stage_of codec j (trace_of k (seen ++ e ∷ []))) (trace_of k told)
      next number mine k j j_at = elim (cases_eq number k) [
        | inl same ↦
            let by_it = mine ∙ ap Some same in
            subst (λ s. AskedFrom codec j s (trace_of k told)) (sym (stage_of-own codec j k seen e by_it)) (own k j by_it j_at).1
        | inr apart ↦
            let others : e.job ≡ Some k → ⊥ = λ by_it. apart (same_Some number k (sym mine ∙ by_it)) in
            subst (λ s. AskedFrom codec j s (trace_of k told)) (sym (stage_of-other codec j k seen e others))
            (subst (λ o. AskedFrom codec j (stage_of codec j (trace_of k seen)) (cons_option o (trace_of k told))) (exchange_of_other k e others) (asked k j j_at))
      ]

      -- the calls before come in turn with those after
      pairs : (d : Told) → Contains (seen ++ e ∷ []) d → All (IsBefore lanes d) told
      pairs d there = elim (Contains-append_cases seen (e ∷ []) d there) [
        | inl sooner ↦ All-tail (IsBefore lanes d) e told (before d sooner)
        | inr last ↦ elim (Contains-cons e [] d last) [
          | inl same ↦ subst (λ x. All (IsBefore lanes x) told) same turn.0
          | inr none ↦ absurd (Contains-nil d none)
        ]
      ]

      -- a job before this one in its lane makes none of the calls from here on
      late : (number : ℕ) → e.job ≡ Some number → (k : ℕ) → k < number → lanes k ≡ lanes number → trace_of k (e ∷ told) ≡ []
      late number mine k less same =
          none_made k (e ∷ told)
          (All-cons (λ d. d.job ≡ Some k → ⊥) e told (λ by_it. let it = same_Some number k (sym mine ∙ by_it) in omega (arith, it, less))
          (All-weaker (IsBefore lanes e) (λ d. d.job ≡ Some k → ⊥) (λ d comes by_it. let most = comes number k mine by_it (sym same) in omega (arith, most, less)) told turn.0))

      -- a job after this one in its lane has made none yet
      early : (number : ℕ) → e.job ≡ Some number → (k : ℕ) → number < k → lanes k ≡ lanes number → trace_of k seen ≡ []
      early number mine k less same =
          none_made k seen
          (All-weaker (Contains seen) (λ d. d.job ≡ Some k → ⊥)
          (λ d there by_it. let most = All-head (IsBefore lanes d) e told (before d there) k number by_it mine same in omega (arith, most, less)) seen (All-contains_itself seen))

-- each call of jobs that were driven in lanes may come, from where what is kept holds: those that were stopped are dropped before the next one of their lane begins
pub turns_allowed : {F : Type 0} (codec : Codec F) (spelled : Spelled) (tracks : Tracking F) → CodecLaws codec spelled tracks → (opening : Held) (past : History) (lanes : ℕ → ℕ) (jobs : List Job)
    → TakeTheirLane lanes jobs → (results : List (Driven Outcome)) (told : List Told) → Kept codec spelled tracks opening past jobs [] [] opening → Replied opening told
    → All IsOwned told → All (IsWithin jobs) told → All Suits told → InTurn lanes told → AreDriven codec jobs results told → AreAllowed codec jobs [] (stopped_before results (length jobs)) [] told
turns_allowed codec spelled tracks laws opening past lanes jobs takes results told begins replied owned within suit turn driven =
    lanes_allowed codec spelled tracks laws opening past lanes jobs takes results driven.one_each [] [] told opening begins replied (λ k none. absurd (Contains-nil k none)) owned within (short_from_suits told suit) turn
    (λ d none. absurd (Contains-nil d none)) asked (λ k job r at r_at. (driven.driven k job r at r_at).ends)
  where
    asked : (k : ℕ) (job : Job) → slice_get jobs k ≡ Some job → AskedFrom codec job (first_stage job) (trace_of k told)
    asked k job at =
        let there = item_at jobs results k (sym driven.one_each) (slice_get_within jobs k job at) in
        (driven.driven k job there.0 at there.1).asked
