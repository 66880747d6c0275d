-- A run whose commands are done one after the other keeps its promise: what each of them tells.
use Rattle.std.proofs.Common.{◌≡◌, ◌⊎◌, inl, inr, ℕ, zero, suc, ◌+◌, ◌<◌, ◌≤◌, ◌^◌, List, [], ◌∷◌, ◌++◌, Option, Some, None, Bool, true, false, cond, length, drop, nat_lt, append_assoc, refl, sym, ◌∙◌, ap, subst, arith}
use Rattle.std.specs.Prelude.{slice_get, get_or, All, option_and_then, Contains, map as list_map}
use Rattle.std.proofs.lemmas.Bool.{true≢false, ltb-true, ltb-false}
use Rattle.std.proofs.lemmas.List.{append-nil}
use Rattle.std.proofs.lemmas.Option.{none-some, same_Some, slice_get_within}
use Rattle.std.proofs.lemmas.List.Elements.{All-nil, All-cons, All-head, All-tail, All-contains, All-contains_itself, All-weaker, Contains-append_left, Contains-append_right, filter_map-append}
use Rattle.std.specs.List.{cons_option}
use Rattle.ts_base.specs.Held.{Held}
use Rattle.ts_base.specs.declared.keys.Key.{Key}
use Rattle.ts_base.specs.declared.heads.Stop.TheVariants as stop
use Rattle.ts_cond.specs.declared.query.Query.{Query}
use Rattle.ts_store.specs.Journals.{held_after}
use Rattle.ts_store.specs.declared.journal.Entry.{Entry}
use Rattle.ts_store.specs.Calls.{is_no_memory}
use Rattle.ts_model.specs.declared.commands.Job.{Job}
use Rattle.ts_model.specs.declared.commands.Line.{Line}
use Rattle.ts_model.specs.declared.commands.Command.{Command}
use Rattle.ts_model.specs.declared.commands.Command.TheVariants.{Create, Evolve, Write, Read, Delete, Consolidate, Vacuum, Unlock, Fragments}
use Rattle.ts_model.specs.declared.answers.Driven.{Driven}
use Rattle.ts_model.specs.declared.answers.Driven.TheVariants.{Done, Stopped}
use Rattle.ts_model.specs.declared.answers.Outcome.{Outcome}
use Rattle.ts_model.specs.declared.answers.Outcome.TheVariants as outcome
use Rattle.ts_model.specs.declared.answers.Refusal.{Refusal}
use Rattle.ts_model.specs.declared.deeds.Deed.{Deed}
use Rattle.ts_model.specs.Deeds.{History, IsHistory, IsNewKey}
use Rattle.ts_model.specs.Driven.{AskedFrom, IsDriven}
use Rattle.ts_model.proofs.Asked.{starts_unleased}
use Rattle.ts_model.specs.Jobs.{key_of, looks_at}
use Rattle.ts_model.specs.Stages.{first_stage}
use Rattle.ts_model.specs.Stops.{Uncut, cuts}
use Rattle.ts_model.specs.States.{Exchange}
use Rattle.ts_model.specs.Told.{Told, entries_of, entry_of, exchange_of, held_told, trace_of, grown, deed_told, deed_in, schemas_found, history_from, history_told, Replied, Suits}
use Rattle.ts_model.proofs.ListLemmas.{Contains-cons, Contains-slice_get, Contains-filter_map, Contains-here, Contains-nil, Contains-there, filter_map-Contains}
use Rattle.ts_model.proofs.Traces.{exchange_of_other, exchange_of_own, history_told-append, trace_of-append}
use Rattle.ts_law.specs.Ends.{IsTrueEnd, IsTrueOver, IsUndone}
use Rattle.ts_law.specs.Bounds.{FewGets, gets_among}
use Rattle.ts_law.specs.Changes.{IsOwn, OnlyLooks, RemovesNone}
use Rattle.ts_law.specs.Refusals.{IsNoFault, IsRefusedFor}
use Rattle.ts_law.specs.Fresh.{IsFreshSeed, IsJobOf, AreJobsOf, Numbered, command_at, id_of, job_from, lanes_of, seed_in, lane_of as line_lane}
use Rattle.ts_law.specs.Lanes.{lane_by, one_lane, IsOwned, IsWithin, IsBefore, InTurn}
use Rattle.ts_law.specs.Courses.{IsSegment}
use Rattle.ts_law.specs.Sweeps.{IsNoSweep}
use Rattle.ts_law.specs.Kept.{HeldSince}
use Rattle.ts_law.specs.Runs.{AreDriven, AreSegments, IsTrueRun}
use Rattle.ts_law.proofs.TrueOver.{true_end_of}
use Rattle.ts_law.specs.Stands.{Stands}
use Rattle.ts_law.proofs.Journals.{journal_held}
use Rattle.ts_law.proofs.KeptLaws.{Replied-front}
use Rattle.ts_law.proofs.Lists.{item_at}
use Rattle.ts_law.proofs.LineJobs.{AreInOrder, IsFitItem, seed_of_id}
use Rattle.ts_law.proofs.Lanes.{in_turn_lanes}
use Rattle.ts_law.proofs.TrueRuns.{true_run}
use Rattle.ts_top.proofs.DeedsTold.{and_then_some, created_tells, deed_own, deleted_tells, evolved_tells, none_split, one_grown, written_tells}
use Rattle.ts_top.specs.Promise.{CameOut, Extends, HasNoLease, IsDone, IsDeedOf, IsLineDone, LeavesAll, LeavesOthers, Tells, IsStored}
use Rattle.ts_top.specs.Runners.{RunFetch, run_codec, run_most, run_spelled, run_tracks}
use Rattle.ts_top.specs.Sweeps.{MaySweep, dead_leases}
use Rattle.ts_top.proofs.RunCodec.{run_laws}
use Rattle.ts_top.proofs.Places.{Early, Late, cancelled, fronts, goes_on, stands_after}
use Rattle.ts_top.proofs.GetsTold.{gets_told}
use Rattle.ts_top.proofs.LeasesTold.{EndsWell, no_lease}
use Rattle.ts_top.proofs.MergesTold.{calls_in, merged_tells, schema_found}
use Rattle.ts_top.proofs.Removed.{Replied-back}
use Rattle.ts_top.proofs.StaysTold.{keeps_held, leaves_all, leaves_but_own, leaves_living, leaves_others}
use Rattle.ts_top.proofs.StopsTold.{keeps_stop}
use Rattle.ts_top.proofs.SweepsTold.{vacuumed_tells}
use Rattle.ts_top.proofs.UnlocksTold.{listed_tells, unlocked_tells}
use Rattle.ts_top.proofs.ReadsTold.{answers_told}
use Rattle.ts_top.proofs.RefusalsTold.{DoesNone, IsQuiet, none_first, nothing_done, refusal_tells}

-- ---- what an end tells

none_in : {X : Type 0} (xs : List X) → ((x : X) → Contains xs x → ⊥) → xs ≡ []
none_in [] none = refl
none_in (x ∷ xs) none = absurd (none x (Contains-here x xs))

-- an item behind a list, and then more
one_more : {A : Type 0} (h : List A) (x : A) (front : List A) → (h ++ x ∷ []) ++ front ≡ h ++ x ∷ front
one_more [] x front = refl
one_more (z ∷ h) x front = ap (λ l. z ∷ l) (one_more h x front)

-- the same where what comes first is one item, under another name
first_put : {A : Type 0} (h : List A) (x y : A) (new front : List A) → new ≡ x ∷ [] → x ≡ y → (h ++ new) ++ front ≡ h ++ y ∷ front
first_put h x y new front one same = ap (λ l. (h ++ l) ++ front) one ∙ one_more h x front ∙ ap (λ z. h ++ z ∷ front) same

-- the place of an item of a part of a list
place_of : {A : Type 0} (a early : List A) (e : A) (late b : List A) → a ++ (early ++ e ∷ late) ++ b ≡ (a ++ early) ++ e ∷ (late ++ b)
place_of [] [] e late b = refl
place_of [] (x ∷ early) e late b = ap (λ l. x ∷ l) (place_of [] early e late b)
place_of (x ∷ a) early e late b = ap (λ l. x ∷ l) (place_of a early e late b)

module _ (jobs : List Job) (past : History) (a c told : List Told) (parts : told ≡ a ++ c) (number : ℕ) (early : Early number a) where
  -- the calls of the job come after those of the jobs before it
  since : (before : List Told) (x : Told) (later : List Told) → told ≡ before ++ x ∷ later → x.job ≡ Some number → is_no_memory x.reply ≡ false → Extends (history_told jobs past a) (history_told jobs past before)
  since before x later place own memory = let (d, behind) = stands_after jobs past a c told parts number early before x later place own in goes_on jobs past a d before behind

  module _ (m : Held) (lane : Option ℕ → ℕ) (job : Job) (is_job : slice_get jobs number ≡ Some job) (mine : (e : Told) → Contains c e → e.job ≡ Some number) (suits : All Suits c) (replied : Replied (held_told m a) c)
      (stood : (front back : List Told) → told ≡ front ++ back → Stands run_spelled (held_told m front) (history_told jobs past front)) where
    -- what an end tells of the command
    abbrev TellsOf : Outcome → Command → Type 0
    TellsOf end command = Tells (calls_in m lane a c) (history_told jobs past a) (history_told jobs past told) (key_of job) end command

    -- an end that is true of a job tells so of its command
    end_tells : (end : Outcome) → (DoesNone job.command → (history_told jobs past told ≡ history_told jobs past a) × IsNewKey (history_told jobs past told) (key_of job))
        → ((front mid : List Told) → told ≡ front ++ mid → All (IsNoSweep jobs) mid → HeldSince (held_told m front) (held_told m told)) → (EndsWell end → HasNoLease (calls_in m lane a c) (key_of job) job.command)
        → (end ≡ outcome.OutOfMemory → IsUndone (history_told jobs past told) job)
        → ((r : Refusal) → end ≡ outcome.Refused r → IsRefusedFor run_spelled m jobs past told number job r × (IsQuiet r → history_told jobs past told ≡ history_told jobs past a))
        → IsSegment run_codec job (trace_of number c) (Done end) → IsTrueEnd run_spelled m jobs past told number job end → TellsOf end job.command
    end_tells outcome.Created still stays left short cause segment is = created_tells jobs past told number (history_told jobs past a) since job is
    end_tells (outcome.Evolved k) still stays left short cause segment (same, is) = evolved_tells jobs past told number (history_told jobs past a) since job k same is
    end_tells (outcome.Written f) still stays left short cause segment (same, is) = written_tells jobs past told number (history_told jobs past a) since job f same is
    end_tells (outcome.Deleted f) still stays left short cause segment (same, is) = deleted_tells jobs past told number (history_told jobs past a) since job f same is
    end_tells (outcome.Read answer) still stays left short cause segment (from, to, query, reads, is) =
        let same = (still (subst DoesNone (sym reads) tt)).0 in
        subst (TellsOf (outcome.Read answer)) (sym reads) (
          answers_told m jobs past lane a c told parts number early same from to query answer is,
          subst (HasNoLease (calls_in m lane a c) (key_of job)) reads (left tt),
        )
    end_tells (outcome.Consolidated f count) still stays left short cause segment (undone, is) =
        let same = (still (subst DoesNone (sym is.merges) tt)).0 in
        let found = schema_found m jobs past lane a c told parts number early same job (ap (looks_at job) is.merges) is.found in
        subst (TellsOf (outcome.Consolidated f count)) (sym is.merges)
        (same, undone, found.0, found.1, merged_tells m jobs past lane a c told parts number early same stays job is_job mine f count is, subst (HasNoLease (calls_in m lane a c) (key_of job)) is.merges (left tt))
    end_tells (outcome.Vacuumed count) still stays left short cause segment (undone, is) =
        let same = (still (subst DoesNone (sym is.vacuums) tt)).0 in
        let found = schema_found m jobs past lane a c told parts number early same job (ap (looks_at job) is.vacuums) is.found in
        subst (TellsOf (outcome.Vacuumed count)) (sym is.vacuums) (
          same,
          undone,
          found.0,
          found.1,
          vacuumed_tells m jobs past lane a c told parts number early job mine suits replied stood count is (left tt) segment,
          subst (HasNoLease (calls_in m lane a c) (key_of job)) is.vacuums (left tt),
        )
    end_tells (outcome.Unlocked count) still stays left short cause segment (undone, is) =
        subst (TellsOf (outcome.Unlocked count)) (sym is.unlocks)
        ((still (subst DoesNone (sym is.unlocks) tt)).0, undone, unlocked_tells m lane a c number job mine suits replied is.seed is.lane count is.unlocks segment)
    end_tells (outcome.Listed names) still stays left short cause segment (undone, is) =
        subst (TellsOf (outcome.Listed names)) (sym is.lists) ((still (subst DoesNone (sym is.lists) tt)).0, undone, listed_tells m lane a c number job mine suits replied names is.lists segment)
    end_tells (outcome.Refused r) still stays left short cause segment is = refusal_tells m jobs past lane a c told parts number early job r (λ quiet. (still quiet).1) is (cause r refl).0 (cause r refl).1
    end_tells outcome.OutOfMemory still stays left short cause segment is = short refl

-- such a command does no deed
pub no_deed : (before h : History) (k : Key) (c : Command) (d : Deed) → DoesNone c → IsDeedOf before h k c d → ⊥
no_deed before h k (Create made) d none is = none
no_deed before h k (Evolve change) d none is = none
no_deed before h k (Write columns) d none is = none
no_deed before h k (Delete text) d none is = none
no_deed before h k (Read from to query) d none is = is
no_deed before h k (Consolidate from to limits) d none is = is
no_deed before h k Vacuum d none is = is
no_deed before h k (Unlock seed lane) d none is = is
no_deed before h k Fragments d none is = is

-- a job of a line is the one that is made of it at its stamp
pub same_job : (gives : ℕ → Bool) (id : ℕ) (line : Line) (job : Job) → IsJobOf gives id line job → job ≡ job_from id line job.at
same_job gives id line job is =
    let step : (j : Job) (c : Command) → j.command ≡ c → j.id ≡ id → j.stop ≡ (job_from id line job.at).stop → j ≡ record { command = c; at = j.at; id = id; stop = (job_from id line job.at).stop } = λ j c a b d. rw (← a, ← b, ← d) refl in
    step job (command_at (seed_in id) line job.at) is.command is.id_is is.stop

-- a deed came by a call of a job, after these deeds
record Comes (jobs : List Job) (h : History) (seen told : List Told) (front : List Deed) (d : Deed) : Type 0 where
  early : List Told
  by_it : Told
  late : List Told
  parts : told ≡ early ++ by_it ∷ late
  history : history_from jobs h seen early ≡ h ++ front
  number : ℕ
  mine : by_it.job ≡ Some number
  job : Job
  is_job : slice_get jobs number ≡ Some job
  deed : deed_in (h ++ front) job (schemas_found (trace_of number (seen ++ early))) by_it.call ≡ Some d

module _ (jobs : List Job) where
  -- what came later came after a call and its deed
  further : (h : History) (seen told : List Told) (e : Told) (front later : List Deed) (d : Deed) → (h ++ grown jobs h seen e) ++ later ≡ h ++ front
      → Comes jobs (h ++ grown jobs h seen e) (seen ++ e ∷ []) told later d → Comes jobs h seen (e ∷ told) front d
  further h seen told e front later d same is = record {
    early = e ∷ is.early;
    by_it = is.by_it;
    late = is.late;
    parts = ap (λ l. e ∷ l) is.parts;
    history = is.history ∙ same;
    number = is.number;
    mine = is.mine;
    job = is.job;
    is_job = is.is_job;
    deed = subst (λ g. deed_in g is.job (schemas_found (trace_of is.number (seen ++ e ∷ is.early))) (is.by_it).call ≡ Some d) same
        (subst (λ t. deed_in ((h ++ grown jobs h seen e) ++ later) is.job (schemas_found (trace_of is.number t)) (is.by_it).call ≡ Some d) (append_assoc seen (e ∷ []) is.early) is.deed);
  }

  -- calls append deeds, each of which came by one of them
  record AreOwned (h : History) (seen told : List Told) : Type 0 where
    deeds : List Deed
    goes_on_so : history_from jobs h seen told ≡ h ++ deeds
    came : (front back : List Deed) (d : Deed) → deeds ≡ front ++ d ∷ back → Comes jobs h seen told front d

  module _ (h : History) (seen told : List Told) (e : Told) (later : AreOwned (h ++ grown jobs h seen e) (seen ++ e ∷ []) told) where
    abbrev new : List Deed
    new = grown jobs h seen e

    -- the deed of the first call
    first_deed : (d : Deed) → deed_told jobs h seen e ≡ Some d → Comes jobs h seen (e ∷ told) [] d
    first_deed d is =
        let of_job : ℕ → Job → Option Deed = λ number job. deed_in h job (schemas_found (trace_of number seen)) e.call in
        let (number, mine, by_number) = and_then_some (λ number. option_and_then (of_job number) (slice_get jobs number)) e.job d is in
        let (job, job_at, by_job) = and_then_some (of_job number) (slice_get jobs number) d by_number in
        record {
          early = [];
          by_it = e;
          late = told;
          parts = refl;
          history = sym (append-nil h);
          number = number;
          mine = mine;
          job = job;
          is_job = job_at;
          deed = subst (λ g. deed_in g job (schemas_found (trace_of number (seen ++ []))) e.call ≡ Some d) (sym (append-nil h))
              (subst (λ t. deed_in h job (schemas_found (trace_of number t)) e.call ≡ Some d) (sym (append-nil seen)) by_job);
        }

    by_first : (new ≡ []) ⊎ ((x : Deed) × (deed_told jobs h seen e ≡ Some x) × (new ≡ x ∷ [])) → (front back : List Deed) (d : Deed) → new ++ later.deeds ≡ front ++ d ∷ back → Comes jobs h seen (e ∷ told) front d
    by_first (inl none) front back d is =
        further h seen told e front front d (ap (λ l. l ++ front) (ap (λ l. h ++ l) none ∙ append-nil h)) (later.came front back d (sym (ap (λ l. l ++ later.deeds) none) ∙ is))
    by_first (inr (x, said, one)) [] back d is =
        let same : x ≡ d = ap (λ l. get_or l 0 x) (sym (ap (λ l. l ++ later.deeds) one) ∙ is) in
        first_deed d (said ∙ ap Some same)
    by_first (inr (x, said, one)) (y ∷ front) back d is =
        let whole : x ∷ later.deeds ≡ y ∷ front ++ d ∷ back = sym (ap (λ l. l ++ later.deeds) one) ∙ is in
        let same : x ≡ y = ap (λ l. get_or l 0 x) whole in
        let rest : later.deeds ≡ front ++ d ∷ back = ap (drop 1) whole in
        further h seen told e (y ∷ front) front d
        (first_put h x y new front one same) (later.came front back d rest)

    with_first : AreOwned h seen (e ∷ told)
    with_first = record {
      deeds = new ++ later.deeds;
      goes_on_so = later.goes_on_so ∙ append_assoc h new later.deeds;
      came = by_first (one_grown e.changed (deed_told jobs h seen e));
    }

  own_deeds : (h : History) (seen told : List Told) → AreOwned h seen told
  own_deeds h seen [] = record { deeds = []; goes_on_so = sym (append-nil h); came = λ front back d is. absurd (none_split front back d is) }
  own_deeds h seen (e ∷ told) = with_first h seen told e (own_deeds (h ++ grown jobs h seen e) (seen ++ e ∷ []) told)

-- a job that made no call did no deed
silent_deeds : (jobs : List Job) (i : ℕ) (a c told : List Told) (h : History) → told ≡ a ++ c → Early (i + 1) c → Late i c → (own : AreOwned jobs h a c) → trace_of i told ≡ [] → own.deeds ≡ []
silent_deeds jobs i a c told h parts below above own none = none_first own.deeds (λ back d split. no_call [] d (own.came [] back d split))
  where
    no_call : (front : List Deed) (d : Deed) → Comes jobs h a c front d → ⊥
    no_call front d came =
        let e = came.by_it in
        let x : Exchange = record { call = e.call; reply = e.reply } in
        let among : Contains c e = subst (λ l. Contains l e) (sym came.parts) (Contains-append_right came.early (e ∷ came.late) e (Contains-here e came.late)) in
        let at_i : came.number ≡ i = omega (arith, below e among came.number came.mine, above e among came.number came.mine) in
        let there : Contains told e = subst (λ l. Contains l e) (sym parts) (Contains-append_right a c e among) in
        Contains-nil x (subst (λ t. Contains t x) none (Contains-filter_map (exchange_of i) told e x there (exchange_of_own i e (came.mine ∙ ap Some at_i))))

-- ---- the first commands of a run are a run

pub all_front : {X : Type 0} (P : X → Type 0) (a b : List X) → All P (a ++ b) → All P a
all_front P [] b all = All-nil P
all_front P (x ∷ a) b all = All-cons P x a (All-head P x (a ++ b) all) (all_front P a b (All-tail P x (a ++ b) all))

pub all_back : {X : Type 0} (P : X → Type 0) (a b : List X) → All P (a ++ b) → All P b
all_back P [] b all = all
all_back P (x ∷ a) b all = all_back P a b (All-tail P x (a ++ b) all)

turn_front : (lanes : ℕ → ℕ) (a b : List Told) → InTurn lanes (a ++ b) → InTurn lanes a
turn_front lanes [] b turn = tt
turn_front lanes (e ∷ a) b turn = (all_front (IsBefore lanes e) a b turn.0, turn_front lanes a b turn.1)

-- the results of the first commands, as if there were no memory for the others
abbrev short_after : List (Driven Outcome) → ℕ → List (Driven Outcome)
short_after [] n = []
short_after (r ∷ rs) zero = Done outcome.OutOfMemory ∷ short_after rs zero
short_after (r ∷ rs) (suc n) = r ∷ short_after rs n

short_count : (rs : List (Driven Outcome)) (n : ℕ) → length (short_after rs n) ≡ length rs
short_count [] n = refl
short_count (r ∷ rs) zero = ap suc (short_count rs zero)
short_count (r ∷ rs) (suc n) = ap suc (short_count rs n)

short_at : (rs : List (Driven Outcome)) (n i : ℕ) (r : Driven Outcome) → i < n → slice_get rs i ≡ Some r → slice_get (short_after rs n) i ≡ Some r
short_at [] n i r less is = absurd (none-some r is)
short_at (x ∷ rs) zero i r less is = absurd (omega (arith, less))
short_at (x ∷ rs) (suc n) zero r less is = is
short_at (x ∷ rs) (suc n) (suc i) r less is = short_at rs n i r (omega (arith, less)) is

-- at that place there was none
short_there : (rs : List (Driven Outcome)) (n : ℕ) (r : Driven Outcome) → slice_get rs n ≡ Some r → slice_get (short_after rs n) n ≡ Some (Done outcome.OutOfMemory)
short_there [] n r is = absurd (none-some r is)
short_there (x ∷ rs) zero r is = refl
short_there (x ∷ rs) (suc n) r is = short_there rs n r is

short_cases : (rs : List (Driven Outcome)) (n i : ℕ) (r : Driven Outcome) → slice_get (short_after rs n) i ≡ Some r → ((i < n) × (slice_get rs i ≡ Some r)) ⊎ ((n ≤ i) × (Done outcome.OutOfMemory ≡ r))
short_cases [] n i r is = absurd (none-some r is)
short_cases (x ∷ rs) zero zero r is = inr (omega arith, same_Some (Done outcome.OutOfMemory) r is)
short_cases (x ∷ rs) zero (suc i) r is = elim (short_cases rs zero i r is) [ inl h ↦ absurd (omega (arith, h.0)) | inr h ↦ inr (omega arith, h.1) ]
short_cases (x ∷ rs) (suc n) zero r is = inl (omega arith, is)
short_cases (x ∷ rs) (suc n) (suc i) r is = elim (short_cases rs n i r is) [ inl h ↦ inl (omega (arith, h.0), h.1) | inr h ↦ inr (omega (arith, h.0), h.1) ]

-- a job that made none of the calls has no trace there
pub no_trace : (number : ℕ) (told : List Told) → ((e : Told) → Contains told e → e.job ≡ Some number → ⊥) → trace_of number told ≡ []
no_trace number [] none = refl
no_trace number (e ∷ told) none =
    ap (λ o. cons_option o (trace_of number told)) (exchange_of_other number e (none e (Contains-here e told))) ∙ no_trace number told (λ x at. none x (Contains-there e told x at))

-- a job may have run short before its first call
short_driven : (job : Job) → IsDriven run_codec job [] (Done outcome.OutOfMemory)
short_driven job = record { asked = tt; uncut = tt; ends = inr (refl, (starts_unleased RunFetch job, refl)) }

-- calls in turn, cut at the first one of a job from a number on
pub cut : (n : ℕ) (told : List Told) → All IsOwned told → InTurn one_lane told → (a : List Told) × (b : List Told) × (told ≡ a ++ b) × Early n a × Late n b
cut n [] owned turn = ([], [], refl, λ e at. absurd (Contains-nil e at), λ e at. absurd (Contains-nil e at))
cut n (e ∷ told) owned turn = by (cut n told (All-tail IsOwned e told owned) turn.1) (nat_lt number n) refl
  where
    number : ℕ
    number = (All-head IsOwned e told owned).0

    mine : e.job ≡ Some number
    mine = (All-head IsOwned e told owned).1

    by : (a : List Told) × (b : List Told) × (told ≡ a ++ b) × Early n a × Late n b → (b : Bool) → nat_lt number n ≡ b → (a : List Told) × (b : List Told) × (e ∷ told ≡ a ++ b) × Early n a × Late n b
    by (a, b, parts, early, late) true less = (
      e ∷ a,
      b,
      ap (λ l. e ∷ l) parts,
      λ x at k is. elim (Contains-cons e a x at) [
        | inl same ↦ subst (λ q. q < n) (same_Some number k (sym mine ∙ ap (λ (t : Told). t.job) same ∙ is)) (ltb-true number n less)
        | inr later ↦ early x later k is
      ],
      late,
    )
    by rest false not_less =
        let from : n ≤ number = ltb-false number n not_less in (
          [],
          e ∷ told,
          refl,
          λ x at. absurd (Contains-nil x at),
          λ x at k is. elim (Contains-cons e told x at) [
            | inl same ↦ subst (λ q. n ≤ q) (same_Some number k (sym mine ∙ ap (λ (t : Told). t.job) same ∙ is)) from
            | inr later ↦ let more = All-contains (IsBefore one_lane e) told x turn.0 later number k mine is refl in omega (arith, from, more)
          ],
        )

module _ (gives : ℕ → Bool) (seed : ℕ) (items : List Numbered) (jobs : List Job) (past : History) (m : Held) (told : List Told) (results : List (Driven Outcome))
    (are : AreJobsOf gives seed items jobs) (order : AreInOrder items) (stands : IsStored m past) (fresh : IsFreshSeed m past seed) (seed_fits : seed < 2 ^ 64)
    (replied : Replied m told) (suit : All Suits told) (owned : All IsOwned told) (within : All (IsWithin jobs) told) (in_turn : InTurn one_lane told) (driven : AreDriven run_codec jobs results told) where
  -- the calls of the commands before a number
  abbrev calls_before : ℕ → List Told
  calls_before n = (cut n told owned in_turn).0

  -- the history after so many commands
  abbrev pub after : ℕ → History
  after n = history_told jobs past (calls_before n)

  -- by these calls the first commands came out as they did
  front_driven : (n : ℕ) → AreDriven run_codec jobs (short_after results n) (calls_before n)
  front_driven n =
      let (a, b, parts, early, late) = cut n told owned in_turn in
      record {
        one_each = short_count results n ∙ driven.one_each;
        driven = λ number job result at result_at. elim (short_cases results n number result result_at) [
          | inl h ↦
              let same : trace_of number told ≡ trace_of number a =
              ap (trace_of number) parts ∙ trace_of-append number a b ∙ ap (λ t. trace_of number a ++ t) (no_trace number b (λ e among mine. let from = late e among number mine in omega (arith, from, h.0)))
              ∙ append-nil (trace_of number a) in
              subst (λ t. IsDriven run_codec job t result) same (driven.driven number job result at h.1)
          | inr h ↦
              subst (λ r. IsDriven run_codec job (trace_of number a) r) h.1
              (subst (λ t. IsDriven run_codec job t (Done outcome.OutOfMemory)) (sym (no_trace number a (λ e among mine. let less = early e among number mine in omega (arith, less, h.0)))) (short_driven job))
        ];
      }

  front_run : (n : ℕ) → IsTrueRun run_spelled (lanes_of items) jobs past m (calls_before n) (short_after results n)
  front_run n =
      let (a, b, parts, early, late) = cut n told owned in_turn in
      true_run run_codec run_spelled run_tracks run_laws gives seed items jobs past m a (short_after results n) are order stands fresh seed_fits
      (Replied-front m a b (subst (Replied m) parts replied)) (all_front Suits a b (subst (All Suits) parts suit)) (all_front IsOwned a b (subst (All IsOwned) parts owned))
      (all_front (IsWithin jobs) a b (subst (All (IsWithin jobs)) parts within)) (in_turn_lanes (lanes_of items) a (turn_front one_lane a b (subst (InTurn one_lane) parts in_turn))) (front_driven n)

  -- the lane of each call is that of its command
  abbrev lane : Option ℕ → ℕ
  lane = lane_by (lanes_of items)

  -- the journal after so many commands
  abbrev pub entered_by : ℕ → List Entry
  entered_by n = entries_of lane (calls_before n)

  -- the objects stand for the history after so many commands
  pub stood_by : (n : ℕ) → IsStored (held_after m (entered_by n)) (after n)
  stood_by n = (front_run n).stands (calls_before n) [] (sym (append-nil (calls_before n)))

  -- the first calls are none, and the last are all
  pub no_calls : calls_before 0 ≡ []
  no_calls =
      let (a, b, parts, early, late) = cut 0 told owned in_turn in
      none_in a (λ e at. let less = early e at (own_of e at).0 (own_of e at).1 in omega (arith, less))
    where
      own_of : (e : Told) → Contains (calls_before 0) e → IsOwned e
      own_of e at = All-contains IsOwned (calls_before 0) e (all_front IsOwned (calls_before 0) (cut 0 told owned in_turn).1 (subst (All IsOwned) (cut 0 told owned in_turn).2 owned)) at

  pub all_calls : calls_before (length items) ≡ told
  all_calls =
      let (a, b, parts, early, late) = cut (length items) told owned in_turn in
      let none : b ≡ [] = none_in b (λ e at.
      let among : Contains told e = subst (λ l. Contains l e) (sym parts) (Contains-append_right a b e at) in
      let (number, mine) = All-contains IsOwned told e owned among in
      let less = All-contains (IsWithin jobs) told e within among number mine in
      let from = late e at number mine in
      omega (arith, less, from, are.one_each)) in
      sym (parts ∙ ap (λ l. a ++ l) none ∙ append-nil a)

  -- the entries of calls of one command have its lane
  entries_lane : (i : ℕ) (item : Numbered) → slice_get items i ≡ Some item → (c : List Told) → All IsOwned c → Early (i + 1) c → Late i c → All (λ (e : Entry). e.lane ≡ (item.line).lane) (entries_of lane c)
  entries_lane i item is_item c owns below above = All-weaker (Contains (entries_of lane c)) (λ (e : Entry). e.lane ≡ (item.line).lane) each (entries_of lane c) (All-contains_itself (entries_of lane c))
    where
      entry_lane : (b : Bool) (x y : Entry) → cond b None (Some x) ≡ Some y → x ≡ y
      entry_lane true x y is = absurd (none-some y is)
      entry_lane false x y is = same_Some x y is

      each : (y : Entry) → Contains (entries_of lane c) y → y.lane ≡ (item.line).lane
      each y at =
          let (e, among, is) = filter_map-Contains (entry_of lane) c y at in
          let (number, mine) = All-contains IsOwned c e owns among in
          let at_i : number ≡ i = omega (arith, below e among number mine, above e among number mine) in
          let same = entry_lane (is_no_memory e.reply) (record { lane = lane e.job; call = e.call; fate = e.fate }) y is in
          ap (λ (x : Entry). x.lane) (sym same) ∙ ap lane (mine ∙ ap Some at_i) ∙ ap line_lane is_item

  -- the deed of a call of one command, after the commands before it
  deed_is : (i : ℕ) (job : Job) → slice_get jobs i ≡ Some job → (a c b : List Told) → told ≡ a ++ c ++ b → Early i a → Early (i + 1) c → Late i c
      → (front : List Deed) (d : Deed) → Comes jobs (history_told jobs past a) a c front d → IsDeedOf (history_told jobs past a) (history_told jobs past a ++ front) (key_of job) job.command d
  deed_is i job is_job a c b parts early below from front d is =
      let e = is.by_it in
      let among : Contains c e = subst (λ l. Contains l e) (sym is.parts) (Contains-append_right is.early (e ∷ is.late) e (Contains-here e is.late)) in
      let at_i : is.number ≡ i = omega (arith, below e among is.number is.mine, from e among is.number is.mine) in
      let it : is.job ≡ job = same_Some is.job job (sym is.is_job ∙ ap (slice_get jobs) at_i ∙ is_job) in
      let mine : e.job ≡ Some i = is.mine ∙ ap Some at_i in
      let seen : List Told = a ++ is.early in
      let place : told ≡ seen ++ e ∷ (is.late ++ b) =
      parts ∙ ap (λ l. a ++ l ++ b) is.parts ∙ place_of a is.early e is.late b in
      let now : history_told jobs past seen ≡ history_told jobs past a ++ front = history_told-append jobs past a is.early ∙ is.history in
      let deed : deed_in (history_told jobs past a ++ front) job (schemas_found (trace_of i seen)) e.call ≡ Some d =
      subst (λ k. deed_in (history_told jobs past a ++ front) job (schemas_found (trace_of k seen)) e.call ≡ Some d) at_i
      (subst (λ j. deed_in (history_told jobs past a ++ front) j (schemas_found (trace_of is.number seen)) e.call ≡ Some d) it is.deed) in
      let own = deed_own gives seed items jobs past m told results are order stands fresh seed_fits replied suit owned within (in_turn_lanes (lanes_of items) told in_turn) driven
      seen (is.late ++ b) e place i job is_job mine (history_told jobs past a) (since jobs past a is.early seen refl i early) d (subst (λ h. deed_in h job (schemas_found (trace_of i seen)) e.call ≡ Some d) (sym now) deed) in
      subst (λ h. IsDeedOf (history_told jobs past a) h (key_of job) job.command d) now own

  -- a command was done between the commands before it and those after it
  pub is_done : AreSegments run_codec jobs results told → (i : ℕ) (item : Numbered) (result : Driven Outcome) → slice_get items i ≡ Some item → slice_get results i ≡ Some result
      → (calls : List Entry) × (entered_by (i + 1) ≡ entered_by i ++ calls) × IsLineDone gives seed (record { opening = held_after m (entered_by i); entries = calls }) (after i) (after (i + 1)) item result
  is_done segments i item result is_item result_at =
      let (a, b, parts, early, late) = cut i told owned in_turn in
      let (a', b', parts', early', late') = cut (i + 1) told owned in_turn in
      let apart : (x : Told) (xs : List Told) → b' ≡ x ∷ xs → Contains a x → ⊥ = λ x xs q among.
      let (number, mine) = All-contains IsOwned told x owned (subst (λ l. Contains l x) (sym parts) (Contains-append_left a b x among)) in
      let less = early x among number mine in
      let from = late' x (subst (λ l. Contains l x) (sym q) (Contains-here x xs)) number mine in
      omega (arith, less, from) in
      let (c, grows) = fronts a b a' b' (sym parts ∙ parts') apart in
      let behind : b ≡ c ++ b' = cancelled a b (c ++ b') (sym parts ∙ parts' ∙ ap (λ l. l ++ b') grows ∙ append_assoc a c b') in
      let (job, is_job) = item_at items jobs i (sym are.one_each) (slice_get_within items i item is_item) in
      let of_line = are.each i item job is_item is_job in
      let id : ℕ = id_of seed (item.line).lane item.number in
      let same = same_job gives id item.line job of_line in
      let own = own_deeds jobs (history_told jobs past a) a c in
      let deeds = own.deeds in
      let whole : history_told jobs past a' ≡ history_from jobs (history_told jobs past a) a c = ap (history_told jobs past) grows ∙ history_told-append jobs past a c in
      let place : told ≡ a ++ c ++ b' = parts ∙ ap (λ l. a ++ l) behind ∙ sym (append_assoc a c b') in
      let below : Early (i + 1) c = λ e among. early' e (subst (λ l. Contains l e) (sym grows) (Contains-append_right a c e among)) in
      let above : Late i c = λ e among. late e (subst (λ l. Contains l e) (sym behind) (Contains-append_left c b' e among)) in
      let of_job : (front back : List Deed) (d : Deed) → deeds ≡ front ++ d ∷ back → IsDeedOf (history_told jobs past a) (history_told jobs past a ++ front) (key_of job) job.command d = λ front back d split.
      deed_is i job is_job a c b' place early below above front d (own.came front back d split) in
      let undone : IsUndone (history_told jobs past a) job = (front_run i).answers a [] (sym (append-nil a)) i job outcome.OutOfMemory is_job (short_there results i result result_at) refl in
      let still : DoesNone job.command → (history_told jobs past a' ≡ history_told jobs past a) × IsNewKey (history_told jobs past a') (key_of job) = λ quiet.
      let none : deeds ≡ [] = none_first deeds (λ back d split. no_deed (history_told jobs past a) (history_told jobs past a ++ []) (key_of job) job.command d quiet (of_job [] back d split)) in
      let same : history_told jobs past a' ≡ history_told jobs past a = whole ∙ own.goes_on_so ∙ ap (λ l. history_told jobs past a ++ l) none ∙ append-nil (history_told jobs past a) in
      (same, subst (λ h. IsNewKey h (key_of job)) (sym same) undone) in
      let grows_by : history_told jobs past a' ≡ history_told jobs past a ++ deeds = whole ∙ own.goes_on_so in
      let silent : trace_of i a' ≡ [] → deeds ≡ [] = silent_deeds jobs i a c a' (history_told jobs past a) grows below above own in
      let stood : (front back : List Told) → a' ≡ front ++ back → IsStored (held_told m front) (history_told jobs past front) = λ front back split.
      subst (λ h. IsStored h (history_told jobs past front)) (sym (journal_held lane m front)) ((front_run (i + 1)).stands front back split) in
      let history : IsHistory (history_told jobs past a') = (stood a' [] (sym (append-nil a'))).history in
      let owns : All IsOwned c = all_back IsOwned a c (all_front IsOwned (a ++ c) b' (subst (All IsOwned) place owned)) in
      let mine : (e : Told) → Contains c e → e.job ≡ Some i = λ e among.
      let (number, is) = All-contains IsOwned c e owns among in
      is ∙ ap Some (let at_i : number ≡ i = omega (arith, below e among number is, above e among number is) in at_i) in
      let suits : All Suits c = all_back Suits a c (all_front Suits (a ++ c) b' (subst (All Suits) place suit)) in
      let replies : Replied (held_told m a) c = Replied-back m a c (subst (Replied m) grows (Replied-front m a' b' (subst (Replied m) parts' replied))) in
      let none_early : trace_of i a ≡ [] = no_trace i a (λ e among is. let less = early e among i is in omega (arith, less)) in
      let none_late : trace_of i b' ≡ [] = no_trace i b' (λ e among is. let more = late' e among i is in omega (arith, more)) in
      let traced : trace_of i told ≡ trace_of i c =
      ap (trace_of i) place ∙ trace_of-append i (a ++ c) b' ∙ ap (λ t. trace_of i (a ++ c) ++ t) none_late ∙ append-nil (trace_of i (a ++ c)) ∙ trace_of-append i a c ∙ ap (λ t. t ++ trace_of i c) none_early in
      let segment : IsSegment run_codec job (trace_of i c) result = subst (λ t. IsSegment run_codec job t result) traced (segments i job result is_job result_at) in
      let stays : (front mid : List Told) → a' ≡ front ++ mid → All (IsNoSweep jobs) mid → HeldSince (held_told m front) (held_told m a') = λ front mid split quiet.
      subst (λ t. HeldSince (held_told m front) (held_told m t)) (sym split) ((front_run (i + 1)).stays front mid [] (split ∙ ap (λ l. front ++ l) (sym (append-nil mid))) quiet) in
      let ended : (end : Outcome) → slice_get results i ≡ Some (Done end) → IsSegment run_codec job (trace_of i c) (Done end) → Tells (calls_in m lane a c) (history_told jobs past a) (history_told jobs past a') (key_of job) end job.command = λ end end_at ends.
      let is_over : IsTrueOver run_spelled m jobs past a' i job end = (front_run (i + 1)).answers a' [] (sym (append-nil a')) i job end is_job (short_at results (i + 1) i (Done end) (omega arith) end_at) refl in
      let is_true = true_end_of run_spelled m jobs past a' i job end is_over in
      let short : end ≡ outcome.OutOfMemory → IsUndone (history_told jobs past a') job = λ is. subst (IsTrueOver run_spelled m jobs past a' i job) is is_over in
      let causes : (r : Refusal) → end ≡ outcome.Refused r → IsRefusedFor run_spelled m jobs past a' i job r × (IsQuiet r → history_told jobs past a' ≡ history_told jobs past a) = λ r is.
      let cause : IsRefusedFor run_spelled m jobs past a' i job r = (front_run (i + 1)).causes i job r is_job (short_at results (i + 1) i (Done (outcome.Refused r)) (omega arith) (end_at ∙ ap (λ o. Some (Done o)) is)) in (
        cause,
        λ quiet.
            let none : deeds ≡ [] = nothing_done m jobs past lane a c a' grows i early job deeds grows_by history of_job silent r quiet (subst (IsTrueEnd run_spelled m jobs past a' i job) is is_true) cause in
            grows_by ∙ ap (λ l. history_told jobs past a ++ l) none ∙ append-nil (history_told jobs past a),
      ) in
      let left : EndsWell end → HasNoLease (calls_in m lane a c) (key_of job) job.command = λ well. no_lease m lane a c i job mine suits end well ends in
      end_tells jobs past a c a' grows i early m lane job is_job mine suits replies stood end still stays left short causes ends is_true in
      let stopped : slice_get results i ≡ Some Stopped → (item.line).stop ≡ stop.Never → ⊥ = λ at never.
      let (call, may, cut_off) = (driven.driven i job Stopped is_job at).ends in
      true≢false (sym cut_off ∙ ap (λ s. cuts s (length (trace_of i told)) call) (of_line.stop ∙ never)) in
      let came : CameOut (calls_in m lane a c) (history_told jobs past a) (history_told jobs past a') (key_of job) (item.line).stop result job.command =
      elim result as (λ r. slice_get results i ≡ Some r → IsSegment run_codec job (trace_of i c) r → CameOut (calls_in m lane a c) (history_told jobs past a) (history_told jobs past a') (key_of job) (item.line).stop r job.command) [
        | Done end ↦ ended end
        | Stopped ↦ λ at ends. stopped at
      ] result_at segment in
      let idle : (r : Refusal) → result ≡ Done (outcome.Refused r) → IsNoFault r → LeavesAll (calls_in m lane a c) (key_of job) job.command = λ r is none.
      leaves_all m jobs lane a c a' grows i job is_job mine ((front_run (i + 1)).idle i job r is_job (short_at results (i + 1) i (Done (outcome.Refused r)) (omega arith) (result_at ∙ ap Some is)) none) in
      let sweeps : job.command ≡ Vacuum → LeavesOthers (calls_in m lane a c) (key_of job) job.command (MaySweep (calls_in m lane a c)) = λ vacuums.
      leaves_others m jobs lane a c a' grows i job is_job mine past early ((front_run (i + 1)).sweeps i job is_job vacuums) in
      let unlocks : (by under : ℕ) → job.command ≡ Unlock by under → LeavesOthers (calls_in m lane a c) (key_of job) job.command (Contains (dead_leases (calls_in m lane a c) by under)) = λ by under is.
      leaves_living m jobs lane a c a' grows i job is_job mine past early by under is ((front_run (i + 1)).unlocks i job by under is_job is) in
      let puts : RemovesNone job.command → LeavesOthers (calls_in m lane a c) (key_of job) job.command (IsOwn (key_of job) job.command) = λ none.
      leaves_but_own m jobs lane a c a' grows i job is_job mine ((front_run (i + 1)).puts i job is_job none) in
      let looks : OnlyLooks job.command → LeavesAll (calls_in m lane a c) (key_of job) job.command = λ only.
      leaves_all m jobs lane a c a' grows i job is_job mine ((front_run (i + 1)).looks i job is_job only) in
      let gets : (from to : ℕ) (query : Query) → job.command ≡ Read from to query → FewGets run_spelled run_most (history_told jobs past a') (calls_in m lane a c).opening from to query (gets_among (list_map (λ (e : Entry). e.call) (calls_in m lane a c).entries)) = λ from to query reads.
      let over : IsStored (held_told m a) (history_told jobs past a') = subst (IsStored (held_told m a)) (sym (still (subst DoesNone (sym reads) tt)).0) (stood a c grows) in
      gets_told m lane a c a' grows i job mine replies ((front_run (i + 1)).looks i job is_job (subst OnlyLooks (sym reads) tt)) (history_told jobs past a') over from to query reads
      (subst (AskedFrom run_codec job (first_stage job)) traced (driven.driven i job result is_job result_at).asked) in
      let done : IsDone (calls_in m lane a c) (history_told jobs past a) (history_told jobs past a') (key_of job) (item.line).stop result job.command =
      record { deeds = deeds; goes_on = grows_by; own = of_job; tells = came; stays = keeps_held m jobs lane a c a' grows i job is_job mine stays; sweeps = sweeps; unlocks = unlocks; puts = puts; looks = looks; gets = gets; idle = idle } in
      let small = All-contains IsFitItem items item order.fit (Contains-slice_get items i item is_item) in
      let seed_is : seed_in id ≡ seed = seed_of_id seed (item.line).lane item.number (omega (arith, (small.fit).lane)) small.few in
      let as_line : IsDone (calls_in m lane a c) (history_told jobs past a) (history_told jobs past a') (record { t = job.at; id = id }) (item.line).stop result (command_at (seed_in id) item.line job.at) =
      subst (λ j. IsDone (calls_in m lane a c) (history_told jobs past a) (history_told jobs past a') (key_of j) (item.line).stop result j.command) same done in (
        entries_of lane c,
        ap (entries_of lane) grows ∙ filter_map-append (entry_of lane) a c,
        (
          entries_lane i item is_item c owns below above,
          keeps_stop lane i m a c mine (item.line).stop (subst (λ s. Uncut s 0 (trace_of i c)) of_line.stop (subst (Uncut job.stop 0) traced (driven.driven i job result is_job result_at).uncut)),
          (job.at, of_line.stamp, subst (λ s. IsDone (calls_in m lane a c) (history_told jobs past a) (history_told jobs past a') (record { t = job.at; id = id }) (item.line).stop result (command_at s item.line job.at)) seed_is as_line),
        ),
      )
