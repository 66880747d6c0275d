-- The history and the objects at the times of a run whose commands were done in lanes.
use Rattle.std.proofs.Common.{◌≡◌, inl, inr, ℕ, zero, suc, ◌+◌, ◌<◌, ◌≤◌, ◌^◌, Bool, false, List, [], ◌∷◌, ◌++◌, Option, Some, length, take, drop, refl, sym, ◌∙◌, ap, subst, append_assoc, arith}
use Rattle.std.specs.Prelude.{All, slice_get}
use Rattle.std.proofs.lemmas.Bool.{cases_eq}
use Rattle.std.proofs.lemmas.List.{append-nil, map-append, take-append-drop}
use Rattle.ts_base.specs.Held.{Held}
use Rattle.ts_store.specs.Calls.{is_no_memory}
use Rattle.ts_store.specs.Journals.{held_after}
use Rattle.ts_model.specs.declared.answers.Driven.{Driven}
use Rattle.ts_model.specs.declared.answers.Outcome.{Outcome}
use Rattle.ts_model.specs.declared.commands.Job.{Job}
use Rattle.ts_model.specs.Deeds.{History}
use Rattle.ts_model.specs.Told.{Replied, Suits, Told, entries_of, held_told, history_told}
use Rattle.ts_model.proofs.Traces.{history_told_grows}
use Rattle.ts_law.specs.Fresh.{AreJobsOf, IsFreshSeed, Numbered, lanes_of}
use Rattle.ts_law.specs.Histories.{history_of}
use Rattle.ts_law.specs.Kept.{AreAllowed, Kept}
use Rattle.ts_law.specs.Lanes.{IsOwned, IsWithin, InTurn, lane_by}
use Rattle.ts_law.specs.Runs.{AreDriven, IsTrueRun}
use Rattle.ts_law.proofs.JournalHistories.{front_history, lanes_turn}
use Rattle.ts_law.proofs.Journals.{journal_held}
use Rattle.ts_law.proofs.LineJobs.{AreInOrder}
use Rattle.ts_law.proofs.LineLanes.{lines_take}
use Rattle.ts_law.proofs.TrueRuns.{kept_first, true_run}
use Rattle.ts_law.proofs.Turns.{stopped_before, turns_allowed}
use Rattle.ts_top.specs.Promise.{Extends, IsStored}
use Rattle.ts_top.specs.Runners.{run_codec, run_spelled, run_tracks}
use Rattle.ts_top.specs.Times.{IsCall, Made, Makes, Timeline, held_at, journal_of}
use Rattle.ts_top.proofs.Promises.{all_front}
use Rattle.ts_top.proofs.RunCodec.{run_laws}
use Rattle.ts_top.proofs.TimesTold.{IsTold, all_made, call_at, call_made, find_call, first_made, journal_is, time, time_next}

-- the jobs of lines were driven in the lanes of these, over objects that stand for a history which the seed is fresh over
pub record InLanes (gives : ℕ → Bool) (seed : ℕ) (items : List Numbered) (jobs : List Job) (past : History) (m : Held) (told : List Told) (results : List (Driven Outcome)) : Type 0 where
  pub are : AreJobsOf gives seed items jobs
  pub order : AreInOrder items
  pub stands : IsStored m past
  pub fresh : IsFreshSeed m past seed
  pub seed_fits : seed < 2 ^ 64
  pub replied : Replied m told
  pub suit : All Suits told
  pub owned : All IsOwned told
  pub within : All (IsWithin jobs) told
  pub in_turn : InTurn (lanes_of items) told
  pub driven : AreDriven run_codec jobs results told

-- a history goes on from itself, and further on from one that goes on from another
stays_on : (h : History) → Extends h h
stays_on h = ([], sym (append-nil h))

further_on : (a b c : History) → Extends a b → Extends b c → Extends a c
further_on a b c (x, on) (y, more) = (x ++ y, more ∙ ap (λ l. l ++ y) on ∙ append_assoc a x y)

module _ (gives : ℕ → Bool) (seed : ℕ) (items : List Numbered) (jobs : List Job) (past : History) (m : Held) (told : List Told) (results : List (Driven Outcome)) (w : InLanes gives seed items jobs past m told results) where
  -- the lane of each call is that of its command
  abbrev pub lane : Option ℕ → ℕ
  lane = lane_by (lanes_of items)

  -- the run by its times
  abbrev pub run : Timeline
  run = record { opening = m; calls = all_made lane told; history = λ n. history_of past m jobs (journal_of (take n (all_made lane told))) }

  -- the run is true
  pub is_true : IsTrueRun run_spelled (lanes_of items) jobs past m told results
  is_true = true_run run_codec run_spelled run_tracks run_laws gives seed items jobs past m told results w.are w.order w.stands w.fresh w.seed_fits w.replied w.suit w.owned w.within w.in_turn w.driven

  pub begins : Kept run_codec run_spelled run_tracks m past jobs [] [] m
  begins = kept_first run_codec run_spelled run_tracks gives seed items jobs past m w.are w.order w.stands w.fresh w.seed_fits

  pub may : AreAllowed run_codec jobs [] (stopped_before results (length jobs)) [] told
  may = turns_allowed run_codec run_spelled run_tracks run_laws m past (lanes_of items) jobs (lines_take gives seed items jobs w.are w.order) results told begins w.replied w.owned w.within w.suit w.in_turn w.driven

  -- ---- a first part of the calls

  module _ (d r : List Told) (parts : told ≡ d ++ r) where
    entries_first : journal_of (take (time lane d) (all_made lane told)) ≡ entries_of lane d
    entries_first = ap journal_of (first_made lane told d r parts) ∙ journal_is lane d (all_front IsOwned d r (subst (All IsOwned) parts w.owned))

    -- what was held at its time is what it left
    pub held_there : held_at run (time lane d) ≡ held_told m d
    held_there = ap (held_after m) entries_first ∙ sym (journal_held lane m d)

    -- and the history was that of its deeds
    pub history_there : run.history (time lane d) ≡ history_told jobs past d
    history_there =
        ap (history_of past m jobs) entries_first
        ∙ sym (front_history run_codec run_spelled run_tracks run_laws jobs past m told lane (stopped_before results (length jobs)) begins may w.replied (lanes_turn (lanes_of items) told w.owned w.in_turn) d r parts)

  -- the same once a call was made that found memory
  module _ (d r : List Told) (e : Told) (parts : told ≡ d ++ e ∷ r) (number : ℕ) (mine : e.job ≡ Some number) (memory : is_no_memory e.reply ≡ false) where
    with_it : told ≡ (d ++ e ∷ []) ++ r
    with_it = parts ∙ sym (append_assoc d (e ∷ []) r)

    pub held_next : held_at run (time lane d + 1) ≡ held_told m (d ++ e ∷ [])
    held_next = ap (held_at run) (sym (time_next lane d e number mine memory)) ∙ held_there (d ++ e ∷ []) r with_it

    pub history_next : run.history (time lane d + 1) ≡ history_told jobs past (d ++ e ∷ [])
    history_next = ap (λ n. run.history n) (sym (time_next lane d e number mine memory)) ∙ history_there (d ++ e ∷ []) r with_it

    -- the call is one of its command
    pub makes_it : (from to : ℕ) → Makes (record { run = run; number = number; from = from; to = to }) (time lane d) e.call
    makes_it from to = (call_made lane e number, call_at lane told d r e number parts mine memory, refl, refl)

    pub is_call : (from to : ℕ) → IsCall (record { run = run; number = number; from = from; to = to }) (time lane d)
    is_call from to = (call_made lane e number, call_at lane told d r e number parts mine memory, refl)

  -- ---- all times

  -- at the beginning the history is the past
  pub history_first : run.history 0 ≡ past
  history_first = history_there [] told refl

  -- in the end it is that of all deeds
  pub history_last : run.history (length run.calls) ≡ history_told jobs past told
  history_last = history_there told [] (sym (append-nil told))

  -- the objects stand for the history at each time
  pub stood : (n : ℕ) → IsStored (held_at run n) (run.history n)
  stood n =
      let calls = all_made lane told in
      let parts : entries_of lane told ≡ journal_of (take n calls) ++ journal_of (drop n calls) =
      sym (journal_is lane told w.owned) ∙ ap journal_of (sym (take-append-drop n calls)) ∙ map-append (λ (c : Made). c.entry) (take n calls) (drop n calls) in
      is_true.journal (journal_of (take n calls)) (journal_of (drop n calls)) parts

  -- the history goes on
  on_next : (n : ℕ) → n < length run.calls → Extends (run.history n) (run.history (n + 1))
  on_next n less =
      let (c, at) = some_at run.calls n less in
      let is : IsTold lane told n c = find_call lane told n c at in
      let now : run.history n ≡ history_told jobs past is.earlier = ap (λ k. run.history k) (sym is.time_is) ∙ history_there is.earlier (is.e ∷ is.later) is.parts in
      let next : run.history (n + 1) ≡ history_told jobs past (is.earlier ++ is.e ∷ []) = ap (λ k. run.history (k + 1)) (sym is.time_is) ∙ history_next is.earlier is.later is.e is.parts c.number is.mine is.memory in
      let (more, grows) = history_told_grows jobs past is.earlier (is.e ∷ []) in
      (more, next ∙ grows ∙ ap (λ h. h ++ more) (sym now))
    where
      some_at : (xs : List Made) (i : ℕ) → i < length xs → (c : Made) × (slice_get xs i ≡ Some c)
      some_at [] i few = absurd (omega (arith, few))
      some_at (x ∷ xs) zero few = (x, refl)
      some_at (x ∷ xs) (suc i) few = some_at xs i (omega (arith, few))

  pub goes_on_to : (n k : ℕ) → n ≤ k → k ≤ length run.calls → Extends (run.history n) (run.history k)
  goes_on_to n zero less most = subst (λ i. Extends (run.history n) (run.history i)) (let same : n ≡ 0 = omega (arith, less) in same) (stays_on (run.history n))
  goes_on_to n (suc k) less most = elim (cases_eq n (suc k)) [
    | inl same ↦ subst (λ i. Extends (run.history n) (run.history i)) same (stays_on (run.history n))
    | inr apart ↦
        let before = goes_on_to n k (omega (arith, less, apart)) (omega (arith, most)) in
        let last : Extends (run.history k) (run.history (suc k)) = subst (λ i. Extends (run.history k) (run.history i)) (let same : k + 1 ≡ suc k = omega arith in same) (on_next k (omega (arith, most))) in
        further_on (run.history n) (run.history k) (run.history (suc k)) before last
  ]
