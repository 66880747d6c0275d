-- A run keeps its promise.
use Rattle.std.proofs.Common.{◌≡◌, ◌⊎◌, inl, inr, ℕ, ◌<◌, ◌^◌, List, [], Option, Some, Ok, length, refl, sym, ◌∙◌, ap, subst, arith}
use Rattle.std.specs.Prelude.{IfSome}
use Rattle.std.proofs.lemmas.List.{append-nil}
use Rattle.std.proofs.lemmas.Option.{slice_get_within}
use Rattle.ts_base.specs.Held.{Held}
use Rattle.std.specs.Io.KnownBytes.{Appends}
use Rattle.ts_store.specs.Journals.{held_after}
use Rattle.ts_store.specs.declared.journal.Entry.{Entry}
use Rattle.ts_store.specs.Streams.{AppendsFront}
use Rattle.ts_model.specs.declared.commands.Line.{Line}
use Rattle.ts_model.specs.declared.answers.Driven.{Driven}
use Rattle.ts_model.specs.declared.answers.Driven.TheVariants.{Done}
use Rattle.ts_model.specs.declared.answers.Outcome.{Outcome}
use Rattle.ts_model.specs.declared.answers.Outcome.TheVariants as outcome
use Rattle.ts_model.specs.Deeds.{History}
use Rattle.ts_model.specs.Told.{Told, entries_of, history_told}
use Rattle.ts_law.specs.Fresh.{IsFreshSeed, Numbered, in_lane_order, lanes_of}
use Rattle.ts_law.specs.Lanes.{lane_by, one_lane, InTurn}
use Rattle.ts_law.specs.Runs.{IsRunOver}
use Rattle.ts_law.proofs.FirstStands.{nothing_stands, fresh_over_nothing}
use Rattle.ts_law.proofs.Lists.{item_at}
use Rattle.ts_law.proofs.NoSweeps.{no_sweeps, unclipped_run}
use Rattle.ts_law.proofs.LineJobs.{AreInOrder, each_line, in_order}
use Rattle.ts_top.specs.Promise.{IsStored, Promise}
use Rattle.ts_top.specs.Promised.{Began, Promised}
use Rattle.ts_top.specs.Lanes.{PromiseOfLanes}
use Rattle.ts_top.proofs.LinesDone.{come_in_turn, line_done, of_lanes, one_turn}
use Rattle.ts_top.proofs.RunTimes.{InLanes, history_first, run, stood}
use Rattle.ts_top.proofs.TimesTold.{journal_is}
use Rattle.ts_top.proofs.Promises.{after, all_calls, entered_by, is_done, no_calls, stood_by}
use Rattle.ts_top.specs.Runners.{run_spelled}
use Rattle.ts_script.specs.Script.{AreLimited}
use Rattle.ts_script.specs.declared.words.Asked.{Asked}
use Rattle.ts_script.specs.Words.{asked}
use Rattle.ts_script.specs.Meanings.{report_of}
use Rattle.ts_top.specs.Reports.{report_text, status_printed}
use Rattle.ts_top.specs.Seen.{AreInOneLane, Seen, Means, Stopped as HasStopped, Performed, PrintsEnds, whole, sink_failed, no_text, Plays, ended, ran_short}
use Rattle.ts_top.specs.declared.top.Stop.{Stop}
use Rattle.ts_top.specs.declared.top.Stop.TheVariants.{Usage, BadScript, ReadFault, OutOfMemory}

-- ---- the promise

-- a text that was appended has a front that was, and nothing is a front of each
whole_front : (old later : Option (List ℕ)) (text : List ℕ) → Appends old later text → AppendsFront old later text
whole_front old later text all = (text, [], sym (append-nil text), all)

none_front : (old later : Option (List ℕ)) (text : List ℕ) → Appends old later [] → AppendsFront old later text
none_front old later text nothing = ([], text, refl, nothing)

module _ {S : Type 0} (held : S → Option Held) (made : S → List Told → S → Type 0) (seen : Seen S) (lines : List Line) (results : List (Driven Outcome)) (performed : Performed held made seen lines results) where
  -- the lines in lane order
  abbrev items : List Numbered
  items = in_lane_order lines

  -- a text that was printed has a front that was
  front_of : (text : List ℕ) (printed : ℕ) → PrintsEnds seen.out text printed seen.status → AppendsFront seen.out.old seen.out.new text
  front_of text printed (whole is unhurt all) = whole_front seen.out.old seen.out.new text all
  front_of text printed (sink_failed is rose front) = front
  front_of text printed (no_text is nothing) = none_front seen.out.old seen.out.new text nothing

  -- and with status 0 or 6 it was printed whole
  whole_of : (text : List ℕ) (printed : ℕ) → PrintsEnds seen.out text printed seen.status → (seen.status ≡ 0) ⊎ (seen.status ≡ 6) → Appends seen.out.old seen.out.new text
  whole_of text printed (whole is unhurt all) e = all
  whole_of text printed (sink_failed is rose front) (inl e) = absurd (let none : ⊥ = omega (arith, is, e) in none)
  whole_of text printed (sink_failed is rose front) (inr e) = absurd (let none : ⊥ = omega (arith, is, e) in none)
  whole_of text printed (no_text is nothing) (inl e) = absurd (let none : ⊥ = omega (arith, is, e) in none)
  whole_of text printed (no_text is nothing) (inr e) = absurd (let none : ⊥ = omega (arith, is, e) in none)

  kept_promise : InTurn one_lane (performed.run).told → (job : Asked) → seen.seed < 2 ^ 64 → AreLimited lines → asked seen.words ≡ Some job → Means job seen.input.old (Ok lines) → PrintsEnds seen.out (report_text (report_of job) items results) (status_printed (report_of job) results) seen.status
      → (m : Held) → held seen.store ≡ Some m → (past : History) → IsStored m past → IsFreshSeed m past seen.seed → Promise held seen m past
  kept_promise in_turn job seed_fits limited asks means prints m holds past stands fresh =
      let run = performed.run in
      let jobs = performed.jobs in
      let over = subst (λ o. IfSome o (λ n. IsRunOver run_spelled seen.seed (lanes_of items) jobs n (held seen.later) seen.journal run.told results)) holds run.over in
      let now = history_told jobs past run.told in
      let stored : IsStored (held_after m seen.journal) now = subst (λ es. IsStored (held_after m es) now) run.entries ((over.true_run past stands fresh).stands run.told [] (sym (append-nil run.told))) in
      let order : AreInOrder items = in_order lines (omega (arith, limited.few)) limited.fit in
      let count : length results ≡ length items = run.driven.one_each ∙ performed.of_lines.one_each in
      let so_far : ℕ → History = after seen.gives seen.seed items jobs past m run.told results performed.of_lines order stands fresh seed_fits over.replied run.suit run.owned run.in_lanes.within in_turn run.driven in
      let journal : ℕ → List Entry = entered_by seen.gives seen.seed items jobs past m run.told results performed.of_lines order stands fresh seed_fits over.replied run.suit run.owned run.in_lanes.within in_turn run.driven in
      let all = all_calls seen.gives seen.seed items jobs past m run.told results performed.of_lines order stands fresh seed_fits over.replied run.suit run.owned run.in_lanes.within in_turn run.driven in
      let none = no_calls seen.gives seen.seed items jobs past m run.told results performed.of_lines order stands fresh seed_fits over.replied run.suit run.owned run.in_lanes.within in_turn run.driven in
      record {
        job = job;
        asks = asks;
        lines = lines;
        means = means;
        ends = results;
        one_each = count ∙ each_line lines limited.fit;
        after = so_far;
        made = journal;
        first = (ap (history_told jobs past) none, ap (entries_of (lane_by (lanes_of items))) none);
        last = ap journal count ∙ ap (entries_of (lane_by (lanes_of items))) all ∙ run.entries;
        done = is_done seen.gives seen.seed items jobs past m run.told results performed.of_lines order stands fresh seed_fits over.replied run.suit run.owned run.in_lanes.within in_turn run.driven run.segments;
        unclipped = λ own none i answer end_at.
            let (job, at) = item_at results jobs i run.driven.one_each (slice_get_within results i (Done (outcome.Read answer)) end_at) in
            unclipped_run run_spelled (lanes_of items) jobs past m run.told results (over.true_run past stands fresh) own (no_sweeps seen.gives seen.seed lines jobs performed.of_lines none) i job answer at end_at;
        stood = λ i few. stood_by seen.gives seen.seed items jobs past m run.told results performed.of_lines order stands fresh seed_fits over.replied run.suit run.owned run.in_lanes.within in_turn run.driven i;
        stored = (over.held, subst (IsStored (held_after m seen.journal)) (sym (ap so_far count ∙ ap (history_told jobs past) all)) stored);
        front = front_of (report_text (report_of job) items results) (status_printed (report_of job) results) prints;
        whole = whole_of (report_text (report_of job) items results) (status_printed (report_of job) results) prints;
      }

  kept_lanes : (job : Asked) → seen.seed < 2 ^ 64 → AreLimited lines → asked seen.words ≡ Some job → Means job seen.input.old (Ok lines) → PrintsEnds seen.out (report_text (report_of job) items results) (status_printed (report_of job) results) seen.status
      → (m : Held) → held seen.store ≡ Some m → (past : History) → IsStored m past → IsFreshSeed m past seen.seed → PromiseOfLanes held seen m past
  unfolding kept_promise
  kept_lanes job seed_fits limited asks means prints m holds past stands fresh =
      let ran = performed.run in
      let jobs = performed.jobs in
      let over = subst (λ o. IfSome o (λ n. IsRunOver run_spelled seen.seed (lanes_of items) jobs n (held seen.later) seen.journal ran.told results)) holds ran.over in
      let order : AreInOrder items = in_order lines (omega (arith, limited.few)) limited.fit in
      let count : length results ≡ length items = ran.driven.one_each ∙ performed.of_lines.one_each in
      let w : InLanes seen.gives seen.seed items jobs past m ran.told results = record {
        are = performed.of_lines;
        order = order;
        stands = stands;
        fresh = fresh;
        seed_fits = seed_fits;
        replied = over.replied;
        suit = ran.suit;
        owned = ran.owned;
        within = ran.in_lanes.within;
        in_turn = ran.in_lanes.in_turn;
        driven = ran.driven;
      } in
      let one : AreInOneLane lines → Promise held seen m past = λ alone. kept_promise (one_turn lines jobs performed.of_lines.one_each ran.told ran.in_lanes.within performed.in_turn alone) job seed_fits limited asks means prints m holds past stands fresh in
      record {
        job = job;
        asks = asks;
        lines = lines;
        means = means;
        ends = results;
        one_each = count ∙ each_line lines limited.fit;
        run = run seen.gives seen.seed items jobs past m ran.told results w;
        begins = (refl, history_first seen.gives seen.seed items jobs past m ran.told results w, journal_is (lane_by (lanes_of items)) ran.told ran.owned ∙ ran.entries);
        in_lanes = of_lanes items jobs performed.of_lines.one_each ran.told ran.in_lanes.within;
        in_turn = come_in_turn (lanes_of items) ran.told ran.owned ran.in_lanes.in_turn;
        done = λ i item end item_there end_at. line_done seen.gives seen.seed items jobs past m ran.told results w ran.segments i item end item_there end_at;
        unclipped = λ own none i answer end_at.
            let (its_job, at) = item_at results jobs i ran.driven.one_each (slice_get_within results i (Done (outcome.Read answer)) end_at) in
            unclipped_run run_spelled (lanes_of items) jobs past m ran.told results (over.true_run past stands fresh) own (no_sweeps seen.gives seen.seed lines jobs performed.of_lines none) i its_job answer at end_at;
        stood = λ n few. stood seen.gives seen.seed items jobs past m ran.told results w n;
        stored = over.held;
        front = front_of (report_text (report_of job) items results) (status_printed (report_of job) results) prints;
        whole = whole_of (report_text (report_of job) items results) (status_printed (report_of job) results) prints;
        alone = λ alone. (one alone, refl, refl);
      }

-- ---- every run

module _ {S : Type 0} (held : S → Option Held) (made : S → List Told → S → Type 0) (seen : Seen S) where
  -- a run that stopped before its first command had another status, and made no call
  not_begun : (stop : Stop) → HasStopped seen stop → Began seen → ⊥
  not_begun stop h (inr (inr (inr called))) = called h.journal
  not_begun Usage h (inl e) = let none : ⊥ = omega (arith, h.status, e) in none
  not_begun Usage h (inr (inl e)) = let none : ⊥ = omega (arith, h.status, e) in none
  not_begun Usage h (inr (inr (inl e))) = let none : ⊥ = omega (arith, h.status, e) in none
  not_begun (BadScript n) h (inl e) = let none : ⊥ = omega (arith, h.status, e) in none
  not_begun (BadScript n) h (inr (inl e)) = let none : ⊥ = omega (arith, h.status, e) in none
  not_begun (BadScript n) h (inr (inr (inl e))) = let none : ⊥ = omega (arith, h.status, e) in none
  not_begun ReadFault h (inl e) = let none : ⊥ = omega (arith, h.status, e) in none
  not_begun ReadFault h (inr (inl e)) = let none : ⊥ = omega (arith, h.status, e) in none
  not_begun ReadFault h (inr (inr (inl e))) = let none : ⊥ = omega (arith, h.status, e) in none
  not_begun OutOfMemory h (inl e) = let none : ⊥ = omega (arith, h.status, e) in none
  not_begun OutOfMemory h (inr (inl e)) = let none : ⊥ = omega (arith, h.status, e) in none
  not_begun OutOfMemory h (inr (inr (inl e))) = let none : ⊥ = omega (arith, h.status, e) in none

  -- nor did one begin that had no memory to begin with
  not_begun_short : seen.status ≡ 7 → seen.journal ≡ [] → Began seen → ⊥
  not_begun_short seven silent (inl e) = let none : ⊥ = omega (arith, seven, e) in none
  not_begun_short seven silent (inr (inl e)) = let none : ⊥ = omega (arith, seven, e) in none
  not_begun_short seven silent (inr (inr (inl e))) = let none : ⊥ = omega (arith, seven, e) in none
  not_begun_short seven silent (inr (inr (inr called))) = called silent

  -- a run that stopped promises nothing
  pub promise_stopped : (stop : Stop) → HasStopped seen stop → Promised held seen
  promise_stopped stop h = record {
    over = λ begun m holds past stands fresh. absurd (not_begun stop h begun);
    from_nothing = λ begun holds. absurd (not_begun stop h begun);
  }

  module _ (job : Asked) (lines : List Line) (seed_fits : seen.seed < 2 ^ 64) (limited : AreLimited lines) (asks : asked seen.words ≡ Some job) (means : Means job seen.input.old (Ok lines)) where
    in_lanes : Plays held made seen (report_of job) lines → Began seen → (m : Held) → held seen.store ≡ Some m → (past : History) → IsStored m past → IsFreshSeed m past seen.seed → PromiseOfLanes held seen m past
    in_lanes (ended results performed prints) begun m holds past stands fresh = kept_lanes held made seen lines results performed job seed_fits limited asks means prints m holds past stands fresh
    in_lanes (ran_short seven silent same nothing) begun m holds past stands fresh = absurd (not_begun_short seven silent begun)

    -- a run that did its commands keeps its promise
    pub promise_played : Plays held made seen (report_of job) lines → Promised held seen
    promise_played plays = record {
      over = in_lanes plays;
      from_nothing = λ begun holds. in_lanes plays begun _ holds [] (nothing_stands run_spelled) (fresh_over_nothing seen.seed);
    }
