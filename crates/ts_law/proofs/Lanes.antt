-- The calls of jobs that come one after the other in a lane.
use Rattle.std.proofs.Common.{◌≡◌, ℕ, cond, inl, inr, List, [], ◌∷◌, ◌++◌, Option, Some, None, refl, sym, ◌∙◌, ap, subst, arith}
use Rattle.std.specs.Prelude.{All, slice_get, map as list_map}
use Rattle.std.specs.List.{cons_option}
use Rattle.std.proofs.lemmas.Bool.{cases_eq}
use Rattle.std.proofs.lemmas.List.{length_push}
use Rattle.std.proofs.lemmas.Option.{same_Some, none-some, slice_get_within}
use Rattle.std.proofs.lemmas.List.Elements.{All-nil, All-cons, All-head, All-tail, All-push, All-weaker}
use Rattle.ts_store.specs.declared.journal.Entry.{Entry}
use Rattle.ts_store.specs.Calls.{is_no_memory}
use Rattle.ts_model.specs.declared.commands.Job.{Job}
use Rattle.ts_model.specs.Driven.{MayAsk, AskedFrom}
use Rattle.ts_model.specs.Codecs.{Codec}
use Rattle.ts_model.specs.States.{Exchange}
use Rattle.ts_model.specs.Stages.{first_stage, stage_of}
use Rattle.ts_model.specs.Told.{Told, trace_of, only_lane, entry_of, entries_of}
use Rattle.ts_model.proofs.Asked.{asked-push}
use Rattle.ts_model.proofs.ListLemmas.{slice_get_push}
use Rattle.ts_model.proofs.Traces.{exchange_of_own, exchange_of_other, trace_of-own, trace_of-other}
use Rattle.ts_law.specs.Lanes.{lane_by, one_lane, own_lane, IsBefore, IsWithin, InTurn, AreInLanes}
use Rattle.ts_law.specs.Sweeps.{IsNoSweep}
use Rattle.ts_model.specs.declared.commands.Command.TheVariants.{Vacuum}

-- the calls are made by the job with a number
abbrev pub AreBy : ℕ → List Told → Type 0
AreBy number own = All (λ e. e.job ≡ Some number) own

-- the calls of a job that is no vacuum are none of a vacuum
pub no_sweeps : (jobs : List Job) (number : ℕ) (job : Job) (own : List Told) → slice_get jobs number ≡ Some job → (job.command ≡ Vacuum → ⊥) → AreBy number own → All (IsNoSweep jobs) own
no_sweeps jobs number job own is_job other by_it = All-weaker (λ e. e.job ≡ Some number) (IsNoSweep jobs) none own by_it
  where
    none : (e : Told) → e.job ≡ Some number → IsNoSweep jobs e
    none e mine i by made at vacuums =
        let same : number ≡ i = same_Some number i (sym mine ∙ made) in
        let one : job ≡ by = same_Some job by (sym is_job ∙ ap (slice_get jobs) same ∙ at) in
        other (ap (λ (j : Job). j.command) one ∙ vacuums)

-- ---- traces

-- a job that made none of these calls has no trace of them
pub none_made : (number : ℕ) (told : List Told) → All (λ e. e.job ≡ Some number → ⊥) told → trace_of number told ≡ []
none_made number [] none = refl
none_made number (e ∷ told) none =
    ap (λ o. cons_option o (trace_of number told)) (exchange_of_other number e (All-head (λ x. x.job ≡ Some number → ⊥) e told none))
    ∙ none_made number told (All-tail (λ x. x.job ≡ Some number → ⊥) e told none)

-- another job made none of these calls
pub none_by : (number other : ℕ) (own : List Told) → AreBy number own → (number ≡ other → ⊥) → trace_of other own ≡ []
none_by number other own by_it apart =
    none_made other own (All-weaker (λ e. e.job ≡ Some number) (λ e. e.job ≡ Some other → ⊥) (λ e mine others. apart (same_Some number other (sym mine ∙ others))) own by_it)

-- the calls with their replies, whoever made them
abbrev pub exchanges : List Told → List Exchange
exchanges told = list_map (λ e. record { call = e.call; reply = e.reply }) told

-- the trace of a job in its own calls has all of them
pub own_exchanges : (number : ℕ) (own : List Told) → AreBy number own → exchanges own ≡ trace_of number own
own_exchanges number [] by_it = refl
own_exchanges number (e ∷ own) by_it =
    ap (λ xs. record { call = e.call; reply = e.reply } ∷ xs) (own_exchanges number own (All-tail (λ x. x.job ≡ Some number) e own by_it))
    ∙ sym (ap (λ o. cons_option o (trace_of number own)) (exchange_of_own number e (All-head (λ x. x.job ≡ Some number) e own by_it)))

-- the entries of a job's calls, in its lane
pub own_entries : (lanes : ℕ → ℕ) (number : ℕ) (own : List Told) → AreBy number own → entries_of (only_lane (lanes number)) own ≡ entries_of (lane_by lanes) own
own_entries lanes number [] by_it = refl
own_entries lanes number (e ∷ own) by_it =
    let entry_in : Option ℕ → Option Entry = λ j. cond (is_no_memory e.reply) None (Some (record { lane = lane_by lanes j; call = e.call; fate = e.fate })) in
    ap (λ o. cons_option o (entries_of (only_lane (lanes number)) own)) (ap entry_in (sym (All-head (λ x. x.job ≡ Some number) e own by_it)))
    ∙ ap (λ es. cons_option (entry_of (lane_by lanes) e) es) (own_entries lanes number own (All-tail (λ x. x.job ≡ Some number) e own by_it))

-- ---- turns

-- where all jobs come one after the other, those of each lane do
pub in_turn_lanes : (lanes : ℕ → ℕ) (told : List Told) → InTurn one_lane told → InTurn lanes told
in_turn_lanes lanes [] turn = tt
in_turn_lanes lanes (e ∷ told) turn = (All-weaker (IsBefore one_lane e) (IsBefore lanes e) (λ d before i j ei dj same. before i j ei dj refl) told turn.0, in_turn_lanes lanes told turn.1)

-- where each job has its own lane, calls come in turn in whatever order
pub apart_in_turn : (told : List Told) → InTurn own_lane told
apart_in_turn [] = tt
apart_in_turn (e ∷ told) = (before told, apart_in_turn told)
  where
    before : (rest : List Told) → All (IsBefore own_lane e) rest
    before [] = All-nil (IsBefore own_lane e)
    before (d ∷ rest) = All-cons (IsBefore own_lane e) d rest (λ i j ei dj same. omega arith) (before rest)

-- ---- jobs that each have their own lane

module _ {F : Type 0} (codec : Codec F) where
  -- no call was made yet, and there is no job
  pub no_lanes : AreInLanes codec own_lane [] []
  no_lanes = record { within = All-nil (IsWithin []); asked = λ number job at. absurd (none-some job at); in_turn = tt }

  -- a job makes one more call, which it may make where those before have led it
  pub one_more_call : (jobs : List Job) (told : List Told) (e : Told) (number : ℕ) (job : Job) → AreInLanes codec own_lane jobs told → e.job ≡ Some number → slice_get jobs number ≡ Some job
      → MayAsk codec job (stage_of codec job (trace_of number told)) e.call → AreInLanes codec own_lane jobs (told ++ e ∷ [])
  one_more_call jobs told e number job lanes own at asked_it = record {
    within = All-push (IsWithin jobs) told e lanes.within (λ n by_it. let same = same_Some number n (sym own ∙ by_it) in let less = slice_get_within jobs number job at in omega (arith, same, less));
    asked = λ k j j_at. elim (cases_eq number k) [
      | inl same ↦
          let by_it = own ∙ ap Some same in
          let same_job : job ≡ j = same_Some job j (sym at ∙ ap (slice_get jobs) same ∙ j_at) in
          let P : ℕ → Job → Type 0 = λ n i. MayAsk codec i (stage_of codec i (trace_of n told)) e.call in
          let Q : List Exchange → Type 0 = λ t. AskedFrom codec j (first_stage j) t in
          subst Q (sym (trace_of-own k told e by_it))
          (asked-push codec j (first_stage j) (trace_of k told) (record { call = e.call; reply = e.reply }) (lanes.asked k j j_at) (subst (λ i. P k i) same_job (subst (λ n. P n job) same asked_it)))
      | inr apart ↦
          let Q : List Exchange → Type 0 = λ t. AskedFrom codec j (first_stage j) t in
          subst Q (sym (trace_of-other k told e (λ by_it. apart (same_Some number k (sym own ∙ by_it))))) (lanes.asked k j j_at)
    ];
    in_turn = apart_in_turn (told ++ e ∷ []);
  }

  -- one job more, which has made no call
  pub one_more_job : (jobs : List Job) (told : List Told) (job : Job) → AreInLanes codec own_lane jobs told → AreInLanes codec own_lane (jobs ++ job ∷ []) told
  one_more_job jobs told job lanes = record {
    within = All-weaker (IsWithin jobs) (IsWithin (jobs ++ job ∷ [])) (λ e below n by_it. let less = below n by_it in let more = length_push jobs job in omega (arith, less, more)) told lanes.within;
    asked = λ k j j_at. elim (slice_get_push jobs job k j j_at) [
      | inl before ↦ lanes.asked k j before
      | inr last ↦
          let none : trace_of k told ≡ [] = none_made k told (All-weaker (IsWithin jobs) (λ e. e.job ≡ Some k → ⊥) (λ e below by_it. let less = below k by_it in omega (arith, less, last.0)) told lanes.within) in
          let Q : List Exchange → Type 0 = λ t. AskedFrom codec j (first_stage j) t in
          subst Q (sym none) tt
    ];
    in_turn = lanes.in_turn;
  }
