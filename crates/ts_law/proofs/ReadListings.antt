-- Each read of a run makes few gets, by its listings, whatever commands of other lanes do between its calls.
use Rattle.std.proofs.Common.{◌≡◌, ℕ, ◌+◌, ◌⊎◌, inl, inr, List, [], ◌∷◌, ◌++◌, Some, append_assoc, refl, sym, ◌∙◌, ap, subst, arith}
use Rattle.std.specs.Prelude.{slice_get, map as list_map}
use Rattle.std.specs.List.{cons_option}
use Rattle.std.proofs.lemmas.List.Sums.{sum_by-cons}
use Rattle.std.proofs.lemmas.Option.{same_Some}
use Rattle.ts_base.specs.Held.{Held}
use Rattle.ts_base.specs.declared.names.Prefix.{Prefix}
use Rattle.ts_base.specs.declared.names.Prefix.TheVariants.{Commits, Schemas}
use Rattle.ts_cond.specs.declared.query.Query.{Query}
use Rattle.ts_store.specs.declared.call.Call.{Call}
use Rattle.ts_store.specs.declared.call.Call.TheVariants as call
use Rattle.ts_model.specs.declared.commands.Command.TheVariants.{Read}
use Rattle.ts_model.specs.declared.commands.Job.{Job}
use Rattle.ts_model.specs.declared.states.Stage.{Stage}
use Rattle.ts_model.specs.declared.states.Stage.TheVariants.{PutsLease, ListsLeases, Works, Releases}
use Rattle.ts_model.specs.Codecs.{Codec, CodecLaws, Spelled, Tracking}
use Rattle.ts_model.specs.Deeds.{History, IsHistory}
use Rattle.ts_model.specs.Driven.{AskedFrom, MayAsk}
use Rattle.ts_model.specs.Gets.{AsksBounded, MostGets, gets_of}
use Rattle.ts_model.specs.Stages.{first_stage, goes_on, put_lease, stage_of}
use Rattle.ts_model.specs.States.{Exchange, list_leases}
use Rattle.ts_model.specs.Told.{Replied, Told, held_told, history_told, trace_of}
use Rattle.ts_model.proofs.Traces.{exchange_of_other, exchange_of_own, trace_of-append}
use Rattle.ts_law.specs.Bounds.{FewByListings, gets_among, gets_told}
use Rattle.ts_law.specs.Ends.{ListedAt}
use Rattle.ts_law.specs.Kept.{AreAllowed, Kept, StageClaims}
use Rattle.ts_law.proofs.KeptLaws.{calling, coming}
use Rattle.ts_law.proofs.Leasing.{by_job}
use Rattle.ts_law.proofs.LeaseSteps.{release_is}
use Rattle.ts_law.proofs.ReadClaims.{few_with}
use Rattle.ts_law.proofs.ReadCounts.{StageCounts, trace_counts}

-- ---- the last get of a job

-- a call is a get, or not
one_or_none : (c : Call) → (gets_of c ≡ 0) ⊎ (gets_of c ≡ 1)
one_or_none (call.Get n from len) = inr refl
one_or_none _ = inl refl

-- the last get of the job with a number
record LastGet (number : ℕ) (told : List Told) : Type 0 where
  before : List Told
  get : Told
  later : List Told
  parts : told ≡ before ++ get ∷ later
  own : get.job ≡ Some number
  is_get : gets_of (get.call) ≡ 1
  all : gets_told number told ≡ gets_told number before + 1

-- the first of these calls counts where the job made it
own_first : (number : ℕ) (e : Told) (told : List Told) → e.job ≡ Some number → gets_told number (e ∷ told) ≡ gets_of e.call + gets_told number told
own_first number e told mine =
    ap (λ o. gets_among (list_map (λ (x : Exchange). x.call) (cons_option o (trace_of number told)))) (exchange_of_own number e mine) ∙ sum_by-cons gets_of e.call (list_map (λ (x : Exchange). x.call) (trace_of number told))

other_first : (number : ℕ) (e : Told) (told : List Told) → (e.job ≡ Some number → ⊥) → gets_told number (e ∷ told) ≡ gets_told number told
other_first number e told other = ap (λ o. gets_among (list_map (λ (x : Exchange). x.call) (cons_option o (trace_of number told)))) (exchange_of_other number e other)

-- a job made no get, or there is its last one
last_get : (number : ℕ) (told : List Told) → (gets_told number told ≡ 0) ⊎ LastGet number told
last_get number [] = inl refl
last_get number (e ∷ told) = by (by_job number e.job) (last_get number told) (one_or_none e.call)
  where
    by : (e.job ≡ Some number) ⊎ (e.job ≡ Some number → ⊥) → (gets_told number told ≡ 0) ⊎ LastGet number told → (gets_of e.call ≡ 0) ⊎ (gets_of e.call ≡ 1) → (gets_told number (e ∷ told) ≡ 0) ⊎ LastGet number (e ∷ told)
    by (inr other) (inl none) kind = inl (other_first number e told other ∙ none)
    by (inr other) (inr last) kind =
        inr (record {
          before = e ∷ last.before;
          get = last.get;
          later = last.later;
          parts = ap (λ l. e ∷ l) last.parts;
          own = last.own;
          is_get = last.is_get;
          all = other_first number e told other ∙ last.all ∙ ap (λ n. n + 1) (sym (other_first number e last.before other));
        })
    by (inl mine) (inr last) kind =
        inr (record {
          before = e ∷ last.before;
          get = last.get;
          later = last.later;
          parts = ap (λ l. e ∷ l) last.parts;
          own = last.own;
          is_get = last.is_get;
          all = let whole = own_first number e told mine in let front = own_first number e last.before mine in let rest = last.all in omega (arith, whole, front, rest);
        })
    by (inl mine) (inl none) (inl zero_gets) = inl (let whole = own_first number e told mine in omega (arith, whole, none, zero_gets))
    by (inl mine) (inl none) (inr one) =
        inr (record {
          before = [];
          get = e;
          later = told;
          parts = refl;
          own = mine;
          is_get = one;
          all = let whole = own_first number e told mine in omega (arith, whole, none, one);
        })

-- ---- a first part of the calls

-- the first of calls that a job may make are such
asked_first : {F : Type 0} (codec : Codec F) (job : Job) (stage : Stage F) (xs ys : List Exchange) → AskedFrom codec job stage (xs ++ ys) → AskedFrom codec job stage xs
asked_first codec job stage [] ys asked = tt
asked_first codec job stage (x ∷ xs) ys asked = (asked.0, asked_first codec job (goes_on codec job stage x) xs ys asked.1)

-- a listing of the first calls is one of them all
abbrev listed_on : (seen rest : List Told) (number : ℕ) (prefix : Prefix) → ListedAt seen number prefix → ListedAt (seen ++ rest) number prefix
listed_on seen rest number prefix at = record {
  before = at.before;
  listing = at.listing;
  later = at.later ++ rest;
  place = ap (λ l. l ++ rest) at.place ∙ append_assoc at.before (at.listing ∷ at.later) rest;
  own = at.own;
  lists = at.lists;
  memory = at.memory;
}

-- ---- the law

module _ {F : Type 0} (codec : Codec F) (spelled : Spelled) (tracks : Tracking F) (laws : CodecLaws codec spelled tracks) (gets : F → ℕ) (most : MostGets) (bounded : AsksBounded codec spelled gets most)
    (opening : Held) (past : History) (jobs : List Job) (number : ℕ) (job : Job) (from to : ℕ) (query : Query) (is : job.command ≡ Read from to query) where
  -- so many gets are few by the listings of the read
  abbrev Few : List Told → ℕ → Type 0
  Few told count = FewByListings spelled most opening jobs past told number from to query count

  -- so they are by its listings among more calls
  few_on : (seen rest : List Told) (count : ℕ) → Few seen count → Few (seen ++ rest) count
  few_on seen rest count few = record {
    commits = listed_on seen rest number Commits few.commits;
    schemas = listed_on seen rest number Schemas few.schemas;
    between = few.between;
    order = few.order;
    few = few.few;
  }

  -- a read that makes a get in a stage makes few, with those that it made before
  stage_few : (seen : List Told) (m : Held) → IsHistory (history_told jobs past seen) → (stage : Stage F) → StageClaims codec spelled tracks opening past jobs seen m number job stage
      → (count : ℕ) → StageCounts codec gets bounded.pays from to query job is count stage → (c : Call) → MayAsk codec job stage c → gets_of c ≡ 1 → Few seen (count + 1)
  stage_few seen m history (PutsLease lease) claims count none c (inl asked) one = absurd (let clash : 0 ≡ 1 = ap gets_of (same_Some (put_lease lease) c asked) ∙ one in omega (arith, clash))
  stage_few seen m history (ListsLeases lease) claims count none c (inl asked) one = absurd (let clash : 0 ≡ 1 = ap gets_of (same_Some list_leases c asked) ∙ one in omega (arith, clash))
  stage_few seen m history (Works s) claims count counts c (inl asked) one = few_with codec spelled tracks laws gets most bounded opening past jobs seen m number job history from to query is s claims count counts c asked one
  stage_few seen m history (Releases lease end) claims count none c (inl asked) one = absurd (let clash : 0 ≡ 1 = ap gets_of (same_Some (call.Remove lease) c asked) ∙ one in omega (arith, clash))
  stage_few seen m history stage claims count none c (inr gives_up) one =
      let (lease, some, removes) = release_is job c gives_up.0 in absurd (let clash : 0 ≡ 1 = ap gets_of (sym removes) ∙ one in omega (arith, clash))

  module _ (last : List ℕ) (told : List Told) (begins : Kept codec spelled tracks opening past jobs [] [] opening) (may : AreAllowed codec jobs [] last [] told) (replied : Replied opening told)
      (is_job : slice_get jobs number ≡ Some job) (asked : AskedFrom codec job (first_stage job) (trace_of number told)) where
    -- its last get and those before it are few
    few_at : (got : LastGet number told) → Few told (gets_told number told)
    few_at got =
        let seen : List Told = got.before in
        let rest : List Told = got.get ∷ got.later in
        let comes = coming codec spelled tracks laws opening past jobs [] last [] opening told seen got.later got.get begins may replied got.parts in
        let calls = calling codec spelled tracks laws opening past jobs seen (held_told opening seen) got.get number job comes got.own is_job in
        let before : AskedFrom codec job (first_stage job) (trace_of number seen) =
        asked_first codec job (first_stage job) (trace_of number seen) (trace_of number rest) (subst (AskedFrom codec job (first_stage job)) (ap (trace_of number) got.parts ∙ trace_of-append number seen rest) asked) in
        let few : Few seen (gets_told number seen + 1) =
        stage_few seen (held_told opening seen) (comes.kept).stands.history (stage_of codec job (trace_of number seen)) calls.claims (gets_told number seen)
        (trace_counts codec gets bounded.pays from to query job is (trace_of number seen) before) (got.get).call calls.asked got.is_get in
        subst (λ t. Few t (gets_told number told)) (sym got.parts) (subst (Few (seen ++ rest)) (sym got.all) (few_on seen rest (gets_told number seen + 1) few))

    -- a read makes no get, or few by its listings
    pub few_by_listings : (gets_told number told ≡ 0) ⊎ Few told (gets_told number told)
    few_by_listings = elim (last_get number told) [ inl none ↦ inl none | inr got ↦ inr (few_at got) ]
