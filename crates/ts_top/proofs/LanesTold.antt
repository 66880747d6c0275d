-- A command among those of other lanes: its times, what its calls appended and changed, and where its listings stand.
use Rattle.std.proofs.Common.{◌≡◌, ◌⊎◌, inl, inr, ℕ, ◌+◌, ◌<◌, ◌≤◌, Bool, true, false, cond, List, [], ◌∷◌, ◌++◌, Option, Some, None, length, refl, sym, ◌∙◌, ap, subst, append_assoc, append-nil, arith}
use Rattle.std.specs.Prelude.{Contains, slice_get, IfSome, option_map, option_and_then, option_to_list}
use Rattle.std.specs.FinMap as map
use Rattle.std.proofs.lemmas.Bool.{true≢false}
use Rattle.std.proofs.lemmas.List.{same_from_push}
use Rattle.std.proofs.lemmas.List.Elements.{All-contains, Contains-append_left, Contains-append_right}
use Rattle.std.proofs.lemmas.Option.{none-some, same_Some}
use Rattle.ts_base.specs.Held.{Held}
use Rattle.ts_base.specs.declared.keys.Key.{Key}
use Rattle.ts_base.specs.declared.names.LeaseMode.{LeaseMode}
use Rattle.ts_base.specs.declared.names.Name.{Name}
use Rattle.ts_base.specs.declared.names.Name.TheVariants as name
use Rattle.ts_base.specs.declared.names.Prefix.{Prefix}
use Rattle.ts_base.specs.declared.names.Prefix.TheVariants.{Schemas}
use Rattle.ts_schema.specs.declared.schemas.Schema.{Schema}
use Rattle.ts_store.specs.declared.call.Call.{Call}
use Rattle.ts_store.specs.declared.call.Call.TheVariants as call
use Rattle.ts_store.specs.declared.call.Reply.TheVariants as reply
use Rattle.ts_store.specs.declared.fate.Fate.TheVariants as fate
use Rattle.ts_store.specs.Calls.{is_no_memory}
use Rattle.ts_model.specs.declared.answers.Driven.{Driven}
use Rattle.ts_model.specs.declared.answers.Driven.TheVariants.{Done}
use Rattle.ts_model.specs.declared.answers.Outcome.{Outcome}
use Rattle.ts_model.specs.declared.commands.Job.{Job}
use Rattle.ts_model.specs.declared.commands.Command.{Command}
use Rattle.ts_model.specs.declared.commands.Command.TheVariants.{Create, Evolve, Write, Read, Delete, Consolidate, Vacuum, Unlock, Fragments}
use Rattle.ts_model.specs.declared.commands.FrameIn.{FrameIn}
use Rattle.ts_model.specs.declared.deeds.Deed.{Deed}
use Rattle.ts_model.specs.declared.deeds.Deed.TheVariants.{Framed, Declared, Wrote, Erased}
use Rattle.ts_model.specs.Deeds.{History, IsNewKey, current_schema, keys, schemas}
use Rattle.ts_model.specs.Jobs.{key_of}
use Rattle.ts_model.specs.Stages.{lease_of, mode_of}
use Rattle.ts_model.specs.States.{Exchange}
use Rattle.ts_model.specs.Told.{Replied, Suits, Told, deed_in, deed_told, exchange_of, grown, held_told, history_told, schemas_found, trace_of}
use Rattle.ts_model.proofs.HistoryLaws.{absent_from_new, keys-append, new_from_absent}
use Rattle.ts_model.proofs.ListLemmas.{Contains-cons, Contains-filter_map, Contains-here, Contains-nil}
use Rattle.ts_model.proofs.Traces.{exchange_of_own, held_told-append, history_told-push, trace_of-append, trace_of-own}
use Rattle.ts_law.specs.Changes.{ChangedNothing}
use Rattle.ts_law.specs.Courses.{IsSegment, removal}
use Rattle.ts_law.specs.Ends.{FindsNoArray, IsGone, IsUndone, ListedAt, MadeAt}
use Rattle.ts_law.specs.Fresh.{Numbered}
use Rattle.ts_law.specs.Kept.{HeldSince}
use Rattle.ts_law.specs.Stands.{IsNoLease}
use Rattle.ts_law.proofs.Effects.{Added, Still, put_went}
use Rattle.ts_law.proofs.HeldLemmas.{Holds-from_get, get_put}
use Rattle.ts_law.proofs.Leasing.{by_job}
use Rattle.ts_law.proofs.LineJobs.{id_has_seed, ids_apart}
use Rattle.ts_law.proofs.Short.{replied_at, undone_on}
use Rattle.ts_top.specs.Promise.{Extends}
use Rattle.ts_top.specs.Runners.{run_codec}
use Rattle.ts_top.specs.Times.{IsCall, IsSpan, Lists, Makes, Span, held_at, now}
use Rattle.ts_top.specs.Together.{DidNone, DidRemove, FoundNoArray, HeldAsListed, IsDeedAt, LeftAll, LeftNoLease, LeftOthers}
use Rattle.ts_top.proofs.DeedsTold.{IsDeedBy, and_then_some, deed_by, deed_no_lease, one_grown}
use Rattle.ts_top.proofs.LeasesTold.{EndsWell, gone, last_removes, no_last, unrefused}
use Rattle.ts_top.proofs.OwnCalls.{heeds_memory}
use Rattle.ts_top.proofs.Promises.{no_trace}
use Rattle.ts_top.proofs.RefusalsTold.{DoesNone}
use Rattle.ts_top.proofs.RunTimes.{InLanes, goes_on_to, held_next, held_there, history_last, history_next, history_there, is_call, lane, makes_it, run}
use Rattle.ts_top.proofs.TimesTold.{IsTold, Spanned, call_at, call_made, find_call, span_of, time, time_next, time_within}

-- a list falls apart at an item that it has
split_at : {X : Type 0} (xs : List X) (x : X) → Contains xs x → (front : List X) × (back : List X) × (xs ≡ front ++ x ∷ back)
split_at [] x at = absurd (Contains-nil x at)
split_at (y ∷ xs) x at = elim (Contains-cons y xs x at) [
  | inl same ↦ ([], xs, ap (λ z. z ∷ xs) same)
  | inr later ↦ let (front, back, is) = split_at xs x later in (y ∷ front, back, ap (λ l. y ∷ l) is)
]

-- a key that is new in a history is so in one that it goes on from
new_before : (h later : History) (k : Key) → Extends h later → IsNewKey later k → IsNewKey h k
new_before h later k (more, grows) new =
    new_from_absent h k (λ at. absent_from_new later k new (subst (λ g. Contains (keys g) k) (sym grows) (subst (λ ks. Contains ks k) (sym (keys-append h more)) (Contains-append_left (keys h) (keys more) k at))))

-- a call whose deed is told puts an object that is no lease
deed_puts : (h : History) (job : Job) (found : Option (List Key)) (c : Call) (d : Deed) → deed_in h job found c ≡ Some d → (n : Name) × (bytes : List ℕ) × (c ≡ call.Put n bytes) × IsNoLease n
deed_puts h job found (call.Put n bytes) d is = (n, bytes, refl, deed_no_lease h job found n d is)
deed_puts h job found _ d is = absurd (none-some d is)

-- a lease is none of the others
lease_apart : (k : Key) (o : Option LeaseMode) (n : Name) → IsNoLease n → option_map (name.Lease k) o ≡ Some n → ⊥
lease_apart k None n none is = none-some n is
lease_apart k (Some mode) n none is = subst IsNoLease (sym (same_Some (name.Lease k mode) n is)) none

-- a deed by what a command found at times of its own is one that it may do
deed_at : (s : Span) (n : ℕ) (k : Key) (c : Command) (d : Deed) → IsDeedBy (FoundNoArray s n) (HeldAsListed s n k) (s.run.history n) k c d → IsDeedAt s n k c d
deed_at s n k (Create made) (Framed frame) is = is
deed_at s n k (Create made) (Declared new) is = is
deed_at s n k (Evolve change) (Declared new) is = is
deed_at s n k (Write columns) (Wrote w) is = is
deed_at s n k (Delete text) (Erased e) is = is
deed_at s n k _ _ is = absurd is

-- a command that does no deed may do none
no_deed_at : (s : Span) (n : ℕ) (k : Key) (c : Command) (d : Deed) → DoesNone c → IsDeedAt s n k c d → ⊥
no_deed_at s n k (Create made) d none is = none
no_deed_at s n k (Evolve change) d none is = none
no_deed_at s n k (Write columns) d none is = none
no_deed_at s n k (Delete text) d none is = none
no_deed_at s n k (Read from to query) d none is = is
no_deed_at s n k (Consolidate from to limits) d none is = is
no_deed_at s n k Vacuum d none is = is
no_deed_at s n k (Unlock seed lane) d none is = is
no_deed_at s n k Fragments d none is = is

module _ (gives : ℕ → Bool) (seed : ℕ) (items : List Numbered) (jobs : List Job) (past : History) (m : Held) (told : List Told) (results : List (Driven Outcome)) (w : InLanes gives seed items jobs past m told results)
    (i : ℕ) (job : Job) (is_job : slice_get jobs i ≡ Some job) where
  -- the times of the command
  abbrev pub there : Spanned (run gives seed items jobs past m told results w) i
  there = span_of (run gives seed items jobs past m told results w) i

  abbrev pub span : Span
  span = record { run = run gives seed items jobs past m told results w; number = i; from = there.from; to = there.to }

  pub is_span : IsSpan span
  is_span = there.is

  abbrev pub lane_here : Option ℕ → ℕ
  lane_here = lane gives seed items jobs past m told results w

  abbrev pub time_of : List Told → ℕ
  time_of d = time lane_here d

  -- ---- places

  -- a call of the command stands at a time of it
  pub own_time : (d r : List Told) (e : Told) → told ≡ d ++ e ∷ r → e.job ≡ Some i → is_no_memory e.reply ≡ false → (there.from ≤ time_of d) × (time_of d < there.to)
  own_time d r e parts mine memory = is_span.all (time_of d) (is_call gives seed items jobs past m told results w d r e parts i mine memory there.from there.to)

  -- a listing of the job is one of the command
  module _ (seen rest : List Told) (whole : told ≡ seen ++ rest) (prefix : Prefix) (at : ListedAt seen i prefix) where
    listing_place : told ≡ at.before ++ at.listing ∷ (at.later ++ rest)
    listing_place = whole ∙ ap (λ l. l ++ rest) at.place ∙ append_assoc at.before (at.listing ∷ at.later) rest

    pub listed_so : Lists span (time_of at.before) prefix
    listed_so = let is = makes_it gives seed items jobs past m told results w at.before (at.later ++ rest) at.listing listing_place i at.own at.memory there.from there.to in (is.0, is.1, is.2, is.3 ∙ at.lists)

    pub listed_held : held_told m at.before ≡ held_at span.run (time_of at.before)
    listed_held = sym (held_there gives seed items jobs past m told results w at.before (at.listing ∷ (at.later ++ rest)) listing_place)

    pub listed_history : history_told jobs past at.before ≡ span.run.history (time_of at.before)
    listed_history = sym (history_there gives seed items jobs past m told results w at.before (at.listing ∷ (at.later ++ rest)) listing_place)

    pub listed_time : (there.from ≤ time_of at.before) × (time_of at.before < there.to)
    listed_time = own_time at.before (at.later ++ rest) at.listing listing_place at.own at.memory

  -- so is a call of the job
  module _ (c : Call) (at : MadeAt told i c) where
    pub made_so : Makes span (time_of at.before) c
    made_so = let is = makes_it gives seed items jobs past m told results w at.before at.later at.made at.place i at.own at.memory there.from there.to in (is.0, is.1, is.2, is.3 ∙ at.makes)

    pub made_history : history_told jobs past at.before ≡ span.run.history (time_of at.before)
    made_history = sym (history_there gives seed items jobs past m told results w at.before (at.made ∷ at.later) at.place)

    pub after_held : held_told m (at.before ++ at.made ∷ []) ≡ held_at span.run (time_of at.before + 1)
    after_held = sym (held_next gives seed items jobs past m told results w at.before at.later at.made at.place i at.own at.memory)

    pub after_history : history_told jobs past (at.before ++ at.made ∷ []) ≡ span.run.history (time_of at.before + 1)
    after_history = sym (history_next gives seed items jobs past m told results w at.before at.later at.made at.place i at.own at.memory)

  -- an object that the job removed was removed by a call of the command
  pub gone_so : (n : Name) → IsGone m told i n → DidRemove span n
  gone_so n is = let at = is.removed in (time_of at.before, made_so (call.Remove n) at, ap (λ h. map.get h n) (sym (after_held (call.Remove n) at)) ∙ is.gone)

  -- a later place has a later time
  pub later_time : (d r : List Told) (e : Told) → told ≡ d ++ e ∷ r → e.job ≡ Some i → is_no_memory e.reply ≡ false → (b : List Told) → (x y : List Told) → b ≡ d ++ e ∷ x → told ≡ b ++ y → time_of d < time_of b
  later_time d r e parts mine memory b x y is whole =
      let front : b ≡ (d ++ e ∷ []) ++ x = is ∙ sym (append_assoc d (e ∷ []) x) in
      let next : time_of (d ++ e ∷ []) ≡ time_of d + 1 = time_next lane_here d e i mine memory in
      let least = time_within lane_here b (d ++ e ∷ []) x front in
      omega (arith, next, least)

  -- ---- what it found

  -- a schema that the job found as it listed them held as the command listed them
  pub held_as_listed : (seen rest : List Told) → told ≡ seen ++ rest → (at : ListedAt seen i Schemas) (there : Schema) → IsUndone (history_told jobs past at.before) job → current_schema (history_told jobs past at.before) job.at ≡ Some there
      → HeldAsListed span (time_of seen) (key_of job) there
  held_as_listed seen rest whole at there new holds =
      let then = listed_history seen rest whole Schemas at in (
        time_of at.before,
        later_time at.before (at.later ++ rest) at.listing (listing_place seen rest whole Schemas at) at.own at.memory seen at.later rest at.place whole,
        listed_so seen rest whole Schemas at,
        subst (λ h. IsNewKey h (key_of job)) then new,
        subst (λ h. current_schema h job.at ≡ Some there) then holds,
      )

  -- where the job found no array, the command did
  pub none_found : (seen rest : List Told) → told ≡ seen ++ rest → (made : FrameIn) → FindsNoArray jobs past seen i made → FoundNoArray span (time_of seen) made
  none_found seen rest whole made (inl (at, is_made, nothing)) =
      let e = at.made in
      let place : told ≡ at.before ++ e ∷ (at.later ++ rest) = whole ∙ ap (λ l. l ++ rest) at.place ∙ append_assoc at.before (e ∷ at.later) rest in
      let among : Contains told e = subst (λ l. Contains l e) (sym place) (Contains-append_right at.before (e ∷ (at.later ++ rest)) e (Contains-here e (at.later ++ rest))) in
      let did : e.fate ≡ fate.Done = (All-contains Suits told e w.suit among).served (λ failed. let clash : reply.Made ≡ reply.Failed = sym is_made ∙ failed in cc) in
      inl (
        time_of at.before,
        later_time at.before (at.later ++ rest) e place at.own at.memory seen at.later rest at.place whole,
        (call_made lane_here e i, call_at lane_here told at.before (at.later ++ rest) e i place at.own at.memory, refl, at.makes, did),
        history_there gives seed items jobs past m told results w at.before (e ∷ (at.later ++ rest)) place ∙ nothing,
      )
  none_found seen rest whole made (inr (at, none)) =
      inr (
        time_of at.before,
        later_time at.before (at.later ++ rest) at.listing (listing_place seen rest whole Schemas at) at.own at.memory seen at.later rest at.place whole,
        listed_so seen rest whole Schemas at,
        ap schemas (sym (listed_history seen rest whole Schemas at)) ∙ none,
      )

  -- ---- what its calls did

  -- a call of the command, by what was told
  record Own (n : ℕ) : Type 0 where
    d : List Told
    e : Told
    r : List Told
    parts : told ≡ d ++ e ∷ r
    mine : e.job ≡ Some i
    memory : is_no_memory e.reply ≡ false
    time_is : time_of d ≡ n
    at : held_at span.run n ≡ held_told m d
    next : held_at span.run (n + 1) ≡ held_told m (d ++ e ∷ [])
    history : span.run.history n ≡ history_told jobs past d
    history_after : span.run.history (n + 1) ≡ history_told jobs past (d ++ e ∷ [])

  own_of : (n : ℕ) → IsCall span n → Own n
  own_of n (c, there_is, number) =
      let is : IsTold lane_here told n c = find_call lane_here told n c there_is in
      let mine : is.e.job ≡ Some i = is.mine ∙ ap Some number in
      record {
        d = is.earlier;
        e = is.e;
        r = is.later;
        parts = is.parts;
        mine = mine;
        memory = is.memory;
        time_is = is.time_is;
        at = ap (held_at span.run) (sym is.time_is) ∙ held_there gives seed items jobs past m told results w is.earlier (is.e ∷ is.later) is.parts;
        next = ap (λ k. held_at span.run (k + 1)) (sym is.time_is) ∙ held_next gives seed items jobs past m told results w is.earlier is.later is.e is.parts i mine is.memory;
        history = ap (λ k. span.run.history k) (sym is.time_is) ∙ history_there gives seed items jobs past m told results w is.earlier (is.e ∷ is.later) is.parts;
        history_after = ap (λ k. span.run.history (k + 1)) (sym is.time_is) ∙ history_next gives seed items jobs past m told results w is.earlier is.later is.e is.parts i mine is.memory;
      }

  -- what a call of the job appended: no deed, or that which is told of it
  told_grew : (d r : List Told) (e : Told) → told ≡ d ++ e ∷ r → e.job ≡ Some i
      → (history_told jobs past (d ++ e ∷ []) ≡ history_told jobs past d)
      ⊎ ((x : Deed) × (history_told jobs past (d ++ e ∷ []) ≡ history_told jobs past d ++ x ∷ []) × (e.changed ≡ true) × (deed_in (history_told jobs past d) job (schemas_found (trace_of i d)) e.call ≡ Some x))
  told_grew d r e parts mine = with_change e.changed refl
    where
      h : History
      h = history_told jobs past d

      pushed : history_told jobs past (d ++ e ∷ []) ≡ h ++ grown jobs h d e
      pushed = history_told-push jobs past d e

      -- the deed that is told is one of the job
      of_job : (x : Deed) → deed_told jobs h d e ≡ Some x → deed_in h job (schemas_found (trace_of i d)) e.call ≡ Some x
      of_job x said =
          let by_number : ℕ → Job → Option Deed = λ number j. deed_in h j (schemas_found (trace_of number d)) e.call in
          let (number, by_it, in_jobs) = and_then_some (λ number. option_and_then (by_number number) (slice_get jobs number)) e.job x said in
          let (j, j_at, in_it) = and_then_some (by_number number) (slice_get jobs number) x in_jobs in
          let at_i : number ≡ i = same_Some number i (sym by_it ∙ mine) in
          let it : j ≡ job = same_Some j job (sym j_at ∙ ap (slice_get jobs) at_i ∙ is_job) in
          subst (λ k. deed_in h job (schemas_found (trace_of k d)) e.call ≡ Some x) at_i (subst (λ y. deed_in h y (schemas_found (trace_of number d)) e.call ≡ Some x) it in_it)

      with_change : (b : Bool) → e.changed ≡ b
          → (history_told jobs past (d ++ e ∷ []) ≡ h) ⊎ ((x : Deed) × (history_told jobs past (d ++ e ∷ []) ≡ h ++ x ∷ []) × (e.changed ≡ true) × (deed_in h job (schemas_found (trace_of i d)) e.call ≡ Some x))
      with_change false still = inl (pushed ∙ ap (λ b. h ++ cond b (option_to_list (deed_told jobs h d e)) []) still ∙ append-nil h)
      with_change true did = elim (one_grown e.changed (deed_told jobs h d e)) [
        | inl none ↦ inl (pushed ∙ ap (λ ds. h ++ ds) none ∙ append-nil h)
        | inr (x, said, one) ↦ inr (x, pushed ∙ ap (λ ds. h ++ ds) one, did, of_job x said)
      ]

  -- that is one of the command
  told_own : (d r : List Told) (e : Told) → told ≡ d ++ e ∷ r → e.job ≡ Some i → (x : Deed) → deed_in (history_told jobs past d) job (schemas_found (trace_of i d)) e.call ≡ Some x
      → IsDeedAt span (time_of d) (key_of job) job.command x
  told_own d r e parts mine x deed =
      let n = time_of d in
      deed_at span n (key_of job) job.command x
      (subst (λ h. IsDeedBy (FoundNoArray span n) (HeldAsListed span n (key_of job)) h (key_of job) job.command x) (sym (history_there gives seed items jobs past m told results w d (e ∷ r) parts))
      (deed_by gives seed items jobs past m told results w.are w.order w.stands w.fresh w.seed_fits w.replied w.suit w.owned w.within w.in_turn w.driven d r e parts i job is_job mine
      (FoundNoArray span n) (HeldAsListed span n (key_of job)) (none_found d (e ∷ r) parts) (held_as_listed d (e ∷ r) parts) x deed))

  -- a call of the command appends no deed, or one of the command
  pub deeds_so : (n : ℕ) → IsCall span n → (span.run.history (n + 1) ≡ span.run.history n) ⊎ ((d : Deed) × (span.run.history (n + 1) ≡ span.run.history n ++ d ∷ []) × IsDeedAt span n (key_of job) job.command d)
  deeds_so n is =
      let own = own_of n is in
      elim (told_grew own.d own.r own.e own.parts own.mine) [
        | inl still ↦ inl (own.history_after ∙ still ∙ sym own.history)
        | inr (x, appends, changed, deed) ↦
            inr (x, own.history_after ∙ appends ∙ ap (λ h. h ++ x ∷ []) (sym own.history), subst (λ k. IsDeedAt span k (key_of job) job.command x) own.time_is (told_own own.d own.r own.e own.parts own.mine x deed))
      ]

  -- the calls of a command that does none appended none
  pub none_so : DoesNone job.command → DidNone span
  none_so quiet n is = elim (deeds_so n is) [
    | inl still ↦ still
    | inr (d, appends, of_it) ↦ absurd (no_deed_at span n (key_of job) job.command d quiet of_it)
  ]

  -- nor did those of a job that changed nothing
  pub idle_so : ChangedNothing m told i job → DidNone span
  idle_so idle n is =
      let own = own_of n is in
      elim (told_grew own.d own.r own.e own.parts own.mine) [
        | inl still ↦ own.history_after ∙ still ∙ sym own.history
        | inr (x, appends, changed, deed) ↦
            let (o, bytes, puts, no_lease) = deed_puts (history_told jobs past own.d) job (schemas_found (trace_of i own.d)) own.e.call x deed in
            let same : map.get (held_told m (own.d ++ own.e ∷ [])) o ≡ map.get (held_told m own.d) o = idle own.d own.r own.e own.parts own.mine o (lease_apart (key_of job) (mode_of job.command) o no_lease) in
            absurd (elim (put_went (held_told m own.d) o bytes own.e puts (replied_at m own.d own.e own.r (subst (Replied m) own.parts w.replied))) [
              | Added free same_held did said ↦
                  free (Holds-from_get (held_told m own.d) o bytes (sym same ∙ ap (λ h. map.get h o) (held_told-append m own.d (own.e ∷ []) ∙ same_held) ∙ get_put (held_told m own.d) o bytes))
              | Still same_held still not_made taken ↦ true≢false (sym changed ∙ still)
            ])
      ]

  -- a command that does no deed has none
  undone_on_by : DoesNone job.command → (seen rest : List Told) → told ≡ seen ++ rest → IsUndone (history_told jobs past seen) job → IsUndone (history_told jobs past (seen ++ rest)) job
  undone_on_by quiet seen [] parts undone = subst (λ t. IsUndone (history_told jobs past t) job) (sym (append-nil seen)) undone
  undone_on_by quiet seen (e ∷ rest) parts undone =
      subst (λ t. IsUndone (history_told jobs past t) job) (append_assoc seen (e ∷ []) rest) (undone_on_by quiet (seen ++ e ∷ []) rest (parts ∙ sym (append_assoc seen (e ∷ []) rest)) (elim (by_job i e.job) [
        | inl mine ↦ elim (told_grew seen rest e parts mine) [
          | inl still ↦ subst (λ h. IsUndone h job) (sym still) undone
          | inr (x, appends, changed, deed) ↦ absurd (no_deed_at span (time_of seen) (key_of job) job.command x quiet (told_own seen rest e parts mine x deed))
        ]
        | inr other ↦ undone_on jobs past i job is_job (ids_apart gives seed items jobs w.are w.order) seen (e ∷ [])
            (λ x at. elim (Contains-cons e [] x at) [ inl same ↦ subst (λ (d : Told). d.job ≡ Some i → ⊥) same other | inr none ↦ absurd (Contains-nil x none) ]) undone
      ]))

  pub quiet_undone : DoesNone job.command → IsUndone (history_told jobs past told) job
  quiet_undone quiet =
      undone_on_by quiet [] told refl (new_from_absent past (key_of job) (λ at. w.fresh job.id (id_has_seed gives seed items jobs w.are w.order i job is_job) (inl (key_of job, at, refl))))

  -- each call left each object as it was, or it was of a kind, by the place of the call
  pub left_so : (kind : ℕ → Name → Type 0)
      → ((d r : List Told) (e : Told) → told ≡ d ++ e ∷ r → e.job ≡ Some i → is_no_memory e.reply ≡ false → (n : Name) → (lease_of job ≡ Some n → ⊥) → (map.get (held_told m (d ++ e ∷ [])) n ≡ map.get (held_told m d) n) ⊎ kind (time_of d) n)
      → LeftOthers span (key_of job) job.command kind
  left_so kind alone n (c, there_is, number) x other =
      let is : IsTold lane_here told n c = find_call lane_here told n c there_is in
      let mine : is.e.job ≡ Some i = is.mine ∙ ap Some number in
      let at : held_at span.run n ≡ held_told m is.earlier = ap (held_at span.run) (sym is.time_is) ∙ held_there gives seed items jobs past m told results w is.earlier (is.e ∷ is.later) is.parts in
      let next : held_at span.run (n + 1) ≡ held_told m (is.earlier ++ is.e ∷ []) = ap (λ k. held_at span.run (k + 1)) (sym is.time_is) ∙ held_next gives seed items jobs past m told results w is.earlier is.later is.e is.parts i mine is.memory in
      elim (alone is.earlier is.later is.e is.parts mine is.memory x other) [
        | inl same ↦ inl (ap (λ h. map.get h x) next ∙ same ∙ ap (λ h. map.get h x) (sym at))
        | inr of_kind ↦ inr (subst (λ k. kind k x) is.time_is of_kind)
      ]

  -- each call of a job that changed nothing left all
  pub left_all : ChangedNothing m told i job → LeftAll span (key_of job) job.command
  left_all idle = left_so (λ n x. ⊥) (λ d r e parts mine memory n other. inl (idle d r e parts mine n other))

  -- what was held before a call is so after it, where so it is by what was told
  pub held_so : ((d r : List Told) (e : Told) → told ≡ d ++ e ∷ r → e.job ≡ Some i → HeldSince (held_told m d) (held_told m (d ++ e ∷ []))) → (n : ℕ) → IsCall span n → HeldSince (held_at span.run n) (held_at span.run (n + 1))
  held_so stays n is =
      let own = own_of n is in
      subst (λ h. HeldSince h (held_at span.run (n + 1))) (sym own.at) (subst (HeldSince (held_told m own.d)) (sym own.next) (stays own.d own.r own.e own.parts own.mine))

  -- ---- the end

  -- no deed of the history in the end has a key: nor has one as the command ended
  pub new_now : (k : Key) → IsNewKey (history_told jobs past told) k → IsNewKey (now span) k
  new_now k new =
      let last = length span.run.calls in
      new_before (now span) (history_told jobs past told) k
      (subst (Extends (now span)) (history_last gives seed items jobs past m told results w) (goes_on_to gives seed items jobs past m told results w there.to last is_span.whole (omega arith))) new

  -- a first part of the calls has all of a command that ended well
  pub record Until : Type 0 where
    pub till : List Told
    pub rest : List Told
    pub whole : told ≡ till ++ rest
    pub silent : trace_of i rest ≡ []
    pub time_is : time_of till ≡ there.to
    pub last : (till ≡ []) ⊎ ((d : List Told) × (e : Told) × (till ≡ d ++ e ∷ []) × (e.job ≡ Some i) × Contains told e)

  module _ (end : Outcome) (well : EndsWell end) (segment : IsSegment run_codec job (trace_of i told) (Done end)) where
    -- its calls found memory
    memory : (e : Told) → Contains told e → e.job ≡ Some i → is_no_memory e.reply ≡ false
    memory e among mine =
        let x : Exchange = record { call = e.call; reply = e.reply } in
        All-contains (λ (y : Exchange). is_no_memory y.reply ≡ false) (trace_of i told) x (heeds_memory job (trace_of i told) end well segment)
        (Contains-filter_map (exchange_of i) told e x among (exchange_of_own i e mine))

    -- after its last time it made none
    silent_after : (a b : List Told) → told ≡ a ++ b → there.to ≤ time_of a → trace_of i b ≡ []
    silent_after a b parts late = no_trace i b (λ e among mine.
        let (x, y, split) = split_at b e among in
        let place : told ≡ (a ++ x) ++ e ∷ y = parts ∙ ap (λ l. a ++ l) split ∙ sym (append_assoc a x (e ∷ y)) in
        let before_it = own_time (a ++ x) y e place mine (memory e (subst (λ l. Contains l e) (sym parts) (Contains-append_right a b e among)) mine) in
        let most = time_within lane_here (a ++ x) a x refl in
        omega (arith, before_it.1, most, late))

    pub until : Until
    until = by is_span.tight
      where
        by : (there.from ≡ there.to) ⊎ (IsCall span there.from × ((last : ℕ) × (there.to ≡ last + 1) × IsCall span last)) → Until
        by (inl same) = record { till = []; rest = told; whole = refl; silent = silent_after [] told refl (omega (arith, there.empty same)); time_is = sym (there.empty same); last = inl refl }
        by (inr (first, (last, to_is, (c, at, number)))) =
            let is : IsTold lane_here told last c = find_call lane_here told last c at in
            let mine : is.e.job ≡ Some i = is.mine ∙ ap Some number in
            let whole : told ≡ (is.earlier ++ is.e ∷ []) ++ is.later = is.parts ∙ sym (append_assoc is.earlier (is.e ∷ []) is.later) in
            let time_till : time_of (is.earlier ++ is.e ∷ []) ≡ there.to = time_next lane_here is.earlier is.e i mine is.memory ∙ ap (λ k. k + 1) is.time_is ∙ sym to_is in
            record {
              till = is.earlier ++ is.e ∷ [];
              rest = is.later;
              whole = whole;
              silent = silent_after (is.earlier ++ is.e ∷ []) is.later whole (omega (arith, time_till));
              time_is = time_till;
              last = inr (is.earlier, is.e, refl, mine, subst (λ l. Contains l is.e) (sym is.parts) (Contains-append_right is.earlier (is.e ∷ is.later) is.e (Contains-here is.e is.later)));
            }

    -- as it ended the history was that of these calls, and what was held was what they left
    pub now_is : history_told jobs past until.till ≡ now span
    now_is = sym (history_there gives seed items jobs past m told results w until.till until.rest until.whole) ∙ ap (λ k. span.run.history k) until.time_is

    held_then : held_told m until.till ≡ held_at span.run there.to
    held_then = sym (held_there gives seed items jobs past m told results w until.till until.rest until.whole) ∙ ap (held_at span.run) until.time_is

    -- the lease that its last call removed is not held then
    removed_last : (lease : Name) (front : List Exchange) → trace_of i told ≡ front ++ removal lease reply.Removed ∷ [] → map.get (held_at span.run there.to) lease ≡ None
    removed_last lease front ends = by until.last
      where
        traced : trace_of i told ≡ trace_of i until.till
        traced = ap (trace_of i) until.whole ∙ trace_of-append i until.till until.rest ∙ ap (λ t. trace_of i until.till ++ t) until.silent ∙ append-nil (trace_of i until.till)

        by : (until.till ≡ []) ⊎ ((d : List Told) × (e : Told) × (until.till ≡ d ++ e ∷ []) × (e.job ≡ Some i) × Contains told e) → map.get (held_at span.run there.to) lease ≡ None
        by (inl none) = absurd (no_last front (removal lease reply.Removed) (sym (ap (trace_of i) none) ∙ sym traced ∙ ends))
        by (inr (d, e, parts, mine, among)) =
            let exchange : Exchange = record { call = e.call; reply = e.reply } in
            let same : exchange ≡ removal lease reply.Removed = (same_from_push (trace_of i d) front exchange (removal lease reply.Removed) (sym (trace_of-own i d e mine) ∙ sym (ap (trace_of i) parts) ∙ sym traced ∙ ends)).1 in
            let replies : e.reply ≡ reply.Removed = ap (λ (x : Exchange). x.reply) same in
            let did : e.fate ≡ fate.Done = (All-contains Suits told e w.suit among).served (λ failed. let clash : reply.Removed ≡ reply.Failed = sym replies ∙ failed in cc) in
            ap (λ h. map.get h lease) (sym held_then ∙ ap (held_told m) parts ∙ held_told-append m d (e ∷ [])) ∙ gone (held_told m d) e lease (ap (λ (x : Exchange). x.call) same) replies did

    -- a command that ended well leaves no lease
    pub no_lease_so : LeftNoLease span (key_of job) job.command
    no_lease_so = by (mode_of job.command) refl
      where
        by : (o : Option LeaseMode) → mode_of job.command ≡ o → IfSome o (λ mode. map.get (held_at span.run there.to) (name.Lease (key_of job) mode) ≡ None)
        by None none = tt
        by (Some mode) has =
            let removes = last_removes job (trace_of i told) end (name.Lease (key_of job) mode) (ap (option_map (name.Lease (key_of job))) has) (unrefused job.command mode has) well segment in
            removed_last (name.Lease (key_of job) mode) removes.0 removes.1
