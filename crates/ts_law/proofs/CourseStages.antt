-- The calls of a job in its stages: without a lease they are those of its work; with one they are those up to the removal, and that.
use Rattle.std.proofs.Common.{length, suc, ◌≡◌, Bool, true, false, cond, ◌&&◌, ◌||◌, ◌⊎◌, arith, inl, inr, List, [], ◌∷◌, ◌++◌, Option, Some, None, refl, sym, ◌∙◌, ap, subst}
use Rattle.std.specs.Prelude.{⊤, nat_lt, not, slice_get}
use Rattle.std.specs.Option.{is_none, is_some, option_map_or}
use Rattle.std.proofs.lemmas.Bool.{lt-ltb, true≢false}
use Rattle.std.proofs.lemmas.Option.{none-some, same_Some}
use Rattle.ts_base.specs.Exact.{name_decides}
use Rattle.ts_base.specs.declared.names.Name.{Name}
use Rattle.ts_store.specs.declared.call.Reply.{Reply}
use Rattle.ts_model.specs.declared.commands.Job.{Job}
use Rattle.ts_model.specs.declared.answers.Outcome.{Outcome}
use Rattle.ts_model.specs.declared.states.State.{State}
use Rattle.ts_model.specs.declared.states.State.TheVariants.{Over, Puts, Removes}
use Rattle.ts_model.specs.declared.states.NewObject.{NewObject}
use Rattle.ts_model.specs.declared.states.Stage.{Stage}
use Rattle.ts_model.specs.declared.states.Stage.TheVariants.{Releases, Works}
use Rattle.ts_model.specs.Codecs.{Codec}
use Rattle.ts_model.specs.Driven.{AskedFrom, MayAsk, lacks_after, lacks_from}
use Rattle.ts_model.specs.States.{Exchange, asks, asks_memory, end_by, goes, is_amid_removals, is_over, on_made, on_removed, put_of, putting, removing, takes_memory, with_item}
use Rattle.ts_model.specs.Stages.{end_at, goes_on, holds_lease, is_leased, is_release, is_removal, lease_of, may_give_up, released, settled, stage_asks, stage_asks_memory, stage_from, stage_goes}
use Rattle.ts_model.proofs.Asked.{gives_up_held, next_call, no_release}
use Rattle.ts_model.proofs.Lacks.{bare_goes, other_goes, release_ends}
use Rattle.ts_law.specs.Courses.{removal}
use Rattle.ts_law.proofs.CourseCalls.{WorkAsks, WorkEnds, lacking, work_from}
use Rattle.ts_law.proofs.LeaseSteps.{release_is}
use Rattle.ts_store.specs.declared.call.Call.TheVariants as call
use Rattle.ts_store.specs.declared.call.Reply.TheVariants as reply
use Rattle.ts_model.specs.declared.answers.Outcome.TheVariants as outcome

module _ {F : Type 0} (codec : Codec F) (job : Job) where
  -- ---- a job without a lease

  -- its calls are those of its work
  pub bare_asks : lease_of job ≡ None → (s : State F) (xs : List Exchange) → AskedFrom codec job (Works s) xs → WorkAsks codec job s xs
  bare_asks none s [] asked = tt
  bare_asks none s (x ∷ xs) asked =
      (next_call codec job (Works s) x.call none asked.0, bare_asks none (goes codec job s x.reply) xs (subst (λ g. AskedFrom codec job g xs) (bare_goes codec job s x none) asked.1))

  -- and lead where its work leads
  pub bare_from : lease_of job ≡ None → (s : State F) (xs : List Exchange) → stage_from codec job (Works s) xs ≡ Works (work_from codec job s xs)
  bare_from none s [] = refl
  bare_from none s (x ∷ xs) = ap (λ g. stage_from codec job g xs) (bare_goes codec job s x none) ∙ bare_from none (goes codec job s x.reply) xs

  -- and memory can be wanting after them where it can be for its work
  pub bare_lacks : lease_of job ≡ None → (before : Bool) (s : State F) (xs : List Exchange) → lacks_from codec job before (Works s) xs ≡ lacking codec job before s xs
  bare_lacks none before s [] = refl
  bare_lacks none before s (x ∷ xs) =
      let next : State F = goes codec job s x.reply in
      let leads : goes_on codec job (Works s) x ≡ Works next = bare_goes codec job s x none in
      let after : lacks_after codec job before (Works s) x ≡ (takes_memory s || asks_memory next) =
      ap (λ b. cond b before (takes_memory s || stage_asks_memory (goes_on codec job (Works s) x))) (no_release job x.call none) ∙ ap (λ g. takes_memory s || stage_asks_memory g) leads in
      ap (λ b. lacks_from codec job b (goes_on codec job (Works s) x) xs) after ∙ ap (λ g. lacks_from codec job (takes_memory s || asks_memory next) g xs) leads ∙ bare_lacks none (takes_memory s || asks_memory next) next xs

  -- work that is in one place is in one state
  pub same_work : {s t : State F} → ◌≡◌ {A = Stage F} (Works s) (Works t) → s ≡ t
  same_work same = cc

  -- ---- a job with a lease

  module _ (lease : Name) (some : lease_of job ≡ Some lease) where
    -- each call is the one that is asked, and none removes the lease
    abbrev pub OpenAsks : Stage F → List Exchange → Type 0
    OpenAsks g [] = ⊤
    OpenAsks g (x ∷ xs) = (stage_asks codec job g ≡ Some x.call) × (is_release job x.call ≡ false) × OpenAsks (stage_goes codec job g x.reply) xs

    -- where such calls lead
    abbrev pub open_from : Stage F → List Exchange → Stage F
    open_from g [] = g
    open_from g (x ∷ xs) = open_from (stage_goes codec job g x.reply) xs

    -- one more such call
    pub open-push : (g : Stage F) (xs : List Exchange) (x : Exchange) → OpenAsks g xs → stage_asks codec job (open_from g xs) ≡ Some x.call → is_release job x.call ≡ false → OpenAsks g (xs ++ x ∷ [])
    open-push g [] x asked next other = (next, other, tt)
    open-push g (y ∷ xs) x asked next other = (asked.0, asked.1, open-push (stage_goes codec job g y.reply) xs x asked.2 next other)

    -- the calls from a stage on: the lease is not removed yet, or its removal is the last one
    pub data Split (g : Stage F) (xs : List Exchange) : Type 0 where
      Open : OpenAsks g xs → stage_from codec job g xs ≡ open_from g xs → Split g xs
      Closed : (front : List Exchange) (r : Reply) → xs ≡ front ++ removal lease r ∷ [] → OpenAsks g front → MayAsk codec job (open_from g front) (call.Remove lease)
          → stage_from codec job g xs ≡ Works (Over (released lease (end_at (open_from g front)) r)) → Split g xs

    -- a job that is over makes no call
    pub over_asks : (end : Outcome) (xs : List Exchange) → AskedFrom codec job (Works (Over end)) xs → xs ≡ []
    over_asks end [] asked = refl
    over_asks end (x ∷ xs) (inl asked, more) = absurd (none-some x.call asked)
    over_asks end (x ∷ xs) (inr gives_up, more) = absurd (no_lease (is_some (lease_of job)) (gives_up_held {F = F} job (Works (Over end)) gives_up.1))
      where
        no_lease : (b : Bool) → (b && false) ≡ true → ⊥
        no_lease true is = true≢false (sym is)
        no_lease false is = true≢false (sym is)

    -- calls that a job may make are such
    pub split : (g : Stage F) (xs : List Exchange) → AskedFrom codec job g xs → Split g xs
    split g [] asked = Open tt refl
    split g (x ∷ xs) asked = by_kind (is_release job x.call) refl (λ other. split (stage_goes codec job g x.reply) xs (subst (λ h. AskedFrom codec job h xs) (other_goes codec job g x other) asked.1))
      where
        by_rest : is_release job x.call ≡ false → Split (stage_goes codec job g x.reply) xs → Split g (x ∷ xs)
        by_rest other rest = elim asked.0 [
          | inr gives_up ↦ absurd (true≢false (sym gives_up.0 ∙ other))
          | inl asks_it ↦ on asks_it rest
        ]
          where
            leads : stage_from codec job g (x ∷ xs) ≡ stage_from codec job (stage_goes codec job g x.reply) xs
            leads = ap (λ h. stage_from codec job h xs) (other_goes codec job g x other)

            on : stage_asks codec job g ≡ Some x.call → Split (stage_goes codec job g x.reply) xs → Split g (x ∷ xs)
            on asks_it (Open opened same) = Open (asks_it, other, opened) (leads ∙ same)
            on asks_it (Closed front r parts opened may same) = Closed (x ∷ front) r (ap (λ t. x ∷ t) parts) (asks_it, other, opened) may (leads ∙ same)

        by_kind : (b : Bool) → is_release job x.call ≡ b → (is_release job x.call ≡ false → Split (stage_goes codec job g x.reply) xs) → Split g (x ∷ xs)
        by_kind true is later =
            let (own, owned, removes) = release_is job x.call is in
            let same_lease : own ≡ lease = same_Some own lease (sym owned ∙ some) in
            let ends = release_ends codec job g x lease some is in
            let none = over_asks (released lease (end_at g) x.reply) xs (subst (λ h. AskedFrom codec job h xs) ends asked.1) in
            let called : x.call ≡ call.Remove lease = removes ∙ ap call.Remove same_lease in
            Closed [] x.reply (ap (λ t. x ∷ t) none ∙ ap (λ c. record { call = c; reply = x.reply } ∷ []) called) tt (subst (MayAsk codec job g) called asked.0)
            (ap (λ t. stage_from codec job g (x ∷ t)) none ∙ ends)
        by_kind false is later = by_rest is (later is)

    -- a job that removes its lease makes no other call before
    pub releasing_asks : (end : Outcome) (xs : List Exchange) → OpenAsks (Releases lease end) xs → xs ≡ []
    releasing_asks end [] asked = refl
    releasing_asks end (x ∷ xs) asked =
        let removes : x.call ≡ call.Remove lease = sym (same_Some (call.Remove lease) x.call asked.0) in
        let is : is_release job x.call ≡ true = ap (is_release job) removes ∙ ap (λ o. option_map_or (is_removal (call.Remove lease)) o false) some ∙ (name_decides lease lease).1 refl in
        absurd (true≢false (sym is ∙ asked.1))

    -- the job removes its lease in this stage
    abbrev pub IsReleasing : Stage F → Type 0
    IsReleasing g = (own : Name) × (end : Outcome) × (g ≡ Releases own end)

    -- ---- under the lease

    -- a state of the work is over, or the job works on in it
    pub over_or_works : (s : State F) → ((end : Outcome) × (s ≡ Over end)) ⊎ (settled (Some lease) s ≡ Works s)
    over_or_works (Over end) = inl (end, refl)
    over_or_works _ = inr refl

    -- a job that works or is to remove its lease holds it
    pub settled_leased : (s : State F) → is_leased (settled (Some lease) s) ≡ true
    settled_leased (Over end) = refl
    settled_leased _ = refl

    -- the calls under the lease are those of the work
    pub work_open : (s : State F) (xs : List Exchange) → OpenAsks (settled (Some lease) s) xs → WorkAsks codec job s xs × (open_from (settled (Some lease) s) xs ≡ settled (Some lease) (work_from codec job s xs))
    work_open s [] asked = (tt, refl)
    work_open s (x ∷ xs) asked = elim (over_or_works s) [
      | inl over ↦ absurd (some_call (releasing_asks over.0 (x ∷ xs) (subst (λ t. OpenAsks (settled (Some lease) t) (x ∷ xs)) over.1 asked)))
      | inr works ↦
          let here : OpenAsks (Works s) (x ∷ xs) = subst (λ g. OpenAsks g (x ∷ xs)) works asked in
          let next : stage_goes codec job (Works s) x.reply ≡ settled (Some lease) (goes codec job s x.reply) = ap (λ o. settled o (goes codec job s x.reply)) some in
          let rest = work_open (goes codec job s x.reply) xs (subst (λ g. OpenAsks g xs) next here.2) in
          ((here.0, rest.0), ap (λ g. open_from g (x ∷ xs)) works ∙ ap (λ g. open_from g xs) next ∙ rest.1)
    ]
      where
        some_call : x ∷ xs ≡ [] → ⊥
        some_call e = cc

    -- a stage settled in a state takes memory for its next call where that state does
    settled_asks : (s : State F) → stage_asks_memory (settled (Some lease) s) ≡ asks_memory s
    settled_asks (Over end) = refl
    settled_asks _ = refl

    -- memory can be wanting after the calls under the lease where it can be for the work
    pub open_lacks : (before : Bool) (s : State F) (xs : List Exchange) → OpenAsks (settled (Some lease) s) xs → lacks_from codec job before (settled (Some lease) s) xs ≡ lacking codec job before s xs
    open_lacks before s [] asked = refl
    open_lacks before s (x ∷ xs) asked = elim (over_or_works s) [
      | inl over ↦ absurd (some_call (releasing_asks over.0 (x ∷ xs) (subst (λ t. OpenAsks (settled (Some lease) t) (x ∷ xs)) over.1 asked)))
      | inr works ↦
          let here : OpenAsks (Works s) (x ∷ xs) = subst (λ g. OpenAsks g (x ∷ xs)) works asked in
          let next : State F = goes codec job s x.reply in
          let to : stage_goes codec job (Works s) x.reply ≡ settled (Some lease) next = ap (λ o. settled o next) some in
          let leads : goes_on codec job (Works s) x ≡ settled (Some lease) next = other_goes codec job (Works s) x here.1 ∙ to in
          let after : lacks_after codec job before (Works s) x ≡ (takes_memory s || asks_memory next) =
          ap (λ b. cond b before (takes_memory s || stage_asks_memory (goes_on codec job (Works s) x))) here.1 ∙ ap (λ g. takes_memory s || stage_asks_memory g) leads ∙ ap (λ b. takes_memory s || b) (settled_asks next) in
          ap (λ g. lacks_from codec job before g (x ∷ xs)) works
          ∙ ap (λ b. lacks_from codec job b (goes_on codec job (Works s) x) xs) after
          ∙ ap (λ g. lacks_from codec job (takes_memory s || asks_memory next) g xs) leads
          ∙ open_lacks (takes_memory s || asks_memory next) next xs (subst (λ g. OpenAsks g xs) to here.2)
    ]
      where
        some_call : x ∷ xs ≡ [] → ⊥
        some_call e = cc

    -- ---- where a job gives up

    -- a state from which a reply leads to a first removal takes memory for it
    takes_first : (s : State F) (r : Reply) → is_over (goes codec job s r) ≡ false → is_amid_removals (goes codec job s r) ≡ false → asks_memory (goes codec job s r) ≡ false → takes_memory s ≡ true
    takes_first (Puts objects next end) r going calm asking = absurd (by_item (slice_get objects next) going asking)
      where
        IsPut : State F → Type 0
        IsPut t = is_over t ≡ false → asks_memory t ≡ false → ⊥

        over_put : (o : Outcome) → IsPut (Over o)
        over_put o over asks_none = true≢false over

        by_count : (b : Bool) → IsPut (cond b (Puts objects (suc next) end) (Over end))
        by_count true over asks_none = true≢false asks_none
        by_count false over asks_none = true≢false over

        by_reply : (ob : NewObject) (q : Reply) → IsPut (on_made (put_of ob) (putting objects (suc next) end) q)
        by_reply ob reply.Made = by_count (nat_lt (suc next) (length objects))
        by_reply ob q = over_put (end_by (put_of ob) q)

        by_item : (i : Option NewObject) → IsPut (with_item (λ ob. on_made (put_of ob) (putting objects (suc next) end) r) i)
        by_item None = over_put outcome.OutOfMemory
        by_item (Some ob) = by_reply ob r
    takes_first (Removes names next end) r going calm asking = absurd (by_item (slice_get names next) going calm asking)
      where
        IsRemoving : State F → Type 0
        IsRemoving t = is_over t ≡ false → is_amid_removals t ≡ false → asks_memory t ≡ false → ⊥

        over_removing : (o : Outcome) → IsRemoving (Over o)
        over_removing o over amid asks_none = true≢false over

        by_name : (i : Option Name) → is_some i ≡ false → is_none i ≡ false → ⊥
        by_name None none some = true≢false some
        by_name (Some n) none some = true≢false none

        by_count : (b : Bool) → IsRemoving (cond b (Removes names (suc next) end) (Over end))
        by_count true over amid asks_none = by_name (slice_get names (suc next)) (ap (λ b. b && is_some (slice_get names (suc next))) (sym (lt-ltb 0 (suc next) (omega arith))) ∙ amid) asks_none
        by_count false over amid asks_none = true≢false over

        by_reply : (n : Name) (q : Reply) → IsRemoving (on_removed (call.Remove n) (removing names (suc next) end) q)
        by_reply n reply.Removed = by_count (nat_lt (suc next) (length names))
        by_reply n q = over_removing (end_by (call.Remove n) q)

        by_item : (i : Option Name) → IsRemoving (with_item (λ n. on_removed (call.Remove n) (removing names (suc next) end) r) i)
        by_item None = over_removing outcome.OutOfMemory
        by_item (Some n) = by_reply n r
    takes_first (Over end) r going calm asking = absurd (true≢false going)
    takes_first _ r going calm asking = refl

    -- where the work is not over and not at its removals, memory can be wanting
    lacks_at_work : (before : Bool) (s : State F) (xs : List Exchange) → (xs ≡ [] → before ≡ true) → is_over (work_from codec job s xs) ≡ false → is_amid_removals (work_from codec job s xs) ≡ false → lacking codec job before s xs ≡ true
    lacks_at_work before s [] first going calm = first refl
    lacks_at_work before s (x ∷ xs) first going calm =
        let next : State F = goes codec job s x.reply in
        lacks_at_work (takes_memory s || asks_memory next) next xs
        (λ none.
        let at : (ys : List Exchange) → ys ≡ [] → work_from codec job next ys ≡ next = λ ys is. ap (work_from codec job next) is in
        can (takes_memory s) (asks_memory next) refl refl
        (takes_first s x.reply (ap is_over (sym (at xs none)) ∙ going) (ap is_amid_removals (sym (at xs none)) ∙ calm))) going calm
      where
        can : (a b : Bool) → a ≡ a → b ≡ b → (b ≡ false → a ≡ true) → (a || b) ≡ true
        can true b p q else_first = refl
        can false true p q else_first = refl
        can false false p q else_first = else_first refl

    -- a job that may give up is not at its removals
    gives_up_calm : (s : State F) → may_give_up job (Works s) ≡ true → is_amid_removals s ≡ false
    gives_up_calm s may = by_both (holds_lease job (Works s)) (is_amid_removals s) may
      where
        by_both : (a b : Bool) → (a && not b) ≡ true → b ≡ false
        by_both true true is = absurd (true≢false (sym is))
        by_both true false is = refl
        by_both false b is = absurd (true≢false (sym is))

    -- an end that a job may come to where it removes its lease in a stage: the one to which that has come, where it asks for the removal or may give up, or want of memory
    abbrev pub IsWas : Bool → Stage F → Outcome → Type 0
    IsWas lacks g was = ((was ≡ end_at g) × (IsReleasing g ⊎ MayAsk codec job g (call.Remove lease))) ⊎ ((was ≡ outcome.OutOfMemory) × (lacks ≡ true))

    -- it is one that its work comes to
    pub work_was : (lacks : Bool) (s : State F) (xs : List Exchange) (was : Outcome) → (lacks ≡ true → lacking codec job true s xs ≡ true) → IsWas lacks (settled (Some lease) (work_from codec job s xs)) was → WorkEnds codec job s xs was
    work_was lacks s xs was wanting (inr (none, is)) = inr (none, inl (wanting is))
    work_was lacks s xs was wanting (inl (is, may)) = by_state (work_from codec job s xs) refl is may
      where
        works_on : (t : State F) → work_from codec job s xs ≡ t → is_over t ≡ false → was ≡ outcome.OutOfMemory → IsReleasing (Works t) ⊎ MayAsk codec job (Works t) (call.Remove lease) → WorkEnds codec job s xs was
        works_on t at going none (inl (own, end, releasing)) = absurd (let no : ◌≡◌ {A = Stage F} (Works t) (Releases own end) = releasing in cc)
        works_on t at going none (inr (inl asked)) = inr (none, inr (lease, some, ap (asks codec job) at ∙ asked))
        works_on t at going none (inr (inr (release, may_it))) = inr (none, inl (lacks_at_work true s xs (λ e. refl) (ap is_over at ∙ going) (ap is_amid_removals at ∙ gives_up_calm t may_it)))

        by_state : (t : State F) → work_from codec job s xs ≡ t → was ≡ end_at (settled (Some lease) t) → IsReleasing (settled (Some lease) t) ⊎ MayAsk codec job (settled (Some lease) t) (call.Remove lease) → WorkEnds codec job s xs was
        by_state (Over end) at e m = inl (at ∙ ap Over (sym e))
        by_state t at e m = works_on t at refl e m
