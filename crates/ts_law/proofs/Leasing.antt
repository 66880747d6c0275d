-- Leases exclude: over every call, each lease on which a job relies is held, and no two that jobs were granted oppose one another.
use Rattle.std.proofs.Common.{◌≡◌, ◌≢◌, ℕ, Bool, true, false, cond, not, ◌&&◌, ◌⊎◌, inl, inr, List, [], ◌∷◌, ◌++◌, Option, Some, None, length, refl, sym, ◌∙◌, ap, subst}
use Rattle.std.specs.Prelude.{Contains, find, slice_get}
use Rattle.std.specs.FinMap as map
use Rattle.std.specs.Option.{is_some, option_map_or}
use Rattle.std.proofs.lemmas.Bool.{true≢false, cases_eq}
use Rattle.std.proofs.lemmas.Option.{none-some, same_Some}
use Rattle.ts_base.specs.declared.keys.Key.{Key}
use Rattle.ts_base.specs.declared.names.LeaseMode.{LeaseMode}
use Rattle.ts_base.specs.declared.names.LeaseMode.TheVariants.{Shr, Exc}
use Rattle.ts_base.specs.declared.names.Name.{Name}
use Rattle.ts_base.specs.declared.names.Prefix.TheVariants.{Leases}
use Rattle.ts_base.specs.Exact.{name_decides}
use Rattle.ts_base.specs.Held.{Held}
use Rattle.ts_base.specs.Names.{is_under, name_eq}
use Rattle.ts_lease.specs.Leases.{modes_oppose, opposes, verdict_in, verdict_of}
use Rattle.ts_lease.specs.declared.verdicts.Verdict.{Verdict}
use Rattle.ts_lease.specs.declared.verdicts.Verdict.TheVariants as verdict
use Rattle.ts_store.specs.Calls.{after, is_no_memory}
use Rattle.ts_store.specs.declared.call.Call.{Call}
use Rattle.ts_store.specs.declared.call.Reply.{Reply}
use Rattle.ts_model.specs.declared.commands.Job.{Job}
use Rattle.ts_model.specs.declared.answers.Outcome.{Outcome}
use Rattle.ts_model.specs.declared.states.State.{State}
use Rattle.ts_model.specs.declared.states.State.TheVariants.{Over}
use Rattle.ts_model.specs.declared.states.Stage.{Stage}
use Rattle.ts_model.specs.declared.states.Stage.TheVariants.{PutsLease, ListsLeases, Works, Releases}
use Rattle.ts_model.specs.Codecs.{Codec}
use Rattle.ts_model.specs.Driven.{EndsBy, MayAsk}
use Rattle.ts_model.specs.Jobs.{AreApart, key_of}
use Rattle.ts_model.specs.States.{Exchange, asks, begun, is_over, list_leases}
use Rattle.ts_model.specs.Stages.{after_lease, after_leases, begins_at, end_at, first_stage, goes_on, is_leased, is_release, is_removal, lease_of, on_verdict, put_lease, released, stage_asks, stage_goes, stage_of}
use Rattle.ts_model.specs.Told.{IsReplied, Told, after_told, trace_of}
use Rattle.ts_model.proofs.Lacks.{other_goes, release_ends}
use Rattle.ts_model.proofs.ListLemmas.{find_member, slice_get_push}
use Rattle.ts_model.proofs.Traces.{stage_of-other, stage_of-own}
use Rattle.ts_law.specs.Kept.{AreAmong, MayCome}
use Rattle.ts_law.specs.Leases.{AreLeased, HasLease, IsGranted, IsNobodys, Relies, is_granted, is_relying}
use Rattle.ts_law.proofs.Effects.{Added, IsLook, PutWent, Still, listed, look_stays, put_went}
use Rattle.ts_law.proofs.HeldLemmas.{Holds as IsHeld, Holds-from_get, get_put, holds_stays, listed_from_Holds}
use Rattle.ts_law.proofs.HeldLemmas.{removal_apart}
use Rattle.ts_law.proofs.LeaseSteps.{lease_is}
use Rattle.ts_base.specs.declared.names.Name.TheVariants as name
use Rattle.ts_store.specs.declared.call.Call.TheVariants as call
use Rattle.ts_store.specs.declared.call.Reply.TheVariants as reply

-- ---- leases that oppose

-- leases of two names oppose one another as their modes do
opposes_apart : (k l : Key) (first second : LeaseMode) → (name.Lease k first ≡ name.Lease l second → ⊥) → opposes (name.Lease k first) (name.Lease l second) ≡ modes_oppose first second
opposes_apart k l first second apart = by_test (name_eq (name.Lease k first) (name.Lease l second)) refl
  where
    and_true : (b : Bool) → (b && true) ≡ b
    and_true true = refl
    and_true false = refl

    by_test : (b : Bool) → name_eq (name.Lease k first) (name.Lease l second) ≡ b → (modes_oppose first second && not b) ≡ modes_oppose first second
    by_test true is = absurd (apart ((name_decides (name.Lease k first) (name.Lease l second)).0 is))
    by_test false is = and_true (modes_oppose first second)

-- what one mode opposes opposes it
modes_back : (a b : LeaseMode) → modes_oppose a b ≡ modes_oppose b a
modes_back Shr Shr = refl
modes_back Shr Exc = refl
modes_back Exc Shr = refl
modes_back Exc Exc = refl

-- ---- stages

-- the call lists the leases, and its reply grants the lease
record Granting (lease : Name) (c : Call) (r : Reply) : Type 0 where
  lists : c ≡ list_leases
  names : List Name
  tells : r ≡ reply.Names names
  verdict_is : verdict_in names lease ≡ verdict.Granted

-- before it works a job with this lease is to put it, or to go by the listing beside it
abbrev pub IsUnder : {F : Type 0} → Name → Stage F → Type 0
IsUnder lease (PutsLease own) = own ≡ lease
IsUnder lease (ListsLeases own) = own ≡ lease
IsUnder lease stage = Unit {0}

module _ {F : Type 0} (codec : Codec F) (job : Job) (lease : Name) (has : lease_of job ≡ Some lease) where
  -- a job that asks for a call is not over
  going : (s : State F) (c : Call) → asks codec job s ≡ Some c → not (is_over s) ≡ true
  going (Over end) c asked = absurd (none-some c asked)
  going _ c asked = refl

  -- where the put of a lease leads nothing is granted, and the lease is there only where it was made
  put_grants_none : (own : Name) (r : Reply) → is_granted {F = F} (after_lease own r) ≡ false
  put_grants_none own reply.Made = refl
  put_grants_none own reply.Taken = refl
  put_grants_none own _ = refl

  put_holds : (own : Name) (r : Reply) → is_relying {F = F} (after_lease own r) ≡ true → r ≡ reply.Made
  put_holds own reply.Made e = refl
  put_holds own reply.Taken e = absurd (true≢false (sym e))
  put_holds own _ e = absurd (true≢false (sym e))

  -- a listing grants the lease where no lease in it opposes that
  verdict_grants : (own : Name) (s : State F) (v : Verdict) → is_granted (on_verdict own s v) ≡ true → v ≡ verdict.Granted
  verdict_grants own s verdict.Granted e = refl
  verdict_grants own s (verdict.Held other) e = absurd (true≢false (sym e))

  listing_grants : (own : Name) (s : State F) (r : Reply) → is_granted (after_leases own s r) ≡ true → Granting own list_leases r
  listing_grants own s (reply.Names names) e = record { lists = refl; names = names; tells = refl; verdict_is = verdict_grants own s (verdict_in names own) e }
  listing_grants own s _ e = absurd (true≢false (sym e))

  -- a job that was granted its lease was so before the call that it asked for, or the call told it so
  granted_from : (stage : Stage F) (c : Call) (r : Reply) → IsUnder lease stage → stage_asks codec job stage ≡ Some c → is_granted (stage_goes codec job stage r) ≡ true → (is_granted stage ≡ true) ⊎ Granting lease c r
  granted_from (PutsLease own) c r under asked e = absurd (true≢false (sym e ∙ put_grants_none own r))
  granted_from (ListsLeases own) c r under asked e =
      inr (subst (λ l. Granting l c r) under (subst (λ d. Granting own d r) (same_Some list_leases c asked) (listing_grants own (begun job.command) r e)))
  granted_from (Works s) c r under asked e = inl (going s c asked)
  granted_from (Releases own end) c r under asked e = absurd (true≢false (sym e))

  -- a job that relies on its lease did so before it, or the call put the lease
  relying_from : (stage : Stage F) (c : Call) (r : Reply) → IsUnder lease stage → stage_asks codec job stage ≡ Some c → is_relying (stage_goes codec job stage r) ≡ true
      → (is_relying stage ≡ true) ⊎ ((c ≡ put_lease lease) × (r ≡ reply.Made))
  relying_from (PutsLease own) c r under asked e = inr (sym (same_Some (put_lease own) c asked) ∙ ap put_lease under, put_holds own r e)
  relying_from (ListsLeases own) c r under asked e = inl refl
  relying_from (Works s) c r under asked e = inl (going s c asked)
  relying_from (Releases own end) c r under asked e = absurd (true≢false (sym e))

  -- the removal of its lease leaves a job over
  release_over : (test : Stage F → Bool) (stage : Stage F) (x : Exchange) → ((s : State F) → is_over s ≡ true → test (Works s) ≡ false) → is_release job x.call ≡ true → test (goes_on codec job stage x) ≡ false
  release_over test stage x none is = ap test (release_ends codec job stage x lease has is) ∙ none (Over (released lease (end_at stage) x.reply)) refl

  -- where it is over it neither works nor relies on its lease
  over_granted : (s : State F) → is_over s ≡ true → is_granted (Works s) ≡ false
  over_granted s over = ap not over

  -- a call that may come and is no removal of the lease is the next one
  next_asked : (stage : Stage F) (c : Call) → is_release job c ≡ false → MayAsk codec job stage c → stage_asks codec job stage ≡ Some c
  next_asked stage c other (inl asked) = asked
  next_asked stage c other (inr gives_up) = absurd (true≢false (sym gives_up.0 ∙ other))

  -- so it is by any call that may come
  granted_step : (stage : Stage F) (x : Exchange) → IsUnder lease stage → MayAsk codec job stage x.call → is_granted (goes_on codec job stage x) ≡ true → (is_granted stage ≡ true) ⊎ Granting lease x.call x.reply
  granted_step stage x under may e = by_kind (is_release job x.call) refl
    where
      by_kind : (b : Bool) → is_release job x.call ≡ b → (is_granted stage ≡ true) ⊎ Granting lease x.call x.reply
      by_kind true is = absurd (true≢false (sym e ∙ release_over is_granted stage x over_granted is))
      by_kind false other = granted_from stage x.call x.reply under (next_asked stage x.call other may) (ap is_granted (sym (other_goes codec job stage x other)) ∙ e)

  relying_step : (stage : Stage F) (x : Exchange) → IsUnder lease stage → MayAsk codec job stage x.call → is_relying (goes_on codec job stage x) ≡ true → (is_relying stage ≡ true) ⊎ ((x.call ≡ put_lease lease) × (x.reply ≡ reply.Made))
  relying_step stage x under may e = by_kind (is_release job x.call) refl
    where
      by_kind : (b : Bool) → is_release job x.call ≡ b → (is_relying stage ≡ true) ⊎ ((x.call ≡ put_lease lease) × (x.reply ≡ reply.Made))
      by_kind true is = absurd (true≢false (sym e ∙ release_over is_relying stage x over_granted is))
      by_kind false other = relying_from stage x.call x.reply under (next_asked stage x.call other may) (ap is_relying (sym (other_goes codec job stage x other)) ∙ e)

-- a job that was granted its lease relies on it
granted_relies : {F : Type 0} (stage : Stage F) → is_granted stage ≡ true → is_relying stage ≡ true
granted_relies (Works s) e = e
granted_relies (PutsLease own) e = absurd (true≢false (sym e))
granted_relies (ListsLeases own) e = refl
granted_relies (Releases own end) e = absurd (true≢false (sym e))

-- what it relies on is put and not yet removed
relying_leased : {F : Type 0} (stage : Stage F) → is_relying stage ≡ true → is_leased stage ≡ true
relying_leased (Works s) e = e
relying_leased (PutsLease own) e = absurd (true≢false (sym e))
relying_leased (ListsLeases own) e = refl
relying_leased (Releases own end) e = absurd (true≢false (sym e))

-- a job that came to an end does not rely on its lease
pub ended_unrelied : {F : Type 0} (codec : Codec F) (job : Job) (lease : Name) (trace : List Exchange) (end : Outcome) → lease_of job ≡ Some lease → EndsBy codec job trace end → is_relying (stage_of codec job trace) ≡ true → ⊥
ended_unrelied codec job lease trace end has (inl over) holding = true≢false (sym holding ∙ ap is_relying over)
ended_unrelied codec job lease trace end has (inr lacking) holding =
    true≢false (sym (relying_leased (stage_of codec job trace) holding) ∙ ap (λ o. is_some o && is_leased (stage_of codec job trace)) (sym has) ∙ (lacking.1).0)

-- a job that made no call does not rely on its lease
pub first_unrelied : {F : Type 0} (test : Stage F → Bool) (job : Job) (lease : Name) → ((own : Name) → test (PutsLease own) ≡ false) → lease_of job ≡ Some lease → test (first_stage job) ≡ false
first_unrelied {F} test job lease none has = ap (λ o. test (begins_at o (begun job.command))) has ∙ none lease

-- ---- what is held

-- a removal has one name
one_removed : (n q : Name) → call.Remove n ≡ call.Remove q → n ≡ q
one_removed n q same = cc

-- what is held stays held by a call that does not remove it
pub call_holds : (m : Held) (e : Told) (n : Name) → IsReplied m e → ((q : Name) → e.call ≡ call.Remove q → n ≡ q → ⊥) → IsHeld m n → IsHeld (after_told m e) n
call_holds m e n replied other held = by_call e.call refl
  where
    by_put : (q : Name) (bytes : List ℕ) → PutWent m q bytes (after_told m e) e.changed e.reply → IsHeld (after_told m e) n
    by_put q bytes (Added free later changed r) = subst (λ x. IsHeld x n) (sym later) (holds_stays m q bytes n free held)
    by_put q bytes (Still later changed made taken) = subst (λ x. IsHeld x n) (sym later) held

    by_removal : (q : Name) (b : Bool) → e.call ≡ call.Remove q → IsHeld (cond b m (after m (call.Remove q) e.fate)) n
    by_removal q true is = held
    by_removal q false is = ap is_some (removal_apart m q e.fate n (other q is)) ∙ held

    by_call : (c : Call) → e.call ≡ c → IsHeld (after_told m e) n
    by_call (call.Put q bytes) is = by_put q bytes (put_went m q bytes e is replied)
    by_call (call.Remove q) is = subst (λ c. IsHeld (cond (is_no_memory e.reply) m (after m c e.fate)) n) (sym is) (by_removal q (is_no_memory e.reply) is)
    by_call (call.List p) is = subst (λ x. IsHeld x n) (sym (look_stays m e (subst IsLook (sym is) tt) replied).0) held
    by_call (call.Get q from len) is = subst (λ x. IsHeld x n) (sym (look_stays m e (subst IsLook (sym is) tt) replied).0) held
    by_call (call.Size q) is = subst (λ x. IsHeld x n) (sym (look_stays m e (subst IsLook (sym is) tt) replied).0) held

-- an object whose put was made is held
made_holds : (m : Held) (e : Told) (n : Name) (bytes : List ℕ) → IsReplied m e → e.call ≡ call.Put n bytes → e.reply ≡ reply.Made → IsHeld (after_told m e) n
made_holds m e n bytes replied is made = by_way (put_went m n bytes e is replied)
  where
    by_way : PutWent m n bytes (after_told m e) e.changed e.reply → IsHeld (after_told m e) n
    by_way (Added free later changed said) = subst (λ x. IsHeld x n) (sym later) (Holds-from_get (map.insert m n bytes) n bytes (get_put m n bytes))
    by_way (Still later changed not_made taken) = absurd (not_made made)

-- jobs that have one lease are one
leases_apart : (jobs : List Job) → AreApart jobs → (i j : ℕ) (a b : Job) (lease : Name) → slice_get jobs i ≡ Some a → slice_get jobs j ≡ Some b → lease_of a ≡ Some lease → lease_of b ≡ Some lease → i ≡ j
leases_apart jobs one_id i j a b lease at_i at_j first second =
    let (mode, named) = lease_is a lease first in
    let (other, also) = lease_is b lease second in
    one_id i j a b at_i at_j (one_key_id (key_of a) (key_of b) mode other (sym named ∙ also))
  where
    one_key_id : (k l : Key) (x y : LeaseMode) → name.Lease k x ≡ name.Lease l y → k.id ≡ l.id
    one_key_id k l x y same = let keys : k ≡ l = cc in ap (λ (z : Key). z.id) keys

-- ---- one call

-- the call was made by the job, or it was not
pub by_job : (number : ℕ) (o : Option ℕ) → (o ≡ Some number) ⊎ (o ≡ Some number → ⊥)
by_job number None = inr (λ same. none-some number same)
by_job number (Some other) = elim (cases_eq other number) [
  | inl same ↦ inl (ap Some same)
  | inr apart ↦ inr (λ same. apart (same_Some other number same))
]

module _ {F : Type 0} (codec : Codec F) (jobs : List Job) (dead : List ℕ) (seen : List Told) (m : Held) (e : Told) (one_id : AreApart jobs) (replied : IsReplied m e) (may : MayCome codec jobs dead seen e) where
  -- what the call and its reply are to the job that made it
  abbrev exchange : Exchange
  exchange = record { call = e.call; reply = e.reply }

  -- where a job stands before the call
  abbrev stage_at : Job → ℕ → Stage F
  stage_at job number = stage_of codec job (trace_of number seen)

  -- the job that made the call may make it
  may_own : (number : ℕ) (job : Job) → slice_get jobs number ≡ Some job → e.job ≡ Some number → MayAsk codec job (stage_at job number) e.call
  may_own number job is_job own = by_maker may
    where
      by_maker : MayCome codec jobs dead seen e → MayAsk codec job (stage_at job number) e.call
      by_maker (inr broken) = absurd (none-some number (sym broken.nobodys ∙ own))
      by_maker (inl allowed) =
          let same : allowed.number ≡ number = same_Some allowed.number number (sym allowed.own ∙ own) in
          let it : allowed.job ≡ job = same_Some allowed.job job (sym allowed.is_job ∙ ap (slice_get jobs) same ∙ is_job) in
          subst (λ j. MayAsk codec j (stage_at j number) e.call) it (subst (λ n. MayAsk codec allowed.job (stage_at allowed.job n) e.call) same allowed.asked)

  -- what a job had before the call of another, it has
  had_before : (test : Stage F → Bool) (number : ℕ) (job : Job) (lease : Name) → (e.job ≡ Some number → ⊥) → HasLease codec test jobs dead (seen ++ e ∷ []) number job lease → HasLease codec test jobs dead seen number job lease
  had_before test number job lease other is = record { is_job = is.is_job; alive = is.alive; has = is.has; stage = ap test (sym (stage_of-other codec job number seen e other)) ∙ is.stage }

  -- the call removes no lease on which a job relies after it
  none_removed : (number : ℕ) (job : Job) (lease : Name) → Relies codec jobs dead (seen ++ e ∷ []) number job lease → e.call ≡ call.Remove lease → ⊥
  none_removed number job lease is removes = elim (by_job number e.job) [
    | inl own ↦
        let release : is_release job e.call ≡ true = ap (is_release job) removes ∙ ap (λ o. option_map_or (is_removal (call.Remove lease)) o false) is.has ∙ (name_decides lease lease).1 refl in
        true≢false (sym is.stage ∙ ap is_relying (stage_of-own codec job number seen e own) ∙ ap is_relying (release_ends codec job (stage_at job number) exchange lease is.has release))
    | inr other ↦ by_maker other may
  ]
    where
      by_maker : (e.job ≡ Some number → ⊥) → MayCome codec jobs dead seen e → ⊥
      by_maker other (inl allowed) =
          allowed.spares lease removes (λ own. other (allowed.own ∙ ap Some (leases_apart jobs one_id allowed.number number allowed.job job lease allowed.is_job is.is_job own is.has))) number job
          (had_before is_relying number job lease other is)
      by_maker other (inr broken) =
          let same : lease ≡ name.Lease broken.key broken.mode = one_removed lease (name.Lease broken.key broken.mode) (sym removes ∙ broken.removes) in
          broken.free number job (subst (λ l. Relies codec jobs dead seen number job l) same (had_before is_relying number job lease other is))

  module _ (leased : AreLeased codec jobs dead seen m) (under : (number : ℕ) (job : Job) (lease : Name) → slice_get jobs number ≡ Some job → (Contains dead number → ⊥) → lease_of job ≡ Some lease → IsUnder lease (stage_at job number)) where
    -- each lease on which a job relies after the call is held
    held_after_call : (number : ℕ) (job : Job) (lease : Name) → Relies codec jobs dead (seen ++ e ∷ []) number job lease → IsHeld (after_told m e) lease
    held_after_call number job lease is = elim (by_job number e.job) [
      | inl own ↦ elim (relying_step codec job lease is.has (stage_at job number) exchange (under number job lease is.is_job is.alive is.has) (may_own number job is.is_job own) (ap is_relying (sym (stage_of-own codec job number seen e own)) ∙ is.stage)) [
        | inl before ↦ stays (leased.held number job lease (record { is_job = is.is_job; alive = is.alive; has = is.has; stage = before }))
        | inr made ↦ made_holds m e lease [] replied made.0 made.1
      ]
      | inr other ↦ stays (leased.held number job lease (had_before is_relying number job lease other is))
    ]
      where
        stays : IsHeld m lease → IsHeld (after_told m e) lease
        stays held = call_holds m e lease replied (λ q removes same. none_removed number job lease is (removes ∙ ap call.Remove (sym same))) held

    -- a job that was granted its lease was so before the call, or the call told it so
    granted_before : (number : ℕ) (job : Job) (lease : Name) → IsGranted codec jobs dead (seen ++ e ∷ []) number job lease
        → IsGranted codec jobs dead seen number job lease ⊎ ((e.job ≡ Some number) × Granting lease e.call e.reply)
    granted_before number job lease is = elim (by_job number e.job) [
      | inl own ↦ elim (granted_step codec job lease is.has (stage_at job number) exchange (under number job lease is.is_job is.alive is.has) (may_own number job is.is_job own) (ap is_granted (sym (stage_of-own codec job number seen e own)) ∙ is.stage)) [
        | inl before ↦ inl (record { is_job = is.is_job; alive = is.alive; has = is.has; stage = before })
        | inr new ↦ inr (own, new)
      ]
      | inr other ↦ inl (had_before is_granted number job lease other is)
    ]

    -- a lease that the call grants opposes none that was granted before
    new_apart : (i j : ℕ) (a b : Job) (first second : Name) → i ≢ j → slice_get jobs i ≡ Some a → lease_of a ≡ Some first → Granting first e.call e.reply → IsGranted codec jobs dead seen j b second → opposes first second ≡ false
    new_apart i j a b first second apart is_job has new before =
        let held = leased.held j b second (record { is_job = before.is_job; alive = before.alive; has = before.has; stage = granted_relies (stage_at b j) before.stage }) in
        let (mode, named) = lease_is b second before.has in
        let names_are = listed m e Leases new.names new.lists replied new.tells in
        let there : Contains new.names second = subst (λ ns. Contains ns second) (sym names_are) (listed_from_Holds Leases m second held (ap (is_under Leases) named)) in
        none_passes (opposes first) new.names second (nothing_found (find (opposes first) new.names) new.verdict_is) there
      where
        nothing_found : (o : Option Name) → verdict_of o ≡ verdict.Granted → o ≡ None
        nothing_found None is = refl
        nothing_found (Some other) is = cc

        none_passes : (p : Name → Bool) (ns : List Name) (n : Name) → find p ns ≡ None → Contains ns n → p n ≡ false
        none_passes p ns n none at = by_test (p n) refl
          where
            by_test : (b : Bool) → p n ≡ b → b ≡ false
            by_test false is = refl
            by_test true is = let found = find_member p ns n at is in absurd (none-some found.0 (sym none ∙ found.1))

    -- and none of those opposes it
    back_apart : (i j : ℕ) (a b : Job) (first second : Name) → i ≢ j → slice_get jobs i ≡ Some a → slice_get jobs j ≡ Some b → lease_of a ≡ Some first → lease_of b ≡ Some second → opposes second first ≡ false → opposes first second ≡ false
    back_apart i j a b first second apart at_i at_j first_is second_is none =
        let (mode, named) = lease_is a first first_is in
        let (other, also) = lease_is b second second_is in
        let differ : first ≡ second → ⊥ = λ same. apart (leases_apart jobs one_id i j a b second at_i at_j (first_is ∙ ap Some same) second_is) in
        ap (λ l. opposes l second) named ∙ ap (opposes (name.Lease (key_of a) mode)) also
        ∙ opposes_apart (key_of a) (key_of b) mode other (λ same. differ (named ∙ same ∙ sym also))
        ∙ modes_back mode other
        ∙ sym (opposes_apart (key_of b) (key_of a) other mode (λ same. differ (named ∙ sym same ∙ sym also)))
        ∙ sym (ap (λ l. opposes l first) also ∙ ap (opposes (name.Lease (key_of b) other)) named) ∙ none

    -- leases exclude after the call
    pub leased_step : AreLeased codec jobs dead (seen ++ e ∷ []) (after_told m e)
    leased_step = record {
      held = held_after_call;
      apart = λ i j a b first second apart left right. elim (granted_before i a first left) [
        | inl one ↦ elim (granted_before j b second right) [
          | inl other ↦ leased.apart i j a b first second apart one other
          | inr new ↦ back_apart i j a b first second apart left.is_job right.is_job left.has right.has (new_apart j i b a second first (λ same. apart (sym same)) right.is_job right.has new.1 one)
        ]
        | inr new ↦ elim (granted_before j b second right) [
          | inl other ↦ new_apart i j a b first second apart left.is_job left.has new.1 other
          | inr newer ↦ absurd (apart (same_Some i j (sym new.0 ∙ newer.0)))
        ]
      ];
    }

-- ---- the start, a drop, a job more

-- without jobs there are no leases of theirs
pub no_leases : {F : Type 0} (codec : Codec F) (m : Held) → AreLeased codec [] [] [] m
no_leases codec m = record {
  held = λ number job lease is. absurd (none-some job is.is_job);
  apart = λ i j a b first second apart left right. absurd (none-some a left.is_job);
}

-- where more jobs were dropped fewer rely on leases
pub leased_drop : {F : Type 0} (codec : Codec F) (jobs : List Job) (dead more : List ℕ) (seen : List Told) (m : Held) → AreAmong dead more → AreLeased codec jobs dead seen m → AreLeased codec jobs more seen m
leased_drop {F} codec jobs dead more seen m among leased = record {
  held = λ number job lease is. leased.held number job lease (alive number job lease is_relying is);
  apart = λ i j a b first second apart left right. leased.apart i j a b first second apart (alive i a first is_granted left) (alive j b second is_granted right);
}
  where
    alive : (number : ℕ) (job : Job) (lease : Name) (test : Stage F → Bool) → HasLease codec test jobs more seen number job lease → HasLease codec test jobs dead seen number job lease
    alive number job lease test is = record { is_job = is.is_job; alive = λ at. is.alive (among number at); has = is.has; stage = is.stage }

-- what is relied on among more jobs, of which the last made no call, was held before that came
had_more : {F : Type 0} (codec : Codec F) (test : Stage F → Bool) → ((own : Name) → test (PutsLease own) ≡ false) → (jobs : List Job) (job : Job) (dead : List ℕ) (seen : List Told) → trace_of (length jobs) seen ≡ []
    → (number : ℕ) (j : Job) (lease : Name) → HasLease codec test (jobs ++ job ∷ []) dead seen number j lease → HasLease codec test jobs dead seen number j lease
had_more codec test unheld jobs job dead seen none number j lease is = elim (slice_get_push jobs job number j is.is_job) [
  | inl there ↦ record { is_job = there; alive = is.alive; has = is.has; stage = is.stage }
  | inr last ↦
      absurd (true≢false (sym is.stage ∙ ap (λ n. test (stage_of codec j (trace_of n seen))) last.0 ∙ ap (λ t. test (stage_of codec j t)) none ∙ first_unrelied test j lease unheld is.has))
]

-- a job that comes relies on none yet
pub leased_more : {F : Type 0} (codec : Codec F) (jobs : List Job) (job : Job) (dead : List ℕ) (seen : List Told) (m : Held) → trace_of (length jobs) seen ≡ [] → AreLeased codec jobs dead seen m → AreLeased codec (jobs ++ job ∷ []) dead seen m
leased_more codec jobs job dead seen m none leased = record {
  held = λ number j lease is. leased.held number j lease (had_more codec is_relying (λ own. refl) jobs job dead seen none number j lease is);
  apart = λ i j a b first second apart left right.
      leased.apart i j a b first second apart (had_more codec is_granted (λ own. refl) jobs job dead seen none i a first left) (had_more codec is_granted (λ own. refl) jobs job dead seen none j b second right);
}

-- so a lease that was nobody's stays so
pub nobodys_more : {F : Type 0} (codec : Codec F) (jobs : List Job) (job : Job) (dead : List ℕ) (seen : List Told) (lease : Name) → trace_of (length jobs) seen ≡ [] → IsNobodys codec jobs dead seen lease → IsNobodys codec (jobs ++ job ∷ []) dead seen lease
nobodys_more codec jobs job dead seen lease none free number j is = free number j (had_more codec is_relying (λ own. refl) jobs job dead seen none number j lease is)

-- ---- what exclusion comes to

-- a job that was granted an exclusive lease is the only one that was granted a lease
pub alone : {F : Type 0} (codec : Codec F) (jobs : List Job) (dead : List ℕ) (seen : List Told) (m : Held) → AreApart jobs → AreLeased codec jobs dead seen m → (i j : ℕ) (a b : Job) (key : Key) (lease : Name)
    → IsGranted codec jobs dead seen i a (name.Lease key Exc) → IsGranted codec jobs dead seen j b lease → i ≡ j
alone codec jobs dead seen m one_id leased i j a b key lease first second = elim (cases_eq i j) [
  | inl same ↦ same
  | inr apart ↦
      let (mode, named) = lease_is a (name.Lease key Exc) first.has in
      let (other, also) = lease_is b lease second.has in
      let differ : name.Lease key Exc ≡ name.Lease (key_of b) other → ⊥ = λ same. apart (leases_apart jobs one_id i j a b lease first.is_job second.is_job (first.has ∙ ap Some (same ∙ sym also)) second.has) in
      absurd (true≢false (sym (opposed key (key_of b) other differ) ∙ ap (opposes (name.Lease key Exc)) (sym also) ∙ leased.apart i j a b (name.Lease key Exc) lease apart first second))
]
  where
    opposed : (k l : Key) (mode : LeaseMode) → (name.Lease k Exc ≡ name.Lease l mode → ⊥) → opposes (name.Lease k Exc) (name.Lease l mode) ≡ true
    opposed k l Shr differ = opposes_apart k l Exc Shr differ
    opposed k l Exc differ = opposes_apart k l Exc Exc differ
