-- What was held since a shared lease was granted is held still, but for leases, while the job works under it.
use Rattle.std.proofs.Common.{◌≡◌, ℕ, Bool, true, false, ◌⊎◌, inl, inr, List, [], ◌∷◌, ◌++◌, Option, Some, None, refl, sym, ◌∙◌, ap, subst, append_assoc}
use Rattle.std.specs.Prelude.{option_map, slice_get}
use Rattle.std.proofs.lemmas.Bool.{cases_eq, true≢false}
use Rattle.std.proofs.lemmas.Option.{none-some, same_Some}
use Rattle.ts_base.specs.declared.keys.Key.{Key}
use Rattle.ts_base.specs.declared.names.LeaseMode.TheVariants.{Shr, Exc}
use Rattle.ts_base.specs.declared.names.Name.{Name}
use Rattle.ts_base.specs.declared.names.Name.TheVariants as name
use Rattle.ts_base.specs.declared.names.Prefix.TheVariants.{Commits}
use Rattle.ts_base.specs.Held.{Held}
use Rattle.ts_store.specs.declared.call.Call.TheVariants as call
use Rattle.ts_model.specs.declared.commands.Job.{Job}
use Rattle.ts_model.specs.declared.states.State.{State}
use Rattle.ts_model.specs.declared.states.State.TheVariants.{Over}
use Rattle.ts_model.specs.declared.states.Stage.{Stage}
use Rattle.ts_model.specs.declared.states.Stage.TheVariants.{ListsLeases, PutsLease, Releases, Works}
use Rattle.ts_model.specs.Codecs.{Codec, CodecLaws, Spelled, Tracking}
use Rattle.ts_model.specs.Deeds.{History}
use Rattle.ts_model.specs.Driven.{MayAsk}
use Rattle.ts_model.specs.Jobs.{key_of}
use Rattle.ts_model.specs.Stages.{goes_on, is_release, lease_of, mode_of, put_lease, settled, stage_asks, stage_from, stage_goes, stage_of}
use Rattle.ts_model.specs.States.{Exchange, asks, goes, is_over, list_leases}
use Rattle.ts_model.specs.Told.{IsReplied, Replied, Told, after_told, held_told, trace_of}
use Rattle.ts_model.proofs.Lacks.{other_goes, release_ends}
use Rattle.ts_model.proofs.Traces.{held_told-append, stage_from-append, trace_of-append}
use Rattle.ts_law.specs.Ends.{ListedAt}
use Rattle.ts_law.specs.Kept.{AreAllowed, HeldSince, Kept, MayCome}
use Rattle.ts_law.specs.Leases.{is_granted}
use Rattle.ts_law.specs.Shared.{IsSharing, StaysShared}
use Rattle.ts_law.proofs.Broken.{broken_leads, drop_kept}
use Rattle.ts_law.proofs.ClaimsLess.{others_idle}
use Rattle.ts_law.proofs.KeptLaws.{AreAllowed-parts, Replied-back, Replied-front, all_kept, calling, coming, dropped_stay, leads_on, step_kept}
use Rattle.ts_law.proofs.LeaseSteps.{release_is}

-- ---- stages

-- the job works no more: it is to remove its lease, or is over
abbrev is_past : {F : Type 0} → Stage F → Bool
is_past (Works s) = is_over s
is_past (Releases lease end) = true
is_past stage = false

-- who works no more is not granted its lease
past_ungranted : {F : Type 0} (stage : Stage F) → is_past stage ≡ true → is_granted stage ≡ true → ⊥
past_ungranted (Works (Over end)) past granted = true≢false (sym granted)
past_ungranted (Works _) past granted = true≢false (sym past)
past_ungranted (PutsLease lease) past granted = true≢false (sym past)
past_ungranted (ListsLeases lease) past granted = true≢false (sym past)
past_ungranted (Releases lease end) past granted = true≢false (sym granted)

-- where the work leads is work, or past it
settled_either : {F : Type 0} (o : Option Name) (s : State F) → (is_granted (settled o s) ≡ true) ⊎ (is_past (settled o s) ≡ true)
settled_either (Some lease) (Over end) = inr refl
settled_either (Some lease) _ = inl refl
settled_either None (Over end) = inr refl
settled_either None _ = inl refl

settled_over : {F : Type 0} (o : Option Name) (s : State F) → is_over s ≡ true → is_past (settled o s) ≡ true
settled_over (Some lease) (Over end) over = refl
settled_over (Some lease) _ over = absurd (true≢false (sym over))
settled_over None (Over end) over = refl
settled_over None _ over = absurd (true≢false (sym over))

module _ {F : Type 0} (codec : Codec F) (job : Job) (lease : Name) (has : lease_of job ≡ Some lease) where
  -- by any call the work goes on, or is past
  goes_either : (stage : Stage F) (x : Exchange) → is_granted stage ≡ true → (is_granted (goes_on codec job stage x) ≡ true) ⊎ (is_past (goes_on codec job stage x) ≡ true)
  goes_either stage x granted = by_kind (is_release job x.call) refl
    where
      by_stage : (s : Stage F) → is_granted s ≡ true → (is_granted (stage_goes codec job s x.reply) ≡ true) ⊎ (is_past (stage_goes codec job s x.reply) ≡ true)
      by_stage (Works s) is = settled_either (lease_of job) (goes codec job s x.reply)
      by_stage (PutsLease own) is = absurd (true≢false (sym is))
      by_stage (ListsLeases own) is = absurd (true≢false (sym is))
      by_stage (Releases own end) is = absurd (true≢false (sym is))

      by_kind : (b : Bool) → is_release job x.call ≡ b → (is_granted (goes_on codec job stage x) ≡ true) ⊎ (is_past (goes_on codec job stage x) ≡ true)
      by_kind true is = inr (ap is_past (release_ends codec job stage x lease has is))
      by_kind false other = subst (λ t. (is_granted t ≡ true) ⊎ (is_past t ≡ true)) (sym (other_goes codec job stage x other)) (by_stage stage granted)

  -- what is past stays past
  stays_past : (stage : Stage F) (x : Exchange) → is_past stage ≡ true → is_past (goes_on codec job stage x) ≡ true
  stays_past stage x past = by_kind (is_release job x.call) refl
    where
      by_stage : (s : Stage F) → is_past s ≡ true → is_past (stage_goes codec job s x.reply) ≡ true
      by_stage (Works (Over end)) is = settled_over (lease_of job) (Over end) refl
      by_stage (Works _) is = absurd (true≢false (sym is))
      by_stage (PutsLease own) is = absurd (true≢false (sym is))
      by_stage (ListsLeases own) is = absurd (true≢false (sym is))
      by_stage (Releases own end) is = refl

      by_kind : (b : Bool) → is_release job x.call ≡ b → is_past (goes_on codec job stage x) ≡ true
      by_kind true is = ap is_past (release_ends codec job stage x lease has is)
      by_kind false other = ap is_past (other_goes codec job stage x other) ∙ by_stage stage past

  past_from : (stage : Stage F) (xs : List Exchange) → is_past stage ≡ true → is_past (stage_from codec job stage xs) ≡ true
  past_from stage [] past = past
  past_from stage (x ∷ xs) past = past_from (goes_on codec job stage x) xs (stays_past stage x past)

  -- the work goes on, or is past, by all these calls
  either_from : (stage : Stage F) (xs : List Exchange) → is_granted stage ≡ true → (is_granted (stage_from codec job stage xs) ≡ true) ⊎ (is_past (stage_from codec job stage xs) ≡ true)
  either_from stage [] granted = inl granted
  either_from stage (x ∷ xs) granted = elim (goes_either stage x granted) [
    | inl on ↦ either_from (goes_on codec job stage x) xs on
    | inr past ↦ inr (past_from (goes_on codec job stage x) xs past)
  ]

  -- between two times at which the job works it works
  granted_between : (number : ℕ) (a b c : List Told) → is_granted (stage_of codec job (trace_of number a)) ≡ true → is_granted (stage_of codec job (trace_of number (a ++ (b ++ c)))) ≡ true
      → is_granted (stage_of codec job (trace_of number (a ++ b))) ≡ true
  granted_between number a b c first last = elim (either_from (stage_of codec job (trace_of number a)) (trace_of number b) first) [
    | inl on ↦ ap is_granted (further a b) ∙ on
    | inr past ↦
        absurd (past_ungranted (stage_of codec job (trace_of number ((a ++ b) ++ c)))
        (ap is_past (further (a ++ b) c) ∙ past_from (stage_of codec job (trace_of number (a ++ b))) (trace_of number c) (ap is_past (further a b) ∙ past))
        (ap (λ t. is_granted (stage_of codec job (trace_of number t))) (append_assoc a b c) ∙ last))
  ]
    where
      further : (x y : List Told) → stage_of codec job (trace_of number (x ++ y)) ≡ stage_from codec job (stage_of codec job (trace_of number x)) (trace_of number y)
      further x y = ap (stage_of codec job) (trace_of-append number x y) ∙ stage_from-append codec job (stage_of codec job []) (trace_of number x) (trace_of number y)

-- ---- the listing of the commits

-- a job lists the commits at its work
lists_at_work : {F : Type 0} (codec : Codec F) (job : Job) (stage : Stage F) → MayAsk codec job stage (call.List Commits) → is_granted stage ≡ true
lists_at_work codec job stage (inr gives_up) = let (lease, some, removes) = release_is job (call.List Commits) gives_up.0 in absurd (no_removal lease removes)
  where
    no_removal : (lease : Name) → call.List Commits ≡ call.Remove lease → ⊥
    no_removal lease same = cc
lists_at_work {F} codec job stage (inl asked) = by_stage stage asked
  where
    no_put : (lease : Name) → put_lease lease ≡ call.List Commits → ⊥
    no_put lease same = cc

    no_leases : list_leases ≡ call.List Commits → ⊥
    no_leases same = cc

    no_release : (lease : Name) → call.Remove lease ≡ call.List Commits → ⊥
    no_release lease same = cc

    at_work : (s : State F) → asks codec job s ≡ Some (call.List Commits) → is_granted (Works s) ≡ true
    at_work (Over end) is = absurd (none-some (call.List Commits) is)
    at_work _ is = refl

    by_stage : (s : Stage F) → stage_asks codec job s ≡ Some (call.List Commits) → is_granted s ≡ true
    by_stage (PutsLease lease) is = absurd (no_put lease (same_Some (put_lease lease) (call.List Commits) is))
    by_stage (ListsLeases lease) is = absurd (no_leases (same_Some list_leases (call.List Commits) is))
    by_stage (Works s) is = at_work s is
    by_stage (Releases lease end) is = absurd (no_release lease (same_Some (call.Remove lease) (call.List Commits) is))

-- ---- all calls

-- an exclusive lease is no shared one
exclusive_shared : (k l : Key) → name.Lease k Exc ≡ name.Lease l Shr → ⊥
exclusive_shared k l same = cc

module _ {F : Type 0} (codec : Codec F) (spelled : Spelled) (tracks : Tracking F) (laws : CodecLaws codec spelled tracks) (opening : Held) (past : History) (jobs : List Job) where
  -- a call that may come removes nothing but leases, while a job works under a shared one
  shared_step : (dead : List ℕ) (seen : List Told) (m : Held) (e : Told) → Kept codec spelled tracks opening past jobs dead seen m → MayCome codec jobs dead seen e → IsReplied m e
      → (number : ℕ) (job : Job) → IsSharing codec jobs dead seen number job → HeldSince m (after_told m e)
  shared_step dead seen m e kept (inr broken) replied number job sharing = ((broken_leads codec spelled tracks opening past jobs dead seen m e kept broken 0).leaves).keeps
  shared_step dead seen m e kept (inl may) replied number job sharing = elim (leads_on codec spelled tracks laws opening past jobs dead seen m e kept may replied).leads [
    | inl leads ↦ (leads.leaves).keeps
    | inr clears ↦ elim (cases_eq may.number number) [
      | inl same ↦
          let it : may.job ≡ job = same_Some may.job job (sym may.is_job ∙ ap (slice_get jobs) same ∙ sharing.is_job) in
          let exclusive : lease_of may.job ≡ Some (name.Lease (key_of may.job) Exc) = ap (λ c. option_map (name.Lease (key_of may.job)) (mode_of c)) (clears.clears).vacuums in
          absurd (exclusive_shared (key_of may.job) (key_of job) (same_Some (name.Lease (key_of may.job) Exc) (name.Lease (key_of job) Shr) (sym exclusive ∙ ap lease_of it ∙ sharing.has)))
      | inr apart ↦
          absurd (true≢false (sym sharing.stage
          ∙ others_idle codec spelled opening past jobs dead seen e m kept.apart kept.leased may.number number may.job job may.is_job may.alive clears sharing.is_job sharing.alive apart (name.Lease (key_of job) Shr) sharing.has))
    ]
  ]

  -- nor do all calls between two times at which it does
  shared_on : (dead last : List ℕ) (seen : List Told) (m : Held) (told : List Told) → Kept codec spelled tracks opening past jobs dead seen m → AreAllowed codec jobs dead last seen told → Replied m told
      → (number : ℕ) (job : Job) → is_granted (stage_of codec job (trace_of number seen)) ≡ true → IsSharing codec jobs last (seen ++ told) number job → HeldSince m (held_told m told)
  shared_on dead last seen m [] kept may replied number job first sharing n bytes no_lease held = held
  shared_on dead last seen m (e ∷ told) kept (now, among, comes, rest) replied number job first sharing n bytes no_lease held =
      let then = drop_kept codec spelled tracks opening past jobs dead now seen m among kept in
      let sharing_now : IsSharing codec jobs now seen number job = record {
        is_job = sharing.is_job;
        alive = λ at. sharing.alive (dropped_stay codec jobs now last (seen ++ e ∷ []) told rest number at);
        has = sharing.has;
        stage = first;
      } in
      shared_on now last (seen ++ e ∷ []) (after_told m e) told (step_kept codec spelled tracks laws opening past jobs now seen m e then comes replied.0) rest replied.1 number job
      (granted_between codec job (name.Lease (key_of job) Shr) sharing.has number seen (e ∷ []) told first sharing.stage)
      (subst (λ t. IsSharing codec jobs last t number job) (sym (append_assoc seen (e ∷ []) told)) sharing) n bytes no_lease
      (shared_step now seen m e then comes replied.0 number job sharing_now n bytes no_lease held)

  -- so what was held since the grant, and at the listing of the commits, is held still
  pub stays_shared : (last : List ℕ) (told : List Told) → Kept codec spelled tracks opening past jobs [] [] opening → AreAllowed codec jobs [] last [] told → Replied opening told
      → StaysShared codec opening jobs last told (held_told opening told)
  stays_shared last told begins may replied = record {
    granted = since;
    listed = λ number job commits sharing. since number job commits.before (commits.listing ∷ commits.later) commits.place
        (record { is_job = sharing.is_job; alive = sharing.alive; has = sharing.has; stage = at_listing number job commits sharing }) sharing;
  }
    where
      since : (number : ℕ) (job : Job) (front back : List Told) → told ≡ front ++ back → IsSharing codec jobs last front number job → IsSharing codec jobs last told number job → HeldSince (held_told opening front) (held_told opening told)
      since number job front back parts first sharing =
          let (now, before, rest) = AreAllowed-parts codec jobs [] last [] front back (subst (AreAllowed codec jobs [] last []) parts may) in
          let in_parts = subst (Replied opening) parts replied in
          subst (HeldSince (held_told opening front)) (sym (ap (held_told opening) parts ∙ held_told-append opening front back))
          (shared_on now last front (held_told opening front) back (all_kept codec spelled tracks laws opening past jobs [] now [] opening front begins before (Replied-front opening front back in_parts))
          rest (Replied-back opening front back in_parts) number job first.stage (subst (λ t. IsSharing codec jobs last t number job) parts sharing))

      at_listing : (number : ℕ) (job : Job) (commits : ListedAt told number Commits) → IsSharing codec jobs last told number job → is_granted (stage_of codec job (trace_of number commits.before)) ≡ true
      at_listing number job commits sharing =
          let comes = coming codec spelled tracks laws opening past jobs [] last [] opening told commits.before commits.later commits.listing begins may replied commits.place in
          let calls = calling codec spelled tracks laws opening past jobs commits.before (held_told opening commits.before) commits.listing number job comes commits.own sharing.is_job in
          let stage : Stage F = stage_of codec job (trace_of number commits.before) in
          lists_at_work codec job stage (subst (MayAsk codec job stage) commits.lists calls.asked)
