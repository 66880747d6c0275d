-- A read with its lease makes few gets, by all its calls.
use Rattle.std.proofs.Common.{◌≡◌, ℕ, ◌+◌, Bool, true, false, inl, inr, List, [], ◌∷◌, Option, Some, None, refl, sym, ◌∙◌, ap, subst, arith}
use Rattle.std.specs.Prelude.{Contains, ⊤, map as list_map}
use Rattle.std.proofs.lemmas.Bool.{true≢false}
use Rattle.std.proofs.lemmas.List.Sums.{sum_by-cons}
use Rattle.std.proofs.lemmas.Option.{same_Some}
use Rattle.ts_base.specs.declared.names.Name.{Name}
use Rattle.ts_base.specs.Held.{Held}
use Rattle.ts_lease.specs.Leases.{verdict_in}
use Rattle.ts_lease.specs.declared.verdicts.Verdict.{Verdict}
use Rattle.ts_lease.specs.declared.verdicts.Verdict.TheVariants.{Granted, Held as IsHeld}
use Rattle.ts_store.specs.declared.call.Call.{Call}
use Rattle.ts_store.specs.declared.call.Call.TheVariants as call
use Rattle.ts_store.specs.declared.call.Reply.{Reply}
use Rattle.ts_store.specs.declared.call.Reply.TheVariants as reply
use Rattle.ts_cond.specs.declared.query.Query.{Query}
use Rattle.ts_model.specs.declared.commands.Command.TheVariants.{Read}
use Rattle.ts_model.specs.declared.commands.Job.{Job}
use Rattle.ts_model.specs.declared.states.Stage.{Stage}
use Rattle.ts_model.specs.declared.states.Stage.TheVariants.{PutsLease, ListsLeases, Works, Releases}
use Rattle.ts_model.specs.declared.states.State.{State}
use Rattle.ts_model.specs.declared.states.State.TheVariants.{Over}
use Rattle.ts_model.specs.Codecs.{Codec, CodecLaws, Spelled, Tracking}
use Rattle.ts_model.specs.Deeds.{History}
use Rattle.ts_model.specs.Driven.{AskedFrom, MayAsk}
use Rattle.ts_model.specs.Gets.{AsksBounded, MostGets, gets_of}
use Rattle.ts_model.specs.Stages.{after_lease, after_leases, begins_at, first_stage, goes_on, is_release, lease_of, on_verdict, put_lease, settled, stage_asks, stage_goes}
use Rattle.ts_model.specs.States.{Exchange, begun, goes, list_leases}
use Rattle.ts_model.proofs.Lacks.{other_goes, release_ends}
use Rattle.ts_model.proofs.ListLemmas.{Contains-here, Contains-there}
use Rattle.ts_law.specs.Bounds.{FewGets, NoGets, gets_among}
use Rattle.ts_law.specs.Stands.{Stands}
use Rattle.ts_law.proofs.LeaseSteps.{release_is}
use Rattle.ts_law.proofs.ReadBounds.{Agrees}
use Rattle.ts_law.proofs.ReadGets.{Known, call_led}

module _ {F : Type 0} (codec : Codec F) (spelled : Spelled) (tracks : Tracking F) (laws : CodecLaws codec spelled tracks) (gets : F → ℕ) (most : MostGets) (bounded : AsksBounded codec spelled gets most)
    (h : History) (m : Held) (stands : Stands spelled m h) (from to : ℕ) (query : Query) (job : Job) (is : job.command ≡ Read from to query) where
  -- the gets are few
  abbrev Few : ℕ → Type 0
  Few count = FewGets spelled most h m from to query count

  -- what it knows at its work
  abbrev WorkKnown : ℕ → State F → Type 0
  WorkKnown count s = Known codec spelled tracks laws gets most bounded h m stands from to query count s

  -- what it knows in a stage: it gets nothing before its work
  abbrev StageKnown : ℕ → Stage F → Type 0
  StageKnown count (PutsLease lease) = count ≡ 0
  StageKnown count (ListsLeases lease) = count ≡ 0
  StageKnown count (Works s) = WorkKnown count s
  StageKnown count (Releases lease end) = ⊤

  -- where the work ends the lease goes
  settled_known : (count : ℕ) (o : Option Name) (s : State F) → WorkKnown count s → StageKnown count (settled o s)
  settled_known count (Some lease) (Over end) known = tt
  settled_known count (Some lease) s known = known
  settled_known count None s known = known

  begun_known : (count : ℕ) → count ≡ 0 → WorkKnown count (begun job.command)
  begun_known count none = subst (λ c. WorkKnown count (begun c)) (sym is) none

  lease_known : (count : ℕ) (lease : Name) (r : Reply) → count ≡ 0 → StageKnown count (after_lease lease r)
  lease_known count lease reply.Made none = none
  lease_known count lease reply.Taken none = tt
  lease_known count lease _ none = tt

  verdict_known : (count : ℕ) (lease : Name) (v : Verdict) → count ≡ 0 → StageKnown count (on_verdict lease (begun job.command) v)
  verdict_known count lease Granted none = settled_known count (Some lease) (begun job.command) (begun_known count none)
  verdict_known count lease (IsHeld other) none = tt

  leases_known : (count : ℕ) (lease : Name) (r : Reply) → count ≡ 0 → StageKnown count (after_leases lease (begun job.command) r)
  leases_known count lease (reply.Names names) none = verdict_known count lease (verdict_in names lease) none
  leases_known count lease _ none = tt

  -- where a call that its stage asks leads, which is not the removal of its lease
  stage_led : (count : ℕ) (stage : Stage F) → Few count → StageKnown count stage → (c : Call) → stage_asks codec job stage ≡ Some c → (r : Reply) → Agrees m c r
      → Few (count + gets_of c) × StageKnown (count + gets_of c) (stage_goes codec job stage r)
  stage_led count (PutsLease lease) few none c asked r agrees =
      subst (λ x. Few (count + gets_of x) × StageKnown (count + gets_of x) (after_lease lease r)) (same_Some (put_lease lease) c asked)
      (subst Few (omega arith) few, lease_known (count + 0) lease r (omega (arith, none)))
  stage_led count (ListsLeases lease) few none c asked r agrees =
      subst (λ x. Few (count + gets_of x) × StageKnown (count + gets_of x) (after_leases lease (begun job.command) r)) (same_Some list_leases c asked)
      (subst Few (omega arith) few, leases_known (count + 0) lease r (omega (arith, none)))
  stage_led count (Works s) few known c asked r agrees =
      let led = call_led codec spelled tracks laws gets most bounded h m stands from to query job is count s few known c asked r agrees in
      (led.0, settled_known (count + gets_of c) (lease_of job) (goes codec job s r) led.1)
  stage_led count (Releases lease end) few known c asked r agrees =
      subst (λ x. Few (count + gets_of x) × ⊤) (same_Some (call.Remove lease) c asked) (subst Few (omega arith) few, tt)

  -- where a call of it leads
  exchange_led : (count : ℕ) (stage : Stage F) (x : Exchange) → Few count → StageKnown count stage → MayAsk codec job stage x.call → Agrees m x.call x.reply
      → Few (count + gets_of x.call) × StageKnown (count + gets_of x.call) (goes_on codec job stage x)
  exchange_led count stage x few known may agrees = by_kind (is_release job x.call) refl
    where
      by_kind : (b : Bool) → is_release job x.call ≡ b → Few (count + gets_of x.call) × StageKnown (count + gets_of x.call) (goes_on codec job stage x)
      by_kind true ends =
          let (lease, some, removes) = release_is job x.call ends in
          let none : 0 ≡ gets_of x.call = ap gets_of (sym removes) in
          (subst Few (omega (arith, none)) few, subst (StageKnown (count + gets_of x.call)) (sym (release_ends codec job stage x lease some ends)) tt)
      by_kind false other = elim may [
        | inl asked ↦
            let led = stage_led count stage few known x.call asked x.reply agrees in
            (led.0, subst (StageKnown (count + gets_of x.call)) (sym (other_goes codec job stage x other)) led.1)
        | inr gives_up ↦ absurd (true≢false (sym gives_up.0 ∙ other))
      ]

  -- the gets of all calls from a stage on are few
  few_from : (count : ℕ) (stage : Stage F) (xs : List Exchange) → Few count → StageKnown count stage → AskedFrom codec job stage xs → ((x : Exchange) → Contains xs x → Agrees m x.call x.reply)
      → Few (count + gets_among (list_map (λ x. x.call) xs))
  few_from count stage [] few known asked agrees = subst Few (omega arith) few
  few_from count stage (x ∷ xs) few known asked agrees =
      let led = exchange_led count stage x few known asked.0 (agrees x (Contains-here x xs)) in
      let both = sum_by-cons gets_of x.call (list_map (λ y. y.call) xs) in
      subst Few (omega (arith, both)) (few_from (count + gets_of x.call) (goes_on codec job stage x) xs led.0 led.1 asked.1 (λ y at. agrees y (Contains-there x xs y at)))

  first_known : (o : Option Name) → StageKnown 0 (begins_at o (begun job.command))
  first_known None = begun_known 0 refl
  first_known (Some lease) = refl

  -- a read over objects that stand for a history, whose replies agree with them, makes few gets
  pub reads_few : (trace : List Exchange) → AskedFrom codec job (first_stage job) trace → ((x : Exchange) → Contains trace x → Agrees m x.call x.reply) → Few (gets_among (list_map (λ x. x.call) trace))
  reads_few trace asked agrees = subst Few (omega arith) (few_from 0 (first_stage job) trace (NoGets refl) (first_known (lease_of job)) asked agrees)
