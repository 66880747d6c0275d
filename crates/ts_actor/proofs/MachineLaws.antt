-- Where a machine's calls have led its job, and what it ends with.
use Rattle.std.proofs.Common.{◌≡◌, Bool, true, false, cond, not, ◌&&◌, ◌||◌, ◌<◌, ◌+◌, ℕ, arith, inl, inr, List, [], ◌∷◌, ◌++◌, Option, Some, None, refl, sym, ◌∙◌, ap, subst, Result, Ok, Err}
use Rattle.ts_base.specs.declared.lists.OutOfMemory.{OutOfMemory}
use Rattle.std.specs.Prelude.{IfSome, nat_lt, option_map, slice_get, IfOk}
use Rattle.std.specs.Option.{is_none, is_some, option_map_or}
use Rattle.std.proofs.lemmas.Bool.{true≢false}
use Rattle.std.proofs.lemmas.Option.{none-some, same_Some}
use Rattle.ts_base.specs.Exact.{name_decides}
use Rattle.ts_base.specs.declared.names.Name.{Name}
use Rattle.ts_store.specs.declared.call.Call.{Call}
use Rattle.ts_store.specs.declared.call.Call.TheVariants as call
use Rattle.ts_store.specs.declared.call.Reply.{Reply}
use Rattle.ts_model.specs.Codecs.{Codec}
use Rattle.ts_model.specs.declared.commands.Job.{Job}
use Rattle.ts_model.specs.declared.answers.Outcome.{Outcome}
use Rattle.ts_model.specs.declared.answers.Outcome.TheVariants as outcome
use Rattle.ts_model.specs.declared.states.State.{State}
use Rattle.ts_model.specs.declared.states.State.TheVariants.{Over, Removes}
use Rattle.ts_model.specs.declared.states.Stage.{Stage}
use Rattle.ts_model.specs.declared.states.Stage.TheVariants.{ListsLeases, PutsLease, Releases, Works}
use Rattle.ts_model.specs.States.{Exchange, asks, asks_memory, begun, goes, is_amid_removals, is_over, list_leases}
use Rattle.ts_model.specs.Stages.{end_at, first_stage, goes_on, holds_lease, is_leased, is_release, is_removal, is_removing, lease_of, may_give_up, after_lease, after_leases, on_verdict, released, settled, stage_asks, stage_asks_memory, stage_from, stage_goes, stage_of, stage_takes_memory}
use Rattle.ts_model.specs.Driven.{EndsBy, MayAsk, lacks_from}
use Rattle.ts_model.proofs.Lacks.{asking_lacks, lacks-push, other_goes, release_ends, reply_lacks}
use Rattle.ts_model.proofs.Removals.{takes_unremoved}
use Rattle.ts_model.proofs.Traces.{stage_from-append}
use Rattle.ts_actor.specs.declared.machine.Phase.{Phase}
use Rattle.ts_actor.specs.declared.machine.Phase.TheVariants.{New, Going, GivesUp, Ended}
use Rattle.ts_store.specs.Calls.{IsSpelledCall}
use Rattle.ts_actor.specs.Traces.{Trace, asking, exchange, filled}
use Rattle.ts_actor.specs.Machines.{Advances, AsksNoRelease, CanLack, Follows, GivesUpSo, IsAt, IsGivingUp, IsStageOf, KnowsEnds, Next, SparesLease, none_released, stage_left}
use Rattle.ts_lease.specs.Leases.{verdict_in}
use Rattle.ts_lease.specs.declared.verdicts.Verdict.{Verdict}
use Rattle.ts_lease.specs.declared.verdicts.Verdict.TheVariants as verdict
use Rattle.ts_store.specs.declared.call.Reply.TheVariants as reply

-- ---- the removal of a lease

-- the call that removes the lease of a job is its release
release_of : (job : Job) (lease : Name) → lease_of job ≡ Some lease → is_release job (call.Remove lease) ≡ true
release_of job lease some = ap (λ o. option_map_or (is_removal (call.Remove lease)) o false) some ∙ (name_decides lease lease).1 refl

-- ---- where a reply leads

module _ {F : Type 0} (codec : Codec F) (may : Job → State F → Type 0) (job : Job) where
  -- where the reply to the call that a stage asks for leads
  asked_goes : (stage : Stage F) (c : Call) (r : Reply) → IsStageOf may job stage → AsksNoRelease codec job stage → stage_asks codec job stage ≡ Some c
      → goes_on codec job stage (record { call = c; reply = r }) ≡ stage_goes codec job stage r
  asked_goes (PutsLease lease) c r is quiet asked = other_goes codec job (PutsLease lease) (record { call = c; reply = r }) (subst (λ d. is_release job d ≡ false) (same_Some _ c asked) (none_released job (call.Put lease []) tt))
  asked_goes (ListsLeases lease) c r is quiet asked = other_goes codec job (ListsLeases lease) (record { call = c; reply = r }) (subst (λ d. is_release job d ≡ false) (same_Some _ c asked) (none_released job list_leases tt))
  asked_goes (Works s) c r is quiet asked = other_goes codec job (Works s) (record { call = c; reply = r }) (subst (λ o. IfSome o (λ d. is_release job d ≡ false)) asked quiet)
  asked_goes (Releases lease end) c r is quiet asked =
      release_ends codec job (Releases lease end) (record { call = c; reply = r }) lease is (subst (λ d. is_release job d ≡ true) (same_Some (call.Remove lease) c asked) (release_of job lease is))

  -- the calls of a trace, once its last call has its reply
  pub comes_on : (stage : Stage F) (t : Trace) (r : Reply) → IsStageOf may job stage → IsAt codec job stage t → stage_of codec job (filled t r) ≡ stage_goes codec job stage r
  comes_on stage t r is at = by_asked t.asked refl
    where
      by_asked : (o : Option Call) → t.asked ≡ o → stage_from codec job (first_stage job) (t.past ++ exchange o r) ≡ stage_goes codec job stage r
      by_asked None none = absurd (at.waits none)
      by_asked (Some c) some =
          stage_from-append codec job (first_stage job) t.past (record { call = c; reply = r } ∷ [])
          ∙ ap (λ g. goes_on codec job g (record { call = c; reply = r })) at.came
          ∙ asked_goes stage c r is at.no_release (at.asks_it ∙ some)

-- ---- want of memory

-- a job that has a lease may give it up where it is leased and not at its removals, and another one never holds one
may_by : {F : Type 0} (job : Job) (lease : Name) (stage : Stage F) → lease_of job ≡ Some lease → is_leased stage ≡ true → is_removing stage ≡ false → may_give_up job stage ≡ true
may_by job lease stage some is still = ap (λ o. (is_some o && is_leased stage) && not (is_removing stage)) some ∙ ap (λ b. b && not (is_removing stage)) is ∙ ap not still

holds_none : {F : Type 0} (job : Job) (stage : Stage F) → lease_of job ≡ None → holds_lease job stage ≡ false
holds_none job stage none = ap (λ o. is_some o && is_leased stage) none

holds_over : {F : Type 0} (job : Job) (stage : Stage F) → is_leased stage ≡ false → holds_lease job stage ≡ false
holds_over job stage is = ap (λ b. is_some (lease_of job) && b) is ∙ by_first (is_some (lease_of job))
  where
    by_first : (b : Bool) → (b && false) ≡ false
    by_first true = refl
    by_first false = refl

module _ {F : Type 0} (codec : Codec F) (serves : Job → Type 0) (may : Job → State F → Type 0) (job : Job) where
  -- where memory is wanting a job gives up its lease, or ends
  short_ends : (past : List Exchange) (next : Next F) → serves job → lacks_from codec job true (first_stage job) past ≡ true
      → ((lease : Name) → lease_of job ≡ Some lease → (is_leased (stage_of codec job past) ≡ true) × (is_removing (stage_of codec job past) ≡ false)) → GivesUpSo (lease_of job) next → Advances codec serves may job past next
  short_ends past next serves_it lacks leased so = by_lease (lease_of job) refl so
    where
      by_lease : (o : Option Name) → lease_of job ≡ o → GivesUpSo o next → Advances codec serves may job past next
      by_lease None none is = subst (Advances codec serves may job past) (sym is) (inr (refl, (holds_none job (stage_of codec job past) none, lacks)))
      by_lease (Some lease) some is =
          let (held, still) = leased lease some in
          subst (Advances codec serves may job past) (sym is) (serves_it, record { own = some; asks_it = refl; may = may_by job lease (stage_of codec job past) some held still; lacks = lacks })

  -- work whose next call asks memory is not over
  asking_going : (s : State F) → asks_memory s ≡ true → is_over s ≡ false
  asking_going (Over end) asking = absurd (true≢false (sym asking))
  asking_going _ asking = refl

  -- nor is it amid its removals
  asking_unremoved : (s : State F) → asks_memory s ≡ true → is_amid_removals s ≡ false
  asking_unremoved (Removes names next end) asking = by_name (nat_lt 0 next) (is_some (slice_get names next)) asking
    where
      by_name : (a b : Bool) → not b ≡ true → (a && b) ≡ false
      by_name true b none = by_not b none
        where
          by_not : (b : Bool) → not b ≡ true → b ≡ false
          by_not true is = absurd (true≢false (sym is))
          by_not false is = refl
      by_name false b none = refl
  asking_unremoved _ asking = refl

  -- there was no memory for the next call
  pub call_short : (past : List Exchange) (stage : Stage F) (next : Next F) → serves job → stage_of codec job past ≡ stage → stage_asks_memory stage ≡ true → GivesUpSo (lease_of job) next → Advances codec serves may job past next
  call_short past (Works s) next serves_it came asking so =
      short_ends past next serves_it (asking_lacks codec job true (first_stage job) past (λ none. refl) (ap stage_asks_memory came ∙ asking))
      (λ lease some. (ap is_leased came ∙ ap not (asking_going s asking), ap is_removing came ∙ asking_unremoved s asking)) so
  call_short past (PutsLease lease) next serves_it came asking so = absurd (true≢false (sym asking))
  call_short past (ListsLeases lease) next serves_it came asking so = absurd (true≢false (sym asking))
  call_short past (Releases lease end) next serves_it came asking so = absurd (true≢false (sym asking))

  -- work that is not over, or the removal of the lease, is leased
  settled_leased : (lease : Name) (s : State F) → is_leased (settled (Some lease) s) ≡ true
  settled_leased lease (Over end) = refl
  settled_leased lease _ = refl

  -- work that is not amid its removals is at none
  settled_unremoved : (lease : Name) (s : State F) → is_amid_removals s ≡ false → is_removing (settled (Some lease) s) ≡ false
  settled_unremoved lease (Over end) still = refl
  settled_unremoved lease _ still = still

  -- there was no memory for what a reply leads to
  pub reply_short : (stage : Stage F) (t : Trace) (r : Reply) (next : Next F) → serves job → IsStageOf may job stage → IsAt codec job stage t → CanLack stage → GivesUpSo (lease_of job) next → Advances codec serves may job (filled t r) next
  reply_short (Works s) t r next serves_it is at takes so =
      short_ends (filled t r) next serves_it (by_asked t.asked refl)
      (λ lease some.
      let leads : stage_of codec job (filled t r) ≡ settled (Some lease) (goes codec job s r) = comes_on codec may job (Works s) t r is at ∙ ap (λ o. settled o (goes codec job s r)) some in
      (ap is_leased leads ∙ settled_leased lease (goes codec job s r), ap is_removing leads ∙ settled_unremoved lease (goes codec job s r) (takes_unremoved F codec job s r takes))) so
    where
      by_asked : (o : Option Call) → t.asked ≡ o → lacks_from codec job true (first_stage job) (t.past ++ exchange o r) ≡ true
      by_asked None none = absurd (at.waits none)
      by_asked (Some c) some =
          reply_lacks codec job true (first_stage job) t.past (record { call = c; reply = r })
          (subst (λ o. IfSome o (λ d. is_release job d ≡ false)) (at.asks_it ∙ some) at.no_release) (ap stage_takes_memory at.came ∙ takes)
  reply_short (PutsLease lease) t r next serves_it is at takes so = absurd takes
  reply_short (ListsLeases lease) t r next serves_it is at takes so = absurd takes
  reply_short (Releases lease end) t r next serves_it is at takes so = absurd takes

  -- a job that gave up its lease ended for want of memory
  pub gave_up : (lease : Name) (t : Trace) (r : Reply) → IsGivingUp codec job lease t → EndsBy codec job (filled t r) outcome.OutOfMemory
  gave_up lease t r is = subst (λ o. EndsBy codec job (t.past ++ exchange o r) outcome.OutOfMemory) (sym is.asks_it) (inr (refl, (holds_over job (stage_of codec job (t.past ++ x ∷ [])) (ap is_leased over), lacks)))
    where
      x : Exchange
      x = record { call = call.Remove lease; reply = r }

      here : Stage F
      here = stage_of codec job t.past

      over : stage_of codec job (t.past ++ x ∷ []) ≡ Works (Over (released lease (end_at (stage_of codec job t.past)) r))
      over = stage_from-append codec job (first_stage job) t.past (x ∷ []) ∙ release_ends codec job (stage_of codec job t.past) x lease is.own (release_of job lease is.own)

      lacks : lacks_from codec job true (first_stage job) (t.past ++ x ∷ []) ≡ true
      lacks =
          lacks-push codec job true (first_stage job) t.past x
          ∙ ap (λ b. cond b (lacks_from codec job true (first_stage job) t.past) (stage_takes_memory here || stage_asks_memory (goes_on codec job here x))) (release_of job lease is.own)
          ∙ is.lacks

  -- ---- one step

  -- a job that asks for a call in a stage follows the longer trace
  pub asks_on : (past : List Exchange) (stage : Stage F) (c : Call) → serves job → IsStageOf may job stage → stage_of codec job past ≡ stage → AsksNoRelease codec job stage → Some c ≡ stage_asks codec job stage
      → Follows codec serves may job (Going stage) (asking past c)
  asks_on past stage c serves_it is came quiet asked = (serves_it, is, record { came = came; asks_it = sym asked; waits = λ none. none-some c (sym none); no_release = quiet })

  -- work that asks for nothing and is not over may be short of memory
  work_lacks : (s : State F) → None ≡ asks codec job s → is_over s ≡ false → asks_memory s ≡ true
  work_lacks (Removes names next end) asked left = by_name (slice_get names next) asked
    where
      by_name : (o : Option Name) → None ≡ option_map call.Remove o → is_none o ≡ true
      by_name None none = refl
      by_name (Some n) none = absurd (none-some (call.Remove n) none)
  work_lacks (Over end) asked left = absurd (true≢false left)
  work_lacks _ asked left = refl

  -- so may a job be that asks for nothing and is not over
  pub not_over : (stage : Stage F) → None ≡ stage_asks codec job stage → ((s : State F) → stage ≡ Works s → is_over s ≡ false) → stage_asks_memory stage ≡ true
  not_over (Works s) asked left = work_lacks s asked (left s refl)
  not_over (PutsLease lease) asked left = absurd (none-some _ asked)
  not_over (ListsLeases lease) asked left = absurd (none-some _ asked)
  not_over (Releases lease end) asked left = absurd (none-some _ asked)

-- a state that is none in which the job is over
pub not_over_state : {F : Type 0} (s : State F) → ((end : Outcome) → s ≡ Over end → ⊥) → is_over s ≡ false
not_over_state (Over end) none = absurd (none end refl)
not_over_state _ none = refl

-- ---- the stages of a job

module _ {F : Type 0} (may : Job → State F → Type 0) (left : State F → ℕ) (job : Job) (ends : KnowsEnds may) where
  -- where its work leads
  pub settled_is : (o : Option Name) (s : State F) → lease_of job ≡ o → may job s → IsStageOf may job (settled o s)
  settled_is None s none is = is
  settled_is (Some lease) (Over end) some is = some
  settled_is (Some lease) _ some is = is

  pub settled_left : (o : Option Name) (s : State F) (bound : ℕ) → left s < bound → stage_left left job (settled o s) < bound + 2
  settled_left None s bound less = by_over (is_over s)
    where
      by_over : (b : Bool) → cond b 0 (left s + 2) < bound + 2
      by_over true = omega arith
      by_over false = omega (arith, less)
  settled_left (Some lease) (Over end) bound less = omega arith
  settled_left (Some lease) _ bound less = omega (arith, less)

  -- where the put of its lease leads
  pub after_lease_is : (lease : Name) (r : Reply) → lease_of job ≡ Some lease → IsStageOf may job (after_lease lease r)
  after_lease_is lease reply.Made some = some
  after_lease_is lease reply.Taken some = ends job _
  after_lease_is lease _ some = some

  pub after_lease_left : (lease : Name) (r : Reply) → stage_left left job (after_lease lease r) < left (begun job.command) + 4
  after_lease_left lease reply.Made = omega arith
  after_lease_left lease reply.Taken = omega arith
  after_lease_left lease _ = omega arith

  -- where the listing of the leases leads
  verdict_is : (lease : Name) (s : State F) (v : Verdict) → lease_of job ≡ Some lease → may job s → IsStageOf may job (on_verdict lease s v)
  verdict_is lease s verdict.Granted some is = settled_is (Some lease) s some is
  verdict_is lease s (verdict.Held other) some is = some

  pub after_leases_is : (lease : Name) (s : State F) (r : Reply) → lease_of job ≡ Some lease → may job s → IsStageOf may job (after_leases lease s r)
  after_leases_is lease s (reply.Names names) some is = verdict_is lease s (verdict_in names lease) some is
  after_leases_is lease s _ some is = some

  verdict_left : (lease : Name) (v : Verdict) → stage_left left job (on_verdict lease (begun job.command) v) < left (begun job.command) + 3
  verdict_left lease verdict.Granted = let less = settled_left (Some lease) (begun job.command) (left (begun job.command) + 1) (omega arith) in omega (arith, less)
  verdict_left lease (verdict.Held other) = omega arith

  pub after_leases_left : (lease : Name) (r : Reply) → stage_left left job (after_leases lease (begun job.command) r) < left (begun job.command) + 3
  after_leases_left lease (reply.Names names) = verdict_left lease (verdict_in names lease)
  after_leases_left lease _ = omega arith

-- ---- the calls of the work

module _ (serves : Job → Type 0) (calls : Job → Call → Type 0) (spares : SparesLease serves calls) (job : Job) (serves_it : serves job) where
  -- a call that the work may make does not remove the job's lease
  pub work_no_release : (o p : Option Call) → o ≡ p → IfSome o (calls job) → IfSome p (λ c. is_release job c ≡ false)
  work_no_release None p same works = subst (λ q. IfSome q (λ c. is_release job c ≡ false)) same tt
  work_no_release (Some c) p same works = subst (λ q. IfSome q (λ c. is_release job c ≡ false)) same (spares job c serves_it works).1

  -- nor does the call that a stage asks for in which it works
  pub works_no_release : {F : Type 0} (codec : Codec F) (stage : Stage F) (s : State F) (r : Result (Option Call) OutOfMemory) → stage ≡ Works s → IfOk r (λ call. call ≡ asks codec job s) → IfOk r (λ call. IfSome call (calls job)) → IfOk r (λ call. AsksNoRelease codec job stage)
  works_no_release codec stage s (Ok call) is same works = subst (AsksNoRelease codec job) (sym is) (work_no_release call (asks codec job s) same works)
  works_no_release codec stage s (Err e) is same works = tt

  -- and has a spelling
  pub work_spelled : (o : Option Call) → IfSome o (calls job) → IfSome o IsSpelledCall
  work_spelled None works = tt
  work_spelled (Some c) works = (spares job c serves_it works).0

-- ---- what users of a machine know

-- the call that a machine waits for is one that its job may make where the calls before it have led
pub asks_next : {F : Type 0} (codec : Codec F) (serves : Job → Type 0) (may : Job → State F → Type 0) (job : Job) (phase : Phase F) (past : List Exchange) (c : Call) → Follows codec serves may job phase (asking past c) → MayAsk codec job (stage_of codec job past) c
asks_next codec serves may job New past c follows = absurd (true≢false (ap (λ (t : Trace). is_some t.asked) follows.1))
asks_next codec serves may job (Going stage) past c follows = inl (ap (stage_asks codec job) follows.2.came ∙ follows.2.asks_it)
asks_next codec serves may job (GivesUp lease) past c follows =
    let is = follows.1 in
    inr (subst (λ d. is_release job d ≡ true) (sym (same_Some c (call.Remove lease) is.asks_it)) (release_of job lease is.own), is.may)
asks_next codec serves may job Ended past c follows = absurd follows
