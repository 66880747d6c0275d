-- Machines of jobs: what each has come to by its calls.
use Rattle.std.specs.Prelude.{◌≡◌, ◌≢◌, ℕ, ◌+◌, true, false, cond, Option, Some, None, List, Result, Ok, Err, IfSome, ⊤}
use Rattle.ts_base.specs.declared.names.Name.{Name}
use Rattle.ts_model.specs.declared.commands.Job.{Job}
use Rattle.ts_model.specs.declared.states.State.{State}
use Rattle.ts_model.specs.declared.states.Stage.{Stage}
use Rattle.ts_model.specs.declared.states.Stage.TheVariants.{PutsLease, ListsLeases, Works, Releases}
use Rattle.ts_model.specs.Codecs.{Codec}
use Rattle.ts_model.specs.States.{Exchange, asks, begun, is_over, takes_memory}
use Rattle.ts_model.specs.Stages.{first_stage, is_release, is_removal, lease_of, may_give_up, stage_asks, stage_of}
use Rattle.ts_model.specs.Driven.{EndsBy, lacks_from}
use Rattle.ts_model.specs.declared.states.State.TheVariants.{Over}
use Rattle.ts_actor.specs.declared.machine.Phase.{Phase}
use Rattle.ts_actor.specs.declared.machine.Phase.TheVariants.{New, Going, GivesUp, Ended}
use Rattle.ts_actor.specs.Fetches.{IsWorkCall, RemovesNothing}
use Rattle.ts_actor.specs.Traces.{Trace, asking, start}
use Rattle.std.proofs.Common.{refl}
use Rattle.std.specs.Option.{option_map_or}
use Rattle.ts_store.specs.Calls.{IsSpelledCall}
use Rattle.ts_store.specs.declared.call.Call.{Call}
use Rattle.ts_store.specs.declared.call.Call.TheVariants as call
use Rattle.ts_model.specs.declared.answers.Outcome.{Outcome}
use Rattle.ts_model.specs.declared.answers.Outcome.TheVariants as outcome

-- the stage is one of the job's: its lease is the job's own, and its work is in a state that the automaton knows
abbrev pub IsStageOf : {F : Type 0} → (Job → State F → Type 0) → Job → Stage F → Type 0
IsStageOf may job (PutsLease lease) = lease_of job ≡ Some lease
IsStageOf may job (ListsLeases lease) = lease_of job ≡ Some lease
IsStageOf may job (Works s) = may job s
IsStageOf may job (Releases lease end) = lease_of job ≡ Some lease

-- the automaton knows each state in which the job is over
abbrev pub KnowsEnds : {F : Type 0} → (Job → State F → Type 0) → Type 0
KnowsEnds may = (job : Job) (end : Outcome) → may job (Over end)

-- the work of the job does not ask for the removal of its lease
abbrev pub AsksNoRelease : {F : Type 0} → Codec F → Job → Stage F → Type 0
AsksNoRelease codec job (Works s) = IfSome (asks codec job s) (λ c. is_release job c ≡ false)
AsksNoRelease codec job stage = ⊤

-- each of these calls, which the work of such a job may make, has a spelling, and none removes the lease of the job
abbrev pub SparesLease : (Job → Type 0) → (Job → Call → Type 0) → Type 0
SparesLease serves calls = (job : Job) (c : Call) → serves job → calls job c → IsSpelledCall c × (is_release job c ≡ false)

-- a call that removes nothing does not remove a lease
pub none_released : (job : Job) (c : Call) → RemovesNothing c → is_release job c ≡ false
none_released job c keeps = by_lease (lease_of job)
  where
    by_call : (d : Call) (lease : Name) → RemovesNothing d → is_removal d lease ≡ false
    by_call (call.Remove n) lease none = absurd none
    by_call (call.Put n bytes) lease none = refl
    by_call (call.List p) lease none = refl
    by_call (call.Get n from len) lease none = refl
    by_call (call.Size n) lease none = refl

    by_lease : (o : Option Name) → option_map_or (is_removal c) o false ≡ false
    by_lease None = refl
    by_lease (Some lease) = by_call c lease keeps

-- work that removes nothing spares the lease
pub work_spares : (serves : Job → Type 0) → SparesLease serves (λ job c. IsWorkCall c)
work_spares serves job c serves_it calls = (calls.0, none_released job c calls.1)

-- the job works, and memory can be wanting for what a reply leads to
abbrev pub CanLack : {F : Type 0} → Stage F → Type 0
CanLack (Works s) = takes_memory s ≡ true
CanLack stage = ⊥

-- the calls have led the job to the stage, where it asks for the call that has no reply yet
pub record IsAt {F : Type 0} (codec : Codec F) (job : Job) (stage : Stage F) (t : Trace) : Type 0 where
  pub came : stage_of codec job t.past ≡ stage
  pub asks_it : stage_asks codec job stage ≡ t.asked
  pub waits : t.asked ≢ None
  pub no_release : AsksNoRelease codec job stage

-- the job gives up its lease, for want of memory, and waits for the reply to its removal
pub record IsGivingUp {F : Type 0} (codec : Codec F) (job : Job) (lease : Name) (t : Trace) : Type 0 where
  pub own : lease_of job ≡ Some lease
  pub asks_it : t.asked ≡ Some (call.Remove lease)
  pub may : may_give_up job (stage_of codec job t.past) ≡ true
  pub lacks : lacks_from codec job true (first_stage job) t.past ≡ true

-- the job is one that the automaton is for, and the calls have led it to a stage that the automaton knows, or it gives up its lease; a new job has made none, and an ended one makes no more
abbrev pub Follows : {F : Type 0} → Codec F → (Job → Type 0) → (Job → State F → Type 0) → Job → Phase F → Trace → Type 0
Follows codec serves may job New t = serves job × (t ≡ start)
Follows codec serves may job (Going stage) t = serves job × IsStageOf may job stage × IsAt codec job stage t
Follows codec serves may job (GivesUp lease) t = serves job × IsGivingUp codec job lease t
Follows codec serves may job Ended t = ⊥

-- more than the calls that are left in a stage: its work, and what comes before and after
abbrev pub stage_left : {F : Type 0} → (State F → ℕ) → Job → Stage F → ℕ
stage_left left job (PutsLease lease) = left (begun job.command) + 4
stage_left left job (ListsLeases lease) = left (begun job.command) + 3
stage_left left job (Works s) = cond (is_over s) 0 (left s + 2)
stage_left left job (Releases lease end) = 1

-- more than the calls that are left in a phase
abbrev pub calls_left : {F : Type 0} → (State F → ℕ) → Job → Phase F → ℕ
calls_left left job New = left (begun job.command) + 5
calls_left left job (Going stage) = stage_left left job stage
calls_left left job (GivesUp lease) = 0
calls_left left job Ended = 0

-- what a machine does next: it comes to a phase in which it asks for a call, or to its end
abbrev pub Next : Type 0 → Type 0
Next F = Result (Phase F × Call) Outcome

-- after these calls the job asks for one more, in a phase that follows them, or it has come to its end
abbrev pub Advances : {F : Type 0} → Codec F → (Job → Type 0) → (Job → State F → Type 0) → Job → List Exchange → Next F → Type 0
Advances codec serves may job past (Ok next) = Follows codec serves may job next.0 (asking past next.1)
Advances codec serves may job past (Err end) = EndsBy codec job past end

-- for want of memory a job gives up its lease, and one without a lease ends
abbrev pub GivesUpSo : {F : Type 0} → Option Name → Next F → Type 0
GivesUpSo (Some lease) next = next ≡ Ok (GivesUp lease, call.Remove lease)
GivesUpSo None next = next ≡ Err outcome.OutOfMemory
