-- Jobs that make the calls which their automaton lets them make, and no others.
use Rattle.std.specs.Prelude.{◌≡◌, Bool, true, false, cond, ◌||◌, List, [], ◌∷◌, Some, length, ⊤, ◌⊎◌}
use Rattle.ts_store.specs.declared.call.Call.{Call}
use Rattle.ts_model.specs.declared.commands.Job.{Job}
use Rattle.ts_model.specs.declared.answers.Outcome.{Outcome}
use Rattle.ts_model.specs.declared.answers.Driven.{Driven}
use Rattle.ts_model.specs.declared.states.Stage.{Stage}
use Rattle.ts_model.specs.declared.states.State.TheVariants.{Over}
use Rattle.ts_model.specs.declared.states.Stage.TheVariants.{Works}
use Rattle.ts_model.specs.Stops.{cuts, Uncut}
use Rattle.ts_model.specs.States.{Exchange}
use Rattle.ts_model.specs.Stages.{first_stage, stage_asks, is_release, holds_lease, may_give_up, stage_takes_memory, stage_asks_memory, goes_on, stage_of}
use Rattle.ts_model.specs.Codecs.{Codec}
use Rattle.ts_model.specs.declared.answers.Outcome.TheVariants as outcome
use Rattle.ts_model.specs.declared.answers.Driven.TheVariants as driven

-- a call that a job may make: the one that it asks next, or the removal of its lease where it may give it up
abbrev pub MayAsk : {F : Type 0} → Codec F → Job → Stage F → Call → Type 0
MayAsk codec job stage c = (stage_asks codec job stage ≡ Some c) ⊎ ((is_release job c ≡ true) × (may_give_up job stage ≡ true))

-- each call is one that the job may make where those before it have led, from a stage on
abbrev pub AskedFrom : {F : Type 0} → Codec F → Job → Stage F → List Exchange → Type 0
AskedFrom codec job stage [] = ⊤
AskedFrom codec job stage (x ∷ xs) = MayAsk codec job stage x.call × AskedFrom codec job (goes_on codec job stage x) xs

-- memory can be wanting after a call: for what its reply leads to, and for the next call; after the removal of the lease only where it was wanting before
abbrev pub lacks_after : {F : Type 0} → Codec F → Job → Bool → Stage F → Exchange → Bool
lacks_after codec job before stage x = cond (is_release job x.call) before (stage_takes_memory stage || stage_asks_memory (goes_on codec job stage x))

-- memory can be wanting after these calls, from a stage on where it can be wanting or not
abbrev pub lacks_from : {F : Type 0} → Codec F → Job → Bool → Stage F → List Exchange → Bool
lacks_from codec job before stage [] = before
lacks_from codec job before stage (x ∷ xs) = lacks_from codec job (lacks_after codec job before stage x) (goes_on codec job stage x) xs

-- a job may end for want of memory after these calls: it holds no lease, and memory can be wanting, as it can before the first call
abbrev pub MayLack : {F : Type 0} → Codec F → Job → List Exchange → Type 0
MayLack codec job trace = (holds_lease job (stage_of codec job trace) ≡ false) × (lacks_from codec job true (first_stage job) trace ≡ true)

-- the job ends where its calls have led it, or for want of memory where that may be wanting
abbrev pub EndsBy : {F : Type 0} → Codec F → Job → List Exchange → Outcome → Type 0
EndsBy codec job trace end = (stage_of codec job trace ≡ Works (Over end)) ⊎ ((end ≡ outcome.OutOfMemory) × MayLack codec job trace)

-- by these calls the job came to its end; or its stop cut it off where it would have made one more call
abbrev pub ComesOut : {F : Type 0} → Codec F → Job → List Exchange → Driven Outcome → Type 0
ComesOut codec job trace (driven.Done end) = EndsBy codec job trace end
ComesOut codec job trace driven.Stopped = (c : Call) × MayAsk codec job (stage_of codec job trace) c × (cuts job.stop (length trace) c ≡ true)

-- the job made calls that it may make, none of which its stop cut off, and came out so by them
pub record IsDriven {F : Type 0} (codec : Codec F) (job : Job) (trace : List Exchange) (result : Driven Outcome) : Type 0 where
  pub asked : AskedFrom codec job (first_stage job) trace
  pub uncut : Uncut job.stop 0 trace
  pub ends : ComesOut codec job trace result
