-- Consolidators: the job of each, and the calls that it has made.
use Rattle.std.specs.Prelude.{ℕ}
use Rattle.ts_model.specs.declared.commands.Job.{Job}
use Rattle.ts_model.specs.Codecs.{Codec}
use Rattle.ts_actor.specs.Traces.{Trace}
use Rattle.ts_actor.specs.Machines as machine
use Rattle.ts_actor.specs.declared.machine.Phase.{Phase}
use Rattle.ts_consolidate.specs.Merges.{IsMergeJob, MayMerge, merges_left}

-- the consolidator of a job has asked for the calls of the trace, and they had these replies
abbrev pub Follows : {F : Type 0} → Codec F → Job → Phase F → Trace → Type 0
Follows codec job phase t = machine.Follows codec IsMergeJob (MayMerge codec) job phase t

-- more than the calls that a consolidator still asks for, where a fetch has so many left
abbrev pub calls_left : {F : Type 0} → (F → ℕ) → Job → Phase F → ℕ
calls_left left job phase = machine.calls_left (merges_left left) job phase
