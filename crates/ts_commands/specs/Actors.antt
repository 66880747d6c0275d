-- The actor of any command: its job, and the calls that it follows.
use Rattle.std.specs.Prelude.{ℕ}
use Rattle.ts_model.specs.declared.commands.Job.{Job}
use Rattle.ts_model.specs.Codecs.{Codec}
use Rattle.ts_actor.specs.Traces.{Trace}
use Rattle.ts_writer.specs.Creators as creator
use Rattle.ts_writer.specs.Deleters as deleter
use Rattle.ts_writer.specs.Evolvers as evolver
use Rattle.ts_writer.specs.Writers as writer
use Rattle.ts_reader.specs.Readers as reader
use Rattle.ts_consolidate.specs.Consolidators as consolidator
use Rattle.ts_vacuum.specs.Listers as lister
use Rattle.ts_vacuum.specs.Vacuums as vacuum
use Rattle.ts_commands.specs.declared.actors.AnyActor.{AnyActor}
use Rattle.ts_commands.specs.declared.actors.AnyActor.TheVariants.{Creator, Evolver, Writer, Deleter, Reader, Consolidator, Vacuum, Unlocker, Lister}

-- the job of an actor
abbrev pub job_of : {P F : Type 0} → AnyActor P F → Job
job_of (Creator a) = a.machine.job
job_of (Evolver a) = a.machine.job
job_of (Writer a) = a.machine.job
job_of (Deleter a) = a.machine.job
job_of (Reader a) = a.machine.job
job_of (Consolidator a) = a.machine.job
job_of (Vacuum a) = a.machine.job
job_of (Unlocker a) = a.machine.job
job_of (Lister a) = a.machine.job

-- the actor has asked for the calls of this trace, and they had these replies
abbrev pub Follows : {P F : Type 0} → Codec F → AnyActor P F → Trace → Type 0
Follows codec (Creator a) t = creator.Follows codec a.machine.job a.machine.phase t
Follows codec (Evolver a) t = evolver.Follows codec a.machine.job a.machine.phase t
Follows codec (Writer a) t = writer.Follows codec a.machine.job a.machine.phase t
Follows codec (Deleter a) t = deleter.Follows codec a.machine.job a.machine.phase t
Follows codec (Reader a) t = reader.Follows codec a.machine.job a.machine.phase t
Follows codec (Consolidator a) t = consolidator.Follows codec a.machine.job a.machine.phase t
Follows codec (Vacuum a) t = vacuum.Follows codec a.machine.job a.machine.phase t
Follows codec (Unlocker a) t = lister.Follows codec a.machine.job a.machine.phase t
Follows codec (Lister a) t = lister.Follows codec a.machine.job a.machine.phase t

-- more than the calls that an actor still asks for, where a fetch has so many left
abbrev pub calls_left : {P F : Type 0} → (F → ℕ) → AnyActor P F → ℕ
calls_left left (Creator a) = creator.calls_left a.machine.job a.machine.phase
calls_left left (Evolver a) = evolver.calls_left a.machine.job a.machine.phase
calls_left left (Writer a) = writer.calls_left a.machine.job a.machine.phase
calls_left left (Deleter a) = deleter.calls_left a.machine.job a.machine.phase
calls_left left (Reader a) = reader.calls_left left a.machine.job a.machine.phase
calls_left left (Consolidator a) = consolidator.calls_left left a.machine.job a.machine.phase
calls_left left (Vacuum a) = vacuum.calls_left a.machine.job a.machine.phase
calls_left left (Unlocker a) = lister.calls_left a.machine.job a.machine.phase
calls_left left (Lister a) = lister.calls_left a.machine.job a.machine.phase
