-- Why a job is refused: what its refusal tells of the history that the job found.
use Rattle.std.specs.Prelude.{◌≡◌, ◌≢◌, ℕ, List, [], Option, Some, None, option_map, Contains, ⊤, ◌⊎◌}
use Rattle.std.specs.Result.{result_err}
use Rattle.ts_base.specs.Held.{Held}
use Rattle.ts_base.specs.declared.names.Name.{Name}
use Rattle.ts_base.specs.declared.names.Place.{Place}
use Rattle.ts_base.specs.declared.names.Prefix.TheVariants.{Leases, Schemas}
use Rattle.ts_lease.specs.declared.verdicts.Verdict.TheVariants.{Held as Opposed}
use Rattle.ts_lease.specs.Leases.{verdict_in}
use Rattle.ts_schema.specs.declared.frames.Frame.{Frame}
use Rattle.ts_schema.specs.declared.schemas.Schema.{Schema}
use Rattle.ts_schema.specs.declared.attrs.Attr.{Attr}
use Rattle.ts_schema.specs.Evolutions.{evolution_fault}
use Rattle.ts_store.specs.declared.call.Call.{Call}
use Rattle.ts_store.specs.Calls.{names_under}
use Rattle.ts_model.specs.declared.commands.Command.{Command}
use Rattle.ts_model.specs.declared.commands.Command.TheVariants.{Create, Evolve, Write, Read, Delete, Unlock, Fragments}
use Rattle.ts_model.specs.declared.commands.FrameIn.{FrameIn}
use Rattle.ts_model.specs.declared.commands.Job.{Job}
use Rattle.ts_model.specs.declared.answers.Refusal.{Refusal}
use Rattle.ts_model.specs.Commands.{create_refusal, frame_made, laid}
use Rattle.ts_model.specs.Deeds.{History, frame_in, schemas, current_schema}
use Rattle.ts_model.specs.Jobs.{looked_at}
use Rattle.ts_model.specs.Queries.{delete_condition, ready_in}
use Rattle.ts_model.specs.Stages.{lease_of}
use Rattle.ts_model.specs.States.{get_frame, place_of}
use Rattle.ts_model.specs.Told.{Told, held_told, history_told, trace_of}
use Rattle.ts_model.specs.Codecs.{Spelled}
pub use Rattle.ts_law.specs.Ends.{ListedAt, MadeAt, FindsNothing}
use Rattle.ts_store.specs.declared.call.Reply.TheVariants as reply
use Rattle.ts_store.specs.declared.fate.Fate.TheVariants as fate
use Rattle.ts_model.specs.declared.answers.Refusal.TheVariants as refusal

-- the command works in a schema, which it looks for: a create, an unlock and `fragments` do not
abbrev pub WorksInSchema : Command → Type 0
WorksInSchema (Create made) = ⊥
WorksInSchema (Unlock seed lane) = ⊥
WorksInSchema Fragments = ⊥
WorksInSchema _ = ⊤

-- why a command is refused that works in an array with a frame, through a schema with these attributes
abbrev pub refusal_in : Frame → List Attr → Command → Option Refusal
refusal_in frame attrs (Evolve change) = option_map refusal.SchemaBad (evolution_fault frame.domain attrs change)
refusal_in frame attrs (Write w) = result_err (laid frame attrs w)
refusal_in frame attrs (Read from to query) = result_err (ready_in frame attrs query)
refusal_in frame attrs (Delete text) = result_err (delete_condition frame attrs text)
refusal_in frame attrs _ = None

-- a create found an array: as it got the frame, that was another one than its own; or as it listed the schemas, there was one
abbrev pub FindsArray : List Job → History → List Told → ℕ → FrameIn → Type 0
FindsArray jobs past told number made =
    ((at : MadeAt told number get_frame) × (frame : Frame) × (frame_in (history_told jobs past at.before) ≡ Some frame) × (frame ≢ frame_made made))
    ⊎ ((at : ListedAt told number Schemas) × (s : Schema) × Contains (schemas (history_told jobs past at.before)) s)

-- a job found no schema: as it listed them none held where it looks
pub record FindsNoSchema (jobs : List Job) (past : History) (told : List Told) (number : ℕ) (job : Job) (at : ℕ) : Type 0 where
  pub works : WorksInSchema job.command
  pub looks : at ≡ looked_at job
  pub schemas : ListedAt told number Schemas
  pub none : current_schema (history_told jobs past schemas.before) at ≡ None

-- a job found what its command is refused for: in the frame, and in the schema that held where it looks as it listed them
pub record FindsFault (jobs : List Job) (past : History) (told : List Told) (number : ℕ) (job : Job) (r : Refusal) : Type 0 where
  pub schemas : ListedAt told number Schemas
  pub current : Schema
  pub holds : current_schema (history_told jobs past schemas.before) (looked_at job) ≡ Some current
  pub frame : Frame
  pub framed : frame_in (history_told jobs past schemas.before) ≡ Some frame
  pub refused : refusal_in frame current.attrs job.command ≡ Some r

-- a job found a lease in its way: of those that were held as it listed them this was the first that opposes its own
pub record FindsLease (opening : Held) (told : List Told) (number : ℕ) (job : Job) (other : Name) : Type 0 where
  pub own : Name
  pub has : lease_of job ≡ Some own
  pub leases : ListedAt told number Leases
  pub first : verdict_in (names_under Leases (held_told opening leases.before)) own ≡ Opposed other

-- a call of a job failed, which speaks of this object or prefix
pub record HasFailed (told : List Told) (number : ℕ) (p : Place) : Type 0 where
  pub call : Call
  pub speaks : p ≡ place_of call
  pub at : MadeAt told number call
  pub failed : (at.made).reply ≡ reply.Failed
  pub undone : (at.made).fate ≢ fate.Done

-- a command is refused for itself: a create before its first call, another one in the array that it found
abbrev pub IsRefusedAs : List Job → History → List Told → ℕ → Job → Refusal → Command → Type 0
IsRefusedAs jobs past told number job r (Create made) = (create_refusal made ≡ Some r) × (trace_of number told ≡ [])
IsRefusedAs jobs past told number job r _ = FindsFault jobs past told number job r

-- a refusal for no failed call, and for no name that was taken
abbrev pub IsNoFault : Refusal → Type 0
IsNoFault (refusal.StoreFault p) = ⊥
IsNoFault (refusal.Taken n) = ⊥
IsNoFault r = ⊤

-- a job is refused for this, where a map was held at the beginning: no object is missing, damaged or taken
abbrev pub IsRefusedFor : Spelled → Held → List Job → History → List Told → ℕ → Job → Refusal → Type 0
IsRefusedFor spelled opening jobs past told number job refusal.ArrayExists = (made : FrameIn) × (job.command ≡ Create made) × FindsArray jobs past told number made
IsRefusedFor spelled opening jobs past told number job (refusal.NoSchema at) = FindsNoSchema jobs past told number job at
IsRefusedFor spelled opening jobs past told number job (refusal.Leased other) = FindsLease opening told number job other
IsRefusedFor spelled opening jobs past told number job (refusal.StoreFault p) = HasFailed told number p
IsRefusedFor spelled opening jobs past told number job (refusal.NothingToDo count) = FindsNothing spelled opening jobs past told number job count
IsRefusedFor spelled opening jobs past told number job (refusal.Taken n) = ⊥
IsRefusedFor spelled opening jobs past told number job (refusal.Missing n) = ⊥
IsRefusedFor spelled opening jobs past told number job (refusal.Damaged n at) = ⊥
IsRefusedFor spelled opening jobs past told number job r = IsRefusedAs jobs past told number job r job.command
