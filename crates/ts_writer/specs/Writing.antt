-- Jobs that put objects: which jobs they are, and the states in which each can be.
use Rattle.std.specs.Prelude.{◌≡◌, ℕ, ◌-◌, List, None, length, All, ⊤}
use Rattle.ts_base.specs.Names.{IsSpelled}
use Rattle.ts_base.specs.declared.heads.Stop.TheVariants.{Never}
use Rattle.ts_model.specs.declared.commands.Command.{Command}
use Rattle.ts_model.specs.declared.commands.Command.TheVariants.{Create, Evolve, Write, Delete}
use Rattle.ts_model.specs.declared.commands.Job.{Job}
use Rattle.ts_model.specs.declared.states.NewObject.{NewObject}
use Rattle.ts_model.specs.declared.states.State.{State}
use Rattle.ts_model.specs.declared.states.State.TheVariants.{Creates, Puts, Over}
use Rattle.ts_model.specs.declared.states.Creating.{Creating}
use Rattle.ts_model.specs.declared.states.Creating.TheVariants.{PutsFrame, ComparesFrame, ListsDeclared}
use Rattle.ts_model.specs.declared.states.Listed.{Listed}
use Rattle.ts_model.specs.Jobs.{IsFit, refused_before}
use Rattle.ts_actor.specs.Seeks.{MaySeek, state_left}

-- the command is a create
abbrev pub IsCreate : Command → Type 0
IsCreate (Create f) = ⊤
IsCreate _ = ⊥

-- the command is an evolve
abbrev pub IsEvolve : Command → Type 0
IsEvolve (Evolve change) = ⊤
IsEvolve _ = ⊥

-- the command is a write
abbrev pub IsWrite : Command → Type 0
IsWrite (Write w) = ⊤
IsWrite _ = ⊥

-- the command is a delete
abbrev pub IsDelete : Command → Type 0
IsDelete (Delete text) = ⊤
IsDelete _ = ⊥

-- the job is a create that there can be
pub record IsCreateJob (job : Job) : Type 0 where
  pub fit : IsFit job
  pub kind : IsCreate job.command

-- the job is an evolve that there can be
pub record IsEvolveJob (job : Job) : Type 0 where
  pub fit : IsFit job
  pub kind : IsEvolve job.command

-- the job is a write that there can be
pub record IsWriteJob (job : Job) : Type 0 where
  pub fit : IsFit job
  pub kind : IsWrite job.command

-- the job is a delete that there can be
pub record IsDeleteJob (job : Job) : Type 0 where
  pub fit : IsFit job
  pub kind : IsDelete job.command

-- each of the objects has a name with a spelling
abbrev pub AreSpelled : List NewObject → Type 0
AreSpelled objects = All (λ o. IsSpelled o.name) objects

-- the job is over
abbrev pub IsOver : {F : Type 0} → State F → Type 0
IsOver (Over end) = ⊤
IsOver _ = ⊥

-- a job that puts its objects can be in the state
abbrev pub IsPutState : {F : Type 0} → State F → Type 0
IsPutState (Puts objects next end) = AreSpelled objects
IsPutState (Over end) = ⊤
IsPutState _ = ⊥

-- a create can be in the state before its puts: one that is refused makes no call
abbrev pub IsCreatingState : Job → Creating → Type 0
IsCreatingState job PutsFrame = refused_before job.command ≡ None
IsCreatingState job ComparesFrame = refused_before job.command ≡ None
IsCreatingState job ListsDeclared = ⊤

-- a create can be in the state
abbrev pub IsCreateState : {F : Type 0} → Job → State F → Type 0
IsCreateState job (Creates s) = IsCreatingState job s
IsCreateState job s = IsPutState s

-- an evolve, a write or a delete needs to know nothing of what it looks into, since that is nothing
abbrev pub IsAnyListed : Listed → Type 0
IsAnyListed listed = ⊤

-- an evolve, a write or a delete can be in the state
abbrev pub IsLaterState : {F : Type 0} → State F → Type 0
IsLaterState s = MaySeek IsAnyListed IsPutState s

-- the most puts that a job makes from a state on
abbrev pub puts_left : {F : Type 0} → State F → ℕ
puts_left (Puts objects next end) = length objects - next
puts_left _ = 0

-- the most calls that a job makes from a state on: those before its puts, and then its puts
abbrev pub calls_left : {F : Type 0} → State F → ℕ
calls_left s = state_left puts_left s

-- the job of a command that is stopped nowhere
abbrev pub job_for : ℕ → ℕ → Command → Job
job_for at id command = record { command = command; at = at; id = id; stop = Never }
