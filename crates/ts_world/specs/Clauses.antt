-- What the contract of a world's step says.
use Rattle.std.specs.Prelude.{◌≡◌, ◌≢◌, ℕ, ◌-◌, ◌^◌, ◌<◌, Bool, false, ◌⊎◌, [], ◌∷◌, ◌++◌, Some, None, Result, Ok, Err, map, length, slice_get, slice_set, IsTrue, ⊤}
use Rattle.std.specs.FinMap as finite
use Rattle.ts_base.specs.declared.names.Name.{Name}
use Rattle.ts_base.specs.declared.heads.Stop.TheVariants.{Never}
use Rattle.ts_base.specs.Held.{Held}
use Rattle.ts_store.specs.declared.call.Call.{Call}
use Rattle.ts_store.specs.declared.call.Reply.{Reply}
use Rattle.ts_store.specs.declared.fate.Fate.{Fate}
use Rattle.ts_store.specs.declared.fate.Fate.TheVariants.{Unknown}
use Rattle.ts_store.specs.Calls.{is_no_memory}
use Rattle.ts_store.specs.Journals.{entry, held_after}
use Rattle.ts_model.specs.declared.commands.Command.{Command}
use Rattle.ts_model.specs.declared.commands.Command.TheVariants.{Vacuum, Unlock}
use Rattle.ts_model.specs.declared.commands.Job.{Job}
use Rattle.ts_model.specs.declared.answers.Outcome.{Outcome}
use Rattle.ts_model.specs.declared.answers.Outcome.TheVariants as outcome
use Rattle.ts_model.specs.declared.answers.Refusal.{Refusal}
use Rattle.ts_model.specs.declared.answers.Driven.TheVariants.{Done}
use Rattle.ts_model.specs.Deeds.{History}
use Rattle.ts_model.specs.Commands.{fits}
use Rattle.ts_model.specs.Codecs.{Codec, Spelled}
use Rattle.ts_model.specs.Jobs.{AreApart}
use Rattle.ts_law.specs.Stands.{Stands}
use Rattle.ts_model.specs.Stages.{stage_of}
use Rattle.ts_law.specs.Fresh.{id_in, IsCarried}
use Rattle.ts_law.specs.Lanes.{own_lane, AreInLanes}
use Rattle.ts_law.specs.Histories.{history_of}
use Rattle.ts_law.specs.Leases.{AreLeased}
use Rattle.ts_law.specs.Shared.{StaysShared}
use Rattle.ts_model.specs.Told.{trace_of, entries_of, IsReplied, Replied, after_told, held_told, history_told}
use Rattle.ts_law.specs.Ends.{IsTrueOver}
use Rattle.ts_law.specs.Changes.{ChangedNothing, OnlyLooks, PutsAlone, RemovesNone, SweepsAlone, UnlocksAlone}
use Rattle.ts_law.specs.Refusals.{IsNoFault, IsRefusedFor}
use Rattle.ts_law.specs.Courses.{IsSegment}
use Rattle.ts_law.specs.Sweeps.{StayInTheirOwn}
use Rattle.ts_model.specs.Driven.{MayAsk, IsDriven}
use Rattle.ts_world.specs.declared.events.Event.{Event}
use Rattle.ts_world.specs.declared.events.Event.TheVariants.{Spawn, Step, Stop, Break, Restart}
use Rattle.ts_world.specs.declared.events.WorldFault.{WorldFault}
use Rattle.ts_world.specs.declared.events.WorldFault.TheVariants.{IdTaken, NoActor, LeaseLive, OutOfMemory}
use Rattle.ts_world.specs.Views.{Standing, Runs, Ended, Dropped, WorldView, dropped, lane_of}
use Rattle.ts_world.specs.Breaks.{IsLease, IsLive, TakesLive, WouldTake, dropped_in, without_lease}

-- ---- at any time

-- the world began with a store that held m: each call was replied to as by a store of one thread, and the objects are those that the journal leaves
pub record BeganWith (m : Held) (w : WorldView) : Type 0 where
  pub replied : Replied m w.told
  pub held_told_is : w.held ≡ held_told m w.told
  pub held_is : w.held ≡ held_after m w.journal

-- the end of an actor: its job made calls that it may make and ended by them, they go along the job's course, what the end tells of the history and of the objects is true, and a refusal is for its cause. One that is refused for no fault changed nothing
pub record EndsTruly {F : Type 0} (codec : Codec F) (spelled : Spelled) (w : WorldView) (number : ℕ) (job : Job) (end : Outcome) : Type 0 where
  pub driven : IsDriven codec job (trace_of number w.told) (Done end)
  pub segment : IsSegment codec job (trace_of number w.told) (Done end)
  pub is_true : IsTrueOver spelled w.opening w.jobs w.past w.told number job end
  pub cause : (r : Refusal) → end ≡ outcome.Refused r → IsRefusedFor spelled w.opening w.jobs w.past w.told number job r
  pub idle : (r : Refusal) → end ≡ outcome.Refused r → IsNoFault r → ChangedNothing w.opening w.told number job

-- what holds of a world at any time
pub record IsSound {F : Type 0} (codec : Codec F) (spelled : Spelled) (w : WorldView) : Type 0 where
  -- what the store held when the world began stood for the past
  pub stood : Stands spelled w.opening w.past
  pub began : BeganWith w.opening w
  -- the objects that are held stand for the past and the deeds of the calls
  pub stands : Stands spelled w.held (history_told w.jobs w.past w.told)
  -- the entries of the journal alone tell the same deeds
  pub same_history : history_of w.past w.opening w.jobs w.journal ≡ history_told w.jobs w.past w.told
  -- the journal has each call that found memory, in the lane of its actor
  pub entries : w.journal ≡ entries_of lane_of w.told
  -- no two jobs have one identifier
  pub apart : AreApart w.jobs
  -- each job has its actor
  pub one_each : length w.actors ≡ length w.jobs
  -- each actor makes calls that its job may make, whatever became of it, in a lane of its own
  pub in_lanes : AreInLanes codec own_lane w.jobs w.told
  -- the lease on which an actor relies is held, unless the actor was dropped, and no two leases that were granted to such actors oppose one another
  pub leased : AreLeased codec w.jobs (dropped_in w.actors) w.told w.held
  -- as long as no vacuum makes a call each write stays in its own fragment, so that no read is clipped
  pub own : StayInTheirOwn spelled w.jobs w.past w.opening w.told
  -- while an actor works under a shared lease, all stays held, but for leases, that was held at any time since the grant, and so at its listing of the commits
  pub shared : StaysShared codec w.opening w.jobs (dropped_in w.actors) w.told w.held
  -- each call of a vacuum, whatever became of its actor, leaves an object as it was, but for its lease and those that it is to remove
  pub sweeps : (number : ℕ) (job : Job) → slice_get w.jobs number ≡ Some job → job.command ≡ Vacuum → SweepsAlone w.opening w.told number job
  -- each call of an unlock leaves an object as it was, but for the leases that it is to remove
  pub unlocks : (number : ℕ) (job : Job) (seed lane : ℕ) → slice_get w.jobs number ≡ Some job → job.command ≡ Unlock seed lane → UnlocksAlone w.opening w.told number job
  -- no call of a read or of a list of the commits changes an object, but for a lease of its own
  pub looks : (number : ℕ) (job : Job) → slice_get w.jobs number ≡ Some job → OnlyLooks job.command → ChangedNothing w.opening w.told number job
  -- each call of a job that is no vacuum and no unlock leaves an object as it was, but for its own, and for the frame that a create puts
  pub puts : (number : ℕ) (job : Job) → slice_get w.jobs number ≡ Some job → RemovesNone job.command → PutsAlone w.opening w.told number job
  -- an actor that runs has one more call to make
  pub runs : (number : ℕ) (job : Job) → slice_get w.jobs number ≡ Some job → slice_get w.actors number ≡ Some Runs → (c : Call) × MayAsk codec job (stage_of codec job (trace_of number w.told)) c
  -- an actor that ended did so by its own calls, and told the truth of the beginning and of what came since
  pub ends : (number : ℕ) (job : Job) (end : Outcome) → slice_get w.jobs number ≡ Some job → slice_get w.actors number ≡ Some (Ended end) → EndsTruly codec spelled w number job end

-- ---- before an event

-- the job of a Spawn: nothing stops it but events
abbrev pub job_spawned : Command → ℕ → ℕ → Job
job_spawned command at id = record { command = command; at = at; id = id; stop = Never }

-- an earlier job or a held name carries the identifier
abbrev pub IsTaken : WorldView → ℕ → Type 0
IsTaken w id = ((number : ℕ) × (job : Job) × (slice_get w.jobs number ≡ Some job) × (job.id ≡ id)) ⊎ ((n : Name) × IsTrue (finite.contains_key w.held n) × (id_in n ≡ Some id))

-- a job may come: fewer than 2^32 - 1 came before, its command is one that there can be, and nothing carried its identifier at the beginning, unless an earlier job or a held name carries it now
pub record MaySpawn (w : WorldView) (command : Command) (id : ℕ) : Type 0 where
  pub fewer : length w.jobs < 2 ^ 32 - 1
  pub value : IsTrue (fits command)
  pub new : IsCarried w.opening w.past id → IsTaken w id

-- what the caller of a step owes; a call's fate is a known one, and what is broken is a lease
abbrev pub MayCome : WorldView → Event → Type 0
MayCome w (Spawn command at id) = MaySpawn w command id
MayCome w (Step number fate) = fate ≢ Unknown
MayCome w (Stop number fate) = fate ≢ Unknown
MayCome w (Break lease) = IsLease lease
MayCome w Restart = ⊤

-- ---- what an event does

-- an actor came: it runs, or it asks for nothing and has ended
pub record Spawned (job : Job) (w later : WorldView) : Type 0 where
  pub standing : Standing
  pub up : standing ≢ Dropped
  pub is : later ≡ record w { jobs = w.jobs ++ job ∷ []; actors = w.actors ++ standing ∷ [] }

-- a running actor made a call that its job may make, with this fate, and took no lease from another one that runs: one call more was told and entered in the lane of the actor, and nothing else changed but where this actor stands
pub record Called {F : Type 0} (codec : Codec F) (number : ℕ) (fate : Fate) (may : Standing → Type 0) (w later : WorldView) : Type 0 where
  pub job : Job
  pub is_job : slice_get w.jobs number ≡ Some job
  pub ran : slice_get w.actors number ≡ Some Runs
  pub call : Call
  pub asked : MayAsk codec job (stage_of codec job (trace_of number w.told)) call
  pub spares : (lease : Name) → TakesLive w.jobs w.actors (Some number) call lease → ⊥
  pub reply : Reply
  pub memory : is_no_memory reply ≡ false
  pub changed : Bool
  pub standing : Standing
  pub stands : may standing
  pub replied : IsReplied w.held (record { job = Some number; call = call; fate = fate; reply = reply; changed = changed })
  pub is : later ≡ record w {
    told = w.told ++ record { job = Some number; call = call; fate = fate; reply = reply; changed = changed } ∷ [];
    held = after_told w.held (record { job = Some number; call = call; fate = fate; reply = reply; changed = changed });
    journal = w.journal ++ entry number call fate ∷ [];
    actors = slice_set w.actors number standing;
  }

-- what an event does to a world
abbrev pub Happens : {F : Type 0} → Codec F → Event → WorldView → WorldView → Type 0
Happens codec (Spawn command at id) w later = Spawned (job_spawned command at id) w later
Happens codec (Step number fate) w later = Called codec number fate (λ s. s ≢ Dropped) w later
Happens codec (Stop number fate) w later = Called codec number fate (λ s. s ≡ Dropped) w later
Happens codec (Break lease) w later = later ≡ without_lease lease w
Happens codec Restart w later = later ≡ record w { actors = map dropped w.actors }

-- ---- faults

-- the actor runs
abbrev pub IsUp : WorldView → ℕ → Type 0
IsUp w number = slice_get w.actors number ≡ Some Runs

-- what an event needs: an identifier that is free, an actor that runs, a lease whose identifier no running actor has
abbrev pub Finds : Event → WorldView → Type 0
Finds (Spawn command at id) w = IsTaken w id → ⊥
Finds (Step number fate) w = IsUp w number
Finds (Stop number fate) w = IsUp w number
Finds (Break lease) w = IsLive w.jobs w.actors None lease → ⊥
Finds Restart w = ⊤

-- the identifier is that of a Spawn, and it is taken
abbrev pub Clashes : Event → WorldView → ℕ → Type 0
Clashes (Spawn command at id) w taken = (taken ≡ id) × IsTaken w id
Clashes _ w taken = ⊥

-- the number is that of an actor which is to make a call, and does not run
abbrev pub Lacks : Event → WorldView → ℕ → Type 0
Lacks (Step number fate) w none = (none ≡ number) × (IsUp w number → ⊥)
Lacks (Stop number fate) w none = (none ≡ number) × (IsUp w number → ⊥)
Lacks _ w none = ⊥

-- the lease is that of a running actor: the one that is to be broken, or one that the next call of another actor would take
abbrev pub Lives : {F : Type 0} → Codec F → Event → WorldView → Name → Type 0
Lives codec (Step number fate) w live = WouldTake codec w number live
Lives codec (Stop number fate) w live = WouldTake codec w number live
Lives codec (Break lease) w live = (live ≡ lease) × IsLive w.jobs w.actors None lease
Lives codec _ w live = ⊥

-- a fault comes where its cause holds, and an event that happens found what it needs
abbrev pub HasCause : {F : Type 0} → Codec F → Event → WorldView → Result (Unit {0}) WorldFault → Type 0
HasCause codec e w (Ok done) = Finds e w
HasCause codec e w (Err (IdTaken id)) = Clashes e w id
HasCause codec e w (Err (NoActor number)) = Lacks e w number
HasCause codec e w (Err (LeaseLive live)) = Lives codec e w live
HasCause codec e w (Err OutOfMemory) = ⊤

-- why an actor did not make a call: it does not run, or would take a lease from another one that runs, or there was no memory
abbrev pub IsCallFault : {F X : Type 0} → Codec F → WorldView → ℕ → Result X WorldFault → Type 0
IsCallFault codec w number (Ok reply) = IsUp w number
IsCallFault codec w number (Err (NoActor none)) = (none ≡ number) × (IsUp w number → ⊥)
IsCallFault codec w number (Err (IdTaken id)) = ⊥
IsCallFault codec w number (Err (LeaseLive live)) = WouldTake codec w number live
IsCallFault codec w number (Err OutOfMemory) = ⊤

-- ---- the beginning

-- a world whose store holds m, after this past, and to which nothing has happened
abbrev pub new_world : Held → History → WorldView
new_world m past = record { opening = m; past = past; jobs = []; told = []; held = m; journal = []; actors = [] }

-- a world began with nothing: its store held no object, and nothing had been done
abbrev pub BeganEmpty : WorldView → Type 0
BeganEmpty w = (w.opening ≡ finite.empty) × (w.past ≡ [])
