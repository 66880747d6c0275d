-- Identifiers that nothing carries and those that are spent, and the jobs of a run: those of the lines of its script.
use Rattle.std.specs.Prelude.{◌≡◌, ℕ, zero, suc, ◌+◌, ◌*◌, ◌/◌, ◌^◌, ◌<◌, Bool, true, nat_eq, if◌then◌else◌, List, [], ◌∷◌, ◌++◌, Option, Some, None, length, slice_get, IsTrue, IfSome, Contains, ◌⊎◌}
use Rattle.ts_base.specs.declared.keys.Key.{Key}
use Rattle.ts_base.specs.declared.keys.FragKey.{FragKey}
use Rattle.ts_base.specs.declared.names.Name.{Name}
use Rattle.ts_model.specs.declared.commands.Command.{Command}
use Rattle.ts_model.specs.declared.commands.Command.TheVariants.{Read, Consolidate, Unlock}
use Rattle.ts_model.specs.declared.commands.Job.{Job}
use Rattle.ts_model.specs.declared.commands.Line.{Line}
use Rattle.ts_base.specs.Held.{Held}
use Rattle.ts_base.specs.Names.{wrt_of}
use Rattle.ts_model.specs.Deeds.{History, keys}
use Rattle.ts_model.specs.Told.{Told}
use Rattle.ts_law.specs.Stands.{IsCommitted, IsNamed}
use Rattle.ts_store.specs.declared.call.Call.TheVariants as call
use Rattle.ts_base.specs.declared.names.Name.TheVariants as name
use Rattle.std.specs.FinMap as map

-- the identifier that a name carries
abbrev pub id_in : Name → Option ℕ
id_in (name.Schema k) = Some k.id
id_in (name.Commit f kind) = Some f.id
id_in (name.Part f part) = Some f.id
id_in (name.Lease k mode) = Some k.id
id_in _ = None

-- a held name carries the identifier
abbrev pub IsHeldId : Held → ℕ → Type 0
IsHeldId m id = (n : Name) × IsTrue (map.contains_key m n) × (id_in n ≡ Some id)

-- an identifier is carried: by a deed, by a held name, or by a fragment that the `.vac` of a committed one names
abbrev pub IsCarried : Held → History → ℕ → Type 0
IsCarried m h id = ((k : Key) × Contains (keys h) k × (k.id ≡ id)) ⊎ (IsHeldId m id ⊎ ((f : FragKey) × IsNamed m f × (f.id ≡ id)))

-- an identifier for a job that comes: nothing carried it at the beginning, no name that is held now carries it, and no other job has it
pub record IsNewId (opening : Held) (past : History) (m : Held) (jobs : List Job) (id : ℕ) : Type 0 where
  pub uncarried : IsCarried opening past id → ⊥
  pub free : IsHeldId m id → ⊥
  pub other : (number : ℕ) (job : Job) → slice_get jobs number ≡ Some job → job.id ≡ id → ⊥

-- nothing carries an identifier whose upper 64 bits are the seed
abbrev pub IsFreshSeed : Held → History → ℕ → Type 0
IsFreshSeed m h seed = (id : ℕ) → id / 2 ^ 64 ≡ seed → IsCarried m h id → ⊥

-- the identifier of a command: the seed in its upper 64 bits, then the lane, then the number of the command in its lane
abbrev pub id_of : ℕ → ℕ → ℕ → ℕ
id_of seed lane number = seed * 2 ^ 64 + lane * 2 ^ 32 + number

-- the seed that an identifier has: its upper 64 bits
abbrev pub seed_in : ℕ → ℕ
seed_in id = id / 2 ^ 64

-- ---- identifiers that are spent

-- a call commits an identifier: it is the put of a `.wrt` that carries it, and it took effect
pub record DoesCommit (e : Told) (id : ℕ) : Type 0 where
  pub frag : FragKey
  pub bytes : List ℕ
  pub puts : e.call ≡ call.Put (wrt_of frag) bytes
  pub changed : e.changed ≡ true
  pub carries : frag.id ≡ id

-- an identifier is spent: it was carried at the beginning, or one of the calls since then committed it
abbrev pub IsSpent : Held → History → List Told → ℕ → Type 0
IsSpent opening past seen id = IsCarried opening past id ⊎ ((e : Told) × Contains seen e × DoesCommit e id)

-- each fragment that is committed, or that the `.vac` of a committed one names, has an identifier that is spent
pub record AreSpent (opening : Held) (past : History) (seen : List Told) (m : Held) : Type 0 where
  pub committed : (f : FragKey) → IsCommitted m f → IsSpent opening past seen f.id
  pub named : (f : FragKey) → IsNamed m f → IsSpent opening past seen f.id

-- ---- the lines of a script

-- a line with the number that it has in its lane
pub record Numbered : Type 0 where
  pub number : ℕ
  pub line : Line

-- the lines of a lane, numbered from a number on
abbrev pub lines_in : ℕ → ℕ → List Line → List Numbered
lines_in lane number [] = []
lines_in lane number (line ∷ lines) = if nat_eq line.lane lane then record { number = number; line = line } ∷ lines_in lane (number + 1) lines else lines_in lane number lines

-- the lines of so many lanes from a lane on, lane by lane, numbered from 1 in each
abbrev pub by_lanes : ℕ → ℕ → List Line → List Numbered
by_lanes zero lane lines = []
by_lanes (suc count) lane lines = lines_in lane 1 lines ++ by_lanes count (lane + 1) lines

-- the lines of a script in lane order: those of lane 0, numbered from 1, then those of lane 1, and so on to lane 7
abbrev pub in_lane_order : List Line → List Numbered
in_lane_order lines = by_lanes 8 0 lines

-- the lane of a line, and 0 where there is none
abbrev pub lane_of : Option Numbered → ℕ
lane_of (Some item) = item.line.lane
lane_of None = 0

-- the lane of each job, by its number among all: that of its line
abbrev pub lanes_of : List Numbered → ℕ → ℕ
lanes_of items number = lane_of (slice_get items number)

-- ---- the jobs of the lines

-- a command whose interval ends at the stamp where that is asked for, as it can be of a read and of a consolidation
abbrev pub ends_at : Bool → ℕ → Command → Command
ends_at true at (Read from to query) = Read from at query
ends_at true at (Consolidate from to limits) = Consolidate from at limits
ends_at _ at command = command

-- a command in a run of a seed, done in a lane: an unlock has that seed and that lane from its start on
abbrev pub seeded : ℕ → ℕ → Command → Command
seeded seed lane (Unlock own other) = Unlock seed lane
seeded _ _ command = command

-- the command of a line in a run of a seed, at its stamp, in the lane of the line
abbrev pub command_at : ℕ → Line → ℕ → Command
command_at seed line at = seeded seed line.lane (ends_at line.to_stamp at line.command)

-- a stamp that the command of a line may have: the line's own, or where it has none a number that the clock may give
pub record IsStampOf (gives : ℕ → Bool) (line : Line) (at : ℕ) : Type 0 where
  pub own : IfSome line.at (λ own. at ≡ own)
  pub clock : line.at ≡ None → IsTrue (gives at)
  pub width : at < 2 ^ 64

-- the job of a line at a stamp, with an identifier, which has the seed of the run; it is stopped where the line says
abbrev pub job_from : ℕ → Line → ℕ → Job
job_from id line at = record { command = command_at (seed_in id) line at; at = at; id = id; stop = line.stop }

-- a job is that of a line, with an identifier, which has the seed of the run: it has a stamp of the line and the line's command at that stamp, and is stopped where the line says
pub record IsJobOf (gives : ℕ → Bool) (id : ℕ) (line : Line) (job : Job) : Type 0 where
  pub id_is : job.id ≡ id
  pub stamp : IsStampOf gives line job.at
  pub command : job.command ≡ command_at (seed_in id) line job.at
  pub stop : job.stop ≡ line.stop

-- the jobs are those of the lines, one each, by an identifier of the seed, the lane and the number in it
pub record AreJobsOf (gives : ℕ → Bool) (seed : ℕ) (items : List Numbered) (jobs : List Job) : Type 0 where
  pub one_each : length jobs ≡ length items
  pub each : (i : ℕ) (item : Numbered) (job : Job) → slice_get items i ≡ Some item → slice_get jobs i ≡ Some job → IsJobOf gives (id_of seed item.line.lane item.number) item.line job
