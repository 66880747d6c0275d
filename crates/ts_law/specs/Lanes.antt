-- Jobs in lanes: each makes calls that it may make, and those of a lane come one after the other.
use Rattle.std.specs.Prelude.{◌≡◌, ℕ, ◌-◌, ◌^◌, ◌<◌, ◌≤◌, List, [], ◌∷◌, Option, Some, None, length, slice_get, All, ⊤}
use Rattle.ts_model.specs.declared.commands.Job.{Job}
use Rattle.ts_model.specs.Driven.{AskedFrom}
use Rattle.ts_model.specs.Told.{Told, trace_of}
use Rattle.ts_model.specs.Stages.{first_stage}
use Rattle.ts_model.specs.Codecs.{Codec}

-- the lane of a call that no job made
abbrev pub nobodys_lane : ℕ
nobodys_lane = 2 ^ 32 - 1

-- the lane of who made a call: that of its job
abbrev pub lane_by : (ℕ → ℕ) → Option ℕ → ℕ
lane_by lanes (Some number) = lanes number
lane_by lanes None = nobodys_lane

-- each job has one and the same lane, so that all come one after the other
abbrev pub one_lane : ℕ → ℕ
one_lane number = 0

-- each job has the lane of its number
abbrev pub own_lane : ℕ → ℕ
own_lane number = number

-- a job made the call
abbrev pub IsOwned : Told → Type 0
IsOwned e = (number : ℕ) × (e.job ≡ Some number)

-- a call that a job made is one of these jobs'
abbrev pub IsWithin : List Job → Told → Type 0
IsWithin jobs e = (number : ℕ) → e.job ≡ Some number → number < length jobs

-- where two calls were made in one lane, the first is not one of a later job than the second
abbrev pub IsBefore : (ℕ → ℕ) → Told → Told → Type 0
IsBefore lanes a b = (i j : ℕ) → a.job ≡ Some i → b.job ≡ Some j → lanes i ≡ lanes j → i ≤ j

-- no call of a lane's later job stands before one of its earlier job
abbrev pub InTurn : (ℕ → ℕ) → List Told → Type 0
InTurn lanes [] = ⊤
InTurn lanes (e ∷ told) = All (IsBefore lanes e) told × InTurn lanes told

-- the calls of jobs in lanes: each is one of these jobs', each job makes just calls that it may make, and the jobs of a lane come one after the other
pub record AreInLanes {F : Type 0} (codec : Codec F) (lanes : ℕ → ℕ) (jobs : List Job) (told : List Told) : Type 0 where
  pub within : All (IsWithin jobs) told
  pub asked : (number : ℕ) (job : Job) → slice_get jobs number ≡ Some job → AskedFrom codec job (first_stage job) (trace_of number told)
  pub in_turn : InTurn lanes told
