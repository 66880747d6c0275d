-- The lines of a script in queues, one for each lane.
use Rattle.std.specs.Prelude.{◌≡◌, ℕ, ◌-◌, ◌<◌, ◌^◌, List, Some, nat_eq, length, slice_get, drop, filter, All}
use Rattle.ts_model.specs.declared.commands.Line.{Line}
use Rattle.ts_model.specs.Jobs.{IsFitLine}
use Rattle.ts_law.specs.Fresh.{lines_in}

-- the lines of a lane
abbrev pub of_lane : ℕ → List Line → List Line
of_lane lane lines = filter (λ line. nat_eq line.lane lane) lines

-- of these lines each lane has its own in a queue
pub record AreLaid (lanes : ℕ) (lines : List Line) (queues : List (List Line)) : Type 0 where
  pub count : length queues ≡ lanes
  pub each : (lane : ℕ) (queue : List Line) → slice_get queues lane ≡ Some queue → queue ≡ of_lane lane lines

-- the line can stand in the queue of a lane
abbrev pub IsQueued : ℕ → Line → Type 0
IsQueued lane line = (line.lane ≡ lane) × IsFitLine line

-- the queue of a lane has its lines from the command with this number on
pub record Waits (lines : List Line) (lane number : ℕ) (queue : List Line) : Type 0 where
  pub from : lines_in lane number queue ≡ drop (number - 1) (lines_in lane 1 lines)
  pub own : All (IsQueued lane) queue
  pub few : length queue < 2 ^ 32
