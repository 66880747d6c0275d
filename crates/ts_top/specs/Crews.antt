-- The commands of a script by their lanes, and how they came out in each.
use Rattle.std.specs.Prelude.{◌≡◌, ℕ, ◌-◌, Bool, List, Option, Some, length, slice_get}
use Rattle.std.specs.declared.alloc.Global.{Global}
use Rattle.std.specs.declared.vec.Vec.{Vec}
use Rattle.std.specs.List.{flat_map}
use Rattle.std.specs.Option.{option_map_or}
use Rattle.ts_base.specs.declared.heads.Stop.{Stop}
use Rattle.ts_base.specs.declared.heads.Stop.TheVariants as stop
use Rattle.ts_model.specs.declared.answers.Driven.{Driven}
use Rattle.ts_model.specs.declared.answers.Outcome.{Outcome}
use Rattle.ts_model.specs.declared.commands.Job.{Job}
use Rattle.ts_model.specs.declared.commands.Line.{Line}
use Rattle.ts_law.specs.Fresh.{IsJobOf, Numbered, id_of, lines_in}

-- how many commands a lane has
abbrev pub count_of : List Line → ℕ → ℕ
count_of lines lane = length (lines_in lane 1 lines)

-- the line of a lane's command with a number, from 1 on
abbrev pub item_of : List Line → ℕ → ℕ → Option Numbered
item_of lines lane number = slice_get (lines_in lane 1 lines) (number - 1)

-- where the command of a lane is stopped
abbrev pub stop_of : List Line → ℕ → ℕ → Stop
stop_of lines lane number = option_map_or (λ item. item.line.stop) (item_of lines lane number) stop.Never

-- the job is one of the command of a lane, at a stamp of its line
abbrev pub IsTaskOf : (ℕ → Bool) → ℕ → List Line → ℕ → ℕ → Job → Type 0
IsTaskOf gives seed lines lane number job = (item : Numbered) × (item_of lines lane number ≡ Some item) × IsJobOf gives (id_of seed lane number) item.line job

-- how all commands came out, lane after lane
abbrev pub all_ends : List (Vec (Driven Outcome) Global) → List (Driven Outcome)
all_ends rooms = flat_map (λ room. room.items) rooms
