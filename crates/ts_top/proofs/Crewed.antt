-- What a crew did in lanes is a run of the lines.
use Rattle.std.proofs.Common.{◌≡◌, ℕ, ◌+◌, ◌<◌, ◌≤◌, ◌^◌, Bool, List, Option, length, arith}
use Rattle.std.specs.Prelude.{All}
use Rattle.std.specs.declared.alloc.Global.{Global}
use Rattle.std.specs.declared.vec.Vec.{Vec}
use Rattle.ts_base.specs.Held.{Held}
use Rattle.ts_store.specs.declared.call.Call.{Call}
use Rattle.ts_store.specs.declared.call.Reply.{Reply}
use Rattle.ts_store.specs.declared.fate.Fate.{Fate}
use Rattle.ts_store.specs.declared.journal.Entry.{Entry}
use Rattle.ts_store.specs.Counts.{capped}
use Rattle.ts_store.specs.Journals.{failures}
use Rattle.ts_model.specs.declared.answers.Driven.{Driven}
use Rattle.ts_model.specs.declared.answers.Outcome.{Outcome}
use Rattle.ts_model.specs.declared.commands.Job.{Job}
use Rattle.ts_model.specs.declared.commands.Line.{Line}
use Rattle.ts_law.specs.Fresh.{AreJobsOf, in_lane_order, lanes_of}
use Rattle.ts_law.specs.Lanes.{InTurn}
use Rattle.ts_law.specs.Runs.{IsRun}
use Rattle.ts_law.proofs.LineJobs.{in_order}
use Rattle.ts_actor.proofs.JobRuns.{job_ends}
use Rattle.ts_commands.specs.declared.actors.AnyActor.{AnyActor}
use Rattle.ts_commands.specs.Actors.{job_of, Follows}
use Rattle.ts_commands.proofs.Asked.{asks_it}
use Rattle.ts_lanes.specs.Commands.{CameOut}
use Rattle.ts_lanes.specs.Together.{DidTogether, Numbers}
use Rattle.ts_script.specs.Script.{AreLimited}
use Rattle.ts_top.specs.Crews.{IsTaskOf, all_ends, count_of, stop_of}
use Rattle.ts_top.specs.Runners.{JustMade, RunFetch, run_codec, run_spelled, run_tracks}
use Rattle.ts_top.proofs.RunCodec.{run_laws}
use Rattle.ts_top.proofs.LaneRows.{index, numbers}
use Rattle.ts_top.proofs.CrewRuns.{ends_each as each_end, lanes_run}

module _ {S W : Type 0} (gives : ℕ → Bool) (seed lanes : ℕ) (lines : List Line) (few : lanes ≤ 8) (within : All (λ line. line.lane < lanes) lines)
    (held : S → Option Held) (last : S → Fate) (faults asked : S → ℕ) (notes : S → Call → Reply → S → Type 0) (store later : S) (journal : List Entry) (rooms : List (Vec (Driven Outcome) Global))
    (together : (index : ℕ → ℕ → ℕ) (lane_of : ℕ → ℕ) → Numbers lanes (count_of lines) index lane_of
    → DidTogether (CameOut {A = AnyActor W RunFetch} (stop_of lines) (IsTaskOf gives seed lines) job_of (Follows run_codec) (job_ends run_codec)) lanes (count_of lines) index lane_of held last faults asked notes store later journal rooms) where
  -- the commands were done together, numbered in lane order
  did : DidTogether (CameOut {A = AnyActor W RunFetch} (stop_of lines) (IsTaskOf gives seed lines) job_of (Follows run_codec) (job_ends run_codec)) lanes (count_of lines) (index lines) (lanes_of (in_lane_order lines)) held last faults asked notes store later journal rooms
  did = together (index lines) (lanes_of (in_lane_order lines)) (numbers lanes lines few within)

  -- each line has its end
  pub ends_each : length (all_ends rooms) ≡ length (in_lane_order lines)
  ends_each = each_end {A = AnyActor W RunFetch} run_codec job_of (Follows run_codec) (asks_it run_codec) gives seed lanes lines few within held last faults asked notes store later journal rooms did

  -- the store counted the calls of the journal that failed
  pub failures_counted : capped (faults store + failures journal) ≤ faults later
  failures_counted = did.rose

  -- the commands are a run of jobs of the lines, in which those of a lane come one after the other
  pub crewed : AreLimited lines → seed < 2 ^ 64 → (jobs : List Job) × AreJobsOf gives seed (in_lane_order lines) jobs
      × ((run : IsRun run_codec run_spelled held (JustMade held last faults asked notes) seed (lanes_of (in_lane_order lines)) jobs store later journal (all_ends rooms)) × InTurn (lanes_of (in_lane_order lines)) run.told)
  crewed limited fits =
      lanes_run {A = AnyActor W RunFetch} run_codec job_of (Follows run_codec) (asks_it run_codec) gives seed lanes lines few within held last faults asked notes store later journal rooms did run_spelled run_tracks run_laws
      (in_order lines (let many = limited.few in omega (arith, many)) limited.fit) fits
