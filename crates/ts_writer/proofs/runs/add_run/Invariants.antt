-- The spots so far.
use Rattle.std.proofs.Common.{◌≡◌, ◌++◌}
use Rattle.ts_writer.specs.Spots.{spots_from}
use Rattle.ts_writer.proofs.runs.add_run.Given as goal

abbrev pub invariant-loop-step : goal.invariant-loop-step
invariant-loop-step l = l.spots.items ≡ l.initial.spots.items ++ spots_from l.from l.step
