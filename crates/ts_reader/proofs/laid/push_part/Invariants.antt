-- The values so far.
use Rattle.std.proofs.Common.{◌≡◌, ◌++◌, drop, take}
use Rattle.ts_reader.specs.Shown.{version_vals}
use Rattle.ts_reader.proofs.laid.push_part.Given as goal

abbrev pub invariant-loop-step : goal.invariant-loop-step
invariant-loop-step l = l.column ≡ l.initial.column ++ version_vals l.reading l.schemas (take l.step (drop l.from l.batch)) l.attr
