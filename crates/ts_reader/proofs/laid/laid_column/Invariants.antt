-- The values so far, and behind them those of the strips that are left.
use Rattle.std.proofs.Common.{◌≡◌, ◌++◌, drop}
use Rattle.ts_strip.specs.Strips.{Climb}
use Rattle.ts_reader.specs.Laid.{laid}
use Rattle.ts_reader.specs.Shown.{slot_vals}
use Rattle.ts_reader.proofs.laid.laid_column.Given as goal

abbrev pub invariant-loop-strip : goal.invariant-loop-strip
invariant-loop-strip l =
    Climb l.at (drop l.strip-index l.strips) l.cells
    × (l.column ++ slot_vals l.reading l.schemas (laid l.batches l.at (drop l.strip-index l.strips) l.cells) l.attr ≡ slot_vals l.reading l.schemas (laid l.batches 0 l.strips l.cells) l.attr)
