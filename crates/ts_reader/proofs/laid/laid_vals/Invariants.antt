-- The columns of the attributes so far.
use Rattle.std.proofs.Common.{◌≡◌, map, take}
use Rattle.ts_reader.specs.Laid.{laid}
use Rattle.ts_reader.specs.Shown.{slot_vals}
use Rattle.ts_reader.proofs.laid.laid_vals.Given as goal

abbrev pub invariant-loop-attr : goal.invariant-loop-attr
invariant-loop-attr l = l.columns.items ≡ map (slot_vals l.reading l.schemas (laid l.batches 0 l.strips l.cells)) (take l.attr-index l.attr-items)
