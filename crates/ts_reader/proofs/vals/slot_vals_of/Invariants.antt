use Rattle.std.proofs.Common.{◌≡◌, map, take}
use Rattle.ts_reader.specs.Shown.{slot_vals}
use Rattle.ts_reader.proofs.vals.slot_vals_of.Given as goal

-- the columns of the attributes so far
abbrev pub invariant-loop-attr : goal.invariant-loop-attr
invariant-loop-attr l = l.columns.items ≡ map (slot_vals l.reading l.schemas l.slots) (take l.attr-index l.attr-items)
