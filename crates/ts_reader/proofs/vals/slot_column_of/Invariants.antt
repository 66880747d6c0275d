use Rattle.std.proofs.Common.{◌≡◌, take}
use Rattle.ts_reader.specs.Shown.{slot_vals}
use Rattle.ts_reader.proofs.vals.slot_column_of.Given as goal

-- the values of the slots so far
abbrev pub invariant-loop-slot : goal.invariant-loop-slot
invariant-loop-slot l = l.column ≡ slot_vals l.reading l.schemas (take l.slot-index l.slots) l.attr
