use Rattle.std.proofs.Common.{◌≡◌, map, take}
use Rattle.ts_reader.specs.Left.{slot_left}
use Rattle.ts_reader.proofs.left.unerased_slots.Given as goal

-- what is left in the slots so far
abbrev pub invariant-loop-slot : goal.invariant-loop-slot
invariant-loop-slot l = l.left ≡ map (slot_left l.reading l.schemas) (take l.slot-index l.slots)
