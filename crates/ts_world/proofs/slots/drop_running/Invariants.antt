-- The slots before the index are dropped where they ran, and the others are as they were.
use Rattle.std.proofs.Common.{◌≡◌, ◌++◌, map, take, drop}
use Rattle.ts_world.specs.Slots.{dropped_slot}
use Rattle.ts_world.proofs.slots.drop_running.Given as goal

abbrev pub invariant-loop-slot : goal.invariant-loop-slot
invariant-loop-slot g l = l.slots ≡ map dropped_slot (take l.slot-index l.initial.slots) ++ drop l.slot-index l.initial.slots
