use Rattle.std.proofs.Common.{◌≡◌, length}
use Rattle.ts_lanes.specs.Lanes.{AreRooms}
use Rattle.ts_lanes.proofs.lanes.rooms_of.Given as goal

-- each lane so far has its room
abbrev pub invariant-loop-lane : goal.invariant-loop-lane
invariant-loop-lane g l = (length l.rooms.items ≡ l.lane) × AreRooms (g.C.Crew.command_count l.crew) l.rooms.items
