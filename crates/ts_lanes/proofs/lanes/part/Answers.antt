use Rattle.std.proofs.Common.{arith}
use Rattle.ts_lanes.specs.Commands.{CameOut}
use Rattle.ts_lanes.proofs.Passing.{queue_taken, room_taken}
use Rattle.ts_lanes.proofs.lanes.part.Goals as goal

pub returns-clause-ready : goal.returns-clause-ready
returns-clause-ready g c =
    let all = room_taken (CameOut (g.C.Crew.stop_of c.args.crew.now) (g.C.Crew.offers c.args.crew.now) g.C.Crew.task g.C.Crew.follows g.C.Crew.ends) (g.C.Crew.command_count c.args.crew.now) c.args.lane c.args.rooms.now.items c.take_last-room.new.list.items c.take_last-room.result c.requires.ready.many c.requires.ready.empty c.take_last-room.ensures.parts in
    let own = queue_taken (g.C.Crew.waits c.args.crew.now) c.args.lane c.args.queues.now.items c.take_last-queue.new.list.items c.take_last-queue.result c.requires.ready.queued c.take_last-queue.ensures.parts in
    let some = c.requires.some in
    let few = all.0 in
    let many = own.0 in
    let below = c.requires.ready.below in
    record { below = omega arith; may = c.split_off-other.ensures.may; many = omega arith; empty = all.1; queued = record { one_each = omega arith; all = own.1 } }

pub returns-clause-lane : goal.returns-clause-lane
returns-clause-lane g c =
    let all = room_taken (CameOut (g.C.Crew.stop_of c.args.crew.now) (g.C.Crew.offers c.args.crew.now) g.C.Crew.task g.C.Crew.follows g.C.Crew.ends) (g.C.Crew.command_count c.args.crew.now) c.args.lane c.args.rooms.now.items c.take_last-room.new.list.items c.take_last-room.result c.requires.ready.many c.requires.ready.empty c.take_last-room.ensures.parts in
    let own = queue_taken (g.C.Crew.waits c.args.crew.now) c.args.lane c.args.queues.now.items c.take_last-queue.new.list.items c.take_last-queue.result c.requires.ready.queued c.take_last-queue.ensures.parts in
    record { below = c.requires.ready.below; new = c.split_off-other.ensures.new; empty = all.2; holds = all.3; queued = own.2 }
