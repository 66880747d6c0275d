use Rattle.std.proofs.Common.{List, [], ◌∷◌, ◌++◌, sym, subst}
use Rattle.std.specs.declared.alloc.Global.{Global}
use Rattle.std.specs.declared.vec.Vec.{Vec}
use Rattle.ts_model.specs.declared.answers.Driven.{Driven}
use Rattle.ts_model.specs.declared.answers.Outcome.{Outcome}
use Rattle.ts_turnstile.specs.Passes.{pass_view}
use Rattle.ts_lanes.specs.Commands.{CameOut}
use Rattle.ts_lanes.specs.Lanes.{DidDown}
use Rattle.ts_lanes.proofs.Passing.{did_first, first_new, queue_taken, room_taken, no_rooms}
use Rattle.ts_lanes.proofs.lanes.run_first.Goals as goal

pub run_lane-pass-requires-clause-ready : goal.run_lane-pass-requires-clause-ready
run_lane-pass-requires-clause-ready g c κs within =
    let all = room_taken (CameOut (g.C.Crew.stop_of c.args.crew.now) (g.C.Crew.offers c.args.crew.now) g.C.Crew.task g.C.Crew.follows g.C.Crew.ends) (g.C.Crew.command_count c.args.crew.now) 0 c.args.rooms.items c.take_last-room.new.list.items c.take_last-room.result c.requires.ready.many c.requires.ready.empty c.take_last-room.ensures.parts in
    let own = queue_taken (g.C.Crew.waits c.args.crew.now) 0 c.args.queues.items c.take_last-queue.new.list.items c.take_last-queue.result c.requires.ready.queued c.take_last-queue.ensures.parts in
    record { below = c.requires.ready.below; new = first_new c.args.top (pass_view c.args.pass) c.args.pass.idle.2 c.requires.ready.may; empty = all.2; holds = all.3; queued = own.2 }

pub returns-clause-did : goal.returns-clause-did
returns-clause-did g c =
    let came = (CameOut (g.C.Crew.stop_of c.args.crew.now) (g.C.Crew.offers c.args.crew.now) g.C.Crew.task g.C.Crew.follows g.C.Crew.ends) in
    let count = g.C.Crew.command_count c.args.crew.now in
    let all = room_taken came count 0 c.args.rooms.items c.take_last-room.new.list.items c.take_last-room.result c.requires.ready.many c.requires.ready.empty c.take_last-room.ensures.parts in
    subst (λ (rs : List (Vec (Driven Outcome) Global)). DidDown came count c.args.top 0 rs (pass_view c.run_lane-pass.result.0)) (sym c.push_reserved.ensures.items)
    (subst (λ (rs : List (Vec (Driven Outcome) Global)). DidDown came count c.args.top 0 (rs ++ c.run_lane-pass.result.1 ∷ []) (pass_view c.run_lane-pass.result.0)) (sym (no_rooms c.take_last-room.new.list.items all.0))
    (did_first came count c.args.top (pass_view c.args.pass) (pass_view c.run_lane-pass.result.0) c.run_lane-pass.result.1 c.requires.ready.may c.run_lane-pass.ensures.same c.run_lane-pass.ensures.did))
