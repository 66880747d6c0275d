-- The lanes up to one are done: those below it, and the one.
use Rattle.std.proofs.Common.{List, ◌∙◌, arith, sym, ap, subst}
use Rattle.std.specs.declared.alloc.Global.{Global}
use Rattle.std.specs.declared.vec.Vec.{Vec}
use Rattle.ts_model.specs.declared.answers.Driven.{Driven}
use Rattle.ts_model.specs.declared.answers.Outcome.{Outcome}
use Rattle.ts_turnstile.specs.Passes.{pass_view}
use Rattle.ts_turnstile.specs.Rule.{Claim}
use Rattle.ts_lanes.specs.Commands.{CameOut}
use Rattle.ts_lanes.specs.Lanes.{DidDown}
use Rattle.ts_lanes.proofs.Passing.{did_joined}
use Rattle.ts_lanes.proofs.lanes.+fn-run_down-join+arg2+run_down.Goals as goal

pub returns-clause-did : goal.returns-clause-did
returns-clause-did g t c =
    let came = CameOut (g.C.Crew.stop_of c.args.crew.now) (g.C.Crew.offers c.args.crew.now) g.C.Crew.task g.C.Crew.follows g.C.Crew.ends in
    let count = g.C.Crew.command_count c.args.crew.now in
    let down = c.join-first.ensures.first in
    let last = c.join-first.ensures.second in
    subst (λ (rs : List (Vec (Driven Outcome) Global)). DidDown came count c.args.top c.args.lane rs (pass_view c.join.new.pass)) (sym c.push_reserved.ensures.items)
    (did_joined came count c.args.top c.args.lane (pass_view c.join-first.result.0.0) (pass_view c.join-first.result.1.0) (pass_view c.join.new.pass) c.join-first.result.0.1.items c.join-first.result.1.1
    (let some = c.if-lane-eq0.false in omega arith) c.join-first.result.0.0.idle.2 (ap (λ (k : Claim). k.lanes) last.1.0 ∙ c.part-other.ensures.lane.new.lanes) down.1.0 last.1.1 c.join.ensures.joined c.join.ensures.seen c.join.ensures.heard)
