-- One more command is done.
use Rattle.std.proofs.Common.{◌≡◌, ◌+◌, List, [], ◌∷◌, length, length-append, ◌∙◌, arith, ap, sym, subst}
use Rattle.ts_model.specs.declared.answers.Driven.{Driven}
use Rattle.ts_model.specs.declared.answers.Outcome.{Outcome}
use Rattle.ts_turnstile.specs.Passes.{pass_view}
use Rattle.ts_turnstile.specs.Turns.{turns_by}
use Rattle.ts_lanes.specs.Commands.{CameOut, Did, DidCommand}
use Rattle.ts_lanes.proofs.OwnTurns.{did_next}
use Rattle.ts_lanes.proofs.lane.run_lane.Goals as goal

pub loop-before-preserved : goal.loop-before-preserved
loop-before-preserved g c =
    let came = CameOut (g.C.Crew.stop_of c.args.crew.now) (g.C.Crew.offers c.args.crew.now) g.C.Crew.task g.C.Crew.follows g.C.Crew.ends in
    let i = c.loop-before.invariant in
    let counted = i.3 in
    let room = i.4 in
    let old : List (Driven Outcome) = c.loop-before.ends.items in
    let items = c.push_reserved.ensures.items in
    let before = turns_by c.args.lane (pass_view c.loop-before.pass).seen in
    let after = turns_by c.args.lane (pass_view c.do_command-end.new.pass).seen in
    let place : c.loop-before.before + 1 ≡ length old + 1 = omega arith in
    let longer : length c.push_reserved.new.self.items ≡ length old + 1 = ap length items ∙ length-append old (c.do_command-end.result ∷ []) in (
      c.do_command-end.ensures.own,
      c.do_command-end.ensures.same ∙ i.1,
      c.do_command-end.ensures.lane,
      omega arith,
      (let same = c.push_reserved.ensures.capacity in omega arith),
      subst (λ (rs : List (Driven Outcome)). Did came c.args.lane 1 rs after) (sym items)
          (did_next came c.args.lane 1 old before after c.do_command-end.result i.5 (subst (λ n. DidCommand came c.args.lane n before after c.do_command-end.result) place c.do_command-end.ensures.did)),
      c.do_command-end.ensures.waits,
    )
