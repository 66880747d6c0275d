-- What the crew did is a run of the lines.
use Rattle.std.proofs.Common.{◌<◌, ◌^◌, List, length, arith, sym, ap, subst}
use Rattle.ts_model.specs.declared.answers.Driven.{Driven}
use Rattle.ts_model.specs.declared.answers.Outcome.{Outcome}
use Rattle.ts_model.specs.declared.commands.Line.{Line}
use Rattle.ts_law.specs.Fresh.{in_lane_order}
use Rattle.ts_law.proofs.LineJobs.{each_line}
use Rattle.ts_script.specs.Script.{AreLimited}
use Rattle.ts_lanes.specs.Lanes.{AreQueues}
use Rattle.ts_top.specs.Items.{lanes_in}
use Rattle.ts_top.specs.Queues.{Waits}
use Rattle.ts_top.specs.Runners.{JustMade, RanLines}
use Rattle.ts_top.proofs.Crewed.{crewed, ends_each, failures_counted}
use Rattle.ts_top.proofs.Queued.{all_queued, few_lanes, in_lanes}
use Rattle.ts_top.proofs.crew.run_lines.Goals as goal

pub run_together-closed-requires-clause-queues : goal.run_together-closed-requires-clause-queues
run_together-closed-requires-clause-queues g c = λ lives within.
    let Q : List Line → Type 0 = λ ls. AreQueues (lanes_in ls) (Waits ls) c.in-Ok.queues.items in
    subst Q (sym c.of.ensures) (all_queued c.args.lines c.in-Ok.queues.items c.requires c.in-Ok.ensures.queues)

pub in_one-requires-clause-room : goal.in_one-requires-clause-room
in_one-requires-clause-room g c =
    let lines = c.of.result.value in
    let same = c.of.ensures in
    let limited : AreLimited lines = subst AreLimited (sym same) c.requires in
    let together = rw c.in-Ok-ends.is at c.run_together-closed.ensures.did in
    let all =
    ends_each (g.C.Clock.gives c.args.clock.now) c.args.seed (lanes_in lines) lines (few_lanes lines limited.fit) (in_lanes lines) g.S.Store.held g.S.Store.last g.S.Store.faults g.S.Store.asked g.S.Store.notes c.args.store c.run_together-closed.result.0.store c.run_together-closed.result.0.journal
    c.in-Ok-ends.ends.items together in
    let count = each_line lines limited.fit in
    let many = ap length same in
    omega (arith, all, count, many, c.in-Ok.ensures.room)

pub returns-in-Ok-ends-clause-ran : goal.returns-in-Ok-ends-clause-ran
returns-in-Ok-ends-clause-ran g c =
    let lines = c.of.result.value in
    let same = c.of.ensures in
    let limited : AreLimited lines = subst AreLimited (sym same) c.requires in
    let gives = g.C.Clock.gives c.args.clock.now in
    let held = g.S.Store.held in
    let made = JustMade held g.S.Store.last g.S.Store.faults g.S.Store.asked g.S.Store.notes in
    let later = c.run_together-closed.result.0.store in
    let journal = c.run_together-closed.result.0.journal in
    let fits : c.args.seed < 2 ^ 64 = omega arith in
    let together = rw c.in-Ok-ends.is at c.run_together-closed.ensures.did in
    let ran = crewed gives c.args.seed (lanes_in lines) lines (few_lanes lines limited.fit) (in_lanes lines) held g.S.Store.last g.S.Store.faults g.S.Store.asked g.S.Store.notes c.args.store later journal c.in-Ok-ends.ends.items together limited fits in
    let R : List (Driven Outcome) → Type 0 = λ rs. RanLines held made gives c.args.seed (in_lane_order lines) c.args.store later journal rs in
    let L : List Line → Type 0 = λ ls. RanLines held made gives c.args.seed (in_lane_order ls) c.args.store later journal c.in_one.result.items in
    subst L same (subst R (sym c.in_one.ensures) (record { jobs = ran.0; of_lines = ran.1; run = ran.2.0 }))

pub returns-in-Ok-ends-clause-counted : goal.returns-in-Ok-ends-clause-counted
returns-in-Ok-ends-clause-counted g c =
    let lines = c.of.result.value in
    let limited : AreLimited lines = subst AreLimited (sym c.of.ensures) c.requires in
    let together = rw c.in-Ok-ends.is at c.run_together-closed.ensures.did in
    failures_counted (g.C.Clock.gives c.args.clock.now) c.args.seed (lanes_in lines) lines (few_lanes lines limited.fit) (in_lanes lines) g.S.Store.held g.S.Store.last g.S.Store.faults g.S.Store.asked g.S.Store.notes c.args.store c.run_together-closed.result.0.store c.run_together-closed.result.0.journal
    c.in-Ok-ends.ends.items together
