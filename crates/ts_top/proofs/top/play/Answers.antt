-- The commands were done, and how they came out was printed.
use Rattle.std.proofs.Common.{◌<◌, ◌^◌, ◌∙◌, List, ap, sym, subst, arith}
use Rattle.ts_model.specs.declared.answers.Driven.{Driven}
use Rattle.ts_model.specs.declared.answers.Outcome.{Outcome}
use Rattle.ts_law.specs.Fresh.{Numbered, in_lane_order}
use Rattle.ts_top.specs.declared.item.Item.{Item}
use Rattle.ts_top.specs.declared.top.Ran.{Ran}
use Rattle.ts_top.specs.Reports.{report_text, status_printed}
use Rattle.ts_top.specs.Items.{numbered}
use Rattle.ts_top.specs.Runners.{JustMade}
use Rattle.ts_top.specs.Seen.{Seen, Stream, stream, Plays, PrintsEnds, ended}
use Rattle.ts_top.proofs.LinesRan.{performed}
use Rattle.ts_top.proofs.top.play.Goals as goal

pub returns-clause-plays : goal.returns-clause-plays
returns-clause-plays g c = λ words input.
    let lines = c.args.lines in
    let items : List Numbered = in_lane_order lines in
    let results = c.in-Ok-results.results.items in
    let held = g.S.Store.held in
    let made = JustMade held g.S.Store.last g.S.Store.faults g.S.Store.asked g.S.Store.notes in
    let closed = c.run_lines-closed.result.0 in
    let out : Stream = stream g.O.Sink.contents g.O.Sink.faults c.args.out.now c.print_all-status.new.out in
    let status = c.print_all-status.result in
    let seen : Seen g.row.S.Denot = record { words = words; seed = c.args.seed; gives = g.C.Clock.gives c.args.clock.now; input = input; out = out; store = c.args.store; later = closed.store; status = status; journal = closed.journal } in
    let fits : c.args.seed < 2 ^ 64 = omega arith in
    let ran = rw c.in-Ok-results.is at c.run_lines-closed.ensures.ran in
    let P : List (Driven Outcome) → Type 0 = λ rs. PrintsEnds out (report_text c.args.report items rs) (status_printed c.args.report rs) status in
    let T : List Item → Type 0 = λ xs. PrintsEnds out (report_text c.args.report (numbered xs) c.as_slice-3.result.now) (status_printed c.args.report c.as_slice-3.result.now) status in
    let U : List Numbered → Type 0 = λ xs. PrintsEnds out (report_text c.args.report xs c.as_slice-3.result.now) (status_printed c.args.report c.as_slice-3.result.now) status in
    let prints = subst P c.as_slice-3.ensures.value (subst U (c.in-Ok.ensures ∙ ap in_lane_order c.as_slice.ensures) (subst T c.as_slice-2.ensures.value c.print_all-status.ensures)) in
    let L : Ran g.row.S.Denot → Type 0 = λ left.
    Plays held made (record { words = words; seed = c.args.seed; gives = g.C.Clock.gives c.args.clock.now; input = input; out = out; store = c.args.store; later = left.store; status = left.status; journal = left.journal }) c.args.report lines in
    subst L (sym c.left_by-2.ensures) (ended results (performed held made seen lines results c.requires fits ran) prints)
