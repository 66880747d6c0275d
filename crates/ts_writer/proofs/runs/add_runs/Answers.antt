use Rattle.std.proofs.Common.{◌≤◌, ◌*◌, length, refl, ◌∙◌, arith}
use Rattle.ts_order.specs.Orders.{coords_in_order}
use Rattle.ts_gather.proofs.PartLaws.{fewer}
use Rattle.ts_writer.specs.Spots.{spot_in}
use Rattle.ts_writer.proofs.SpotLists.{mapped_all}
use Rattle.ts_writer.proofs.SpotRuns.{run_more, run_within, runs_over}
use Rattle.ts_writer.proofs.runs.add_runs.Goals as goal

pub run_in-run-requires-clause-few : goal.run_in-run-requires-clause-few
run_in-run-requires-clause-few c = let less = fewer c.args.layout c.args.sub.now c.args.tile.now c.requires.valid c.requires.within in omega (arith, less, c.requires.few)

pub add_run-requires : goal.add_run-requires
add_run-requires c =
    let run = c.run_in-run in
    let same = c.as_slice-from-items.ensures.value ∙ c.in_ok-starts.ensures in
    let within = run_within c.args.layout c.args.sub.now c.args.tile.now c.requires.valid c.requires.within run.ensures.dims run.result run.ensures.value run.ensures.some c.loop-from.from-index _ _ same c.loop-from-test.true refl in
    omega (arith, within, c.requires.few)

pub loop-from-preserved : goal.loop-from-preserved
loop-from-preserved c =
    let run = c.run_in-run in
    let same = c.as_slice-from-items.ensures.value ∙ c.in_ok-starts.ensures in
    run_more c.args.layout c.args.sub.now c.args.tile.now c.requires.valid c.requires.within run.ensures.dims run.result run.ensures.value run.ensures.some c.loop-from.from-index _ _ same c.loop-from-test.true refl _ c.loop-from.spots.items _ c.loop-from.invariant c.in_ok-add_run.ensures

pub returns : goal.returns
returns c =
    let run = c.run_in-run in
    let l = c.loop-from in
    let same = c.as_slice-from-items.ensures.value ∙ c.in_ok-starts.ensures in
    let over : length (coords_in_order c.args.layout c.args.tile.now) ≤ l.from-index * run.result =
    runs_over c.args.layout c.args.sub.now c.args.tile.now c.requires.valid c.requires.within run.ensures.dims run.result run.ensures.value run.ensures.some l.from-index _ same c.loop-from-test.false in
    mapped_all (spot_in c.args.layout c.args.sub.now) _ l.spots.items (coords_in_order c.args.layout c.args.tile.now) (l.from-index * run.result) over l.invariant
