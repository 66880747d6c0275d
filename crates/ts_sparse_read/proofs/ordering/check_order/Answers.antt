-- One cell more, and what is broken at a cell is what is broken first.
use Rattle.std.proofs.Common.{rules, ◌≡◌, Err}
use Rattle.std.specs.Option.{option_copied}
use Rattle.ts_sparse_read.specs.Sifts.{bare_if}
use Rattle.ts_sparse_read.proofs.NearLaws.{tile_shared}
use Rattle.ts_sparse_read.proofs.PickStepLaws.{order_more, order_stop}
use Rattle.ts_sparse_read.proofs.ordering.check_order.Goals as goal

pub check_next-requires-clause-shared : goal.check_next-requires-clause-shared
check_next-requires-clause-shared c shared = tile_shared c.args.frame.now c.args.leaf.now c.args.columns.now c.requires.sound c.requires.within (c.is_one_tile-shared.ensures shared)

pub loop-place-preserved : goal.loop-place-preserved
loop-place-preserved c =
    order_more c.args.frame.now c.args.consolidated c.args.ranges.now (bare_if (option_copied c.args.last)) c.args.columns.now c.loop-place.place c.loop-place.invariant c.requires.sound c.loop-place-test.true c.in_ok-check_next.ensures

pub returns-in_err-check_next : goal.returns-in_err-check_next
returns-in_err-check_next c =
    let is : c.from_residual.result ≡ Err c.in_err-check_next.field-0.0 = search rules in
    rw is (order_stop c.args.frame.now c.args.consolidated c.args.ranges.now (Unit {0}) (Unit {0}) (bare_if (option_copied c.args.last)) c.args.columns.now c.loop-place.place c.in_err-check_next.field-0.0 c.loop-place.invariant c.requires.sound c.loop-place-test.true c.in_err-check_next.ensures)
