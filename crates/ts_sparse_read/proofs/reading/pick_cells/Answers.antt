-- What is broken first among the cells is told; else what is wanted of them is taken.
use Rattle.std.proofs.Common.{rules, ◌≡◌, ℕ, [], Option, Err, None, subst}
use Rattle.std.specs.declared.alloc.Global.{Global}
use Rattle.std.specs.declared.vec.Vec.{Vec}
use Rattle.ts_sparse_read.specs.declared.sifted.Spot.{Spot}
use Rattle.ts_sparse_read.specs.TileReads.{order_fault}
use Rattle.ts_sparse_read.specs.Reads.{TellsFault}
use Rattle.ts_sparse_read.specs.Sifts.{bare_if, cells_in, picked}
use Rattle.ts_sparse_read.proofs.PickStepLaws.{are_columns, picks_done, picks_fault}
use Rattle.ts_sparse_read.proofs.reading.pick_cells.Goals as goal

pub move_to_last-requires : goal.move_to_last-requires
move_to_last-requires c = are_columns c.args.opened.now.frame c.args.columns.now c.requires.sound

pub returns-in_err-check_order-clause-picks : goal.returns-in_err-check_order-clause-picks
returns-in_err-check_order-clause-picks c =
    let o = c.args.opened.now in
    let columns = c.args.columns.now in
    let is : c.from_residual.result ≡ Err c.in_err-check_order.field-0.0 = search rules in
    let faults = λ (l : Option Spot). TellsFault {A = Unit {0}} (order_fault o.frame o.head.consolidated c.args.ranges.now 0 (bare_if l) (cells_in columns)) (Err c.in_err-check_order.field-0.0) in
    let told = subst faults c.as_ref.ensures.value c.in_err-check_order.ensures in
    rw is (picks_fault o columns c.args.ranges.now {A = Vec ℕ Global} (Unit {0}) (λ places. picked o columns places.items c.args.last.now) (picked o columns [] c.args.last.now) c.in_err-check_order.field-0.0 told)

pub returns-clause-picks : goal.returns-clause-picks
returns-clause-picks c =
    let o = c.args.opened.now in
    let columns = c.args.columns.now in
    let clear : order_fault o.frame o.head.consolidated c.args.ranges.now 0 (bare_if c.args.last.now) (cells_in columns) ≡ None = search rules in
    picks_done o columns c.args.ranges.now c.in_ok-places.places.items c.args.last.now c.move_to_last.new.last clear c.in_ok-places.ensures.versions c.move_to_last.ensures
