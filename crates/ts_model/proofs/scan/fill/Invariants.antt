use Rattle.ts_domain.specs.declared.orders.Order.TheVariants.{Row}
use Rattle.ts_order.specs.Orders.{coords_in_order}
use Rattle.ts_model.specs.Scans.{cells_in, AreShown, left_by, shown_by}
use Rattle.ts_model.proofs.Filled.{IsFilled}
use Rattle.ts_model.proofs.scan.fill.Given as goal

-- the coordinates of the box so far have their rows
abbrev pub invariant-loop-place : goal.invariant-loop-place
invariant-loop-place l = AreShown (left_by l.scan) (cells_in l.fn.cells) → IsFilled (left_by l.scan) (shown_by l.scan) (coords_in_order Row l.scan.ready.now.sub) l.place (cells_in l.cells)
