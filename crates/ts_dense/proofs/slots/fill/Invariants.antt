-- The slots so far, and those of the coordinates that are left.
use Rattle.ts_order.specs.Orders.{coords_in_order}
use Rattle.ts_piece.specs.Spots.{spotted}
use Rattle.ts_dense.proofs.FillLaws.{Filling}
use Rattle.ts_dense.proofs.slots.fill.Given as goal

abbrev pub invariant-loop-place : goal.invariant-loop-place
invariant-loop-place l = Filling l.fn.slots.items (coords_in_order l.order l.tile) (spotted l.batches l.spots) l.first l.slots.items l.place l.next
