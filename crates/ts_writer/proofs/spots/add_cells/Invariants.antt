-- The spots of the cells so far.
use Rattle.std.proofs.Common.{◌≡◌, ◌++◌, map, take}
use Rattle.ts_order.specs.Orders.{coords_in_order}
use Rattle.ts_writer.specs.Spots.{spot_in}
use Rattle.ts_writer.proofs.spots.add_cells.Given as goal

abbrev pub invariant-loop-place : goal.invariant-loop-place
invariant-loop-place l = l.spots.items ≡ l.initial.spots.items ++ map (spot_in l.layout l.sub) (take l.place (coords_in_order l.cell l.tile))
