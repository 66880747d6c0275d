-- The tiles so far.
use Rattle.std.proofs.Common.{◌≡◌, map, take}
use Rattle.ts_order.specs.Orders.{coords_in_order}
use Rattle.ts_dense_read.specs.TileRanges.{tile_of}
use Rattle.ts_dense_read.proofs.tiles.lay_range.Given as goal

abbrev pub invariant-loop-place : goal.invariant-loop-place
invariant-loop-place l = l.tiles ≡ map (tile_of l.frame l.hull l.used) (take l.place (coords_in_order (l.frame).tile l.range))
