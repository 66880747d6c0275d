use Rattle.std.proofs.Common.{◌≡◌, drop}
use Rattle.std.specs.Ordering.{int_cmp}
use Rattle.std.specs.Cmp.Lexicographic.{slice_cmp}
use Rattle.ts_order.specs.Orders.{turned, order_cmp, tile_numbers}
use Rattle.ts_order.proofs.compare.cmp_tiles.Given as goal

abbrev pub invariant-loop-rank : goal.invariant-loop-rank
invariant-loop-rank l =
    slice_cmp int_cmp (drop l.rank (turned l.tile (tile_numbers l.dims l.a))) (drop l.rank (turned l.tile (tile_numbers l.dims l.b)))
    ≡ order_cmp l.tile (tile_numbers l.dims l.a) (tile_numbers l.dims l.b)
