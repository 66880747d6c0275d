-- Cells as they are compared: by the numbers of their space tiles, then by their coordinates, then by their places in a list.
use Rattle.std.specs.Prelude.{ℕ, ℤ, pos, List, [], ◌∷◌, map, length}
use Rattle.std.specs.List.{range_with_len}
use Rattle.std.specs.declared.cmp.Ordering.{Ordering}
use Rattle.ts_base.specs.declared.heads.Version.{Version}
use Rattle.ts_domain.specs.declared.dims.Dim.{Dim}
use Rattle.ts_order.specs.Orders.{turned, tile_numbers}
use Rattle.ts_table.specs.declared.order.CellOrder.{CellOrder}
use Rattle.ts_table.specs.declared.order.CellOrder.TheVariants.{Plain, Global}
use Rattle.ts_table.specs.declared.spots.Spot.{Spot}
use Rattle.ts_table.specs.contracts.spots.SpotOrd.TheImpl as spot_order
use Rattle.ts_table.specs.Tables.{version_or}

-- the spot of coordinates, where a version of a list has them at a place
abbrev pub spot_of : List Dim → CellOrder → List ℤ → ℕ → Spot
spot_of dims (Plain order) at place = record { tile = pos 0 ∷ []; cell = turned order at; place = place }
spot_of dims (Global tile cell) at place = record { tile = turned tile (tile_numbers dims at); cell = turned cell at; place = place }

-- the spot of the version at a place
abbrev pub spot_at : List Dim → CellOrder → List Version → ℕ → Spot
spot_at dims order versions place = spot_of dims order (version_or versions place).coords place

-- the spots of all versions, as they stand
abbrev pub spots_of : List Dim → CellOrder → List Version → List Spot
spots_of dims order versions = map (spot_at dims order versions) (range_with_len 0 (length versions))

-- spots are compared by their fields in turn
abbrev pub spot_cmp : Spot → Spot → Ordering
spot_cmp = (spot_order.ghosts).cmp
