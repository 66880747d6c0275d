-- The spots of the cells of a box in global order, where the versions of all its cells are the first batch.
use Rattle.std.specs.Prelude.{ℕ, ◌+◌, ℤ, List, map}
use Rattle.std.specs.List.{flat_map, range_with_len}
use Rattle.ts_domain.specs.declared.boxes.SubBox.{SubBox}
use Rattle.ts_domain.specs.declared.orders.Order.{Order}
use Rattle.ts_order.specs.Orders.{coords_in_order}
use Rattle.ts_order.specs.Tiles.{tiles_in}
use Rattle.ts_gather.specs.Parts.{place_in}
use Rattle.ts_piece.specs.declared.spots.Spot.{Spot}
use Rattle.ts_piece.specs.Spots.{in_first}
use Rattle.ts_schema.specs.declared.frames.Frame.{Frame}

-- the spot of a cell of a box, whose versions stand in the order of a layout
abbrev pub spot_in : Order → SubBox → List ℤ → Spot
spot_in layout sub coords = in_first (place_in layout sub coords)

-- the spots of the cells of a part of the box, these in row or column order
abbrev pub spots_in : Order → SubBox → Order → SubBox → List Spot
spots_in layout sub cell part = map (spot_in layout sub) (coords_in_order cell part)

-- the spots of all cells of the box, space tile by space tile, those of each tile in cell order; `box_versions` of proofs/BoxSpots.antt shows that this is global order
abbrev pub spots_over : Frame → Order → SubBox → List Spot
spots_over frame layout sub = flat_map (spots_in layout sub frame.cell) (tiles_in frame.domain frame.tile sub)

-- the spots at so many places of the first batch, from a place on
abbrev pub spots_from : ℕ → ℕ → List Spot
spots_from from run = map (λ step. in_first (from + step)) (range_with_len 0 run)
