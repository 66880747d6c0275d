-- The places of cells in global order, and in the other layouts.
use Rattle.std.specs.Prelude.{ℤ, pos, List, [], ◌∷◌}
use Rattle.std.specs.declared.cmp.Ordering.{Ordering}
use Rattle.ts_domain.specs.declared.orders.Layout.{Layout}
use Rattle.ts_domain.specs.declared.orders.Layout.TheVariants as layout
use Rattle.ts_domain.specs.declared.orders.Order.{Order}
use Rattle.ts_domain.specs.declared.orders.Order.TheVariants as order
use Rattle.ts_order.specs.Orders.{turned, tile_numbers}
use Rattle.ts_schema.specs.declared.frames.Frame.{Frame}
use Rattle.ts_model.specs.declared.places.GlobalPlace.{GlobalPlace}
use Rattle.ts_model.specs.contracts.places.GlobalPlaceOrd.TheImpl as place_order

-- the place of coordinates in global order
abbrev pub place_of : Frame → List ℤ → GlobalPlace
place_of frame at = record { tile = turned frame.tile (tile_numbers frame.domain at); cell = turned frame.cell at }

-- the place of coordinates in row or column order, where all cells lie in one tile
abbrev pub plain_place : Order → List ℤ → GlobalPlace
plain_place order at = record { tile = pos 0 ∷ []; cell = turned order at }

-- the place of coordinates in a layout
abbrev pub place_in : Frame → Layout → List ℤ → GlobalPlace
place_in frame layout.Row at = plain_place order.Row at
place_in frame layout.Col at = plain_place order.Col at
place_in frame layout.Global at = place_of frame at

-- places are compared by their tiles, then by their cells
abbrev pub place_cmp : GlobalPlace → GlobalPlace → Ordering
place_cmp = (place_order.ghosts).cmp
