-- The slots of a dense fragment: one for each cell of its hull, space tile by space tile, with the cell that the fragment has there, or a hole.
use Rattle.std.specs.Prelude.{ℕ, ℤ, Bool, not, nat_eq, if◌then◌else◌, List, [], ◌∷◌, map, filter, take, drop}
use Rattle.std.specs.List.{flat_map}
use Rattle.ts_base.specs.declared.heads.Version.{Version}
use Rattle.ts_base.specs.Coords.{coords_eq}
use Rattle.ts_domain.specs.declared.boxes.SubBox.{SubBox}
use Rattle.ts_domain.specs.Boxes.{cells_of}
use Rattle.ts_order.specs.Orders.{coords_in_order}
use Rattle.ts_order.specs.Tiles.{tiles_in}
use Rattle.ts_schema.specs.declared.frames.Frame.{Frame}
use Rattle.ts_plain.specs.declared.stored.StoredHead.{StoredHead}
use Rattle.ts_plain.specs.declared.stored.StoredCell.{StoredCell}
use Rattle.ts_plain.specs.declared.stored.StoredPiece.{StoredPiece}
use Rattle.ts_plain.specs.Pieces.{version_in}
use Rattle.ts_plain.specs.Writes.{box_of}

-- ---- the cells of a hull

-- the space tiles that meet a hull, each cut to it, in tile order
abbrev pub tiles_over : Frame → SubBox → List SubBox
tiles_over frame hull = tiles_in frame.domain frame.tile hull

-- how many cells of the hull each of them has
abbrev pub counts_over : Frame → SubBox → List ℕ
counts_over frame hull = map cells_of (tiles_over frame hull)

-- the cells of a hull, space tile by space tile, those of each tile in cell order: this is global order
unfoldable pub coords_over : Frame → SubBox → List (List ℤ)
coords_over frame hull = flat_map (coords_in_order frame.cell) (tiles_over frame hull)

-- a list in tiles of these sizes
abbrev pub tiles_by : {X : Type 0} → List ℕ → List X → List (List X)
tiles_by [] xs = []
tiles_by (n ∷ counts) xs = take n xs ∷ tiles_by counts (drop n xs)

-- ---- slots

-- what stands for the origin of a cell that the fragment does not have
abbrev pub no_origin : ℕ
no_origin = 4294967295

-- a slot without a cell
abbrev pub hole : List ℤ → StoredCell
hole coords = record { coords = coords; origin = no_origin; row = [] }

-- whether a slot has no cell
abbrev pub is_hole : StoredCell → Bool
is_hole slot = nat_eq slot.origin no_origin

-- the slots at these coordinates, with these cells, which stand in the same order
abbrev pub slots_from : List (List ℤ) → List StoredCell → List StoredCell
slots_from [] cells = []
slots_from (at ∷ coords) [] = hole at ∷ slots_from coords []
slots_from (at ∷ coords) (c ∷ cells) = if coords_eq c.coords at then c ∷ slots_from coords cells else hole at ∷ slots_from coords (c ∷ cells)

-- the slots of what is stored of a fragment
unfoldable pub slots_of : Frame → StoredPiece → List StoredCell
slots_of frame stored = slots_from (coords_over frame (box_of stored.head.hull)) stored.cells

-- the slots of each space tile
abbrev pub slot_tiles : Frame → StoredPiece → List (List StoredCell)
slot_tiles frame stored = tiles_by (counts_over frame (box_of stored.head.hull)) (slots_of frame stored)

-- the cells that slots have
abbrev pub cells_in : List StoredCell → List StoredCell
cells_in slots = filter (λ (slot : StoredCell). not (is_hole slot)) slots

-- the versions that slots hold
abbrev pub versions_of : StoredHead → List StoredCell → List Version
versions_of head slots = map (version_in head) (cells_in slots)
