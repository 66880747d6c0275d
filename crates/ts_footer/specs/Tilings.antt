-- How the cells of a fragment lie in tiles, and what its metadata says for that.
use Rattle.std.specs.Prelude.{ℕ, Bool, true, if◌then◌else◌, List, [], Option, Some, None}
use Rattle.ts_domain.specs.declared.dims.Dim.{Dim}
use Rattle.ts_domain.specs.declared.boxes.SubBox.{SubBox}
use Rattle.ts_domain.specs.Boxes.{cells_of}
use Rattle.ts_order.specs.Tiles.{tile_box}
use Rattle.ts_wire.specs.Place.{Place, Read, given, mapped}
use Rattle.ts_schema.specs.declared.attrs.Attr.{Attr}
use Rattle.ts_schema.specs.declared.frames.Frame.{Frame}
use Rattle.ts_rtree.specs.Trees.{Rooted}
use Rattle.ts_plain.specs.declared.stored.StoredHead.{StoredHead}
use Rattle.ts_plain.specs.Rules.{is_full}
use Rattle.ts_plain.specs.Writes.{box_of}
use Rattle.ts_footer.specs.declared.columns.ColumnForm.{ColumnForm}
use Rattle.ts_footer.specs.declared.tilings.Tiling.{Tiling}
use Rattle.ts_footer.specs.declared.tilings.Tiling.TheVariants.{Sparse, Dense}
use Rattle.ts_footer.specs.Columns.{tiles_for, column_forms}
use Rattle.ts_footer.specs.TreeTexts.{tree_at}

-- how the fragments of an array lie in tiles: those of a dense one in space tiles
abbrev pub tiling_of : Frame → Tiling
tiling_of frame = if frame.dense then Dense else Sparse

-- whether a fragment has each cell of its hull: in space tiles each fragment has
abbrev pub full_in : Tiling → Bool → Bool → Bool
full_in Sparse dense consolidated = is_full dense consolidated
full_in Dense dense consolidated = true

-- the dimensions whose coordinates are stored
abbrev pub stored_dims : Tiling → List Dim → List Dim
stored_dims Sparse dims = dims
stored_dims Dense dims = []

-- the objects of a fragment, in their order
abbrev pub forms_in : Tiling → Frame → List Attr → Bool → List ColumnForm
forms_in tiling frame attrs consolidated = column_forms (stored_dims tiling frame.domain) attrs consolidated

-- the number of tiles: as many as the cells fill, or the space tiles that meet the hull
abbrev pub tile_total : Tiling → Frame → StoredHead → ℕ
tile_total Sparse frame head = tiles_for frame.capacity head.cells
tile_total Dense frame head = cells_of (tile_box frame.domain (box_of head.hull))

-- the tree over the tiles, which there is where coordinates are stored
abbrev pub tree_in : Tiling → SubBox → ℕ → Place → Read (Option Rooted)
tree_in Sparse hull tiles = mapped Some (tree_at hull tiles)
tree_in Dense hull tiles = given None
