-- When the spans of tiles have room in 64 bits, and the tiles of a fragment by their boxes.
use Rattle.std.specs.Prelude.{◌≡◌, ⊤, ℕ, true, if◌then◌else◌, List, [], length, map, get_or}
use Rattle.std.specs.List.{All}
use Rattle.ts_domain.specs.declared.dims.Dim.{Dim}
use Rattle.ts_domain.specs.declared.boxes.SubBox.{SubBox}
use Rattle.ts_domain.specs.Boxes.{IsBox}
use Rattle.ts_domain.specs.Rects.{places_meeting}
use Rattle.ts_wire.specs.Numbers.{FitsInt}
use Rattle.ts_footer.specs.declared.columns.ColumnForm.{ColumnForm}
use Rattle.ts_footer.specs.declared.columns.ColumnForm.TheVariants.{Fixed, Var}
use Rattle.ts_footer.specs.declared.columns.ColumnSize.{ColumnSize}
use Rattle.ts_footer.specs.Columns.{fixed_length}
use Rattle.ts_sparse_read.specs.declared.opened.UsedColumn.{UsedColumn}
use Rattle.ts_sparse_read.specs.declared.opened.WantedTile.{WantedTile}
use Rattle.ts_sparse_read.specs.Used.{cells_at, span_of}
use Rattle.ts_sparse_read.specs.Opens.{no_box, is_box_in}

-- the length is the one that so many cells tell, where each has as many bytes
abbrev pub HasLength : ℕ → ColumnForm → ColumnSize → Type 0
HasLength cells (Fixed width) size = size.length ≡ fixed_length width cells
HasLength cells Var size = ⊤

-- the object has so many cells
abbrev pub HasCells : ℕ → UsedColumn → Type 0
HasCells cells column = HasLength cells column.form column.size

-- it is the box of a tile, with as many sides as there are dimensions, and its bounds have room in 16 bytes
pub record FitsLeaf (dims : List Dim) (box : SubBox) : Type 0 where
  pub valid : IsBox box
  pub count : length box.low ≡ length dims
  pub low : All (FitsInt 16 true) box.low
  pub high : All (FitsInt 16 true) box.high

-- the tile at a place, of those with these boxes
abbrev pub tile_over : ℕ → ℕ → List SubBox → List UsedColumn → ℕ → WantedTile
tile_over n cells leaves used i = record { cells = cells_at n cells i; leaf = get_or leaves i no_box; spans = map (span_of n cells i) used }

-- the tiles whose boxes meet the box, where it is one of the array
abbrev pub tiles_over : List Dim → ℕ → ℕ → List SubBox → List UsedColumn → SubBox → List WantedTile
tiles_over dims n cells leaves used sub = map (tile_over n cells leaves used) (if is_box_in dims sub then places_meeting sub leaves else [])
