-- The cells that a read shows, in columns.
use Rattle.std.specs.Prelude.{◌≡◌, ℕ, ◌<◌, ◌≤◌, ℤ, pos, List, [], Option, length, All, slice_index_or, map as list_map}
use Rattle.std.specs.List.{range_with_len}
use Rattle.std.specs.Option.{option_map_or}
use Rattle.ts_base.specs.declared.heads.Version.{Version}
use Rattle.ts_base.specs.declared.values.Val.{Val}
use Rattle.ts_base.specs.declared.values.Val.TheVariants.{Null}
use Rattle.ts_schema.specs.declared.attrs.Attr.{Attr}
use Rattle.ts_schema.specs.declared.schemas.Schema.{Schema}
use Rattle.ts_schema.specs.Attrs.{shown_val}
use Rattle.ts_model.specs.declared.states.Reading.{Reading}
use Rattle.ts_model.specs.Pieces.{newest_of}
use Rattle.ts_model.specs.States.{attrs_got}
use Rattle.ts_reader.specs.Left.{slot_left}
use Rattle.ts_reader.specs.Newest.{slots_in}

-- what a version shows of an attribute of the schema that holds
abbrev pub version_val : Reading → List Schema → Attr → Version → Val
version_val r schemas a v = shown_val (attrs_got r schemas v.schema) v.row a

-- what versions show of it
abbrev pub version_vals : Reading → List Schema → List Version → Attr → List Val
version_vals r schemas vs a = list_map (version_val r schemas a) vs

-- what the version in a slot shows of it, and its fill where there is none
abbrev pub slot_val : Reading → List Schema → Attr → Option Version → Val
slot_val r schemas a slot = option_map_or (version_val r schemas a) slot a.fill

-- what those in slots show of it
abbrev pub slot_vals : Reading → List Schema → List (Option Version) → Attr → List Val
slot_vals r schemas slots a = list_map (slot_val r schemas a) slots

-- a version as a pair of its coordinates and its row
abbrev pub pair_of : Version → List ℤ × List Val
pair_of v = (v.coords, v.row)

-- 1 to 8 columns have these coordinates
pub record HaveCoords (coords dims : List (List ℤ)) : Type 0 where
  pub some : 1 ≤ length dims
  pub few : length dims ≤ 8
  pub long : All (λ (column : List ℤ). length column ≡ length coords) dims
  pub there : (k : ℕ) → k < length coords → list_map (λ (column : List ℤ). slice_index_or column k (pos 0)) dims ≡ slice_index_or coords k []

-- the columns are those of so many cells, which have 1 to 8 dimensions
pub record AreShown (count : ℕ) (dims : List (List ℤ)) (columns : List (List Val)) : Type 0 where
  pub some : 1 ≤ length dims
  pub few : length dims ≤ 8
  pub coords : All (λ (column : List ℤ). length column ≡ count) dims
  pub vals : All (λ (column : List Val). length column ≡ count) columns

-- the cell at a place of columns, as a pair of its coordinates and its row
abbrev pub cell_across : List (List ℤ) → List (List Val) → ℕ → List ℤ × List Val
cell_across dims vals k = (list_map (λ (column : List ℤ). slice_index_or column k (pos 0)) dims, list_map (λ (column : List Val). slice_index_or column k Null) vals)

-- so many cells of columns
abbrev pub cells_across : List (List ℤ) → List (List Val) → ℕ → List (List ℤ × List Val)
cells_across dims vals count = list_map (cell_across dims vals) (range_with_len 0 count)

-- the values of the cells of the box of a read that got these versions, as they show: of each attribute a column
abbrev pub vals_filled : Reading → List Schema → List Version → List (List Val)
vals_filled r schemas got = list_map (slot_vals r schemas (list_map (slot_left r schemas) (slots_in (r.ready).sub (newest_of got)))) (r.current).attrs

-- the cells of these coordinates, with the values that stand at their places in columns
abbrev pub cells_over : List (List ℤ) → List (List Val) → List (List ℤ × List Val)
cells_over coords vals = list_map (λ k. (slice_index_or coords k [], list_map (λ (column : List Val). slice_index_or column k Null) vals)) (range_with_len 0 (length coords))
