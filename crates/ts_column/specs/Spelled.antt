-- How the values of some cells are spelled as a tile.
use Rattle.std.specs.Prelude.{◌≡◌, ℕ, Bool, true, false, ℤ, pos, List, [], map, length}
use Rattle.std.specs.List.{flat_map, All, slice_index_or}
use Rattle.ts_base.specs.declared.values.Val.{Val}
use Rattle.ts_base.specs.declared.values.Val.TheVariants.{Null, Int, Bytes}
use Rattle.ts_base.specs.declared.values.ValType.{ValType}
use Rattle.ts_base.specs.Values.{is_integer, width_of}
use Rattle.ts_value.specs.Fits.{Fits}
use Rattle.ts_table.specs.Texts.{joined, starts_from}
use Rattle.ts_wire.specs.Numbers.{number_bytes, int_bytes}
use Rattle.ts_wire.specs.Fields.{bool_bytes}
use Rattle.ts_column.specs.declared.tiles.Tile.{Tile}
use Rattle.ts_column.specs.Tiles.{is_there}

-- the integer that is stored for a value: 0 for a null
abbrev pub number_of : Val → ℤ
number_of (Int z) = z
number_of _ = pos 0

-- the bytes that are stored for a value: none for a null
abbrev pub text_of : Val → List ℕ
text_of (Bytes bytes) = bytes
text_of _ = []

-- the integers, or where the bytes of each value start
abbrev pub fixed_bytes : Bool → ValType → List Val → List ℕ
fixed_bytes true ty vals = flat_map (int_bytes (width_of ty)) (map number_of vals)
fixed_bytes false ty vals = flat_map (number_bytes 8) (starts_from 0 (map text_of vals))

-- the bytes of the values one after another, where they are texts or blobs
abbrev pub var_bytes : Bool → List Val → List ℕ
var_bytes true vals = []
var_bytes false vals = joined (map text_of vals)

-- for each value whether it is there, where there may be nulls
abbrev pub validity_bytes : Bool → List Val → List ℕ
validity_bytes true vals = flat_map bool_bytes (map is_there vals)
validity_bytes false vals = []

-- the tile of the values
unfoldable pub tile_of : ValType → Bool → List Val → Tile
tile_of ty nullable vals = record {
  fixed = fixed_bytes (is_integer ty) ty vals;
  var = var_bytes (is_integer ty) vals;
  validity = validity_bytes nullable vals;
}

-- the tile is that of these values, which are so many and fit the type
pub record IsSpelled (ty : ValType) (nullable : Bool) (count : ℕ) (tile : Tile) (vals : List Val) : Type 0 where
  pub spelled : tile ≡ tile_of ty nullable vals
  pub many : length vals ≡ count
  pub fits : All (Fits ty nullable) vals

-- the values of rows in a column
abbrev pub value_column : ℕ → List (List Val) → List Val
value_column k rows = map (λ row. slice_index_or row k Null) rows
