-- The objects of the columns of a fragment in tiles, and what the metadata says of each.
use Rattle.std.specs.Prelude.{◌≡◌, ℕ, ◌+◌, ◌*◌, ◌/◌, ◌%◌, ◌^◌, ◌<◌, min, max, Bool, ◌&&◌, nat_eq, nat_le, if◌then◌else◌, List, [], ◌∷◌, ◌++◌, length, map, Option, Some, None, IsTrue}
use Rattle.std.specs.List.{flat_map}
use Rattle.ts_base.specs.declared.values.ValType.{ValType}
use Rattle.ts_base.specs.Values.{is_integer, width_of}
use Rattle.ts_domain.specs.declared.dims.Dim.{Dim}
use Rattle.ts_wire.specs.Place.{Place, Read, mapped, both, ruled, items_at, each_at}
use Rattle.ts_wire.specs.Exact.{InTurn}
use Rattle.ts_wire.specs.Numbers.{number_at}
use Rattle.ts_schema.specs.declared.attrs.Attr.{Attr}
use Rattle.ts_plain.specs.Rules.{last_of}
use Rattle.ts_footer.specs.declared.columns.ColumnForm.{ColumnForm}
use Rattle.ts_footer.specs.declared.columns.ColumnForm.TheVariants.{Fixed, Var}
use Rattle.ts_footer.specs.declared.columns.ColumnSize.{ColumnSize}

-- ---- tiles

-- how often b goes into a, and once more where something is left
abbrev pub rounded_up : ℕ → ℕ → ℕ
rounded_up a b = a / b + min 1 (a % b)

-- how many tiles so many cells fill, with at most `capacity` cells each
abbrev pub tiles_for : ℕ → ℕ → ℕ
tiles_for capacity cells = rounded_up cells (max capacity 1)

-- the number of tiles, which is known
unfoldable pub tile_count_at : ℕ → Place → Read ℕ
tile_count_at total = ruled (λ tiles. nat_eq tiles total) (number_at 4)

-- ---- which objects there are

-- the coordinates along a dimension, in the width of its type
abbrev pub dim_form : Dim → ColumnForm
dim_form d = Fixed (width_of d.ty)

-- integers in the width of their type; of texts and blobs, eight bytes for the start of each, and then their bytes
abbrev pub value_forms : ValType → List ColumnForm
value_forms ty = if is_integer ty then Fixed (width_of ty) ∷ [] else Fixed 8 ∷ (Var ∷ [])

-- a byte for each cell, where values may be null
abbrev pub validity_forms : Bool → List ColumnForm
validity_forms nullable = if nullable then Fixed 1 ∷ [] else []

-- the values of an attribute, and which of them are null
abbrev pub attr_forms : Attr → List ColumnForm
attr_forms attr = value_forms attr.ty ++ validity_forms attr.nullable

-- the place of each cell's write among the origins, in four bytes, in a consolidated fragment
abbrev pub origin_forms : Bool → List ColumnForm
origin_forms consolidated = if consolidated then Fixed 4 ∷ [] else []

-- the objects of a fragment that stores its coordinates along these dimensions, in their order
unfoldable pub column_forms : List Dim → List Attr → Bool → List ColumnForm
column_forms dims attrs consolidated = map dim_form dims ++ (flat_map attr_forms attrs ++ origin_forms consolidated)

-- ---- how long each is, and where its tiles start

-- the length of an object with so many bytes for each cell, behind an envelope of 14 bytes
abbrev pub fixed_length : ℕ → ℕ → ℕ
fixed_length width cells = 14 + width * cells

-- a length that is known
unfoldable pub fixed_at : ℕ → ℕ → Place → Read ℕ
fixed_at width cells = ruled (λ n. nat_eq n (fixed_length width cells)) (number_at 8)

-- the first tile starts behind the envelope, and no other one before the tile before it
abbrev pub may_start : Option ℕ → ℕ → Bool
may_start None start = nat_eq start 14
may_start (Some before) start = nat_le before start

-- where a tile starts, behind those before it: not past the end of its object
unfoldable pub start_at : ℕ → List ℕ → Place → Read ℕ
start_at end front = ruled (λ start. may_start (last_of front) start && nat_le start end) (number_at 8)

-- where each of so many tiles starts
unfoldable pub starts_at : ℕ → ℕ → Place → Read (List ℕ)
starts_at tiles end = items_at (start_at end) tiles []

-- the length of an object, and behind that of texts or blobs where each tile starts
unfoldable pub size_at : ℕ → ℕ → ColumnForm → Place → Read ColumnSize
size_at cells tiles (Fixed width) = mapped (λ n. record { length = n; starts = [] }) (fixed_at width cells)
size_at cells tiles Var = mapped (λ x. record { length = x.0; starts = x.1 }) (both (number_at 8) (starts_at tiles))

-- what stands in the metadata for each object
unfoldable pub sizes_at : ℕ → ℕ → List ColumnForm → Place → Read (List ColumnSize)
sizes_at cells tiles forms = each_at (size_at cells tiles) forms

-- ---- spelling

-- the numbers that stand for the objects: for each its length, and then where its tiles start
abbrev pub sizes_of : List ColumnSize → List ℕ
sizes_of [] = []
sizes_of (size ∷ sizes) = size.length ∷ (size.starts ++ sizes_of sizes)

-- ---- what can be spelled

-- the start may stand behind those before it, and is not past the end
abbrev pub FitsStart : ℕ → List ℕ → ℕ → Type 0
FitsStart end front start = IsTrue (may_start (last_of front) start && nat_le start end)

-- there is a start for each tile, and it is in its place
pub record FitsStarts (tiles end : ℕ) (starts : List ℕ) : Type 0 where
  pub many : length starts ≡ tiles
  pub each : InTurn (FitsStart end) [] starts

-- the length is the one that the cells tell, or there is a start for each tile
abbrev pub FitsForm : ℕ → ℕ → ColumnForm → ColumnSize → Type 0
FitsForm cells tiles (Fixed width) size = (size.length ≡ fixed_length width cells) × (size.starts ≡ [])
FitsForm cells tiles Var size = FitsStarts tiles size.length size.starts

-- the length has room in its field, and is as the form of the object asks
pub record FitsSize (cells tiles : ℕ) (form : ColumnForm) (size : ColumnSize) : Type 0 where
  pub room : size.length < 256 ^ 8
  pub keeps : FitsForm cells tiles form size
