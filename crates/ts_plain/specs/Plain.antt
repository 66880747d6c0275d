-- The plain fragment: what its one object stores, and how that is spelled and read.
use Rattle.std.specs.Prelude.{◌≡◌, ℕ, ◌^◌, ◌<◌, ℤ, Bool, true, ◌&&◌, nat_lt, IsTrue, List, [], ◌++◌, length, Option, Result, Ok}
use Rattle.std.specs.Bool.{beq}
use Rattle.std.specs.List.{flat_map}
use Rattle.ts_base.specs.declared.keys.Key.{Key}
use Rattle.ts_base.specs.declared.keys.FragKey.{FragKey}
use Rattle.ts_base.specs.declared.values.Val.{Val}
use Rattle.ts_domain.specs.declared.dims.Dim.{Dim}
use Rattle.ts_value.specs.Fits.{fits_of}
use Rattle.ts_wire.specs.declared.kinds.Kind.TheVariants as kind
use Rattle.ts_wire.specs.Place.{Place, Read, place, ◌>>=◌, mapped, both, ruled, items_at, numbered_at, each_at}
use Rattle.ts_wire.specs.Exact.{InTurn, EachFits}
use Rattle.ts_wire.specs.Numbers.{number_bytes, number_at, int_bytes, int_at, FitsInt}
use Rattle.ts_wire.specs.Fields.{bool_bytes, bool_at, key_bytes, key_at, FitsKey, val_bytes, FitsVal}
use Rattle.ts_wire.specs.Envelope.{unwrapped, object_at}
use Rattle.ts_schema.specs.declared.attrs.Attr.{Attr}
use Rattle.ts_schema.specs.declared.frames.Frame.{Frame}
use Rattle.ts_schema.specs.SchemaTexts.{fill_at}
use Rattle.ts_plain.specs.declared.stored.Side.{Side}
use Rattle.ts_plain.specs.declared.stored.StoredHead.{StoredHead}
use Rattle.ts_plain.specs.declared.stored.StoredCell.{StoredCell}
use Rattle.ts_plain.specs.declared.stored.StoredPiece.{StoredPiece}
use Rattle.ts_plain.specs.Rules.{is_on_side, side_of, from_on, may_span, is_full, may_hold, may_count, last_of, may_be_origin, coords_rise, origin_rises}

-- ---- reading

-- a bool that says whether the array is dense, as its frame does
unfoldable pub dense_at : Bool → Place → Read Bool
dense_at dense = ruled (beq dense) bool_at

-- a bool that says whether the fragment is consolidated
unfoldable pub consolidated_at : FragKey → Place → Read Bool
consolidated_at frag = ruled (may_span frag) bool_at

-- a coordinate on this side
unfoldable pub coord_at : Side → Place → Read ℤ
coord_at side = ruled (is_on_side side) (int_at 16 true)

-- the least and the greatest coordinate of a hull along a dimension
unfoldable pub side_at : Dim → Place → Read Side
side_at d = mapped (λ x. record { low = x.0; high = x.1 }) (both (coord_at (side_of d)) (λ low. coord_at (from_on (side_of d) low)))

-- the least and the greatest coordinate of a hull along each dimension
unfoldable pub hull_at : List Dim → Place → Read (List Side)
hull_at dims = each_at side_at dims

-- the number of cells
unfoldable pub cells_at : Bool → List Side → Place → Read ℕ
cells_at full hull = ruled (may_hold full hull) (number_at 8)

-- the number of origins
unfoldable pub origin_count_at : Bool → Place → Read ℕ
origin_count_at consolidated = ruled (may_count consolidated) (number_at 4)

-- one of so many origins, behind those before it
unfoldable pub origin_at : FragKey → Bool → ℕ → List Key → Place → Read Key
origin_at frag consolidated count front = ruled (may_be_origin frag consolidated count front) key_at

-- the number of origins, and then the origins
unfoldable pub origins_at : FragKey → Bool → Place → Read (List Key)
origins_at frag consolidated = numbered_at (origin_count_at consolidated) (origin_at frag consolidated)

-- what stands before the cells, where fragments that are full, by whether they are consolidated, have each cell of their hull: it is read without the schema
unfoldable pub head_by : (Bool → Bool) → Frame → FragKey → Place → Read StoredHead
head_by full frame frag =
    mapped (λ x. record { schema = x.0; dense = x.1.0; consolidated = x.1.1.0; hull = x.1.1.1.0; cells = x.1.1.1.1.0; origins = x.1.1.1.1.1 })
    (both key_at (λ _. both (dense_at frame.dense) (λ _. both (consolidated_at frag) (λ consolidated.
    both (hull_at frame.domain) (λ hull. both (cells_at (full consolidated) hull) (λ _. origins_at frag consolidated))))))

-- what stands before the cells of a plain fragment: one of a dense array that is not consolidated is full
abbrev pub head_at : Frame → FragKey → Place → Read StoredHead
head_at frame frag = head_by (is_full frame.dense) frame frag

-- the coordinates of a cell, in the hull and behind the cell before it
unfoldable pub coords_at : Frame → List Side → Option StoredCell → Place → Read (List ℤ)
coords_at frame hull before = ruled (coords_rise frame before) (each_at coord_at hull)

-- the origin of a cell with these coordinates, one of so many and behind the cell before it
unfoldable pub index_at : Bool → ℕ → Option StoredCell → List ℤ → Place → Read ℕ
index_at dense count before coords = ruled (λ origin. nat_lt origin count && origin_rises dense before coords origin) (number_at 4)

-- the value of an attribute
unfoldable pub value_at : Attr → Place → Read Val
value_at attr = fill_at attr.ty attr.nullable

-- the values of a cell
unfoldable pub row_at : List Attr → Place → Read (List Val)
row_at attrs = each_at value_at attrs

-- a cell, behind those before it
unfoldable pub cell_at : Frame → List Attr → StoredHead → List StoredCell → Place → Read StoredCell
cell_at frame attrs head front =
    mapped (λ x. record { coords = x.0; origin = x.1.0; row = x.1.1 })
    (both (coords_at frame head.hull (last_of front)) (λ coords. both (index_at frame.dense (length head.origins) (last_of front) coords) (λ _. row_at attrs)))

-- all that a plain object stores, under the name of its fragment
unfoldable pub plain_at : Frame → List Attr → FragKey → Place → Read StoredPiece
plain_at frame attrs frag = mapped (λ x. record { head = x.0; cells = x.1 }) (both (head_at frame frag) (λ head. items_at (cell_at frame attrs head) head.cells []))

-- what the whole object stores, or the offset of its first broken field
unfoldable pub plain_stored : Frame → List Attr → FragKey → List ℕ → Result StoredPiece ℕ
plain_stored frame attrs frag object = object_at kind.Plain (plain_at frame attrs frag) object

-- what the object stores before the cells, or the offset of its first broken field up to there
unfoldable pub head_stored : Frame → FragKey → List ℕ → Result StoredHead ℕ
head_stored frame frag object = unwrapped kind.Plain object >>= λ body. head_at frame frag (place body 14) >>= λ x. Ok x.0

-- ---- spelling

-- a side is its two ends
unfoldable pub side_bytes : Side → List ℕ
side_bytes side = int_bytes 16 side.low ++ int_bytes 16 side.high

-- a hull is its sides
unfoldable pub hull_bytes : List Side → List ℕ
hull_bytes hull = flat_map side_bytes hull

-- the number of origins, and then the origins
unfoldable pub origins_bytes : List Key → List ℕ
origins_bytes origins = number_bytes 4 (length origins) ++ flat_map key_bytes origins

-- what stands before the cells
unfoldable pub head_bytes : StoredHead → List ℕ
head_bytes head = key_bytes head.schema ++ (bool_bytes head.dense ++ (bool_bytes head.consolidated ++ (hull_bytes head.hull ++ (number_bytes 8 head.cells ++ origins_bytes head.origins))))

-- a cell: its coordinates, its origin and its values
unfoldable pub cell_bytes : StoredCell → List ℕ
cell_bytes cell = flat_map (int_bytes 16) cell.coords ++ (number_bytes 4 cell.origin ++ flat_map val_bytes cell.row)

-- all that a plain object stores
unfoldable pub plain_bytes : StoredPiece → List ℕ
plain_bytes stored = head_bytes stored.head ++ flat_map cell_bytes stored.cells

-- ---- what can be spelled

-- a coordinate that is in its range and on the side
abbrev pub FitsCoord : Side → ℤ → Type 0
FitsCoord side x = FitsInt 16 true x × IsTrue (is_on_side side x)

-- the side lies within the dimension, and is not empty
pub record FitsSide (d : Dim) (side : Side) : Type 0 where
  pub low : FitsCoord (side_of d) side.low
  pub high : FitsCoord (from_on (side_of d) side.low) side.high

-- the key is in its range, and may be an origin behind those before it
pub record FitsOrigin (frag : FragKey) (consolidated : Bool) (count : ℕ) (front : List Key) (key : Key) : Type 0 where
  pub range : FitsKey key
  pub in_place : IsTrue (may_be_origin frag consolidated count front key)

-- each field before the cells keeps its rule, where fragments that are full, by whether they are consolidated, have each cell of their hull
pub record FitsHeadBy (full : Bool → Bool) (frame : Frame) (frag : FragKey) (head : StoredHead) : Type 0 where
  pub schema : FitsKey head.schema
  pub kind : IsTrue (beq frame.dense head.dense)
  pub span : IsTrue (may_span frag head.consolidated)
  pub hull : EachFits FitsSide frame.domain head.hull
  pub cells : head.cells < 256 ^ 8
  pub as_many : IsTrue (may_hold (full head.consolidated) head.hull head.cells)
  pub few_origins : length head.origins < 256 ^ 4
  pub some_origin : IsTrue (may_count head.consolidated (length head.origins))
  pub origins : InTurn (FitsOrigin frag head.consolidated (length head.origins)) [] head.origins

-- each field before the cells of a plain fragment keeps its rule
abbrev pub FitsHead : Frame → FragKey → StoredHead → Type 0
FitsHead frame frag head = FitsHeadBy (is_full frame.dense) frame frag head

-- the value has a spelling, and the attribute may have it
abbrev pub FitsValue : Attr → Val → Type 0
FitsValue attr val = FitsVal val × IsTrue (fits_of attr.ty attr.nullable val)

-- each field of the cell keeps its rule, behind those cells before it
pub record FitsCell (frame : Frame) (attrs : List Attr) (head : StoredHead) (front : List StoredCell) (cell : StoredCell) : Type 0 where
  pub coords : EachFits FitsCoord head.hull cell.coords
  pub rises : IsTrue (coords_rise frame (last_of front) cell.coords)
  pub origin : cell.origin < 256 ^ 4
  pub known : IsTrue (nat_lt cell.origin (length head.origins) && origin_rises frame.dense (last_of front) cell.coords cell.origin)
  pub row : EachFits FitsValue attrs cell.row

-- each field keeps its rule, and there are as many cells as are said
pub record FitsPlain (frame : Frame) (attrs : List Attr) (frag : FragKey) (stored : StoredPiece) : Type 0 where
  pub head : FitsHead frame frag stored.head
  pub count : length stored.cells ≡ stored.head.cells
  pub cells : InTurn (FitsCell frame attrs stored.head) [] stored.cells
