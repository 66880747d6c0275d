-- A sparse fragment: its metadata, and its columns whole. Tiles enter at the leaves and at the starts of byte lists alone.
use Rattle.ts_plain.specs.Writes.{box_of}
use Rattle.std.specs.Prelude.{◌≡◌, ℕ, suc, ◌+◌, ◌^◌, ◌<◌, ◌≤◌, ℤ, pos, Bool, true, false, List, [], ◌∷◌, ◌++◌, length, map, get_or, Option, Some}
use Rattle.std.specs.List.{flat_map, All}
use Rattle.ts_base.specs.declared.keys.FragKey.{FragKey}
use Rattle.ts_base.specs.declared.values.Val.{Val}
use Rattle.ts_base.specs.declared.values.Val.TheVariants.{Null}
use Rattle.ts_base.specs.declared.values.ValType.{ValType}
use Rattle.ts_base.specs.declared.heads.Piece.{Piece}
use Rattle.ts_base.specs.declared.names.Part.{Part}
use Rattle.ts_base.specs.declared.names.Part.TheVariants as part
use Rattle.ts_base.specs.declared.names.PartBytes.{PartBytes}
use Rattle.ts_base.specs.Values.{width_of, is_integer}
use Rattle.ts_domain.specs.declared.dims.Dim.{Dim}
use Rattle.ts_domain.specs.declared.boxes.SubBox.{SubBox}
use Rattle.ts_domain.specs.Boxes.{hull_of}
use Rattle.ts_wire.specs.declared.kinds.Kind.TheVariants as kind
use Rattle.ts_wire.specs.Exact.{EachFits}
use Rattle.ts_wire.specs.Numbers.{number_bytes, int_bytes, FitsInt}
use Rattle.ts_wire.specs.Fields.{bool_bytes}
use Rattle.ts_wire.specs.Envelope.{wrapped}
use Rattle.ts_schema.specs.declared.attrs.Attr.{Attr}
use Rattle.ts_schema.specs.declared.frames.Frame.{Frame}
use Rattle.ts_schema.specs.declared.schemas.Schema.{Schema}
use Rattle.ts_plain.specs.declared.stored.StoredCell.{StoredCell}
use Rattle.ts_plain.specs.declared.stored.StoredPiece.{StoredPiece}
use Rattle.ts_plain.specs.Plain.{head_bytes, FitsPlain}
use Rattle.ts_plain.specs.Pieces.{piece_of}
use Rattle.ts_table.specs.Texts.{joined}
use Rattle.ts_column.specs.Tiles.{is_signed, is_there}
use Rattle.ts_column.specs.Spelled.{number_of, text_of}
use Rattle.ts_domain.specs.Rects.{rect_bytes}
use Rattle.ts_rtree.specs.Trees.{nodes_of}
use Rattle.ts_sparse.specs.Tilings.{tiles_of, tile_starts, starts_in}

-- ---- columns

-- the coordinates along the dimension at a place
abbrev pub coord_column : ℕ → List StoredCell → List ℤ
coord_column k cells = map (λ c. get_or c.coords k (pos 0)) cells

-- the values of the attribute at a place
abbrev pub value_column : ℕ → List StoredCell → List Val
value_column k cells = map (λ c. get_or c.row k Null) cells

-- which write each cell is of
abbrev pub origin_column : List StoredCell → List ℕ
origin_column cells = map (λ c. c.origin) cells

-- ---- objects

-- an object of a column: its part, its body, and where the bytes of each tile start, which the metadata says of byte lists
pub record Object : Type 0 where
  pub part : Part
  pub body : List ℕ
  pub starts : List ℕ

-- the objects of the dimensions from the k-th on
abbrev pub dim_objects : ℕ → List Dim → List StoredCell → List Object
dim_objects k [] cells = []
dim_objects k (d ∷ ds) cells =
    record { part = part.Dim k; body = flat_map (int_bytes (width_of d.ty)) (coord_column k cells); starts = [] } ∷ dim_objects (suc k) ds cells

-- the object of a column of integers
abbrev pub numbers_object : ℕ → ValType → List Val → Object
numbers_object k ty vals = record { part = part.Attr k; body = flat_map (int_bytes (width_of ty)) (map number_of vals); starts = [] }

-- the first of the two objects of a column of byte lists, in tiles of n cells: where each starts in its tile
abbrev pub starts_object : ℕ → ℕ → List Val → Object
starts_object n k vals = record { part = part.Attr k; body = flat_map (number_bytes 8) (starts_in (tiles_of n (map text_of vals))); starts = [] }

-- the second one: all bytes, and where those of each tile start, the first behind the 14 bytes of the envelope
abbrev pub bytes_object : ℕ → ℕ → List Val → Object
bytes_object n k vals = record { part = part.Var k; body = joined (map text_of vals); starts = tile_starts 14 (tiles_of n (map text_of vals)) }

-- a column of integers has one object, one of byte lists two
abbrev pub fixed_objects : Bool → ℕ → ℕ → ValType → List Val → List Object
fixed_objects true n k ty vals = numbers_object k ty vals ∷ []
fixed_objects false n k ty vals = starts_object n k vals ∷ (bytes_object n k vals ∷ [])

-- where values may be null, one says which are not
abbrev pub validity_objects : Bool → ℕ → List Val → List Object
validity_objects false k vals = []
validity_objects true k vals = record { part = part.Validity k; body = flat_map bool_bytes (map is_there vals); starts = [] } ∷ []

-- the objects of the attributes from the k-th on, in tiles of n cells
abbrev pub attr_objects : ℕ → ℕ → List Attr → List StoredCell → List Object
attr_objects n k [] cells = []
attr_objects n k (a ∷ attrs) cells =
    fixed_objects (is_integer a.ty) n k a.ty (value_column k cells) ++ (validity_objects a.nullable k (value_column k cells) ++ attr_objects n (suc k) attrs cells)

-- a consolidated fragment says which write each cell is of
abbrev pub origin_objects : Bool → List StoredCell → List Object
origin_objects false cells = []
origin_objects true cells = record { part = part.Origin; body = flat_map (number_bytes 4) (origin_column cells); starts = [] } ∷ []

-- all objects of columns, in the order of the metadata
unfoldable pub objects_of : Frame → List Attr → StoredPiece → List Object
objects_of frame attrs stored =
    dim_objects 0 frame.domain stored.cells ++ (attr_objects frame.capacity 0 attrs stored.cells ++ origin_objects stored.head.consolidated stored.cells)

-- ---- metadata

-- the length of each object, and behind it where its tiles start
abbrev pub sizes_of : List Object → List ℕ
sizes_of [] = []
sizes_of (o ∷ objects) = (14 + length o.body) ∷ (o.starts ++ sizes_of objects)

-- the box of one cell
abbrev pub cell_box : StoredCell → SubBox
cell_box c = record { low = c.coords; high = c.coords }

-- the hull of a box and some cells
abbrev pub hull_from : SubBox → List StoredCell → SubBox
hull_from hull [] = hull
hull_from hull (c ∷ cells) = hull_from (hull_of hull (cell_box c)) cells

-- the hull of some cells
abbrev pub leaf_of : List StoredCell → SubBox
leaf_of [] = record { low = []; high = [] }
leaf_of (c ∷ cells) = hull_from (cell_box c) cells

-- the hull of each tile of n cells
abbrev pub leaves_of : ℕ → List StoredCell → List SubBox
leaves_of n cells = map leaf_of (tiles_of n cells)

-- the body of the metadata: what stands before the cells of a plain fragment, the number of tiles, the sizes and the tree
unfoldable pub meta_bytes : Frame → List Attr → StoredPiece → List ℕ
meta_bytes frame attrs stored =
    head_bytes stored.head ++ (number_bytes 4 (length (tiles_of frame.capacity stored.cells))
    ++ (flat_map (number_bytes 8) (sizes_of (objects_of frame attrs stored)) ++ flat_map rect_bytes (nodes_of (leaves_of frame.capacity stored.cells))))

-- ---- the parts of a fragment

-- the part of the object of a column
abbrev pub column_part : Object → PartBytes
column_part o = record { part = o.part; bytes = wrapped kind.Column o.body }

-- the part of the metadata
abbrev pub meta_part : Frame → List Attr → StoredPiece → PartBytes
meta_part frame attrs stored = record { part = part.Meta; bytes = wrapped kind.Meta (meta_bytes frame attrs stored) }

-- the parts in the order of their puts, that of the metadata last
unfoldable pub parts_of : Frame → List Attr → StoredPiece → List PartBytes
parts_of frame attrs stored = map column_part (objects_of frame attrs stored) ++ meta_part frame attrs stored ∷ []

-- the coordinates have room in the types of their dimensions
abbrev pub FitsTypes : List Dim → StoredCell → Type 0
FitsTypes dims cell = EachFits (λ (d : Dim) (x : ℤ). FitsInt (width_of d.ty) (is_signed d.ty) x) dims cell.coords

-- what can be stored in tiles: what a plain object can, with coordinates in their types and a hull no larger than the cells ask for; attributes and tiles are few
pub record FitsSparse (frame : Frame) (attrs : List Attr) (frag : FragKey) (stored : StoredPiece) : Type 0 where
  pub plain : FitsPlain frame attrs frag stored
  pub capacity : 1 ≤ frame.capacity
  pub few_attrs : length attrs ≤ 64
  pub ints : All (λ (d : Dim). is_integer d.ty ≡ true) frame.domain
  pub typed : All (FitsTypes frame.domain) stored.cells
  pub tight : leaf_of stored.cells ≡ box_of stored.head.hull
  pub few : length (tiles_of frame.capacity stored.cells) < 2 ^ 32

-- the part is there, as it is spelled, and no longer than a length can say
pub record IsThere (look : Part → Option (List ℕ)) (p : PartBytes) : Type 0 where
  pub there : look p.part ≡ Some p.bytes
  pub few : length p.bytes < 2 ^ 64

-- the parts store the piece
pub record IsStored (frame : Frame) (attrs : List Attr) (piece : Piece) (look : Part → Option (List ℕ)) : Type 0 where
  pub stored : StoredPiece
  pub fits : FitsSparse frame attrs piece.head.frag stored
  pub parts : All (IsThere look) (parts_of frame attrs stored)
  pub same : piece ≡ piece_of piece.head.frag stored

-- the parts of a sparse fragment hold the piece
abbrev pub IsSparse : Frame → Schema → Piece → (Part → Option (List ℕ)) → Type 0
IsSparse frame schema piece look = IsStored frame schema.attrs piece look
