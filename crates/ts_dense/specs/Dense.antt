-- A dense fragment in tiles: its metadata, and its columns whole. Coordinates are not stored: they follow from the hull.
use Rattle.std.specs.Prelude.{◌≡◌, ℕ, suc, ◌^◌, ◌<◌, ◌≤◌, Bool, true, false, List, [], ◌∷◌, ◌++◌, length, map, Option}
use Rattle.std.specs.List.{flat_map, All}
use Rattle.ts_base.specs.declared.keys.FragKey.{FragKey}
use Rattle.ts_base.specs.declared.values.Val.{Val}
use Rattle.ts_base.specs.declared.values.ValType.{ValType}
use Rattle.ts_base.specs.declared.heads.Piece.{Piece}
use Rattle.ts_base.specs.declared.names.Part.{Part}
use Rattle.ts_base.specs.declared.names.Part.TheVariants as part
use Rattle.ts_base.specs.declared.names.PartBytes.{PartBytes}
use Rattle.ts_base.specs.Values.{is_integer}
use Rattle.ts_wire.specs.declared.kinds.Kind.TheVariants as kind
use Rattle.ts_wire.specs.Exact.{InTurn}
use Rattle.ts_wire.specs.Numbers.{number_bytes}
use Rattle.ts_wire.specs.Envelope.{wrapped}
use Rattle.ts_schema.specs.declared.attrs.Attr.{Attr}
use Rattle.ts_schema.specs.declared.frames.Frame.{Frame}
use Rattle.ts_schema.specs.declared.schemas.Schema.{Schema}
use Rattle.ts_schema.specs.FrameTexts.{IsFrame}
use Rattle.ts_plain.specs.declared.stored.StoredCell.{StoredCell}
use Rattle.ts_plain.specs.declared.stored.StoredPiece.{StoredPiece}
use Rattle.ts_plain.specs.Rules.{volume}
use Rattle.ts_plain.specs.Plain.{head_bytes, FitsHead, FitsCell}
use Rattle.ts_plain.specs.Pieces.{piece_of}
use Rattle.ts_plain.specs.Writes.{box_of}
use Rattle.ts_table.specs.Texts.{joined}
use Rattle.ts_column.specs.Spelled.{text_of}
use Rattle.ts_sparse.specs.Tilings.{tile_starts, starts_in}
use Rattle.ts_sparse.specs.Sparse.{Object, value_column, numbers_object, validity_objects, origin_objects, column_part, sizes_of, IsThere}
use Rattle.ts_dense.specs.Slots.{tiles_over, counts_over, tiles_by, slots_of}

-- ---- objects

-- the first of the two objects of a column of byte lists, in tiles of these sizes: where each starts in its tile
abbrev pub starts_object : List ℕ → ℕ → List Val → Object
starts_object counts k vals = record { part = part.Attr k; body = flat_map (number_bytes 8) (starts_in (tiles_by counts (map text_of vals))); starts = [] }

-- the second one: all bytes, and where those of each tile start, the first behind the 14 bytes of the envelope
abbrev pub bytes_object : List ℕ → ℕ → List Val → Object
bytes_object counts k vals = record { part = part.Var k; body = joined (map text_of vals); starts = tile_starts 14 (tiles_by counts (map text_of vals)) }

-- a column of integers has one object, one of byte lists two
abbrev pub fixed_objects : Bool → List ℕ → ℕ → ValType → List Val → List Object
fixed_objects true counts k ty vals = numbers_object k ty vals ∷ []
fixed_objects false counts k ty vals = starts_object counts k vals ∷ (bytes_object counts k vals ∷ [])

-- the objects of the attributes from the k-th on, over slots in tiles of these sizes; a hole has blanks for values
abbrev pub attr_objects : List ℕ → ℕ → List Attr → List StoredCell → List Object
attr_objects counts k [] slots = []
attr_objects counts k (a ∷ attrs) slots =
    fixed_objects (is_integer a.ty) counts k a.ty (value_column k slots) ++ (validity_objects a.nullable k (value_column k slots) ++ attr_objects counts (suc k) attrs slots)

-- all objects of columns, in the order of the metadata: those of the attributes, and of a consolidated fragment which write each cell is of
unfoldable pub objects_of : Frame → List Attr → StoredPiece → List Object
objects_of frame attrs stored =
    attr_objects (counts_over frame (box_of stored.head.hull)) 0 attrs (slots_of frame stored) ++ origin_objects stored.head.consolidated (slots_of frame stored)

-- ---- metadata

-- the body of the metadata: what stands before the cells of a plain fragment, the number of tiles, and the sizes
unfoldable pub meta_bytes : Frame → List Attr → StoredPiece → List ℕ
meta_bytes frame attrs stored =
    head_bytes stored.head ++ (number_bytes 4 (length (tiles_over frame (box_of stored.head.hull))) ++ flat_map (number_bytes 8) (sizes_of (objects_of frame attrs stored)))

-- ---- the parts of a fragment

-- the part of the metadata
abbrev pub meta_part : Frame → List Attr → StoredPiece → PartBytes
meta_part frame attrs stored = record { part = part.Meta; bytes = wrapped kind.Meta (meta_bytes frame attrs stored) }

-- the parts in the order of their puts, that of the metadata last
unfoldable pub parts_of : Frame → List Attr → StoredPiece → List PartBytes
parts_of frame attrs stored = map column_part (objects_of frame attrs stored) ++ meta_part frame attrs stored ∷ []

-- what can be stored in space tiles: each field keeps its rule, and the metadata counts the cells of the hull, holes among them; a fragment that no consolidation made has none, and another may have holes alone
pub record FitsDense (frame : Frame) (attrs : List Attr) (frag : FragKey) (stored : StoredPiece) : Type 0 where
  pub sound : IsFrame frame
  pub dense : frame.dense ≡ true
  pub head : FitsHead frame frag stored.head
  pub counts_hull : stored.head.cells ≡ volume stored.head.hull
  pub no_hole : stored.head.consolidated ≡ false → length stored.cells ≡ stored.head.cells
  pub cells : InTurn (FitsCell frame attrs stored.head) [] stored.cells
  pub few_attrs : length attrs ≤ 64
  pub few : length (tiles_over frame (box_of stored.head.hull)) < 2 ^ 32

-- the parts store the piece
pub record IsStored (frame : Frame) (attrs : List Attr) (piece : Piece) (look : Part → Option (List ℕ)) : Type 0 where
  pub stored : StoredPiece
  pub fits : FitsDense frame attrs piece.head.frag stored
  pub parts : All (IsThere look) (parts_of frame attrs stored)
  pub same : piece ≡ piece_of piece.head.frag stored

-- the parts of a dense fragment in tiles hold the piece
abbrev pub IsDense : Frame → Schema → Piece → (Part → Option (List ℕ)) → Type 0
IsDense frame schema piece look = IsStored frame schema.attrs piece look
