-- Objects laid one after another: the parts of a fragment, and what its metadata says of their sizes.
use Rattle.std.specs.Prelude.{ℕ, List, [], ◌∷◌, ◌++◌, length, ℤ, pos, map, get_or, ◌<◌}
use Rattle.std.specs.List.{All, flat_map}
use Rattle.ts_base.specs.declared.heads.Piece.{Piece}
use Rattle.ts_base.specs.declared.heads.Version.{Version}
use Rattle.ts_base.specs.declared.names.PartBytes.{PartBytes}
use Rattle.ts_base.specs.declared.values.Val.{Val}
use Rattle.ts_base.specs.declared.values.Val.TheVariants.{Null}
use Rattle.ts_base.specs.Values.{width_of}
use Rattle.ts_domain.specs.declared.dims.Dim.{Dim}
use Rattle.ts_domain.specs.declared.boxes.SubBox.{SubBox}
use Rattle.ts_domain.specs.Rects.{rect_bytes}
use Rattle.ts_rtree.specs.Trees.{nodes_of}
use Rattle.ts_wire.specs.Numbers.{number_bytes, FitsInt}
use Rattle.ts_schema.specs.declared.attrs.Attr.{Attr}
use Rattle.ts_schema.specs.declared.frames.Frame.{Frame}
use Rattle.ts_plain.specs.declared.stored.StoredCell.{StoredCell}
use Rattle.ts_plain.specs.Plain.{head_bytes, FitsValue}
use Rattle.ts_plain.specs.Writes.{plain_head_for, stored_cell}
use Rattle.ts_column.specs.Tiles.{is_signed}
use Rattle.ts_sparse.specs.declared.laying.Laid.{Laid}
use Rattle.ts_sparse.specs.Sparse.{Object, column_part, leaves_of}

-- ---- what is laid

-- one part more, whose tiles start so
abbrev pub with_part : Laid → PartBytes → List ℕ → Laid
with_part laid p starts = record { parts = laid.parts ++ p ∷ []; sizes = laid.sizes ++ length p.bytes ∷ starts }

-- these objects more, one after another
abbrev pub with_objects : Laid → List Object → Laid
with_objects laid [] = laid
with_objects laid (o ∷ objects) = with_objects (with_part laid (column_part o) o.starts) objects

-- nothing yet
abbrev pub none_laid : Laid
none_laid = record { parts = []; sizes = [] }

-- ---- what is laid of a piece

-- the cells of a piece as they are stored
abbrev pub cells_of : Piece → List StoredCell
cells_of piece = map (stored_cell piece.head.origins) piece.versions

-- the coordinates of versions along a dimension
abbrev pub coords_along : ℕ → List Version → List ℤ
coords_along k versions = map (λ (v : Version). get_or v.coords k (pos 0)) versions

-- the values that versions have of an attribute
abbrev pub values_along : ℕ → List Version → List Val
values_along k versions = map (λ (v : Version). get_or v.row k Null) versions

-- the box of the cell of a version
abbrev pub box_of_version : Version → SubBox
box_of_version v = record { low = v.coords; high = v.coords }

-- the boxes of the cells of versions
abbrev pub boxes_of : List Version → List SubBox
boxes_of versions = map box_of_version versions

-- the coordinates of versions have room in the types of their dimensions
abbrev pub CoordsFit : List Dim → List Version → Type 0
CoordsFit dims versions = (k : ℕ) (d : Dim) → k < length dims → All (λ (v : Version). FitsInt (width_of (get_or dims k d).ty) (is_signed (get_or dims k d).ty) (get_or v.coords k (pos 0))) versions

-- the values of versions fit their attributes
abbrev pub ValuesFit : List Attr → List Version → Type 0
ValuesFit attrs versions = (k : ℕ) (a : Attr) → k < length attrs → All (λ (v : Version). FitsValue (get_or attrs k a) (get_or v.row k Null)) versions

-- the body of the metadata, in which these are the sizes of objects
unfoldable pub meta_with : Frame → Piece → List ℕ → List ℕ
meta_with frame piece sizes =
    head_bytes (plain_head_for piece) ++ (number_bytes 4 (length (leaves_of frame.capacity (cells_of piece)))
    ++ (flat_map (number_bytes 8) sizes ++ flat_map rect_bytes (nodes_of (leaves_of frame.capacity (cells_of piece)))))
