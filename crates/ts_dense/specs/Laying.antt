-- What is laid of a piece: the versions that its slots have, and their columns.
use Rattle.std.specs.Prelude.{◌≡◌, ℕ, ◌<◌, ℤ, Bool, if◌then◌else◌, List, [], ◌∷◌, ◌++◌, length, map, get_or, Option, Some, None}
use Rattle.std.specs.List.{All, flat_map}
use Rattle.std.specs.Option.{IfSome}
use Rattle.ts_base.specs.declared.keys.Key.{Key}
use Rattle.ts_base.specs.declared.heads.Head.{Head}
use Rattle.ts_base.specs.declared.heads.Piece.{Piece}
use Rattle.ts_base.specs.declared.heads.Version.{Version}
use Rattle.ts_base.specs.declared.values.Val.{Val}
use Rattle.ts_base.specs.declared.values.Val.TheVariants.{Null}
use Rattle.ts_base.specs.declared.values.ValType.{ValType}
use Rattle.ts_base.specs.Values.{width_of}
use Rattle.ts_base.specs.Coords.{coords_eq}
use Rattle.ts_domain.specs.declared.boxes.SubBox.{SubBox}
use Rattle.ts_wire.specs.Numbers.{number_bytes, FitsInt}
use Rattle.ts_schema.specs.declared.attrs.Attr.{Attr}
use Rattle.ts_schema.specs.declared.frames.Frame.{Frame}
use Rattle.ts_plain.specs.declared.stored.StoredCell.{StoredCell}
use Rattle.ts_plain.specs.Plain.{head_bytes, FitsValue}
use Rattle.ts_plain.specs.Writes.{place_of, HasPlace, box_of, stored_head, stored_cell}
use Rattle.ts_column.specs.Spelled.{number_of}
use Rattle.ts_column.specs.Tiles.{is_signed}
use Rattle.ts_sparse.specs.Sparse.{Object, origin_objects}
use Rattle.ts_dense.specs.declared.slots.SlotCells.{SlotCells}
use Rattle.ts_dense.specs.declared.slots.SlotCells.TheVariants.{Full, Holed}
use Rattle.ts_dense.specs.declared.slots.Slots.{Slots}
use Rattle.ts_dense.specs.Dense.{attr_objects}
use Rattle.ts_dense.specs.Slots.{counts_over, coords_over, no_origin, hole}

-- ---- slots

-- the versions of slots: the next one of the piece for each, or these
abbrev pub held_in : Piece → SlotCells → List (Option Version)
held_in piece Full = map Some piece.versions
held_in piece (Holed versions) = versions.items

-- the version of each slot, or none in a hole
abbrev pub held : Slots → List (Option Version)
held slots = held_in slots.piece.now slots.cells

-- the versions at these coordinates, which stand in the same order, and none where there is no version
abbrev pub versions_at : List (List ℤ) → List Version → List (Option Version)
versions_at [] versions = []
versions_at (at ∷ coords) [] = None ∷ versions_at coords []
versions_at (at ∷ coords) (v ∷ versions) = if coords_eq v.coords at then Some v ∷ versions_at coords versions else None ∷ versions_at coords (v ∷ versions)

-- the version, if it has these coordinates
abbrev pub taken_at : List ℤ → Option Version → Option Version
taken_at at None = None
taken_at at (Some v) = if coords_eq v.coords at then Some v else None

-- the box of a head
abbrev pub hull_of_head : Head → SubBox
hull_of_head head = box_of (stored_head head).hull

-- the slots are those of a piece
pub record IsSlots (frame : Frame) (piece : Piece) (slots : Slots) : Type 0 where
  pub origins : slots.origins.now ≡ piece.head.origins
  pub counts : slots.counts ≡ counts_over frame (hull_of_head piece.head)
  pub versions : held slots ≡ versions_at (coords_over frame (hull_of_head piece.head)) piece.versions

-- the cell of a slot, but for the coordinates of a hole, which no column has
abbrev pub cell_in : List Key → Option Version → StoredCell
cell_in origins None = hole []
cell_in origins (Some v) = stored_cell origins v

-- the cells of slots
abbrev pub slot_cells : Slots → List StoredCell
slot_cells slots = map (cell_in slots.origins.now) (held slots)

-- ---- columns

-- the value of an attribute in a slot, null in a hole
abbrev pub value_in : ℕ → Option Version → Val
value_in k None = Null
value_in k (Some v) = get_or v.row k Null

-- the values of an attribute in slots
abbrev pub values_along : ℕ → List (Option Version) → List Val
values_along k slots = map (value_in k) slots

-- which write the cell of a slot is of
abbrev pub origin_in : List Key → Option Version → ℕ
origin_in origins None = no_origin
origin_in origins (Some v) = place_of origins v.key

-- which write the cell of each slot is of
abbrev pub origins_along : List Key → List (Option Version) → List ℕ
origins_along origins slots = map (origin_in origins) slots

-- the versions in slots name their writes
abbrev pub NamedIn : List Key → List (Option Version) → Type 0
NamedIn origins slots = All (λ (slot : Option Version). IfSome slot (λ (v : Version). HasPlace origins v.key)) slots

-- the integers that are stored for the values of an attribute have room in the width of the type
abbrev pub NumbersFit : ValType → ℕ → List (Option Version) → Type 0
NumbersFit ty k slots = All (λ (slot : Option Version). FitsInt (width_of ty) (is_signed ty) (number_of (value_in k slot))) slots

-- the values that slots have of the attribute at a place fit it
abbrev pub ValuesFitOne : Attr → ℕ → List (Option Version) → Type 0
ValuesFitOne a k slots = All (λ (slot : Option Version). IfSome slot (λ (v : Version). FitsValue a (get_or v.row k Null))) slots

-- the values of slots fit their attributes
abbrev pub ValuesFit : List Attr → List (Option Version) → Type 0
ValuesFit attrs slots = (k : ℕ) (a : Attr) → k < length attrs → ValuesFitOne (get_or attrs k a) k slots

-- all objects of columns of slots
abbrev pub slot_objects : List Attr → Bool → Slots → List Object
slot_objects attrs consolidated slots = attr_objects slots.counts 0 attrs (slot_cells slots) ++ origin_objects consolidated (slot_cells slots)

-- ---- metadata

-- the body of the metadata of so many tiles, in which these are the sizes of objects
unfoldable pub meta_with : Head → ℕ → List ℕ → List ℕ
meta_with head tiles sizes = head_bytes (stored_head head) ++ (number_bytes 4 tiles ++ flat_map (number_bytes 8) sizes)
