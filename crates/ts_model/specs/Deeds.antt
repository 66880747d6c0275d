-- Deeds, histories, and what is found in a history.
use Rattle.std.specs.Prelude.{◌≡◌, ℕ, ℤ, ◌^◌, ◌<◌, ◌≤◌, Bool, true, false, cond, not, ◌&&◌, List, [], ◌∷◌, ◌++◌, Option, Some, None, filter, filter_map, length, nat_le, IsTrue, All, ⊤, find, is_some}
use Rattle.ts_base.specs.declared.keys.Key.{Key}
use Rattle.ts_base.specs.declared.keys.FragKey.{FragKey}
use Rattle.ts_base.specs.declared.heads.Cell.{Cell}
use Rattle.ts_base.specs.declared.values.Val.{Val}
use Rattle.ts_model.specs.declared.deeds.Written.{Written}
use Rattle.ts_model.specs.declared.deeds.Deletion.{Deletion}
use Rattle.ts_model.specs.declared.deeds.Deed.{Deed}
use Rattle.ts_schema.specs.declared.frames.Frame.{Frame}
use Rattle.ts_schema.specs.declared.schemas.Schema.{Schema}
use Rattle.ts_schema.specs.declared.attrs.Attr.{Attr}
use Rattle.ts_domain.specs.declared.dims.Dim.{Dim}
use Rattle.ts_domain.specs.declared.boxes.SubBox.{SubBox}
use Rattle.ts_domain.specs.Boxes.{is_in_box}
use Rattle.std.specs.List.{list_any}
use Rattle.std.specs.Option.{option_map_or}
use Rattle.ts_base.specs.Keys.{key_eq, frag_eq, frag_of, is_within, greatest}
use Rattle.ts_base.specs.Coords.{coords_eq}
use Rattle.ts_wire.specs.Fields.{FitsVal}
use Rattle.ts_value.specs.Fits.{fits_of}
use Rattle.ts_domain.specs.Domains.{is_in_domain}
use Rattle.ts_schema.specs.Faults.{schema_fault}
use Rattle.ts_schema.specs.FrameTexts.{IsFrame}
use Rattle.ts_schema.specs.SchemaTexts.{AreAttrs}
use Rattle.ts_cond.specs.CondTexts.{IsCond}
use Rattle.ts_model.specs.declared.deeds.Deed.TheVariants.{Framed, Declared, Wrote, Erased}

-- a history: deeds in the order of their commits
abbrev pub History : Type 0
History = List Deed

-- the frame of a deed
abbrev pub framed_in : Deed → Option Frame
framed_in (Framed frame) = Some frame
framed_in _ = None

-- the schema that a deed declares
abbrev pub schema_in : Deed → Option Schema
schema_in (Declared s) = Some s
schema_in _ = None

-- what a deed wrote
abbrev pub write_in : Deed → Option Written
write_in (Wrote w) = Some w
write_in _ = None

-- what a deed erased
abbrev pub deletion_in : Deed → Option Deletion
deletion_in (Erased e) = Some e
deletion_in _ = None

-- the key of a deed; a frame has none
abbrev pub key_in : Deed → Option Key
key_in (Framed frame) = None
key_in (Declared s) = Some s.key
key_in (Wrote w) = Some w.key
key_in (Erased e) = Some e.key

-- the first frame of a history
abbrev pub frame_in : History → Option Frame
frame_in [] = None
frame_in (Framed frame ∷ h) = Some frame
frame_in (d ∷ h) = frame_in h

-- the schemas of a history, in order
abbrev pub schemas : History → List Schema
schemas h = filter_map schema_in h

-- the writes of a history, in order
abbrev pub writes : History → List Written
writes h = filter_map write_in h

-- the deletes of a history, in order
abbrev pub deletions : History → List Deletion
deletions h = filter_map deletion_in h

-- the keys of a history, in order
abbrev pub keys : History → List Key
keys h = filter_map key_in h

-- a deed of the history has the key
abbrev pub has_key : History → Key → Bool
has_key h k = list_any (key_eq k) (keys h)

-- the schema of a key
abbrev pub schema_with : History → Key → Option Schema
schema_with h k = find (λ s. key_eq s.key k) (schemas h)

-- the delete under a name
abbrev pub deletion_of : History → FragKey → Option Deletion
deletion_of h f = find (λ e. frag_eq (frag_of e.key) f) (deletions h)

-- the attributes of the schema of a key, and none where there is no such schema
abbrev pub attrs_with : History → Key → List Attr
attrs_with h k = option_map_or (λ s. s.attrs) (schema_with h k) []

-- the schema that holds at a timestamp: the one with the greatest key among those stamped there or before
abbrev pub current_schema : History → ℕ → Option Schema
current_schema h b = greatest (λ s. s.key) (filter (λ s. nat_le s.key.t b) (schemas h))

-- the row that stands at a coordinate
abbrev pub row_at : List ℤ → List Cell → Option (List Val)
row_at c [] = None
row_at c (cell ∷ cells) = cond (coords_eq cell.coords c) (Some cell.row) (row_at c cells)

-- the write has a cell at the coordinate
abbrev pub has_cell : List ℤ → Written → Bool
has_cell c w = is_some (row_at c w.cells)

-- the last write of a coordinate in [a, b]: the greatest key among the writes stamped there that have it
abbrev pub last_write : History → ℕ → ℕ → List ℤ → Option Written
last_write h a b c = greatest (λ w. w.key) (filter (λ w. is_within a b w.key && has_cell c w) (writes h))

-- ---- which lists of deeds are histories

-- no two cells have one coordinate
abbrev pub are_apart : List Cell → Bool
are_apart [] = true
are_apart (cell ∷ cells) = not (is_some (row_at cell.coords cells)) && are_apart cells

-- there is a value for each attribute, and each fits its type and has a spelling
abbrev pub RowFits : List Attr → List Val → Type 0
RowFits [] [] = ⊤
RowFits (a ∷ attrs) (v ∷ row) = FitsVal v × IsTrue (fits_of a.ty a.nullable v) × RowFits attrs row
RowFits _ _ = ⊥

-- the cell lies in the domain, and its row is one of these attributes
pub record CellFits (dims : List Dim) (attrs : List Attr) (cell : Cell) : Type 0 where
  pub inside : IsTrue (is_in_domain dims cell.coords)
  pub row : RowFits attrs cell.row

-- no deed before has the key
abbrev pub IsNewKey : History → Key → Type 0
IsNewKey before k = IsTrue (not (has_key before k))

-- the numbers of a key have their widths
pub record IsKey (k : Key) : Type 0 where
  pub t : k.t < 2 ^ 64
  pub id : k.id < 2 ^ 128

-- a frame may follow these deeds: there are none
pub record FrameFollows (before : History) (frame : Frame) : Type 0 where
  pub first : before ≡ []
  pub is_frame : IsFrame frame

-- a schema may follow these deeds: its attributes are such as an array of the frame can have
pub record SchemaFollows (before : History) (s : Schema) : Type 0 where
  pub frame : Frame
  pub framed : frame_in before ≡ Some frame
  pub new : IsNewKey before s.key
  pub key : IsKey s.key
  pub attrs : AreAttrs s.attrs
  pub sound : schema_fault frame.domain s.attrs ≡ None

-- the cells are all those of one box, and no others
abbrev pub AreOfBox : List Cell → Type 0
AreOfBox cells = (sub : SubBox) × ((c : List ℤ) → is_some (row_at c cells) ≡ is_in_box sub c)

-- a write may follow these deeds: its schema stands before it, its cells are apart, each fits, and in a dense array they are those of a box
pub record WriteFollows (before : History) (w : Written) : Type 0 where
  pub frame : Frame
  pub framed : frame_in before ≡ Some frame
  pub new : IsNewKey before w.key
  pub key : IsKey w.key
  pub schema : Schema
  pub declared : schema_with before w.schema ≡ Some schema
  pub in_time : IsTrue (nat_le w.schema.t w.key.t)
  pub some_cell : 1 ≤ length w.cells
  pub few : length w.cells < 2 ^ 64
  pub apart : IsTrue (are_apart w.cells)
  pub fit : All (CellFits frame.domain schema.attrs) w.cells
  pub boxed : frame.dense ≡ true → AreOfBox w.cells

-- a delete may follow these deeds: the array is sparse, and the condition has a spelling
pub record DeletionFollows (before : History) (e : Deletion) : Type 0 where
  pub frame : Frame
  pub framed : frame_in before ≡ Some frame
  pub sparse : frame.dense ≡ false
  pub new : IsNewKey before e.key
  pub key : IsKey e.key
  pub cond : IsCond e.cond

-- the deed may follow these deeds
abbrev pub MayFollow : History → Deed → Type 0
MayFollow before (Framed frame) = FrameFollows before frame
MayFollow before (Declared s) = SchemaFollows before s
MayFollow before (Wrote w) = WriteFollows before w
MayFollow before (Erased e) = DeletionFollows before e

-- each of the deeds may follow those before it
abbrev pub Follow : History → History → Type 0
Follow before [] = ⊤
Follow before (d ∷ ds) = MayFollow before d × Follow (before ++ d ∷ []) ds

-- a history is empty or begins with its one frame, and each of its deeds may follow those before it
abbrev pub IsHistory : History → Type 0
IsHistory h = Follow [] h
