-- What the parts of a piece keep that is written in tiles.
use Rattle.std.proofs.Common.{◌≡◌, ℕ, suc, ◌+◌, ◌≤◌, Bool, true, false, List, [], ◌∷◌, ◌++◌, length, map, sym, subst, arith}
use Rattle.std.specs.Prelude.{All, IfOk, Result, Ok, Err}
use Rattle.std.proofs.lemmas.List.Elements.{All-nil, All-cons, All-append, All-map}
use Rattle.ts_base.specs.declared.names.PartBytes.{PartBytes}
use Rattle.ts_base.specs.declared.values.Val.{Val}
use Rattle.ts_base.specs.declared.values.ValType.{ValType}
use Rattle.ts_base.specs.declared.heads.Piece.{Piece}
use Rattle.ts_base.specs.Names.{IsSpelledPart}
use Rattle.ts_base.specs.Values.{is_integer}
use Rattle.ts_domain.specs.declared.dims.Dim.{Dim}
use Rattle.ts_schema.specs.declared.attrs.Attr.{Attr}
use Rattle.ts_schema.specs.declared.frames.Frame.{Frame}
use Rattle.ts_plain.specs.declared.stored.StoredCell.{StoredCell}
use Rattle.ts_plain.specs.declared.stored.StoredPiece.{StoredPiece}
use Rattle.ts_plain.specs.Writes.{NamesWrites}
use Rattle.ts_sparse.specs.Sparse.{Object, value_column, dim_objects, numbers_object, starts_object, bytes_object, fixed_objects, validity_objects, attr_objects, origin_objects, objects_of, column_part, meta_part, parts_of}
use Rattle.ts_actor.specs.PlainWrites.{storable_names}
use Rattle.ts_sparse_read.specs.Codecs.{IsSparseStorable}

-- each version of such a piece can name its write
pub names_writes : (frame : Frame) (attrs : List Attr) (p : Piece) → IsSparseStorable frame attrs p → NamesWrites p
names_writes frame attrs p is = storable_names frame attrs p (record { fits = is.fits.plain; same = is.same })

-- ---- the parts have spellings

abbrev Spelled : Object → Type 0
Spelled o = IsSpelledPart o.part

dims_spelled : (k : ℕ) (dims : List Dim) (cells : List StoredCell) → k + length dims ≤ 8 → All Spelled (dim_objects k dims cells)
dims_spelled k [] cells few = All-nil Spelled
dims_spelled k (d ∷ dims) cells few =
    let here : k ≤ 7 = omega (arith, few) in
    let room : suc k + length dims ≤ 8 = omega (arith, few) in
    All-cons Spelled _ (dim_objects (suc k) dims cells) here (dims_spelled (suc k) dims cells room)

fixed_spelled : (b : Bool) (n k : ℕ) (ty : ValType) (vals : List Val) → k ≤ 63 → All Spelled (fixed_objects b n k ty vals)
fixed_spelled true n k ty vals here = All-cons Spelled (numbers_object k ty vals) [] here (All-nil Spelled)
fixed_spelled false n k ty vals here = All-cons Spelled (starts_object n k vals) (bytes_object n k vals ∷ []) here (All-cons Spelled (bytes_object n k vals) [] here (All-nil Spelled))

validity_spelled : (b : Bool) (k : ℕ) (vals : List Val) → k ≤ 63 → All Spelled (validity_objects b k vals)
validity_spelled false k vals here = All-nil Spelled
validity_spelled true k vals here = All-cons Spelled _ [] here (All-nil Spelled)

attrs_spelled : (n k : ℕ) (attrs : List Attr) (cells : List StoredCell) → k + length attrs ≤ 64 → All Spelled (attr_objects n k attrs cells)
attrs_spelled n k [] cells few = All-nil Spelled
attrs_spelled n k (a ∷ attrs) cells few =
    let here : k ≤ 63 = omega (arith, few) in
    let room : suc k + length attrs ≤ 64 = omega (arith, few) in
    let vals = value_column k cells in
    All-append Spelled (fixed_objects (is_integer a.ty) n k a.ty vals) (validity_objects a.nullable k vals ++ attr_objects n (suc k) attrs cells) (fixed_spelled (is_integer a.ty) n k a.ty vals here)
    (All-append Spelled (validity_objects a.nullable k vals) (attr_objects n (suc k) attrs cells) (validity_spelled a.nullable k vals here) (attrs_spelled n (suc k) attrs cells room))

origins_spelled : (b : Bool) (cells : List StoredCell) → All Spelled (origin_objects b cells)
origins_spelled false cells = All-nil Spelled
origins_spelled true cells = All-cons Spelled _ [] tt (All-nil Spelled)

objects_spelled : (frame : Frame) (attrs : List Attr) (stored : StoredPiece) → length frame.domain ≤ 8 → length attrs ≤ 64 → All Spelled (objects_of frame attrs stored)
unfolding objects_of
objects_spelled frame attrs stored dims few =
    All-append Spelled (dim_objects 0 frame.domain stored.cells) (attr_objects frame.capacity 0 attrs stored.cells ++ origin_objects stored.head.consolidated stored.cells)
    (dims_spelled 0 frame.domain stored.cells (omega (arith, dims)))
    (All-append Spelled (attr_objects frame.capacity 0 attrs stored.cells) (origin_objects stored.head.consolidated stored.cells) (attrs_spelled frame.capacity 0 attrs stored.cells (omega (arith, few))) (origins_spelled stored.head.consolidated stored.cells))

abbrev SpelledBytes : PartBytes → Type 0
SpelledBytes x = IsSpelledPart x.part

parts_spelled : (frame : Frame) (attrs : List Attr) (stored : StoredPiece) → length frame.domain ≤ 8 → length attrs ≤ 64 → All SpelledBytes (parts_of frame attrs stored)
unfolding parts_of
parts_spelled frame attrs stored dims few =
    All-append SpelledBytes (map column_part (objects_of frame attrs stored)) (meta_part frame attrs stored ∷ []) (All-map SpelledBytes column_part (objects_of frame attrs stored) (objects_spelled frame attrs stored dims few))
    (All-cons SpelledBytes (meta_part frame attrs stored) [] tt (All-nil SpelledBytes))

-- the parts that were built have spellings
pub built_spelled : {E : Type 0} (frame : Frame) (attrs : List Attr) (stored : StoredPiece) (r : Result (List PartBytes) E) → length frame.domain ≤ 8 → length attrs ≤ 64 → IfOk r (λ parts. parts ≡ parts_of frame attrs stored) → IfOk r (All SpelledBytes)
built_spelled frame attrs stored (Ok parts) dims few is = subst (All SpelledBytes) (sym is) (parts_spelled frame attrs stored dims few)
built_spelled frame attrs stored (Err e) dims few is = tt
