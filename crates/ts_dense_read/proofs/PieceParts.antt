-- What the parts of a piece keep that is written in space tiles.
use Rattle.std.proofs.Common.{◌≡◌, ℕ, suc, ◌+◌, ◌<◌, ◌≤◌, Bool, true, false, List, [], ◌∷◌, ◌++◌, length, map, sym, ◌∙◌, subst, arith}
use Rattle.std.specs.Prelude.{All, IfOk, Result, Ok, Err, nat_lt}
use Rattle.std.specs.List.Sorted.{IsStrictlySortedBy}
use Rattle.std.proofs.lemmas.Bool.{and_parts, ltb-true}
use Rattle.std.proofs.lemmas.List.{length-map}
use Rattle.std.proofs.lemmas.List.Elements.{All-nil, All-cons, All-append, All-map}
use Rattle.ts_base.specs.declared.heads.Piece.{Piece}
use Rattle.ts_base.specs.declared.heads.Version.{Version}
use Rattle.ts_base.specs.declared.keys.FragKey.{FragKey}
use Rattle.ts_base.specs.declared.names.PartBytes.{PartBytes}
use Rattle.ts_base.specs.declared.values.Val.{Val}
use Rattle.ts_base.specs.declared.values.ValType.{ValType}
use Rattle.ts_base.specs.Keys.{key_cmp}
use Rattle.ts_base.specs.Names.{IsSpelledPart}
use Rattle.ts_base.specs.Values.{is_integer}
use Rattle.ts_wire.specs.Exact.{InTurn}
use Rattle.ts_schema.specs.declared.attrs.Attr.{Attr}
use Rattle.ts_schema.specs.declared.frames.Frame.{Frame}
use Rattle.ts_schema.specs.declared.schemas.Schema.{Schema}
use Rattle.ts_plain.specs.declared.stored.Side.{Side}
use Rattle.ts_plain.specs.declared.stored.StoredCell.{StoredCell}
use Rattle.ts_plain.specs.declared.stored.StoredHead.{StoredHead}
use Rattle.ts_plain.specs.declared.stored.StoredPiece.{StoredPiece}
use Rattle.ts_plain.specs.Rules.{last_of, origin_rises}
use Rattle.ts_plain.specs.Plain.{FitsCell}
use Rattle.ts_plain.specs.Pieces.{no_key, version_in, head_of, piece_of}
use Rattle.ts_plain.specs.Writes.{HasPlace, NamesWrites, box_of, hulled_for}
use Rattle.ts_plain.proofs.Places.{place_of-at}
use Rattle.ts_plain.proofs.WrittenPieces.{origins_ascend}
use Rattle.ts_sparse.specs.Sparse.{Object, value_column, numbers_object, validity_objects, origin_objects, column_part}
use Rattle.ts_dense.specs.Slots.{counts_over, slots_of}
use Rattle.ts_dense.specs.Dense.{starts_object, bytes_object, fixed_objects, attr_objects, objects_of, meta_part, parts_of, FitsDense}
use Rattle.ts_dense_read.specs.SpaceCodecs.{space_parts, IsSpaceStorable}

-- ---- each version can name its write

-- the write of each cell is among the origins
versions_known : (frame : Frame) (attrs : List Attr) (head : StoredHead) (front cells : List StoredCell) → IsStrictlySortedBy key_cmp head.origins → InTurn (FitsCell frame attrs head) front cells
    → All (λ (v : Version). HasPlace head.origins v.key) (map (version_in head) cells)
versions_known frame attrs head front [] up fits = All-nil (λ (v : Version). HasPlace head.origins v.key)
versions_known frame attrs head front (cell ∷ cells) up fits =
    let known = ltb-true cell.origin (length head.origins) (and_parts (nat_lt cell.origin (length head.origins)) (origin_rises frame.dense (last_of front) cell.coords cell.origin) fits.0.known).0 in
    let place = place_of-at head.origins cell.origin no_key up known in
    All-cons (λ (v : Version). HasPlace head.origins v.key) (version_in head cell) (map (version_in head) cells) (subst (λ n. n < length head.origins) (sym place) known)
    (versions_known frame attrs head (front ++ cell ∷ []) cells up fits.1)

-- so each version of what can be stored in space tiles can name its write
names_of : (frame : Frame) (attrs : List Attr) (frag : FragKey) (s : StoredPiece) → FitsDense frame attrs frag s → NamesWrites (piece_of frag s)
unfolding piece_of head_of
names_of frame attrs frag s fits =
    let up = origins_ascend frag s.head.consolidated s.head.origins (fits.head).some_origin (fits.head).origins in
    let low = length-map s.head.hull (λ (side : Side). side.low) in
    let high = length-map s.head.hull (λ (side : Side). side.high) in
    record { corners = high ∙ sym low; few = (fits.head).few_origins; ascend = up; known = versions_known frame attrs s.head [] s.cells up fits.cells }

pub names_writes : (frame : Frame) (attrs : List Attr) (p : Piece) → IsSpaceStorable frame attrs p → NamesWrites p
names_writes frame attrs p is = subst NamesWrites (sym is.same) (names_of frame attrs p.head.frag (hulled_for p) is.fits)

-- ---- the parts have spellings

abbrev Spelled : Object → Type 0
Spelled o = IsSpelledPart o.part

fixed_spelled : (b : Bool) (counts : List ℕ) (k : ℕ) (ty : ValType) (vals : List Val) → k ≤ 63 → All Spelled (fixed_objects b counts k ty vals)
fixed_spelled true counts k ty vals here = All-cons Spelled (numbers_object k ty vals) [] here (All-nil Spelled)
fixed_spelled false counts k ty vals here = All-cons Spelled (starts_object counts k vals) (bytes_object counts k vals ∷ []) here (All-cons Spelled (bytes_object counts k vals) [] here (All-nil Spelled))

validity_spelled : (b : Bool) (k : ℕ) (vals : List Val) → k ≤ 63 → All Spelled (validity_objects b k vals)
validity_spelled false k vals here = All-nil Spelled
validity_spelled true k vals here = All-cons Spelled _ [] here (All-nil Spelled)

attrs_spelled : (counts : List ℕ) (k : ℕ) (attrs : List Attr) (slots : List StoredCell) → k + length attrs ≤ 64 → All Spelled (attr_objects counts k attrs slots)
attrs_spelled counts k [] slots few = All-nil Spelled
attrs_spelled counts k (a ∷ attrs) slots few =
    let here : k ≤ 63 = omega (arith, few) in
    let room : suc k + length attrs ≤ 64 = omega (arith, few) in
    let vals = value_column k slots in
    All-append Spelled (fixed_objects (is_integer a.ty) counts k a.ty vals) (validity_objects a.nullable k vals ++ attr_objects counts (suc k) attrs slots) (fixed_spelled (is_integer a.ty) counts k a.ty vals here)
    (All-append Spelled (validity_objects a.nullable k vals) (attr_objects counts (suc k) attrs slots) (validity_spelled a.nullable k vals here) (attrs_spelled counts (suc k) attrs slots room))

origins_spelled : (b : Bool) (slots : List StoredCell) → All Spelled (origin_objects b slots)
origins_spelled false slots = All-nil Spelled
origins_spelled true slots = All-cons Spelled _ [] tt (All-nil Spelled)

objects_spelled : (frame : Frame) (attrs : List Attr) (s : StoredPiece) → length attrs ≤ 64 → All Spelled (objects_of frame attrs s)
unfolding objects_of
objects_spelled frame attrs s few =
    let counts = counts_over frame (box_of s.head.hull) in
    let slots = slots_of frame s in
    All-append Spelled (attr_objects counts 0 attrs slots) (origin_objects s.head.consolidated slots) (attrs_spelled counts 0 attrs slots (omega (arith, few))) (origins_spelled s.head.consolidated slots)

abbrev SpelledBytes : PartBytes → Type 0
SpelledBytes x = IsSpelledPart x.part

parts_spelled : (frame : Frame) (attrs : List Attr) (s : StoredPiece) → length attrs ≤ 64 → All SpelledBytes (parts_of frame attrs s)
unfolding parts_of
parts_spelled frame attrs s few =
    All-append SpelledBytes (map column_part (objects_of frame attrs s)) (meta_part frame attrs s ∷ []) (All-map SpelledBytes column_part (objects_of frame attrs s) (objects_spelled frame attrs s few))
    (All-cons SpelledBytes (meta_part frame attrs s) [] tt (All-nil SpelledBytes))

-- the parts that were built have spellings
pub built_spelled : {E : Type 0} (frame : Frame) (s : Schema) (p : Piece) (r : Result (List PartBytes) E) → IsSpaceStorable frame s.attrs p → IfOk r (λ parts. parts ≡ space_parts frame s p) → IfOk r (All SpelledBytes)
built_spelled frame s p (Ok parts) storable is = subst (All SpelledBytes) (sym is) (parts_spelled frame s.attrs (hulled_for p) (storable.fits).few_attrs)
built_spelled frame s p (Err e) storable is = tt
