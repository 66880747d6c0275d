-- The laws of sparse fragments in tiles as a way to write fragments and to read them.
use Rattle.std.proofs.Common.{◌≡◌, ℕ, zero, suc, ◌+◌, ◌*◌, ◌^◌, ◌<◌, ◌≤◌, Bool, true, false, List, [], ◌∷◌, ◌++◌, length, map, slice_get, Some, Result, Ok, Err, inl, inr, refl, sym, ap, ◌∙◌, subst, arith}
use Rattle.std.specs.List.{All, flat_map}
use Rattle.std.proofs.lemmas.Bool.{cases_lt}
use Rattle.std.proofs.lemmas.Option.{same_Some}
use Rattle.std.proofs.lemmas.List.Elements.{All-head, All-weaker}
use Rattle.ts_base.specs.declared.keys.FragKey.{FragKey}
use Rattle.ts_base.specs.declared.names.Part.{Part}
use Rattle.ts_base.specs.declared.names.Part.TheVariants as part
use Rattle.ts_base.specs.declared.names.PartBytes.{PartBytes}
use Rattle.ts_base.specs.declared.values.Val.{Val}
use Rattle.ts_base.specs.declared.values.ValType.{ValType}
use Rattle.ts_base.specs.declared.heads.Head.{Head}
use Rattle.ts_base.specs.declared.heads.Piece.{Piece}
use Rattle.ts_base.specs.declared.names.Name.TheVariants as name
use Rattle.ts_base.specs.Values.{is_integer}
use Rattle.ts_domain.specs.declared.dims.Dim.{Dim}
use Rattle.ts_domain.specs.Rects.{rect_bytes}
use Rattle.ts_rtree.specs.Trees.{nodes_of}
use Rattle.ts_store.specs.declared.call.Call.{Call}
use Rattle.ts_store.specs.declared.call.Reply.{Reply}
use Rattle.ts_wire.specs.declared.faults.ReadFault.TheVariants as fault
use Rattle.ts_wire.specs.declared.kinds.Kind.TheVariants as kind
use Rattle.ts_wire.specs.Envelope.{wrapped}
use Rattle.ts_wire.specs.Numbers.{number_bytes}
use Rattle.ts_wire.proofs.Objects.{length-wrapped}
use Rattle.ts_schema.specs.declared.attrs.Attr.{Attr}
use Rattle.ts_schema.specs.declared.frames.Frame.{Frame}
use Rattle.ts_schema.specs.declared.schemas.Schema.{Schema}
use Rattle.ts_schema.specs.declared.wants.Want.{Want}
use Rattle.ts_schema.specs.FrameTexts.{IsFrame}
use Rattle.ts_schema.specs.SchemaTexts.{AreAttrs}
use Rattle.ts_schema.specs.Parts.{Look, look_in, IsShort}
use Rattle.ts_schema.specs.Wants.{taken}
use Rattle.ts_plain.specs.declared.stored.StoredCell.{StoredCell}
use Rattle.ts_plain.specs.declared.stored.StoredPiece.{StoredPiece}
use Rattle.ts_plain.specs.Plain.{head_bytes}
use Rattle.ts_plain.specs.Pieces.{head_of, piece_of}
use Rattle.ts_plain.specs.Writes.{stored_for}
use Rattle.ts_footer.specs.Columns.{sizes_of as told_sizes}
use Rattle.ts_footer.specs.Footers.{layout_bytes, footer_bytes}
use Rattle.ts_footer.specs.Metas.{meta_of, head_in, IsMetaObject}
use Rattle.ts_footer.proofs.MetaObjects.{only_head}
use Rattle.ts_sparse.specs.Tilings.{tiles_of}
use Rattle.ts_sparse.specs.Sparse.{Object, value_column, dim_objects, fixed_objects, validity_objects, attr_objects, origin_objects, objects_of, sizes_of, leaves_of, meta_bytes, column_part, meta_part, parts_of, FitsSparse, IsThere}
use Rattle.ts_sparse.specs.Told.{size_of, footer_of}
use Rattle.ts_sparse.proofs.Shapes.{all_parts}
use Rattle.ts_sparse.proofs.FormLaws.{form_of}
use Rattle.ts_sparse.proofs.OnceLaws as once
use Rattle.ts_sparse.proofs.OnePiece.{one_sparse}
use Rattle.ts_sparse.proofs.ToldLaws.{footer_fits}
use Rattle.ts_fetch.specs.Plans.{Going}
use Rattle.ts_model.specs.Consolidated.{NamesOwn, IsStorable}
use Rattle.ts_model.specs.Codecs.{AsksLooks, AsksHeld, SpeaksOf, IsToldOf, GoesWell, OpensWell, CodecLaws}
use Rattle.ts_actor.specs.PieceLaws.{SpellsOne}
use Rattle.ts_sparse_read.specs.declared.opened.Opened.{Opened}
use Rattle.ts_sparse_read.specs.Codecs.{IsSparseStorable, sparse_parts, IsSparseIn, sparse_codec, SparseTracks}
use Rattle.ts_actor.specs.PlainSources.{fits_storable}
use Rattle.ts_sparse_read.specs.SparseWrites.{sparse_ordinary}
use Rattle.ts_sparse_read.specs.SparseMerges.{sparse_merged}

-- ---- no part comes twice

map_split : (os ps : List Object) → map column_part (os ++ ps) ≡ map column_part os ++ map column_part ps
map_split [] ps = refl
map_split (o ∷ os) ps = ap (λ more. column_part o ∷ more) (map_split os ps)

-- of so many dimensions and attributes
module _ (dims attrs : ℕ) where
  -- the place of a part among all that there can be
  abbrev rank : Part → ℕ
  rank (part.Dim k) = k
  rank (part.Attr k) = dims + 3 * k
  rank (part.Var k) = dims + 3 * k + 1
  rank (part.Validity k) = dims + 3 * k + 2
  rank part.Origin = dims + 3 * attrs
  rank part.Meta = dims + 3 * attrs + 1
  rank part.Plain = 0

  -- the parts have ascending places, from one on up to another
  abbrev Ascend : ℕ → ℕ → List PartBytes → Type 0
  Ascend from end [] = from ≤ end
  Ascend from end (p ∷ ps) = (from ≤ rank p.part) × Ascend (suc (rank p.part)) end ps

  ascend_sooner : (from later end : ℕ) (ps : List PartBytes) → from ≤ later → Ascend later end ps → Ascend from end ps
  ascend_sooner from later end [] upto up = omega (arith, upto, up)
  ascend_sooner from later end (p ∷ ps) upto up = (omega (arith, upto, up.0), up.1)

  ascend_append : (from middle end : ℕ) (ps qs : List PartBytes) → Ascend from middle ps → Ascend middle end qs → Ascend from end (ps ++ qs)
  ascend_append from middle end [] qs first second = ascend_sooner from middle end qs first second
  ascend_append from middle end (p ∷ ps) qs first second = (first.0, ascend_append (suc (rank p.part)) middle end ps qs first.1 second)

  -- a part at a place has a place behind it
  rank_from : (from end : ℕ) (ps : List PartBytes) (i : ℕ) (x : PartBytes) → Ascend from end ps → slice_get ps i ≡ Some x → from ≤ rank x.part
  rank_from from end [] i x up at = absurd (cc)
  rank_from from end (p ∷ ps) zero x up at = subst (λ (q : PartBytes). from ≤ rank q.part) (same_Some p x at) up.0
  rank_from from end (p ∷ ps) (suc i) x up at = let behind = rank_from (suc (rank p.part)) end ps i x up.1 at in omega (arith, behind, up.0)

  -- the later one of two has the greater place
  rank_less : (from end : ℕ) (ps : List PartBytes) (i k : ℕ) (x y : PartBytes) → Ascend from end ps → i < k → slice_get ps i ≡ Some x → slice_get ps k ≡ Some y → rank x.part < rank y.part
  rank_less from end [] i k x y up less at_i at_k = absurd (cc)
  rank_less from end (p ∷ ps) i zero x y up less at_i at_k = absurd (omega (arith, less))
  rank_less from end (p ∷ ps) zero (suc k) x y up less at_i at_k =
      subst (λ (q : PartBytes). rank q.part < rank y.part) (same_Some p x at_i) (let behind = rank_from (suc (rank p.part)) end ps k y up.1 at_k in omega (arith, behind))
  rank_less from end (p ∷ ps) (suc i) (suc k) x y up less at_i at_k = rank_less (suc (rank p.part)) end ps i k x y up.1 (omega (arith, less)) at_i at_k

  -- so a part stands at one place
  one_place : (from end : ℕ) (ps : List PartBytes) (i k : ℕ) (x y : PartBytes) → Ascend from end ps → slice_get ps i ≡ Some x → slice_get ps k ≡ Some y → x.part ≡ y.part → i ≡ k
  one_place from end ps i k x y up at_i at_k same =
      let level : rank x.part ≡ rank y.part = ap rank same in
      elim (cases_lt i k) [
        | inl less ↦ let below = rank_less from end ps i k x y up less at_i at_k in absurd (omega (arith, below, level))
        | inr upto ↦ elim (cases_lt k i) [
          | inl less ↦ let below = rank_less from end ps k i y x up less at_k at_i in absurd (omega (arith, below, level))
          | inr downto ↦ omega (arith, upto, downto)
        ]
      ]

  dims_ascend : (k : ℕ) (ds : List Dim) (cells : List StoredCell) → Ascend k (k + length ds) (map column_part (dim_objects k ds cells))
  dims_ascend k [] cells = omega arith
  dims_ascend k (d ∷ ds) cells =
      let same : suc k + length ds ≡ k + length (d ∷ ds) = omega arith in
      (omega arith, subst (λ end. Ascend (suc k) end (map column_part (dim_objects (suc k) ds cells))) same (dims_ascend (suc k) ds cells))

  fixed_ascend : (b : Bool) (n k : ℕ) (ty : ValType) (vals : List Val) → Ascend (dims + 3 * k) (dims + 3 * k + 2) (map column_part (fixed_objects b n k ty vals))
  fixed_ascend true n k ty vals = (omega arith, omega arith)
  fixed_ascend false n k ty vals = (omega arith, (omega arith, omega arith))

  validity_ascend : (b : Bool) (k : ℕ) (vals : List Val) → Ascend (dims + 3 * k + 2) (dims + 3 * suc k) (map column_part (validity_objects b k vals))
  validity_ascend true k vals = (omega arith, omega arith)
  validity_ascend false k vals = omega arith

  attrs_ascend : (n k end : ℕ) (list : List Attr) (cells : List StoredCell) → end ≡ dims + 3 * (k + length list) → Ascend (dims + 3 * k) end (map column_part (attr_objects n k list cells))
  attrs_ascend n k end [] cells is = omega (arith, is)
  attrs_ascend n k end (a ∷ list) cells is =
      let vals = value_column k cells in
      let fixed = fixed_objects (is_integer a.ty) n k a.ty vals in
      let validity = validity_objects a.nullable k vals in
      let others = attr_objects n (suc k) list cells in
      let split = map_split fixed (validity ++ others) ∙ ap (λ more. map column_part fixed ++ more) (map_split validity others) in
      subst (Ascend (dims + 3 * k) end) (sym split)
      (ascend_append (dims + 3 * k) (dims + 3 * k + 2) end (map column_part fixed) (map column_part validity ++ map column_part others) (fixed_ascend (is_integer a.ty) n k a.ty vals)
      (ascend_append (dims + 3 * k + 2) (dims + 3 * suc k) end (map column_part validity) (map column_part others) (validity_ascend a.nullable k vals) (attrs_ascend n (suc k) end list cells (omega (arith, is)))))

  origin_ascend : (b : Bool) (cells : List StoredCell) → Ascend (dims + 3 * attrs) (dims + 3 * attrs + 1) (map column_part (origin_objects b cells))
  origin_ascend true cells = (omega arith, omega arith)
  origin_ascend false cells = omega arith

all_ascend : (frame : Frame) (attrs : List Attr) (s : StoredPiece) → Ascend (length frame.domain) (length attrs) 0 (length frame.domain + 3 * length attrs + 2) (parts_of frame attrs s)
unfolding parts_of objects_of
all_ascend frame attrs s =
    let d = length frame.domain in
    let n = length attrs in
    let dims = dim_objects 0 frame.domain s.cells in
    let values = attr_objects frame.capacity 0 attrs s.cells in
    let origins = origin_objects s.head.consolidated s.cells in
    let split = map_split dims (values ++ origins) ∙ ap (λ more. map column_part dims ++ more) (map_split values origins) in
    let start : 0 + d ≡ d = omega arith in
    let first : Ascend d n 0 d (map column_part dims) = subst (λ end. Ascend d n 0 end (map column_part dims)) start (dims_ascend d n 0 frame.domain s.cells) in
    let base : d ≡ d + 3 * 0 = omega arith in
    let second : Ascend d n d (d + 3 * n) (map column_part values) = subst (λ from. Ascend d n from (d + 3 * n) (map column_part values)) (sym base) (attrs_ascend d n frame.capacity 0 (d + 3 * n) attrs s.cells (omega arith)) in
    let third = ascend_append d n d (d + 3 * n) (d + 3 * n + 1) (map column_part values) (map column_part origins) second (origin_ascend d n s.head.consolidated s.cells) in
    let columns = ascend_append d n 0 d (d + 3 * n + 1) (map column_part dims) (map column_part values ++ map column_part origins) first third in
    ascend_append d n 0 (d + 3 * n + 1) (d + 3 * n + 2) (map column_part (dims ++ (values ++ origins))) (meta_part frame attrs s ∷ []) (subst (Ascend d n 0 (d + 3 * n + 1)) (sym split) columns) (omega arith, omega arith)

-- no part of a piece comes twice
pub sparse_once : (frame : Frame) (s : Schema) (p : Piece) (i k : ℕ) (x y : PartBytes) → slice_get (sparse_parts frame s p) i ≡ Some x → slice_get (sparse_parts frame s p) k ≡ Some y → x.part ≡ y.part → i ≡ k
sparse_once frame s p i k x y at_i at_k same =
    one_place (length frame.domain) (length s.attrs) 0 (length frame.domain + 3 * length s.attrs + 2) (sparse_parts frame s p) i k x y (all_ascend frame s.attrs (stored_for p)) at_i at_k same

-- ---- the metadata

-- the part of the metadata is the last
pub sparse_last : (frame : Frame) (s : Schema) (p : Piece) → (front : List PartBytes) × (bytes : List ℕ) × (sparse_parts frame s p ≡ front ++ record { part = part.Meta; bytes = bytes } ∷ [])
unfolding parts_of
sparse_last frame s p = (map column_part (objects_of frame s.attrs (stored_for p)), (meta_part frame s.attrs (stored_for p)).bytes, refl)

-- the parts of a piece that can be written spell it
pub sparse_spells : (frame : Frame) (s : Schema) (p : Piece) → IsSparseStorable frame s.attrs p → All (λ (x : PartBytes). IsShort x.bytes) (sparse_parts frame s p) → IsSparseIn frame s p (look_in (sparse_parts frame s p))
sparse_spells frame s p is short = record { some_dim = is.some_dim; stored = once.parts_spell frame s p is.fits is.same short }

-- the sizes that are told are those of the objects; this lemma and the next one stand in ts_sparse's ToldLaws too, where they are private
sizes_same : (os : List Object) → told_sizes (map size_of os) ≡ sizes_of os
sizes_same [] = refl
sizes_same (o ∷ os) = ap (λ more. (14 + length o.body) ∷ (o.starts ++ more)) (sizes_same os)

bytes_same : (frame : Frame) (attrs : List Attr) (s : StoredPiece) → meta_bytes frame attrs s ≡ footer_bytes (footer_of frame attrs s)
unfolding meta_bytes layout_bytes
bytes_same frame attrs s =
    let tiles = number_bytes 4 (length (tiles_of frame.capacity s.cells)) in
    let tree = flat_map rect_bytes (nodes_of (leaves_of frame.capacity s.cells)) in
    ap (λ sizes. head_bytes s.head ++ (tiles ++ (flat_map (number_bytes 8) sizes ++ tree))) (sym (sizes_same (objects_of frame attrs s)))

module _ (frame : Frame) (attrs : List Attr) (s : StoredPiece) where
  -- the part of the metadata is there, with all others
  meta_there : (look : Look) → All (IsThere look) (parts_of frame attrs s) → IsThere look (meta_part frame attrs s)
  unfolding parts_of
  meta_there look there = All-head (IsThere look) (meta_part frame attrs s) [] (all_parts (IsThere look) (map column_part (objects_of frame attrs s)) (meta_part frame attrs s ∷ []) there).1

  -- its object has the head
  head_there : (frag : FragKey) (look : Look) → FitsSparse frame attrs frag s → All (IsThere look) (parts_of frame attrs s) → head_in frame frag (meta_part frame attrs s).bytes ≡ Ok (head_of frag s.head)
  unfolding meta_of head_of
  head_there frag look fits there = by (head_in frame frag (meta_part frame attrs s).bytes) refl
    where
      room : length (wrapped kind.Meta (meta_bytes frame attrs s)) < 2 ^ 64
      room = (meta_there look there).few

      few : length (meta_bytes frame attrs s) < 2 ^ 64
      few = omega (arith, room, length-wrapped kind.Meta (meta_bytes frame attrs s))

      is : IsMetaObject frame attrs (meta_of frag (footer_of frame attrs s)) (meta_part frame attrs s).bytes
      is = record {
        stored = footer_of frame attrs s;
        fits = footer_fits frame attrs frag s fits (All-weaker (IsThere look) (λ (p : PartBytes). length p.bytes < 2 ^ 64) (λ p at. at.few) (parts_of frame attrs s) there);
        few = subst (λ bytes. length bytes < 2 ^ 64) (bytes_same frame attrs s) few;
        spelled = ap (wrapped kind.Meta) (bytes_same frame attrs s);
        same = refl;
      }

      by : (r : Result Head ℕ) → head_in frame frag (meta_part frame attrs s).bytes ≡ r → r ≡ Ok (head_of frag s.head)
      by (Ok found) e = ap Ok (only_head frame attrs (meta_of frag (footer_of frame attrs s)) frag (meta_part frame attrs s).bytes (Ok found) refl is e)
      by (Err at) e = absurd (only_head frame attrs (meta_of frag (footer_of frame attrs s)) frag (meta_part frame attrs s).bytes (Err (fault.Damaged (record { at = at }))) refl is e)

-- the part of the metadata is there, and its object is read as the head of the piece
pub sparse_head : (frame : Frame) (s : Schema) (p : Piece) (look : Look) → IsSparseIn frame s p look → (object : List ℕ) × (look part.Meta ≡ Some object) × (head_in frame p.head.frag object ≡ Ok p.head)
unfolding piece_of
sparse_head frame s p look is =
    let held = is.stored in
    let there = meta_there frame s.attrs held.stored look held.parts in
    ((meta_part frame s.attrs held.stored).bytes, there.there, head_there frame s.attrs held.stored p.head.frag look held.fits held.parts ∙ ap Ok (sym (ap (λ (q : Piece). q.head) held.same)))

-- ---- what is spelled

-- a piece that is spelled in tiles can be written so once more
pub spelled_storable : (frame : Frame) (s : Schema) (p : Piece) (look : Look) → IsSparseIn frame s p look → IsSparseStorable frame s.attrs p
spelled_storable frame s p look is =
    let held = is.stored in
    let form = form_of frame s.attrs p look held in
    record {
      some_dim = is.some_dim;
      fits = subst (FitsSparse frame s.attrs p.head.frag) form held.fits;
      same = held.same ∙ ap (piece_of p.head.frag) form;
    }

-- it can be a source of a consolidation
pub sparse_source : (frame : Frame) (s : Schema) (p : Piece) (look : Look) → IsFrame frame → AreAttrs s.attrs → NamesOwn p.head → IsSparseIn frame s p look → IsStorable frame s.attrs p × IsSparseStorable frame s.attrs p
sparse_source frame s p look is_frame are_attrs own is =
    let held = is.stored in
    (fits_storable frame s.attrs p held.stored is_frame are_attrs own (held.fits).plain held.same, spelled_storable frame s p look is)

-- the parts spell one piece
pub sparse_one : SpellsOne IsSparseIn
sparse_one frame s p q look named is other = one_sparse frame s p q look named is.stored other.stored

-- ---- all laws

-- a fetch begins well
abbrev pub SparseOpens : Type 0
SparseOpens = (frame : Frame) (s : Schema) (p : Piece) (look : Look) (want : Want) (object : List ℕ) → IsSparseIn frame s p look → look part.Meta ≡ Some object
    → OpensWell sparse_codec (SparseTracks frame s p look want) frame s p object want

-- a fetch asks for parts that the fragment has
abbrev pub SparseAsks : Type 0
SparseAsks = (frame : Frame) (s : Schema) (p : Piece) (look : Look) (want : Want) (f : Going Opened) (c : Call) → SparseTracks frame s p look want f c → AsksHeld look p.head.frag c

-- a fetch that is told what is held goes on well
abbrev pub SparseGoes : Type 0
SparseGoes = (frame : Frame) (s : Schema) (p : Piece) (look : Look) (want : Want) (f : Going Opened) (c : Call) (part : Part) (bytes : List ℕ) (r : Reply)
    → SparseTracks frame s p look want f c → look part ≡ Some bytes → SpeaksOf c (name.Part p.head.frag part) → IsToldOf c bytes r → GoesWell (SparseTracks frame s p look want) (taken want p.versions) (sparse_codec.steps f r)

-- the laws of sparse fragments in tiles, where fetches keep these four
pub sparse_laws : AsksLooks sparse_codec → SparseOpens → SparseAsks → SparseGoes → CodecLaws sparse_codec IsSparseIn SparseTracks
sparse_laws looks opens asks goes = record {
  ordinary = λ frame attrs p any. sparse_ordinary frame attrs p;
  merged = λ frame attrs id p ps any. sparse_merged frame attrs id p ps;
  parts = sparse_spells;
  last = λ frame s p is. sparse_last frame s p;
  storable = sparse_source;
  once = sparse_once;
  head = sparse_head;
  looks = looks;
  opens = opens;
  asks = asks;
  goes = goes;
}
