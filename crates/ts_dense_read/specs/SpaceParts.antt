-- The parts of a dense fragment in space tiles: they spell its piece and no other, that of the metadata is the last, and none comes twice.
use Rattle.std.proofs.Common.{◌≡◌, ℕ, zero, suc, ◌+◌, ◌*◌, ◌<◌, ◌≤◌, Bool, true, false, List, [], ◌∷◌, ◌++◌, length, map, slice_get, Some, inl, inr, refl, sym, ap, ◌∙◌, subst, arith}
use Rattle.std.specs.List.{All}
use Rattle.std.proofs.lemmas.Bool.{cases_lt}
use Rattle.std.proofs.lemmas.Option.{same_Some}
use Rattle.std.proofs.lemmas.List.{map-append}
use Rattle.ts_base.specs.declared.names.Part.{Part}
use Rattle.ts_base.specs.declared.names.Part.TheVariants as part
use Rattle.ts_base.specs.declared.names.PartBytes.{PartBytes}
use Rattle.ts_base.specs.declared.values.Val.{Val}
use Rattle.ts_base.specs.declared.values.ValType.{ValType}
use Rattle.ts_base.specs.declared.heads.Piece.{Piece}
use Rattle.ts_base.specs.Values.{is_integer}
use Rattle.ts_schema.specs.declared.attrs.Attr.{Attr}
use Rattle.ts_schema.specs.declared.frames.Frame.{Frame}
use Rattle.ts_schema.specs.declared.schemas.Schema.{Schema}
use Rattle.ts_schema.specs.Parts.{look_in, IsShort}
use Rattle.ts_plain.specs.declared.stored.StoredCell.{StoredCell}
use Rattle.ts_plain.specs.declared.stored.StoredPiece.{StoredPiece}
use Rattle.ts_plain.specs.Writes.{box_of, hulled_for}
use Rattle.ts_sparse.specs.Sparse.{value_column, validity_objects, origin_objects, column_part}
use Rattle.ts_dense.specs.Slots.{counts_over, slots_of}
use Rattle.ts_dense.specs.Dense.{fixed_objects, attr_objects, objects_of, meta_part, parts_of, IsDense}
use Rattle.ts_dense.proofs.OnceLaws.{parts_spell}
use Rattle.ts_dense.proofs.OnePiece.{one_dense}
use Rattle.ts_actor.specs.PieceLaws.{SpellsOne}
use Rattle.ts_dense_read.specs.SpaceCodecs.{IsSpaceStorable, space_parts}

-- ---- no part comes twice

-- of so many attributes
module _ (attrs : ℕ) where
  -- the place of a part among all that there can be
  abbrev rank : Part → ℕ
  rank (part.Dim k) = 0
  rank (part.Attr k) = 3 * k
  rank (part.Var k) = 3 * k + 1
  rank (part.Validity k) = 3 * k + 2
  rank part.Origin = 3 * attrs
  rank part.Meta = 3 * attrs + 1
  rank part.Plain = 0

  -- the parts have ascending places, from one on up to another
  abbrev Ascend : ℕ → ℕ → List PartBytes → Type 0
  Ascend from end [] = from ≤ end
  Ascend from end (p ∷ ps) = (from ≤ rank p.part) × Ascend (suc (rank p.part)) end ps

  -- ascending places may be counted from a lesser one on
  ascend_sooner : (from later end : ℕ) (ps : List PartBytes) → from ≤ later → Ascend later end ps → Ascend from end ps
  ascend_sooner from later end [] upto up = omega (arith, upto, up)
  ascend_sooner from later end (p ∷ ps) upto up = (omega (arith, upto, up.0), up.1)

  -- parts that ascend up to a place may be followed by parts that ascend from it on
  ascend_append : (from middle end : ℕ) (ps qs : List PartBytes) → Ascend from middle ps → Ascend middle end qs → Ascend from end (ps ++ qs)
  ascend_append from middle end [] qs first second = ascend_sooner from middle end qs first second
  ascend_append from middle end (p ∷ ps) qs first second = (first.0, ascend_append (suc (rank p.part)) middle end ps qs first.1 second)

  -- each part has a place behind the first one
  rank_from : (from end : ℕ) (ps : List PartBytes) (i : ℕ) (x : PartBytes) → Ascend from end ps → slice_get ps i ≡ Some x → from ≤ rank x.part
  rank_from from end [] i x up at = absurd (cc)
  rank_from from end (p ∷ ps) zero x up at = subst (λ (q : PartBytes). from ≤ rank q.part) (same_Some p x at) up.0
  rank_from from end (p ∷ ps) (suc i) x up at = let behind = rank_from (suc (rank p.part)) end ps i x up.1 at in omega (arith, behind, up.0)

  -- the later one of two has the greater place
  rank_less : (from end : ℕ) (ps : List PartBytes) (i k : ℕ) (x y : PartBytes) → Ascend from end ps → i < k → slice_get ps i ≡ Some x → slice_get ps k ≡ Some y → rank x.part < rank y.part
  rank_less from end [] i k x y up less at_i at_k = absurd (cc)
  rank_less from end (p ∷ ps) i zero x y up less at_i at_k = absurd (omega (arith, less))
  rank_less from end (p ∷ ps) zero (suc k) x y up less at_i at_k =
      subst (λ (q : PartBytes). rank q.part < rank y.part) (same_Some p x at_i) (let behind = rank_from (suc (rank p.part)) end ps k y up.1 at_k in omega (arith, behind))
  rank_less from end (p ∷ ps) (suc i) (suc k) x y up less at_i at_k = rank_less (suc (rank p.part)) end ps i k x y up.1 (omega (arith, less)) at_i at_k

  -- so a part stands at one place
  one_place : (from end : ℕ) (ps : List PartBytes) (i k : ℕ) (x y : PartBytes) → Ascend from end ps → slice_get ps i ≡ Some x → slice_get ps k ≡ Some y → x.part ≡ y.part → i ≡ k
  one_place from end ps i k x y up at_i at_k same =
      let level : rank x.part ≡ rank y.part = ap rank same in
      elim (cases_lt i k) [
        | inl less ↦ let below = rank_less from end ps i k x y up less at_i at_k in absurd (omega (arith, below, level))
        | inr upto ↦ elim (cases_lt k i) [
          | inl less ↦ let below = rank_less from end ps k i y x up less at_k at_i in absurd (omega (arith, below, level))
          | inr downto ↦ omega (arith, upto, downto)
        ]
      ]

  -- the values of an attribute are one part, or two
  fixed_ascend : (b : Bool) (counts : List ℕ) (k : ℕ) (ty : ValType) (vals : List Val) → Ascend (3 * k) (3 * k + 2) (map column_part (fixed_objects b counts k ty vals))
  fixed_ascend true counts k ty vals = (omega arith, omega arith)
  fixed_ascend false counts k ty vals = (omega arith, (omega arith, omega arith))

  -- which of them are there is one part more, or none
  validity_ascend : (b : Bool) (k : ℕ) (vals : List Val) → Ascend (3 * k + 2) (3 * suc k) (map column_part (validity_objects b k vals))
  validity_ascend true k vals = (omega arith, omega arith)
  validity_ascend false k vals = omega arith

  -- the parts of attributes ascend
  attrs_ascend : (counts : List ℕ) (k end : ℕ) (list : List Attr) (slots : List StoredCell) → end ≡ 3 * (k + length list) → Ascend (3 * k) end (map column_part (attr_objects counts k list slots))
  attrs_ascend counts k end [] slots is = omega (arith, is)
  attrs_ascend counts k end (a ∷ list) slots is =
      let vals = value_column k slots in
      let fixed = fixed_objects (is_integer a.ty) counts k a.ty vals in
      let validity = validity_objects a.nullable k vals in
      let others = attr_objects counts (suc k) list slots in
      let split = map-append column_part fixed (validity ++ others) ∙ ap (λ more. map column_part fixed ++ more) (map-append column_part validity others) in
      subst (Ascend (3 * k) end) (sym split)
      (ascend_append (3 * k) (3 * k + 2) end (map column_part fixed) (map column_part validity ++ map column_part others) (fixed_ascend (is_integer a.ty) counts k a.ty vals)
      (ascend_append (3 * k + 2) (3 * suc k) end (map column_part validity) (map column_part others) (validity_ascend a.nullable k vals) (attrs_ascend counts (suc k) end list slots (omega (arith, is)))))

  -- the origins are one part behind them, or none
  origin_ascend : (b : Bool) (slots : List StoredCell) → Ascend (3 * attrs) (3 * attrs + 1) (map column_part (origin_objects b slots))
  origin_ascend true slots = (omega arith, omega arith)
  origin_ascend false slots = omega arith

-- all parts of a fragment ascend
all_ascend : (frame : Frame) (attrs : List Attr) (s : StoredPiece) → Ascend (length attrs) 0 (3 * length attrs + 2) (parts_of frame attrs s)
unfolding parts_of objects_of
all_ascend frame attrs s =
    let n = length attrs in
    let values = attr_objects (counts_over frame (box_of s.head.hull)) 0 attrs (slots_of frame s) in
    let origins = origin_objects s.head.consolidated (slots_of frame s) in
    let first : Ascend n 0 (3 * n) (map column_part values) = attrs_ascend n (counts_over frame (box_of s.head.hull)) 0 (3 * n) attrs (slots_of frame s) (omega arith) in
    let columns = ascend_append n 0 (3 * n) (3 * n + 1) (map column_part values) (map column_part origins) first (origin_ascend n s.head.consolidated (slots_of frame s)) in
    ascend_append n 0 (3 * n + 1) (3 * n + 2) (map column_part (values ++ origins)) (meta_part frame attrs s ∷ []) (subst (Ascend n 0 (3 * n + 1)) (sym (map-append column_part values origins)) columns) (omega arith, omega arith)

-- no part of a piece comes twice
pub space_once : (frame : Frame) (s : Schema) (p : Piece) (i k : ℕ) (x y : PartBytes) → slice_get (space_parts frame s p) i ≡ Some x → slice_get (space_parts frame s p) k ≡ Some y → x.part ≡ y.part → i ≡ k
space_once frame s p i k x y at_i at_k same = one_place (length s.attrs) 0 (3 * length s.attrs + 2) (space_parts frame s p) i k x y (all_ascend frame s.attrs (hulled_for p)) at_i at_k same

-- ---- the parts

-- the part of the metadata is the last
pub space_last : (frame : Frame) (s : Schema) (p : Piece) → (front : List PartBytes) × (bytes : List ℕ) × (space_parts frame s p ≡ front ++ record { part = part.Meta; bytes = bytes } ∷ [])
unfolding parts_of
space_last frame s p = (map column_part (objects_of frame s.attrs (hulled_for p)), (meta_part frame s.attrs (hulled_for p)).bytes, refl)

-- the parts of a piece that can be written spell it
pub space_spells : (frame : Frame) (s : Schema) (p : Piece) → IsSpaceStorable frame s.attrs p → All (λ (x : PartBytes). IsShort x.bytes) (space_parts frame s p) → IsDense frame s p (look_in (space_parts frame s p))
space_spells frame s p is short = parts_spell frame s p is.fits is.same short

-- the parts spell one piece
pub space_one : SpellsOne IsDense
space_one frame s p q look named is other = one_dense frame s p q look named is other
