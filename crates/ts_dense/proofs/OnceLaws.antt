-- No part comes twice, so a look into the list of parts finds each.
use Rattle.std.proofs.Common.{◌≡◌, ℕ, suc, ◌<◌, ◌^◌, Bool, true, false, List, [], ◌∷◌, ◌++◌, length, map, refl, sym, ap, ◌∙◌, subst, arith}
use Rattle.std.specs.List.{All}
use Rattle.std.proofs.lemmas.List.{map-append}
use Rattle.ts_base.specs.declared.heads.Piece.{Piece}
use Rattle.ts_base.specs.declared.names.Part.{Part}
use Rattle.ts_base.specs.declared.names.PartBytes.{PartBytes}
use Rattle.ts_base.specs.declared.values.Val.{Val}
use Rattle.ts_base.specs.Values.{is_integer}
use Rattle.ts_schema.specs.Parts.{look_in}
use Rattle.ts_schema.specs.declared.attrs.Attr.{Attr}
use Rattle.ts_schema.specs.declared.frames.Frame.{Frame}
use Rattle.ts_schema.specs.declared.schemas.Schema.{Schema}
use Rattle.ts_plain.specs.declared.stored.StoredCell.{StoredCell}
use Rattle.ts_plain.specs.declared.stored.StoredPiece.{StoredPiece}
use Rattle.ts_plain.specs.Pieces.{piece_of}
use Rattle.ts_plain.specs.Writes.{box_of, hulled_for}
use Rattle.ts_sparse.specs.Sparse.{Object, value_column, validity_objects, origin_objects, column_part}
use Rattle.ts_sparse.specs.Sparse as sparse
use Rattle.ts_sparse.proofs.Rows.{cons_parts}
use Rattle.ts_sparse.proofs.OnceLaws.{Apart, Distinct, looks_there}
use Rattle.ts_sparse.proofs.OnceLaws as once
use Rattle.ts_dense.specs.Slots.{counts_over, slots_of}
use Rattle.ts_dense.specs.Dense.{fixed_objects, attr_objects, objects_of, meta_part, parts_of, FitsDense, IsDense}

-- ---- names alone say whether a part comes twice

apart_like : (p : Part) (xs ys : List PartBytes) → map (λ (x : PartBytes). x.part) xs ≡ map (λ (x : PartBytes). x.part) ys → Apart p xs → Apart p ys
apart_like p [] [] same far = tt
apart_like p [] (y ∷ ys) same far = absurd (omega (arith, ap length same))
apart_like p (x ∷ xs) [] same far = absurd (omega (arith, ap length same))
apart_like p (x ∷ xs) (y ∷ ys) same far =
    let parts = cons_parts x.part y.part (map (λ (x : PartBytes). x.part) xs) (map (λ (x : PartBytes). x.part) ys) same in
    ((λ e. far.0 (e ∙ sym parts.0)), apart_like p xs ys parts.1 far.1)

distinct_like : (xs ys : List PartBytes) → map (λ (x : PartBytes). x.part) xs ≡ map (λ (x : PartBytes). x.part) ys → Distinct xs → Distinct ys
distinct_like [] [] same distinct = tt
distinct_like [] (y ∷ ys) same distinct = absurd (omega (arith, ap length same))
distinct_like (x ∷ xs) [] same distinct = absurd (omega (arith, ap length same))
distinct_like (x ∷ xs) (y ∷ ys) same distinct =
    let parts = cons_parts x.part y.part (map (λ (x : PartBytes). x.part) xs) (map (λ (x : PartBytes). x.part) ys) same in
    (subst (λ p. Apart p ys) parts.0 (apart_like x.part xs ys parts.1 distinct.0), distinct_like xs ys parts.1 distinct.1)

-- the names of some objects
abbrev names : List Object → List Part
names os = map (λ (o : Object). o.part) os

names_behind : (os : List Object) (last : PartBytes) → map (λ (x : PartBytes). x.part) (map column_part os ++ last ∷ []) ≡ names os ++ last.part ∷ []
names_behind [] last = refl
names_behind (o ∷ os) last = ap (λ more. o.part ∷ more) (names_behind os last)

-- ---- the names are those of a sparse fragment without dimensions

fixed_names : (b : Bool) (n : ℕ) (counts : List ℕ) (k : ℕ) (a : Attr) (vals : List Val) → names (sparse.fixed_objects b n k a.ty vals) ≡ names (fixed_objects b counts k a.ty vals)
fixed_names true n counts k a vals = refl
fixed_names false n counts k a vals = refl

attr_names : (n : ℕ) (counts : List ℕ) (k : ℕ) (attrs : List Attr) (slots : List StoredCell) → names (sparse.attr_objects n k attrs slots) ≡ names (attr_objects counts k attrs slots)
attr_names n counts k [] slots = refl
attr_names n counts k (a ∷ attrs) slots =
    let vals = value_column k slots in
    let part_of : Object → Part = λ o. o.part in
    let one = sparse.fixed_objects (is_integer a.ty) n k a.ty vals in
    let two = fixed_objects (is_integer a.ty) counts k a.ty vals in
    let marks = validity_objects a.nullable k vals in
    map-append part_of one (marks ++ sparse.attr_objects n (suc k) attrs slots)
    ∙ ap (λ ps. ps ++ names (marks ++ sparse.attr_objects n (suc k) attrs slots)) (fixed_names (is_integer a.ty) n counts k a vals)
    ∙ ap (λ ps. names two ++ ps) (map-append part_of marks (sparse.attr_objects n (suc k) attrs slots) ∙ ap (λ ps. names marks ++ ps) (attr_names n counts (suc k) attrs slots) ∙ sym (map-append part_of marks (attr_objects counts (suc k) attrs slots)))
    ∙ sym (map-append part_of two (marks ++ attr_objects counts (suc k) attrs slots))

module _ (frame : Frame) (attrs : List Attr) (s : StoredPiece) where
  bare : Frame
  bare = record frame { domain = [] }

  filled : StoredPiece
  filled = record s { cells = slots_of frame s }

  same_names : map (λ (x : PartBytes). x.part) (sparse.parts_of bare attrs filled) ≡ map (λ (x : PartBytes). x.part) (parts_of frame attrs s)
  unfolding sparse.parts_of sparse.objects_of parts_of objects_of bare filled
  same_names =
      let counts = counts_over frame (box_of s.head.hull) in
      let slots = slots_of frame s in
      let origins = origin_objects s.head.consolidated slots in
      let part_of : Object → Part = λ o. o.part in
      names_behind (sparse.attr_objects frame.capacity 0 attrs slots ++ origins) (sparse.meta_part bare attrs filled)
      ∙ ap (λ ps. ps ++ (meta_part frame attrs s).part ∷ [])
      (map-append part_of (sparse.attr_objects frame.capacity 0 attrs slots) origins ∙ ap (λ ps. ps ++ names origins) (attr_names frame.capacity counts 0 attrs slots) ∙ sym (map-append part_of (attr_objects counts 0 attrs slots) origins))
      ∙ sym (names_behind (objects_of frame attrs s) (meta_part frame attrs s))

  parts_distinct : Distinct (parts_of frame attrs s)
  parts_distinct = distinct_like (sparse.parts_of bare attrs filled) (parts_of frame attrs s) same_names (once.parts_distinct bare attrs filled)

-- the parts of a piece whose stored form fits spell it
pub parts_spell : (frame : Frame) (schema : Schema) (piece : Piece) → FitsDense frame schema.attrs piece.head.frag (hulled_for piece) → piece ≡ piece_of piece.head.frag (hulled_for piece)
    → All (λ p. length p.bytes < 2 ^ 64) (parts_of frame schema.attrs (hulled_for piece)) → IsDense frame schema piece (look_in (parts_of frame schema.attrs (hulled_for piece)))
parts_spell frame schema piece fits same short = record {
  stored = hulled_for piece;
  fits = fits;
  parts = looks_there (parts_of frame schema.attrs (hulled_for piece)) (parts_distinct frame schema.attrs (hulled_for piece)) short;
  same = same;
}
