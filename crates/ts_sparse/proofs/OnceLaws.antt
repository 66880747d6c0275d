-- No part comes twice, so a look into the list of parts finds each.
use Rattle.std.proofs.Common.{◌≡◌, ℕ, suc, ◌<◌, ◌≤◌, ◌^◌, Bool, true, false, cond, List, [], ◌∷◌, ◌++◌, length, map, Some, refl, sym, ap, ◌∙◌, subst, arith, ◌⊎◌, inl, inr}
use Rattle.std.specs.List.{All}
use Rattle.std.proofs.lemmas.Bool.{eqb-true, eq-eqb}
use Rattle.std.proofs.lemmas.List.Elements.{All-head, All-tail, All-nil, All-cons}
use Rattle.ts_base.specs.declared.heads.Piece.{Piece}
use Rattle.ts_base.specs.declared.names.Part.{Part}
use Rattle.ts_base.specs.declared.names.Part.TheVariants as kind_of
use Rattle.ts_base.specs.declared.names.PartBytes.{PartBytes}
use Rattle.ts_base.specs.contracts.names.PartPartialEq.TheImpl as part
use Rattle.ts_base.specs.declared.values.Val.{Val}
use Rattle.ts_base.specs.Values.{is_integer}
use Rattle.ts_domain.specs.declared.dims.Dim.{Dim}
use Rattle.ts_schema.specs.Parts.{look_in}
use Rattle.ts_schema.specs.declared.attrs.Attr.{Attr}
use Rattle.ts_schema.specs.declared.frames.Frame.{Frame}
use Rattle.ts_schema.specs.declared.schemas.Schema.{Schema}
use Rattle.ts_plain.specs.declared.stored.StoredCell.{StoredCell}
use Rattle.ts_plain.specs.declared.stored.StoredPiece.{StoredPiece}
use Rattle.ts_plain.specs.Pieces.{piece_of}
use Rattle.ts_plain.specs.Writes.{stored_for}
use Rattle.ts_sparse.specs.Sparse.{Object, value_column, dim_objects, fixed_objects, validity_objects, attr_objects, origin_objects, objects_of, column_part, meta_part, parts_of, FitsSparse, IsThere, IsSparse}

same_part : (p q : Part) → (part.ghosts).eq p q ≡ true → p ≡ q
same_part kind_of.Meta kind_of.Meta e = refl
same_part (kind_of.Attr n) (kind_of.Attr k) e = ap kind_of.Attr (eqb-true n k e)
same_part (kind_of.Var n) (kind_of.Var k) e = ap kind_of.Var (eqb-true n k e)
same_part (kind_of.Validity n) (kind_of.Validity k) e = ap kind_of.Validity (eqb-true n k e)
same_part (kind_of.Dim n) (kind_of.Dim k) e = ap kind_of.Dim (eqb-true n k e)
same_part kind_of.Origin kind_of.Origin e = refl
same_part kind_of.Plain kind_of.Plain e = refl
same_part _ _ e = cc

equals_itself : (p : Part) → (part.ghosts).eq p p ≡ true
equals_itself kind_of.Meta = refl
equals_itself (kind_of.Attr n) = eq-eqb n n refl
equals_itself (kind_of.Var n) = eq-eqb n n refl
equals_itself (kind_of.Validity n) = eq-eqb n n refl
equals_itself (kind_of.Dim n) = eq-eqb n n refl
equals_itself kind_of.Origin = refl
equals_itself kind_of.Plain = refl

abbrev group : Part → ℕ
group (kind_of.Dim k) = 0
group (kind_of.Attr k) = 1
group (kind_of.Var k) = 2
group (kind_of.Validity k) = 3
group kind_of.Origin = 4
group kind_of.Meta = 5
group kind_of.Plain = 6

abbrev number : Part → ℕ
number (kind_of.Dim k) = k
number (kind_of.Attr k) = k
number (kind_of.Var k) = k
number (kind_of.Validity k) = k
number _ = 0

-- each part keeps a rule, and no part is another's
abbrev pub AllParts : (Part → Type 0) → List PartBytes → Type 0
AllParts P [] = Unit {0}
AllParts P (o ∷ os) = P o.part × AllParts P os

abbrev pub Apart : Part → List PartBytes → Type 0
Apart p os = AllParts (λ q. p ≡ q → ⊥) os

abbrev pub Distinct : List PartBytes → Type 0
Distinct [] = Unit {0}
Distinct (o ∷ os) = Apart o.part os × Distinct os

parts_weaker : (P Q : Part → Type 0) → ((p : Part) → P p → Q p) → (os : List PartBytes) → AllParts P os → AllParts Q os
parts_weaker P Q f [] all = tt
parts_weaker P Q f (o ∷ os) all = (f o.part all.0, parts_weaker P Q f os all.1)

parts_append : (P : Part → Type 0) (xs ys : List PartBytes) → AllParts P xs → AllParts P ys → AllParts P (xs ++ ys)
parts_append P [] ys a b = b
parts_append P (x ∷ xs) ys a b = (a.0, parts_append P xs ys a.1 b)

distinct_append : (P Q : Part → Type 0) → ((p q : Part) → P p → Q q → p ≡ q → ⊥) → (xs ys : List PartBytes) → AllParts P xs → AllParts Q ys → Distinct xs → Distinct ys → Distinct (xs ++ ys)
distinct_append P Q far [] ys a b one two = two
distinct_append P Q far (x ∷ xs) ys a b one two =
    (parts_append (λ q. x.part ≡ q → ⊥) xs ys one.0 (parts_weaker Q (λ q. x.part ≡ q → ⊥) (λ q h. far x.part q a.0 h) ys b), distinct_append P Q far xs ys a.1 b one.1 two)

map_split : (os ps : List Object) → map column_part (os ++ ps) ≡ map column_part os ++ map column_part ps
map_split [] ps = refl
map_split (o ∷ os) ps = ap (λ more. column_part o ∷ more) (map_split os ps)

-- ---- the parts of each kind

abbrev OfDims : ℕ → Part → Type 0
OfDims k p = (group p ≡ 0) × (k ≤ number p)

abbrev OfAttrs : ℕ → Part → Type 0
OfAttrs k p = (1 ≤ group p) × ((group p ≤ 3) × (k ≤ number p))

dims_of : (k j : ℕ) (ds : List Dim) (cells : List StoredCell) → j ≤ k → AllParts (OfDims j) (map column_part (dim_objects k ds cells))
dims_of k j [] cells below = tt
dims_of k j (d ∷ ds) cells below = ((refl, below), dims_of (suc k) j ds cells (omega arith))

dims_distinct : (k : ℕ) (ds : List Dim) (cells : List StoredCell) → Distinct (map column_part (dim_objects k ds cells))
dims_distinct k [] cells = tt
dims_distinct k (d ∷ ds) cells = (
  parts_weaker (OfDims (suc k)) (λ q. kind_of.Dim k ≡ q → ⊥) (λ q h same. let e : k ≡ number q = ap number same in let low = h.1 in omega arith) (map column_part (dim_objects (suc k) ds cells)) (dims_of (suc k) (suc k) ds cells (omega arith)),
  dims_distinct (suc k) ds cells,
)

module _ (n : ℕ) where
  abbrev Here : ℕ → ℕ → ℕ → Part → Type 0
  Here k low high p = (low ≤ group p) × ((group p ≤ high) × (number p ≡ k))

  fixed_here : (b : Bool) (k : ℕ) (a : Attr) (vals : List Val) → AllParts (Here k 1 2) (map column_part (fixed_objects b n k a.ty vals))
  fixed_here true k a vals = ((omega arith, (omega arith, refl)), tt)
  fixed_here false k a vals = ((omega arith, (omega arith, refl)), ((omega arith, (omega arith, refl)), tt))

  fixed_distinct : (b : Bool) (k : ℕ) (a : Attr) (vals : List Val) → Distinct (map column_part (fixed_objects b n k a.ty vals))
  fixed_distinct true k a vals = (tt, tt)
  fixed_distinct false k a vals = (((λ same. let e : 1 ≡ 2 = ap group same in omega arith), tt), (tt, tt))

  validity_here : (b : Bool) (k : ℕ) (vals : List Val) → AllParts (Here k 3 3) (map column_part (validity_objects b k vals))
  validity_here true k vals = ((omega arith, (omega arith, refl)), tt)
  validity_here false k vals = tt

  validity_distinct : (b : Bool) (k : ℕ) (vals : List Val) → Distinct (map column_part (validity_objects b k vals))
  validity_distinct true k vals = (tt, tt)
  validity_distinct false k vals = tt

  abbrev Behind : ℕ → Part → Type 0
  Behind k p = (3 ≤ group p) ⊎ (suc k ≤ number p)

  split_attrs : (k : ℕ) (a : Attr) (attrs : List Attr) (cells : List StoredCell) → map column_part (attr_objects n k (a ∷ attrs) cells) ≡ map column_part (fixed_objects (is_integer a.ty) n k a.ty (value_column k cells)) ++ (map column_part (validity_objects a.nullable k (value_column k cells)) ++ map column_part (attr_objects n (suc k) attrs cells))
  split_attrs k a attrs cells =
      map_split (fixed_objects (is_integer a.ty) n k a.ty (value_column k cells)) (validity_objects a.nullable k (value_column k cells) ++ attr_objects n (suc k) attrs cells)
      ∙ ap (λ more. map column_part (fixed_objects (is_integer a.ty) n k a.ty (value_column k cells)) ++ more) (map_split (validity_objects a.nullable k (value_column k cells)) (attr_objects n (suc k) attrs cells))

  attrs_of : (k j : ℕ) (attrs : List Attr) (cells : List StoredCell) → j ≤ k → AllParts (OfAttrs j) (map column_part (attr_objects n k attrs cells))
  attrs_of k j [] cells below = tt
  attrs_of k j (a ∷ attrs) cells below =
      let vals = value_column k cells in
      subst (AllParts (OfAttrs j)) (sym (split_attrs k a attrs cells))
      (parts_append (OfAttrs j) (map column_part (fixed_objects (is_integer a.ty) n k a.ty vals)) _
      (parts_weaker (Here k 1 2) (OfAttrs j) (λ p h. let e = h.1.1 in (h.0, (omega (arith, h.1.0), omega arith))) (map column_part (fixed_objects (is_integer a.ty) n k a.ty vals)) (fixed_here (is_integer a.ty) k a vals))
      (parts_append (OfAttrs j) (map column_part (validity_objects a.nullable k vals)) _
      (parts_weaker (Here k 3 3) (OfAttrs j) (λ p h. let e = h.1.1 in (omega (arith, h.0), (h.1.0, omega arith))) (map column_part (validity_objects a.nullable k vals)) (validity_here a.nullable k vals))
      (attrs_of (suc k) j attrs cells (omega arith))))

  attrs_distinct : (k : ℕ) (attrs : List Attr) (cells : List StoredCell) → Distinct (map column_part (attr_objects n k attrs cells))
  attrs_distinct k [] cells = tt
  attrs_distinct k (a ∷ attrs) cells =
      let vals = value_column k cells in
      let fixed = map column_part (fixed_objects (is_integer a.ty) n k a.ty vals) in
      let validity = map column_part (validity_objects a.nullable k vals) in
      let after = map column_part (attr_objects n (suc k) attrs cells) in
      let behind = attrs_of (suc k) (suc k) attrs cells (omega arith) in
      let second = distinct_append (Here k 3 3) (OfAttrs (suc k)) (λ p q h m same. let e = ap number same in let x = h.1.1 in let y = m.1.1 in omega arith) validity after (validity_here a.nullable k vals) behind (validity_distinct a.nullable k vals) (attrs_distinct (suc k) attrs cells) in
      subst Distinct (sym (split_attrs k a attrs cells))
      (distinct_append (Here k 1 2) (Behind k) (λ p q h m same. first_apart k p q h m same) fixed (validity ++ after) (fixed_here (is_integer a.ty) k a vals)
      (parts_append (Behind k) validity after (parts_weaker (Here k 3 3) (Behind k) (λ p h. inl h.0) validity (validity_here a.nullable k vals)) (parts_weaker (OfAttrs (suc k)) (Behind k) (λ p h. inr h.1.1) after behind))
      (fixed_distinct (is_integer a.ty) k a vals) second)
    where
      first_apart : (k : ℕ) (p q : Part) → Here k 1 2 p → Behind k q → p ≡ q → ⊥
      first_apart k p q h (inl three) same = let e = ap group same in let x = h.1.0 in omega arith
      first_apart k p q h (inr far) same = let e = ap number same in let x = h.1.1 in omega arith

abbrev OfOrigin : Part → Type 0
OfOrigin p = group p ≡ 4

origin_of : (b : Bool) (cells : List StoredCell) → AllParts OfOrigin (map column_part (origin_objects b cells)) × Distinct (map column_part (origin_objects b cells))
origin_of true cells = ((refl, tt), (tt, tt))
origin_of false cells = (tt, tt)

-- ---- all parts

pub parts_distinct : (frame : Frame) (attrs : List Attr) (s : StoredPiece) → Distinct (parts_of frame attrs s)
unfolding parts_of objects_of
parts_distinct frame attrs s =
    let dims = map column_part (dim_objects 0 frame.domain s.cells) in
    let values = map column_part (attr_objects frame.capacity 0 attrs s.cells) in
    let origins = map column_part (origin_objects s.head.consolidated s.cells) in
    let last = origin_of s.head.consolidated s.cells in
    let one = distinct_append (OfAttrs 0) OfOrigin (λ p q h m same. let e = ap group same in let x = h.1.0 in omega arith) values origins (attrs_of frame.capacity 0 0 attrs s.cells (omega arith)) last.0 (attrs_distinct frame.capacity 0 attrs s.cells) last.1 in
    let from_one : AllParts (λ p. (1 ≤ group p) × (group p ≤ 4)) (values ++ origins) =
    parts_append (λ p. (1 ≤ group p) × (group p ≤ 4)) values origins
    (parts_weaker (OfAttrs 0) (λ p. (1 ≤ group p) × (group p ≤ 4)) (λ p h. (h.0, omega (arith, h.1.0))) values (attrs_of frame.capacity 0 0 attrs s.cells (omega arith)))
    (parts_weaker OfOrigin (λ p. (1 ≤ group p) × (group p ≤ 4)) (λ p h. (omega (arith, h), omega (arith, h))) origins last.0) in
    let two = distinct_append (OfDims 0) (λ p. (1 ≤ group p) × (group p ≤ 4)) (λ p q h m same. let e = ap group same in let x = h.0 in let y = m.0 in omega arith) dims (values ++ origins) (dims_of 0 0 frame.domain s.cells (omega arith)) from_one (dims_distinct 0 frame.domain s.cells) one in
    let all_low : AllParts (λ p. group p ≤ 4) (dims ++ (values ++ origins)) =
    parts_append (λ p. group p ≤ 4) dims (values ++ origins) (parts_weaker (OfDims 0) (λ p. group p ≤ 4) (λ p h. omega (arith, h.0)) dims (dims_of 0 0 frame.domain s.cells (omega arith)))
    (parts_weaker (λ p. (1 ≤ group p) × (group p ≤ 4)) (λ p. group p ≤ 4) (λ p h. h.1) (values ++ origins) from_one) in
    let three = distinct_append (λ p. group p ≤ 4) (λ p. group p ≡ 5) (λ p q h m same. let e = ap group same in omega arith) (dims ++ (values ++ origins)) (meta_part frame attrs s ∷ []) all_low (refl, tt) two (tt, tt) in
    let split = map_split (dim_objects 0 frame.domain s.cells) (attr_objects frame.capacity 0 attrs s.cells ++ origin_objects s.head.consolidated s.cells)
    ∙ ap (λ more. dims ++ more) (map_split (attr_objects frame.capacity 0 attrs s.cells) (origin_objects s.head.consolidated s.cells)) in
    subst (λ xs. Distinct (xs ++ meta_part frame attrs s ∷ [])) (sym split) three

-- a look into a list in which no part comes twice finds each part
pub looks_there : (parts : List PartBytes) → Distinct parts → All (λ p. length p.bytes < 2 ^ 64) parts → All (IsThere (look_in parts)) parts
looks_there [] distinct short = All-nil (IsThere (look_in []))
looks_there (x ∷ xs) distinct short =
    let here : look_in (x ∷ xs) x.part ≡ Some x.bytes = ap (λ b. cond b (Some x.bytes) (look_in xs x.part)) (equals_itself x.part) in
    All-cons (IsThere (look_in (x ∷ xs))) x xs (record { there = here; few = All-head (λ p. length p.bytes < 2 ^ 64) x xs short })
    (behind xs distinct.0 (looks_there xs distinct.1 (All-tail (λ p. length p.bytes < 2 ^ 64) x xs short)))
  where
    passes : (q : Part) → (x.part ≡ q → ⊥) → (b : Bool) → (part.ghosts).eq x.part q ≡ b → cond b (Some x.bytes) (look_in xs q) ≡ look_in xs q
    passes q far true e = absurd (far (same_part x.part q e))
    passes q far false e = refl

    behind : (ys : List PartBytes) → Apart x.part ys → All (IsThere (look_in xs)) ys → All (IsThere (look_in (x ∷ xs))) ys
    behind [] far there = All-nil (IsThere (look_in (x ∷ xs)))
    behind (y ∷ ys) far there =
        let is = All-head (IsThere (look_in xs)) y ys there in
        All-cons (IsThere (look_in (x ∷ xs))) y ys (record { there = passes y.part far.0 ((part.ghosts).eq x.part y.part) refl ∙ is.there; few = is.few }) (behind ys far.1 (All-tail (IsThere (look_in xs)) y ys there))

-- the parts of a piece whose stored form fits spell it
pub parts_spell : (frame : Frame) (schema : Schema) (piece : Piece) → FitsSparse frame schema.attrs piece.head.frag (stored_for piece) → piece ≡ piece_of piece.head.frag (stored_for piece)
    → All (λ p. length p.bytes < 2 ^ 64) (parts_of frame schema.attrs (stored_for piece)) → IsSparse frame schema piece (look_in (parts_of frame schema.attrs (stored_for piece)))
parts_spell frame schema piece fits same short = record {
  stored = stored_for piece;
  fits = fits;
  parts = looks_there (parts_of frame schema.attrs (stored_for piece)) (parts_distinct frame schema.attrs (stored_for piece)) short;
  same = same;
}
