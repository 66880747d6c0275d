-- What a piece and others are merged into holds their origins, between the first and the last of their timestamps, in the least box that has theirs.
use Rattle.std.proofs.Common.{◌≡◌, ℕ, suc, ℤ, ◌≤◌, ◌⊎◌, Bool, true, false, ◌||◌, inl, inr, List, [], ◌∷◌, length, refl, sym, ◌∙◌, ap, subst, arith}
use Rattle.std.specs.Prelude.{Contains, min, max}
use Rattle.std.specs.BTreeSet.{insert_key}
use Rattle.std.specs.Cmp.{IsTotalOrder}
use Rattle.std.specs.List.{list_any, flat_map, fold, AllByRecursion}
use Rattle.std.specs.List.Sorted.{IsStrictlySortedBy}
use Rattle.std.specs.declared.cmp.Ordering.{Ordering}
use Rattle.std.specs.declared.cmp.Ordering.TheVariants.{Less, Equal, Greater}
use Rattle.std.specs.Ordering.{ordering_reverse, match_ordering}
use Rattle.std.proofs.Math.Nat.{min-le_left, min-le_right, min-eq_left, min-eq_right, le-max_left, le-max_right, max-eq_left, max-eq_right}
use Rattle.std.proofs.lemmas.Bool.{cases_lt}
use Rattle.std.proofs.lemmas.List.Folds.{list_any-append}
use Rattle.ts_base.specs.declared.keys.Key.{Key}
use Rattle.ts_base.specs.declared.heads.Head.{Head}
use Rattle.ts_base.specs.declared.heads.Piece.{Piece}
use Rattle.ts_base.specs.Keys.{key_cmp, key_eq}
use Rattle.ts_base.specs.Exact.{key_total, key_exact}
use Rattle.ts_domain.specs.declared.boxes.SubBox.{SubBox}
use Rattle.ts_domain.specs.Bounds.{least_corner}
use Rattle.ts_domain.specs.Boxes.{IsBox, Covers, hull_of, IsHullOf}
use Rattle.ts_domain.proofs.BoxLemmas.{IsBox-hull_of, IsHullOf-hull_of}
use Rattle.ts_schema.specs.declared.frames.Frame.{Frame}
use Rattle.ts_commit.specs.Selections.{has_origin, keeps_last}
use Rattle.ts_model.proofs.ListLemmas.{Contains-nil, Contains-here, Contains-there, Contains-cons}
use Rattle.ts_model.specs.Consolidated.{box_in, IsSpan}
use Rattle.ts_model.specs.Merging.{all_versions, MergesTo, origins_of_all, first_from, last_from, hull_from, heads_of, merged_piece}
use Rattle.ts_model.proofs.Members.{key_there, key_found, any_member, member_any}
use Rattle.ts_model.proofs.UnionLaws.{merged_at}

-- ---- origins

any_of_each : (k : Key) (ps : List Piece) → list_any (key_eq k) (flat_map (λ (x : Head). x.origins) (heads_of ps)) ≡ list_any (λ q. has_origin k q.head) ps
any_of_each k [] = refl
any_of_each k (p ∷ ps) = list_any-append (key_eq k) p.head.origins (flat_map (λ (x : Head). x.origins) (heads_of ps)) ∙ ap (λ b. has_origin k p.head || b) (any_of_each k ps)

-- a key more is found, and what was found before
any_put : (q k : Key) (ks : List Key) → list_any (key_eq q) (insert_key key_cmp ks k) ≡ (key_eq q k || list_any (key_eq q) ks)
any_put q k [] = refl
any_put q k (x ∷ xs) = by (key_cmp k x) refl (any_put q k xs)
  where
    twice : (a b : Bool) → (a || b) ≡ (a || (a || b))
    twice true b = refl
    twice false b = refl

    swap : (a b c : Bool) → (a || (b || c)) ≡ (b || (a || c))
    swap true true c = refl
    swap true false c = refl
    swap false b c = refl

    by : (o : Ordering) → key_cmp k x ≡ o → list_any (key_eq q) (insert_key key_cmp xs k) ≡ (key_eq q k || list_any (key_eq q) xs)
        → list_any (key_eq q) (match_ordering o (k ∷ x ∷ xs) (x ∷ xs) (x ∷ insert_key key_cmp xs k)) ≡ (key_eq q k || (key_eq q x || list_any (key_eq q) xs))
    by Less is rest = refl
    by Equal is rest = twice (key_eq q x) (list_any (key_eq q) xs) ∙ ap (λ l. key_eq q l || (key_eq q x || list_any (key_eq q) xs)) (sym (key_exact k x is))
    by Greater is rest = ap (λ b. key_eq q x || b) rest ∙ swap (key_eq q x) (key_eq q k) (list_any (key_eq q) xs)

-- so it is of several keys more
any_put_all : (q : Key) (ks more : List Key) → list_any (key_eq q) (fold (insert_key key_cmp) ks more) ≡ (list_any (key_eq q) ks || list_any (key_eq q) more)
any_put_all q ks [] = none (list_any (key_eq q) ks)
  where
    none : (b : Bool) → b ≡ (b || false)
    none true = refl
    none false = refl
any_put_all q ks (k ∷ more) = any_put_all q (insert_key key_cmp ks k) more ∙ ap (λ b. b || list_any (key_eq q) more) (any_put q k ks) ∙ turned (key_eq q k) (list_any (key_eq q) ks) (list_any (key_eq q) more)
  where
    turned : (a b c : Bool) → ((a || b) || c) ≡ (b || (a || c))
    turned true true c = refl
    turned true false c = refl
    turned false b c = refl

-- the origins of all are those of each
pub origins_are : (k : Key) (ps : List Piece) → list_any (key_eq k) (origins_of_all (heads_of ps)) ≡ list_any (λ q. has_origin k q.head) ps
origins_are k ps = any_put_all k [] (flat_map (λ (x : Head). x.origins) (heads_of ps)) ∙ any_of_each k ps

-- what holds of each key and of one more holds of each when that is put in its place
key_put : {K : Type 0} (R : K → K → Ordering) (P : K → Type 0) (ks : List K) (k : K) → AllByRecursion P ks → P k → AllByRecursion P (insert_key R ks k)
key_put R P [] k all own = (own, tt)
key_put R P (x ∷ xs) k all own = elim (R k x) as (λ o. AllByRecursion P (match_ordering o (k ∷ x ∷ xs) (x ∷ xs) (x ∷ insert_key R xs k))) [
  | Less ↦ (own, all)
  | Equal ↦ all
  | Greater ↦ (all.0, key_put R P xs k all.1 own)
]

-- a key that is put in its place leaves the others in order
pub put_ascends : {K : Type 0} (R : K → K → Ordering) → IsTotalOrder R → (ks : List K) (k : K) → IsStrictlySortedBy R ks → IsStrictlySortedBy R (insert_key R ks k)
unfolding IsStrictlySortedBy
put_ascends R total [] k up = (tt, tt)
put_ascends {K} R total (x ∷ xs) k up = elim (R k x) as (λ o. R k x ≡ o → IsStrictlySortedBy R (match_ordering o (k ∷ x ∷ xs) (x ∷ xs) (x ∷ insert_key R xs k))) [
  | Less ↦ λ less. ((less, all_above less xs up.0), up)
  | Equal ↦ λ tie. up
  | Greater ↦ λ above. (key_put R (λ y. R x y ≡ Less) xs k up.0 (total.antisymm x k ∙ ap ordering_reverse above), put_ascends R total xs k up.1)
] refl
  where
    all_above : R k x ≡ Less → (ys : List K) → AllByRecursion (λ y. R x y ≡ Less) ys → AllByRecursion (λ y. R k y ≡ Less) ys
    all_above less [] all = tt
    all_above less (y ∷ ys) all = (total.trans k x y less all.0, all_above less ys all.1)

all_put : (ks more : List Key) → IsStrictlySortedBy key_cmp ks → IsStrictlySortedBy key_cmp (fold (insert_key key_cmp) ks more)
all_put ks [] up = up
all_put ks (k ∷ more) up = all_put (insert_key key_cmp ks k) more (put_ascends key_cmp key_total ks k up)

none_ascend : IsStrictlySortedBy key_cmp []
unfolding IsStrictlySortedBy
none_ascend = tt

-- the origins of all ascend
pub origins_ascend : (ps : List Piece) → IsStrictlySortedBy key_cmp (origins_of_all (heads_of ps))
origins_ascend ps = all_put [] (flat_map (λ (x : Head). x.origins) (heads_of ps)) none_ascend

-- ---- timestamps

-- the lesser of two timestamps is one of them
earlier_is : (s t : ℕ) → (min s t ≤ s) × (min s t ≤ t) × ((min s t ≡ s) ⊎ (min s t ≡ t))
earlier_is s t = (
  min-le_left s t,
  min-le_right s t,
  elim (cases_lt s t) [
    | inl less ↦ inl (min-eq_left (omega (arith, less)))
    | inr upto ↦ inr (min-eq_right upto)
  ],
)

-- so is the greater
later_is : (s t : ℕ) → (s ≤ max s t) × (t ≤ max s t) × ((max s t ≡ s) ⊎ (max s t ≡ t))
later_is s t = (
  le-max_left s t,
  le-max_right s t,
  elim (cases_lt s t) [
    | inl less ↦ inr (max-eq_right (omega (arith, less)))
    | inr upto ↦ inl (max-eq_left upto)
  ],
)

-- a timestamp is the first of one and those of pieces
record IsFirst (t : ℕ) (ps : List Piece) (s : ℕ) : Type 0 where
  own : s ≤ t
  each : (q : Piece) → Contains ps q → s ≤ q.head.frag.t1
  among : (t ≡ s) ⊎ ((q : Piece) × Contains ps q × (q.head.frag.t1 ≡ s))

first_step : (t : ℕ) (p : Piece) (ps : List Piece) → IsFirst (min t p.head.frag.t1) ps (first_from (min t p.head.frag.t1) (heads_of ps)) → IsFirst t (p ∷ ps) (first_from t (heads_of (p ∷ ps)))
first_step t p ps rest = record {
  own = let a = rest.own in let b = of.0 in omega (arith, a, b);
  each = λ q at. elim (Contains-cons p ps q at) [
    | inl same ↦ let a = rest.own in let b = of.1 in subst (λ (x : Piece). first_from t (heads_of (p ∷ ps)) ≤ x.head.frag.t1) same (omega (arith, a, b))
    | inr behind ↦ rest.each q behind
  ];
  among = elim rest.among [
    | inl same ↦ elim of.2 [
      | inl old ↦ inl (sym old ∙ same)
      | inr new ↦ inr (p, Contains-here p ps, sym new ∙ same)
    ]
    | inr found ↦ inr (found.0, Contains-there p ps found.0 found.1, found.2)
  ];
}
  where
    of : (min t p.head.frag.t1 ≤ t) × (min t p.head.frag.t1 ≤ p.head.frag.t1) × ((min t p.head.frag.t1 ≡ t) ⊎ (min t p.head.frag.t1 ≡ p.head.frag.t1))
    of = earlier_is t p.head.frag.t1

first_is : (t : ℕ) (ps : List Piece) → IsFirst t ps (first_from t (heads_of ps))
first_is t [] = record { own = omega arith; each = λ q at. absurd (Contains-nil q at); among = inl refl }
first_is t (p ∷ ps) = first_step t p ps (first_is (min t p.head.frag.t1) ps)

-- a timestamp is the last of one and those of pieces
record IsLast (t : ℕ) (ps : List Piece) (s : ℕ) : Type 0 where
  own : t ≤ s
  each : (q : Piece) → Contains ps q → q.head.frag.t2 ≤ s
  among : (t ≡ s) ⊎ ((q : Piece) × Contains ps q × (q.head.frag.t2 ≡ s))

last_step : (t : ℕ) (p : Piece) (ps : List Piece) → IsLast (max t p.head.frag.t2) ps (last_from (max t p.head.frag.t2) (heads_of ps)) → IsLast t (p ∷ ps) (last_from t (heads_of (p ∷ ps)))
last_step t p ps rest = record {
  own = let a = rest.own in let b = of.0 in omega (arith, a, b);
  each = λ q at. elim (Contains-cons p ps q at) [
    | inl same ↦ let a = rest.own in let b = of.1 in subst (λ (x : Piece). x.head.frag.t2 ≤ last_from t (heads_of (p ∷ ps))) same (omega (arith, a, b))
    | inr behind ↦ rest.each q behind
  ];
  among = elim rest.among [
    | inl same ↦ elim of.2 [
      | inl old ↦ inl (sym old ∙ same)
      | inr new ↦ inr (p, Contains-here p ps, sym new ∙ same)
    ]
    | inr found ↦ inr (found.0, Contains-there p ps found.0 found.1, found.2)
  ];
}
  where
    of : (t ≤ max t p.head.frag.t2) × (p.head.frag.t2 ≤ max t p.head.frag.t2) × ((max t p.head.frag.t2 ≡ t) ⊎ (max t p.head.frag.t2 ≡ p.head.frag.t2))
    of = later_is t p.head.frag.t2

last_is : (t : ℕ) (ps : List Piece) → IsLast t ps (last_from t (heads_of ps))
last_is t [] = record { own = omega arith; each = λ q at. absurd (Contains-nil q at); among = inl refl }
last_is t (p ∷ ps) = last_step t p ps (last_is (max t p.head.frag.t2) ps)

-- ---- boxes

-- a box of so many dimensions
abbrev pub IsBoxOf : ℕ → SubBox → Type 0
IsBoxOf n sub = IsBox sub × (length sub.low ≡ n)

-- the least box that has a box and those of pieces
pub record IsHullFrom (n : ℕ) (sub : SubBox) (ps : List Piece) (hull : SubBox) : Type 0 where
  pub is_box : IsBoxOf n hull
  pub own : Covers hull sub
  pub each : (q : Piece) → Contains ps q → Covers hull (box_in q.head)
  pub least : (outer : SubBox) → Covers outer sub → ((q : Piece) → Contains ps q → Covers outer (box_in q.head)) → Covers outer hull

length-corner : (xs ys : List ℤ) → length ys ≡ length xs → length (least_corner xs ys) ≡ length xs
length-corner [] [] same = refl
length-corner [] (y ∷ ys) same = refl
length-corner (x ∷ xs) [] same = absurd (omega (arith, same))
length-corner (x ∷ xs) (y ∷ ys) same = ap suc (length-corner xs ys (omega (arith, same)))

-- the hull of two boxes of so many dimensions has so many
hull_box : (n : ℕ) (sub : SubBox) (p : Piece) → IsBoxOf n sub → IsBoxOf n (box_in p.head) → IsBoxOf n (hull_of sub (box_in p.head))
hull_box n sub p this that =
    let dims : length p.head.low ≡ length sub.low = that.1 ∙ sym this.1 in
    (IsBox-hull_of sub (box_in p.head) this.0 that.0 dims, length-corner sub.low p.head.low dims ∙ this.1)

hull_step : (n : ℕ) (sub : SubBox) (p : Piece) (ps : List Piece) → IsBoxOf n sub → IsBoxOf n (box_in p.head)
    → IsHullFrom n (hull_of sub (box_in p.head)) ps (hull_from (hull_of sub (box_in p.head)) (heads_of ps)) → IsHullFrom n sub (p ∷ ps) (hull_from sub (heads_of (p ∷ ps)))
hull_step n sub p ps this that rest = record {
  is_box = rest.is_box;
  own = λ c inside. rest.own c (of.first c inside);
  each = λ q at. elim (Contains-cons p ps q at) [
    | inl same ↦ subst (λ (x : Piece). Covers (hull_from sub (heads_of (p ∷ ps))) (box_in x.head)) same (λ c inside. rest.own c (of.second c inside))
    | inr behind ↦ rest.each q behind
  ];
  least = λ outer own each. rest.least outer (of.least outer own (each p (Contains-here p ps))) (λ q at. each q (Contains-there p ps q at));
}
  where
    dims : length p.head.low ≡ length sub.low
    dims = that.1 ∙ sym this.1

    of : IsHullOf (hull_of sub (box_in p.head)) sub (box_in p.head)
    of = IsHullOf-hull_of sub (box_in p.head) this.0 that.0 dims

hull_is : (n : ℕ) (sub : SubBox) (ps : List Piece) → IsBoxOf n sub → ((q : Piece) → Contains ps q → IsBoxOf n (box_in q.head)) → IsHullFrom n sub ps (hull_from sub (heads_of ps))
hull_is n sub [] this boxes = record { is_box = this; own = λ c inside. inside; each = λ q at. absurd (Contains-nil q at); least = λ outer own each. own }
hull_is n sub (p ∷ ps) this boxes =
    let that = boxes p (Contains-here p ps) in
    hull_step n sub p ps this that (hull_is n (hull_of sub (box_in p.head)) ps (hull_box n sub p this that) (λ q at. boxes q (Contains-there p ps q at)))

-- ---- the piece

module _ (frame : Frame) (id : ℕ) (p : Piece) (ps : List Piece)
    (schemas : (q : Piece) → Contains (p ∷ ps) q → q.head.schema ≡ p.head.schema) (kinds : (q : Piece) → Contains (p ∷ ps) q → q.head.dense ≡ p.head.dense)
    (boxes : (q : Piece) → Contains (p ∷ ps) q → IsBoxOf (length p.head.low) (box_in q.head)) where
  pub corners : IsHullFrom (length p.head.low) (box_in p.head) ps (hull_from (box_in p.head) (heads_of ps))
  corners = hull_is (length p.head.low) (box_in p.head) ps (boxes p (Contains-here p ps)) (λ q at. boxes q (Contains-there p ps q at))

  first : IsFirst p.head.frag.t1 ps (first_from p.head.frag.t1 (heads_of ps))
  first = first_is p.head.frag.t1 ps

  last : IsLast p.head.frag.t2 ps (last_from p.head.frag.t2 (heads_of ps))
  last = last_is p.head.frag.t2 ps

  -- the pieces are merged into it
  pub merges_to : MergesTo (p ∷ ps) (merged_piece frame id p ps)
  merges_to = record {
    consolidated = refl;
    schema = schemas;
    dense = kinds;
    origins = λ k. origins_are k (p ∷ ps);
    ascend = origins_ascend (p ∷ ps);
    from_on = λ q at. elim (Contains-cons p ps q at) [
      | inl same ↦ subst (λ (x : Piece). first_from p.head.frag.t1 (heads_of ps) ≤ x.head.frag.t1) same first.own
      | inr behind ↦ first.each q behind
    ];
    up_to = λ q at. elim (Contains-cons p ps q at) [
      | inl same ↦ subst (λ (x : Piece). x.head.frag.t2 ≤ last_from p.head.frag.t2 (heads_of ps)) same last.own
      | inr behind ↦ last.each q behind
    ];
    first = elim first.among [
      | inl same ↦ (p, Contains-here p ps, same)
      | inr found ↦ (found.0, Contains-there p ps found.0 found.1, found.2)
    ];
    last = elim last.among [
      | inl same ↦ (p, Contains-here p ps, same)
      | inr found ↦ (found.0, Contains-there p ps found.0 found.1, found.2)
    ];
    versions = λ k c. merged_at frame (keeps_last p.head) (all_versions (p ∷ ps)) k c;
    hull = λ dense. record {
      boxes = λ q at. elim (Contains-cons p ps q at) [
        | inl same ↦ subst (λ (x : Piece). Covers (hull_from (box_in p.head) (heads_of ps)) (box_in x.head)) same corners.own
        | inr behind ↦ corners.each q behind
      ];
      least = λ outer each. corners.least outer (each p (Contains-here p ps)) (λ q at. each q (Contains-there p ps q at));
    };
  }

-- ---- where its origins come from

module _ (ps : List Piece) (p : Piece) (merges : MergesTo ps p) where
  -- an origin of the new piece is one of a source
  pub of_source : (k : Key) → has_origin k p.head ≡ true → (q : Piece) × Contains ps q × (has_origin k q.head ≡ true)
  of_source k e = member_any (λ q. has_origin k q.head) ps (sym (merges.origins k) ∙ e)

  -- an origin of a source is one of the new piece
  pub to_merged : (q : Piece) (k : Key) → Contains ps q → has_origin k q.head ≡ true → has_origin k p.head ≡ true
  to_merged q k at e = merges.origins k ∙ any_member (λ r. has_origin k r.head) ps q at e

  -- an origin of the new piece, with its source
  pub origin_of : (k : Key) → Contains p.head.origins k → (q : Piece) × Contains ps q × Contains q.head.origins k
  origin_of k at = let source = of_source k (key_found k p.head.origins at) in (source.0, source.1, key_there k (source.0).head.origins source.2)

  -- an origin of a source is among those of the new piece
  pub origin_to : (q : Piece) (k : Key) → Contains ps q → Contains q.head.origins k → Contains p.head.origins k
  origin_to q k at own = key_there k p.head.origins (to_merged q k at (key_found k q.head.origins own))

  -- it spans its origins, where each source does
  pub merged_span : ((q : Piece) → Contains ps q → IsSpan q.head.frag q.head.origins) → IsSpan p.head.frag p.head.origins
  merged_span spans = record {
    from_on = λ k at.
        let source = origin_of k at in
        let first = merges.from_on source.0 source.1 in
        let then_ = (spans source.0 source.1).from_on k source.2 in
        omega (arith, first, then_);
    up_to = λ k at.
        let source = origin_of k at in
        let last = merges.up_to source.0 source.1 in
        let before = (spans source.0 source.1).up_to k source.2 in
        omega (arith, last, before);
    least =
        let source = merges.first in
        let own = (spans source.0 source.1).least in
        (own.0, origin_to source.0 own.0 source.1 own.1, own.2 ∙ source.2);
    greatest_is =
        let source = merges.last in
        let own = (spans source.0 source.1).greatest_is in
        (own.0, origin_to source.0 own.0 source.1 own.1, own.2 ∙ source.2);
  }
