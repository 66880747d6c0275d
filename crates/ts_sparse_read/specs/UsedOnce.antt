-- No part of a column stands twice in the metadata, nor is it the part of the metadata.
use Rattle.std.proofs.Common.{◌≡◌, ℕ, suc, ◌<◌, ◌≤◌, Bool, true, false, List, [], ◌∷◌, ◌++◌, refl, sym, ap, ◌∙◌, arith}
use Rattle.std.specs.List.{AllByRecursion}
use Rattle.ts_base.specs.declared.names.Part.{Part}
use Rattle.ts_base.specs.declared.names.Part.TheVariants as part
use Rattle.ts_base.specs.Values.{is_integer}
use Rattle.ts_domain.specs.declared.dims.Dim.{Dim}
use Rattle.ts_schema.specs.declared.attrs.Attr.{Attr}
use Rattle.ts_sparse_read.specs.Used.{dim_parts, value_parts, validity_parts, attr_parts, origin_parts, column_parts}

-- ---- parts

-- parts of dimensions come before those of attributes, and then that of the origins
abbrev pub rank : Part → ℕ
rank (part.Dim k) = 0
rank (part.Attr k) = 1
rank (part.Var k) = 1
rank (part.Validity k) = 1
rank part.Origin = 2
rank part.Meta = 3
rank part.Plain = 3

-- the number of a dimension or an attribute
abbrev number : Part → ℕ
number (part.Dim k) = k
number (part.Attr k) = k
number (part.Var k) = k
number (part.Validity k) = k
number _ = 0

-- the part is of this rank, and of the k-th dimension or attribute or one behind it
abbrev IsFrom : ℕ → ℕ → Part → Type 0
IsFrom r k p = (rank p ≡ r) × (k ≤ number p)

-- what holds by one fact holds by a stronger one
each_weaker : {X : Type 0} (P Q : X → Type 0) → ((x : X) → P x → Q x) → (xs : List X) → AllByRecursion P xs → AllByRecursion Q xs
each_weaker P Q f [] all = tt
each_weaker P Q f (x ∷ xs) all = (f x all.0, each_weaker P Q f xs all.1)

each_append : {X : Type 0} (P : X → Type 0) (xs ys : List X) → AllByRecursion P xs → AllByRecursion P ys → AllByRecursion P (xs ++ ys)
each_append P [] ys a b = b
each_append P (x ∷ xs) ys a b = (a.0, each_append P xs ys a.1 b)

-- what holds of each item of a list holds of each of its end
pub each_behind : {X : Type 0} (P : X → Type 0) (xs ys : List X) → AllByRecursion P (xs ++ ys) → AllByRecursion P ys
each_behind P [] ys all = all
each_behind P (x ∷ xs) ys all = each_behind P xs ys all.1

-- a part is none of these
abbrev pub Apart : Part → List Part → Type 0
Apart p ps = AllByRecursion (λ q. p ≡ q → ⊥) ps

-- no part stands twice
abbrev pub Distinct : List Part → Type 0
Distinct [] = Unit {0}
Distinct (p ∷ ps) = Apart p ps × Distinct ps

distinct_append : (P Q : Part → Type 0) → ((p q : Part) → P p → Q q → p ≡ q → ⊥) → (xs ys : List Part) → AllByRecursion P xs → AllByRecursion Q ys → Distinct xs → Distinct ys → Distinct (xs ++ ys)
distinct_append P Q far [] ys a b one two = two
distinct_append P Q far (x ∷ xs) ys a b one two =
    (each_append (λ q. x ≡ q → ⊥) xs ys one.0 (each_weaker Q (λ q. x ≡ q → ⊥) (λ q is. far x q a.0 is) ys b), distinct_append P Q far xs ys a.1 b one.1 two)

-- parts of different ranks, or from different numbers on, are different
far_ranks : (r s k n : ℕ) → (r ≡ s → ⊥) → (p q : Part) → IsFrom r k p → IsFrom s n q → p ≡ q → ⊥
far_ranks r s k n other p q a b e = other (sym a.0 ∙ ap rank e ∙ b.0)

far_behind : (r k : ℕ) (p : Part) → number p ≡ k → (q : Part) → IsFrom r (suc k) q → p ≡ q → ⊥
far_behind r k p is q b e = let same : number p ≡ number q = ap number e in omega (arith, b.1)

later : (r k : ℕ) (p : Part) → IsFrom r (suc k) p → IsFrom r k p
later r k p is = (is.0, omega (arith, is.1))

dims_from : (k : ℕ) (dims : List Dim) → AllByRecursion (IsFrom 0 k) (dim_parts k dims)
dims_from k [] = tt
dims_from k (d ∷ dims) = ((refl, omega arith), each_weaker (IsFrom 0 (suc k)) (IsFrom 0 k) (later 0 k) (dim_parts (suc k) dims) (dims_from (suc k) dims))

dims_once : (k : ℕ) (dims : List Dim) → Distinct (dim_parts k dims)
dims_once k [] = tt
dims_once k (d ∷ dims) = (each_weaker (IsFrom 0 (suc k)) (λ q. part.Dim k ≡ q → ⊥) (far_behind 0 k (part.Dim k) refl) (dim_parts (suc k) dims) (dims_from (suc k) dims), dims_once (suc k) dims)

-- the parts of one attribute, and those behind it
module _ (k : ℕ) (rest : List Part) (from : AllByRecursion (IsFrom 1 (suc k)) rest) where
  rest_from : AllByRecursion (IsFrom 1 k) rest
  rest_from = each_weaker (IsFrom 1 (suc k)) (IsFrom 1 k) (later 1 k) rest from

  rest_apart : (p : Part) → number p ≡ k → Apart p rest
  rest_apart p is = each_weaker (IsFrom 1 (suc k)) (λ q. p ≡ q → ⊥) (far_behind 1 k p is) rest from

  one_from : (b c : Bool) → AllByRecursion (IsFrom 1 k) (value_parts b k ++ (validity_parts c k ++ rest))
  one_from true true = ((refl, omega arith), ((refl, omega arith), rest_from))
  one_from true false = ((refl, omega arith), rest_from)
  one_from false true = ((refl, omega arith), ((refl, omega arith), ((refl, omega arith), rest_from)))
  one_from false false = ((refl, omega arith), ((refl, omega arith), rest_from))

  not_var : part.Attr k ≡ part.Var k → ⊥
  not_var e = cc

  not_validity : part.Attr k ≡ part.Validity k → ⊥
  not_validity e = cc

  var_not_validity : part.Var k ≡ part.Validity k → ⊥
  var_not_validity e = cc

  one_once : (b c : Bool) → Distinct rest → Distinct (value_parts b k ++ (validity_parts c k ++ rest))
  one_once true true once = ((not_validity, rest_apart (part.Attr k) refl), (rest_apart (part.Validity k) refl, once))
  one_once true false once = (rest_apart (part.Attr k) refl, once)
  one_once false true once = ((not_var, (not_validity, rest_apart (part.Attr k) refl)), ((var_not_validity, rest_apart (part.Var k) refl), (rest_apart (part.Validity k) refl, once)))
  one_once false false once = ((not_var, rest_apart (part.Attr k) refl), (rest_apart (part.Var k) refl, once))

attrs_from : (k : ℕ) (attrs : List Attr) → AllByRecursion (IsFrom 1 k) (attr_parts k attrs)
attrs_from k [] = tt
attrs_from k (a ∷ attrs) = one_from k (attr_parts (suc k) attrs) (attrs_from (suc k) attrs) (is_integer a.ty) a.nullable

attrs_once : (k : ℕ) (attrs : List Attr) → Distinct (attr_parts k attrs)
attrs_once k [] = tt
attrs_once k (a ∷ attrs) = one_once k (attr_parts (suc k) attrs) (attrs_from (suc k) attrs) (is_integer a.ty) a.nullable (attrs_once (suc k) attrs)

origin_from : (b : Bool) → AllByRecursion (IsFrom 2 0) (origin_parts b)
origin_from true = ((refl, omega arith), tt)
origin_from false = tt

origin_once : (b : Bool) → Distinct (origin_parts b)
origin_once true = (tt, tt)
origin_once false = tt

-- no part of a column stands twice
pub parts_once : (dims : List Dim) (attrs : List Attr) (consolidated : Bool) → Distinct (column_parts dims attrs consolidated)
unfolding column_parts
parts_once dims attrs consolidated =
    let behind = distinct_append (IsFrom 1 0) (IsFrom 2 0) (far_ranks 1 2 0 0 (λ e. omega (arith, e))) (attr_parts 0 attrs) (origin_parts consolidated) (attrs_from 0 attrs) (origin_from consolidated) (attrs_once 0 attrs) (origin_once consolidated) in
    let past = each_append (λ p. rank p ≡ 0 → ⊥) (attr_parts 0 attrs) (origin_parts consolidated)
    (each_weaker (IsFrom 1 0) (λ p. rank p ≡ 0 → ⊥) (λ p is zero_is. omega (arith, is.0, zero_is)) (attr_parts 0 attrs) (attrs_from 0 attrs))
    (each_weaker (IsFrom 2 0) (λ p. rank p ≡ 0 → ⊥) (λ p is zero_is. omega (arith, is.0, zero_is)) (origin_parts consolidated) (origin_from consolidated)) in
    distinct_append (IsFrom 0 0) (λ p. rank p ≡ 0 → ⊥) (λ p q a b e. b (ap rank (sym e) ∙ a.0)) (dim_parts 0 dims) (attr_parts 0 attrs ++ origin_parts consolidated) (dims_from 0 dims) past (dims_once 0 dims) behind

-- none of them is that of the metadata
pub parts_not_meta : (dims : List Dim) (attrs : List Attr) (consolidated : Bool) → AllByRecursion (λ p. p ≡ part.Meta → ⊥) (column_parts dims attrs consolidated)
unfolding column_parts
parts_not_meta dims attrs consolidated =
    let low : (r : ℕ) → r < 3 → (p : Part) → IsFrom r 0 p → p ≡ part.Meta → ⊥ = λ r few p is e. omega (arith, few, is.0, ap rank e) in
    each_append (λ p. p ≡ part.Meta → ⊥) (dim_parts 0 dims) (attr_parts 0 attrs ++ origin_parts consolidated)
    (each_weaker (IsFrom 0 0) (λ p. p ≡ part.Meta → ⊥) (low 0 (omega arith)) (dim_parts 0 dims) (dims_from 0 dims))
    (each_append (λ p. p ≡ part.Meta → ⊥) (attr_parts 0 attrs) (origin_parts consolidated)
    (each_weaker (IsFrom 1 0) (λ p. p ≡ part.Meta → ⊥) (low 1 (omega arith)) (attr_parts 0 attrs) (attrs_from 0 attrs))
    (each_weaker (IsFrom 2 0) (λ p. p ≡ part.Meta → ⊥) (low 2 (omega arith)) (origin_parts consolidated) (origin_from consolidated)))
