-- Lists in order, and what is among the items of a list, both by recursion.
use Rattle.std.proofs.Common.{◌≡◌, ℕ, zero, suc, ◌+◌, ◌≤◌, List, [], ◌∷◌, ◌++◌, map, length, Some, refl, sym, subst, ◌∙◌, ◌⊎◌, inl, inr, arith, length-append}
use Rattle.std.specs.Prelude.{slice_get}
use Rattle.std.specs.List.{flat_map, sum, AllByRecursion}
use Rattle.std.specs.declared.cmp.Ordering.{Ordering}
use Rattle.std.specs.declared.cmp.Ordering.TheVariants.{Less}
use Rattle.std.proofs.lemmas.Option.{same_Some}
use Rattle.std.proofs.lemmas.List.Sums.{sum_by-cons}
use Rattle.ts_order.specs.Orders.{Ascends}

-- each item comes before every later one
abbrev pub InOrder : {A : Type 0} → (A → A → Ordering) → List A → Type 0
InOrder cmp [] = Unit {0}
InOrder cmp (x ∷ xs) = AllByRecursion (λ y. cmp x y ≡ Less) xs × InOrder cmp xs

-- it is one of the items
abbrev pub IsAmong : {A : Type 0} → List A → A → Type 0
IsAmong [] x = ⊥
IsAmong (y ∷ ys) x = (y ≡ x) ⊎ IsAmong ys x

-- no item stands twice
abbrev pub NoneTwice : {A : Type 0} → List A → Type 0
NoneTwice [] = Unit {0}
NoneTwice (x ∷ xs) = (IsAmong xs x → ⊥) × NoneTwice xs

-- ---- all items

module _ {A : Type 0} where
  pub all_from_places : (P : A → Type 0) (xs : List A) → ((i : ℕ) (x : A) → slice_get xs i ≡ Some x → P x) → AllByRecursion P xs
  all_from_places P [] at = tt
  all_from_places P (x ∷ xs) at = (at 0 x refl, all_from_places P xs (λ i y e. at (suc i) y e))

  pub all_at : (P : A → Type 0) (xs : List A) (i : ℕ) (x : A) → AllByRecursion P xs → slice_get xs i ≡ Some x → P x
  all_at P [] i x all e = cc
  all_at P (y ∷ ys) zero x all e = subst P (same_Some y x e) all.0
  all_at P (y ∷ ys) (suc i) x all e = all_at P ys i x all.1 e

  pub all_weaker : (P Q : A → Type 0) (xs : List A) → ((x : A) → P x → Q x) → AllByRecursion P xs → AllByRecursion Q xs
  all_weaker P Q [] by all = tt
  all_weaker P Q (x ∷ xs) by all = (by x all.0, all_weaker P Q xs by all.1)

  pub all_append : (P : A → Type 0) (xs ys : List A) → AllByRecursion P xs → AllByRecursion P ys → AllByRecursion P (xs ++ ys)
  all_append P [] ys first second = second
  all_append P (x ∷ xs) ys first second = (first.0, all_append P xs ys first.1 second)

  -- ---- one of the items

  pub among_at : (xs : List A) (i : ℕ) (x : A) → slice_get xs i ≡ Some x → IsAmong xs x
  among_at [] i x e = cc
  among_at (y ∷ ys) zero x e = inl (same_Some y x e)
  among_at (y ∷ ys) (suc i) x e = inr (among_at ys i x e)

  pub all_among : (P : A → Type 0) (xs : List A) (x : A) → AllByRecursion P xs → IsAmong xs x → P x
  all_among P [] x all is = absurd is
  all_among P (y ∷ ys) x all (inl e) = subst P e all.0
  all_among P (y ∷ ys) x all (inr is) = all_among P ys x all.1 is

  pub all_from_among : (P : A → Type 0) (xs : List A) → ((x : A) → IsAmong xs x → P x) → AllByRecursion P xs
  all_from_among P [] by = tt
  all_from_among P (x ∷ xs) by = (by x (inl refl), all_from_among P xs (λ y is. by y (inr is)))

  pub among_left : (xs ys : List A) (x : A) → IsAmong xs x → IsAmong (xs ++ ys) x
  among_left [] ys x is = absurd is
  among_left (y ∷ xs) ys x (inl e) = inl e
  among_left (y ∷ xs) ys x (inr is) = inr (among_left xs ys x is)

  pub among_right : (xs ys : List A) (x : A) → IsAmong ys x → IsAmong (xs ++ ys) x
  among_right [] ys x is = is
  among_right (y ∷ xs) ys x is = inr (among_right xs ys x is)

  -- ---- how many

  -- a list that an item was taken out of
  without : (ys : List A) (x : A) → IsAmong ys x → (zs : List A) × (length ys ≡ length zs + 1) × ((z : A) → IsAmong ys z → (x ≡ z) ⊎ IsAmong zs z)
  without [] x is = absurd is
  without (y ∷ ys) x (inl e) = (ys, omega arith, by)
    where
      by : (z : A) → IsAmong (y ∷ ys) z → (x ≡ z) ⊎ IsAmong ys z
      by z (inl d) = inl (sym e ∙ d)
      by z (inr is) = inr is
  without (y ∷ ys) x (inr is) = let rest = without ys x is in (y ∷ rest.0, omega (arith, rest.1), by rest.0 rest.2)
    where
      more : (zs : List A) (z : A) → (x ≡ z) ⊎ IsAmong zs z → (x ≡ z) ⊎ IsAmong (y ∷ zs) z
      more zs z (inl d) = inl d
      more zs z (inr k) = inr (inr k)

      by : (zs : List A) → ((z : A) → IsAmong ys z → (x ≡ z) ⊎ IsAmong zs z) → (z : A) → IsAmong (y ∷ ys) z → (x ≡ z) ⊎ IsAmong (y ∷ zs) z
      by zs rest z (inl d) = inr (inl d)
      by zs rest z (inr k) = more zs z (rest z k)

  other : (x : A) (zs xs : List A) → (IsAmong xs x → ⊥) → AllByRecursion (λ z. (x ≡ z) ⊎ IsAmong zs z) xs → AllByRecursion (IsAmong zs) xs
  other x zs [] apart all = tt
  other x zs (y ∷ xs) apart all = (by all.0, other x zs xs (λ is. apart (inr is)) all.1)
    where
      by : (x ≡ y) ⊎ IsAmong zs y → IsAmong zs y
      by (inl e) = absurd (apart (inl (sym e)))
      by (inr is) = is

  -- items of a list, none twice, are no more than the list has
  pub no_more : (xs ys : List A) → NoneTwice xs → AllByRecursion (IsAmong ys) xs → length xs ≤ length ys
  no_more [] ys once all = omega arith
  no_more (x ∷ xs) ys once all =
      let rest = without ys x all.0 in
      let fewer = no_more xs rest.0 once.1 (other x rest.0 xs once.0 (all_weaker (IsAmong ys) (λ z. (x ≡ z) ⊎ IsAmong rest.0 z) xs rest.2 all.1)) in
      omega (arith, rest.1, fewer)

  -- ---- in order

  module _ (cmp : A → A → Ordering) where
    pub in_order : (xs : List A) → Ascends cmp xs → InOrder cmp xs
    in_order [] up = tt
    in_order (x ∷ xs) up =
        (all_from_places (λ y. cmp x y ≡ Less) xs (λ j y at. up 0 (suc j) x y (omega arith) refl at), in_order xs (λ i j y z later at_i at_j. up (suc i) (suc j) y z (omega arith) at_i at_j))

    pub ascends : (xs : List A) → InOrder cmp xs → Ascends cmp xs
    ascends [] up i j x y later at_i at_j = cc
    ascends (z ∷ xs) up i zero x y later at_i at_j = absurd (omega arith)
    ascends (z ∷ xs) up zero (suc j) x y later at_i at_j = subst (λ w. cmp w y ≡ Less) (same_Some z x at_i) (all_at (λ w. cmp z w ≡ Less) xs j y up.0 at_j)
    ascends (z ∷ xs) up (suc i) (suc j) x y later at_i at_j = ascends xs up.1 i j x y (omega arith) at_i at_j

    pub in_order_append : (xs ys : List A) → InOrder cmp xs → AllByRecursion (λ x. AllByRecursion (λ y. cmp x y ≡ Less) ys) xs → InOrder cmp ys → InOrder cmp (xs ++ ys)
    in_order_append [] ys first apart second = second
    in_order_append (x ∷ xs) ys first apart second = (all_append (λ y. cmp x y ≡ Less) xs ys first.0 apart.0, in_order_append xs ys first.1 apart.1 second)

    -- where nothing comes before itself, no item stands twice
    pub none_twice : ((x : A) → cmp x x ≡ Less → ⊥) → (xs : List A) → InOrder cmp xs → NoneTwice xs
    none_twice strict [] up = tt
    none_twice strict (x ∷ xs) up = (λ is. strict x (all_among (λ y. cmp x y ≡ Less) xs x up.0 is), none_twice strict xs up.1)

-- ---- lists made of parts

module _ {A B : Type 0} (f : B → List A) where
  pub all_flat : (P : A → Type 0) (ts : List B) → AllByRecursion (λ t. AllByRecursion P (f t)) ts → AllByRecursion P (flat_map f ts)
  all_flat P [] all = tt
  all_flat P (t ∷ ts) all = all_append P (f t) (flat_map f ts) all.0 (all_flat P ts all.1)

  pub among_flat : (ts : List B) (t : B) (x : A) → IsAmong ts t → IsAmong (f t) x → IsAmong (flat_map f ts) x
  among_flat [] t x of is = absurd of
  among_flat (u ∷ ts) t x (inl e) is = among_left (f u) (flat_map f ts) x (subst (λ v. IsAmong (f v) x) (sym e) is)
  among_flat (u ∷ ts) t x (inr of) is = among_right (f u) (flat_map f ts) x (among_flat ts t x of is)

  -- the whole is as long as its parts together
  pub length_flat : (count : B → ℕ) (ts : List B) → AllByRecursion (λ t. length (f t) ≡ count t) ts → length (flat_map f ts) ≡ sum (map count ts)
  length_flat count [] all = refl
  length_flat count (t ∷ ts) all =
      let more : sum (map count (t ∷ ts)) ≡ count t + sum (map count ts) = sum_by-cons (λ x. x) (count t) (map count ts) in
      omega (arith, length-append (f t) (flat_map f ts), all.0, length_flat count ts all.1, more)

  -- what a part keeps: its items are in order, and it has them
  pub record IsPart (cmp : A → A → Ordering) (Has : B → A → Type 0) (t : B) : Type 0 where
    pub up : InOrder cmp (f t)
    pub has : AllByRecursion (Has t) (f t)

  -- parts in order, each of items in order: where items of an earlier part come before those of a later one, all are in order
  module _ (cmp : A → A → Ordering) (ahead : B → B → Ordering) (Has : B → A → Type 0)
      (apart : (t u : B) (x y : A) → ahead t u ≡ Less → Has t x → Has u y → cmp x y ≡ Less) where
    below : (t : B) (us : List B) (x : A) → AllByRecursion (λ u. ahead t u ≡ Less) us → AllByRecursion (IsPart cmp Has) us → Has t x → AllByRecursion (λ y. cmp x y ≡ Less) (flat_map f us)
    below t [] x later parts in_t = tt
    below t (u ∷ us) x later parts in_t =
        let part = parts.0 in
        all_append (λ y. cmp x y ≡ Less) (f u) (flat_map f us) (all_weaker (Has u) (λ y. cmp x y ≡ Less) (f u) (λ y in_u. apart t u x y later.0 in_t in_u) part.has) (below t us x later.1 parts.1 in_t)

    pub in_order_flat : (ts : List B) → InOrder ahead ts → AllByRecursion (IsPart cmp Has) ts → InOrder cmp (flat_map f ts)
    in_order_flat [] up parts = tt
    in_order_flat (t ∷ ts) up parts =
        let part = parts.0 in
        in_order_append cmp (f t) (flat_map f ts) part.up
        (all_weaker (Has t) (λ x. AllByRecursion (λ y. cmp x y ≡ Less) (flat_map f ts)) (f t) (λ x in_t. below t ts x up.0 parts.1 in_t) part.has) (in_order_flat ts up.1 parts.1)
