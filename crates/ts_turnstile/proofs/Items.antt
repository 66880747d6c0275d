-- Items of lists: after one is set, after one is added, and under a map.
use Rattle.std.proofs.Common.{◌≡◌, ◌≢◌, ◌⊎◌, inl, inr, ⊎_elim, ℕ, zero, suc, ◌<◌, List, [], ◌∷◌, ◌++◌, map, length, set, refl, sym, ap, ◌∙◌, subst, arith}
use Rattle.std.proofs.lemmas.List.{map-set}
use mathlib.Core.Option.{some, some-injective, some-ne-none}
use mathlib.Core.Logic.{dite}
use native.Mathlib.Decide.{ℕ_discrete}
use lib.ListN.{get_elem?}
use Rattle.atomic_table.proofs.Lists.{at_set, at_longer, set_here, set_else, set_again, at_map}
use Rattle.ts_turnstile.specs.Rule.{At}

module _ {A : Type 0} where
  pub at_length : (l : List A) (i : ℕ) (v : A) → At l i v → i < length l
  at_length [] i v e = absurd (some-ne-none v (sym e))
  at_length (x ∷ xs) zero v e = omega arith
  at_length (x ∷ xs) (suc i) v e = let h = at_length xs i v e in omega arith

  pub one_item : (l : List A) (i : ℕ) (v w : A) → At l i v → At l i w → v ≡ w
  one_item l i v w a b = some-injective v w (sym a ∙ b)

  -- the item at a place that is the same
  pub same_item : (l : List A) (i j : ℕ) (v w : A) → j ≡ i → At l i v → At l j w → v ≡ w
  same_item l i j v w same a b = let P : ℕ → Type 0 = λ k. At l k w in one_item l i v w a (subst P same b)

  -- what holds of each item, once one is set
  pub each_set : (P : ℕ → A → Type 0) (l : List A) (i : ℕ) (w : A) → ((j : ℕ) (u : A) → j ≢ i → At l j u → P j u) → P i w → (j : ℕ) (u : A) → At (set l i w) j u → P j u
  each_set P l i w others mine j u e =
      ⊎_elim
      (λ (x : (j ≡ i) × (w ≡ u)). subst (λ (y : ℕ × A). P y.0 y.1) (λ k. (sym x.0 k, x.1 k)) mine)
      (λ (x : (j ≢ i) × (get_elem? l j ≡ some u)). others j u x.0 x.1)
      (at_set l i j w u e)

  -- what holds of each item after one was set held of each before
  pub unset : (P : A → Type 0) (l : List A) (i : ℕ) (v w : A) → At l i v → (P w → P v) → ((j : ℕ) (u : A) → At (set l i w) j u → P u) → (j : ℕ) (u : A) → At l j u → P u
  unset P l i v w at back all j u here =
      dite (ℕ_discrete j i)
      (λ (same : j ≡ i). subst P (same_item l i j v u same at here) (back (all i w (set_here l i w (at_length l i v at)))))
      (λ (apart : j ≢ i). all j u (set_else l i j w apart ∙ here))

  -- some item stands there still
  pub moved : (Q : A → Type 0) (l : List A) (i : ℕ) (v w : A) → At l i v → (Q v → Q w) → (j : ℕ) × (u : A) × At l j u × Q u → (j : ℕ) × (u : A) × At (set l i w) j u × Q u
  moved Q l i v w at on x =
      dite (ℕ_discrete x.0 i)
      (λ (same : x.0 ≡ i). (i, w, set_here l i w (at_length l i v at), on (subst Q (sym (same_item l i x.0 v x.1 same at x.2)) x.3)))
      (λ (apart : x.0 ≢ i). (x.0, x.1, set_else l i x.0 w apart ∙ x.2, x.3))

  at_added : (l : List A) (a u : A) (j : ℕ) → At (l ++ a ∷ []) j u → (At l j u) ⊎ ((j ≡ length l) × (a ≡ u))
  at_added [] a u zero e = inr (refl, some-injective a u e)
  at_added [] a u (suc j) e = absurd (some-ne-none u (sym e))
  at_added (x ∷ xs) a u zero e = inl e
  at_added (x ∷ xs) a u (suc j) e =
      ⊎_elim
      (λ (t : At xs j u). inl t)
      (λ (t : (j ≡ length xs) × (a ≡ u)). inr (ap suc t.0, t.1))
      (at_added xs a u j e)

  -- what holds of each item, once one is added
  pub each_added : (P : ℕ → A → Type 0) (l : List A) (a : A) → ((j : ℕ) (u : A) → At l j u → P j u) → P (length l) a → (j : ℕ) (u : A) → At (l ++ a ∷ []) j u → P j u
  each_added P l a others mine j u e =
      ⊎_elim
      (λ (x : At l j u). others j u x)
      (λ (x : (j ≡ length l) × (a ≡ u)). subst (λ (y : ℕ × A). P y.0 y.1) (λ k. (sym x.0 k, x.1 k)) mine)
      (at_added l a u j e)

  pub added_here : (l : List A) (a : A) → At (l ++ a ∷ []) (length l) a
  added_here [] a = refl
  added_here (x ∷ xs) a = added_here xs a

  pub longer_still : (Q : A → Type 0) (l m : List A) → (j : ℕ) × (u : A) × At l j u × Q u → (j : ℕ) × (u : A) × At (l ++ m) j u × Q u
  longer_still Q l m x = (x.0, x.1, at_longer l m x.0 x.1 x.2, x.3)

module _ {A B : Type 0} (f : A → B) where
  -- an item under a map comes from one
  pub map_at : (l : List A) (j : ℕ) (b : B) → At (map f l) j b → (a : A) × At l j a × (f a ≡ b)
  map_at [] j b e = absurd (some-ne-none b (sym e))
  map_at (x ∷ xs) zero b e = (x, refl, some-injective (f x) b e)
  map_at (x ∷ xs) (suc j) b e = map_at xs j b e

  pub at_image : (l : List A) (i : ℕ) (a : A) → At l i a → At (map f l) i (f a)
  at_image l i a e = at_map f l i a e

  -- where what a map sees of an item stays, a fact on all of it stays
  pub kept : (P : List B → Type 0) (l : List A) (i : ℕ) (v w : A) → At l i v → f w ≡ f v → P (map f l) → P (map f (set l i w))
  kept P l i v w at same p =
      subst P (sym (map-set f l i w ∙ ap (λ y. set (map f l) i y) same ∙ set_again (map f l) i (f v) (at_map f l i v at))) p

  pub changed : (P : List B → Type 0) (l : List A) (i : ℕ) (w : A) → P (set (map f l) i (f w)) → P (map f (set l i w))
  changed P l i w p = subst P (sym (map-set f l i w)) p
