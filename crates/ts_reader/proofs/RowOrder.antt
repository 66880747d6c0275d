-- Coordinates in row order, compared dimension by dimension.
use Rattle.std.proofs.Common.{◌≡◌, ℕ, zero, suc, ◌+◌, ℤ, List, [], ◌∷◌, drop, int_cmp, Ordering, Less, Equal, Greater, refl, sym, ap, ◌∙◌, arith}
use Rattle.std.specs.Prelude.{slice_get}
use Rattle.std.specs.Cmp.Lexicographic.{slice_cmp}
use Rattle.std.specs.Option.{option_cmp}
use Rattle.std.specs.Ordering.{ordering_then}

none_left : (i : ℕ) → drop {A = ℤ} i [] ≡ []
none_left zero = refl
none_left (suc i) = refl

-- the numbers along a dimension decide, and else those along the further dimensions
along : (xs ys : List ℤ) (i : ℕ)
    → slice_cmp int_cmp (drop i xs) (drop i ys) ≡ ordering_then (option_cmp int_cmp (slice_get xs i) (slice_get ys i)) (slice_cmp int_cmp (drop (i + 1) xs) (drop (i + 1) ys))
along [] [] i = rw (none_left i, none_left (i + 1)) refl
along [] (y ∷ ys) zero = refl
along [] (y ∷ ys) (suc i) = let next : suc i + 1 ≡ suc (i + 1) = omega arith in rw next (rw (none_left i, none_left (i + 1)) at (along [] ys i))
along (x ∷ xs) [] zero = refl
along (x ∷ xs) [] (suc i) = let next : suc i + 1 ≡ suc (i + 1) = omega arith in rw next (rw (none_left i, none_left (i + 1)) at (along xs [] i))
along (x ∷ xs) (y ∷ ys) zero = refl
along (x ∷ xs) (y ∷ ys) (suc i) = let next : suc i + 1 ≡ suc (i + 1) = omega arith in rw next (along xs ys i)

module _ (xs ys : List ℤ) (i : ℕ) (all : Ordering) (so_far : slice_cmp int_cmp (drop i xs) (drop i ys) ≡ all) where
  -- where the numbers tie the further ones decide
  pub tied_along : option_cmp int_cmp (slice_get xs i) (slice_get ys i) ≡ Equal → slice_cmp int_cmp (drop (i + 1) xs) (drop (i + 1) ys) ≡ all
  tied_along tie = sym (along xs ys i ∙ ap (λ o. ordering_then o (slice_cmp int_cmp (drop (i + 1) xs) (drop (i + 1) ys))) tie) ∙ so_far

  -- and else they do
  pub apart_along : (o : Ordering) → option_cmp int_cmp (slice_get xs i) (slice_get ys i) ≡ o → (o ≡ Equal → ⊥) → o ≡ all
  apart_along o is apart = by_order o is apart ∙ so_far
    where
      by_order : (p : Ordering) → option_cmp int_cmp (slice_get xs i) (slice_get ys i) ≡ p → (p ≡ Equal → ⊥) → p ≡ slice_cmp int_cmp (drop i xs) (drop i ys)
      by_order Less at other = sym (along xs ys i ∙ ap (λ o. ordering_then o (slice_cmp int_cmp (drop (i + 1) xs) (drop (i + 1) ys))) at)
      by_order Equal at other = absurd (other refl)
      by_order Greater at other = sym (along xs ys i ∙ ap (λ o. ordering_then o (slice_cmp int_cmp (drop (i + 1) xs) (drop (i + 1) ys))) at)
