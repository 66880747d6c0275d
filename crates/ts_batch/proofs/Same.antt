-- Lists that are compared item by item.
use Rattle.std.proofs.Common.{◌≡◌, ℕ, zero, suc, ◌+◌, ◌<◌, ◌≤◌, Bool, true, false, ◌&&◌, List, [], ◌∷◌, length, drop, get_or, refl, sym, arith, add-one}
use Rattle.std.specs.Prelude.{slice_get}
use Rattle.std.specs.Cmp.Lexicographic.{pointwise, unequal}
use Rattle.ts_base.specs.declared.values.Val.{Val}
use Rattle.ts_batch.specs.Rows.{val_eq, option_eq}

module _ {A : Type 0} (same : A → A → Bool) where
  -- the items at a place decide, and then those behind them
  pub pointwise_on : (xs ys : List A) (i : ℕ) (d : A) → i < length xs → length ys ≡ length xs
      → pointwise same (drop i xs) (drop i ys) ≡ (same (get_or xs i d) (get_or ys i d) && pointwise same (drop (i + 1) xs) (drop (i + 1) ys))
  pointwise_on xs ys i d within long = rw add-one (here xs ys i d within long)
    where
      here : (xs ys : List A) (i : ℕ) (d : A) → i < length xs → length ys ≡ length xs → pointwise same (drop i xs) (drop i ys) ≡ (same (get_or xs i d) (get_or ys i d) && pointwise same (drop (suc i) xs) (drop (suc i) ys))
      here [] ys i d within long = absurd (omega (arith, within))
      here (x ∷ xs) [] i d within long = absurd (omega (arith, long))
      here (x ∷ xs) (y ∷ ys) zero d within long = refl
      here (x ∷ xs) (y ∷ ys) (suc i) d within long = here xs ys i d (omega (arith, within)) (omega (arith, long))

  -- behind the last there is nothing to decide
  pub pointwise_end : (xs ys : List A) (i : ℕ) → length xs ≤ i → length ys ≡ length xs → pointwise same (drop i xs) (drop i ys) ≡ true
  pointwise_end [] [] i past long = drop_none i
    where
      drop_none : (i : ℕ) → pointwise same (drop i []) (drop i []) ≡ true
      drop_none zero = refl
      drop_none (suc i) = refl
  pointwise_end [] (y ∷ ys) i past long = absurd (omega (arith, long))
  pointwise_end (x ∷ xs) [] i past long = absurd (omega (arith, long))
  pointwise_end (x ∷ xs) (y ∷ ys) zero past long = absurd (omega (arith, past))
  pointwise_end (x ∷ xs) (y ∷ ys) (suc i) past long = pointwise_end xs ys i (omega (arith, past)) (omega (arith, long))

  -- lists of other lengths are not the same
  pub apart : (xs ys : List A) → (length ys ≡ length xs → ⊥) → pointwise same xs ys ≡ false
  apart xs ys other = unequal same xs ys (λ e. other (sym e))

-- the values at a place decide, and then those behind them
pub vals_on : (xs ys : List Val) (i : ℕ) → i < length xs → length ys ≡ length xs
    → pointwise val_eq (drop i xs) (drop i ys) ≡ (option_eq (slice_get xs i) (slice_get ys i) && pointwise val_eq (drop (i + 1) xs) (drop (i + 1) ys))
vals_on xs ys i within long = rw add-one (here xs ys i within long)
  where
    here : (xs ys : List Val) (i : ℕ) → i < length xs → length ys ≡ length xs → pointwise val_eq (drop i xs) (drop i ys) ≡ (option_eq (slice_get xs i) (slice_get ys i) && pointwise val_eq (drop (suc i) xs) (drop (suc i) ys))
    here [] ys i within long = absurd (omega (arith, within))
    here (x ∷ xs) [] i within long = absurd (omega (arith, long))
    here (x ∷ xs) (y ∷ ys) zero within long = refl
    here (x ∷ xs) (y ∷ ys) (suc i) within long = here xs ys i (omega (arith, within)) (omega (arith, long))

pub ruleset rows_same = (pointwise_on, pointwise_end, apart, vals_on)
