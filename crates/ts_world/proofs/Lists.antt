-- Lists of which one item is changed.
use Rattle.std.proofs.Common.{◌≡◌, ℕ, zero, suc, ◌<◌, List, [], ◌∷◌, ◌++◌, Some, length, map, take, drop, set, refl, sym, ap, arith}
use Rattle.std.specs.Prelude.{slice_get}
use Rattle.std.proofs.lemmas.Option.{same_Some, none-some}

module _ {X : Type 0} where
  -- an item that is changed twice
  pub set_again : (xs : List X) (i : ℕ) (x y : X) → set (set xs i x) i y ≡ set xs i y
  set_again [] i x y = refl
  set_again (z ∷ xs) zero x y = refl
  set_again (z ∷ xs) (suc i) x y = ap (λ t. z ∷ t) (set_again xs i x y)

  -- the item that was changed, and the others
  pub get_changed : (xs : List X) (i : ℕ) (y : X) → i < length xs → slice_get (set xs i y) i ≡ Some y
  get_changed [] i y within = absurd (omega arith)
  get_changed (z ∷ xs) zero y within = refl
  get_changed (z ∷ xs) (suc i) y within = get_changed xs i y (omega arith)

  pub get_unchanged : (xs : List X) (i k : ℕ) (y : X) → (i ≡ k → ⊥) → slice_get (set xs i y) k ≡ slice_get xs k
  get_unchanged [] i k y apart = refl
  get_unchanged (z ∷ xs) zero zero y apart = absurd (apart refl)
  get_unchanged (z ∷ xs) zero (suc k) y apart = refl
  get_unchanged (z ∷ xs) (suc i) zero y apart = refl
  get_unchanged (z ∷ xs) (suc i) (suc k) y apart = get_unchanged xs i k y (λ same. apart (ap suc same))

  -- the items before a place are changed by f, and now the one there is, too
  pub changed_up_to : (f : X → X) (xs : List X) (i : ℕ) (x : X) → slice_get xs i ≡ Some x → set (map f (take i xs) ++ drop i xs) i (f x) ≡ map f (take (suc i) xs) ++ drop (suc i) xs
  changed_up_to f [] i x at = absurd (none-some x at)
  changed_up_to f (y ∷ xs) zero x at = ap (λ z. f z ∷ xs) (sym (same_Some y x at))
  changed_up_to f (y ∷ xs) (suc i) x at = ap (λ t. f y ∷ t) (changed_up_to f xs i x at)

  pub item_after : (f : X → X) (xs : List X) (i : ℕ) → slice_get (map f (take i xs) ++ drop i xs) i ≡ slice_get xs i
  item_after f [] zero = refl
  item_after f [] (suc i) = refl
  item_after f (y ∷ xs) zero = refl
  item_after f (y ∷ xs) (suc i) = item_after f xs i
