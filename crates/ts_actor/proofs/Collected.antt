-- What a loop collects of one more item.
use Rattle.std.proofs.Common.{◌≡◌, ℕ, ◌+◌, ◌<◌, Bool, take, List, [], ◌∷◌, ◌++◌, Option, Some, None, refl, ◌∙◌, ap, arith, length, get_or, suc, zero}
use Rattle.std.specs.Prelude.{filter, filter_map, option_to_list, option_map, slice_get}
use Rattle.std.specs.List.{cons_option}
use Rattle.std.proofs.lemmas.List.{take_more}
use Rattle.ts_model.specs.Queries.{places_from}
use Rattle.std.proofs.lemmas.List.Elements.{filter-append, filter_map-append}

module _ {X Y : Type 0} (f : X → Option Y) where
  one : (o : Option Y) → cons_option o [] ≡ option_to_list o
  one (Some y) = refl
  one None = refl

  -- what `f` gives of the items up to the next one
  pub filter_map-more : (xs : List X) (i : ℕ) (d : X) → i < length xs → filter_map f (take (i + 1) xs) ≡ filter_map f (take i xs) ++ option_to_list (f (get_or xs i d))
  filter_map-more xs i d within =
      ap (filter_map f) (take_more xs i d within)
      ∙ filter_map-append f (take i xs) (get_or xs i d ∷ [])
      ∙ ap (λ ys. filter_map f (take i xs) ++ ys) (one (f (get_or xs i d)))

  -- those that pass a test, of what `f` gives of the items up to the next one
  pub filter-filter_map-more : (p : Y → Bool) (xs : List X) (i : ℕ) (d : X) → i < length xs → filter p (filter_map f (take (i + 1) xs)) ≡ filter p (filter_map f (take i xs)) ++ filter p (option_to_list (f (get_or xs i d)))
  filter-filter_map-more p xs i d within = ap (filter p) (filter_map-more xs i d within) ∙ filter-append p (filter_map f (take i xs)) (option_to_list (f (get_or xs i d)))

numbers_suc : (count first : ℕ) → places_from first (suc count) ≡ places_from first count ++ (first + count) ∷ []
numbers_suc zero first = let same : first ≡ first + 0 = omega arith in ap (λ n. n ∷ []) same
numbers_suc (suc count) first =
    let same : suc first + count ≡ first + suc count = omega arith in
    ap (λ ns. first ∷ ns) (numbers_suc count (suc first) ∙ ap (λ n. places_from (suc first) count ++ n ∷ []) same)

-- one number more
pub numbers_more : (first count : ℕ) → places_from first (count + 1) ≡ places_from first count ++ (first + count) ∷ []
numbers_more first count = let same : count + 1 ≡ suc count = omega arith in ap (places_from first) same ∙ numbers_suc count first

-- a list that has an item at a place goes on behind it
pub within_asked : {X Y : Type 0} (f : X → Y) (xs : List X) (i : ℕ) → (option_map f (slice_get xs i) ≡ None → ⊥) → i < length xs
within_asked f [] i asks = absurd (asks refl)
within_asked f (x ∷ xs) zero asks = omega arith
within_asked f (x ∷ xs) (suc i) asks = let later = within_asked f xs i asks in omega (arith, later)
