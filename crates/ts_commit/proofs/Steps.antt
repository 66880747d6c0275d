-- Steps of loops over heads and `.vac` objects.
use Rattle.std.proofs.Common.{◌≡◌, ℕ, ◌+◌, ◌<◌, Bool, true, false, ◌||◌, List, [], ◌∷◌, ◌++◌, length, take, get_or, map, refl, ap, ◌∙◌}
use Rattle.std.specs.Prelude.{filter, cond}
use Rattle.std.specs.List.{list_any, fold, flat_map}
use Rattle.std.proofs.lemmas.List.{append-nil, map-append, take_more}
use Rattle.std.proofs.lemmas.List.Elements.{filter_more}
use Rattle.std.proofs.lemmas.List.Folds.{list_any-append}
use Rattle.std.proofs.lemmas.List.Sums.{fold-append}
use Rattle.std.proofs.lemmas.Grind.{flat_map-append}

module _ {X Y : Type 0} where
  -- an item more that passes, or that does not, in a list of what f makes of those that pass
  pub kept_yes : (p : X → Bool) (f : X → Y) (xs : List X) (i : ℕ) (d : X) → i < length xs → p (get_or xs i d) ≡ true
      → map f (filter p (take (i + 1) xs)) ≡ map f (filter p (take i xs)) ++ f (get_or xs i d) ∷ []
  kept_yes p f xs i d more is =
      ap (map f) (filter_more p xs i d more ∙ ap (λ b. filter p (take i xs) ++ cond b (get_or xs i d ∷ []) []) is) ∙ map-append f (filter p (take i xs)) (get_or xs i d ∷ [])

  pub kept_no : (p : X → Bool) (f : X → Y) (xs : List X) (i : ℕ) (d : X) → i < length xs → p (get_or xs i d) ≡ false
      → map f (filter p (take (i + 1) xs)) ≡ map f (filter p (take i xs))
  kept_no p f xs i d more is =
      ap (map f) (filter_more p xs i d more ∙ ap (λ b. filter p (take i xs) ++ cond b (get_or xs i d ∷ []) []) is ∙ append-nil (filter p (take i xs)))

module _ {X : Type 0} where
  -- an item more that passes, or that does not, in a search among those that pass
  pub found_yes : (p q : X → Bool) (xs : List X) (i : ℕ) (d : X) → i < length xs → p (get_or xs i d) ≡ true
      → list_any q (filter p (take (i + 1) xs)) ≡ (list_any q (filter p (take i xs)) || q (get_or xs i d))
  found_yes p q xs i d more is =
      ap (list_any q) (filter_more p xs i d more ∙ ap (λ b. filter p (take i xs) ++ cond b (get_or xs i d ∷ []) []) is)
      ∙ list_any-append q (filter p (take i xs)) (get_or xs i d ∷ []) ∙ ap (λ b. list_any q (filter p (take i xs)) || b) (or_false (q (get_or xs i d)))
    where
      or_false : (b : Bool) → (b || false) ≡ b
      or_false true = refl
      or_false false = refl

  pub found_no : (p q : X → Bool) (xs : List X) (i : ℕ) (d : X) → i < length xs → p (get_or xs i d) ≡ false
      → list_any q (filter p (take (i + 1) xs)) ≡ list_any q (filter p (take i xs))
  found_no p q xs i d more is =
      ap (list_any q) (filter_more p xs i d more ∙ ap (λ b. filter p (take i xs) ++ cond b (get_or xs i d ∷ []) []) is ∙ append-nil (filter p (take i xs)))

module _ {X A B : Type 0} (step : B → A → B) (names : X → List A) where
  -- the names of an item more
  pub folded_more : (b : B) (xs : List X) (i : ℕ) (d : X) → i < length xs
      → fold step b (flat_map names (take (i + 1) xs)) ≡ fold step (fold step b (flat_map names (take i xs))) (names (get_or xs i d))
  folded_more b xs i d more =
      ap (λ l. fold step b (flat_map names l)) (take_more xs i d more) ∙ ap (fold step b) (flat_map-append names (take i xs) (get_or xs i d ∷ []) ∙ ap (λ l. flat_map names (take i xs) ++ l) (append-nil (names (get_or xs i d))))
      ∙ fold-append step b (flat_map names (take i xs)) (names (get_or xs i d))

  -- the same among those that pass
  pub folded_yes : (p : X → Bool) (b : B) (xs : List X) (i : ℕ) (d : X) → i < length xs → p (get_or xs i d) ≡ true
      → fold step b (flat_map names (filter p (take (i + 1) xs))) ≡ fold step (fold step b (flat_map names (filter p (take i xs)))) (names (get_or xs i d))
  folded_yes p b xs i d more is =
      ap (λ l. fold step b (flat_map names l)) (filter_more p xs i d more ∙ ap (λ t. filter p (take i xs) ++ cond t (get_or xs i d ∷ []) []) is)
      ∙ ap (fold step b) (flat_map-append names (filter p (take i xs)) (get_or xs i d ∷ []) ∙ ap (λ l. flat_map names (filter p (take i xs)) ++ l) (append-nil (names (get_or xs i d))))
      ∙ fold-append step b (flat_map names (filter p (take i xs))) (names (get_or xs i d))

  pub folded_no : (p : X → Bool) (b : B) (xs : List X) (i : ℕ) (d : X) → i < length xs → p (get_or xs i d) ≡ false
      → fold step b (flat_map names (filter p (take (i + 1) xs))) ≡ fold step b (flat_map names (filter p (take i xs)))
  folded_no p b xs i d more is =
      ap (λ l. fold step b (flat_map names l)) (filter_more p xs i d more ∙ ap (λ t. filter p (take i xs) ++ cond t (get_or xs i d ∷ []) []) is ∙ append-nil (filter p (take i xs)))
