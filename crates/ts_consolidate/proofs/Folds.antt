-- Steps of loops over heads, keys and versions.
use Rattle.std.proofs.Common.{◌≡◌, ℕ, ◌+◌, ◌<◌, ◌≤◌, List, [], ◌∷◌, ◌++◌, length, take, get_or, sym, ap, ◌∙◌}
use Rattle.std.specs.List.{fold, flat_map}
use Rattle.std.proofs.lemmas.List.{append-nil, take_all, take_more}
use Rattle.std.proofs.lemmas.List.Sums.{fold-append, fold_more}
use Rattle.std.proofs.lemmas.Grind.{flat_map-append}

module _ {X Y : Type 0} (f : Y → X → Y) (a : Y) (xs : List X) where
  -- one item more
  pub fold_next : (i : ℕ) (d : X) (so_far new : Y) → i < length xs → so_far ≡ fold f a (take i xs) → new ≡ f so_far (get_or xs i d) → new ≡ fold f a (take (i + 1) xs)
  fold_next i d so_far new more was is = is ∙ ap (λ y. f y (get_or xs i d)) was ∙ sym (fold_more f a xs i d more)

  -- all items
  pub fold_all : (i : ℕ) (so_far : Y) → length xs ≤ i → so_far ≡ fold f a (take i xs) → so_far ≡ fold f a xs
  fold_all i so_far end was = was ∙ ap (fold f a) (take_all i xs end)

module _ {X A B : Type 0} (step : B → A → B) (a : B) (names : X → List A) (xs : List X) where
  -- the names of one item more
  pub names_next : (i : ℕ) (d : X) (so_far new : B) → i < length xs → so_far ≡ fold step a (flat_map names (take i xs)) → new ≡ fold step so_far (names (get_or xs i d)) → new ≡ fold step a (flat_map names (take (i + 1) xs))
  names_next i d so_far new more was is =
      is ∙ ap (λ b. fold step b (names (get_or xs i d))) was ∙ sym (fold-append step a (flat_map names (take i xs)) (names (get_or xs i d)))
      ∙ ap (fold step a) (sym (ap (flat_map names) (take_more xs i d more) ∙ flat_map-append names (take i xs) (get_or xs i d ∷ []) ∙ ap (λ l. flat_map names (take i xs) ++ l) (append-nil (names (get_or xs i d)))))
