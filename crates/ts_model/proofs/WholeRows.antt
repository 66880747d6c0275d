-- All fields of a cell, in turn.
use Rattle.std.proofs.Common.{◌≡◌, ℕ, zero, suc, ◌+◌, ◌<◌, List, [], ◌∷◌, ◌++◌, length, take, get_or, refl, sym, ap, ◌∙◌}
use Rattle.std.specs.List.{cons_option}
use Rattle.std.specs.Prelude.{slice_get}
use Rattle.std.proofs.lemmas.List.{take_more}
use Rattle.ts_model.specs.Queries.{items_at, places_from}
use Rattle.ts_model.proofs.Checked.{numbers_more}

-- behind the first item each place counts one less
shifted : {A : Type 0} (x : A) (xs : List A) (first n : ℕ) → items_at (places_from (suc first) n) (x ∷ xs) ≡ items_at (places_from first n) xs
shifted x xs first zero = refl
shifted x xs first (suc n) = ap (cons_option (slice_get xs first)) (shifted x xs (suc first) n)

-- at all places in turn stand all items
pub all_items : {A : Type 0} (xs : List A) → items_at (places_from 0 (length xs)) xs ≡ xs
all_items [] = refl
all_items (x ∷ xs) = ap (λ ys. x ∷ ys) (shifted x xs 0 (length xs) ∙ all_items xs)

-- at places in turn, as many as there are items, stand all items
pub all_in_turn : {A : Type 0} (places : List ℕ) (xs : List A) → places ≡ places_from 0 (length places) → length places ≡ length xs → items_at places xs ≡ xs
all_in_turn places xs turn many = ap (λ ps. items_at ps xs) (turn ∙ ap (places_from 0) many) ∙ all_items xs

-- one place more is in turn
pub turn_more : (places : List ℕ) (n : ℕ) → n < length places → get_or places n 0 ≡ n → take n places ≡ places_from 0 n → take (n + 1) places ≡ places_from 0 (n + 1)
turn_more places n below is was =
    take_more places n 0 below ∙ ap (λ x. take n places ++ x ∷ []) is ∙ ap (λ xs. xs ++ n ∷ []) was ∙ sym (numbers_more n)
