-- Lists of one number.
use Rattle.std.proofs.Common.{◌≡◌, ℕ, List, [], ◌∷◌, length, replicate, refl, ap, ◌∙◌}
use Rattle.std.specs.List.{All}
use Rattle.std.proofs.lemmas.List.Elements.{All-head, All-tail}

-- a list whose items are all one number is that number so many times
pub all_alike : (n : ℕ) (xs : List ℕ) → All (λ x. x ≡ n) xs → xs ≡ replicate (length xs) n
all_alike n [] all = refl
all_alike n (x ∷ xs) all =
    ap (λ (y : ℕ). y ∷ xs) (All-head (λ (y : ℕ). y ≡ n) x xs all) ∙ ap (λ ys. n ∷ ys) (all_alike n xs (All-tail (λ (y : ℕ). y ≡ n) x xs all))

pub ruleset alikes = (all_alike)
