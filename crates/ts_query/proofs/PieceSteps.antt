-- The text of pieces, of which one more is full.
use Rattle.std.proofs.Common.{◌≡◌, ℕ, List, [], ◌∷◌, ◌++◌, append-nil, ap, ◌∙◌}
use Rattle.std.specs.List.{flat_map}
use Rattle.std.proofs.lemmas.Grind.{flat_map-append}

pub cut_text : (full : List (List ℕ)) (last : List ℕ) → flat_map (λ (piece : List ℕ). piece) (full ++ last ∷ []) ++ [] ≡ flat_map (λ (piece : List ℕ). piece) full ++ last
cut_text full last =
    append-nil (flat_map (λ (piece : List ℕ). piece) (full ++ last ∷ []))
    ∙ flat_map-append (λ (piece : List ℕ). piece) full (last ∷ []) ∙ ap (λ ys. flat_map (λ (piece : List ℕ). piece) full ++ ys) (append-nil last)
