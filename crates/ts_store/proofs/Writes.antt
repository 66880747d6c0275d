-- Writing a text piece by piece.
use Rattle.std.proofs.Common.{◌≡◌, ℕ, ◌-◌, List, ◌++◌, length, take, drop, Option, sym, ap, ◌∙◌, append_assoc, length-drop, arith}
use Rattle.std.proofs.lemmas.List.{take_all, take-append-drop}
use Rattle.std.specs.Io.KnownBytes.{Appends}
use Rattle.std.proofs.KnownBytes.{Appends-trans}

-- the bytes after some are the rest of the list
rest_after : (xs : List ℕ) (n : ℕ) → take (length xs - n) (drop n xs) ≡ drop n xs
rest_after xs n = take_all _ _ (omega (arith, length-drop n xs))

-- once more bytes of the rest were appended, a longer front of the text is
pub front_grown : (a b c : Option (List ℕ)) (text front rest : List ℕ) (count : ℕ)
    → text ≡ front ++ rest → Appends a b front → Appends b c (take count rest)
    → (longer : List ℕ) × (text ≡ longer ++ take (length rest - count) (drop count rest)) × Appends a c longer
front_grown a b c text front rest count whole first second = (
  front ++ take count rest,
  whole
      ∙ ap (λ xs. front ++ xs) (sym (take-append-drop count rest))
      ∙ sym (append_assoc front (take count rest) (drop count rest))
      ∙ ap (λ xs. (front ++ take count rest) ++ xs) (sym (rest_after rest count)),
  Appends-trans a b c front (take count rest) first second,
)
