-- What one text spells, at its front.
use Rattle.std.proofs.Common.{◌≡◌, ℕ, ◌+◌, List, [], ◌∷◌, ◌++◌, length, Ok, refl, sym, ap, ◌∙◌, arith, append_assoc}
use Rattle.std.specs.List.{flat_map, All}
use Rattle.std.proofs.lemmas.List.{take_at, drop_at}
use Rattle.std.specs.Prelude.{take, drop}
use Rattle.std.proofs.lemmas.List.Elements.{All-head, All-tail}
use Rattle.ts_wire.specs.Place.{Place, Read, place}
use Rattle.ts_wire.specs.Exact.{Exact}
use Rattle.ts_wire.proofs.Laws.{same_ok}

-- two lists with fronts as long are the same part by part
pub split_same : {X : Type 0} (xs ys more rest : List X) → length xs ≡ length ys → xs ++ more ≡ ys ++ rest → (xs ≡ ys) × (more ≡ rest)
split_same xs ys more rest long same = (
  sym (take_at xs more (length xs) refl) ∙ ap (take (length xs)) same ∙ take_at ys rest (length xs) (sym long),
  sym (drop_at xs more (length xs) refl) ∙ ap (drop (length xs)) same ∙ drop_at ys rest (length xs) (sym long),
)

module _ {A : Type 0} {Fits : A → Type 0} {spell : A → List ℕ} {read : Place → Read A} (base : Exact Fits spell read) where
  -- what two values spell, with something behind it
  pub spells_apart : (x y : A) (more rest : List ℕ) → Fits x → Fits y → spell x ++ more ≡ spell y ++ rest → (x ≡ y) × (more ≡ rest)
  spells_apart x y more rest fx fy same =
      let one = base.again x more 0 fx in
      let other : read (place (spell x ++ more) 0) ≡ Ok (y, place rest (0 + length (spell y))) = ap (λ text. read (place text 0)) same ∙ base.again y rest 0 fy in
      let e = same_ok (read (place (spell x ++ more) 0)) (x, place more (0 + length (spell x))) (y, place rest (0 + length (spell y))) one other in
      (ap (λ z. z.0) e, ap (λ z. z.1.rest) e)

  -- the same for lists of as many values
  pub lists_apart : (xs ys : List A) (more rest : List ℕ) → length xs ≡ length ys → All Fits xs → All Fits ys → flat_map spell xs ++ more ≡ flat_map spell ys ++ rest → (xs ≡ ys) × (more ≡ rest)
  lists_apart [] [] more rest long fx fy same = (refl, same)
  lists_apart [] (y ∷ ys) more rest long fx fy same = absurd (omega arith)
  lists_apart (x ∷ xs) [] more rest long fx fy same = absurd (omega arith)
  lists_apart (x ∷ xs) (y ∷ ys) more rest long fx fy same =
      let first = spells_apart x y (flat_map spell xs ++ more) (flat_map spell ys ++ rest) (All-head Fits x xs fx) (All-head Fits y ys fy)
      (sym (append_assoc (spell x) (flat_map spell xs) more) ∙ same ∙ append_assoc (spell y) (flat_map spell ys) rest) in
      let others = lists_apart xs ys more rest (omega arith) (All-tail Fits x xs fx) (All-tail Fits y ys fy) first.1 in
      (ap (λ z. z ∷ xs) first.0 ∙ ap (λ zs. y ∷ zs) others.0, others.1)

  pub lists_same : (xs ys : List A) → length xs ≡ length ys → All Fits xs → All Fits ys → flat_map spell xs ≡ flat_map spell ys → xs ≡ ys
  lists_same xs ys long fx fy same = (lists_apart xs ys [] [] long fx fy (ap (λ text. text ++ []) same)).0
