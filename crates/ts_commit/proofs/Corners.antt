-- Corners and cells of coordinates that end, one or the other, at a dimension.
use Rattle.std.proofs.Common.{◌≡◌, ℕ, ◌*◌, ◌≤◌, min, List, [], ◌∷◌, ◌++◌, length, take, drop, refl, sym, ap, ◌∙◌, ⊎_elim, arith, ℤ}
use Rattle.std.proofs.lemmas.List.{append-nil, drop_all}
use Rattle.std.proofs.lemmas.Bool.{cases_lt}
use Rattle.ts_domain.specs.Bounds.{cells_between, least_corner, greatest_corner}

-- ---- past the end of one of them

least_none : (xs : List ℤ) → least_corner xs [] ≡ []
least_none [] = refl
least_none (x ∷ xs) = refl

greatest_none : (xs : List ℤ) → greatest_corner xs [] ≡ []
greatest_none [] = refl
greatest_none (x ∷ xs) = refl

cells_none : (xs : List ℤ) → cells_between xs [] ≡ 1
cells_none [] = refl
cells_none (x ∷ xs) = refl

module _ (xs ys : List ℤ) (i : ℕ) (ends : min (length xs) (length ys) ≤ i) where
  least_past : least_corner (drop i xs) (drop i ys) ≡ []
  least_past = ⊎_elim (λ some. ap (least_corner (drop i xs)) (drop_all i ys (omega arith)) ∙ least_none (drop i xs)) (λ past. ap (λ l. least_corner l (drop i ys)) (drop_all i xs past)) (cases_lt i (length xs))

  greatest_past : greatest_corner (drop i xs) (drop i ys) ≡ []
  greatest_past = ⊎_elim (λ some. ap (greatest_corner (drop i xs)) (drop_all i ys (omega arith)) ∙ greatest_none (drop i xs)) (λ past. ap (λ l. greatest_corner l (drop i ys)) (drop_all i xs past)) (cases_lt i (length xs))

  cells_past : cells_between (drop i xs) (drop i ys) ≡ 1
  cells_past = ⊎_elim (λ some. ap (cells_between (drop i xs)) (drop_all i ys (omega arith)) ∙ cells_none (drop i xs)) (λ past. ap (λ l. cells_between l (drop i ys)) (drop_all i xs past)) (cases_lt i (length xs))

  -- ---- all dimensions are done

  pub least_corner_all : (numbers corner : List ℤ) → take i numbers ++ least_corner (drop i xs) (drop i ys) ≡ corner → take i numbers ≡ corner
  least_corner_all numbers corner before = sym (append-nil (take i numbers)) ∙ ap (λ l. take i numbers ++ l) (sym least_past) ∙ before

  pub greatest_corner_all : (numbers corner : List ℤ) → take i numbers ++ greatest_corner (drop i xs) (drop i ys) ≡ corner → take i numbers ≡ corner
  greatest_corner_all numbers corner before = sym (append-nil (take i numbers)) ∙ ap (λ l. take i numbers ++ l) (sym greatest_past) ∙ before

  pub cells_all : (cells cap whole : ℕ) → cells ≤ cap → min (cells * cells_between (drop i xs) (drop i ys)) cap ≡ whole → cells ≡ whole
  cells_all cells cap whole fits before =
      let here : min (cells * 1) cap ≡ whole = rw cells_past at before in
      omega arith
