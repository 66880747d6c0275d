-- Rows that stand one after the other in one list, and the place that an item of a row has among all.
use Rattle.std.proofs.Common.{◌≡◌, ℕ, zero, suc, ◌+◌, ◌-◌, ◌<◌, Bool, true, false, nat_lt, List, [], ◌∷◌, ◌++◌, Some, length, length-append, refl, sym, ◌∙◌, ap, subst, arith}
use Rattle.std.specs.Prelude.{flat_map, slice_get}
use Rattle.std.proofs.lemmas.Bool.{ltb-false, ltb-true}
use Rattle.std.proofs.lemmas.Option.{same_Some, none-some}

-- how many items the rows before one have together, where a row has so many
abbrev pub before : (ℕ → ℕ) → ℕ → ℕ
before count zero = 0
before count (suc n) = count 0 + before (λ i. count (suc i)) n

module _ {X : Type 0} where
  -- an item of the first of two lists
  slice_get_first : (xs ys : List X) (i : ℕ) → i < length xs → slice_get (xs ++ ys) i ≡ slice_get xs i
  slice_get_first [] ys i less = absurd (omega (arith, less))
  slice_get_first (x ∷ xs) ys zero less = refl
  slice_get_first (x ∷ xs) ys (suc i) less = slice_get_first xs ys i (omega (arith, less))

  -- an item of the second
  slice_get_second : (xs ys : List X) (i : ℕ) → slice_get (xs ++ ys) (length xs + i) ≡ slice_get ys i
  slice_get_second [] ys i = ap (slice_get ys) (omega arith)
  slice_get_second (x ∷ xs) ys i =
      let next : suc (length xs) + i ≡ suc (length xs + i) = omega arith in
      ap (slice_get (x ∷ xs ++ ys)) next ∙ slice_get_second xs ys i

  -- where there is something for each place, there is a list of such things, each at its place
  pub chosen : (P : ℕ → X → Type 0) (n : ℕ) → ((i : ℕ) → i < n → (x : X) × P i x) → (xs : List X) × (length xs ≡ n) × ((i : ℕ) (x : X) → slice_get xs i ≡ Some x → P i x)
  chosen P zero each = ([], refl, λ i x at. absurd (none-some x at))
  chosen P (suc n) each =
      let (x, is) = each 0 (omega arith) in
      let (xs, many, all) = chosen (λ i. P (suc i)) n (λ i less. each (suc i) (omega (arith, less))) in
      (x ∷ xs, ap suc many, first_and_rest x xs is all)
    where
      first_and_rest : (x : X) (xs : List X) → P 0 x → ((i : ℕ) (y : X) → slice_get xs i ≡ Some y → P (suc i) y) → (i : ℕ) (y : X) → slice_get (x ∷ xs) i ≡ Some y → P i y
      first_and_rest x xs is all zero y at = subst (P 0) (same_Some x y at) is
      first_and_rest x xs is all (suc i) y at = all i y at

module _ {X Y : Type 0} (items : X → List Y) where
  -- each row has so many items
  abbrev pub AreCounted : (ℕ → ℕ) → List X → Type 0
  AreCounted count rows = (i : ℕ) (row : X) → slice_get rows i ≡ Some row → length (items row) ≡ count i

  -- the rows have so many together
  pub rows_length : (count : ℕ → ℕ) (rows : List X) → AreCounted count rows → length (flat_map items rows) ≡ before count (length rows)
  rows_length count [] counted = refl
  rows_length count (row ∷ rows) counted =
      let whole = length-append (items row) (flat_map items rows) in
      let first = counted 0 row refl in
      let rest = rows_length (λ i. count (suc i)) rows (λ i r at. counted (suc i) r at) in
      omega (arith, whole, first, rest)

  -- an item of a row stands after those of the rows before it
  pub row_at : (count : ℕ → ℕ) (rows : List X) (i : ℕ) (row : X) (j : ℕ) → AreCounted count rows → slice_get rows i ≡ Some row → j < length (items row)
      → slice_get (flat_map items rows) (before count i + j) ≡ slice_get (items row) j
  row_at count [] i row j counted at less = absurd (none-some row at)
  row_at count (r ∷ rows) zero row j counted at less =
      let same = same_Some r row at in
      let none : 0 + j ≡ j = omega arith in
      ap (slice_get (items r ++ flat_map items rows)) none ∙ slice_get_first (items r) (flat_map items rows) j (subst (λ x. j < length (items x)) (sym same) less) ∙ ap (λ x. slice_get (items x) j) same
  row_at count (r ∷ rows) (suc i) row j counted at less =
      let first = counted 0 r refl in
      let later = before (λ k. count (suc k)) i in
      let past : count 0 + later + j ≡ length (items r) + (later + j) = omega (arith, first) in
      ap (slice_get (items r ++ flat_map items rows)) past ∙ slice_get_second (items r) (flat_map items rows) (later + j) ∙ row_at (λ k. count (suc k)) rows i row j (λ k x is. counted (suc k) x is) at less

  -- each place among all is that of an item of a row
  pub place_in_row : (count : ℕ → ℕ) (rows : List X) (k : ℕ) → AreCounted count rows → k < length (flat_map items rows)
      → (i : ℕ) × (row : X) × (j : ℕ) × (slice_get rows i ≡ Some row) × (j < length (items row)) × (k ≡ before count i + j)
  place_in_row count [] k counted less = absurd (omega (arith, less))
  place_in_row count (r ∷ rows) k counted less = by (nat_lt k (length (items r))) refl (place_in_row (λ i. count (suc i)) rows (k - length (items r)) (λ i x is. counted (suc i) x is))
    where
      whole : length (items r ++ flat_map items rows) ≡ length (items r) + length (flat_map items rows)
      whole = length-append (items r) (flat_map items rows)

      by : (t : Bool) → nat_lt k (length (items r)) ≡ t
          → (k - length (items r) < length (flat_map items rows) → (i : ℕ) × (row : X) × (j : ℕ) × (slice_get rows i ≡ Some row) × (j < length (items row)) × (k - length (items r) ≡ before (λ i. count (suc i)) i + j))
          → (i : ℕ) × (row : X) × (j : ℕ) × (slice_get (r ∷ rows) i ≡ Some row) × (j < length (items row)) × (k ≡ before count i + j)
      by true is later = (0, r, k, refl, ltb-true k (length (items r)) is, omega arith)
      by false is later =
          let past = ltb-false k (length (items r)) is in
          let (i, row, j, at, within, same) = later (omega (arith, past, less, whole)) in
          let first = counted 0 r refl in
          (suc i, row, j, at, within, omega (arith, past, same, first))
