-- Rows and columns: what all columns of some cells are tells their rows.
use Rattle.std.proofs.Common.{◌≡◌, ℕ, zero, suc, List, [], ◌∷◌, length, map, get_or, drop, refl, sym, ap, ◌∙◌, arith}
use Rattle.std.specs.List.{All}
use Rattle.std.proofs.lemmas.List.Elements.{All-head, All-tail, All-nil, All-cons}
use Rattle.ts_wire.specs.Exact.{EachFits}
use Rattle.ts_plain.specs.declared.stored.StoredCell.{StoredCell}

pub first_or : {X : Type 0} → X → List X → X
first_or x [] = x
first_or x (y ∷ ys) = y

pub behind : {X : Type 0} → List X → List X
behind [] = []
behind (y ∷ ys) = ys

-- two lists that are the same have the same first item and the same others
pub cons_parts : {X : Type 0} (x y : X) (xs ys : List X) → x ∷ xs ≡ y ∷ ys → (x ≡ y) × (xs ≡ ys)
unfolding first_or behind
cons_parts x y xs ys e = (ap (first_or x) e, ap behind e)

module _ {D A : Type 0} (F : D → A → Type 0) (other : A) (row : StoredCell → List A) where
  -- the column at a place
  abbrev pub column : ℕ → List StoredCell → List A
  column k cells = map (λ c. get_or (row c) k other) cells

  -- what follows a place
  abbrev pub others : ℕ → List StoredCell → List (List A)
  others k cells = map (λ c. drop k (row c)) cells

  -- from a place on each cell has an item for each of these
  abbrev pub Ends : ℕ → List D → List StoredCell → Type 0
  Ends k ds cells = All (λ c. EachFits F ds (drop k (row c))) cells

  -- from a place on the columns are the same
  abbrev pub Same : ℕ → List D → List StoredCell → List StoredCell → Type 0
  Same k [] cells more = Unit {0}
  Same k (d ∷ ds) cells more = (column k cells ≡ column k more) × Same (suc k) ds cells more

  -- the item at a place, and what follows it
  pub at_front : (d : D) (ds : List D) (k : ℕ) (xs : List A) → EachFits F (d ∷ ds) (drop k xs) → F d (get_or xs k other) × (EachFits F ds (drop (suc k) xs) × (drop k xs ≡ get_or xs k other ∷ drop (suc k) xs))
  at_front d ds zero [] fits = absurd fits
  at_front d ds zero (x ∷ xs) fits = (fits.0, (fits.1, refl))
  at_front d ds (suc k) [] fits = absurd fits
  at_front d ds (suc k) (x ∷ xs) fits = at_front d ds k xs fits

  pub here : (k : ℕ) (d : D) (ds : List D) (cells : List StoredCell) → Ends k (d ∷ ds) cells → All (F d) (column k cells)
  here k d ds [] fits = All-nil (F d)
  here k d ds (c ∷ cells) fits =
      All-cons (F d) (get_or (row c) k other) (column k cells) (at_front d ds k (row c) (All-head (λ c. EachFits F (d ∷ ds) (drop k (row c))) c cells fits)).0
      (here k d ds cells (All-tail (λ c. EachFits F (d ∷ ds) (drop k (row c))) c cells fits))

  pub next : (k : ℕ) (d : D) (ds : List D) (cells : List StoredCell) → Ends k (d ∷ ds) cells → Ends (suc k) ds cells
  next k d ds [] fits = All-nil (λ c. EachFits F ds (drop (suc k) (row c)))
  next k d ds (c ∷ cells) fits =
      All-cons (λ c. EachFits F ds (drop (suc k) (row c))) c cells (at_front d ds k (row c) (All-head (λ c. EachFits F (d ∷ ds) (drop k (row c))) c cells fits)).1.0
      (next k d ds cells (All-tail (λ c. EachFits F (d ∷ ds) (drop k (row c))) c cells fits))

  joined_up : (k : ℕ) (d : D) (ds : List D) (cs es : List StoredCell) → length cs ≡ length es → Ends k (d ∷ ds) cs → Ends k (d ∷ ds) es → column k cs ≡ column k es → others (suc k) cs ≡ others (suc k) es → others k cs ≡ others k es
  joined_up k d ds [] [] long fc fe col rest = refl
  joined_up k d ds [] (e ∷ es) long fc fe col rest = absurd (omega arith)
  joined_up k d ds (c ∷ cs) [] long fc fe col rest = absurd (omega arith)
  joined_up k d ds (c ∷ cs) (e ∷ es) long fc fe col rest =
      let one = (at_front d ds k (row c) (All-head (λ c. EachFits F (d ∷ ds) (drop k (row c))) c cs fc)).1.1 in
      let two = (at_front d ds k (row e) (All-head (λ c. EachFits F (d ∷ ds) (drop k (row c))) e es fe)).1.1 in
      let first = cons_parts (get_or (row c) k other) (get_or (row e) k other) (column k cs) (column k es) col in
      let last = cons_parts (drop (suc k) (row c)) (drop (suc k) (row e)) (others (suc k) cs) (others (suc k) es) rest in
      let top : drop k (row c) ≡ drop k (row e) = one ∙ ap (λ x. x ∷ drop (suc k) (row c)) first.0 ∙ ap (λ xs. get_or (row e) k other ∷ xs) last.0 ∙ sym two in
      ap (λ x. x ∷ others k cs) top
      ∙ ap (λ xs. drop k (row e) ∷ xs) (joined_up k d ds cs es (omega arith) (All-tail (λ c. EachFits F (d ∷ ds) (drop k (row c))) c cs fc) (All-tail (λ c. EachFits F (d ∷ ds) (drop k (row c))) e es fe) first.1 last.1)

  none_left : (k : ℕ) (cs es : List StoredCell) → length cs ≡ length es → Ends k [] cs → Ends k [] es → others k cs ≡ others k es
  none_left k [] [] long fc fe = refl
  none_left k [] (e ∷ es) long fc fe = absurd (omega arith)
  none_left k (c ∷ cs) [] long fc fe = absurd (omega arith)
  none_left k (c ∷ cs) (e ∷ es) long fc fe =
      let one = nil_of (drop k (row c)) (All-head (λ c. EachFits F [] (drop k (row c))) c cs fc) in
      let two = nil_of (drop k (row e)) (All-head (λ c. EachFits F [] (drop k (row c))) e es fe) in
      ap (λ x. x ∷ others k cs) (one ∙ sym two)
      ∙ ap (λ xs. drop k (row e) ∷ xs) (none_left k cs es (omega arith) (All-tail (λ c. EachFits F [] (drop k (row c))) c cs fc) (All-tail (λ c. EachFits F [] (drop k (row c))) e es fe))
    where
      nil_of : (xs : List A) → EachFits F [] xs → xs ≡ []
      nil_of [] fits = refl
      nil_of (x ∷ xs) fits = absurd fits

  -- cells with the same columns have the same rows
  pub rows_same : (k : ℕ) (ds : List D) (cs es : List StoredCell) → length cs ≡ length es → Ends k ds cs → Ends k ds es → Same k ds cs es → others k cs ≡ others k es
  rows_same k [] cs es long fc fe same = none_left k cs es long fc fe
  rows_same k (d ∷ ds) cs es long fc fe same = joined_up k d ds cs es long fc fe same.0 (rows_same (suc k) ds cs es long (next k d ds cs fc) (next k d ds es fe) same.1)
