-- Versions in global order by their places: each once, and no two at one cell.
use Rattle.std.proofs.Common.{◌≡◌, ℕ, zero, suc, ◌+◌, ◌<◌, ℤ, Bool, true, false, cond, nat_eq, inl, inr, ◌⊎◌, List, [], ◌∷◌, ◌++◌, length, get_or, take, drop, map, Some, None, Option, refl, sym, ap, ◌∙◌, subst, arith, add-one}
use Rattle.std.specs.Prelude.{Contains, is_some}
use Rattle.std.specs.List.{All, AllByRecursion, range_with_len, swap}
use Rattle.std.specs.List.Sorted.{IsPermutation, IsStrictlySortedBy}
use Rattle.std.specs.Cmp.{IsTotalOrder}
use Rattle.std.specs.FinMap as finite
use Rattle.std.specs.Ordering.{is_eq, is_gt, is_lt, nat_cmp, ordering_then, ordering_reverse}
use Rattle.std.specs.declared.cmp.Ordering.{Ordering}
use Rattle.std.specs.declared.cmp.Ordering.TheVariants.{Less, Equal, Greater}
use Rattle.std.proofs.lemmas.Bool.{true≢false, eqb-true, eqb-false}
use Rattle.std.proofs.lemmas.Option.{same_Some}
use Rattle.std.proofs.lemmas.List.{drop_all, length-take, drop_more, take_more, get_or-map, get_or-take, length-map, same_lists, get_or_default}
use Rattle.std.proofs.lemmas.List.Edits.{length-swap, swapped_from_swap}
use Rattle.std.proofs.lemmas.List.FromFn.{length-range_with_len, get_or-range_with_len, get_or-map-range_with_len}
use Rattle.std.proofs.lemmas.List.Elements.{All-from_get_or}
use Rattle.std.proofs.lemmas.List.Sorted.{All-permutation, Contains-permutation, IsPermutation-keeps, IsPermutation-map, IsPermutation-sym, length_permutation}
use Rattle.ts_base.specs.declared.heads.Cell.{Cell}
use Rattle.ts_base.specs.declared.heads.Version.{Version}
use Rattle.ts_base.specs.declared.heads.Piece.{Piece}
use Rattle.ts_base.specs.declared.keys.Key.{Key}
use Rattle.ts_base.specs.Coords.{coords_eq}
use Rattle.ts_order.proofs.OrderLemmas.{global_total, global_cmp-exact, global_cmp-same}
use Rattle.ts_schema.specs.declared.frames.Frame.{Frame}
use Rattle.ts_table.specs.Ordered.{AreOrdered}
use Rattle.ts_table.specs.Picks.{picked}
use Rattle.ts_table.specs.Tables.{no_version, version_or}
use Rattle.ts_model.specs.declared.answers.Refusal.TheVariants as refusal
use Rattle.ts_model.specs.declared.deeds.Written.{Written}
use Rattle.ts_model.specs.Deeds.{row_at}
use Rattle.ts_model.specs.Commands.{again_in, global_order, in_global_order, piece_of, version_in}
use Rattle.ts_model.proofs.Laying.{coords_decide}
use Rattle.ts_writer.specs.Heads.{head_in}
use Rattle.ts_model.proofs.Ascending.{sorted_of_neighbours, global_cells_total, in_global_order_same}
use Rattle.ts_model.proofs.ListLemmas.{Contains-nil, Contains-cons, Contains-here, Contains-there}
use Rattle.ts_writer.specs.Tables.{cell_in, cells_in, AreApart, AreGlobal, AreOf, HasNeighbours, HasTwins}
use Rattle.ts_writer.proofs.LaidTables.{cell_there, length-cells_in}

-- ---- places that are those of a list, each once

-- two numbers are the same, or they are not
same_or_not : (a b : ℕ) → (a ≡ b) ⊎ (a ≡ b → ⊥)
same_or_not a b = by (nat_eq a b) refl
  where
    by : (t : Bool) → nat_eq a b ≡ t → (a ≡ b) ⊎ (a ≡ b → ⊥)
    by true e = inl (eqb-true a b e)
    by false e = inr (eqb-false a b e)

-- no number comes twice
abbrev AreOnce : List ℕ → Type 0
AreOnce xs = (i j : ℕ) → i < length xs → j < length xs → get_or xs i 0 ≡ get_or xs j 0 → i ≡ j

-- where the number at a place stood before those at two places were exchanged
abbrev Stood : ℕ → ℕ → ℕ → ℕ → Type 0
Stood a b i from = ((i ≡ a) × (from ≡ b)) ⊎ (((i ≡ a → ⊥) × (i ≡ b) × (from ≡ a)) ⊎ ((i ≡ a → ⊥) × (i ≡ b → ⊥) × (from ≡ i)))

-- two places that had their numbers from one place are one place
stood_once : (a b i j p q : ℕ) → Stood a b i p → Stood a b j q → p ≡ q → i ≡ j
stood_once a b i j p q (inl x) (inl y) e = omega arith
stood_once a b i j p q (inl x) (inr (inl y)) e = omega arith
stood_once a b i j p q (inl x) (inr (inr y)) e = omega arith
stood_once a b i j p q (inr (inl x)) (inl y) e = omega arith
stood_once a b i j p q (inr (inl x)) (inr (inl y)) e = omega arith
stood_once a b i j p q (inr (inl x)) (inr (inr y)) e = omega arith
stood_once a b i j p q (inr (inr x)) (inl y) e = omega arith
stood_once a b i j p q (inr (inr x)) (inr (inl y)) e = omega arith
stood_once a b i j p q (inr (inr x)) (inr (inr y)) e = omega arith

-- each number stood somewhere before
stood : (xs : List ℕ) (a b i : ℕ) → a < length xs → b < length xs → (from : ℕ) × (get_or (swap xs a b) i 0 ≡ get_or xs from 0) × Stood a b i from
stood xs a b i in_a in_b =
    let moved = swapped_from_swap xs (swap xs a b) a b 0 in_a in_b refl in
    elim (same_or_not i a) [
      | inl here ↦ (b, ap (λ k. get_or (swap xs a b) k 0) here ∙ moved.0, inl (here, refl))
      | inr not_a ↦ elim (same_or_not i b) [
        | inl here ↦ (a, ap (λ k. get_or (swap xs a b) k 0) here ∙ moved.1, inr (inl (not_a, here, refl)))
        | inr not_b ↦ (i, moved.2 i not_a not_b, inr (inr (not_a, not_b, refl)))
      ]
    ]

-- a place within a list had its number from one within it
stood_within : (n a b i from : ℕ) → Stood a b i from → a < n → b < n → i < n → from < n
stood_within n a b i from (inl x) in_a in_b in_i = omega arith
stood_within n a b i from (inr (inl x)) in_a in_b in_i = omega arith
stood_within n a b i from (inr (inr x)) in_a in_b in_i = omega arith

once_swapped : (xs : List ℕ) (a b : ℕ) → a < length xs → b < length xs → AreOnce xs → AreOnce (swap xs a b)
once_swapped xs a b in_a in_b once i j in_i in_j e =
    let long = length-swap xs a b in
    let first = stood xs a b i in_a in_b in
    let second = stood xs a b j in_a in_b in
    let low : i < length xs = omega arith in
    let high : j < length xs = omega arith in
    stood_once a b i j first.0 second.0 first.2 second.2
    (once first.0 second.0 (stood_within (length xs) a b i first.0 first.2 in_a in_b low) (stood_within (length xs) a b j second.0 second.2 in_a in_b high) (sym first.1 ∙ e ∙ second.1))

range_once : (n : ℕ) → AreOnce (range_with_len 0 n)
range_once n i j in_i in_j e =
    let long = length-range_with_len 0 n in
    let first = get_or-range_with_len 0 n i 0 (omega (arith, in_i, long)) in
    let second = get_or-range_with_len 0 n j 0 (omega (arith, in_j, long)) in
    omega (arith, e, first, second)

-- the places of a list are below its length
range_within : (n : ℕ) → All (λ place. place < n) (range_with_len 0 n)
range_within n = All-from_get_or (λ place. place < n) (range_with_len 0 n) 0 within
  where
    within : (i : ℕ) → i < length (range_with_len 0 n) → get_or (range_with_len 0 n) i 0 < n
    within i lt =
        let below : i < n = omega (arith, lt, length-range_with_len 0 n) in
        let is = get_or-range_with_len 0 n i 0 below in
        omega (arith, is, below)

module _ (n : ℕ) (places : List ℕ) (each : IsPermutation (range_with_len 0 n) places) where
  -- places of a list, in another order, come once
  pub places_once : AreOnce places
  places_once = IsPermutation-keeps (range_with_len 0 n) AreOnce (range_once n) (λ xs a b in_a in_b once. once_swapped xs a b in_a in_b once) places each

  -- there are as many
  pub length-places : length places ≡ n
  length-places = length_permutation (range_with_len 0 n) places each ∙ length-range_with_len 0 n

  -- and they are places of the list
  pub places_within : All (λ place. place < n) places
  places_within = All-permutation (λ place. place < n) (range_with_len 0 n) places each (range_within n)

  -- each place of the list is among them
  pub place_found : (i : ℕ) → i < n → Contains places i
  place_found i lt =
      let is = get_or-range_with_len 0 n i i lt in
      let here : get_or (range_with_len 0 n) i i ≡ i = omega (arith, is) in
      Contains-permutation (range_with_len 0 n) places i each (i, omega (arith, lt, length-range_with_len 0 n), here)

-- of two numbers that differ one is below the other
nat_order : (i j : ℕ) → (i ≡ j → ⊥) → (i < j) ⊎ (j < i)
nat_order zero zero ne = absurd (ne refl)
nat_order zero (suc j) ne = inl (omega arith)
nat_order (suc i) zero ne = inr (omega arith)
nat_order (suc i) (suc j) ne = elim (nat_order i j (λ e. ne (ap suc e))) [ inl lt ↦ inl (omega arith) | inr gt ↦ inr (omega arith) ]

-- neighbours at one cell are two versions at one cell
pub twins_of : (vs : List Version) (places : List ℕ) → IsPermutation (range_with_len 0 (length vs)) places → HasNeighbours vs places → HasTwins vs
twins_of vs places each near =
    let n = length vs in
    let i = get_or places near.at 0 in
    let j = get_or places (near.at + 1) 0 in
    let in_i : i < n = places_within n places each near.at 0 (omega (arith, near.within)) in
    let in_j : j < n = places_within n places each (near.at + 1) 0 near.within in
    let apart : i ≡ j → ⊥ = λ e. let same = places_once n places each near.at (near.at + 1) (omega (arith, near.within)) near.within e in omega (arith, same) in
    elim (nat_order i j apart) [
      | inl lt ↦ record { first = i; second = j; before = lt; within = in_j; same = near.same }
      | inr gt ↦ record { first = j; second = i; before = gt; within = in_i; same = sym near.same }
    ]

-- ---- cells found among cells

-- coordinates of a cell are found
found_some : (q : List ℤ) (xs : List Cell) (k : ℕ) (d : Cell) → k < length xs → (get_or xs k d).coords ≡ q → is_some (row_at q xs) ≡ true
found_some q [] k d lt e = absurd (omega (arith, lt))
found_some q (x ∷ xs) zero d lt e = ap (λ b. is_some (cond b (Some x.row) (row_at q xs))) ((coords_decide x.coords q).1 e)
found_some q (x ∷ xs) (suc k) d lt e = by (coords_eq x.coords q) (found_some q xs k d (omega (arith, lt)) e)
  where
    by : (b : Bool) → is_some (row_at q xs) ≡ true → is_some (cond b (Some x.row) (row_at q xs)) ≡ true
    by true rest = refl
    by false rest = rest

-- coordinates of no cell are not found
found_none : (q : List ℤ) (xs : List Cell) → ((k : ℕ) (d : Cell) → k < length xs → (get_or xs k d).coords ≡ q → ⊥) → is_some (row_at q xs) ≡ false
found_none q [] apart = refl
found_none q (x ∷ xs) apart = by (coords_eq x.coords q) refl (found_none q xs (λ k d lt e. apart (suc k) d (omega (arith, lt)) e))
  where
    by : (b : Bool) → coords_eq x.coords q ≡ b → is_some (row_at q xs) ≡ false → is_some (cond b (Some x.row) (row_at q xs)) ≡ false
    by true is rest = absurd (apart 0 x (omega arith) ((coords_decide x.coords q).0 is))
    by false is rest = rest

-- of two versions at one cell the later is no new one
pub twins_not_new : (vs : List Version) → HasTwins vs → ((j : ℕ) → j < length vs → is_some (row_at (version_or vs j).coords (take j (cells_in vs))) ≡ false) → ⊥
twins_not_new vs twins new =
    let i = twins.first in
    let j = twins.second in
    let low : i < length vs = omega (arith, twins.before, twins.within) in
    let long = length-cells_in vs in
    let within : i < length (take j (cells_in vs)) = omega (arith, length-take j (cells_in vs), long, twins.before, twins.within) in
    let there : get_or (take j (cells_in vs)) i (cell_in no_version) ≡ cell_in (version_or vs i) = get_or-take j (cells_in vs) i (cell_in no_version) twins.before ∙ cell_there vs i (cell_in no_version) low in
    true≢false (sym (found_some (version_or vs j).coords (take j (cells_in vs)) i (cell_in no_version) within (ap (λ (c : Cell). c.coords) there ∙ twins.same)) ∙ new j twins.within)

-- cells of which no two have the same coordinates come once
again_clear : (cells : List Cell) → ((i j : ℕ) (d : Cell) → i < j → j < length cells → (get_or cells i d).coords ≡ (get_or cells j d).coords → ⊥) → (k more : ℕ) → k + more ≡ length cells
    → again_in (take k cells) k (drop k cells) ≡ None
again_clear cells differ k zero all = ap (again_in (take k cells) k) (drop_all k cells (omega (arith, all)))
again_clear cells differ k (suc more) all =
    let d = cell_in no_version in
    let lt : k < length cells = omega (arith, all) in
    let cell = get_or cells k d in
    let rest = drop (k + 1) cells in
    let new : is_some (row_at cell.coords (take k cells)) ≡ false = found_none cell.coords (take k cells) (λ i e within same.
    let low : i < k = omega (arith, within, length-take k cells) in
    let here = get_or-take k cells i e low ∙ get_or_default cells i e d (omega (arith, low, lt)) in
    differ i k d low lt (ap (λ (c : Cell). c.coords) (sym here) ∙ same)) in
    ap (again_in (take k cells) k) (drop_more cells k d lt)
    ∙ ap (λ b. cond b (Some (refusal.DuplicateCell k)) (again_in (take k cells ++ cell ∷ []) (suc k) rest)) new
    ∙ ap (λ n. again_in (take k cells ++ cell ∷ []) n rest) (sym (add-one k))
    ∙ ap (λ before. again_in before (k + 1) rest) (sym (take_more cells k d lt))
    ∙ again_clear cells differ (k + 1) more (omega (arith, all))

-- ---- in global order

module _ (frame : Frame) where
  -- coordinates stand to one another in a total order
  by_total : IsTotalOrder (global_order frame)
  by_total = global_total frame.domain frame.tile frame.cell

  exact : (a b : List ℤ) → global_order frame a b ≡ Equal → a ≡ b
  exact a b e = global_cmp-exact frame.domain frame.tile frame.cell a b e

  -- what does not come after another, and is not the same, comes before it
  before_other : (a b : List ℤ) (i j : ℕ) → (a ≡ b → ⊥) → is_lt (ordering_then ((global_order frame) b a) (nat_cmp j i)) ≡ false → (global_order frame) a b ≡ Less
  before_other a b i j apart late = by ((global_order frame) a b) refl
    where
      by : (o : Ordering) → (global_order frame) a b ≡ o → (global_order frame) a b ≡ Less
      by Less e = e
      by Equal e = absurd (apart (exact a b e))
      by Greater e =
          let back : (global_order frame) b a ≡ Less = (by_total).antisymm b a ∙ ap ordering_reverse e in
          absurd (true≢false (ap (λ o. is_lt (ordering_then o (nat_cmp j i))) (sym back) ∙ late))

  -- places in order, no two neighbours of which stand at one cell, are those of global order
  pub global_from : (vs : List Version) (places : List ℕ) → AreOrdered (global_order frame) vs places → AreApart vs places (length places) → AreGlobal frame vs places
  global_from vs places ordered apart = record {
    each = ordered.each;
    up = λ k d below. before_other (version_or vs (get_or places k d)).coords (version_or vs (get_or places (k + 1) d)).coords (get_or places k d) (get_or places (k + 1) d) (apart k d below) (ordered.sorted k d (omega arith) below);
  }

  -- ---- cells that ascend are found by their coordinates

  abbrev entry : Cell → List ℤ × Cell
  entry cell = (cell.coords, cell)

  -- how two cells stand
  abbrev by_cells : Cell → Cell → Ordering
  by_cells a b = (global_order frame) a.coords b.coords

  -- a cell that is found is there, at these coordinates
  found_there : (c : List ℤ) (xs : List Cell) (x : Cell) → finite.find (global_order frame) c (map entry xs) ≡ Some x → Contains xs x × ((global_order frame) c x.coords ≡ Equal)
  found_there c [] x e = cc
  found_there c (y ∷ xs) x e = by (global_order frame c y.coords) refl (found_there c xs x) e
    where
      by : (o : Ordering) → global_order frame c y.coords ≡ o → (finite.find (global_order frame) c (map entry xs) ≡ Some x → Contains xs x × (global_order frame c x.coords ≡ Equal))
          → cond (is_eq o) (Some y) (finite.find (global_order frame) c (map entry xs)) ≡ Some x → Contains (y ∷ xs) x × (global_order frame c x.coords ≡ Equal)
      by Less is rest h = (Contains-there y xs x (rest h).0, (rest h).1)
      by Greater is rest h = (Contains-there y xs x (rest h).0, (rest h).1)
      by Equal is rest h = let same = same_Some y x h in (subst (Contains (y ∷ xs)) same (Contains-here y xs), ap (λ (z : Cell). global_order frame c z.coords) (sym same) ∙ is)

  -- a cell of a list comes after what comes before all of the list
  later : (x : Cell) (xs : List Cell) (y : Cell) → AllByRecursion (λ z. by_cells x z ≡ Less) xs → Contains xs y → by_cells x y ≡ Less
  later x [] y all at = absurd (Contains-nil y at)
  later x (z ∷ xs) y all at = elim (Contains-cons z xs y at) [ inl same ↦ ap (by_cells x) (sym same) ∙ all.0 | inr more ↦ later x xs y all.1 more ]

  -- of cells that ascend the one at these coordinates is found
  sorted_found : (c : List ℤ) (xs : List Cell) (x : Cell) → IsStrictlySortedBy by_cells xs → Contains xs x → (global_order frame) c x.coords ≡ Equal → finite.find (global_order frame) c (map entry xs) ≡ Some x
  unfolding IsStrictlySortedBy
  sorted_found c [] x sorted at tie = absurd (Contains-nil x at)
  sorted_found c (y ∷ xs) x sorted at tie = elim (Contains-cons y xs x at) [
    | inl same ↦ ap (λ o. cond (is_eq o) (Some y) (finite.find (global_order frame) c (map entry xs))) (ap (λ (z : Cell). (global_order frame) c z.coords) same ∙ tie) ∙ ap Some same
    | inr more ↦
        let first : (global_order frame) c y.coords ≡ Greater = (by_total).antisymm c y.coords ∙ ap ordering_reverse (ap ((global_order frame) y.coords) (exact c x.coords tie) ∙ later y xs x sorted.0 more) in
        ap (λ o. cond (is_eq o) (Some y) (finite.find (global_order frame) c (map entry xs))) first ∙ sorted_found c xs x sorted.1 more tie
  ]

  -- where a cell is at these coordinates one is found
  tied_found : (c : List ℤ) (xs : List Cell) (x : Cell) → Contains xs x → global_order frame c x.coords ≡ Equal → finite.find (global_order frame) c (map entry xs) ≡ None → ⊥
  tied_found c [] x at tie e = Contains-nil x at
  tied_found c (y ∷ xs) x at tie e = test (global_order frame c y.coords) refl (tied_found c xs x) e
    where
      test : (o : Ordering) → global_order frame c y.coords ≡ o → (Contains xs x → global_order frame c x.coords ≡ Equal → finite.find (global_order frame) c (map entry xs) ≡ None → ⊥)
          → cond (is_eq o) (Some y) (finite.find (global_order frame) c (map entry xs)) ≡ None → ⊥
      test Equal is rest h = cc
      test Less is rest h = elim (Contains-cons y xs x at) [
        | inl same ↦ true≢false (ap is_lt (sym is ∙ ap (λ (z : Cell). global_order frame c z.coords) same ∙ tie))
        | inr more ↦ rest more tie h
      ]
      test Greater is rest h = elim (Contains-cons y xs x at) [
        | inl same ↦ true≢false (ap is_gt (sym is ∙ ap (λ (z : Cell). global_order frame c z.coords) same ∙ tie))
        | inr more ↦ rest more tie h
      ]

  -- the same cells in another order, in which they ascend, are found alike
  found_alike : (xs ys : List Cell) → ((x : Cell) → Contains xs x → Contains ys x) → ((x : Cell) → Contains ys x → Contains xs x) → IsStrictlySortedBy by_cells ys
      → (c : List ℤ) → finite.find (global_order frame) c (map entry xs) ≡ finite.find (global_order frame) c (map entry ys)
  found_alike xs ys to from sorted c = by (finite.find (global_order frame) c (map entry xs)) (finite.find (global_order frame) c (map entry ys)) refl refl
    where
      by : (p q : Option Cell) → finite.find (global_order frame) c (map entry xs) ≡ p → finite.find (global_order frame) c (map entry ys) ≡ q → finite.find (global_order frame) c (map entry xs) ≡ finite.find (global_order frame) c (map entry ys)
      by None None e f = e ∙ sym f
      by (Some x) q e f =
          let there = found_there c xs x e in
          e ∙ sym (sorted_found c ys x sorted (to x there.0) there.1)
      by None (Some y) e f =
          let there = found_there c ys y f in
          absurd (tied_found c xs y (from y there.0) there.1 e)

  -- the same cells in another order, in which they ascend, are the cells in global order
  pub global_same : (xs ys : List Cell) → ((x : Cell) → Contains xs x → Contains ys x) → ((x : Cell) → Contains ys x → Contains xs x) → IsStrictlySortedBy by_cells ys → in_global_order frame xs ≡ ys
  unfolding in_global_order
  global_same xs ys to from sorted =
      ap finite.values
      (finite.same_map by_total exact (finite.from_entries (map entry xs)) (finite.from_entries (map entry ys)) (λ c.
      finite.get-from_entries by_total (map entry xs) c ∙ found_alike xs ys to from sorted c ∙ sym (finite.get-from_entries by_total (map entry ys) c)))
      ∙ in_global_order_same frame ys sorted

  -- ---- the versions of a table

  module _ (vs : List Version) (places : List ℕ) (global : AreGlobal frame vs places) where
    -- the cells at the places
    abbrev ordered : List Cell
    ordered = map (λ place. cell_in (version_or vs place)) places

    -- all cells, each by its place
    each_cell : map (λ place. cell_in (version_or vs place)) (range_with_len 0 (length vs)) ≡ cells_in vs
    each_cell =
        let long : length (map (λ place. cell_in (version_or vs place)) (range_with_len 0 (length vs))) ≡ length vs = length-map (range_with_len 0 (length vs)) (λ place. cell_in (version_or vs place)) ∙ length-range_with_len 0 (length vs) in
        same_lists (map (λ place. cell_in (version_or vs place)) (range_with_len 0 (length vs))) (cells_in vs) (long ∙ sym (length-cells_in vs)) (λ k d lt.
        let below : k < length vs = omega (arith, lt, long) in
        get_or-map-range_with_len (λ place. cell_in (version_or vs place)) 0 (length vs) k k d below (omega arith) ∙ sym (cell_there vs k d below))

    cells_moved : IsPermutation (cells_in vs) ordered
    cells_moved = subst (λ xs. IsPermutation xs ordered) each_cell (IsPermutation-map (λ place. cell_in (version_or vs place)) (range_with_len 0 (length vs)) places global.each)

    pub cells_ascend : IsStrictlySortedBy by_cells ordered
    cells_ascend = sorted_of_neighbours (global_cells_total frame) ordered up
      where
        up : (k : ℕ) (d : Cell) → k + 1 < length ordered → by_cells (get_or ordered k d) (get_or ordered (k + 1) d) ≡ Less
        up k d below =
            let long = length-map places (λ place. cell_in (version_or vs place)) in
            let next : k + 1 < length places = omega (arith, below, long) in
            let first = get_or-map (λ place. cell_in (version_or vs place)) places k 0 d (omega (arith, next)) in
            let second = get_or-map (λ place. cell_in (version_or vs place)) places (k + 1) 0 d next in
            (λ i. by_cells (first i) (second i)) ∙ global.up k 0 next

    -- of cells that ascend a former comes before a later
    far : (xs : List Cell) → IsStrictlySortedBy by_cells xs → (p q : ℕ) (d : Cell) → p < q → q < length xs → by_cells (get_or xs p d) (get_or xs q d) ≡ Less
    unfolding IsStrictlySortedBy
    far [] sorted p q d lt within = absurd (omega (arith, within))
    far (x ∷ xs) sorted p zero d lt within = absurd (omega (arith, lt))
    far (x ∷ xs) sorted zero (suc q) d lt within =
        let below : q < length xs = omega (arith, within) in
        later x xs (get_or xs q d) sorted.0 (q, below, get_or_default xs q (get_or xs q d) d below)
    far (x ∷ xs) sorted (suc p) (suc q) d lt within = far xs sorted.1 p q d (omega (arith, lt)) (omega (arith, within))

    -- so no two have the same coordinates
    ordered_differ : (p q : ℕ) → p < q → q < length places → (version_or vs (get_or places p 0)).coords ≡ (version_or vs (get_or places q 0)).coords → ⊥
    ordered_differ p q lt within e =
        let d = cell_in no_version in
        let long = length-map places (λ place. cell_in (version_or vs place)) in
        let first = get_or-map (λ place. cell_in (version_or vs place)) places p 0 d (omega (arith, lt, within)) in
        let second = get_or-map (λ place. cell_in (version_or vs place)) places q 0 d within in
        let up : by_cells (cell_in (version_or vs (get_or places p 0))) (cell_in (version_or vs (get_or places q 0))) ≡ Less =
        (λ i. by_cells (sym first i) (sym second i)) ∙ far ordered cells_ascend p q d lt (omega (arith, within, long)) in
        let same = global_cmp-same frame.domain frame.tile frame.cell _ _ e in
        true≢false (ap is_lt (sym up ∙ same))

    -- the cells come once
    pub once : again_in [] 0 (cells_in vs) ≡ None
    once = again_clear (cells_in vs) differ 0 (length (cells_in vs)) (omega arith)
      where
        differ : (i j : ℕ) (d : Cell) → i < j → j < length (cells_in vs) → (get_or (cells_in vs) i d).coords ≡ (get_or (cells_in vs) j d).coords → ⊥
        differ i j d lt within e =
            let long = length-cells_in vs in
            let high : j < length vs = omega (arith, within, long) in
            let low : i < length vs = omega (arith, lt, high) in
            let p = place_found (length vs) places global.each i low in
            let q = place_found (length vs) places global.each j high in
            let at_p : get_or places p.0 0 ≡ i = get_or_default places p.0 0 i p.1 ∙ p.2 in
            let at_q : get_or places q.0 0 ≡ j = get_or_default places q.0 0 j q.1 ∙ q.2 in
            let same : (version_or vs i).coords ≡ (version_or vs j).coords = sym (ap (λ (c : Cell). c.coords) (cell_there vs i d low)) ∙ e ∙ ap (λ (c : Cell). c.coords) (cell_there vs j d high) in
            let there : (version_or vs (get_or places p.0 0)).coords ≡ (version_or vs (get_or places q.0 0)).coords = ap (λ n. (version_or vs n).coords) at_p ∙ same ∙ sym (ap (λ n. (version_or vs n).coords) at_q) in
            elim (nat_order p.0 q.0 (λ equal. let no : i ≡ j = sym at_p ∙ ap (λ n. get_or places n 0) equal ∙ at_q in omega (arith, no, lt))) [
              | inl before ↦ ordered_differ p.0 q.0 before q.1 there
              | inr after ↦ ordered_differ q.0 p.0 after p.1 (sym there)
            ]

    -- the cells at the places are the cells in global order
    pub cells_global : in_global_order frame (cells_in vs) ≡ ordered
    cells_global =
        global_same (cells_in vs) ordered (λ x. Contains-permutation (cells_in vs) ordered x cells_moved)
        (λ x. Contains-permutation ordered (cells_in vs) x (IsPermutation-sym (cells_in vs) ordered cells_moved)) cells_ascend

    -- and the versions there are theirs
    pub versions_global : (key schema : Key) → AreOf key schema vs → picked vs places ≡ map (version_in key schema) (in_global_order frame (cells_in vs))
    versions_global key schema own = picked_own places (places_within (length vs) places global.each) ∙ ap (map (version_in key schema)) (sym cells_global)
      where
        picked_own : (ps : List ℕ) → All (λ place. place < length vs) ps → picked vs ps ≡ map (version_in key schema) (map (λ place. cell_in (version_or vs place)) ps)
        picked_own [] within = refl
        picked_own (p ∷ ps) within =
            let here = own p no_version (within 0 0 (omega arith)) in
            let rest = picked_own ps (λ k d lt. within (suc k) d (omega (arith, lt))) in
            λ i. record { key = here.0 i; schema = here.1 i; coords = (version_or vs p).coords; row = (version_or vs p).row } ∷ rest i

-- the piece of a write has its head, and the versions of its cells in global order
pub piece_parts : (frame : Frame) (w : Written) → ◌≡◌ {A = Piece} (record { head = head_in frame w; versions = map (version_in w.key w.schema) (in_global_order frame w.cells) }) (piece_of frame w)
unfolding piece_of
piece_parts frame w = refl
