-- The cells of a write over a box: where each stands, and that the corners of the box are theirs.
use Rattle.std.proofs.Common.{◌≡◌, ℕ, zero, suc, ◌+◌, ◌≤◌, ℤ, ◌&&◌, List, [], ◌∷◌, length, Some, refl, subst, inl, inr, arith}
use Rattle.std.specs.Prelude.{IsTrue, Contains, int_le, slice_get}
use Rattle.std.specs.List.{All}
use Rattle.std.proofs.lemmas.Bool.{and_parts}
use Rattle.std.proofs.lemmas.Int.{ints}
use Rattle.std.proofs.lemmas.Option.{same_Some}
use Rattle.std.proofs.lemmas.List.Elements.{All-contains}
use Rattle.ts_base.specs.declared.heads.Cell.{Cell}
use Rattle.ts_base.specs.declared.values.Val.{Val}
use Rattle.ts_domain.specs.declared.boxes.SubBox.{SubBox}
use Rattle.ts_domain.specs.declared.orders.Order.{Order}
use Rattle.ts_domain.specs.Bounds.{is_between}
use Rattle.ts_domain.specs.Boxes.{IsBox, is_in_box}
use Rattle.ts_domain.proofs.Between.{is_between-low, is_between-high}
use Rattle.ts_order.specs.Orders.{coords_in_order}
use Rattle.ts_order.proofs.OrderedCoords.{is_in_box-slice_get, place_of-cells, slice_get-place_of}
use Rattle.ts_gather.specs.Parts.{place_in}
use Rattle.ts_model.specs.Commands.{across, cells_at, low_of_cells, high_of_cells}
use Rattle.ts_model.proofs.BoxCells.{box_length}
use Rattle.ts_model.proofs.Corners.{corners_in, Corners}
use Rattle.ts_model.proofs.ListLemmas.{Contains-nil, Contains-cons, Contains-slice_get, each_holds}

-- ---- cells at a list of coordinates

-- what holds of each of the coordinates, with the row at its place, holds of each cell
pub cells_each : (P : Cell → Type 0) (coords : List (List ℤ)) (rows : List (List Val)) (place : ℕ)
    → ((i k : ℕ) (c : List ℤ) → k ≡ place + i → slice_get coords i ≡ Some c → P (record { coords = c; row = across k rows })) → (x : Cell) → Contains (cells_at coords rows place) x → P x
cells_each P [] rows place each x at = absurd (Contains-nil x at)
cells_each P (c ∷ coords) rows place each x at =
    elim (Contains-cons (record { coords = c; row = across place rows }) (cells_at coords rows (suc place)) x at) [
      | inl same ↦ subst P same (each 0 place c (omega arith) refl)
      | inr more ↦ cells_each P coords rows (suc place) (λ i k d e there. each (suc i) k d (omega (arith, e)) there) x more
    ]

-- the cell at some of the coordinates
cells_there : (coords : List (List ℤ)) (rows : List (List Val)) (place i k : ℕ) (c : List ℤ) → k ≡ place + i → slice_get coords i ≡ Some c → slice_get (cells_at coords rows place) i ≡ Some (record { coords = c; row = across k rows })
cells_there [] rows place i k c e at = cc
cells_there (x ∷ coords) rows place zero k c e at =
    let same : place ≡ k = omega (arith, e) in
    λ j. Some (record { coords = same_Some x c at j; row = across (same j) rows })
cells_there (x ∷ coords) rows place (suc i) k c e at = cells_there coords rows (suc place) i k c (omega (arith, e)) at

-- ---- corners

-- numbers at most one another are one
level : (x y : ℤ) → IsTrue (int_le x y) → IsTrue (int_le y x) → x ≡ y
level x y a b = omega (arith, ints, a, b)

-- a low corner within bounds is their low corner, where that lies above it
same_low : (ls hs low high : List ℤ) → IsTrue (is_between ls hs low) → IsTrue (is_between low high ls) → low ≡ ls
same_low [] hs [] high t u = refl
same_low [] [] (x ∷ low) high t u = cc
same_low [] (h ∷ hs) (x ∷ low) high t u = cc
same_low (l ∷ ls) [] low high t u = cc
same_low (l ∷ ls) (h ∷ hs) [] high t u = cc
same_low (l ∷ ls) (h ∷ hs) (x ∷ low) [] t u = cc
same_low (l ∷ ls) (h ∷ hs) (x ∷ low) (y ∷ high) t u =
    let first = and_parts (int_le l x && int_le x h) (is_between ls hs low) t in
    let second = and_parts (int_le x l && int_le l y) (is_between low high ls) u in
    let same : x ≡ l = level x l (and_parts (int_le x l) (int_le l y) second.0).0 (and_parts (int_le l x) (int_le x h) first.0).0 in
    let rest = same_low ls hs low high first.1 second.1 in
    cc

-- a high corner within bounds is their high corner, where that lies below it
same_high : (ls hs low high : List ℤ) → IsTrue (is_between ls hs high) → IsTrue (is_between low high hs) → high ≡ hs
same_high ls [] low [] t u = refl
same_high [] [] low (y ∷ high) t u = cc
same_high (l ∷ ls) [] low (y ∷ high) t u = cc
same_high [] (h ∷ hs) low high t u = cc
same_high (l ∷ ls) (h ∷ hs) low [] t u = cc
same_high (l ∷ ls) (h ∷ hs) [] (y ∷ high) t u = cc
same_high (l ∷ ls) (h ∷ hs) (x ∷ low) (y ∷ high) t u =
    let first = and_parts (int_le l y && int_le y h) (is_between ls hs high) t in
    let second = and_parts (int_le x h && int_le h y) (is_between low high hs) u in
    let same : y ≡ h = level y h (and_parts (int_le l y) (int_le y h) first.0).1 (and_parts (int_le x h) (int_le h y) second.0).1 in
    let rest = same_high ls hs low high first.1 second.1 in
    cc

-- ---- the cells of a box

module _ (layout : Order) (sub : SubBox) (rows : List (List Val)) where
  abbrev cells : List Cell
  cells = cells_at (coords_in_order layout sub) rows 0

  -- the cell at these coordinates of the box
  abbrev pub cell_on : List ℤ → Cell
  cell_on c = record { coords = c; row = across (place_in layout sub c) rows }

  -- it is one of them
  pub cell_of_box : (c : List ℤ) → IsTrue (is_in_box sub c) → Contains cells (cell_on c)
  cell_of_box c within =
      Contains-slice_get cells (place_in layout sub c) (cell_on c) (cells_there (coords_in_order layout sub) rows 0 (place_in layout sub c) (place_in layout sub c) c (omega arith) (slice_get-place_of layout sub c within))

  -- the corners of the box are theirs
  module _ (box : IsBox sub) where
    low_inside : IsTrue (is_in_box sub sub.low)
    low_inside = is_between-low sub.low sub.high box

    high_inside : IsTrue (is_in_box sub sub.high)
    high_inside = is_between-high sub.low sub.high box

    all_inside : All (λ (cell : Cell). IsTrue (is_in_box sub cell.coords)) cells
    all_inside =
        each_holds (λ (cell : Cell). IsTrue (is_in_box sub cell.coords)) cells
        (cells_each (λ (cell : Cell). IsTrue (is_in_box sub cell.coords)) (coords_in_order layout sub) rows 0 (λ i k c e at. is_in_box-slice_get layout sub box i c at))

    some_cell : 1 ≤ length cells
    some_cell = omega (arith, box_length sub layout rows box, place_of-cells layout sub sub.low low_inside)

    span : Corners sub cells
    span = corners_in sub cells some_cell all_inside

    between : (c : List ℤ) → IsTrue (is_in_box sub c) → IsTrue (is_between (low_of_cells cells) (high_of_cells cells) c)
    between c within =
        All-contains (λ (cell : Cell). IsTrue (is_between (low_of_cells cells) (high_of_cells cells) cell.coords)) cells (cell_on c) span.each (cell_of_box c within)

    pub low_of_box : low_of_cells cells ≡ sub.low
    low_of_box = same_low sub.low sub.high (low_of_cells cells) (high_of_cells cells) (span.corners).low_in (between sub.low low_inside)

    pub high_of_box : high_of_cells cells ≡ sub.high
    high_of_box = same_high sub.low sub.high (low_of_cells cells) (high_of_cells cells) (span.corners).high_in (between sub.high high_inside)
