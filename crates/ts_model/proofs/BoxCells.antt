-- The cells that are laid over a box: one for each of its cells, apart, and between its corners.
use Rattle.std.proofs.Common.{◌≡◌, ℕ, zero, suc, ◌+◌, ◌<◌, ◌≤◌, ℤ, Bool, true, false, not, ◌&&◌, cond, List, [], ◌∷◌, length, Some, None, refl, ap, ◌∙◌, arith}
use Rattle.std.specs.Prelude.{IsTrue, int_le, slice_get, is_some}
use Rattle.std.specs.List.{All}
use Rattle.std.specs.Bool.{Decides}
use Rattle.std.specs.Cmp.{both_ways}
use Rattle.std.specs.declared.cmp.Ordering.TheVariants.{Less, Equal}
use Rattle.std.proofs.lemmas.Bool.{and_parts, and_from, false_from_ne_true}
use Rattle.std.proofs.lemmas.Bool.Decides.{Decides-int_eq}
use Rattle.std.proofs.lemmas.Slice.Eq.{slice_eq-Decides}
use Rattle.std.proofs.lemmas.Int.{ints}
use Rattle.std.proofs.lemmas.Option.{slice_get_within, same_Some}
use Rattle.std.proofs.lemmas.List.Elements.{All-nil, All-cons, All-head, All-tail}
use Rattle.ts_base.specs.declared.heads.Cell.{Cell}
use Rattle.ts_base.specs.declared.values.Val.{Val}
use Rattle.ts_base.specs.Coords.{coords_eq}
use Rattle.ts_domain.specs.declared.boxes.SubBox.{SubBox}
use Rattle.ts_domain.specs.declared.dims.Dim.{Dim}
use Rattle.ts_domain.specs.declared.orders.Order.{Order}
use Rattle.ts_domain.specs.Bounds.{is_between}
use Rattle.ts_domain.specs.Boxes.{IsBox, is_in_box, cells_of}
use Rattle.ts_domain.specs.Domains.{whole_domain, is_in_domain, first_bound_outside}
use Rattle.ts_domain.proofs.Between.{length-are_bounds, is_between-low, is_between-high, is_between-hull_first, is_between-hull_least}
use Rattle.ts_domain.proofs.DomainLemmas.{is_in_domain-first_outside, first_bound_outside-none}
use Rattle.ts_order.specs.Orders.{order_cmp, coords_in_order, Ascends}
use Rattle.ts_order.proofs.OrderLemmas.{order_cmp-same}
use Rattle.ts_order.proofs.OrderedCoords.{length-coords_in_order, is_in_box-slice_get, Ascends-coords_in_order, place_of-cells, slice_get-place_of}
use Rattle.ts_schema.specs.declared.attrs.Attr.{Attr}
use Rattle.ts_model.specs.Deeds.{row_at, are_apart, RowFits, CellFits}
use Rattle.ts_model.specs.Commands.{across, cells_at, low_of_cells, high_of_cells, FillBox}
use Rattle.ts_model.proofs.Corners.{corners_in}

-- ---- cells at a list of coordinates

-- there is a cell for each of the coordinates
length-cells_at : (coords : List (List ℤ)) (rows : List (List Val)) (place : ℕ) → length (cells_at coords rows place) ≡ length coords
length-cells_at [] rows place = refl
length-cells_at (c ∷ coords) rows place = ap suc (length-cells_at coords rows (suc place))

-- what holds of each of the coordinates, with the row at its place, holds of each cell
cells_all : (P : Cell → Type 0) (coords : List (List ℤ)) (rows : List (List Val)) (place : ℕ)
    → ((i k : ℕ) (c : List ℤ) → k ≡ place + i → slice_get coords i ≡ Some c → P (record { coords = c; row = across k rows })) → All P (cells_at coords rows place)
cells_all P [] rows place each = All-nil P
cells_all P (c ∷ coords) rows place each =
    All-cons P (record { coords = c; row = across place rows }) (cells_at coords rows (suc place))
    (each 0 place c (omega arith) refl) (cells_all P coords rows (suc place) (λ i k d e at. each (suc i) k d (omega (arith, e)) at))

-- what holds of the coordinates of each cell holds of each of the coordinates
all_cells : (P : List ℤ → Type 0) (coords : List (List ℤ)) (rows : List (List Val)) (place i : ℕ) (c : List ℤ) → All (λ (cell : Cell). P cell.coords) (cells_at coords rows place)
    → slice_get coords i ≡ Some c → P c
all_cells P [] rows place i c all at = cc
all_cells P (x ∷ coords) rows place zero c all at =
    rw (← same_Some x c at) (All-head (λ (cell : Cell). P cell.coords) (record { coords = x; row = across place rows }) (cells_at coords rows (suc place)) all)
all_cells P (x ∷ coords) rows place (suc i) c all at =
    all_cells P coords rows (suc place) i c (All-tail (λ (cell : Cell). P cell.coords) (record { coords = x; row = across place rows }) (cells_at coords rows (suc place)) all) at

-- the test of coordinates tells which are equal
coords_tested : (c d : List ℤ) → Decides (coords_eq c d) (c ≡ d)
coords_tested c d = slice_eq-Decides Decides-int_eq c d (coords_eq c d) refl

-- a row stands at each of the coordinates
row_there : (c : List ℤ) (coords : List (List ℤ)) (rows : List (List Val)) (place i : ℕ) → slice_get coords i ≡ Some c → is_some (row_at c (cells_at coords rows place)) ≡ true
row_there c [] rows place i at = cc
row_there c (x ∷ coords) rows place zero at =
    ap (λ b. is_some (cond b (Some (across place rows)) (row_at c (cells_at coords rows (suc place))))) ((coords_tested x c).1 (same_Some x c at))
row_there c (x ∷ coords) rows place (suc i) at = by (coords_eq x c) (row_there c coords rows (suc place) i at)
  where
    by : (b : Bool) → is_some (row_at c (cells_at coords rows (suc place))) ≡ true → is_some (cond b (Some (across place rows)) (row_at c (cells_at coords rows (suc place)))) ≡ true
    by true rest = refl
    by false rest = rest

-- and nowhere else
there_row : (c : List ℤ) (coords : List (List ℤ)) (rows : List (List Val)) (place : ℕ) → is_some (row_at c (cells_at coords rows place)) ≡ true → (i : ℕ) × (slice_get coords i ≡ Some c)
there_row c [] rows place some = cc
there_row c (x ∷ coords) rows place some = by (coords_eq x c) refl (there_row c coords rows (suc place)) some
  where
    by : (b : Bool) → coords_eq x c ≡ b → (is_some (row_at c (cells_at coords rows (suc place))) ≡ true → (i : ℕ) × (slice_get coords i ≡ Some c))
        → is_some (cond b (Some (across place rows)) (row_at c (cells_at coords rows (suc place)))) ≡ true → (i : ℕ) × (slice_get (x ∷ coords) i ≡ Some c)
    by true e rest some = (0, ap Some ((coords_tested x c).0 e))
    by false e rest some = let at = rest some in (suc at.0, at.1)

-- cells at coordinates that ascend are apart
ascending_apart : (order : Order) (coords : List (List ℤ)) (rows : List (List Val)) (place : ℕ) → Ascends (order_cmp order) coords → are_apart (cells_at coords rows place) ≡ true
ascending_apart order [] rows place ascend = refl
ascending_apart order (c ∷ coords) rows place ascend =
    and_from (not (is_some (row_at c (cells_at coords rows (suc place))))) (are_apart (cells_at coords rows (suc place)))
    (ap not (false_from_ne_true (is_some (row_at c (cells_at coords rows (suc place)))) (λ some. twice (there_row c coords rows (suc place) some))))
    (ascending_apart order coords rows (suc place) (λ i j x y later at_i at_j. ascend (suc i) (suc j) x y (omega arith) at_i at_j))
  where
    twice : ((i : ℕ) × (slice_get coords i ≡ Some c)) → ⊥
    twice (i, at) =
        let less : order_cmp order c c ≡ Less = ascend 0 (suc i) c c (omega arith) refl at in
        let equal : order_cmp order c c ≡ Equal = order_cmp-same order c c refl in
        cc

-- ---- corners

-- numbers at most one another are one
level : (x y : ℤ) → IsTrue (int_le x y) → IsTrue (int_le y x) → x ≡ y
level x y a b = omega (arith, ints, a, b)

-- a low corner within bounds is their low corner, where that lies above it
same_low : (ls hs low high : List ℤ) → IsTrue (is_between ls hs low) → IsTrue (is_between low high ls) → low ≡ ls
same_low [] hs [] high t u = refl
same_low [] [] (x ∷ low) high t u = cc
same_low [] (h ∷ hs) (x ∷ low) high t u = cc
same_low (l ∷ ls) [] low high t u = cc
same_low (l ∷ ls) (h ∷ hs) [] high t u = cc
same_low (l ∷ ls) (h ∷ hs) (x ∷ low) [] t u = cc
same_low (l ∷ ls) (h ∷ hs) (x ∷ low) (y ∷ high) t u =
    let first = and_parts (int_le l x && int_le x h) (is_between ls hs low) t in
    let second = and_parts (int_le x l && int_le l y) (is_between low high ls) u in
    let same : x ≡ l = level x l (and_parts (int_le x l) (int_le l y) second.0).0 (and_parts (int_le l x) (int_le x h) first.0).0 in
    let rest = same_low ls hs low high first.1 second.1 in
    cc

-- a high corner within bounds is their high corner, where that lies below it
same_high : (ls hs low high : List ℤ) → IsTrue (is_between ls hs high) → IsTrue (is_between low high hs) → high ≡ hs
same_high ls [] low [] t u = refl
same_high [] [] low (y ∷ high) t u = cc
same_high (l ∷ ls) [] low (y ∷ high) t u = cc
same_high [] (h ∷ hs) low high t u = cc
same_high (l ∷ ls) (h ∷ hs) low [] t u = cc
same_high (l ∷ ls) (h ∷ hs) [] (y ∷ high) t u = cc
same_high (l ∷ ls) (h ∷ hs) (x ∷ low) (y ∷ high) t u =
    let first = and_parts (int_le l y && int_le y h) (is_between ls hs high) t in
    let second = and_parts (int_le x h && int_le h y) (is_between low high hs) u in
    let same : y ≡ h = level y h (and_parts (int_le l y) (int_le y h) first.0).1 (and_parts (int_le x h) (int_le h y) second.0).1 in
    let rest = same_high ls hs low high first.1 second.1 in
    cc

-- ---- the cells of a box

-- there are as many as the box has
pub box_length : (sub : SubBox) (layout : Order) (rows : List (List Val)) → IsBox sub → length (cells_at (coords_in_order layout sub) rows 0) ≡ cells_of sub
box_length sub layout rows box = length-cells_at (coords_in_order layout sub) rows 0 ∙ length-coords_in_order layout sub box

-- they are apart
pub box_apart : (sub : SubBox) (layout : Order) (rows : List (List Val)) → IsBox sub → IsTrue (are_apart (cells_at (coords_in_order layout sub) rows 0))
box_apart sub layout rows box = ascending_apart layout (coords_in_order layout sub) rows 0 (Ascends-coords_in_order layout sub box)

-- the box is their hull, and has no others
pub box_cells : (sub : SubBox) (layout : Order) (rows : List (List Val)) → IsBox sub → FillBox (cells_at (coords_in_order layout sub) rows 0)
box_cells sub layout rows box =
    let coords = coords_in_order layout sub in
    let cells = cells_at coords rows 0 in
    let low = is_between-low sub.low sub.high box in
    let high = is_between-high sub.low sub.high box in
    let count = box_length sub layout rows box in
    let some : 1 ≤ length cells = omega (arith, count, place_of-cells layout sub sub.low low) in
    let inside : All (λ (cell : Cell). IsTrue (is_in_box sub cell.coords)) cells =
    cells_all (λ (cell : Cell). IsTrue (is_in_box sub cell.coords)) coords rows 0 (λ i k c e at. is_in_box-slice_get layout sub box i c at) in
    let span = corners_in sub cells some inside in
    let each = all_cells (λ c. IsTrue (is_between (low_of_cells cells) (high_of_cells cells) c)) coords rows 0 in
    record {
      sub = sub;
      valid = box;
      low = same_low sub.low sub.high (low_of_cells cells) (high_of_cells cells) span.corners.low_in (each _ sub.low span.each (slice_get-place_of layout sub sub.low low));
      high = same_high sub.low sub.high (low_of_cells cells) (high_of_cells cells) span.corners.high_in (each _ sub.high span.each (slice_get-place_of layout sub sub.high high));
      count = count;
      each = λ c. both_ways (is_some (row_at c cells)) (is_in_box sub c)
          (λ there. let at = there_row c coords rows 0 there in is_in_box-slice_get layout sub box at.0 c at.1)
          (λ within. row_there c coords rows 0 _ (slice_get-place_of layout sub c within));
    }

-- ---- a box in a domain

-- what lies in a box lies in the domain, where none of the box's bounds lies outside
pub box_inside : (dims : List Dim) (sub : SubBox) → IsBox sub → first_bound_outside dims sub ≡ None → length sub.low ≡ length dims → (c : List ℤ) → is_in_box sub c ≡ true
    → IsTrue (is_in_domain dims c)
box_inside dims sub box none many c within =
    let whole = whole_domain dims in
    let longs = length-are_bounds sub.low sub.high box in
    let corners = first_bound_outside-none 0 dims sub.low sub.high longs none in
    let low = is_in_domain-first_outside 0 dims sub.low many corners.0 in
    let high = is_in_domain-first_outside 0 dims sub.high (longs ∙ many) corners.1 in
    is_between-hull_least whole.low whole.high sub.low sub.high sub.low sub.high c low high low high (is_between-hull_first sub.low sub.high sub.low sub.high c within refl refl)

-- the cells of such a box fit, where the rows at its places do
pub box_fit : (dims : List Dim) (attrs : List Attr) (sub : SubBox) (layout : Order) (rows : List (List Val)) → IsBox sub → first_bound_outside dims sub ≡ None → length sub.low ≡ length dims
    → ((place : ℕ) → place < cells_of sub → RowFits attrs (across place rows)) → All (CellFits dims attrs) (cells_at (coords_in_order layout sub) rows 0)
box_fit dims attrs sub layout rows box none many fits =
    cells_all (CellFits dims attrs) (coords_in_order layout sub) rows 0 (λ i k c e at. record {
      inside = box_inside dims sub box none many c (is_in_box-slice_get layout sub box i c at);
      row = fits k (omega (arith, e, slice_get_within (coords_in_order layout sub) i c at, length-coords_in_order layout sub box));
    })
