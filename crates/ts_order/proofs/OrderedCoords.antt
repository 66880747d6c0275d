-- The list of the coordinates of a box, in row or column order.
use Rattle.std.proofs.Common.{◌≡◌, ℕ, ◌<◌, List, length, Some, sym, ap, ◌∙◌, ℤ}
use Rattle.std.specs.Prelude.{IsTrue, slice_get}
use Rattle.std.specs.Option.{option_map}
use Rattle.std.proofs.lemmas.List.{length-map}
use Rattle.std.proofs.lemmas.Option.{slice_get-map, slice_get_within}
use Rattle.ts_domain.specs.declared.orders.Order.{Order}
use Rattle.ts_domain.specs.declared.boxes.SubBox.{SubBox}
use Rattle.ts_domain.specs.Bounds.{is_between, cells_between, coords_between}
use Rattle.ts_domain.specs.Boxes.{IsBox, is_in_box, cells_of}
use Rattle.ts_domain.proofs.Between.{length-are_bounds, length-coords_between, are_bounds-is_between}
use Rattle.ts_order.specs.Orders.{turned, order_cmp, coords_in_order, Ascends}
use Rattle.ts_order.specs.Places.{coords_of_place, place_of}
use Rattle.ts_order.proofs.PlaceLaws.{slice_get-coords_between, is_between-coords_of_place, place_of-coords_of_place, place_of-below, coords_of_place-place_of, slice_cmp-place_of, nat_cmp-lt}
use Rattle.ts_order.proofs.OrderLemmas.{turned-turned, length-turned}
use Rattle.ts_order.proofs.TurnedLemmas.{cells_between-turned, is_between-turned, turned-is_between}

same_Some : {A : Type 0} (x y : A) → Some x ≡ Some y → x ≡ y
same_Some x y e = cc

module _ (order : Order) (sub : SubBox) (box : IsBox sub) where
  lengths : length (turned order sub.high) ≡ length (turned order sub.low)
  lengths = length-turned order sub.high ∙ length-are_bounds sub.low sub.high box ∙ sym (length-turned order sub.low)

  cells : cells_between (turned order sub.low) (turned order sub.high) ≡ cells_of sub
  cells = cells_between-turned order sub.low sub.high (length-are_bounds sub.low sub.high box)

  -- there are as many as cells
  pub length-coords_in_order : length (coords_in_order order sub) ≡ cells_of sub
  length-coords_in_order =
      length-map (coords_between (turned order sub.low) (turned order sub.high)) (turned order)
      ∙ length-coords_between (turned order sub.low) (turned order sub.high) ∙ cells

  -- the coordinates at a place
  pub slice_get-coords_in_order : (place : ℕ) → place < cells_of sub
      → slice_get (coords_in_order order sub) place ≡ Some (turned order (coords_of_place (turned order sub.low) (turned order sub.high) place))
  slice_get-coords_in_order place below =
      slice_get-map (turned order) (coords_between (turned order sub.low) (turned order sub.high)) place
      ∙ ap (option_map (turned order)) (slice_get-coords_between (turned order sub.low) (turned order sub.high) place lengths (rw cells below))

  -- lie in the box
  pub is_in_box-coords_in_order : (place : ℕ) → place < cells_of sub
      → IsTrue (is_in_box sub (turned order (coords_of_place (turned order sub.low) (turned order sub.high) place)))
  is_in_box-coords_in_order place below =
      turned-is_between order sub.low sub.high _ (is_between-coords_of_place (turned order sub.low) (turned order sub.high) place lengths (rw cells below))

  place_below : (place : ℕ) (coords : List ℤ) → slice_get (coords_in_order order sub) place ≡ Some coords → place < cells_of sub
  place_below place coords e = rw (← length-coords_in_order) (slice_get_within (coords_in_order order sub) place coords e)

  -- what stands at a place, turned, is the coordinates of that place
  turned_at : (place : ℕ) (coords : List ℤ) → slice_get (coords_in_order order sub) place ≡ Some coords
      → turned order coords ≡ coords_of_place (turned order sub.low) (turned order sub.high) place
  turned_at place coords e =
      ap (turned order) (same_Some _ _ (sym e ∙ slice_get-coords_in_order place (place_below place coords e))) ∙ turned-turned order _

  -- what stands at a place lies in the box
  pub is_in_box-slice_get : (place : ℕ) (coords : List ℤ) → slice_get (coords_in_order order sub) place ≡ Some coords → IsTrue (is_in_box sub coords)
  is_in_box-slice_get place coords e =
      let below = place_below place coords e in
      rw (same_Some _ _ (sym (slice_get-coords_in_order place below) ∙ e)) at (is_in_box-coords_in_order place below)

  -- they ascend
  pub Ascends-coords_in_order : Ascends (order_cmp order) (coords_in_order order sub)
  Ascends-coords_in_order i j x y later at_i at_j =
      let low = turned order sub.low in
      let high = turned order sub.high in
      let in_i : i < cells_between low high = rw cells (place_below i x at_i) in
      let in_j : j < cells_between low high = rw cells (place_below j y at_j) in
      rw (turned_at i x at_i, turned_at j y at_j)
      (slice_cmp-place_of low high (coords_of_place low high i) (coords_of_place low high j) (is_between-coords_of_place low high i lengths in_i) (is_between-coords_of_place low high j lengths in_j)
      ∙ rw (place_of-coords_of_place low high i lengths in_i, place_of-coords_of_place low high j lengths in_j) (nat_cmp-lt i j later))

-- the place of coordinates
module _ (order : Order) (sub : SubBox) (coords : List ℤ) (inside : IsTrue (is_in_box sub coords)) where
  pub IsBox-is_in_box : IsBox sub
  IsBox-is_in_box = are_bounds-is_between sub.low sub.high coords inside

  turned_inside : IsTrue (is_between (turned order sub.low) (turned order sub.high) (turned order coords))
  turned_inside = is_between-turned order sub.low sub.high coords inside

  pub place_of-cells : place_of (turned order sub.low) (turned order sub.high) (turned order coords) < cells_of sub
  place_of-cells = rw (← cells order sub IsBox-is_in_box) (place_of-below (turned order sub.low) (turned order sub.high) (turned order coords) turned_inside)

  -- they stand there
  pub slice_get-place_of : slice_get (coords_in_order order sub) (place_of (turned order sub.low) (turned order sub.high) (turned order coords)) ≡ Some coords
  slice_get-place_of =
      slice_get-coords_in_order order sub IsBox-is_in_box _ place_of-cells
      ∙ ap (λ c. Some (turned order c)) (coords_of_place-place_of (turned order sub.low) (turned order sub.high) (turned order coords) turned_inside)
      ∙ ap Some (turned-turned order coords)

  -- and nowhere else
  pub place_of-only : (place : ℕ) → slice_get (coords_in_order order sub) place ≡ Some coords → place ≡ place_of (turned order sub.low) (turned order sub.high) (turned order coords)
  place_of-only place e =
      let box = IsBox-is_in_box in
      let below = place_below order sub box place coords e in
      sym (ap (place_of (turned order sub.low) (turned order sub.high)) (turned_at order sub box place coords e)
      ∙ place_of-coords_of_place (turned order sub.low) (turned order sub.high) place (lengths order sub box) (rw (cells order sub box) below))
