-- Whether what stands in a space tile lies in a box.
use Rattle.std.proofs.Common.{◌≡◌, ℕ, ◌<◌, Bool, true, ℤ, pos, List, [], length, map, get_or, ap, ◌∙◌, arith}
use Rattle.std.proofs.lemmas.Option.{slice_get-get_or}
use Rattle.ts_domain.specs.declared.boxes.SubBox.{SubBox}
use Rattle.ts_domain.specs.declared.orders.Order.{Order}
use Rattle.ts_domain.specs.Boxes.{IsBox, is_in_box, cells_of, Covers}
use Rattle.ts_order.specs.Orders.{coords_in_order}
use Rattle.ts_order.proofs.OrderedCoords.{length-coords_in_order, is_in_box-slice_get}
use Rattle.ts_gather.specs.Sides.{AreCoords}

-- ---- all cells of a box

-- what stands at a place of a box lies in each box that has all of its cells
pub covered_inside : (outer leaf : SubBox) (order : Order) (k : ℕ) → Covers outer leaf → IsBox leaf → k < cells_of leaf → is_in_box outer (get_or (coords_in_order order leaf) k []) ≡ true
covered_inside outer leaf order k covers box within =
    let long : k < length (coords_in_order order leaf) = omega (arith, within, length-coords_in_order order leaf box) in
    covers (get_or (coords_in_order order leaf) k []) (is_in_box-slice_get order leaf box k (get_or (coords_in_order order leaf) k []) (slice_get-get_or (coords_in_order order leaf) k [] long))

-- ---- one cell

-- what columns of coordinates hold at a place is what stands there
pub columns_inside : (outer leaf : SubBox) (order : Order) (k : ℕ) (columns : List (List ℤ)) (b : Bool) → AreCoords order leaf columns → k < cells_of leaf → b ≡ is_in_box outer (map (λ column. get_or column k (pos 0)) columns)
    → b ≡ is_in_box outer (get_or (coords_in_order order leaf) k [])
columns_inside outer leaf order k columns b are within is = is ∙ ap (is_in_box outer) (are.there k within)

pub ruleset insides = (covered_inside, columns_inside)
