-- The slots of the space tiles of a fragment lie in its hull, whatever its array is.
use Rattle.std.proofs.Common.{◌≡◌, ℕ, ◌+◌, ◌<◌, Bool, true, false, ◌&&◌, ℤ, List, [], ◌∷◌, length, sym, ◌∙◌, subst, arith}
use Rattle.std.specs.Prelude.{IsTrue, int_le, if◌then◌else◌}
use Rattle.std.specs.List.{All}
use Rattle.std.specs.Int.{int_min, int_max}
use Rattle.std.proofs.lemmas.Bool.{and_parts, and_from}
use Rattle.std.proofs.lemmas.Int.{ints, clamps}
use Rattle.std.proofs.lemmas.Option.{get_or_from_slice_get}
use Rattle.std.proofs.lemmas.List.Elements.{All-nil, All-cons, All-map, All-weaker, All-from_get_or}
use Rattle.ts_domain.specs.declared.dims.Dim.{Dim}
use Rattle.ts_domain.specs.declared.orders.Order.{Order}
use Rattle.ts_domain.specs.declared.boxes.SubBox.{SubBox}
use Rattle.ts_domain.specs.Bounds.{is_between, cells_between, coords_between}
use Rattle.ts_domain.specs.Boxes.{is_in_box, do_boxes_meet}
use Rattle.ts_domain.specs.Dims.{tile_start, tile_end}
use Rattle.ts_domain.specs.Rects.{places_from}
use Rattle.ts_domain.proofs.Between.{length-coords_between, length-is_between}
use Rattle.ts_order.specs.Orders.{turned, coords_in_order}
use Rattle.ts_order.specs.Places.{coords_of_place}
use Rattle.ts_order.specs.Tiles.{cut_low, cut_high, cut_box, tile_box, tiles_in}
use Rattle.ts_order.proofs.OrderLemmas.{length-turned, length-tile_numbers}
use Rattle.ts_order.proofs.PlaceLaws.{slice_get-coords_between, is_between-coords_of_place}
use Rattle.ts_order.proofs.TurnedLemmas.{turned-is_between}
use Rattle.ts_order.proofs.TileSteps.{length-cut_low, length-cut_high}

-- the coordinates lie in the box
abbrev pub LieIn : SubBox → List ℤ → Type 0
LieIn box coords = IsTrue (is_in_box box coords)

-- the coordinates between corners lie between them
between_all : (ls hs : List ℤ) → length hs ≡ length ls → All (λ (c : List ℤ). IsTrue (is_between ls hs c)) (coords_between ls hs)
between_all ls hs same = All-from_get_or (λ (c : List ℤ). IsTrue (is_between ls hs c)) (coords_between ls hs) [] (λ i within.
    let below : i < cells_between ls hs = subst (λ (n : ℕ). i < n) (length-coords_between ls hs) within in
    let at = get_or_from_slice_get (coords_between ls hs) i (coords_of_place ls hs i) [] (slice_get-coords_between ls hs i same below) in
    subst (λ (c : List ℤ). IsTrue (is_between ls hs c)) (sym at) (is_between-coords_of_place ls hs i same below))

-- the coordinates of a box in an order lie in it, also where it has none
in_order_all : (order : Order) (box : SubBox) → length box.high ≡ length box.low → All (LieIn box) (coords_in_order order box)
in_order_all order box same =
    let lows = turned order box.low in
    let highs = turned order box.high in
    let lengths : length highs ≡ length lows = length-turned order box.high ∙ same ∙ sym (length-turned order box.low) in
    All-map (LieIn box) (turned order) (coords_between lows highs)
    (All-weaker (λ (c : List ℤ). IsTrue (is_between lows highs c)) (λ (c : List ℤ). LieIn box (turned order c)) (λ c t. turned-is_between order box.low box.high c t) (coords_between lows highs) (between_all lows highs lengths))

-- what is above the greater of two numbers is above the first
from_max : (a b c : ℤ) → int_le (int_max a b) c ≡ true → int_le a c ≡ true
from_max a b c e = grind (arith, ints, clamps)

-- what is below the lesser of two numbers is below the first
from_min : (a b c : ℤ) → int_le c (int_min a b) ≡ true → int_le c a ≡ true
from_min a b c e = grind (arith, ints, clamps)

-- what lies in a box cut to a tile lies in the box
in_cut : (dims : List Dim) (ts ls hs xs : List ℤ) → length ls ≡ length dims → length hs ≡ length dims → length ts ≡ length dims → IsTrue (is_between (cut_low dims ts ls) (cut_high dims ts hs) xs) → IsTrue (is_between ls hs xs)
in_cut [] ts [] [] xs e f g t = t
in_cut [] ts [] (h ∷ hs) xs e f g t = absurd (omega (arith, f))
in_cut [] ts (l ∷ ls) hs xs e f g t = absurd (omega (arith, e))
in_cut (d ∷ ds) [] ls hs xs e f g t = absurd (omega (arith, g))
in_cut (d ∷ ds) (n ∷ ts) [] hs xs e f g t = absurd (omega (arith, e))
in_cut (d ∷ ds) (n ∷ ts) (l ∷ ls) [] xs e f g t = absurd (omega (arith, f))
in_cut (d ∷ ds) (n ∷ ts) (l ∷ ls) (h ∷ hs) [] e f g t = t
in_cut (d ∷ ds) (n ∷ ts) (l ∷ ls) (h ∷ hs) (x ∷ xs) e f g t =
    let parts = and_parts (int_le (int_max l (tile_start d n)) x && int_le x (int_min h (tile_end d n))) (is_between (cut_low ds ts ls) (cut_high ds ts hs) xs) t in
    let sides = and_parts (int_le (int_max l (tile_start d n)) x) (int_le x (int_min h (tile_end d n))) parts.0 in
    and_from (int_le l x && int_le x h) (is_between ls hs xs) (and_from (int_le l x) (int_le x h) (from_max l (tile_start d n) x sides.0) (from_min h (tile_end d n) x sides.1))
    (in_cut ds ts ls hs xs (omega (arith, e)) (omega (arith, f)) (omega (arith, g)) parts.1)

-- all slots of all space tiles that are cut to a hull lie in the hull
pub tiles_inside : (dims : List Dim) (tile cell : Order) (hull : SubBox) → length hull.low ≡ length dims → length hull.high ≡ length dims
    → All (λ (t : SubBox). All (LieIn hull) (coords_in_order cell t)) (tiles_in dims tile hull)
tiles_inside dims tile cell hull lows highs =
    let box = tile_box dims hull in
    let low_long : length box.low ≡ length dims = length-tile_numbers dims hull.low lows in
    let high_long : length box.high ≡ length dims = length-tile_numbers dims hull.high highs in
    let P : SubBox → Type 0 = λ t. All (LieIn hull) (coords_in_order cell t) in
    All-map P (cut_box dims hull) (coords_in_order tile box)
    (All-weaker (LieIn box) (λ (ts : List ℤ). P (cut_box dims hull ts)) (λ ts inside. one ts (sym (length-is_between box.low box.high ts inside).0 ∙ low_long)) (coords_in_order tile box)
    (in_order_all tile box (high_long ∙ sym low_long)))
  where
    one : (ts : List ℤ) → length ts ≡ length dims → All (LieIn hull) (coords_in_order cell (cut_box dims hull ts))
    one ts long =
        let cut = cut_box dims hull ts in
        let cut_lows = length-cut_low dims ts hull.low long lows in
        let cut_highs = length-cut_high dims ts hull.high long highs in
        All-weaker (LieIn cut) (LieIn hull) (λ c inside. in_cut dims ts hull.low hull.high c lows highs long inside) (coords_in_order cell cut) (in_order_all cell cut (cut_highs ∙ sym cut_lows))

-- the places of boxes that meet another are places of boxes
pub places_below : (sub : SubBox) (at : ℕ) (boxes : List SubBox) → All (λ i. i < at + length boxes) (places_from sub at boxes)
places_below sub at [] = All-nil (λ i. i < at + 0)
places_below sub at (b ∷ boxes) =
    let more = All-weaker (λ i. i < at + 1 + length boxes) (λ i. i < at + length (b ∷ boxes)) (λ i below. omega (arith, below)) (places_from sub (at + 1) boxes) (places_below sub (at + 1) boxes) in
    by (do_boxes_meet b sub) more
  where
    by : (t : Bool) → All (λ i. i < at + length (b ∷ boxes)) (places_from sub (at + 1) boxes) → All (λ i. i < at + length (b ∷ boxes)) (if t then at ∷ places_from sub (at + 1) boxes else places_from sub (at + 1) boxes)
    by true more = All-cons (λ i. i < at + length (b ∷ boxes)) at (places_from sub (at + 1) boxes) (omega arith) more
    by false more = more
