-- The steps of the loops that find the coordinates at a place and the place of coordinates.
use Rattle.std.proofs.Common.{◌≡◌, ℕ, zero, suc, ◌+◌, ◌-◌, ◌*◌, ◌/◌, ◌%◌, ◌^◌, ◌<◌, ◌≤◌, ◌&&◌, List, [], ◌∷◌, ◌++◌, length, get_or, set, take, drop, refl, sym, ap, ◌∙◌, arith, append_assoc, mul-le-mul, length-set, length-take-le, ℤ, pos, negsuc, ◌+ℤ◌, ◌-ℤ◌, ◌≤ℤ◌, FitsSigned}
use Rattle.std.specs.Prelude.{IsTrue, int_le, unsigned_abs}
use Rattle.std.proofs.lemmas.Bool.{and_parts, and_from}
use Rattle.std.proofs.lemmas.Nat.{div_below}
use Rattle.std.proofs.lemmas.List.{take_more, take_all, drop_all, drop-set, append-nil}
use Rattle.std.specs.Int.{w128}
use Rattle.std.proofs.lemmas.Int.{ints}
use Rattle.ts_domain.specs.declared.orders.Order.{Order}
use Rattle.ts_domain.specs.Bounds.{are_bounds, is_between, natural_of, count_between, cells_between}
use Rattle.ts_domain.proofs.Between.{are_bounds-cons, length-are_bounds, length-is_between, are_bounds-is_between, count_between-le, unsigned_abs-distance, within_parts}
use Rattle.ts_domain.proofs.Steps.{are_bounds_at}
use Rattle.ts_order.specs.Orders.{turned, dim_at}
use Rattle.ts_order.specs.Places.{coords_of_place, place_of}
use Rattle.ts_order.proofs.PlaceLaws.{cells_between-push, coords_of_place-push, place_of-push, place_of-below, some_columns, within_count, steps_between}
use Rattle.ts_order.proofs.OrderLemmas.{length-turned, get_or-turned, dim_at-below}
use Rattle.ts_order.proofs.TurnedLemmas.{turned-set, are_bounds-turned, cells_between-turned, is_between-turned}
use Rattle.ts_order.proofs.PlaceInvariants.{AreWritten}

-- ---- sizes

pub count_between-positive : (l h : ℤ) → IsTrue (int_le l h) → 0 < count_between l h
count_between-positive l h t = omega (arith, ints, t, count_between-le l h (omega (arith, ints, t)))

-- a box has cells
pub cells_between-positive : (ls hs : List ℤ) → IsTrue (are_bounds ls hs) → 0 < cells_between ls hs
cells_between-positive [] hs t = omega arith
cells_between-positive (l ∷ ls) [] t = cc
cells_between-positive (l ∷ ls) (h ∷ hs) t =
    let parts = and_parts (int_le l h) (are_bounds ls hs) t in
    let product : 1 * 1 ≤ count_between l h * cells_between ls hs = mul-le-mul (count_between-positive l h parts.0) (cells_between-positive ls hs parts.1) in
    omega arith

-- fewer dimensions have no more cells
pub cells_between-take : (ls hs : List ℤ) (n : ℕ) → IsTrue (are_bounds ls hs) → cells_between (take n ls) (take n hs) ≤ cells_between ls hs
cells_between-take ls hs zero t = cells_between-positive ls hs t
cells_between-take [] hs (suc n) t = omega arith
cells_between-take (l ∷ ls) [] (suc n) t = cc
cells_between-take (l ∷ ls) (h ∷ hs) (suc n) t = mul-le-mul {n₁ = count_between l h} {n₂ = count_between l h} (omega arith) (cells_between-take ls hs n (are_bounds-cons l h ls hs t).1)

-- no side has more numbers than the box has cells
pub count_between-at : (ls hs : List ℤ) (i : ℕ) → IsTrue (are_bounds ls hs) → i < length ls → (0 < count_between (get_or ls i (pos 0)) (get_or hs i (pos 0))) × (count_between (get_or ls i (pos 0)) (get_or hs i (pos 0)) ≤ cells_between ls hs)
count_between-at [] hs i t k = absurd (omega arith)
count_between-at (l ∷ ls) [] i t k = cc
count_between-at (l ∷ ls) (h ∷ hs) zero t k =
    let parts = and_parts (int_le l h) (are_bounds ls hs) t in
    let product : count_between l h * 1 ≤ count_between l h * cells_between ls hs = mul-le-mul {n₁ = count_between l h} {n₂ = count_between l h} (omega arith) (cells_between-positive ls hs parts.1) in
    (count_between-positive l h parts.0, omega arith)
count_between-at (l ∷ ls) (h ∷ hs) (suc i) t k =
    let parts = and_parts (int_le l h) (are_bounds ls hs) t in
    let rest = count_between-at ls hs i parts.1 (omega arith) in
    let product : 1 * cells_between ls hs ≤ count_between l h * cells_between ls hs = mul-le-mul {m₁ = cells_between ls hs} {m₂ = cells_between ls hs} (count_between-positive l h parts.0) (omega arith) in
    (rest.0, omega arith)

-- a coordinate of a box lies between the bounds of its dimension
pub is_between_at : (ls hs xs : List ℤ) (i : ℕ) → IsTrue (is_between ls hs xs) → i < length ls → IsTrue (int_le (get_or ls i (pos 0)) (get_or xs i (pos 0)) && int_le (get_or xs i (pos 0)) (get_or hs i (pos 0)))
is_between_at [] hs xs i t k = absurd (omega arith)
is_between_at (l ∷ ls) [] xs i t k = cc
is_between_at (l ∷ ls) (h ∷ hs) [] i t k = cc
is_between_at (l ∷ ls) (h ∷ hs) (x ∷ xs) zero t k = (and_parts (int_le l x && int_le x h) (is_between ls hs xs) t).0
is_between_at (l ∷ ls) (h ∷ hs) (x ∷ xs) (suc i) t k = is_between_at ls hs xs i (and_parts (int_le l x && int_le x h) (is_between ls hs xs) t).1 (omega arith)

-- the front of coordinates lies between the front of their bounds
is_between-take : (ls hs xs : List ℤ) (n : ℕ) → IsTrue (is_between ls hs xs) → IsTrue (is_between (take n ls) (take n hs) (take n xs))
is_between-take ls hs xs zero t = refl
is_between-take [] [] [] (suc n) t = refl
is_between-take [] [] (x ∷ xs) (suc n) t = cc
is_between-take [] (h ∷ hs) xs (suc n) t = cc
is_between-take (l ∷ ls) [] xs (suc n) t = cc
is_between-take (l ∷ ls) (h ∷ hs) [] (suc n) t = cc
is_between-take (l ∷ ls) (h ∷ hs) (x ∷ xs) (suc n) t =
    let parts = and_parts (int_le l x && int_le x h) (is_between ls hs xs) t in
    and_from (int_le l x && int_le x h) (is_between (take n ls) (take n hs) (take n xs)) parts.0 (is_between-take ls hs xs n parts.1)

-- a number between two that fit fits
pub fits_between : (l h : ℤ) (steps : ℕ) → FitsSigned w128 l → FitsSigned w128 h → steps < count_between l h → FitsSigned w128 (l +ℤ pos steps)
fits_between l h steps low high k = let within = within_count l h steps k in let parts = within_parts l h (l +ℤ pos steps) within in omega (arith, ints)

-- ---- the coordinates at a place, the dimension that changes fastest first

take-set : (xs : List ℤ) (n i : ℕ) (v : ℤ) → i < n → take n (set xs i v) ≡ set (take n xs) i v
take-set [] zero i v k = refl
take-set [] (suc n) i v k = refl
take-set (x ∷ xs) zero i v k = absurd (omega arith)
take-set (x ∷ xs) (suc n) zero v k = refl
take-set (x ∷ xs) (suc n) (suc i) v k = ap (λ ys. x ∷ ys) (take-set xs n i v (omega arith))

-- the numbers with one more written, from its rank on
numbers_more : (order : Order) (numbers : List ℤ) (count rank : ℕ) (v : ℤ) → count ≤ length numbers → rank < count
    → drop rank (turned order (take count (set numbers (dim_at order count rank) v))) ≡ v ∷ drop (rank + 1) (turned order (take count numbers))
numbers_more order numbers count rank v room k =
    let long : length (take count numbers) ≡ count = length-take-le count numbers room in
    let below : rank < length (turned order (take count numbers)) = rw (length-turned order (take count numbers), long) k in
    let inside : dim_at order count rank < count = dim_at-below order count rank k in
    let written : turned order (set (take count numbers) (dim_at order count rank) v) ≡ set (turned order (take count numbers)) rank v =
    rw long at (turned-set order (take count numbers) rank v (rw long k)) in
    ap (λ xs. drop rank (turned order xs)) (take-set numbers count (dim_at order count rank) v inside)
    ∙ ap (drop rank) written ∙ drop-set (turned order (take count numbers)) rank v below

-- the bounds are turned already; each step writes the number of one dimension
pub coords_more : (order : Order) (ls hs numbers : List ℤ) (count rank rest : ℕ) (v : ℤ) (whole : List ℤ) → length ls ≡ count → length hs ≡ count → count ≤ length numbers → rank < count
    → rest < cells_between (take (rank + 1) ls) (take (rank + 1) hs)
    → v ≡ get_or ls rank (pos 0) +ℤ pos (rest % count_between (get_or ls rank (pos 0)) (get_or hs rank (pos 0)))
    → coords_of_place (take (rank + 1) ls) (take (rank + 1) hs) rest ++ drop (rank + 1) (turned order (take count numbers)) ≡ whole
    → (rest / count_between (get_or ls rank (pos 0)) (get_or hs rank (pos 0)) < cells_between (take rank ls) (take rank hs))
    × (coords_of_place (take rank ls) (take rank hs) (rest / count_between (get_or ls rank (pos 0)) (get_or hs rank (pos 0)))
    ++ drop rank (turned order (take count (set numbers (dim_at order count rank) v))) ≡ whole)
coords_more order ls hs numbers count rank rest v whole dims same room k below value before =
    let l = get_or ls rank (pos 0) in
    let h = get_or hs rank (pos 0) in
    let n = count_between l h in
    let more_ls = take_more ls rank (pos 0) (rw dims k) in
    let more_hs = take_more hs rank (pos 0) (rw same k) in
    let lengths : length (take rank hs) ≡ length (take rank ls) = length-take-le rank hs (rw same (omega arith)) ∙ sym (length-take-le rank ls (rw dims (omega arith))) in
    let product : rest < cells_between (take rank ls) (take rank hs) * n = rw (more_ls, more_hs, cells_between-push (take rank ls) (take rank hs) l h lengths) at below in
    let some : 0 < n = some_columns rest (cells_between (take rank ls) (take rank hs)) n product in
    let digits : coords_of_place (take (rank + 1) ls) (take (rank + 1) hs) rest ≡ coords_of_place (take rank ls) (take rank hs) (rest / n) ++ (l +ℤ pos (rest % n)) ∷ [] =
    rw (more_ls, more_hs) (coords_of_place-push (take rank ls) (take rank hs) l h rest lengths product) in (
      div_below rest n (cells_between (take rank ls) (take rank hs)) some product,
      ap (λ xs. coords_of_place (take rank ls) (take rank hs) (rest / n) ++ xs) (numbers_more order numbers count rank v room k)
          ∙ ap (λ z. coords_of_place (take rank ls) (take rank hs) (rest / n) ++ z ∷ drop (rank + 1) (turned order (take count numbers))) value
          ∙ sym (append_assoc (coords_of_place (take rank ls) (take rank hs) (rest / n)) ((l +ℤ pos (rest % n)) ∷ []) (drop (rank + 1) (turned order (take count numbers))))
          ∙ ap (λ xs. xs ++ drop (rank + 1) (turned order (take count numbers))) (sym digits) ∙ before,
    )

-- ---- the place of coordinates, the dimension that changes slowest first

pub place_more : (ls hs xs : List ℤ) (rank place : ℕ) → length hs ≡ length ls → length xs ≡ length ls → rank < length ls → place ≡ place_of (take rank ls) (take rank hs) (take rank xs)
    → place * count_between (get_or ls rank (pos 0)) (get_or hs rank (pos 0)) + natural_of (get_or xs rank (pos 0) -ℤ get_or ls rank (pos 0))
    ≡ place_of (take (rank + 1) ls) (take (rank + 1) hs) (take (rank + 1) xs)
place_more ls hs xs rank place same long k before =
    let lengths_hs : length (take rank hs) ≡ length (take rank ls) = length-take-le rank hs (rw same (omega arith)) ∙ sym (length-take-le rank ls (omega arith)) in
    let lengths_xs : length (take rank xs) ≡ length (take rank ls) = length-take-le rank xs (rw long (omega arith)) ∙ sym (length-take-le rank ls (omega arith)) in
    rw (take_more ls rank (pos 0) k, take_more hs rank (pos 0) (rw same k), take_more xs rank (pos 0) (rw long k), before)
    (sym (place_of-push (take rank ls) (take rank hs) (take rank xs) (get_or ls rank (pos 0)) (get_or hs rank (pos 0)) (get_or xs rank (pos 0)) lengths_hs lengths_xs))

-- ---- the loop that finds the coordinates at a place

module _ (order : Order) (low high : List ℤ) (position : ℕ) (bounds : IsTrue (are_bounds low high)) (room : length low ≤ 8) where
  turned_high : length (turned order high) ≡ length low
  turned_high = length-turned order high ∙ length-are_bounds low high bounds

  pub written_none : (numbers : List ℤ) → length numbers ≡ 8 → position < cells_between low high → AreWritten order low high position (length low) numbers position
  written_none numbers long below =
      let whole_low = take_all (length low) (turned order low) (rw (length-turned order low) (omega arith)) in
      let whole_high = take_all (length low) (turned order high) (rw turned_high (omega arith)) in
      let front : length (take (length low) numbers) ≡ length low = length-take-le (length low) numbers (rw long room) in
      let none = drop_all (length low) (turned order (take (length low) numbers)) (rw (length-turned order (take (length low) numbers), front) (omega arith)) in
      record {
        long = long;
        below = rw (whole_low, whole_high, cells_between-turned order low high (length-are_bounds low high bounds)) below;
        digits = rw (whole_low, whole_high, none) (append-nil (coords_of_place (turned order low) (turned order high) position));
      }

  pub written_more : (done rest side : ℕ) (numbers : List ℤ) (v : ℤ) → done < length low → AreWritten order low high position (length low - done) numbers rest
      → side ≡ count_between (get_or low (dim_at order (length low) (length low - 1 - done)) (pos 0)) (get_or high (dim_at order (length low) (length low - 1 - done)) (pos 0))
      → v ≡ get_or low (dim_at order (length low) (length low - 1 - done)) (pos 0) +ℤ pos (rest % side)
      → AreWritten order low high position (length low - (done + 1)) (set numbers (dim_at order (length low) (length low - 1 - done)) v) (rest / side)
  written_more done rest side numbers v k before sides value =
      let rank = length low - 1 - done in
      let inside : rank < length low = omega arith in
      let left : length low - done ≡ rank + 1 = omega arith in
      let next : length low - (done + 1) ≡ rank = omega arith in
      let at_low : get_or (turned order low) rank (pos 0) ≡ get_or low (dim_at order (length low) rank) (pos 0) = get_or-turned order low rank (pos 0) inside in
      let at_high : get_or (turned order high) rank (pos 0) ≡ get_or high (dim_at order (length low) rank) (pos 0) =
      rw (length-are_bounds low high bounds) at (get_or-turned order high rank (pos 0) (rw (length-are_bounds low high bounds) inside)) in
      let here : side ≡ count_between (get_or (turned order low) rank (pos 0)) (get_or (turned order high) rank (pos 0)) = rw (at_low, at_high) sides in
      let number : v ≡ get_or (turned order low) rank (pos 0) +ℤ pos (rest % count_between (get_or (turned order low) rank (pos 0)) (get_or (turned order high) rank (pos 0))) = rw (← here, at_low) value in
      let step = coords_more order (turned order low) (turned order high) numbers (length low) rank rest v _ (length-turned order low) turned_high (rw before.long room) inside
      (rw left at before.below) number (rw left at before.digits) in
      rw next (record {
        long = length-set numbers (dim_at order (length low) rank) v ∙ before.long;
        below = rw here step.0;
        digits = rw here step.1;
      })

-- ---- the numbers of one dimension, as the code computes them

pub side_is : (low high : List ℤ) (dim n : ℕ) → IsTrue (are_bounds low high) → cells_between low high < 2 ^ 64 → dim < length low
    → n ≡ unsigned_abs (get_or high dim (pos 0) -ℤ get_or low dim (pos 0))
    → (n + 1 ≡ count_between (get_or low dim (pos 0)) (get_or high dim (pos 0))) × (n + 1 < 2 ^ 64)
side_is low high dim n valid few within is =
    let ordered = are_bounds_at low high dim valid within in
    let value : n + 1 ≡ count_between (get_or low dim (pos 0)) (get_or high dim (pos 0)) =
    ap (λ m. m + 1) is ∙ unsigned_abs-distance (get_or low dim (pos 0)) (get_or high dim (pos 0)) (omega (arith, ints)) in
    (value, omega (arith, (count_between-at low high dim valid within).1, few))

pub steps_are : (low high at : List ℤ) (dim n : ℕ) → IsTrue (is_between low high at) → cells_between low high < 2 ^ 64 → dim < length low
    → n ≡ unsigned_abs (get_or at dim (pos 0) -ℤ get_or low dim (pos 0))
    → (n ≡ natural_of (get_or at dim (pos 0) -ℤ get_or low dim (pos 0))) × (n < 2 ^ 64)
steps_are low high at dim n inside few within is =
    let within_dim = is_between_at low high at dim inside within in
    let parts = within_parts (get_or low dim (pos 0)) (get_or high dim (pos 0)) (get_or at dim (pos 0)) within_dim in
    let steps = steps_between (get_or low dim (pos 0)) (get_or high dim (pos 0)) (get_or at dim (pos 0)) within_dim in
    let value : n ≡ natural_of (get_or at dim (pos 0) -ℤ get_or low dim (pos 0)) = is ∙ positive (get_or at dim (pos 0) -ℤ get_or low dim (pos 0)) (omega (arith, ints)) in
    (value, omega (arith, steps.0, (count_between-at low high dim (are_bounds-is_between low high at inside) within).1, few))
  where
    positive : (z : ℤ) → pos 0 ≤ℤ z → unsigned_abs z ≡ natural_of z
    positive (pos n) h = refl
    positive (negsuc n) h = absurd (omega (arith, ints))

-- ---- the loop that finds the place of coordinates

module _ (order : Order) (low high at : List ℤ) (inside : IsTrue (is_between low high at)) (few : cells_between low high < 2 ^ 64) where
  bounds_of : IsTrue (are_bounds low high)
  bounds_of = are_bounds-is_between low high at inside

  long_high : length (turned order high) ≡ length (turned order low)
  long_high = length-turned order high ∙ length-are_bounds low high bounds_of ∙ sym (length-turned order low)

  long_at : length (turned order at) ≡ length (turned order low)
  long_at = length-turned order at ∙ sym (length-is_between low high at inside).0 ∙ sym (length-turned order low)

  pub place_step : (rank place side steps : ℕ) → rank < length low → place ≡ place_of (take rank (turned order low)) (take rank (turned order high)) (take rank (turned order at))
      → side ≡ count_between (get_or low (dim_at order (length low) rank) (pos 0)) (get_or high (dim_at order (length low) rank) (pos 0))
      → steps ≡ natural_of (get_or at (dim_at order (length low) rank) (pos 0) -ℤ get_or low (dim_at order (length low) rank) (pos 0))
      → (place * side + steps ≡ place_of (take (rank + 1) (turned order low)) (take (rank + 1) (turned order high)) (take (rank + 1) (turned order at))) × (place * side + steps < 2 ^ 64)
  place_step rank place side steps k before sides step =
      let L = turned order low in
      let H = turned order high in
      let X = turned order at in
      let same_high = length-are_bounds low high bounds_of in
      let same_at : length at ≡ length low = sym (length-is_between low high at inside).0 in
      let at_low : get_or L rank (pos 0) ≡ get_or low (dim_at order (length low) rank) (pos 0) = get_or-turned order low rank (pos 0) k in
      let at_high : get_or H rank (pos 0) ≡ get_or high (dim_at order (length low) rank) (pos 0) = rw same_high at (get_or-turned order high rank (pos 0) (rw same_high k)) in
      let at_at : get_or X rank (pos 0) ≡ get_or at (dim_at order (length low) rank) (pos 0) = rw same_at at (get_or-turned order at rank (pos 0) (rw same_at k)) in
      let in_turned : rank < length L = rw (length-turned order low) k in
      let value : place * side + steps ≡ place_of (take (rank + 1) L) (take (rank + 1) H) (take (rank + 1) X) =
      rw (sides, step, ← at_low, ← at_high, ← at_at) (place_more L H X rank place long_high long_at in_turned before) in
      let fewer = cells_between-take L H (rank + 1) (are_bounds-turned order low high bounds_of) in
      let turned_inside = is_between-take L H X (rank + 1) (is_between-turned order low high at inside) in
      let below = place_of-below (take (rank + 1) L) (take (rank + 1) H) (take (rank + 1) X) turned_inside in
      (value, omega (arith, value, below, fewer, cells_between-turned order low high same_high, few))

  pub place_all : (rank place : ℕ) → length low ≤ rank → place ≡ place_of (take rank (turned order low)) (take rank (turned order high)) (take rank (turned order at))
      → place ≡ place_of (turned order low) (turned order high) (turned order at)
  place_all rank place done before =
      rw (take_all rank (turned order low) (rw (length-turned order low) done), take_all rank (turned order high) (rw (long_high, length-turned order low) done), take_all rank (turned order at) (rw (long_at, length-turned order low) done)) at before
