-- How many cells stand before a part of a box, dimension after dimension.
use Rattle.std.proofs.Common.{◌≡◌, ℕ, zero, suc, ◌+◌, ◌*◌, ◌-◌, ◌^◌, ◌<◌, ◌≤◌, ◌&&◌, ℤ, pos, ◌-ℤ◌, List, [], ◌∷◌, length, get_or, drop, refl, sym, ap, ◌∙◌, arith}
use Rattle.std.specs.Prelude.{IsTrue, int_le}
use Rattle.std.proofs.Math.Nat.{mul-le-mul_left, mul-le-mul_right, mul_comm}
use Rattle.std.proofs.lemmas.Int.{ints}
use Rattle.std.proofs.lemmas.Bool.{and_parts}
use Rattle.std.proofs.lemmas.List.{drop_more, drop_all}
use Rattle.ts_domain.specs.declared.orders.Order.{Order}
use Rattle.ts_domain.specs.Bounds.{are_bounds, is_between, natural_of, count_between, cells_between}
use Rattle.ts_domain.proofs.Between.{within_parts, count_between-le, length-are_bounds, length-is_between, are_bounds-is_between}
use Rattle.ts_order.specs.Orders.{turned, dim_at}
use Rattle.ts_order.proofs.OrderLemmas.{length-turned, get_or-turned}
use Rattle.ts_order.proofs.PlaceLaws.{steps_between}
use Rattle.ts_order.proofs.PlaceSteps.{count_between-positive}
use Rattle.ts_order.proofs.TurnedLemmas.{are_bounds-turned, cells_between-turned, is_between-turned}
use Rattle.ts_dense_read.specs.TileRanges.{cells_before}

-- a part has no more numbers along a dimension than stand behind those before it
side_fits : (l h x y : ℤ) → IsTrue (int_le l x && int_le x h) → IsTrue (int_le l y && int_le y h) → IsTrue (int_le x y) → natural_of (x -ℤ l) + count_between x y ≤ count_between l h
side_fits l h x y a b c =
    let one = within_parts l h x a in
    let two = within_parts l h y b in
    let steps = steps_between l h x a in
    let first = count_between-le l h (omega (arith, ints, one.0, one.1)) in
    let second = count_between-le x y (omega (arith, ints, c)) in
    omega (arith, ints, first, second, steps.1, two.1)

-- a part and what stands before it are no more than all
pub part_fits : (ls hs xs ys : List ℤ) → IsTrue (is_between ls hs xs) → IsTrue (is_between ls hs ys) → IsTrue (are_bounds xs ys) → cells_before ls hs xs ys + cells_between xs ys ≤ cells_between ls hs
part_fits [] [] [] [] a b c = omega arith
part_fits [] [] [] (y ∷ ys) a b c = cc
part_fits [] [] (x ∷ xs) ys a b c = cc
part_fits [] (h ∷ hs) xs ys a b c = cc
part_fits (l ∷ ls) [] xs ys a b c = cc
part_fits (l ∷ ls) (h ∷ hs) [] ys a b c = cc
part_fits (l ∷ ls) (h ∷ hs) (x ∷ xs) [] a b c = cc
part_fits (l ∷ ls) (h ∷ hs) (x ∷ xs) (y ∷ ys) a b c =
    let first = and_parts (int_le l x && int_le x h) (is_between ls hs xs) a in
    let second = and_parts (int_le l y && int_le y h) (is_between ls hs ys) b in
    let third = and_parts (int_le x y) (are_bounds xs ys) c in
    let rest = part_fits ls hs xs ys first.1 second.1 third.1 in
    let side = side_fits l h x y first.0 second.0 third.0 in
    sums (natural_of (x -ℤ l)) (count_between x y) (count_between l h) (cells_between ls hs) (cells_before ls hs xs ys) (cells_between xs ys) side rest
  where
    sums : (n k s r b p : ℕ) → n + k ≤ s → b + p ≤ r → n * r + k * b + k * p ≤ s * r
    sums n k s r b p side rest =
        let one : k * (b + p) ≤ k * r = mul-le-mul_left k rest in
        let two : (n + k) * r ≤ s * r = mul-le-mul_right r side in
        omega (arith, one, two)

-- the dimensions behind some have no more cells than all
cells_drop : (ls hs : List ℤ) (n : ℕ) → IsTrue (are_bounds ls hs) → cells_between (drop n ls) (drop n hs) ≤ cells_between ls hs
cells_drop ls hs zero valid = omega arith
cells_drop [] hs (suc n) valid = omega arith
cells_drop (l ∷ ls) [] (suc n) valid = cc
cells_drop (l ∷ ls) (h ∷ hs) (suc n) valid =
    let parts = and_parts (int_le l h) (are_bounds ls hs) valid in
    let some = count_between-positive l h parts.0 in
    let more : 1 * cells_between ls hs ≤ count_between l h * cells_between ls hs = mul-le-mul_right (cells_between ls hs) some in
    omega (arith, cells_drop ls hs n parts.1, more)

drop_bounds : (ls hs : List ℤ) (n : ℕ) → IsTrue (are_bounds ls hs) → IsTrue (are_bounds (drop n ls) (drop n hs))
drop_bounds ls hs zero valid = valid
drop_bounds [] [] (suc n) valid = refl
drop_bounds [] (h ∷ hs) (suc n) valid = cc
drop_bounds (l ∷ ls) [] (suc n) valid = cc
drop_bounds (l ∷ ls) (h ∷ hs) (suc n) valid = drop_bounds ls hs n (and_parts (int_le l h) (are_bounds ls hs) valid).1

drop_between : (ls hs xs : List ℤ) (n : ℕ) → IsTrue (is_between ls hs xs) → IsTrue (is_between (drop n ls) (drop n hs) (drop n xs))
drop_between ls hs xs zero inside = inside
drop_between [] [] [] (suc n) inside = refl
drop_between [] [] (x ∷ xs) (suc n) inside = cc
drop_between [] (h ∷ hs) xs (suc n) inside = cc
drop_between (l ∷ ls) [] xs (suc n) inside = cc
drop_between (l ∷ ls) (h ∷ hs) [] (suc n) inside = cc
drop_between (l ∷ ls) (h ∷ hs) (x ∷ xs) (suc n) inside = drop_between ls hs xs n (and_parts (int_le l x && int_le x h) (is_between ls hs xs) inside).1

-- what was counted from the dimension of a rank on, and how many cells the dimensions from it on have
pub record Counting (ls hs xs ys : List ℤ) (before rest rank : ℕ) : Type 0 where
  pub made : before ≡ cells_before (drop rank ls) (drop rank hs) (drop rank xs) (drop rank ys)
  pub left : rest ≡ cells_between (drop rank ls) (drop rank hs)

-- behind the last rank there is nothing
pub counting_none : (ls hs xs ys : List ℤ) (rank : ℕ) → length ls ≤ rank → Counting ls hs xs ys 0 1 rank
counting_none ls hs xs ys rank over =
    let none = drop_all rank ls over in
    record { made = sym (ap (λ zs. cells_before zs (drop rank hs) (drop rank xs) (drop rank ys)) none); left = sym (ap (λ zs. cells_between zs (drop rank hs)) none) }

module _ (order : Order) (low high from to : List ℤ) (few : cells_between low high < 2 ^ 64) (valid : IsTrue (are_bounds from to)) (in_from : IsTrue (is_between low high from)) (in_to : IsTrue (is_between low high to)) where
  abbrev L : List ℤ
  L = turned order low

  abbrev H : List ℤ
  H = turned order high

  abbrev X : List ℤ
  X = turned order from

  abbrev Y : List ℤ
  Y = turned order to

  bounds : IsTrue (are_bounds low high)
  bounds = are_bounds-is_between low high from in_from

  highs : length high ≡ length low
  highs = length-are_bounds low high bounds

  froms : length from ≡ length low
  froms = sym (length-is_between low high from in_from).0

  tos : length to ≡ length low
  tos = sym (length-is_between low high to in_to).0

  -- no more are counted than there are cells
  counted_few : (before rest rank : ℕ) → Counting L H X Y before rest rank → (before < 2 ^ 64) × (rest < 2 ^ 64)
  counted_few before rest rank so =
      let inside = part_fits (drop rank L) (drop rank H) (drop rank X) (drop rank Y) (drop_between L H X rank (is_between-turned order low high from in_from)) (drop_between L H Y rank (is_between-turned order low high to in_to)) (drop_bounds X Y rank (are_bounds-turned order from to valid)) in
      let fewer = cells_drop L H rank (are_bounds-turned order low high bounds) in
      let all = cells_between-turned order low high highs in
      (omega (arith, inside, fewer, all, few, so.made), omega (arith, fewer, all, few, so.left))

  -- one rank more
  counting_more : (before rest rank next steps side whole : ℕ) → Counting L H X Y before rest next → next ≡ rank + 1 → rank < length low
      → steps ≡ natural_of (get_or from (dim_at order (length low) rank) (pos 0) -ℤ get_or low (dim_at order (length low) rank) (pos 0))
      → side ≡ count_between (get_or from (dim_at order (length low) rank) (pos 0)) (get_or to (dim_at order (length low) rank) (pos 0))
      → whole ≡ count_between (get_or low (dim_at order (length low) rank) (pos 0)) (get_or high (dim_at order (length low) rank) (pos 0))
      → Counting L H X Y (steps * rest + side * before) (rest * whole) rank
  counting_more before rest rank next steps side whole so is within step part all =
      let at_low = get_or-turned order low rank (pos 0) within in
      let at_high = get_or-turned order high rank (pos 0) (omega (arith, within, highs)) ∙ ap (λ n. get_or high (dim_at order n rank) (pos 0)) highs in
      let at_from = get_or-turned order from rank (pos 0) (omega (arith, within, froms)) ∙ ap (λ n. get_or from (dim_at order n rank) (pos 0)) froms in
      let at_to = get_or-turned order to rank (pos 0) (omega (arith, within, tos)) ∙ ap (λ n. get_or to (dim_at order n rank) (pos 0)) tos in
      let lows = drop_more L rank (pos 0) (omega (arith, within, length-turned order low)) ∙ (λ i. at_low i ∷ drop (sym is i) L) in
      let tops = drop_more H rank (pos 0) (omega (arith, within, highs, length-turned order high)) ∙ (λ i. at_high i ∷ drop (sym is i) H) in
      let starts = drop_more X rank (pos 0) (omega (arith, within, froms, length-turned order from)) ∙ (λ i. at_from i ∷ drop (sym is i) X) in
      let ends = drop_more Y rank (pos 0) (omega (arith, within, tos, length-turned order to)) ∙ (λ i. at_to i ∷ drop (sym is i) Y) in
      record {
        made = (λ i. step i * so.left i + part i * so.made i) ∙ sym (λ i. cells_before (lows i) (tops i) (starts i) (ends i));
        left = mul_comm rest whole ∙ (λ i. all i * so.left i) ∙ sym (λ i. cells_between (lows i) (tops i));
      }

  -- one dimension more, as the code counts them
  pub counting_step : (before rest done dim steps side whole : ℕ) → Counting L H X Y before rest (length low - done) → done < length low → dim ≡ dim_at order (length low) (length low - 1 - done)
      → steps ≡ natural_of (get_or from dim (pos 0) -ℤ get_or low dim (pos 0)) → side ≡ count_between (get_or from dim (pos 0)) (get_or to dim (pos 0)) → whole ≡ count_between (get_or low dim (pos 0)) (get_or high dim (pos 0))
      → Counting L H X Y (steps * rest + side * before) (rest * whole) (length low - (done + 1)) × (steps * rest + side * before < 2 ^ 64) × (rest * whole < 2 ^ 64)
  counting_step before rest done dim steps side whole so within is step part all =
      let rank = length low - (done + 1) in
      let next : length low - done ≡ length low - (done + 1) + 1 = omega (arith, within) in
      let same : length low - 1 - done ≡ length low - (done + 1) = omega (arith, within) in
      let at : dim ≡ dim_at order (length low) (length low - (done + 1)) = is ∙ ap (dim_at order (length low)) same in
      let more = counting_more before rest rank (length low - done) steps side whole so next (omega (arith, within))
      (step ∙ ap (λ n. natural_of (get_or from n (pos 0) -ℤ get_or low n (pos 0))) at)
      (part ∙ ap (λ n. count_between (get_or from n (pos 0)) (get_or to n (pos 0))) at)
      (all ∙ ap (λ n. count_between (get_or low n (pos 0)) (get_or high n (pos 0))) at) in
      let few_more = counted_few (steps * rest + side * before) (rest * whole) rank more in
      (more, few_more.0, few_more.1)

-- at the first rank all is counted
pub counting_all : (ls hs xs ys : List ℤ) (before rest rank : ℕ) → Counting ls hs xs ys before rest rank → rank ≡ 0 → before ≡ cells_before ls hs xs ys
counting_all ls hs xs ys before rest rank so first = so.made ∙ ap (λ n. cells_before (drop n ls) (drop n hs) (drop n xs) (drop n ys)) first
