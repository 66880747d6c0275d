-- How many cells of a box lie in the space tiles before one of them.
use Rattle.std.proofs.Common.{◌≡◌, ℕ, zero, suc, ◌+◌, ◌*◌, ◌≤◌, ◌&&◌, ℤ, pos, negsuc, ◌+ℤ◌, ◌-ℤ◌, ◌*ℤ◌, ◌≤ℤ◌, List, [], ◌∷◌, ◌++◌, length, map, take, Some, refl, sym, ap, subst, ◌∙◌, arith}
use Rattle.std.specs.Prelude.{IsTrue, int_le, slice_get}
use Rattle.std.specs.Int.{int_min, int_max}
use Rattle.std.specs.List.{All, sum_by, flat_map}
use Rattle.std.proofs.lemmas.Int.{ints, clamps}
use Rattle.std.proofs.lemmas.Bool.{and_parts}
use Rattle.std.proofs.lemmas.List.{take-append-le, take-map, length-map}
use Rattle.std.proofs.lemmas.List.Sums.{sum_by-cons, sum_by-append}
use Rattle.std.proofs.lemmas.List.Elements.{All-head, All-tail}
use borrow.Author.Differences.{up, down}
use Rattle.ts_domain.specs.declared.dims.Dim.{Dim}
use Rattle.ts_domain.specs.Bounds.{are_bounds, is_between, natural_of, count_between, cells_between, numbers_from, coords_between}
use Rattle.ts_domain.specs.Dims.{IsSoundDim, tile_number, tile_start, tile_end}
use Rattle.ts_domain.specs.Domains.{is_in_domain}
use Rattle.ts_domain.proofs.Between.{within_parts, within_from, count_between-le, length-coords_between}
use Rattle.ts_order.specs.Orders.{tile_numbers}
use Rattle.ts_dense_read.specs.TileRanges.{cells_before}
use Rattle.ts_order.specs.Places.{place_of}
use Rattle.ts_order.specs.Tiles.{cut_low, cut_high}
use Rattle.ts_order.proofs.PlaceLaws.{slice_get-numbers_from, steps_between, place_of-below}
use Rattle.ts_order.proofs.TileLaws.{in_own_tile, tile_between, tile_number-ascends}
use Rattle.ts_order.proofs.TileSteps.{tile_number-positive}

-- ---- sums of products

scaled : {X : Type 0} (n : ℕ) (q : X → ℕ) (xs : List X) → sum_by (λ x. n * q x) xs ≡ n * sum_by q xs
scaled n q [] = omega arith
scaled n q (x ∷ xs) =
    let one = sum_by-cons (λ y. n * q y) x xs in
    let other = ap (λ m. n * m) (sum_by-cons q x xs) in
    let rest = scaled n q xs in
    omega (arith, one, other, rest)

pub mapped : {X Y : Type 0} (w : Y → ℕ) (f : X → Y) (xs : List X) → sum_by w (map f xs) ≡ sum_by (λ x. w (f x)) xs
mapped w f [] = refl
mapped w f (x ∷ xs) = sum_by-cons w (f x) (map f xs) ∙ ap (λ n. w (f x) + n) (mapped w f xs) ∙ sym (sum_by-cons (λ y. w (f y)) x xs)

-- the first elements of two lists, all of the one and some of the other
take_over : {X : Type 0} (xs ys : List X) (n k : ℕ) → n ≡ length xs + k → take n (xs ++ ys) ≡ xs ++ take k ys
take_over [] ys n k e = ap (λ m. take m ys) e ∙ (let same : 0 + k ≡ k = omega arith in ap (λ m. take m ys) same)
take_over (x ∷ xs) ys zero k e = absurd (omega (arith, e))
take_over (x ∷ xs) ys (suc n) k e = ap (λ zs. x ∷ zs) (take_over xs ys n k (omega (arith, e)))

-- a row of a table, whose first number is the row's
abbrev row : ℤ → List (List ℤ) → List (List ℤ)
row x cs = map (λ c. x ∷ c) cs

module _ (g : ℤ → ℕ) (q w : List ℤ → ℕ) (each : (x : ℤ) (c : List ℤ) → w (x ∷ c) ≡ g x * q c) (cs : List (List ℤ)) where
  one_row : (x : ℤ) (bs : List (List ℤ)) → sum_by w (row x bs) ≡ g x * sum_by q bs
  one_row x [] = omega arith
  one_row x (b ∷ bs) =
      let here = sum_by-cons w (x ∷ b) (row x bs) in
      let other = ap (λ m. g x * m) (sum_by-cons q b bs) in
      omega (arith, here, each x b, one_row x bs, other)

  all_rows : (xs : List ℤ) → sum_by w (flat_map (λ x. row x cs) xs) ≡ sum_by g xs * sum_by q cs
  all_rows [] = omega arith
  all_rows (x ∷ xs) =
      let here = sum_by-append w (row x cs) (flat_map (λ y. row y cs) xs) in
      let other = ap (λ m. m * sum_by q cs) (sum_by-cons g x xs) in
      omega (arith, here, one_row x cs, all_rows xs, other)

  some_rows : (xs : List ℤ) (i j : ℕ) (x : ℤ) → slice_get xs i ≡ Some x → j ≤ length cs
      → sum_by w (take (i * length cs + j) (flat_map (λ y. row y cs) xs)) ≡ sum_by g (take i xs) * sum_by q cs + g x * sum_by q (take j cs)
  some_rows [] i j x at few = absurd (cc)
  some_rows (y ∷ ys) zero j x at few =
      let same : y ≡ x = cc in
      let none : 0 * length cs + j ≡ j = omega arith in
      let long : j ≤ length (row y cs) = omega (arith, few, length-map cs (λ (c : List ℤ). y ∷ c)) in
      let first = ap (λ n. sum_by w (take n (flat_map (λ z. row z cs) (y ∷ ys)))) none ∙ ap (sum_by w) (take-append-le j (row y cs) (flat_map (λ z. row z cs) ys) long) ∙ ap (sum_by w) (take-map (λ (c : List ℤ). y ∷ c) j cs)
      ∙ one_row y (take j cs) ∙ ap (λ z. g z * sum_by q (take j cs)) same in
      omega (arith, first)
  some_rows (y ∷ ys) (suc i) j x at few =
      let long = length-map cs (λ (c : List ℤ). y ∷ c) in
      let split : suc i * length cs + j ≡ length (row y cs) + (i * length cs + j) = omega (arith, long) in
      let first = ap (sum_by w) (take_over (row y cs) (flat_map (λ z. row z cs) ys) (suc i * length cs + j) (i * length cs + j) split) ∙ sum_by-append w (row y cs) (take (i * length cs + j) (flat_map (λ z. row z cs) ys)) in
      let rest = some_rows ys i j x at few in
      let other = ap (λ m. m * sum_by q cs) (sum_by-cons g y (take i ys)) in
      omega (arith, first, one_row y cs, rest, other)

-- ---- one dimension

-- numbers from one on, and the next
numbers_more : (x : ℤ) (n : ℕ) → numbers_from x (suc n) ≡ numbers_from x n ++ (x +ℤ pos n) ∷ []
numbers_more x zero = let same : x ≡ x +ℤ pos 0 = omega (arith, ints) in ap (λ (y : ℤ). y ∷ []) same
numbers_more x (suc n) =
    let same : x +ℤ pos 1 +ℤ pos n ≡ x +ℤ pos (suc n) = omega (arith, ints) in
    ap (λ ys. x ∷ ys) (numbers_more (x +ℤ pos 1) n) ∙ ap (λ (y : ℤ). x ∷ (numbers_from (x +ℤ pos 1) n ++ y ∷ [])) same

take_numbers : (x : ℤ) (n k : ℕ) → k ≤ n → take k (numbers_from x n) ≡ numbers_from x k
take_numbers x n zero few = refl
take_numbers x zero (suc k) few = absurd (omega (arith, few))
take_numbers x (suc n) (suc k) few = ap (λ ys. x ∷ ys) (take_numbers (x +ℤ pos 1) n k (omega (arith, few)))

natural_is : (z : ℤ) → pos 0 ≤ℤ z → pos (natural_of z) ≡ z
natural_is (pos n) some = refl
natural_is (negsuc n) some = absurd (omega (arith, ints, some))

-- how many numbers a box has in a space tile along a dimension
abbrev pub side_in : Dim → ℤ → ℤ → ℤ → ℕ
side_in d l h t = count_between (int_max l (tile_start d t)) (int_min h (tile_end d t))

-- the next tile starts an extent later
start_more : (low t e : ℤ) → pos 0 ≤ℤ t → pos 1 ≤ℤ e → low +ℤ (t +ℤ pos 1) *ℤ e ≡ low +ℤ t *ℤ e +ℤ e
start_more low (pos n) (pos e) some wide =
    let product : (n + 1) * e ≡ n * e + e = omega arith in
    let first : pos n +ℤ pos 1 ≡ pos (n + 1) = omega (arith, ints) in
    ap (λ (z : ℤ). low +ℤ z *ℤ pos e) first ∙ ap (λ (m : ℕ). low +ℤ pos m) product ∙ omega (arith, ints)
start_more low (pos n) (negsuc e) some wide = absurd (omega (arith, ints, wide))
start_more low (negsuc n) e some wide = absurd (omega (arith, ints, some))

module _ (d : Dim) (l h : ℤ) (sound : IsSoundDim d) (above : d.low ≤ℤ l) (ordered : l ≤ℤ h) where
  -- those of the tiles before one stand before it
  sides_before : (k : ℕ) (t : ℤ) → t ≡ tile_number d l +ℤ pos k → t ≤ℤ tile_number d h → sum_by (side_in d l h) (numbers_from (tile_number d l) k) ≡ natural_of (int_max l (tile_start d t) -ℤ l)
  sides_before zero t is under =
      let own = (in_own_tile d l sound above).0 in
      let same : t ≡ tile_number d l = omega (arith, ints, is) in
      let start : tile_start d t ≤ℤ l = subst (λ (n : ℤ). tile_start d n ≤ℤ l) (sym same) own in
      let none : int_max l (tile_start d t) -ℤ l ≡ pos 0 = omega (arith, ints, clamps, start) in
      sym (ap natural_of none)
  sides_before (suc k) t is under =
      let a = tile_number d l in
      let b = a +ℤ pos k in
      let before : b ≤ℤ tile_number d h = omega (arith, ints, is, under) in
      let rest = sides_before k b refl before in
      let from : a ≤ℤ b = omega (arith, ints) in
      let from_next : a ≤ℤ t = omega (arith, ints, is) in
      let here = tile_between d l h b sound above ordered from before in
      let there = tile_between d l h t sound above ordered from_next under in
      let some : pos 0 ≤ℤ b = omega (arith, ints, tile_number-positive d l sound above) in
      let one : t ≡ b +ℤ pos 1 = omega (arith, ints, is) in
      let next : tile_start d t ≡ tile_start d b +ℤ d.extent = ap (tile_start d) one ∙ start_more d.low b d.extent some sound.some in
      let made = ap (sum_by (side_in d l h)) (numbers_more a k) ∙ sum_by-append (side_in d l h) (numbers_from a k) (b ∷ []) in
      let side = count_between-le (int_max l (tile_start d b)) (int_min h (tile_end d b)) (omega (arith, ints, clamps, here.0, there.1, next, ordered, sound.some)) in
      let first = natural_is (int_max l (tile_start d b) -ℤ l) (omega (arith, ints, clamps)) in
      let second = natural_is (int_max l (tile_start d t) -ℤ l) (omega (arith, ints, clamps)) in
      omega (arith, ints, clamps, made, rest, side, first, second, here.0, there.1, next, sound.some)

  -- those of all tiles are those of the box
  sides_all : sum_by (side_in d l h) (numbers_from (tile_number d l) (count_between (tile_number d l) (tile_number d h))) ≡ count_between l h
  sides_all =
      let a = tile_number d l in
      let b = tile_number d h in
      let ascends : a ≤ℤ b = (tile_number-ascends d l h sound above ordered).0 in
      let inside = within_from a b b (omega (arith, ints, ascends)) (omega (arith, ints)) in
      let steps = steps_between a b b inside in
      let k = natural_of (b -ℤ a) in
      let to : b ≡ a +ℤ pos k = sym steps.1 in
      let upper : up a + down b ≤ up b + down a = omega (arith, ints, ascends) in
      let count : count_between a b ≡ suc k = omega (arith, ints, count_between-le a b upper, to) in
      let before = sides_before k b to (omega (arith, ints)) in
      let own = in_own_tile d h sound (omega (arith, ints, above, ordered)) in
      let there = tile_between d l h b sound above ordered ascends (omega (arith, ints)) in
      let made = ap (λ n. sum_by (side_in d l h) (numbers_from a n)) count ∙ ap (sum_by (side_in d l h)) (numbers_more a k) ∙ sum_by-append (side_in d l h) (numbers_from a k) ((a +ℤ pos k) ∷ []) in
      let last : sum_by (side_in d l h) ((a +ℤ pos k) ∷ []) ≡ side_in d l h b = sum_by-cons (side_in d l h) (a +ℤ pos k) [] ∙ (let z : side_in d l h (a +ℤ pos k) + 0 ≡ side_in d l h (a +ℤ pos k) = omega arith in z) ∙ ap (side_in d l h) (sym to) in
      let side = count_between-le (int_max l (tile_start d b)) (int_min h (tile_end d b)) (omega (arith, ints, clamps, own.0, own.1, there.0, ordered)) in
      let whole = count_between-le l h (omega (arith, ints, ordered)) in
      let first = natural_is (int_max l (tile_start d b) -ℤ l) (omega (arith, ints, clamps)) in
      omega (arith, ints, clamps, made, last, before, side, whole, first, own.0, own.1, there.0, ordered)

-- ---- all dimensions

-- how many cells a box has in a space tile
abbrev pub part_cells : List Dim → List ℤ → List ℤ → List ℤ → ℕ
part_cells dims ls hs ts = cells_between (cut_low dims ts ls) (cut_high dims ts hs)

-- together the tiles have the cells of the box
pub parts_all : (dims : List Dim) (ls hs : List ℤ) → All IsSoundDim dims → IsTrue (is_in_domain dims ls) → IsTrue (are_bounds ls hs)
    → sum_by (part_cells dims ls hs) (coords_between (tile_numbers dims ls) (tile_numbers dims hs)) ≡ cells_between ls hs
parts_all [] [] [] sound inside valid = refl
parts_all [] [] (h ∷ hs) sound inside valid = cc
parts_all [] (l ∷ ls) hs sound inside valid = cc
parts_all (d ∷ ds) [] hs sound inside valid = cc
parts_all (d ∷ ds) (l ∷ ls) [] sound inside valid = cc
parts_all (d ∷ ds) (l ∷ ls) (h ∷ hs) sound inside valid =
    let bounds = and_parts (int_le l h) (are_bounds ls hs) valid in
    let corner = and_parts (int_le d.low l && int_le l d.high) (is_in_domain ds ls) inside in
    let above = within_parts d.low d.high l corner.0 in
    let good = All-head IsSoundDim d ds sound in
    let cs = coords_between (tile_numbers ds ls) (tile_numbers ds hs) in
    all_rows (side_in d l h) (part_cells ds ls hs) (part_cells (d ∷ ds) (l ∷ ls) (h ∷ hs)) (λ x c. refl) cs (numbers_from (tile_number d l) (count_between (tile_number d l) (tile_number d h)))
    ∙ ap (λ n. n * sum_by (part_cells ds ls hs) cs) (sides_all d l h good (omega (arith, ints, above.0)) (omega (arith, ints, bounds.0)))
    ∙ ap (λ n. count_between l h * n) (parts_all ds ls hs (All-tail IsSoundDim d ds sound) corner.1 bounds.1)

-- those before one have the cells that stand before its part
pub parts_before : (dims : List Dim) (ls hs ts : List ℤ) → All IsSoundDim dims → IsTrue (is_in_domain dims ls) → IsTrue (are_bounds ls hs) → IsTrue (is_between (tile_numbers dims ls) (tile_numbers dims hs) ts)
    → sum_by (part_cells dims ls hs) (take (place_of (tile_numbers dims ls) (tile_numbers dims hs) ts) (coords_between (tile_numbers dims ls) (tile_numbers dims hs))) ≡ cells_before ls hs (cut_low dims ts ls) (cut_high dims ts hs)
parts_before [] [] hs ts sound inside valid t = refl
parts_before [] (l ∷ ls) [] ts sound inside valid t = refl
parts_before [] (l ∷ ls) (h ∷ hs) ts sound inside valid t = refl
parts_before (d ∷ ds) [] hs ts sound inside valid t = cc
parts_before (d ∷ ds) (l ∷ ls) [] ts sound inside valid t = cc
parts_before (d ∷ ds) (l ∷ ls) (h ∷ hs) [] sound inside valid t = cc
parts_before (d ∷ ds) (l ∷ ls) (h ∷ hs) (n ∷ ts) sound inside valid t =
    let a = tile_number d l in
    let b = tile_number d h in
    let bounds = and_parts (int_le l h) (are_bounds ls hs) valid in
    let corner = and_parts (int_le d.low l && int_le l d.high) (is_in_domain ds ls) inside in
    let parts = and_parts (int_le a n && int_le n b) (is_between (tile_numbers ds ls) (tile_numbers ds hs) ts) t in
    let above = within_parts d.low d.high l corner.0 in
    let numbers = within_parts a b n parts.0 in
    let good = All-head IsSoundDim d ds sound in
    let rest = All-tail IsSoundDim d ds sound in
    let cs = coords_between (tile_numbers ds ls) (tile_numbers ds hs) in
    let long = length-coords_between (tile_numbers ds ls) (tile_numbers ds hs) in
    let steps = steps_between a b n parts.0 in
    let i = natural_of (n -ℤ a) in
    let j = place_of (tile_numbers ds ls) (tile_numbers ds hs) ts in
    let under = place_of-below (tile_numbers ds ls) (tile_numbers ds hs) ts parts.1 in
    let at = slice_get-numbers_from a (count_between a b) i steps.0 ∙ ap Some steps.1 in
    ap (λ m. sum_by (part_cells (d ∷ ds) (l ∷ ls) (h ∷ hs)) (take (i * m + j) (coords_between (a ∷ tile_numbers ds ls) (b ∷ tile_numbers ds hs)))) (sym long)
    ∙ some_rows (side_in d l h) (part_cells ds ls hs) (part_cells (d ∷ ds) (l ∷ ls) (h ∷ hs)) (λ x c. refl) cs (numbers_from a (count_between a b)) i j n at (omega (arith, under, long))
    ∙ ap (λ xs. sum_by (side_in d l h) xs * sum_by (part_cells ds ls hs) cs + side_in d l h n * sum_by (part_cells ds ls hs) (take j cs)) (take_numbers a (count_between a b) i (omega (arith, steps.0)))
    ∙ ap (λ m. m * sum_by (part_cells ds ls hs) cs + side_in d l h n * sum_by (part_cells ds ls hs) (take j cs)) (sides_before d l h good (omega (arith, ints, above.0)) (omega (arith, ints, bounds.0)) i n (sym steps.1) (omega (arith, ints, numbers.1)))
    ∙ ap (λ m. natural_of (int_max l (tile_start d n) -ℤ l) * m + side_in d l h n * sum_by (part_cells ds ls hs) (take j cs)) (parts_all ds ls hs rest corner.1 bounds.1)
    ∙ ap (λ m. natural_of (int_max l (tile_start d n) -ℤ l) * cells_between ls hs + side_in d l h n * m) (parts_before ds ls hs ts rest corner.1 bounds.1 parts.1)
