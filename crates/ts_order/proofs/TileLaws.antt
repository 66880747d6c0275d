-- Boxes cut to space tiles.
use Rattle.std.proofs.Common.{◌≡◌, ℕ, zero, suc, ◌+◌, ◌-◌, ◌*◌, ◌/◌, ◌<◌, ◌≤◌, true, ◌&&◌, List, [], ◌∷◌, length, refl, ap, ◌∙◌, arith, mul-le-mul, ℤ, pos, negsuc, ◌+ℤ◌, ◌-ℤ◌, ◌*ℤ◌, ◌≤ℤ◌}
use Rattle.std.specs.Prelude.{IsTrue, int_le}
use Rattle.std.specs.List.{All}
use Rattle.std.specs.Int.{int_div_euclid, int_min, int_max}
use Rattle.std.proofs.Math.Nat.{mul-le-mul_left, mul-le-mul_right}
use Rattle.std.proofs.lemmas.Int.{ints, clamps}
use Rattle.std.proofs.lemmas.Nat.{div-add-mod', div-mul-add, mod_below, le-div}
use Rattle.std.proofs.lemmas.Bool.{and_parts, and_from}
use Rattle.std.proofs.lemmas.List.Elements.{All-head, All-tail}
use borrow.Author.Differences.{up, down}
use Rattle.ts_domain.specs.declared.dims.Dim.{Dim}
use Rattle.ts_domain.specs.Bounds.{are_bounds, is_between, count_between, cells_between}
use Rattle.ts_domain.specs.Dims.{IsSoundDim, tile_number, tile_start, tile_end}
use Rattle.ts_domain.specs.Domains.{is_in_domain}
use Rattle.ts_domain.proofs.Between.{within_parts, within_from, count_between-le}
use Rattle.ts_order.specs.Orders.{tile_numbers}
use Rattle.ts_order.specs.Tiles.{cut_low, cut_high}

-- ---- one dimension, in naturals

-- the quotient is the number of whole steps
quotient_is : (p n e : ℕ) → n * e ≤ p → p < n * e + e → p / e ≡ n
quotient_is p n e h k =
    let parts : p ≡ n * e + (p - n * e) = omega arith in
    ap (λ x. x / e) parts ∙ div-mul-add n e (p - n * e) (omega arith)

quotient_bounds : (p e : ℕ) → 0 < e → (p / e * e ≤ p) × (p < p / e * e + e)
quotient_bounds p e some = let below = mod_below p e some in (omega (arith, div-add-mod' p e), omega (arith, div-add-mod' p e))

-- quotients ascend, and lie no farther apart than the numbers
quotients_ascend : (p q e : ℕ) → 0 < e → p ≤ q → (p / e ≤ q / e) × (q / e + p ≤ p / e + q)
quotients_ascend p q e some h =
    let first = quotient_bounds p e some in
    let second = quotient_bounds q e some in
    let above : p / e ≤ q / e = le-div (p / e) q e some (omega arith) in
    (above, by (q / e - p / e) (omega arith))
  where
    by : (k : ℕ) → q / e ≡ p / e + k → q / e + p ≤ p / e + q
    by zero i = omega arith
    by (suc k) i =
        let first = quotient_bounds p e some in
        let second = quotient_bounds q e some in
        let steps : q / e * e ≡ p / e * e + k * e + e = rw i (omega arith) in
        let one : k * 1 ≤ k * e = mul-le-mul_left k some in
        omega (arith, steps, one)

-- ---- one dimension

-- a number lies in the tile that it has
pub in_own_tile : (d : Dim) (x : ℤ) → IsSoundDim d → d.low ≤ℤ x → (tile_start d (tile_number d x) ≤ℤ x) × (x ≤ℤ tile_end d (tile_number d x))
in_own_tile d x sound h = by (x -ℤ d.low) d.extent refl sound.some
  where
    by : (z e : ℤ) → z ≡ x -ℤ d.low → pos 1 ≤ℤ e → ((d.low +ℤ int_div_euclid z e *ℤ e) ≤ℤ x) × (x ≤ℤ (d.low +ℤ int_div_euclid z e *ℤ e +ℤ (e -ℤ pos 1)))
    by (pos p) (pos e) i some =
        let bounds = quotient_bounds p e (omega (arith, ints)) in
        (omega (arith, ints), omega (arith, ints))
    by (pos p) (negsuc e) i some = absurd (omega (arith, ints))
    by (negsuc p) e i some = absurd (omega (arith, ints))

-- and in no other
pub tile_number-within : (d : Dim) (x tile : ℤ) → IsSoundDim d → d.low ≤ℤ x → tile_start d tile ≤ℤ x → x ≤ℤ tile_end d tile → tile_number d x ≡ tile
tile_number-within d x tile sound h from to = by (x -ℤ d.low) d.extent tile refl sound.some from to
  where
    by : (z e t : ℤ) → z ≡ x -ℤ d.low → pos 1 ≤ℤ e → (d.low +ℤ t *ℤ e) ≤ℤ x → x ≤ℤ (d.low +ℤ t *ℤ e +ℤ (e -ℤ pos 1)) → int_div_euclid z e ≡ t
    by (pos p) (pos e) (pos t) i some from to = ap pos (quotient_is p t e (omega (arith, ints)) (omega (arith, ints)))
    by (pos p) (pos e) (negsuc t) i some from to =
        let below : 1 * e ≤ suc t * e = mul-le-mul_right e (omega arith) in
        absurd (omega (arith, ints, below))
    by (pos p) (negsuc e) t i some from to = absurd (omega (arith, ints))
    by (negsuc p) e t i some from to = absurd (omega (arith, ints))

-- the tiles of ascending numbers ascend, and lie no farther apart than the numbers
pub tile_number-ascends : (d : Dim) (x y : ℤ) → IsSoundDim d → d.low ≤ℤ x → x ≤ℤ y → (tile_number d x ≤ℤ tile_number d y) × ((tile_number d y -ℤ tile_number d x) ≤ℤ (y -ℤ x))
tile_number-ascends d x y sound h k = by (x -ℤ d.low) (y -ℤ d.low) d.extent refl refl sound.some
  where
    by : (z w e : ℤ) → z ≡ x -ℤ d.low → w ≡ y -ℤ d.low → pos 1 ≤ℤ e → (int_div_euclid z e ≤ℤ int_div_euclid w e) × ((int_div_euclid w e -ℤ int_div_euclid z e) ≤ℤ (y -ℤ x))
    by (pos p) (pos q) (pos e) i j some =
        let ascend = quotients_ascend p q e (omega (arith, ints)) (omega (arith, ints)) in
        (omega (arith, ints), omega (arith, ints))
    by (pos p) (pos q) (negsuc e) i j some = absurd (omega (arith, ints))
    by (pos p) (negsuc q) e i j some = absurd (omega (arith, ints))
    by (negsuc p) w e i j some = absurd (omega (arith, ints))

-- a tile between those of two numbers reaches between the two
pub tile_between : (d : Dim) (l h tile : ℤ) → IsSoundDim d → d.low ≤ℤ l → l ≤ℤ h → tile_number d l ≤ℤ tile → tile ≤ℤ tile_number d h → (l ≤ℤ tile_end d tile) × (tile_start d tile ≤ℤ h)
tile_between d l h tile sound a b from to = by (l -ℤ d.low) (h -ℤ d.low) d.extent tile refl refl sound.some from to
  where
    by : (z w e t : ℤ) → z ≡ l -ℤ d.low → w ≡ h -ℤ d.low → pos 1 ≤ℤ e → int_div_euclid z e ≤ℤ t → t ≤ℤ int_div_euclid w e → (l ≤ℤ (d.low +ℤ t *ℤ e +ℤ (e -ℤ pos 1))) × ((d.low +ℤ t *ℤ e) ≤ℤ h)
    by (pos p) (pos q) (pos e) (pos t) i j some from to =
        let first = quotient_bounds p e (omega (arith, ints)) in
        let second = quotient_bounds q e (omega (arith, ints)) in
        let above : p / e ≤ t = omega (arith, ints) in
        let below : t ≤ q / e = omega (arith, ints) in
        let from_steps : p / e * e ≤ t * e = mul-le-mul_right e above in
        let to_steps : t * e ≤ q / e * e = mul-le-mul_right e below in
        (omega (arith, ints), omega (arith, ints))
    by (pos p) (pos q) (pos e) (negsuc t) i j some from to = absurd (omega (arith, ints))
    by (pos p) (pos q) (negsuc e) t i j some from to = absurd (omega (arith, ints))
    by (pos p) (negsuc q) e t i j some from to = absurd (omega (arith, ints))
    by (negsuc p) w e t i j some from to = absurd (omega (arith, ints))

-- ---- all dimensions

-- what lies in a cut box lies in the box, and in the tile
pub is_between-cut : (dims : List Dim) (ts ls hs xs : List ℤ) → All IsSoundDim dims → IsTrue (is_in_domain dims ls) → length hs ≡ length dims → length ts ≡ length dims
    → IsTrue (is_between (cut_low dims ts ls) (cut_high dims ts hs) xs) → IsTrue (is_between ls hs xs) × (tile_numbers dims xs ≡ ts)
is_between-cut [] [] [] [] xs sound inside e f t = (t, refl)
is_between-cut [] [] [] (h ∷ hs) xs sound inside e f t = cc
is_between-cut [] [] (l ∷ ls) hs xs sound inside e f t = cc
is_between-cut [] (x ∷ ts) ls hs xs sound inside e f t = cc
is_between-cut (d ∷ ds) [] ls hs xs sound inside e f t = cc
is_between-cut (d ∷ ds) (n ∷ ts) [] hs xs sound inside e f t = cc
is_between-cut (d ∷ ds) (n ∷ ts) (l ∷ ls) [] xs sound inside e f t = cc
is_between-cut (d ∷ ds) (n ∷ ts) (l ∷ ls) (h ∷ hs) [] sound inside e f t = cc
is_between-cut (d ∷ ds) (n ∷ ts) (l ∷ ls) (h ∷ hs) (x ∷ xs) sound inside e f t =
    let parts = and_parts _ (is_between (cut_low ds ts ls) (cut_high ds ts hs) xs) t in
    let here = within_parts (int_max l (tile_start d n)) (int_min h (tile_end d n)) x parts.0 in
    let corner = and_parts (int_le d.low l && int_le l d.high) (is_in_domain ds ls) inside in
    let above = within_parts d.low d.high l corner.0 in
    let rest = is_between-cut ds ts ls hs xs (All-tail IsSoundDim d ds sound) corner.1 (cc) (cc) parts.1 in
    let number = tile_number-within d x n (All-head IsSoundDim d ds sound) (omega (arith, ints, clamps)) (omega (arith, ints, clamps)) (omega (arith, ints, clamps)) in
    (and_from (int_le l x && int_le x h) (is_between ls hs xs) (within_from l h x (omega (arith, ints, clamps)) (omega (arith, ints, clamps))) rest.0, rw (number, rest.1) refl)

-- what lies in the box lies in the box cut to its own tile
pub cut-is_between : (dims : List Dim) (ls hs xs : List ℤ) → All IsSoundDim dims → IsTrue (is_in_domain dims ls) → IsTrue (is_between ls hs xs)
    → IsTrue (is_between (cut_low dims (tile_numbers dims xs) ls) (cut_high dims (tile_numbers dims xs) hs) xs)
cut-is_between [] [] [] [] sound inside t = refl
cut-is_between [] [] [] (x ∷ xs) sound inside t = cc
cut-is_between [] [] (h ∷ hs) xs sound inside t = cc
cut-is_between [] (l ∷ ls) hs xs sound inside t = cc
cut-is_between (d ∷ ds) [] hs xs sound inside t = cc
cut-is_between (d ∷ ds) (l ∷ ls) [] xs sound inside t = cc
cut-is_between (d ∷ ds) (l ∷ ls) (h ∷ hs) [] sound inside t = cc
cut-is_between (d ∷ ds) (l ∷ ls) (h ∷ hs) (x ∷ xs) sound inside t =
    let parts = and_parts (int_le l x && int_le x h) (is_between ls hs xs) t in
    let here = within_parts l h x parts.0 in
    let corner = and_parts (int_le d.low l && int_le l d.high) (is_in_domain ds ls) inside in
    let above = within_parts d.low d.high l corner.0 in
    let own = in_own_tile d x (All-head IsSoundDim d ds sound) (omega (arith, ints)) in
    let rest = cut-is_between ds ls hs xs (All-tail IsSoundDim d ds sound) corner.1 parts.1 in
    and_from _ _ (within_from (int_max l (tile_start d (tile_number d x))) (int_min h (tile_end d (tile_number d x))) x (omega (arith, ints, clamps)) (omega (arith, ints, clamps))) rest

-- the box cut to a tile that meets it is a box
pub are_bounds-cut : (dims : List Dim) (ts ls hs : List ℤ) → All IsSoundDim dims → IsTrue (is_in_domain dims ls) → IsTrue (are_bounds ls hs)
    → IsTrue (is_between (tile_numbers dims ls) (tile_numbers dims hs) ts) → IsTrue (are_bounds (cut_low dims ts ls) (cut_high dims ts hs))
are_bounds-cut [] ts ls hs sound inside valid t = refl
are_bounds-cut (d ∷ ds) ts [] hs sound inside valid t = cc
are_bounds-cut (d ∷ ds) ts (l ∷ ls) [] sound inside valid t = cc
are_bounds-cut (d ∷ ds) [] (l ∷ ls) (h ∷ hs) sound inside valid t = cc
are_bounds-cut (d ∷ ds) (n ∷ ts) (l ∷ ls) (h ∷ hs) sound inside valid t =
    let parts = and_parts (int_le (tile_number d l) n && int_le n (tile_number d h)) _ t in
    let numbers = within_parts (tile_number d l) (tile_number d h) n parts.0 in
    let bounds = and_parts (int_le l h) (are_bounds ls hs) valid in
    let corner = and_parts (int_le d.low l && int_le l d.high) (is_in_domain ds ls) inside in
    let above = within_parts d.low d.high l corner.0 in
    let good = All-head IsSoundDim d ds sound in
    let reach = tile_between d l h n good (omega (arith, ints)) (omega (arith, ints, bounds.0)) (omega (arith, ints)) (omega (arith, ints)) in
    let wide = good.some in
    let le : up (int_max l (tile_start d n)) + down (int_min h (tile_end d n)) ≤ up (int_min h (tile_end d n)) + down (int_max l (tile_start d n)) = omega (arith, ints, clamps, bounds.0) in
    let here : int_le (int_max l (tile_start d n)) (int_min h (tile_end d n)) ≡ true = grind (arith, ints) in
    and_from _ _ here (are_bounds-cut ds ts ls hs (All-tail IsSoundDim d ds sound) corner.1 bounds.1 parts.1)

-- the tile of what lies in the box lies between those of its corners
pub is_between-tile_numbers : (dims : List Dim) (ls hs xs : List ℤ) → All IsSoundDim dims → IsTrue (is_in_domain dims ls) → IsTrue (is_between ls hs xs)
    → IsTrue (is_between (tile_numbers dims ls) (tile_numbers dims hs) (tile_numbers dims xs))
is_between-tile_numbers [] ls hs xs sound inside t = refl
is_between-tile_numbers (d ∷ ds) [] hs xs sound inside t = cc
is_between-tile_numbers (d ∷ ds) (l ∷ ls) [] xs sound inside t = cc
is_between-tile_numbers (d ∷ ds) (l ∷ ls) (h ∷ hs) [] sound inside t = cc
is_between-tile_numbers (d ∷ ds) (l ∷ ls) (h ∷ hs) (x ∷ xs) sound inside t =
    let parts = and_parts (int_le l x && int_le x h) (is_between ls hs xs) t in
    let here = within_parts l h x parts.0 in
    let corner = and_parts (int_le d.low l && int_le l d.high) (is_in_domain ds ls) inside in
    let above = within_parts d.low d.high l corner.0 in
    let good = All-head IsSoundDim d ds sound in
    let first = (tile_number-ascends d l x good (omega (arith, ints)) (omega (arith, ints))).0 in
    let second = (tile_number-ascends d x h good (omega (arith, ints)) (omega (arith, ints))).0 in
    and_from _ _ (within_from (tile_number d l) (tile_number d h) (tile_number d x) (omega (arith, ints)) (omega (arith, ints)))
    (is_between-tile_numbers ds ls hs xs (All-tail IsSoundDim d ds sound) corner.1 parts.1)

-- a box meets no more tiles than it has cells
pub cells_between-tile_numbers : (dims : List Dim) (ls hs : List ℤ) → All IsSoundDim dims → IsTrue (is_in_domain dims ls) → IsTrue (are_bounds ls hs)
    → cells_between (tile_numbers dims ls) (tile_numbers dims hs) ≤ cells_between ls hs
cells_between-tile_numbers [] [] hs sound inside valid = omega arith
cells_between-tile_numbers [] (l ∷ ls) hs sound inside valid = cc
cells_between-tile_numbers (d ∷ ds) [] hs sound inside valid = cc
cells_between-tile_numbers (d ∷ ds) (l ∷ ls) [] sound inside valid = cc
cells_between-tile_numbers (d ∷ ds) (l ∷ ls) (h ∷ hs) sound inside valid =
    let bounds = and_parts (int_le l h) (are_bounds ls hs) valid in
    let corner = and_parts (int_le d.low l && int_le l d.high) (is_in_domain ds ls) inside in
    let above = within_parts d.low d.high l corner.0 in
    let ordered : up l + down h ≤ up h + down l = omega (arith, ints, bounds.0) in
    let ascend = tile_number-ascends d l h (All-head IsSoundDim d ds sound) (omega (arith, ints)) (omega (arith, ints)) in
    let first = count_between-le (tile_number d l) (tile_number d h) (omega (arith, ints)) in
    let second = count_between-le l h ordered in
    let fewer : count_between (tile_number d l) (tile_number d h) ≤ count_between l h = omega (arith, ints, first, second) in
    mul-le-mul fewer (cells_between-tile_numbers ds ls hs (All-tail IsSoundDim d ds sound) corner.1 bounds.1)
