-- The tiles of a box that meet another are those between two tiles.
use Rattle.std.proofs.Common.{◌≡◌, ℕ, zero, suc, ◌+◌, ◌≤◌, Bool, true, false, ◌&&◌, cond, ℤ, pos, negsuc, ◌+ℤ◌, ◌-ℤ◌, ◌*ℤ◌, ◌≤ℤ◌, ◌<ℤ◌, List, [], ◌∷◌, ◌++◌, length, map, refl, sym, ap, ◌∙◌, arith}
use Rattle.std.specs.Prelude.{IsTrue, int_le, filter}
use Rattle.std.specs.Int.{int_min, int_max}
use Rattle.std.specs.List.{All, flat_map}
use Rattle.std.proofs.lemmas.Int.{ints, clamps}
use Rattle.std.proofs.lemmas.Bool.{and_parts, and_from}
use Rattle.std.proofs.lemmas.List.Elements.{All-head, All-tail, filter-append}
use Rattle.ts_domain.specs.declared.dims.Dim.{Dim}
use Rattle.ts_domain.specs.Bounds.{are_bounds, is_between, natural_of, count_between, numbers_from, coords_between, least_corner, greatest_corner, do_meet}
use Rattle.ts_domain.specs.Dims.{IsSoundDim, tile_number, tile_start, tile_end}
use Rattle.ts_domain.specs.Domains.{is_in_domain}
use Rattle.ts_domain.proofs.Between.{within_parts, within_from, count_between-le}
use Rattle.ts_order.specs.Orders.{tile_numbers}
use Rattle.ts_order.specs.Tiles.{cut_low, cut_high}
use Rattle.ts_order.proofs.TileLaws.{tile_number-within, tile_between, tile_number-ascends}
use Rattle.ts_order.proofs.TileSteps.{tile_number-positive}

-- ---- numbers between two bounds

-- a number lies between two bounds
abbrev is_within : ℤ → ℤ → ℤ → Bool
is_within m g x = int_le m x && int_le x g

-- of numbers behind a bound none lies before it
all_behind : (m g x : ℤ) (n : ℕ) → g <ℤ x → filter (is_within m g) (numbers_from x n) ≡ []
all_behind m g x zero past = refl
all_behind m g x (suc n) past =
    let out : is_within m g x ≡ false = outside m g x past in
    ap (λ b. cond b (x ∷ filter (is_within m g) (numbers_from (x +ℤ pos 1) n)) (filter (is_within m g) (numbers_from (x +ℤ pos 1) n))) out ∙ all_behind m g (x +ℤ pos 1) n (omega (arith, ints, past))
  where
    outside : (m g x : ℤ) → g <ℤ x → (int_le m x && int_le x g) ≡ false
    outside m g x past = go (int_le m x) (int_le x g) refl
      where
        go : (a b : Bool) → int_le x g ≡ b → (a && b) ≡ false
        go false b is = refl
        go true false is = refl
        go true true is = absurd (omega (arith, ints, past, is))

-- those from the low bound on
from_low : (m g : ℤ) (x : ℤ) (n k : ℕ) → m ≤ℤ x → g +ℤ pos 1 ≡ x +ℤ pos k → k ≤ n → filter (is_within m g) (numbers_from x n) ≡ numbers_from x k
from_low m g x n zero above end few = all_behind m g x n (omega (arith, ints, end))
from_low m g x zero (suc k) above end few = absurd (omega (arith, few))
from_low m g x (suc n) (suc k) above end few =
    let yes : (int_le m x && int_le x g) ≡ true = within_from m g x (omega (arith, ints, above)) (omega (arith, ints, end)) in
    ap (λ b. cond b (x ∷ filter (is_within m g) (numbers_from (x +ℤ pos 1) n)) (filter (is_within m g) (numbers_from (x +ℤ pos 1) n))) yes
    ∙ ap (λ ys. x ∷ ys) (from_low m g (x +ℤ pos 1) n k (omega (arith, ints, above)) (omega (arith, ints, end)) (omega (arith, few)))

-- so of those from before it on
from_before : (m g : ℤ) (x : ℤ) (n j k : ℕ) → m ≡ x +ℤ pos j → g +ℤ pos 1 ≡ m +ℤ pos k → j + k ≤ n → filter (is_within m g) (numbers_from x n) ≡ numbers_from m k
from_before m g x n zero k start end few =
    let same : x ≡ m = omega (arith, ints, start) in
    ap (λ y. filter (is_within m g) (numbers_from y n)) same ∙ from_low m g m n k (omega (arith, ints)) end (omega (arith, few))
from_before m g x zero (suc j) k start end few = absurd (omega (arith, few))
from_before m g x (suc n) (suc j) k start end few =
    let out : (int_le m x && int_le x g) ≡ false = go (int_le m x) (int_le x g) refl in
    ap (λ b. cond b (x ∷ filter (is_within m g) (numbers_from (x +ℤ pos 1) n)) (filter (is_within m g) (numbers_from (x +ℤ pos 1) n))) out
    ∙ from_before m g (x +ℤ pos 1) n j k (omega (arith, ints, start)) end (omega (arith, few))
  where
    go : (a b : Bool) → int_le m x ≡ a → (a && b) ≡ false
    go false b is = refl
    go true b is = absurd (omega (arith, ints, start, is))

-- the numbers between two bounds are those among the numbers between two outer bounds
numbers_within : (l h m g : ℤ) → l ≤ℤ m → m ≤ℤ g → g ≤ℤ h → filter (is_within m g) (numbers_from l (count_between l h)) ≡ numbers_from m (count_between m g)
numbers_within l h m g low mid high =
    let outer = count_between-le l h (omega (arith, ints, low, mid, high)) in
    let inner = count_between-le m g (omega (arith, ints, mid)) in
    let before : m ≡ l +ℤ pos (natural_of (m -ℤ l)) = offset (m -ℤ l) refl in
    from_before m g l (count_between l h) (natural_of (m -ℤ l)) (count_between m g) before (omega (arith, ints, inner)) (omega (arith, ints, outer, inner, before, high))
  where
    offset : (z : ℤ) → z ≡ m -ℤ l → m ≡ l +ℤ pos (natural_of z)
    offset (pos n) e = omega (arith, ints, e)
    offset (negsuc n) e = absurd (omega (arith, ints, e, low))

-- ---- all dimensions

-- a row of a table, whose first number is the row's
abbrev row : ℤ → List (List ℤ) → List (List ℤ)
row x cs = map (λ c. x ∷ c) cs

filter_row : (m g x : ℤ) (ms gs : List ℤ) (cs : List (List ℤ)) → filter (is_between (m ∷ ms) (g ∷ gs)) (row x cs) ≡ cond (is_within m g x) (row x (filter (is_between ms gs) cs)) []
filter_row m g x ms gs [] = none (is_within m g x)
  where
    none : (b : Bool) → [] ≡ cond b (row x []) []
    none true = refl
    none false = refl
filter_row m g x ms gs (c ∷ cs) = step (is_within m g x) (is_between ms gs c) (filter_row m g x ms gs cs)
  where
    step : (a b : Bool) → filter (is_between (m ∷ ms) (g ∷ gs)) (row x cs) ≡ cond a (row x (filter (is_between ms gs) cs)) []
        → cond (a && b) ((x ∷ c) ∷ filter (is_between (m ∷ ms) (g ∷ gs)) (row x cs)) (filter (is_between (m ∷ ms) (g ∷ gs)) (row x cs)) ≡ cond a (row x (cond b (c ∷ filter (is_between ms gs) cs) (filter (is_between ms gs) cs))) []
    step true true rest = ap (λ (r : List (List ℤ)). (x ∷ c) ∷ r) rest
    step true false rest = rest
    step false b rest = rest

filter_rows : (m g : ℤ) (ms gs xs : List ℤ) (cs : List (List ℤ))
    → filter (is_between (m ∷ ms) (g ∷ gs)) (flat_map (λ x. row x cs) xs) ≡ flat_map (λ x. row x (filter (is_between ms gs) cs)) (filter (is_within m g) xs)
filter_rows m g ms gs [] cs = refl
filter_rows m g ms gs (x ∷ xs) cs =
    filter-append (is_between (m ∷ ms) (g ∷ gs)) (row x cs) (flat_map (λ y. row y cs) xs)
    ∙ ap (λ r. r ++ filter (is_between (m ∷ ms) (g ∷ gs)) (flat_map (λ y. row y cs) xs)) (filter_row m g x ms gs cs)
    ∙ ap (λ r. cond (is_within m g x) (row x (filter (is_between ms gs) cs)) [] ++ r) (filter_rows m g ms gs xs cs)
    ∙ go (is_within m g x)
  where
    go : (b : Bool)
        → cond b (row x (filter (is_between ms gs) cs)) [] ++ flat_map (λ y. row y (filter (is_between ms gs) cs)) (filter (is_within m g) xs)
        ≡ flat_map (λ y. row y (filter (is_between ms gs) cs)) (cond b (x ∷ filter (is_within m g) xs) (filter (is_within m g) xs))
    go true = refl
    go false = refl

-- the coordinates between inner bounds are those among the coordinates between the outer ones, in their order
pub coords_within : (ls hs ms gs : List ℤ) → IsTrue (is_between ls hs ms) → IsTrue (is_between ls hs gs) → IsTrue (are_bounds ms gs) → filter (is_between ms gs) (coords_between ls hs) ≡ coords_between ms gs
coords_within [] [] [] [] a b c = refl
coords_within [] [] [] (g ∷ gs) a b c = cc
coords_within [] [] (m ∷ ms) gs a b c = cc
coords_within [] (h ∷ hs) ms gs a b c = cc
coords_within (l ∷ ls) [] ms gs a b c = cc
coords_within (l ∷ ls) (h ∷ hs) [] gs a b c = cc
coords_within (l ∷ ls) (h ∷ hs) (m ∷ ms) [] a b c = cc
coords_within (l ∷ ls) (h ∷ hs) (m ∷ ms) (g ∷ gs) a b c =
    let first = and_parts (int_le l m && int_le m h) (is_between ls hs ms) a in
    let second = and_parts (int_le l g && int_le g h) (is_between ls hs gs) b in
    let third = and_parts (int_le m g) (are_bounds ms gs) c in
    let one = within_parts l h m first.0 in
    let two = within_parts l h g second.0 in
    filter_rows m g ms gs (numbers_from l (count_between l h)) (coords_between ls hs)
    ∙ ap (λ xs. flat_map (λ y. row y (filter (is_between ms gs) (coords_between ls hs))) xs) (numbers_within l h m g (omega (arith, ints, one.0)) (omega (arith, ints, third.0)) (omega (arith, ints, two.1)))
    ∙ ap (λ cs. flat_map (λ y. row y cs) (numbers_from m (count_between m g))) (coords_within ls hs ms gs first.1 second.1 third.1)

-- ---- which tiles meet a box

-- a comparison that holds
pub le : (a b : ℤ) → a ≤ℤ b → int_le a b ≡ true
le a b less = grind (arith, ints)

-- a tile starts behind the first
start_above : (low t e : ℤ) → pos 0 ≤ℤ t → pos 1 ≤ℤ e → low ≤ℤ (low +ℤ t *ℤ e)
start_above low (pos n) (pos e) some wide = omega (arith, ints)
start_above low (pos n) (negsuc e) some wide = absurd (omega (arith, ints, wide))
start_above low (negsuc n) e some wide = absurd (omega (arith, ints, some))

pub same_test : (a b : Bool) → (a ≡ true → b ≡ true) → (b ≡ true → a ≡ true) → a ≡ b
same_test true b to back = sym (to refl)
same_test false true to back = back refl
same_test false false to back = refl

-- along a dimension
meets_side : (d : Dim) (l h k g t : ℤ) → IsSoundDim d → d.low ≤ℤ l → l ≤ℤ h → l ≤ℤ g → k ≤ℤ h → k ≤ℤ g → tile_number d l ≤ℤ t → t ≤ℤ tile_number d h
    → (int_le (int_max l (tile_start d t)) g && int_le k (int_min h (tile_end d t))) ≡ (int_le (tile_number d (int_max l k)) t && int_le t (tile_number d (int_min h g)))
meets_side d l h k g t sound above ordered first second third from to = same_test _ _ there back
  where
    there : (int_le (int_max l (tile_start d t)) g && int_le k (int_min h (tile_end d t))) ≡ true → (int_le (tile_number d (int_max l k)) t && int_le t (tile_number d (int_min h g))) ≡ true
    there e =
        let parts = and_parts (int_le (int_max l (tile_start d t)) g) (int_le k (int_min h (tile_end d t))) e in
        let reach = tile_between d l h t sound above ordered from to in
        let some : pos 0 ≤ℤ t = omega (arith, ints, tile_number-positive d l sound above, from) in
        let start : d.low ≤ℤ tile_start d t = start_above d.low t d.extent some sound.some in
        let own_end : tile_number d (tile_end d t) ≡ t = tile_number-within d (tile_end d t) t sound (omega (arith, ints, start, sound.some)) (omega (arith, ints, sound.some)) (omega (arith, ints)) in
        let own_start : tile_number d (tile_start d t) ≡ t = tile_number-within d (tile_start d t) t sound start (omega (arith, ints)) (omega (arith, ints, sound.some)) in
        let low_under : int_max l k ≤ℤ tile_end d t = omega (arith, ints, clamps, reach.0, parts.1) in
        let high_over : tile_start d t ≤ℤ int_min h g = omega (arith, ints, clamps, reach.1, parts.0) in
        let one = (tile_number-ascends d (int_max l k) (tile_end d t) sound (omega (arith, ints, clamps, above)) low_under).0 in
        let two = (tile_number-ascends d (tile_start d t) (int_min h g) sound start high_over).0 in
        within_from (tile_number d (int_max l k)) (tile_number d (int_min h g)) t (omega (arith, ints, one, own_end)) (omega (arith, ints, two, own_start))

    back : (int_le (tile_number d (int_max l k)) t && int_le t (tile_number d (int_min h g))) ≡ true → (int_le (int_max l (tile_start d t)) g && int_le k (int_min h (tile_end d t))) ≡ true
    back e =
        let parts = within_parts (tile_number d (int_max l k)) (tile_number d (int_min h g)) t e in
        let reach = tile_between d (int_max l k) (int_min h g) t sound (omega (arith, ints, clamps, above)) (omega (arith, ints, clamps, ordered, first, second, third)) (omega (arith, ints, parts.0)) (omega (arith, ints, parts.1)) in
        and_from (int_le (int_max l (tile_start d t)) g) (int_le k (int_min h (tile_end d t)))
        (le (int_max l (tile_start d t)) g (omega (arith, ints, clamps, reach.1, first))) (le k (int_min h (tile_end d t)) (omega (arith, ints, clamps, reach.0, second)))

-- a tile of a box meets another box where it lies between the tiles of the corners of what both have
pub meets_range : (dims : List Dim) (ls hs ks gs ts : List ℤ) → All IsSoundDim dims → IsTrue (is_in_domain dims ls) → IsTrue (are_bounds ls hs) → IsTrue (are_bounds ks gs) → length ks ≡ length ls → IsTrue (do_meet ls hs ks gs)
    → IsTrue (is_between (tile_numbers dims ls) (tile_numbers dims hs) ts)
    → do_meet (cut_low dims ts ls) (cut_high dims ts hs) ks gs ≡ is_between (tile_numbers dims (greatest_corner ls ks)) (tile_numbers dims (least_corner hs gs)) ts
meets_range [] [] [] [] [] [] sound inside valid other same meet t = refl
meets_range [] [] [] [] [] (n ∷ ts) sound inside valid other same meet t = cc
meets_range [] [] [] [] (g ∷ gs) ts sound inside valid other same meet t = cc
meets_range [] [] [] (k ∷ ks) gs ts sound inside valid other same meet t = absurd (omega (arith, same))
meets_range [] [] (h ∷ hs) ks gs ts sound inside valid other same meet t = cc
meets_range [] (l ∷ ls) hs ks gs ts sound inside valid other same meet t = cc
meets_range (d ∷ ds) [] hs ks gs ts sound inside valid other same meet t = cc
meets_range (d ∷ ds) (l ∷ ls) [] ks gs ts sound inside valid other same meet t = cc
meets_range (d ∷ ds) (l ∷ ls) (h ∷ hs) [] gs ts sound inside valid other same meet t = absurd (omega (arith, same))
meets_range (d ∷ ds) (l ∷ ls) (h ∷ hs) (k ∷ ks) [] ts sound inside valid other same meet t = cc
meets_range (d ∷ ds) (l ∷ ls) (h ∷ hs) (k ∷ ks) (g ∷ gs) [] sound inside valid other same meet t = cc
meets_range (d ∷ ds) (l ∷ ls) (h ∷ hs) (k ∷ ks) (g ∷ gs) (n ∷ ts) sound inside valid other same meet t =
    let bounds = and_parts (int_le l h) (are_bounds ls hs) valid in
    let others = and_parts (int_le k g) (are_bounds ks gs) other in
    let corner = and_parts (int_le d.low l && int_le l d.high) (is_in_domain ds ls) inside in
    let both = and_parts (int_le l g && int_le k h) (do_meet ls hs ks gs) meet in
    let cross = and_parts (int_le l g) (int_le k h) both.0 in
    let parts = and_parts (int_le (tile_number d l) n && int_le n (tile_number d h)) (is_between (tile_numbers ds ls) (tile_numbers ds hs) ts) t in
    let above = within_parts d.low d.high l corner.0 in
    let numbers = within_parts (tile_number d l) (tile_number d h) n parts.0 in
    let here = meets_side d l h k g n (All-head IsSoundDim d ds sound) (omega (arith, ints, above.0)) (omega (arith, ints, bounds.0)) (omega (arith, ints, cross.0)) (omega (arith, ints, cross.1)) (omega (arith, ints, others.0)) (omega (arith, ints, numbers.0)) (omega (arith, ints, numbers.1)) in
    let rest = meets_range ds ls hs ks gs ts (All-tail IsSoundDim d ds sound) corner.1 bounds.1 others.1 (omega (arith, same)) both.1 parts.1 in
    λ i. here i && rest i
