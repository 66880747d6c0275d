-- What it means that numbers and coordinates lie between bounds, and how many do.
use Rattle.std.proofs.Common.{◌≡◌, ℕ, zero, suc, ◌+◌, ◌*◌, ◌<◌, ◌≤◌, ◌≢◌, min, Bool, true, false, ◌&&◌, List, [], ◌∷◌, map, length, length-append, refl, ap, ◌∙◌, ⊎_elim, arith, mul-le-mul, ℤ, pos, negsuc, ◌+ℤ◌, ◌-ℤ◌}
use Rattle.std.specs.Prelude.{IsTrue, int_le, unsigned_abs}
use Rattle.std.specs.List.{flat_map}
use Rattle.std.proofs.lemmas.List.{length-map}
use Rattle.std.specs.Int.{int_min, int_max}
use Rattle.std.proofs.lemmas.Int.{ints, clamps}
use Rattle.std.proofs.lemmas.Bool.{and_parts, and_from, cases_lt}
use borrow.Author.Differences.{up, down}
use Rattle.ts_domain.specs.Bounds.{are_bounds, is_between, natural_of, count_between, cells_between, numbers_from, coords_between, least_corner, greatest_corner, do_meet}

-- ---- one dimension

-- from a lower number to a higher one there is one more than their distance
pub count_between-le : (x y : ℤ) → up x + down y ≤ up y + down x → count_between x y + (up x + down y) ≡ up y + down x + 1
count_between-le x y h = by (y -ℤ x +ℤ pos 1) refl
  where
    by : (z : ℤ) → z ≡ y -ℤ x +ℤ pos 1 → natural_of z + (up x + down y) ≡ up y + down x + 1
    by (pos n) e = omega (arith, ints, e)
    by (negsuc n) e = absurd (omega (arith, ints, e))

-- the distance of the two, as the code computes it
pub unsigned_abs-distance : (x y : ℤ) → up x + down y ≤ up y + down x → unsigned_abs (y -ℤ x) + 1 ≡ count_between x y
unsigned_abs-distance x y h = by (y -ℤ x) refl
  where
    by : (z : ℤ) → z ≡ y -ℤ x → unsigned_abs z + 1 ≡ count_between x y
    by (pos n) e = omega (arith, ints, e, count_between-le x y h)
    by (negsuc n) e = absurd (omega (arith, ints, e))

-- the parts of a test that a number lies between two others
pub within_parts : (l h x : ℤ) → IsTrue (int_le l x && int_le x h) → (up l + down x ≤ up x + down l) × (up x + down h ≤ up h + down x)
within_parts l h x t = let parts = and_parts (int_le l x) (int_le x h) t in (omega (arith, ints, parts.0), omega (arith, ints, parts.1))

pub within_from : (l h x : ℤ) → up l + down x ≤ up x + down l → up x + down h ≤ up h + down x → IsTrue (int_le l x && int_le x h)
within_from l h x a b = and_from (int_le l x) (int_le x h) (le l x a) (le x h b)
  where
    le : (a b : ℤ) → up a + down b ≤ up b + down a → int_le a b ≡ true
    le a b k = grind (arith, ints)

-- ---- all dimensions

pub are_bounds-cons : (l h : ℤ) (ls hs : List ℤ) → IsTrue (are_bounds (l ∷ ls) (h ∷ hs)) → (up l + down h ≤ up h + down l) × IsTrue (are_bounds ls hs)
are_bounds-cons l h ls hs t = let parts = and_parts (int_le l h) (are_bounds ls hs) t in (omega (arith, ints, parts.0), parts.1)

pub length-are_bounds : (ls hs : List ℤ) → IsTrue (are_bounds ls hs) → length hs ≡ length ls
length-are_bounds [] [] t = refl
length-are_bounds [] (h ∷ hs) t = cc
length-are_bounds (l ∷ ls) [] t = cc
length-are_bounds (l ∷ ls) (h ∷ hs) t = ap suc (length-are_bounds ls hs (are_bounds-cons l h ls hs t).1)

-- there are as many coordinates as bounds
pub length-is_between : (ls hs xs : List ℤ) → IsTrue (is_between ls hs xs) → (length ls ≡ length xs) × (length hs ≡ length xs)
length-is_between [] [] [] t = (refl, refl)
length-is_between [] [] (x ∷ xs) t = cc
length-is_between [] (h ∷ hs) xs t = cc
length-is_between (l ∷ ls) [] xs t = cc
length-is_between (l ∷ ls) (h ∷ hs) [] t = cc
length-is_between (l ∷ ls) (h ∷ hs) (x ∷ xs) t =
    let rest = length-is_between ls hs xs (and_parts (int_le l x && int_le x h) (is_between ls hs xs) t).1 in
    (ap suc rest.0, ap suc rest.1)

-- nothing lies between bounds of another number
pub uneven_between : (ls hs xs : List ℤ) → (length hs ≡ length ls → length xs ≡ length ls → ⊥) → is_between ls hs xs ≡ false
uneven_between ls hs xs uneven = by (is_between ls hs xs) refl
  where
    by : (b : Bool) → is_between ls hs xs ≡ b → b ≡ false
    by true is = let same = length-is_between ls hs xs is in absurd (uneven (omega arith) (omega arith))
    by false is = refl

pub uneven_highs : (ls hs xs : List ℤ) → length hs ≢ length ls → is_between ls hs xs ≡ false
uneven_highs ls hs xs h = uneven_between ls hs xs (λ same _. h same)

pub uneven_coords : (ls hs xs : List ℤ) → length xs ≢ length ls → is_between ls hs xs ≡ false
uneven_coords ls hs xs h = uneven_between ls hs xs (λ _ same. h same)

pub ruleset uneven_bounds = (uneven_highs, uneven_coords)

-- bounds that something lies between are bounds
pub are_bounds-is_between : (ls hs xs : List ℤ) → IsTrue (is_between ls hs xs) → IsTrue (are_bounds ls hs)
are_bounds-is_between [] [] [] t = refl
are_bounds-is_between [] [] (x ∷ xs) t = cc
are_bounds-is_between [] (h ∷ hs) xs t = cc
are_bounds-is_between (l ∷ ls) [] xs t = cc
are_bounds-is_between (l ∷ ls) (h ∷ hs) [] t = cc
are_bounds-is_between (l ∷ ls) (h ∷ hs) (x ∷ xs) t =
    let parts = and_parts (int_le l x && int_le x h) (is_between ls hs xs) t in
    let within = within_parts l h x parts.0 in
    let le : int_le l h ≡ true = grind (arith, ints) in
    and_from (int_le l h) (are_bounds ls hs) le (are_bounds-is_between ls hs xs parts.1)

-- the low corner lies between the corners
pub is_between-low : (ls hs : List ℤ) → IsTrue (are_bounds ls hs) → IsTrue (is_between ls hs ls)
is_between-low [] [] t = refl
is_between-low [] (h ∷ hs) t = cc
is_between-low (l ∷ ls) [] t = cc
is_between-low (l ∷ ls) (h ∷ hs) t =
    let parts = are_bounds-cons l h ls hs t in
    and_from (int_le l l && int_le l h) (is_between ls hs ls) (within_from l h l (omega arith) parts.0) (is_between-low ls hs parts.1)

-- and so does the high corner
pub is_between-high : (ls hs : List ℤ) → IsTrue (are_bounds ls hs) → IsTrue (is_between ls hs hs)
is_between-high [] [] t = refl
is_between-high [] (h ∷ hs) t = cc
is_between-high (l ∷ ls) [] t = cc
is_between-high (l ∷ ls) (h ∷ hs) t =
    let parts = are_bounds-cons l h ls hs t in
    and_from (int_le l h && int_le h h) (is_between ls hs hs) (within_from l h h parts.0 (omega arith)) (is_between-high ls hs parts.1)

-- ---- the number of cells, capped

-- a cap on a factor is a cap on the product
pub min-capped_product : (a r c : ℕ) → min (min a c * r) c ≡ min (a * r) c
min-capped_product a zero c = omega arith
min-capped_product a (suc r) c = ⊎_elim small large (cases_lt a c)
  where
    small : a < c → min (min a c * suc r) c ≡ min (a * suc r) c
    small h = let is : min a c ≡ a = omega arith in rw is refl

    large : c ≤ a → min (min a c * suc r) c ≡ min (a * suc r) c
    large h =
        let is : min a c ≡ c = omega arith in
        let one : c * 1 ≤ c * suc r = mul-le-mul (omega arith) (omega arith) in
        let two : c * 1 ≤ a * suc r = mul-le-mul h (omega arith) in
        rw is (omega (arith, one, two))

length-numbers_from : (x : ℤ) (n : ℕ) → length (numbers_from x n) ≡ n
length-numbers_from x zero = refl
length-numbers_from x (suc n) = ap suc (length-numbers_from (x +ℤ pos 1) n)

-- a table has as many cells as its rows times its columns
length-rows : (xs : List ℤ) (cs : List (List ℤ)) → length (flat_map (λ x. map (λ c. x ∷ c) cs) xs) ≡ length xs * length cs
length-rows [] cs = omega arith
length-rows (x ∷ xs) cs =
    length-append (map (λ c. x ∷ c) cs) (flat_map (λ x. map (λ c. x ∷ c) cs) xs) ∙ omega (arith, length-map cs (λ c. x ∷ c), length-rows xs cs)

-- the list of the coordinates between two corners is as long as there are cells
pub length-coords_between : (ls hs : List ℤ) → length (coords_between ls hs) ≡ cells_between ls hs
length-coords_between [] hs = refl
length-coords_between (l ∷ ls) [] = refl
length-coords_between (l ∷ ls) (h ∷ hs) =
    length-rows (numbers_from l (count_between l h)) (coords_between ls hs)
    ∙ ap (λ n. n * length (coords_between ls hs)) (length-numbers_from l (count_between l h))
    ∙ ap (λ n. count_between l h * n) (length-coords_between ls hs)

-- ---- two boxes

-- what lies in two boxes shows that they meet
pub do_meet-is_between : (ls hs ks gs xs : List ℤ) → IsTrue (is_between ls hs xs) → IsTrue (is_between ks gs xs) → IsTrue (do_meet ls hs ks gs)
do_meet-is_between [] hs ks gs xs t u = refl
do_meet-is_between (l ∷ ls) [] ks gs xs t u = refl
do_meet-is_between (l ∷ ls) (h ∷ hs) [] gs xs t u = refl
do_meet-is_between (l ∷ ls) (h ∷ hs) (k ∷ ks) [] xs t u = refl
do_meet-is_between (l ∷ ls) (h ∷ hs) (k ∷ ks) (g ∷ gs) [] t u = cc
do_meet-is_between (l ∷ ls) (h ∷ hs) (k ∷ ks) (g ∷ gs) (x ∷ xs) t u =
    let first = and_parts (int_le l x && int_le x h) (is_between ls hs xs) t in
    let second = and_parts (int_le k x && int_le x g) (is_between ks gs xs) u in
    let one = within_parts l h x first.0 in
    let two = within_parts k g x second.0 in
    let left : int_le l g ≡ true = grind (arith, ints) in
    let right : int_le k h ≡ true = grind (arith, ints) in
    and_from (int_le l g && int_le k h) (do_meet ls hs ks gs) (and_from (int_le l g) (int_le k h) left right) (do_meet-is_between ls hs ks gs xs first.1 second.1)

-- where two boxes meet, the greater of their low corners lies in both
pub is_between-greatest_corner : (ls hs ks gs : List ℤ) → IsTrue (are_bounds ls hs) → IsTrue (are_bounds ks gs) → length ks ≡ length ls → IsTrue (do_meet ls hs ks gs)
    → IsTrue (is_between ls hs (greatest_corner ls ks)) × IsTrue (is_between ks gs (greatest_corner ls ks))
is_between-greatest_corner [] [] [] [] t u e m = (refl, refl)
is_between-greatest_corner [] [] [] (g ∷ gs) t u e m = cc
is_between-greatest_corner [] [] (k ∷ ks) gs t u e m = cc
is_between-greatest_corner [] (h ∷ hs) ks gs t u e m = cc
is_between-greatest_corner (l ∷ ls) [] ks gs t u e m = cc
is_between-greatest_corner (l ∷ ls) (h ∷ hs) [] gs t u e m = cc
is_between-greatest_corner (l ∷ ls) (h ∷ hs) (k ∷ ks) [] t u e m = cc
is_between-greatest_corner (l ∷ ls) (h ∷ hs) (k ∷ ks) (g ∷ gs) t u e m =
    let first = are_bounds-cons l h ls hs t in
    let second = are_bounds-cons k g ks gs u in
    let meet = and_parts (int_le l g && int_le k h) (do_meet ls hs ks gs) m in
    let here = and_parts (int_le l g) (int_le k h) meet.0 in
    let left : up l + down g ≤ up g + down l = omega (arith, ints, here.0) in
    let right : up k + down h ≤ up h + down k = omega (arith, ints, here.1) in
    let rest = is_between-greatest_corner ls hs ks gs first.1 second.1 (cc) meet.1 in (
      and_from (int_le l (int_max l k) && int_le (int_max l k) h) (is_between ls hs (greatest_corner ls ks)) (within_from l h (int_max l k) (omega (arith, ints, clamps)) (omega (arith, ints, clamps))) rest.0,
      and_from (int_le k (int_max l k) && int_le (int_max l k) g) (is_between ks gs (greatest_corner ls ks)) (within_from k g (int_max l k) (omega (arith, ints, clamps)) (omega (arith, ints, clamps))) rest.1,
    )

-- ---- the hull of two boxes

-- the hull has low bounds that are at most its high bounds
pub are_bounds-hull : (ls hs ks gs : List ℤ) → IsTrue (are_bounds ls hs) → IsTrue (are_bounds ks gs) → length ks ≡ length ls → IsTrue (are_bounds (least_corner ls ks) (greatest_corner hs gs))
are_bounds-hull [] [] [] [] t u e = refl
are_bounds-hull [] [] [] (g ∷ gs) t u e = cc
are_bounds-hull [] [] (k ∷ ks) gs t u e = cc
are_bounds-hull [] (h ∷ hs) ks gs t u e = cc
are_bounds-hull (l ∷ ls) [] ks gs t u e = cc
are_bounds-hull (l ∷ ls) (h ∷ hs) [] gs t u e = cc
are_bounds-hull (l ∷ ls) (h ∷ hs) (k ∷ ks) [] t u e = cc
are_bounds-hull (l ∷ ls) (h ∷ hs) (k ∷ ks) (g ∷ gs) t u e =
    let first = are_bounds-cons l h ls hs t in
    let second = are_bounds-cons k g ks gs u in
    let le : up (int_min l k) + down (int_max h g) ≤ up (int_max h g) + down (int_min l k) = omega (arith, ints, clamps) in
    let here : int_le (int_min l k) (int_max h g) ≡ true = grind (arith, ints) in
    and_from (int_le (int_min l k) (int_max h g)) (are_bounds (least_corner ls ks) (greatest_corner hs gs)) here (are_bounds-hull ls hs ks gs first.1 second.1 (cc))

-- what lies in the first box lies in the hull
pub is_between-hull_first : (ls hs ks gs xs : List ℤ) → IsTrue (is_between ls hs xs) → length ks ≡ length ls → length gs ≡ length hs → IsTrue (is_between (least_corner ls ks) (greatest_corner hs gs) xs)
is_between-hull_first [] [] ks gs [] t e f = refl
is_between-hull_first [] [] ks gs (x ∷ xs) t e f = cc
is_between-hull_first [] (h ∷ hs) ks gs xs t e f = cc
is_between-hull_first (l ∷ ls) [] ks gs xs t e f = cc
is_between-hull_first (l ∷ ls) (h ∷ hs) [] gs xs t e f = cc
is_between-hull_first (l ∷ ls) (h ∷ hs) (k ∷ ks) [] xs t e f = cc
is_between-hull_first (l ∷ ls) (h ∷ hs) (k ∷ ks) (g ∷ gs) [] t e f = cc
is_between-hull_first (l ∷ ls) (h ∷ hs) (k ∷ ks) (g ∷ gs) (x ∷ xs) t e f =
    let parts = and_parts (int_le l x && int_le x h) (is_between ls hs xs) t in
    let here = within_parts l h x parts.0 in
    and_from (int_le (int_min l k) x && int_le x (int_max h g)) (is_between (least_corner ls ks) (greatest_corner hs gs) xs)
    (within_from (int_min l k) (int_max h g) x (omega (arith, ints, clamps)) (omega (arith, ints, clamps)))
    (is_between-hull_first ls hs ks gs xs parts.1 (cc) (cc))

-- and so does what lies in the second
pub is_between-hull_second : (ls hs ks gs xs : List ℤ) → IsTrue (is_between ks gs xs) → length ks ≡ length ls → length gs ≡ length hs → IsTrue (is_between (least_corner ls ks) (greatest_corner hs gs) xs)
is_between-hull_second [] hs [] gs xs t e f = by hs gs xs t f
  where
    by : (hs gs xs : List ℤ) → IsTrue (is_between [] gs xs) → length gs ≡ length hs → IsTrue (is_between [] (greatest_corner hs gs) xs)
    by [] [] [] t f = refl
    by [] [] (x ∷ xs) t f = cc
    by [] (g ∷ gs) xs t f = cc
    by (h ∷ hs) [] xs t f = cc
    by (h ∷ hs) (g ∷ gs) xs t f = cc
is_between-hull_second [] hs (k ∷ ks) gs xs t e f = cc
is_between-hull_second (l ∷ ls) hs [] gs xs t e f = cc
is_between-hull_second (l ∷ ls) hs (k ∷ ks) [] xs t e f = cc
is_between-hull_second (l ∷ ls) [] (k ∷ ks) (g ∷ gs) xs t e f = cc
is_between-hull_second (l ∷ ls) (h ∷ hs) (k ∷ ks) (g ∷ gs) [] t e f = cc
is_between-hull_second (l ∷ ls) (h ∷ hs) (k ∷ ks) (g ∷ gs) (x ∷ xs) t e f =
    let parts = and_parts (int_le k x && int_le x g) (is_between ks gs xs) t in
    let here = within_parts k g x parts.0 in
    and_from (int_le (int_min l k) x && int_le x (int_max h g)) (is_between (least_corner ls ks) (greatest_corner hs gs) xs)
    (within_from (int_min l k) (int_max h g) x (omega (arith, ints, clamps)) (omega (arith, ints, clamps)))
    (is_between-hull_second ls hs ks gs xs parts.1 (cc) (cc))

-- what lies in the hull lies between any bounds that all four corners lie between
pub is_between-hull_least : (os qs ls hs ks gs xs : List ℤ) → IsTrue (is_between os qs ls) → IsTrue (is_between os qs hs) → IsTrue (is_between os qs ks) → IsTrue (is_between os qs gs)
    → IsTrue (is_between (least_corner ls ks) (greatest_corner hs gs) xs) → IsTrue (is_between os qs xs)
is_between-hull_least [] [] [] [] [] [] xs a b c d t = t
is_between-hull_least [] [] [] [] [] (g ∷ gs) xs a b c d t = cc
is_between-hull_least [] [] [] [] (k ∷ ks) gs xs a b c d t = cc
is_between-hull_least [] [] [] (h ∷ hs) ks gs xs a b c d t = cc
is_between-hull_least [] [] (l ∷ ls) hs ks gs xs a b c d t = cc
is_between-hull_least [] (q ∷ qs) ls hs ks gs xs a b c d t = cc
is_between-hull_least (o ∷ os) [] ls hs ks gs xs a b c d t = cc
is_between-hull_least (o ∷ os) (q ∷ qs) [] hs ks gs xs a b c d t = cc
is_between-hull_least (o ∷ os) (q ∷ qs) (l ∷ ls) [] ks gs xs a b c d t = cc
is_between-hull_least (o ∷ os) (q ∷ qs) (l ∷ ls) (h ∷ hs) [] gs xs a b c d t = cc
is_between-hull_least (o ∷ os) (q ∷ qs) (l ∷ ls) (h ∷ hs) (k ∷ ks) [] xs a b c d t = cc
is_between-hull_least (o ∷ os) (q ∷ qs) (l ∷ ls) (h ∷ hs) (k ∷ ks) (g ∷ gs) [] a b c d t = cc
is_between-hull_least (o ∷ os) (q ∷ qs) (l ∷ ls) (h ∷ hs) (k ∷ ks) (g ∷ gs) (x ∷ xs) a b c d t =
    let first = and_parts (int_le o l && int_le l q) (is_between os qs ls) a in
    let second = and_parts (int_le o h && int_le h q) (is_between os qs hs) b in
    let third = and_parts (int_le o k && int_le k q) (is_between os qs ks) c in
    let fourth = and_parts (int_le o g && int_le g q) (is_between os qs gs) d in
    let parts = and_parts (int_le (int_min l k) x && int_le x (int_max h g)) (is_between (least_corner ls ks) (greatest_corner hs gs) xs) t in
    let one = within_parts o q l first.0 in
    let two = within_parts o q h second.0 in
    let three = within_parts o q k third.0 in
    let four = within_parts o q g fourth.0 in
    let here = within_parts (int_min l k) (int_max h g) x parts.0 in
    and_from (int_le o x && int_le x q) (is_between os qs xs) (within_from o q x (omega (arith, ints, clamps)) (omega (arith, ints, clamps)))
    (is_between-hull_least os qs ls hs ks gs xs first.1 second.1 third.1 fourth.1 parts.1)
