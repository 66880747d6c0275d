-- Bounds of boxes: a low and a high number for each dimension, and the coordinates between them.
use Rattle.std.specs.Prelude.{ℕ, ◌*◌, zero, suc, Bool, true, false, ◌&&◌, List, [], ◌∷◌, map, ℤ, pos, negsuc, ◌+ℤ◌, ◌-ℤ◌, int_le}
use Rattle.std.specs.List.{flat_map}
use Rattle.std.specs.Int.{int_min, int_max}

-- each low bound is at most its high bound, and there are as many of both
abbrev pub are_bounds : List ℤ → List ℤ → Bool
are_bounds [] [] = true
are_bounds (l ∷ ls) (h ∷ hs) = int_le l h && are_bounds ls hs
are_bounds _ _ = false

-- each coordinate lies between its bounds, which count as inside
abbrev pub is_between : List ℤ → List ℤ → List ℤ → Bool
is_between [] [] [] = true
is_between (l ∷ ls) (h ∷ hs) (x ∷ xs) = (int_le l x && int_le x h) && is_between ls hs xs
is_between _ _ _ = false

-- a number that is not negative, and 0 in place of a negative one
abbrev pub natural_of : ℤ → ℕ
natural_of (pos n) = n
natural_of (negsuc n) = 0

-- how many numbers lie from x to y, both counted
abbrev pub count_between : ℤ → ℤ → ℕ
count_between x y = natural_of (y -ℤ x +ℤ pos 1)

-- how many cells lie between two corners
abbrev pub cells_between : List ℤ → List ℤ → ℕ
cells_between (l ∷ ls) (h ∷ hs) = count_between l h * cells_between ls hs
cells_between _ _ = 1

-- the n numbers from x on
abbrev pub numbers_from : ℤ → ℕ → List ℤ
numbers_from x zero = []
numbers_from x (suc n) = x ∷ numbers_from (x +ℤ pos 1) n

-- the coordinates between two corners, the last dimension changing fastest
abbrev pub coords_between : List ℤ → List ℤ → List (List ℤ)
coords_between (l ∷ ls) (h ∷ hs) = flat_map (λ x. map (λ c. x ∷ c) (coords_between ls hs)) (numbers_from l (count_between l h))
coords_between _ _ = [] ∷ []

-- the lesser of two numbers in each dimension
abbrev pub least_corner : List ℤ → List ℤ → List ℤ
least_corner (x ∷ xs) (y ∷ ys) = int_min x y ∷ least_corner xs ys
least_corner _ _ = []

-- the greater of two numbers in each dimension
abbrev pub greatest_corner : List ℤ → List ℤ → List ℤ
greatest_corner (x ∷ xs) (y ∷ ys) = int_max x y ∷ greatest_corner xs ys
greatest_corner _ _ = []

-- in each dimension neither begins after the other ends; an edge that both have counts
abbrev pub do_meet : List ℤ → List ℤ → List ℤ → List ℤ → Bool
do_meet (l ∷ ls) (h ∷ hs) (k ∷ ks) (g ∷ gs) = (int_le l g && int_le k h) && do_meet ls hs ks gs
do_meet _ _ _ _ = true
