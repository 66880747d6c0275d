-- The steps of loops over the dimensions: what holds of the dimensions from i on, when dimension i is done.
use Rattle.std.proofs.Common.{◌≡◌, ℕ, zero, suc, ◌+◌, ◌*◌, ◌<◌, ◌≤◌, min, List, [], ◌∷◌, ◌++◌, length, get_or, take, drop, set, sym, ap, ◌∙◌, arith, append_assoc, ℤ, pos, ◌≤ℤ◌}
use Rattle.std.specs.Prelude.{IsTrue}
use Rattle.std.specs.Int.{int_min, int_max}
use Rattle.std.proofs.Math.Nat.{mul_comm, mul_assoc}
use Rattle.std.proofs.lemmas.Int.{ints}
use Rattle.std.proofs.lemmas.List.{drop_more, drop_all, take_more_set}
use Rattle.ts_domain.specs.Bounds.{are_bounds, count_between, cells_between, least_corner, greatest_corner}
use Rattle.ts_domain.proofs.Between.{min-capped_product, are_bounds-cons}

-- the bounds of one dimension
pub are_bounds_at : (ls hs : List ℤ) (i : ℕ) → IsTrue (are_bounds ls hs) → i < length ls → get_or ls i (pos 0) ≤ℤ get_or hs i (pos 0)
are_bounds_at [] hs i t k = absurd (omega arith)
are_bounds_at (l ∷ ls) [] i t k = cc
are_bounds_at (l ∷ ls) (h ∷ hs) zero t k = let le = (are_bounds-cons l h ls hs t).0 in omega (arith, ints)
are_bounds_at (l ∷ ls) (h ∷ hs) (suc i) t k = are_bounds_at ls hs i (are_bounds-cons l h ls hs t).1 (omega arith)

-- the number of cells, each factor and product of which is capped
pub cells_more : (ls hs : List ℤ) (i cells side cap whole : ℕ) → i < length ls → i < length hs → side ≡ min (count_between (get_or ls i (pos 0)) (get_or hs i (pos 0))) cap
    → min (cells * cells_between (drop i ls) (drop i hs)) cap ≡ whole → min (min (cells * side) cap * cells_between (drop (i + 1) ls) (drop (i + 1) hs)) cap ≡ whole
cells_more ls hs i cells side cap whole in_ls in_hs is before =
    let n = count_between (get_or ls i (pos 0)) (get_or hs i (pos 0)) in
    let rest = cells_between (drop (i + 1) ls) (drop (i + 1) hs) in
    let here : min (cells * (n * rest)) cap ≡ whole = rw (drop_more ls i (pos 0) in_ls, drop_more hs i (pos 0) in_hs) at before in
    let product : cells * side * rest ≡ side * (cells * rest) = rw (mul_comm cells side) (mul_assoc side cells rest) in
    let other : n * (cells * rest) ≡ cells * (n * rest) = sym (mul_assoc n cells rest) ∙ ap (λ x. x * rest) (mul_comm n cells) ∙ mul_assoc cells n rest in
    min-capped_product (cells * side) rest cap ∙ ap (λ x. min x cap) product ∙ ap (λ x. min (x * (cells * rest)) cap) is
    ∙ min-capped_product n (cells * rest) cap ∙ ap (λ x. min x cap) other ∙ here

-- and when all dimensions are done
pub cells_all : (ls hs : List ℤ) (i cells cap whole : ℕ) → length ls ≤ i → cells ≤ cap → min (cells * cells_between (drop i ls) (drop i hs)) cap ≡ whole → cells ≡ whole
cells_all ls hs i cells cap whole done fits before =
    let here : min (cells * 1) cap ≡ whole = rw (drop_all i ls done) at before in
    omega arith

-- a corner whose numbers before i are written
module _ (xs ys numbers : List ℤ) (i : ℕ) (v : ℤ) (in_xs : i < length xs) (in_ys : i < length ys) (in_numbers : i < length numbers) where
  pub least_corner_more : (corner : List ℤ) → v ≡ int_min (get_or xs i (pos 0)) (get_or ys i (pos 0)) → take i numbers ++ least_corner (drop i xs) (drop i ys) ≡ corner
      → take (i + 1) (set numbers i v) ++ least_corner (drop (i + 1) xs) (drop (i + 1) ys) ≡ corner
  least_corner_more corner is before =
      rw (take_more_set numbers i v in_numbers, append_assoc, is)
      (rw (drop_more xs i (pos 0) in_xs, drop_more ys i (pos 0) in_ys) at before)

  pub greatest_corner_more : (corner : List ℤ) → v ≡ int_max (get_or xs i (pos 0)) (get_or ys i (pos 0)) → take i numbers ++ greatest_corner (drop i xs) (drop i ys) ≡ corner
      → take (i + 1) (set numbers i v) ++ greatest_corner (drop (i + 1) xs) (drop (i + 1) ys) ≡ corner
  greatest_corner_more corner is before =
      rw (take_more_set numbers i v in_numbers, append_assoc, is)
      (rw (drop_more xs i (pos 0) in_xs, drop_more ys i (pos 0) in_ys) at before)
