-- The orders of cells: row order, column order, and global order by space tiles.
use Rattle.std.specs.Prelude.{◌≡◌, ℕ, ◌-◌, ◌<◌, List, [], ◌∷◌, map, reverse, ℤ, Some, slice_get}
use Rattle.std.specs.declared.cmp.Ordering.{Ordering}
use Rattle.std.specs.declared.cmp.Ordering.TheVariants.{Less}
use Rattle.std.specs.Ordering.{int_cmp, ordering_then}
use Rattle.std.specs.Cmp.Lexicographic.{slice_cmp}
use Rattle.ts_domain.specs.declared.orders.Order.{Order}
use Rattle.ts_domain.specs.declared.orders.Order.TheVariants.{Row, Col}
use Rattle.ts_domain.specs.declared.boxes.SubBox.{SubBox}
use Rattle.ts_domain.specs.declared.dims.Dim.{Dim}
use Rattle.ts_domain.specs.Bounds.{coords_between}
use Rattle.ts_domain.specs.Dims.{tile_number}

-- one item for each dimension, that of the dimension compared first in front
abbrev pub turned : {A : Type 0} → Order → List A → List A
turned Row xs = xs
turned Col xs = reverse xs

-- the dimension that is compared after `rank` others, of `count`
abbrev pub dim_at : Order → ℕ → ℕ → ℕ
dim_at Row count rank = rank
dim_at Col count rank = count - 1 - rank

-- row order compares the first dimension first, column order the last one
abbrev pub order_cmp : Order → List ℤ → List ℤ → Ordering
order_cmp order a b = slice_cmp int_cmp (turned order a) (turned order b)

-- the number of the space tile in each dimension
abbrev pub tile_numbers : List Dim → List ℤ → List ℤ
tile_numbers (d ∷ ds) (x ∷ xs) = tile_number d x ∷ tile_numbers ds xs
tile_numbers _ _ = []

-- global order compares the space tiles in the tile order, then the cells in the cell order
abbrev pub global_cmp : List Dim → Order → Order → List ℤ → List ℤ → Ordering
global_cmp dims tile cell a b = ordering_then (order_cmp tile (tile_numbers dims a) (tile_numbers dims b)) (order_cmp cell a b)

-- the coordinates of a box, in row or column order
abbrev pub coords_in_order : Order → SubBox → List (List ℤ)
coords_in_order order sub = map (turned order) (coords_between (turned order sub.low) (turned order sub.high))

-- each item comes before every later one
abbrev pub Ascends : {A : Type 0} → (A → A → Ordering) → List A → Type 0
Ascends {A} cmp xs = (i j : ℕ) (x y : A) → i < j → slice_get xs i ≡ Some x → slice_get xs j ≡ Some y → cmp x y ≡ Less
