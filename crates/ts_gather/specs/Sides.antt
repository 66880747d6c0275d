-- The coordinates of the cells of a box, one column for each dimension.
use Rattle.std.specs.Prelude.{◌≡◌, ℕ, zero, suc, ◌<◌, ℤ, pos, List, [], ◌++◌, length, map, get_or, replicate}
use Rattle.std.specs.List.{All, flat_map}
use Rattle.ts_domain.specs.declared.orders.Order.{Order}
use Rattle.ts_domain.specs.declared.boxes.SubBox.{SubBox}
use Rattle.ts_domain.specs.Bounds.{coords_between}
use Rattle.ts_domain.specs.Boxes.{cells_of}
use Rattle.ts_order.specs.Orders.{coords_in_order}

-- the columns are those of the cells of the box, in row or column order
pub record AreCoords (order : Order) (sub : SubBox) (columns : List (List ℤ)) : Type 0 where
  pub many : length columns ≡ length sub.low
  pub long : All (λ (column : List ℤ). length column ≡ cells_of sub) columns
  pub there : (k : ℕ) → k < cells_of sub → map (λ column. get_or column k (pos 0)) columns ≡ get_or (coords_in_order order sub) k []

-- the coordinates between two corners along the dimension of a rank, the last dimension changing fastest
abbrev pub along : List ℤ → List ℤ → ℕ → List ℤ
along ls hs rank = map (λ coords. get_or coords rank (pos 0)) (coords_between ls hs)

-- each number so many times
abbrev pub stretched : ℕ → List ℤ → List ℤ
stretched each numbers = flat_map (λ x. replicate each x) numbers

-- a list so many times
abbrev pub repeated : ℕ → List ℤ → List ℤ
repeated zero numbers = []
repeated (suc times) numbers = numbers ++ repeated times numbers
