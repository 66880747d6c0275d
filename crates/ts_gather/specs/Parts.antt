-- The part of a box that lies in another, and what columns have of it that have a value for each cell of the whole.
use Rattle.std.specs.Prelude.{◌≡◌, ℕ, ◌-◌, ◌*◌, ◌/◌, ℤ, pos, List, [], map, filter, length, get_or}
use Rattle.std.specs.List.{range_with_len}
use Rattle.ts_base.specs.declared.heads.Version.{Version}
use Rattle.ts_base.specs.declared.values.Val.{Val}
use Rattle.ts_base.specs.declared.values.Val.TheVariants.{Null}
use Rattle.ts_domain.specs.declared.orders.Order.{Order}
use Rattle.ts_domain.specs.declared.boxes.SubBox.{SubBox}
use Rattle.ts_domain.specs.Bounds.{count_between}
use Rattle.ts_domain.specs.Boxes.{IsBox, is_in_box, cells_of, Covers}
use Rattle.ts_order.specs.Orders.{turned, dim_at, coords_in_order}
use Rattle.ts_order.specs.Places.{place_of}
use Rattle.ts_table.specs.declared.origins.Origin.{Origin}
use Rattle.ts_gather.specs.Rows.{at_rows}

-- ---- the part

-- the cells of a box that lie in another, in row or column order
abbrev pub shared_cells : Order → SubBox → SubBox → List (List ℤ)
shared_cells order a b = filter (is_in_box b) (coords_in_order order a)

-- the part is a box of the cells of `a` that lie in `b`
pub record IsSharedPart (part a b : SubBox) : Type 0 where
  pub valid : IsBox part
  pub within : Covers a part
  pub cells : (order : Order) → shared_cells order a b ≡ coords_in_order order part

-- ---- values of its cells

-- the place of a cell among those of a box
abbrev pub place_in : Order → SubBox → List ℤ → ℕ
place_in order sub coords = place_of (turned order sub.low) (turned order sub.high) (turned order coords)

-- the places of the cells of a box among those of another
abbrev pub places_over : Order → SubBox → SubBox → List ℕ
places_over order outer inner = map (place_in order outer) (coords_in_order order inner)

-- the values of the cells of a box, from a column that has those of all cells of another
abbrev pub vals_over : Order → SubBox → SubBox → List Val → List Val
vals_over order outer inner column = at_rows Null (places_over order outer inner) column

-- how many cells of a box follow one another along the dimension that changes fastest
abbrev pub run_in : Order → SubBox → ℕ
run_in order sub =
    let dim = dim_at order (length sub.low) (length sub.low - 1) in
    count_between (get_or sub.low dim (pos 0)) (get_or sub.high dim (pos 0))

-- the places in a box at which the runs of a box within it begin, run after run
abbrev pub starts_over : Order → SubBox → SubBox → List ℕ
starts_over order outer inner = map (λ run. place_in order outer (get_or (coords_in_order order inner) (run * run_in order inner) [])) (range_with_len 0 (cells_of inner / run_in order inner))

-- the version in a cell: its values are those that the columns at these places have for it, null where there is no column; the columns have a value for each cell of the outer box
abbrev pub version_over : Origin → List ℕ → Order → SubBox → List (List Val) → List ℤ → Version
version_over origin attrs order outer vals coords = record {
  key = origin.key;
  schema = origin.schema;
  coords = coords;
  row = map (λ attr. get_or (map (λ column. get_or column (place_in order outer coords) Null) vals) attr Null) attrs;
}
