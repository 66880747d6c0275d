-- Cells as they are ranked: by the place of their space tile, then by their own place in the domain, then by their place in a list.
use Rattle.std.specs.Prelude.{◌≡◌, ℕ, ◌≤◌, ◌<◌, ◌+◌, ◌-◌, ◌*◌, ◌/◌, ◌^◌, ℤ, pos, ◌-ℤ◌, ◌≤ℤ◌, List, [], ◌∷◌, map, length, take, slice_index_or}
use Rattle.std.specs.List.{range_with_len}
use Rattle.std.specs.declared.cmp.Ordering.{Ordering}
use Rattle.ts_base.specs.declared.heads.Version.{Version}
use Rattle.ts_domain.specs.declared.boxes.SubBox.{SubBox}
use Rattle.ts_domain.specs.declared.dims.Dim.{Dim}
use Rattle.ts_domain.specs.declared.orders.Order.{Order}
use Rattle.ts_domain.specs.Bounds.{natural_of, count_between}
use Rattle.ts_domain.specs.Boxes.{cells_of}
use Rattle.ts_domain.specs.Dims.{tile_number}
use Rattle.ts_domain.specs.Domains.{whole_domain}
use Rattle.ts_order.specs.Orders.{turned, tile_numbers}
use Rattle.ts_order.specs.Places.{place_of}
use Rattle.ts_table.specs.declared.order.CellOrder.{CellOrder}
use Rattle.ts_table.specs.declared.order.CellOrder.TheVariants.{Plain, Global}
use Rattle.ts_table.specs.declared.ranks.Counted.{Counted}
use Rattle.ts_table.specs.declared.ranks.Counted.TheVariants.{Cells, Tiles}
use Rattle.ts_table.specs.declared.ranks.Line.{Line}
use Rattle.ts_table.specs.declared.ranks.Ranked.{Ranked}
use Rattle.ts_table.specs.contracts.ranks.RankedOrd.TheImpl as rank_order
use Rattle.ts_table.specs.Tables.{version_or}

-- the cells of the domain of these dimensions can be counted
abbrev pub IsCountable : List Dim → Type 0
IsCountable dims = cells_of (whole_domain dims) < 2 ^ 64 - 1

-- the number of a coordinate along a dimension: itself, or that of its space tile
abbrev pub number_of : Counted → Dim → ℤ → ℤ
number_of Cells d x = x
number_of Tiles d x = tile_number d x

-- the numbers of coordinates
abbrev pub numbers_of : Counted → List Dim → List ℤ → List ℤ
numbers_of Cells dims at = at
numbers_of Tiles dims at = tile_numbers dims at

-- the least and the greatest number along each dimension
abbrev pub numbers_box : Counted → List Dim → SubBox
numbers_box counted dims = record { low = numbers_of counted dims (whole_domain dims).low; high = numbers_of counted dims (whole_domain dims).high }

-- the place of the cell with these coordinates in the domain, or of its space tile among those of the domain
abbrev pub place_in : Counted → List Dim → Order → List ℤ → ℕ
place_in counted dims order at = place_of (turned order (numbers_box counted dims).low) (turned order (numbers_box counted dims).high) (turned order (numbers_of counted dims at))

-- that place among those that differ in the dimensions compared first, so many of them
abbrev pub front_place : Counted → List Dim → Order → ℕ → List ℤ → ℕ
front_place counted dims order count at =
    place_of (take count (turned order (numbers_box counted dims).low)) (take count (turned order (numbers_box counted dims).high)) (take count (turned order (numbers_of counted dims at)))

-- how many cells or space tiles lie before that of a coordinate
abbrev pub steps_on : Line → ℤ → ℕ
steps_on line x = natural_of (x -ℤ line.low) / line.extent

-- so are the cells or the space tiles along a dimension counted
pub record IsLine (counted : Counted) (d : Dim) (line : Line) : Type 0 where
  pub low : line.low ≡ d.low
  pub some : 1 ≤ line.extent
  pub count : line.count ≡ count_between (number_of counted d d.low) (number_of counted d d.high)
  pub steps : (x : ℤ) → d.low ≤ℤ x → natural_of (number_of counted d x -ℤ number_of counted d d.low) ≡ steps_on line x

-- places, counted on along a line by as many coordinates
abbrev pub counted_on : Line → List ℤ → List ℕ → List ℕ
counted_on line (x ∷ xs) (place ∷ places) = (place * line.count + steps_on line x) ∷ counted_on line xs places
counted_on line _ _ = []

-- the numbers of this fit 64 bits
pub record CanCount (line : Line) (column : List ℤ) (places : List ℕ) : Type 0 where
  pub some : 1 ≤ line.extent
  pub long : length column ≡ length places
  pub above : (k : ℕ) → k < length places → line.low ≤ℤ slice_index_or column k (pos 0)
  pub few : (k : ℕ) → k < length places → natural_of (slice_index_or column k (pos 0) -ℤ line.low) < 2 ^ 64
  pub fits : (k : ℕ) → k < length places → slice_index_or places k 0 * line.count + steps_on line (slice_index_or column k (pos 0)) < 2 ^ 64

-- these are the places of the cells of versions
pub record ArePlaces (place : List ℤ → ℕ) (versions : List Version) (places : List ℕ) : Type 0 where
  pub long : length places ≡ length versions
  pub each : (k : ℕ) → k < length versions → slice_index_or places k 0 ≡ place (version_or versions k).coords

-- the place of the space tile, which is 0 in row order and in column order
abbrev pub tile_place : List Dim → CellOrder → List ℤ → ℕ
tile_place dims (Plain order) at = 0
tile_place dims (Global tile cell) at = place_in Tiles dims tile at

-- the place of the cell
abbrev pub cell_place : List Dim → CellOrder → List ℤ → ℕ
cell_place dims (Plain order) at = place_in Cells dims order at
cell_place dims (Global tile cell) at = place_in Cells dims cell at

-- the rank of the version at a place
abbrev pub rank_at : List Dim → CellOrder → List Version → ℕ → Ranked
rank_at dims order versions place = record { tile = tile_place dims order (version_or versions place).coords; cell = cell_place dims order (version_or versions place).coords; place = place }

-- the ranks of all versions, as they stand
abbrev pub ranks_of : List Dim → CellOrder → List Version → List Ranked
ranks_of dims order versions = map (rank_at dims order versions) (range_with_len 0 (length versions))

-- ranks are compared by their fields in turn
abbrev pub rank_cmp : Ranked → Ranked → Ordering
rank_cmp = (rank_order.ghosts).cmp
