-- What is taken of the cells of tiles, cell by cell and tile by tile.
use Rattle.std.specs.Prelude.{◌≡◌, ℕ, ◌≤◌, Bool, true, false, ℤ, List, [], ◌∷◌, ◌++◌, length, map, Option, Some, None, Result, Ok}
use Rattle.std.specs.List.{All}
use Rattle.ts_base.specs.declared.heads.Version.{Version}
use Rattle.ts_base.specs.declared.values.Val.{Val}
use Rattle.ts_domain.specs.declared.boxes.SubBox.{SubBox}
use Rattle.ts_schema.specs.declared.frames.Frame.{Frame}
use Rattle.ts_schema.specs.declared.wants.Want.{Want}
use Rattle.ts_schema.specs.Wants.{is_wanted, taken}
use Rattle.ts_plain.specs.declared.stored.StoredHead.{StoredHead}
use Rattle.ts_plain.specs.declared.stored.StoredCell.{StoredCell}
use Rattle.ts_plain.specs.Insides.{IsInside}
use Rattle.ts_plain.specs.Pieces.{version_in}
use Rattle.ts_gather.specs.Rows.{version_there}
use Rattle.ts_sparse_read.specs.declared.columns.Columns.{Columns}
use Rattle.ts_sparse_read.specs.declared.opened.Opened.{Opened}
use Rattle.ts_sparse_read.specs.declared.opened.WantedTile.{WantedTile}
use Rattle.ts_sparse_read.specs.declared.sifted.Sifted.{Sifted}
use Rattle.ts_sparse_read.specs.declared.sifted.Spot.{Spot}
use Rattle.ts_sparse_read.specs.Faults.{Fault, and_then, Ranged}
use Rattle.ts_sparse_read.specs.Judges.{ranged, cells_of_tiles}
use Rattle.ts_sparse_read.specs.TileReads.{rows_in, cells_from, cell_of, coords_of_tile, vals_of_tile, origins_if, order_fault, unless, cells_of_tile}

-- ---- where cells stand

-- where a cell stands in the order of its fragment
abbrev pub spot_of : StoredCell → Spot
spot_of c = record { coords = c.coords; origin = c.origin }

-- a cell that stands there, without values
abbrev pub bare : Spot → StoredCell
bare s = record { coords = s.coords; origin = s.origin; row = [] }

-- such a cell, if there is one
abbrev pub bare_if : Option Spot → Option StoredCell
bare_if None = None
bare_if (Some s) = Some (bare s)

-- where the last of cells stands; where there are none, this
abbrev pub last_spot : Option Spot → List StoredCell → Option Spot
last_spot last [] = last
last_spot last (c ∷ cells) = last_spot (Some (spot_of c)) cells

-- the spot lies in the domain
abbrev pub IsSpotInside : Frame → Spot → Type 0
IsSpotInside frame s = IsInside frame (bare s)

-- ---- columns

-- the columns of a tile: what is broken first among its coordinates, its values and its origins
abbrev pub columns_of_tile : Opened → SubBox → ℕ → List Ranged → Result Columns Fault
columns_of_tile opened leaf count ranges =
    and_then (coords_of_tile leaf count ranges 0 (opened.frame).domain) (λ coords.
    and_then (vals_of_tile (opened.want).attrs count ranges 0 opened.attrs) (λ vals.
    and_then (origins_if (opened.head).consolidated (length (opened.head).origins) count ranges) (λ origins.
    Ok (record { count = count; coords = coords; origins = origins; vals = vals }))))

-- the cells that columns hold
abbrev pub cells_in : Columns → List StoredCell
cells_in c = cells_from (rows_in c.count c.coords) c.origins (rows_in c.count c.vals)

-- the cell that columns hold at a place
abbrev pub cell_in : Columns → ℕ → StoredCell
cell_in c k = cell_of c.coords c.origins c.vals k

-- there are 1 to 8 columns of coordinates, all columns are of so many values, and the cells lie in the domain
pub record AreSound (frame : Frame) (c : Columns) : Type 0 where
  pub some : 1 ≤ length c.coords
  pub few : length c.coords ≤ 8
  pub coords : All (λ (column : List ℤ). length column ≡ c.count) c.coords
  pub origins : length c.origins ≡ c.count
  pub vals : All (λ (column : List Val). length column ≡ c.count) c.vals
  pub inside : All (IsInside frame) (cells_in c)

-- ---- places in a tile

-- a cell that stands there is wanted
abbrev pub is_spot_wanted : Want → StoredHead → Spot → Bool
is_spot_wanted want head s = is_wanted want (version_in head (bare s))

-- the place, if it is one of those
abbrev pub place_if : Bool → ℕ → List ℕ
place_if true place = place ∷ []
place_if false place = []

-- the versions of the cells at these places of a tile, with the wanted values alone
abbrev pub versions_at : Opened → Columns → List ℕ → List Version
versions_at opened c places = map (version_there (opened.head).origins (opened.head).schema (opened.want).attrs c.coords c.origins c.vals) places

-- the versions at these places were taken, and the last cell stands there
abbrev pub picked : Opened → Columns → List ℕ → Option Spot → Sifted
picked opened c places last = record { found = versions_at opened c places; last = last }

-- ---- what is taken

-- what is wanted of cells
abbrev pub wanted_of : Want → StoredHead → List StoredCell → List Version
wanted_of want head cells = taken want (map (version_in head) cells)

-- what was taken so far, and behind it what is wanted of these cells
abbrev pub sifted : Opened → Sifted → List StoredCell → Sifted
sifted opened s cells = record { found = s.found ++ wanted_of opened.want opened.head cells; last = last_spot s.last cells }

-- nothing was taken so far
abbrev pub nothing_sifted : Sifted
nothing_sifted = record { found = []; last = None }

-- what was taken so far, and behind it what is wanted of all cells from this place of the tile on, unless one may not stand behind the one before it
abbrev pub sift_cells : Opened → List Ranged → ℕ → Sifted → List StoredCell → Result Sifted Fault
sift_cells opened ranges place s cells =
    and_then (unless cells (order_fault opened.frame (opened.head).consolidated ranges place (bare_if s.last) cells)) (λ cells. Ok (sifted opened s cells))

-- so of the cells of a tile, from what was got of each part
abbrev pub sift_part : Opened → Sifted → SubBox → ℕ → List Ranged → Result Sifted Fault
sift_part opened s leaf count ranges =
    and_then (cells_of_tile opened.frame opened.attrs (opened.want).attrs opened.head (bare_if s.last) leaf count ranges) (λ cells. Ok (sifted opened s cells))

-- so of the cells of a tile, from what was got of its spans
abbrev pub sift_tile : Opened → Sifted → WantedTile → List (List ℕ) → Result Sifted Fault
sift_tile opened s t got = sift_part opened s t.leaf t.cells (ranged t.spans got)

-- so of the cells of tiles whose spans were got one after another
abbrev pub sift_tiles : Opened → Sifted → List WantedTile → List (List ℕ) → Result Sifted Fault
sift_tiles opened s tiles got =
    and_then (cells_of_tiles opened.frame opened.attrs (opened.want).attrs opened.head (bare_if s.last) tiles got) (λ cells. Ok (sifted opened s cells))
