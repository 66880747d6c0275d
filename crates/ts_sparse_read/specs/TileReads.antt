-- What the bytes of a tile say of its cells.
use Rattle.std.specs.Prelude.{ℕ, suc, ◌*◌, ℤ, pos, Bool, true, false, nat_eq, if◌then◌else◌, List, [], ◌∷◌, length, map, get_or, replicate, Option, Some, None, Result, Ok, Err}
use Rattle.std.specs.List.{list_any}
use Rattle.ts_base.specs.declared.names.Part.TheVariants as part
use Rattle.ts_base.specs.declared.values.Val.{Val}
use Rattle.ts_base.specs.declared.values.Val.TheVariants.{Null}
use Rattle.ts_base.specs.Values.{width_of}
use Rattle.ts_domain.specs.declared.dims.Dim.{Dim}
use Rattle.ts_domain.specs.declared.boxes.SubBox.{SubBox}
use Rattle.ts_schema.specs.declared.attrs.Attr.{Attr}
use Rattle.ts_schema.specs.declared.frames.Frame.{Frame}
use Rattle.ts_plain.specs.declared.stored.StoredHead.{StoredHead}
use Rattle.ts_plain.specs.declared.stored.StoredCell.{StoredCell}
use Rattle.ts_plain.specs.Rules.{coords_rise, origin_rises}
use Rattle.ts_column.specs.declared.tiles.Tile.{Tile}
use Rattle.ts_column.specs.Tiles.{tile_vals}
use Rattle.ts_column.specs.Coords.{coords_in}
use Rattle.ts_column.specs.Origins.{origins_in}
use Rattle.ts_sparse_read.specs.Faults.{Fault, and_then, Ranged, bytes_of, fault_in, in_part, in_tile}

-- ---- columns as rows

-- one value more at the front of each row
abbrev pub put_before : {X : Type 0} → List X → List (List X) → List (List X)
put_before [] rows = []
put_before (x ∷ xs) [] = []
put_before (x ∷ xs) (row ∷ rows) = (x ∷ row) ∷ put_before xs rows

-- so many rows that have the values of these columns
abbrev pub rows_in : {X : Type 0} → ℕ → List (List X) → List (List X)
rows_in count [] = replicate count []
rows_in count (xs ∷ columns) = put_before xs (rows_in count columns)

-- the cells with these coordinates, origins and rows
abbrev pub cells_from : List (List ℤ) → List ℕ → List (List Val) → List StoredCell
cells_from (c ∷ coords) (o ∷ origins) (r ∷ rows) = record { coords = c; origin = o; row = r } ∷ cells_from coords origins rows
cells_from _ _ _ = []

-- the cell that columns hold at a place
abbrev pub cell_of : List (List ℤ) → List ℕ → List (List Val) → ℕ → StoredCell
cell_of coords origins vals k = record { coords = map (λ xs. get_or xs k (pos 0)) coords; origin = get_or origins k 0; row = map (λ xs. get_or xs k Null) vals }

-- ---- the columns of a tile

-- whether the attribute at a place is one of these
abbrev pub is_among : List ℕ → ℕ → Bool
is_among places k = list_any (λ place. nat_eq place k) places

-- the coordinates of so many cells along each dimension from the k-th on, which span the sides of the tile's leaf
abbrev pub coords_of_tile : SubBox → ℕ → List Ranged → ℕ → List Dim → Result (List (List ℤ)) Fault
coords_of_tile leaf count ranges k [] = Ok []
coords_of_tile leaf count ranges k (d ∷ dims) =
    and_then (in_part ranges (part.Dim k) (coords_in d.ty (get_or leaf.low k (pos 0)) (get_or leaf.high k (pos 0)) count (bytes_of ranges (part.Dim k)))) (λ xs.
    and_then (coords_of_tile leaf count ranges (suc k) dims) (λ columns. Ok (xs ∷ columns)))

-- the tile of the attribute at a place
abbrev pub tile_in : List Ranged → ℕ → Tile
tile_in ranges k = record { fixed = bytes_of ranges (part.Attr k); var = bytes_of ranges (part.Var k); validity = bytes_of ranges (part.Validity k) }

-- the values of so many cells of an attribute that is read; where it is not, they are null
abbrev pub vals_if : Bool → ℕ → List Ranged → ℕ → Attr → Result (List Val) Fault
vals_if true count ranges k a = in_tile ranges k (tile_vals a.ty a.nullable count (tile_in ranges k))
vals_if false count ranges k a = Ok (replicate count Null)

-- the values of so many cells of each attribute from the k-th on, of which those at these places are read
abbrev pub vals_of_tile : List ℕ → ℕ → List Ranged → ℕ → List Attr → Result (List (List Val)) Fault
vals_of_tile places count ranges k [] = Ok []
vals_of_tile places count ranges k (a ∷ attrs) =
    and_then (vals_if (is_among places k) count ranges k a) (λ vals. and_then (vals_of_tile places count ranges (suc k) attrs) (λ columns. Ok (vals ∷ columns)))

-- which write each of so many cells is of: of an ordinary fragment the first, and the only one
abbrev pub origins_if : Bool → ℕ → ℕ → List Ranged → Result (List ℕ) Fault
origins_if true entries count ranges = in_part ranges part.Origin (origins_in entries count (bytes_of ranges part.Origin))
origins_if false entries count ranges = Ok (replicate count 0)

-- ---- their order

-- the width of the first dimension
abbrev pub first_width : List Dim → ℕ
first_width [] = 0
first_width (d ∷ dims) = width_of d.ty

-- the coordinates of the cell at a place of the tile come too early: its first coordinate is broken
abbrev pub coords_fault : Frame → List Ranged → ℕ → Fault
coords_fault frame ranges place = fault_in ranges (part.Dim 0) (place * first_width frame.domain)

-- the write of the cell at a place of the tile comes too early: where the fragment says of each cell which write it is of, that is broken, else its first coordinate
abbrev pub origin_fault : Frame → Bool → List Ranged → ℕ → Fault
origin_fault frame consolidated ranges place = if consolidated then fault_in ranges part.Origin (place * 4) else coords_fault frame ranges place

-- what is broken where the cell at a place of the tile may not stand behind this one
abbrev pub place_fault : Frame → Bool → List Ranged → ℕ → Option StoredCell → StoredCell → Option Fault
place_fault frame consolidated ranges place before c =
    if coords_rise frame before c.coords
    then (if origin_rises frame.dense before c.coords c.origin then None else Some (origin_fault frame consolidated ranges place))
    else Some (coords_fault frame ranges place)

-- the first of the cells, from this place of the tile on, that may not stand behind the one before it
abbrev pub order_fault : Frame → Bool → List Ranged → ℕ → Option StoredCell → List StoredCell → Option Fault
order_fault frame consolidated ranges place before [] = None
order_fault frame consolidated ranges place before (c ∷ cells) =
    if coords_rise frame before c.coords
    then (if origin_rises frame.dense before c.coords c.origin then order_fault frame consolidated ranges (suc place) (Some c) cells else Some (origin_fault frame consolidated ranges place))
    else Some (coords_fault frame ranges place)

-- the cells, unless there is a fault
abbrev pub unless : List StoredCell → Option Fault → Result (List StoredCell) Fault
unless cells None = Ok cells
unless cells (Some fault) = Err fault

-- ---- a whole tile

-- the cells of a tile, behind the one before it: what is broken first among its coordinates, its values, its origins, and then its order
unfoldable pub cells_of_tile : Frame → List Attr → List ℕ → StoredHead → Option StoredCell → SubBox → ℕ → List Ranged → Result (List StoredCell) Fault
cells_of_tile frame attrs places head before leaf count ranges =
    and_then (coords_of_tile leaf count ranges 0 frame.domain) (λ coords.
    and_then (vals_of_tile places count ranges 0 attrs) (λ vals.
    and_then (origins_if head.consolidated (length head.origins) count ranges) (λ origins.
    let cells = cells_from (rows_in count coords) origins (rows_in count vals) in
    unless cells (order_fault frame head.consolidated ranges 0 before cells))))
