-- The cells of a tile, looked at column by column.
use Rattle.std.specs.Prelude.{◌≡◌, ℕ, ◌<◌, zero, suc, ℤ, pos, true, not, List, map, get_or, Option, Some, IsTrue}
use Rattle.std.specs.List.{All}
use Rattle.std.specs.Ordering.{is_gt}
use Rattle.ts_domain.specs.declared.boxes.SubBox.{SubBox}
use Rattle.ts_domain.specs.Boxes.{is_in_box}
use Rattle.ts_order.specs.Orders.{order_cmp, tile_numbers}
use Rattle.ts_schema.specs.declared.frames.Frame.{Frame}
use Rattle.ts_plain.specs.declared.stored.StoredCell.{StoredCell}
use Rattle.ts_plain.specs.Rules.{origin_rises}
use Rattle.ts_sparse_read.specs.declared.columns.Columns.{Columns}
use Rattle.ts_sparse_read.specs.declared.opened.Opened.{Opened}
use Rattle.ts_sparse_read.specs.Sifts.{spot_of, cells_in, cell_in, is_spot_wanted}

-- the coordinates that columns hold at a place
abbrev pub coords_there : List (List ℤ) → ℕ → List ℤ
coords_there coords k = map (λ xs. get_or xs k (pos 0)) coords

-- the cells that columns hold lie in the box
abbrev pub LieInLeaf : SubBox → Columns → Type 0
LieInLeaf leaf c = All (λ (d : StoredCell). IsTrue (is_in_box leaf d.coords)) (cells_in c)

-- all cells of the box lie in one space tile
abbrev pub IsOneTile : Frame → SubBox → Type 0
IsOneTile frame leaf = (a b : List ℤ) → IsTrue (is_in_box leaf a) → IsTrue (is_in_box leaf b) → tile_numbers frame.domain a ≡ tile_numbers frame.domain b

-- so do all cells that columns hold
abbrev pub ShareTile : Frame → Columns → Type 0
ShareTile frame c = (j k : ℕ) → j < c.count → k < c.count → tile_numbers frame.domain (cell_in c j).coords ≡ tile_numbers frame.domain (cell_in c k).coords

-- the cell behind which the one at a place of a tile stands: of the first, that before the tile
abbrev pub cell_behind : Option StoredCell → Columns → ℕ → Option StoredCell
cell_behind before c zero = before
cell_behind before c (suc k) = Some (cell_in c k)

-- the second cell may stand behind the first where both lie in one space tile: neither its coordinates are below in the cell order, nor does its write come too early
pub record MayStandBehind (frame : Frame) (first second : StoredCell) : Type 0 where
  pub rises : IsTrue (not (is_gt (order_cmp frame.cell first.coords second.coords)))
  pub later : IsTrue (origin_rises frame.dense (Some first) second.coords second.origin)

-- all cells that columns hold are wanted
abbrev pub AreAllWanted : Opened → Columns → Type 0
AreAllWanted opened c = (k : ℕ) → k < c.count → is_spot_wanted opened.want opened.head (spot_of (cell_in c k)) ≡ true
