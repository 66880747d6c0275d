-- What tiles have that is wanted, hulls of cells, and the order of cells tile by tile.
use Rattle.std.specs.Prelude.{ℕ, nat_lt, ◌&&◌, IsTrue, List, [], ◌∷◌, length, get_or, Option, Some}
use Rattle.std.specs.List.{flat_map, All}
use Rattle.ts_base.specs.declared.heads.Version.{Version}
use Rattle.ts_domain.specs.declared.boxes.SubBox.{SubBox}
use Rattle.ts_domain.specs.Boxes.{is_in_box, Covers}
use Rattle.ts_schema.specs.declared.frames.Frame.{Frame}
use Rattle.ts_schema.specs.declared.wants.Want.{Want}
use Rattle.ts_schema.specs.Wants.{taken}
use Rattle.ts_plain.specs.declared.stored.StoredHead.{StoredHead}
use Rattle.ts_plain.specs.declared.stored.StoredCell.{StoredCell}
use Rattle.ts_plain.specs.Rules.{coords_rise, origin_rises}

-- what the tiles at these places have that is wanted
abbrev pub taken_at : Want → List (List Version) → List ℕ → List Version
taken_at want tiles places = flat_map (λ i. taken want (get_or tiles i [])) places

-- the box has all these cells, and lies in every box that has them
pub record IsHullOfCells (hull : SubBox) (cells : List StoredCell) : Type 0 where
  pub covers : All (λ c. IsTrue (is_in_box hull c.coords)) cells
  pub least : (outer : SubBox) → All (λ c. IsTrue (is_in_box outer c.coords)) cells → Covers outer hull

-- ---- order

-- the cell may stand behind the one before
pub record MayFollow (frame : Frame) (head : StoredHead) (before : Option StoredCell) (cell : StoredCell) : Type 0 where
  pub rises : IsTrue (coords_rise frame before cell.coords)
  pub known : IsTrue (nat_lt cell.origin (length head.origins) && origin_rises frame.dense before cell.coords cell.origin)

-- each cell may stand behind the one before it
abbrev pub Rise : Frame → StoredHead → Option StoredCell → List StoredCell → Type 0
Rise frame head before [] = Unit {0}
Rise frame head before (c ∷ cells) = MayFollow frame head before c × Rise frame head (Some c) cells

-- the last of these, or what came before
abbrev pub last_or : Option StoredCell → List StoredCell → Option StoredCell
last_or before [] = before
last_or before (c ∷ cells) = last_or (Some c) cells

-- tile by tile: each tile rises, behind the last cell of those before it
abbrev pub TilesRise : Frame → StoredHead → Option StoredCell → List (List StoredCell) → Type 0
TilesRise frame head before [] = Unit {0}
TilesRise frame head before (tile ∷ tiles) = Rise frame head before tile × TilesRise frame head (last_or before tile) tiles
