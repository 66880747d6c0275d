-- Tables of the versions that a write makes: their cells, and their places in global order.
use Rattle.std.specs.Prelude.{◌≡◌, ℕ, ◌+◌, ◌<◌, List, map, length, All, slice_index_or}
use Rattle.std.specs.List.{range_with_len, AllAdjacentBelow}
use Rattle.std.specs.List.Sorted.{IsPermutation}
use Rattle.std.specs.declared.cmp.Ordering.TheVariants.{Less}
use Rattle.ts_base.specs.declared.heads.Cell.{Cell}
use Rattle.ts_base.specs.declared.heads.Version.{Version}
use Rattle.ts_base.specs.declared.keys.Key.{Key}
use Rattle.ts_schema.specs.declared.frames.Frame.{Frame}
use Rattle.ts_table.specs.Tables.{version_or}
use Rattle.ts_model.specs.Commands.{global_order}

-- the cell of a version
abbrev pub cell_in : Version → Cell
cell_in v = record { coords = v.coords; row = v.row }

-- the cells of versions
abbrev pub cells_in : List Version → List Cell
cells_in vs = map cell_in vs

-- the version is of this write, its row written in this schema
abbrev pub IsOf : Key → Key → Version → Type 0
IsOf key schema v = (v.key ≡ key) × (v.schema ≡ schema)

-- all versions are
abbrev pub AreOf : Key → Key → List Version → Type 0
AreOf key schema vs = All (IsOf key schema) vs

-- two versions stand at one cell
pub record HasTwins (vs : List Version) : Type 0 where
  pub first : ℕ
  pub second : ℕ
  pub before : first < second
  pub within : second < length vs
  pub same : (version_or vs first).coords ≡ (version_or vs second).coords

-- of the versions at these places one stands at the cell of the next
pub record HasNeighbours (vs : List Version) (places : List ℕ) : Type 0 where
  pub at : ℕ
  pub within : at + 1 < length places
  pub same : (version_or vs (slice_index_or places at 0)).coords ≡ (version_or vs (slice_index_or places (at + 1) 0)).coords

-- none of the versions at these places stands at the cell of the next
abbrev pub AreApart : List Version → List ℕ → ℕ → Type 0
AreApart vs places high = AllAdjacentBelow (λ p q. (version_or vs p).coords ≡ (version_or vs q).coords → ⊥) places high

-- these are the places of versions in global order, each once
pub record AreGlobal (frame : Frame) (vs : List Version) (places : List ℕ) : Type 0 where
  pub each : IsPermutation (range_with_len 0 (length vs)) places
  pub up : AllAdjacentBelow (λ p q. global_order frame (version_or vs p).coords (version_or vs q).coords ≡ Less) places (length places)
