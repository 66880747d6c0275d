-- Where cells stand, and their places in a layout.
use Rattle.std.specs.Prelude.{◌≡◌, ℕ, ℤ, pos, List, map, length}
use Rattle.std.specs.List.{slice_index_or, AllAdjacentBelow}
use Rattle.std.specs.List.Sorted.{IsPermutation}
use Rattle.std.specs.declared.cmp.Ordering.TheVariants.{Less}
use Rattle.ts_base.specs.declared.heads.Version.{Version}
use Rattle.ts_domain.specs.declared.orders.Layout.{Layout}
use Rattle.ts_schema.specs.declared.frames.Frame.{Frame}
use Rattle.ts_table.specs.Tables.{version_or}
use Rattle.ts_model.specs.Queries.{layout_cmp}

-- the coordinates of the versions at these places along a dimension, 0 where a version has none
abbrev pub numbers_at : List Version → List ℕ → ℕ → List ℤ
numbers_at versions places dim = map (λ place. slice_index_or (version_or versions place).coords dim (pos 0)) places

-- up to this index each of the versions at these places comes before the next in the layout
abbrev pub Climb : Frame → Layout → List Version → List ℕ → ℕ → Type 0
Climb frame layout versions places high = AllAdjacentBelow (λ p q. layout_cmp frame layout (version_or versions p).coords (version_or versions q).coords ≡ Less) places high

-- these are the same places, and the versions there climb in the layout
pub record AreInLayout (frame : Frame) (layout : Layout) (versions : List Version) (places sorted : List ℕ) : Type 0 where
  pub each : IsPermutation places sorted
  pub climb : Climb frame layout versions sorted (length sorted)
