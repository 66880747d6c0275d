-- The places of a list of versions, in an order of their cells.
use Rattle.std.specs.Prelude.{ℕ, List, length}
use Rattle.std.specs.List.{range_with_len}
use Rattle.std.specs.List.Sorted.{IsPermutation, IsSorted}
use Rattle.std.specs.Ordering.{nat_cmp, ordering_then}
use Rattle.std.specs.declared.cmp.Ordering.{Ordering}
use Rattle.ts_base.specs.declared.heads.Version.{Version}
use Rattle.ts_table.specs.Tables.{version_or}
use Rattle.ts_table.specs.Merges.{Order}

-- how two places of a list stand: by the cells of the versions there, and those of one cell by the places
abbrev pub place_cmp : Order → List Version → ℕ → ℕ → Ordering
place_cmp cmp versions i j = ordering_then (cmp (version_or versions i).coords (version_or versions j).coords) (nat_cmp i j)

-- these are the places of a list, each once, in the order of the cells
pub record AreOrdered (cmp : Order) (versions : List Version) (places : List ℕ) : Type 0 where
  pub each : IsPermutation (range_with_len 0 (length versions)) places
  pub sorted : IsSorted (place_cmp cmp versions) places
