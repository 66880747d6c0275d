-- Where the integers and the values of batches are seen.
use Rattle.std.specs.Prelude.{◌≡◌, ℕ, ℤ, pos, List, map, get_or, Option}
use Rattle.std.specs.Option.{IfSome}
use Rattle.ts_base.specs.declared.heads.Version.{Version}
use Rattle.ts_base.specs.declared.values.Val.TheVariants.{Int}
use Rattle.ts_wire.specs.Exact.{EachFits}
use Rattle.ts_table.specs.declared.numbers.Integers.{Integers}
use Rattle.ts_table.specs.Widths.{numbers_seen}
use Rattle.ts_table.specs.Tables.{column_of, HasVals}
use Rattle.ts_sparse.specs.declared.values.Source.{Source}
use Rattle.ts_sparse.specs.declared.values.Source.TheVariants as source

-- the coordinate of a version along a dimension
abbrev pub coord_of : ℕ → Version → ℤ
coord_of dim v = get_or v.coords dim (pos 0)

-- the slice has the coordinates of all versions along a dimension
abbrev pub IsSlice : ℕ → List Version → Option Integers → Type 0
IsSlice dim versions slice = IfSome slice (λ (all : Integers). numbers_seen all ≡ column_of versions dim)

-- each batch has its slice
abbrev pub AreSlices : ℕ → List (List Version) → List (Option Integers) → Type 0
AreSlices dim batches slices = EachFits (IsSlice dim) batches slices

-- the values of an attribute of all versions are seen there
abbrev pub IsSource : ℕ → List Version → Source → Type 0
IsSource attr versions (source.Integers all) = HasVals versions attr (map Int (numbers_seen all))
IsSource attr versions (source.Column column) = HasVals versions attr column.now
IsSource attr versions source.Versions = Unit {0}

-- each batch has its source
abbrev pub AreSources : ℕ → List (List Version) → List Source → Type 0
AreSources attr batches sources = EachFits (IsSource attr) batches sources
