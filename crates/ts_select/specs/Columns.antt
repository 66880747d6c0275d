-- Fields of versions at some places, as columns.
use Rattle.std.specs.Prelude.{◌≡◌, ℕ, ◌<◌, List, [], All, get_or, length, map, filter, nat_lt, Option, Some, None}
use Rattle.std.specs.List.{slice_index_or, range_with_len}
use Rattle.ts_base.specs.declared.heads.Version.{Version}
use Rattle.ts_base.specs.declared.values.Val.{Val}
use Rattle.ts_base.specs.declared.values.Val.TheVariants.{Null}
use Rattle.ts_select.specs.Cells.{fields_at}

-- a value, or null where there is none
abbrev pub or_null : Option Val → Val
or_null (Some val) = val
or_null None = Null

-- the values of a field at these places, null where there is no such field
abbrev pub column_at : List Version → List ℕ → ℕ → List Val
column_at versions places field = map (λ place. slice_index_or (fields_at versions place) field Null) places

-- the columns of those fields whose places lie below the number of all fields
abbrev pub columns_at : List Version → List ℕ → ℕ → List ℕ → List (List Val)
columns_at versions places count fields = map (column_at versions places) (filter (λ field. nat_lt field count) fields)

-- the values of a field of all versions, null where there is no such field
abbrev pub whole_column : List Version → ℕ → List Val
whole_column versions field = column_at versions (range_with_len 0 (length versions)) field

-- so many columns, among them those of these fields
pub record HaveFields (versions : List Version) (count : ℕ) (fields : List ℕ) (columns : List (List Val)) : Type 0 where
  pub many : length columns ≡ count
  pub there : All (λ field. field < count → get_or columns field [] ≡ whole_column versions field) fields

-- the column has the values of a field of all versions
pub record HasField (versions : List Version) (field : ℕ) (column : List Val) : Type 0 where
  pub long : length column ≡ length versions
  pub there : (place : ℕ) → place < length versions → slice_index_or (fields_at versions place) field Null ≡ get_or column place Null
