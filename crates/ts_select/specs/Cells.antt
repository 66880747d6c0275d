-- The cells of versions, and their fields.
use Rattle.std.specs.Prelude.{ℕ, ℤ, List}
use Rattle.ts_base.specs.declared.heads.Version.{Version}
use Rattle.ts_base.specs.declared.values.Val.{Val}
use Rattle.ts_table.specs.Tables.{version_or}
use Rattle.ts_model.specs.Queries.{fields_of}

-- the cell of a version: its coordinates and its row
abbrev pub cell_of : Version → List ℤ × List Val
cell_of v = (v.coords, v.row)

-- the cell of the version at a place
abbrev pub cell_at : List Version → ℕ → List ℤ × List Val
cell_at versions place = cell_of (version_or versions place)

-- all fields of the version at a place
abbrev pub fields_at : List Version → ℕ → List Val
fields_at versions place = fields_of (cell_at versions place)
