-- Versions in batches, each of which lies in memory as rows, as columns or as the columns of a box.
use Rattle.std.specs.Prelude.{List}
use Rattle.std.specs.List.{flat_map}
use Rattle.ts_base.specs.declared.heads.Version.{Version}
use Rattle.ts_batch.specs.declared.batch.Held.{Held}
use Rattle.ts_batch.specs.declared.batch.Held.TheVariants.{Rows, Columns, Box}

-- the versions that are held
abbrev pub versions_held : Held → List Version
versions_held (Rows versions) = versions
versions_held (Columns versions) = versions
versions_held (Box versions) = versions

-- the versions of batches, one batch behind another
abbrev pub versions_of : List (List Version) → List Version
versions_of batches = flat_map (λ batch. batch) batches
