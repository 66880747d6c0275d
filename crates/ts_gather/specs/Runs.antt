-- The writes of rows, one for each run of rows.
use Rattle.std.specs.Prelude.{◌≡◌, ℕ, ◌-◌, ◌<◌, ◌≤◌, List, map, length, get_or}
use Rattle.std.specs.List.{All}
use Rattle.ts_base.specs.declared.keys.Key.{Key}
use Rattle.ts_table.specs.declared.origins.Origin.{Origin}
use Rattle.ts_table.specs.Tables.{no_origin}
use Rattle.ts_gather.specs.declared.runs.Runs.{Runs}
use Rattle.ts_gather.specs.Rows.{write_at, origin_there}

-- each row has its write
pub record AreRuns (keys : List Key) (schema : Key) (origins rows : List ℕ) (runs : Runs) : Type 0 where
  pub named : All (λ cell. cell < length (runs.origins).items) (runs.cells).items
  pub each : map (λ cell. get_or (runs.origins).items cell no_origin) (runs.cells).items ≡ map (origin_there keys schema origins) rows

-- the last of the writes is the one at this place among keys
pub record EndsWith (keys : List Key) (schema : Key) (writes : List Origin) (o : ℕ) : Type 0 where
  pub some : 1 ≤ length writes
  pub last : get_or writes (length writes - 1) no_origin ≡ write_at keys schema o
