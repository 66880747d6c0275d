-- The value of a field at a cell, as the code has it.
use Rattle.std.specs.Prelude.{ℕ}
use Rattle.ts_base.specs.declared.values.Val.{Val}
use Rattle.ts_base.specs.declared.values.Val.TheVariants.{Null, Int}
use Rattle.ts_cond.specs.declared.matching.Seen.{Seen}
use Rattle.ts_cond.specs.declared.matching.Sight.{Sight}
use Rattle.ts_cond.specs.declared.matching.Seen.TheVariants.{Coordinate, Stored, Nothing}
use Rattle.ts_cond.specs.Picks.{picked_value}

abbrev pub seen_val : Seen → Val
seen_val (Coordinate z) = Int z
seen_val (Stored val) = val.now
seen_val Nothing = Null

-- the value that is seen for each field, by its place
unfoldable pub value_in : Sight → ℕ → Val
value_in sight = picked_value sight.picks.now sight.fields.now sight.coords.now sight.row.now
