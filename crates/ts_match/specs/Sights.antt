-- The value of a field at a cell, as the code has it.
use Rattle.std.specs.Prelude.{ℕ}
use Rattle.ts_base.specs.declared.values.Val.{Val}
use Rattle.ts_cond.specs.Picks.{picked_value}
use Rattle.ts_match.specs.declared.matching.Sight.{Sight}

-- the value that is seen for each field, by its place
unfoldable pub value_in : Sight → ℕ → Val
value_in sight = picked_value sight.picks.now sight.fields.now sight.cell.now.coords sight.cell.now.row
