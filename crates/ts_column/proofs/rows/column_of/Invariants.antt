-- The values so far.
use Rattle.std.proofs.Common.{◌≡◌, take}
use Rattle.ts_column.specs.Spelled.{value_column}
use Rattle.ts_column.proofs.rows.column_of.Given as goal

abbrev pub invariant-loop-row : goal.invariant-loop-row
invariant-loop-row l = l.values ≡ value_column l.column (take l.row-index l.rows)
