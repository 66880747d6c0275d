-- The values so far.
use Rattle.std.proofs.Common.{◌≡◌, take}
use Rattle.ts_column.proofs.rows.row_of.Given as goal

abbrev pub invariant-loop-place : goal.invariant-loop-place
invariant-loop-place l = l.row ≡ take l.place l.column
