-- The values so far.
use Rattle.std.proofs.Common.{◌≡◌, take}
use Rattle.ts_select.specs.Columns.{column_at}
use Rattle.ts_select.proofs.columns.seen_column.Given as goal

abbrev pub invariant-loop-place : goal.invariant-loop-place
invariant-loop-place l = l.column ≡ column_at l.cells (take l.place-index l.places) l.field
