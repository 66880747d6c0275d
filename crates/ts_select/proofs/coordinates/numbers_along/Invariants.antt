-- The cells so far.
use Rattle.std.proofs.Common.{◌≡◌, take}
use Rattle.ts_table.specs.Tables.{column_of}
use Rattle.ts_select.proofs.coordinates.numbers_along.Given as goal

abbrev pub invariant-loop-place : goal.invariant-loop-place
invariant-loop-place l = l.numbers ≡ take l.place (column_of l.cells l.dim)
