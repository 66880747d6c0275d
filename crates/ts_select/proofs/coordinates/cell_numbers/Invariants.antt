-- The dimensions so far.
use Rattle.std.proofs.Common.{◌≡◌, map}
use Rattle.std.specs.List.{range_with_len}
use Rattle.ts_table.specs.Tables.{column_of}
use Rattle.ts_select.proofs.coordinates.cell_numbers.Given as goal

abbrev pub invariant-loop-dim : goal.invariant-loop-dim
invariant-loop-dim l = l.numbers.items ≡ map (column_of l.cells) (range_with_len 0 l.dim)
