use Rattle.std.proofs.Common.{◌≡◌, map}
use Rattle.std.specs.List.{range_with_len}
use Rattle.ts_table.specs.Tables.{column_of}
use Rattle.ts_reader.proofs.sides.columns_of.Given as goal

-- the columns of the dimensions so far
abbrev pub invariant-loop-dim : goal.invariant-loop-dim
invariant-loop-dim l = l.dims.items ≡ map (column_of l.versions) (range_with_len 0 l.dim)
