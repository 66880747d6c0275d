use Rattle.std.proofs.Common.{◌≡◌, ◌++◌, drop, Ok}
use Rattle.ts_model.specs.Commands.{◌or_else◌, dim_column, columns}
use Rattle.ts_writer.proofs.columns.dim_columns.Given as goal

abbrev pub invariant-loop-dim : goal.invariant-loop-dim
invariant-loop-dim l = (columns (dim_column l.cols l.count) (drop l.dim-index l.dims) or_else λ rest. Ok (l.found ++ rest)) ≡ columns (dim_column l.cols l.count) l.dims
