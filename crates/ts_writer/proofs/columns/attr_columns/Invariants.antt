use Rattle.std.proofs.Common.{◌≡◌, ◌++◌, drop, Ok}
use Rattle.ts_model.specs.Commands.{◌or_else◌, attr_column, columns}
use Rattle.ts_writer.proofs.columns.attr_columns.Given as goal

abbrev pub invariant-loop-attr : goal.invariant-loop-attr
invariant-loop-attr l = (columns (attr_column l.cols l.count) (drop l.attr-index l.attrs) or_else λ rest. Ok (l.found ++ rest)) ≡ columns (attr_column l.cols l.count) l.attrs
