use Rattle.std.proofs.Common.{◌≡◌, drop}
use Rattle.ts_model.specs.Commands.{column}
use Rattle.ts_writer.proofs.columns.column.Given as goal

abbrev pub invariant-loop-col : goal.invariant-loop-col
invariant-loop-col l = column (drop l.col-index l.cols) l.name ≡ column l.cols l.name
