use Rattle.std.proofs.Common.{◌≡◌, drop}
use Rattle.ts_model.specs.Commands.{stray}
use Rattle.ts_writer.proofs.columns.stray.Given as goal

abbrev pub invariant-loop-col : goal.invariant-loop-col
invariant-loop-col l = stray l.dims l.attrs (drop l.col-index l.cols) ≡ stray l.dims l.attrs l.cols
