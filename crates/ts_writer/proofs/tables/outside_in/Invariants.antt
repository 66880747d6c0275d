-- What is left of the cells tells the refusal.
use Rattle.std.proofs.Common.{◌≡◌, drop}
use Rattle.ts_model.specs.Commands.{outside_in}
use Rattle.ts_writer.specs.Tables.{cells_in}
use Rattle.ts_writer.proofs.tables.outside_in.Given as goal

abbrev pub invariant-loop-place : goal.invariant-loop-place
invariant-loop-place l = outside_in l.domain (drop l.place (cells_in l.table)) ≡ outside_in l.domain (cells_in l.table)
