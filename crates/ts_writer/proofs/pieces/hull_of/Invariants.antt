-- The hull of the cells so far.
use Rattle.std.proofs.Common.{◌≡◌, drop, length}
use Rattle.ts_domain.specs.Boxes.{IsBox}
use Rattle.ts_model.specs.Commands.{least_of_cells, greatest_of_cells, low_of_cells, high_of_cells}
use Rattle.ts_writer.specs.Tables.{cells_in}
use Rattle.ts_writer.proofs.pieces.hull_of.Given as goal

abbrev pub invariant-loop-place : goal.invariant-loop-place
invariant-loop-place l =
    IsBox l.hull × (length l.hull.low ≡ length l.domain) × (least_of_cells l.hull.low (drop l.place (cells_in l.table)) ≡ low_of_cells (cells_in l.table))
    × (greatest_of_cells l.hull.high (drop l.place (cells_in l.table)) ≡ high_of_cells (cells_in l.table))
