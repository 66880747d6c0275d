use Rattle.std.proofs.Common.{take}
use Rattle.ts_model.specs.Scans.{cells_in, cells_of_deeds, Shows, left_by}
use Rattle.ts_model.proofs.scan.left_cells.Given as goal

-- the cells of the deeds so far were added
abbrev pub invariant-loop-deed : goal.invariant-loop-deed
invariant-loop-deed l = Shows (left_by l.scan) (cells_in l.cells) (cells_of_deeds (take l.deed-index l.scan.deeds.now))
