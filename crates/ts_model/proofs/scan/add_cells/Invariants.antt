use Rattle.std.proofs.Common.{List, ◌++◌, take}
use Rattle.ts_base.specs.declared.heads.Cell.{Cell}
use Rattle.ts_model.specs.Scans.{cells_in, Shows, left_by}
use Rattle.ts_model.proofs.scan.add_cells.Given as goal

-- the cells so far were added
abbrev pub invariant-loop-cell : goal.invariant-loop-cell
invariant-loop-cell l = (before : List Cell) → Shows (left_by l.scan) (cells_in l.fn.cells) before → Shows (left_by l.scan) (cells_in l.cells) (before ++ take l.cell-index l.some)
