use Rattle.std.proofs.Common.{◌≡◌, drop}
use Rattle.ts_model.specs.Deeds.{row_at}
use Rattle.ts_model.proofs.finding.find_row.Given as goal

-- the row is among the cells from here on
abbrev pub invariant-loop-cell : goal.invariant-loop-cell
invariant-loop-cell l = row_at l.at (drop l.cell-index l.cells) ≡ row_at l.at l.cells
