-- Each cell so far names an origin.
use Rattle.std.proofs.Common.{ℕ, ◌<◌, length, get_or}
use Rattle.ts_table.proofs.table.are_named.Given as goal

abbrev pub invariant-loop-cell : goal.invariant-loop-cell
invariant-loop-cell l = (k d : ℕ) → k < l.cell-index → get_or l.cells k d < length l.origins
