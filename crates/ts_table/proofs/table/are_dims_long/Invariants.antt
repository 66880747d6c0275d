-- Each column so far is long enough.
use Rattle.std.proofs.Common.{◌≡◌, ℕ, ◌<◌, List, length, get_or}
use Rattle.std.specs.Prelude.{ℤ}
use Rattle.ts_table.proofs.table.are_dims_long.Given as goal

abbrev pub invariant-loop-column : goal.invariant-loop-column
invariant-loop-column l = (k : ℕ) (d : List ℤ) → k < l.column-index → length (get_or l.dims k d) ≡ l.count
