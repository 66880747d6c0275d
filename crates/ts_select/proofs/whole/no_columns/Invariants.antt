-- So many so far.
use Rattle.std.proofs.Common.{◌≡◌, length}
use Rattle.ts_select.proofs.whole.no_columns.Given as goal

abbrev pub invariant-loop-place : goal.invariant-loop-place
invariant-loop-place l = length l.columns.items ≡ l.place
