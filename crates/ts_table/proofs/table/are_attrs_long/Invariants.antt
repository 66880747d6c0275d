-- Each column so far is long enough.
use Rattle.std.proofs.Common.{◌≡◌, ℕ, ◌<◌, List, length, get_or}
use Rattle.ts_base.specs.declared.values.Val.{Val}
use Rattle.ts_table.proofs.table.are_attrs_long.Given as goal

abbrev pub invariant-loop-column : goal.invariant-loop-column
invariant-loop-column l = (k : ℕ) (d : List Val) → k < l.column-index → length (get_or l.attrs k d) ≡ l.count
