-- What was kept, and what is left to be kept, make the whole.
use Rattle.std.proofs.Common.{◌≡◌, ◌++◌, drop}
use Rattle.ts_table.specs.Orders.{cells_cmp}
use Rattle.ts_table.specs.Merges.{last_alone}
use Rattle.ts_table.proofs.merging.last_alone.Given as goal

abbrev pub invariant-loop-place : goal.invariant-loop-place
invariant-loop-place l = l.list ++ last_alone (cells_cmp l.domain l.order) (drop l.place l.table) ≡ last_alone (cells_cmp l.domain l.order) l.table
