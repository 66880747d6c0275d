-- What was merged, and what is left of both lists, make the whole.
use Rattle.std.proofs.Common.{◌≤◌, ◌+◌, ◌-◌, length}
use Rattle.ts_table.specs.Orders.{cells_cmp}
use Rattle.ts_table.specs.Merges.{merged}
use Rattle.ts_table.proofs.MergeSteps.{Goes}
use Rattle.ts_table.proofs.merging.merge_slices.Given as goal

abbrev pub invariant-loop-i : goal.invariant-loop-i
invariant-loop-i l =
    let order = cells_cmp l.domain l.order in
    (l.i ≤ length l.first) × (l.j ≤ length l.second) × Goes order l.first l.second l.i l.j l.list (merged order l.first l.second)

abbrev pub decreases-loop-i : goal.decreases-loop-i
decreases-loop-i l = (length l.first + length l.second) - (l.i + l.j)
