use Rattle.std.proofs.Common.{◌-◌, length}
use Rattle.ts_rtree.proofs.Steps.{Rising}
use Rattle.ts_rtree.proofs.building.all_nodes.Given as goal

abbrev pub invariant-loop-start : goal.invariant-loop-start
invariant-loop-start l = Rising l.leaves l.boxes l.start

abbrev pub decreases-loop-start : goal.decreases-loop-start
decreases-loop-start l = length l.boxes - l.start
