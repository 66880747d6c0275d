use Rattle.std.proofs.Common.{◌+◌, ◌*◌}
use Rattle.ts_lanes.proofs.lanes.+fn-run_down-join+arg2+run_down.Given as goal

-- one lane fewer is left
abbrev pub decreases-run_down : goal.decreases-run_down
decreases-run_down g l = 2 * l.lane

abbrev pub decreases-join+arg2 : goal.decreases-join+arg2
decreases-join+arg2 g l = 2 * l.below + 1
