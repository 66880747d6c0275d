-- The lines of the lanes so far and of those that are left are all.
use Rattle.std.proofs.Common.{◌≡◌, ◌++◌, ◌-◌}
use Rattle.ts_law.specs.Fresh.{by_lanes, in_lane_order}
use Rattle.ts_top.specs.Items.{numbered}
use Rattle.ts_top.proofs.items.in_lane_order.Given as goal

abbrev pub invariant-loop-lane : goal.invariant-loop-lane
invariant-loop-lane l = numbered l.items.items ++ by_lanes (8 - l.lane) l.lane l.lines ≡ in_lane_order l.lines
