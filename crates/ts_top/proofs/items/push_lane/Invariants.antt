-- The lines so far and those that are left make the lane, and no number is greater than the count of the lines so far.
use Rattle.std.proofs.Common.{◌≡◌, ◌++◌, ◌+◌, ◌≤◌, drop}
use Rattle.ts_law.specs.Fresh.{lines_in}
use Rattle.ts_top.specs.Items.{numbered}
use Rattle.ts_top.proofs.items.push_lane.Given as goal

abbrev pub invariant-loop-line : goal.invariant-loop-line
invariant-loop-line l = record {
  all : numbered l.items.items ++ lines_in l.lane l.number (drop l.line-index l.lines) ≡ numbered l.fn.items.items ++ lines_in l.lane 1 l.lines;
  few : l.number ≤ l.line-index + 1;
}
