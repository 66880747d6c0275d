use Rattle.std.proofs.Common.{◌≡◌, ◌≤◌, max, drop}
use Rattle.ts_top.specs.Items.{lanes_in}
use Rattle.ts_top.proofs.queues.lanes_in.Given as goal

-- the lanes of the lines so far and those of the lines that are left are all
abbrev pub invariant-loop-line : goal.invariant-loop-line
invariant-loop-line l = (max l.lanes (lanes_in (drop l.line-index l.lines)) ≡ lanes_in l.lines) × (l.lanes ≤ 8)
