use Rattle.std.proofs.Common.{◌≡◌, ◌+◌, ◌*◌, ◌^◌, ◌≤◌, drop}
use Rattle.ts_top.specs.Summaries.{sum_of}
use Rattle.ts_top.proofs.summaries.sum_of.Given as goal

abbrev pub invariant-loop-row : goal.invariant-loop-row
invariant-loop-row l = (l.sum + sum_of (drop l.row l.rows) ≡ sum_of l.rows) × (l.sum ≤ 2 ^ 63 * l.row)
