use Rattle.std.proofs.Common.{◌≡◌, []}
use Rattle.std.specs.Prelude.{replicate}
use Rattle.ts_top.proofs.queues.no_lines.Given as goal

-- so many queues are there
abbrev pub invariant-loop-lane : goal.invariant-loop-lane
invariant-loop-lane l = l.queues.items ≡ replicate l._lane []
