-- The number so many times so far.
use Rattle.std.proofs.Common.{◌≡◌, ◌++◌, replicate}
use Rattle.ts_gather.proofs.sides.push_times.Given as goal

abbrev pub invariant-loop-time : goal.invariant-loop-time
invariant-loop-time l = l.column ≡ l.initial.column ++ replicate l.time l.number
