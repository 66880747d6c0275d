-- The value so many times so far.
use Rattle.std.proofs.Common.{◌≡◌, ◌++◌, replicate}
use Rattle.ts_table.proofs.column.Column.push_times.Given as goal

abbrev pub invariant-loop-time : goal.invariant-loop-time
invariant-loop-time l = l.self ≡ l.initial.self ++ replicate l._time l.val
