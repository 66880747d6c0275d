-- The calls so far.
use Rattle.std.proofs.Common.{◌≡◌, ◌++◌, map, take}
use Rattle.ts_sparse_read.specs.Opens.{size_call}
use Rattle.ts_sparse_read.proofs.planning.push_sizes.Given as goal

abbrev pub invariant-loop-column : goal.invariant-loop-column
invariant-loop-column l = l.plan.items ≡ l.fn.plan.items ++ map size_call (take l.column-index l.used)
