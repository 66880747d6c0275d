-- The calls so far.
use Rattle.std.proofs.Common.{◌≡◌, ◌++◌, map, take}
use Rattle.ts_sparse_read.specs.Opens.{span_call}
use Rattle.ts_sparse_read.proofs.planning.push_spans.Given as goal

abbrev pub invariant-loop-span : goal.invariant-loop-span
invariant-loop-span l = l.plan.items ≡ l.fn.plan.items ++ map span_call (take l.span-index l.spans)
