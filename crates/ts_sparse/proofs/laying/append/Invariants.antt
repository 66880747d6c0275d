-- The lengths so far.
use Rattle.std.proofs.Common.{◌≡◌, ◌++◌, take}
use Rattle.ts_sparse.proofs.laying.append.Given as goal

abbrev pub invariant-loop-size : goal.invariant-loop-size
invariant-loop-size l = l.sizes ≡ l.fn.sizes ++ take l.size-index l.more
