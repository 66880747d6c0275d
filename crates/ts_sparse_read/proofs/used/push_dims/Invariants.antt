-- What is named, and what is left to name.
use Rattle.ts_sparse_read.proofs.UsedLaws.{NamingDims}
use Rattle.ts_sparse_read.proofs.used.push_dims.Given as goal

abbrev pub invariant-loop-dim : goal.invariant-loop-dim
invariant-loop-dim l = NamingDims l.fn.parts l.dims l.parts l.dim
