-- What is laid, and what is left to lay.
use Rattle.ts_sparse.proofs.LayLaws.{LayingDims}
use Rattle.ts_sparse.proofs.building.lay_dims.Given as goal

abbrev pub invariant-loop-dim : goal.invariant-loop-dim
invariant-loop-dim l = LayingDims l.fn.laid l.dims l.piece l.laid l.dim
