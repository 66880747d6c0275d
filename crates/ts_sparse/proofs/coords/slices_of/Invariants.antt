-- The slices so far.
use Rattle.std.proofs.Common.{take}
use Rattle.ts_sparse.specs.Seen.{AreSlices}
use Rattle.ts_sparse.proofs.coords.slices_of.Given as goal

abbrev pub invariant-loop-batch : goal.invariant-loop-batch
invariant-loop-batch l = AreSlices l.dim (take l.batch-index l.batches) l.slices.items
