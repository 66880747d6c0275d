-- The sources so far.
use Rattle.std.proofs.Common.{take}
use Rattle.ts_sparse.specs.Seen.{AreSources}
use Rattle.ts_sparse.proofs.values.sources_of.Given as goal

abbrev pub invariant-loop-batch : goal.invariant-loop-batch
invariant-loop-batch l = AreSources l.attr (take l.batch-index l.batches) l.sources.items
