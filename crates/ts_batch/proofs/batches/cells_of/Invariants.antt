use Rattle.std.proofs.Common.{◌≡◌, take}
use Rattle.ts_batch.specs.Batches.{versions_of}
use Rattle.ts_batch.proofs.batches.cells_of.Given as goal

-- the versions of the batches so far
abbrev pub invariant-loop-batch : goal.invariant-loop-batch
invariant-loop-batch l = l.list ≡ versions_of (take l.batch-index l.batches)
