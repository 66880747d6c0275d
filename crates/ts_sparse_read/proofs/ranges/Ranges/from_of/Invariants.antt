-- The part is not among those before.
use Rattle.ts_sparse_read.proofs.RangeLaws.{SeekingFrom}
use Rattle.ts_sparse_read.proofs.ranges.Ranges.from_of.Given as goal

abbrev pub invariant-loop-place : goal.invariant-loop-place
invariant-loop-place l = SeekingFrom l.spans l.part l.place
