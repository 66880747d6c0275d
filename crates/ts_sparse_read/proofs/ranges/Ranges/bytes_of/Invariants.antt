-- The part is not among those before.
use Rattle.ts_sparse_read.proofs.RangeLaws.{SeekingBytes}
use Rattle.ts_sparse_read.proofs.ranges.Ranges.bytes_of.Given as goal

abbrev pub invariant-loop-place : goal.invariant-loop-place
invariant-loop-place l = SeekingBytes l.spans l.got l.part l.place
