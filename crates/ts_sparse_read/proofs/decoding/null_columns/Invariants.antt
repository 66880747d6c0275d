-- The columns so far.
use Rattle.std.proofs.Common.{◌≡◌, take}
use Rattle.ts_sparse_read.specs.Decoded.{null_columns}
use Rattle.ts_sparse_read.proofs.decoding.null_columns.Given as goal

abbrev pub invariant-loop-count : goal.invariant-loop-count
invariant-loop-count l = l.columns ≡ null_columns (take l.count-index l.counts)
