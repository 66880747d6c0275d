-- The lists so far.
use Rattle.std.proofs.Common.{◌≡◌, [], replicate}
use Rattle.ts_sparse_read.proofs.decoding.no_columns.Given as goal

abbrev pub invariant-loop-tile : goal.invariant-loop-tile
invariant-loop-tile l = l.lists.items ≡ replicate l._tile-index []
