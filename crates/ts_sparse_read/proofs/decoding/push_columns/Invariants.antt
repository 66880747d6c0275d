-- What is still to be pushed gives what all columns give.
use Rattle.std.proofs.Common.{◌≡◌}
use Rattle.std.specs.Vec.Iter.{into_iter_items}
use Rattle.ts_sparse_read.specs.Decoded.{turned}
use Rattle.ts_sparse_read.proofs.decoding.push_columns.Given as goal

abbrev pub invariant-loop-column : goal.invariant-loop-column
invariant-loop-column l = turned l.lists.items (into_iter_items l.column-iterator) ≡ turned l.initial.lists.items (into_iter_items l.initial.column-iterator)
