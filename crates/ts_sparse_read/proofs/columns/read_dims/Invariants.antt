-- The columns so far, which span the sides so far, and those that are left.
use Rattle.ts_sparse_read.proofs.ColumnSteps.{GoingCoords, Spanning}
use Rattle.ts_sparse_read.proofs.columns.read_dims.Given as goal

abbrev pub invariant-loop-dim : goal.invariant-loop-dim
invariant-loop-dim l = record {
  read : GoingCoords l.leaf l.count l.ranges l.dims l.columns l.dim;
  sides : Spanning l.count l.leaf.low l.leaf.high l.columns l.dim;
}
