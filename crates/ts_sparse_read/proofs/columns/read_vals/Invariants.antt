-- The columns so far, and those that are left.
use Rattle.std.proofs.Common.{◌≡◌, List, length}
use Rattle.std.specs.List.{All}
use Rattle.ts_base.specs.declared.values.Val.{Val}
use Rattle.ts_sparse_read.proofs.ColumnSteps.{GoingVals}
use Rattle.ts_sparse_read.proofs.columns.read_vals.Given as goal

abbrev pub invariant-loop-place : goal.invariant-loop-place
invariant-loop-place l = record {
  read : GoingVals l.places l.count l.ranges l.attrs l.columns l.place;
  many : All (λ (column : List Val). length column ≡ l.count) l.columns;
}
