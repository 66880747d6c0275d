-- The dimensions that are left say of all.
use Rattle.ts_sparse_read.proofs.NearLaws.{Along}
use Rattle.ts_sparse_read.proofs.near.is_between.Given as goal

abbrev pub invariant-loop-dim : goal.invariant-loop-dim
invariant-loop-dim l = Along l.low l.high l.columns l.place l.dim
