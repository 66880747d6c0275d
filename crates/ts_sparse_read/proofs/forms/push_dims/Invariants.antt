use Rattle.std.proofs.Common.{◌≡◌, ◌++◌, map, take}
use Rattle.ts_footer.specs.Columns.{dim_form}
use Rattle.ts_sparse_read.proofs.forms.push_dims.Given as goal

-- the forms of the dimensions so far
abbrev pub invariant-loop-dim : goal.invariant-loop-dim
invariant-loop-dim l = l.forms ≡ l.fn.forms ++ map dim_form (take l.dim-index l.dims)
