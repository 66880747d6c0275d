-- The column of a dimension has the coordinates of all versions.
use Rattle.ts_table.proofs.Tables.{column_is, no_column}
use Rattle.ts_table.proofs.table.Table.column.Goals as goal

pub returns-then-dim-dims-clause-some : goal.returns-then-dim-dims-clause-some
returns-then-dim-dims-clause-some c =
    let t = c.self.inside in
    rw (← c.self.view_is) (column_is t.origins.items t.dims.items t.attrs.items t.cells.items c.args.dim c.self.invariant.dims_long c.index-dims-dim.result
    (rw c.as_slice-dims.ensures.value at c.if-dim-dims.true) (rw c.as_slice-dims.ensures.value at c.index-dims-dim.is))

pub returns-else-dim-dims-clause-none : goal.returns-else-dim-dims-clause-none
returns-else-dim-dims-clause-none c =
    let t = c.self.inside in
    rw (← c.self.view_is) (no_column t.origins.items t.dims.items t.attrs.items t.cells.items c.args.dim c.self.invariant.dims_long (rw c.as_slice-dims.ensures.value at c.if-dim-dims.false))
