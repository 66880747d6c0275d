-- The columns have the values of the versions.
use Rattle.ts_table.proofs.Vals.{table_rows}
use Rattle.ts_table.proofs.table.Table.into_attrs.Goals as goal

pub returns : goal.returns
returns c =
    let t = c.self.inside in
    rw (← c.self.view_is) (table_rows t.origins.items t.dims.items t.attrs.items t.cells.items c.self.invariant)
