-- The row of the version has the items at its place.
use Rattle.ts_table.proofs.Tables.{all_row}
use Rattle.ts_table.proofs.table.Table.row.Goals as goal

pub returns : goal.returns
returns c =
    let within = rw (← c.self.view_is) at c.requires in
    rw (← c.self.view_is, all_row c.self.inside.origins.items c.self.inside.dims.items c.self.inside.attrs.items c.self.inside.cells.items c.args.place within)
    (rw c.as_slice.ensures.value at c.row_across.ensures)
