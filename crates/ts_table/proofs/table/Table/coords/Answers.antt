-- The coordinates of the version are the items at its place.
use Rattle.std.proofs.Common.{sym}
use Rattle.ts_table.proofs.Tables.{all_coords}
use Rattle.ts_table.proofs.table.Table.coords.Goals as goal

pub returns : goal.returns
returns c =
    let within = rw (← c.self.view_is) at c.requires in
    rw (c.coords_across.ensures, c.as_slice.ensures.value, ← c.self.view_is)
    (sym (all_coords c.self.inside.origins.items c.self.inside.dims.items c.self.inside.attrs.items c.self.inside.cells.items c.args.place within))
