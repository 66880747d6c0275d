-- The columns have the values of the versions.
use Rattle.ts_table.proofs.Vals.{box_rows}
use Rattle.ts_table.proofs.box_table.BoxTable.into_attrs.Goals as goal

pub returns : goal.returns
returns c =
    let t = c.self.inside in
    rw (← c.self.view_is) (box_rows t.origin t.attrs.items t.order t.sub c.self.invariant)
