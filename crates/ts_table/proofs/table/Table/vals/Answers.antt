-- The column of an attribute has its values.
use Rattle.ts_table.proofs.Vals.{table_vals}
use Rattle.ts_table.proofs.table.Table.vals.Goals as goal

pub returns-then-attr-attrs : goal.returns-then-attr-attrs
returns-then-attr-attrs c =
    let t = c.self.inside in
    rw (← c.self.view_is) (table_vals t.origins.items t.dims.items t.attrs.items t.cells.items c.args.attr c.index-attrs-attr.result c.self.invariant
    (rw c.as_slice-attrs.ensures.value at c.if-attr-attrs.true) (rw c.as_slice-attrs.ensures.value at c.index-attrs-attr.is))
