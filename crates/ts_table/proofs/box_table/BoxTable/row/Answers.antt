-- The row of a version has the items at its place.
use Rattle.std.proofs.Common.{arith}
use Rattle.ts_table.proofs.BoxTables.{version_over, count_is}
use Rattle.ts_table.proofs.box_table.BoxTable.row.Goals as goal

pub returns : goal.returns
returns c =
    let within = rw (← c.self.view_is) at c.requires in
    let fields = version_over c.self.inside.origin c.self.inside.attrs.items c.self.inside.order c.self.inside.sub c.args.place within in
    rw (← c.self.view_is, fields.2) (rw c.as_slice.ensures.value at c.row_across.ensures)

pub row_across-requires : goal.row_across-requires
row_across-requires c = λ k d h.
    let within = rw (← c.self.view_is) at c.requires in
    let count = count_is c.self.inside.origin c.self.inside.attrs.items c.self.inside.order c.self.inside.sub c.self.invariant.valid in
    let long = c.self.invariant.long k d (rw c.as_slice.ensures.value at h) in
    rw c.as_slice.ensures.value (omega (arith, within, count, long))
