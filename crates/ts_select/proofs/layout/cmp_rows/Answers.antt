use Rattle.std.proofs.Common.{arith, sym, ◌∙◌, length, ◌<◌}
use Rattle.ts_domain.specs.declared.orders.Order.TheVariants.{Row}
use Rattle.ts_order.proofs.OrderLemmas.{slice_cmp_more, slice_cmp_apart, slice_cmp_all}
use Rattle.ts_order.specs.Orders.{order_cmp}
use Rattle.ts_table.specs.Tables.{version_or}
use Rattle.ts_select.proofs.layout.cmp_rows.Goals as goal

pub returns-in_default : goal.returns-in_default
returns-in_default c =
    let xs = (version_or c.args.cells.now c.args.a).coords in
    let ys = (version_or c.args.cells.now c.args.b).coords in
    let in_xs : c.loop-dim.dim < length xs = omega arith in
    let in_ys : c.loop-dim.dim < length ys = omega arith in
    slice_cmp_apart Row xs ys c.loop-dim.dim in_xs in_ys (c.requires.second_long ∙ sym c.requires.first_long) _ c.cmp_along.result c.cmp_along.ensures c.in_default.not-Equal c.loop-dim.invariant

pub loop-dim-preserved : goal.loop-dim-preserved
loop-dim-preserved c =
    let xs = (version_or c.args.cells.now c.args.a).coords in
    let ys = (version_or c.args.cells.now c.args.b).coords in
    let in_xs : c.loop-dim.dim < length xs = omega arith in
    let in_ys : c.loop-dim.dim < length ys = omega arith in
    slice_cmp_more Row xs ys c.loop-dim.dim in_xs in_ys (c.requires.second_long ∙ sym c.requires.first_long) _ c.cmp_along.result c.cmp_along.ensures c.in-Equal.is c.loop-dim.invariant

pub returns : goal.returns
returns c =
    let xs = (version_or c.args.cells.now c.args.a).coords in
    let ys = (version_or c.args.cells.now c.args.b).coords in
    slice_cmp_all Row xs ys c.loop-dim.dim (order_cmp Row xs ys) (omega arith) (c.requires.second_long ∙ sym c.requires.first_long) c.loop-dim.invariant
