-- Where neighbours ascend all do, since each order of cells is a total one.
use Rattle.ts_table.specs.Orders.{cells_cmp}
use Rattle.ts_table.proofs.CellOrders.{cells_total}
use Rattle.ts_table.proofs.Neighbours.{ascend_of, neighbours_ascend}
use Rattle.ts_table.proofs.ordering.are_versions_in_order.Goals as goal

pub returns : goal.returns
returns c =
    let dims = c.args.domain.now in
    let order = c.args.order in
    let vs = c.args.table.now in (
      λ yes. ascend_of (cells_cmp dims order) vs (cells_total dims order) (c.do_versions_ascend.ensures.0 yes),
      λ law. c.do_versions_ascend.ensures.1 (neighbours_ascend (cells_cmp dims order) vs law),
    )
