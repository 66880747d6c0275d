-- Where neighbours ascend all do, since each order of cells is a total one.
use Rattle.ts_table.specs.Orders.{cells_cmp}
use Rattle.ts_table.proofs.CellOrders.{cells_total}
use Rattle.ts_table.proofs.Neighbours.{climbs_of, neighbours_climb}
use Rattle.ts_table.proofs.ordering.is_in_order.Goals as goal

pub returns : goal.returns
returns c =
    let dims = c.args.domain.now in
    let order = c.args.order in
    let vs = c.args.table.now in (
      λ yes. climbs_of (cells_cmp dims order) vs (cells_total dims order) (c.do_cells_ascend.ensures.0 yes),
      λ law. c.do_cells_ascend.ensures.1 (neighbours_climb (cells_cmp dims order) vs law),
    )
