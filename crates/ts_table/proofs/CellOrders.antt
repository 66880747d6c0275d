-- Each order of cells is a total one.
use Rattle.std.specs.Cmp.{IsTotalOrder}
use Rattle.ts_domain.specs.declared.dims.Dim.{Dim}
use Rattle.std.proofs.Common.{List}
use Rattle.ts_order.proofs.OrderLemmas.{order_total, global_total}
use Rattle.ts_table.specs.declared.order.CellOrder.{CellOrder}
use Rattle.ts_table.specs.declared.order.CellOrder.TheVariants.{Plain, Global}
use Rattle.ts_table.specs.Orders.{cells_cmp}

pub cells_total : (dims : List Dim) (order : CellOrder) → IsTotalOrder (cells_cmp dims order)
cells_total dims (Plain order) = order_total order
cells_total dims (Global tile cell) = global_total dims tile cell
