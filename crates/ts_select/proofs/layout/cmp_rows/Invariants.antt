-- The dimensions from here on decide.
use Rattle.std.proofs.Common.{◌≡◌, drop}
use Rattle.std.specs.Ordering.{int_cmp}
use Rattle.std.specs.Cmp.Lexicographic.{slice_cmp}
use Rattle.ts_domain.specs.declared.orders.Order.TheVariants.{Row}
use Rattle.ts_order.specs.Orders.{order_cmp}
use Rattle.ts_table.specs.Tables.{version_or}
use Rattle.ts_select.proofs.layout.cmp_rows.Given as goal

abbrev pub invariant-loop-dim : goal.invariant-loop-dim
invariant-loop-dim l =
    slice_cmp int_cmp (drop l.dim (version_or l.cells l.a).coords) (drop l.dim (version_or l.cells l.b).coords) ≡ order_cmp Row (version_or l.cells l.a).coords (version_or l.cells l.b).coords
