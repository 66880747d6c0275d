-- Orders of the cells of a domain.
use Rattle.std.specs.Prelude.{ℤ, List, IsTrue}
use Rattle.std.specs.declared.cmp.Ordering.{Ordering}
use Rattle.ts_base.specs.declared.heads.Version.{Version}
use Rattle.ts_domain.specs.declared.dims.Dim.{Dim}
use Rattle.ts_domain.specs.Domains.{is_in_domain}
use Rattle.ts_order.specs.Orders.{order_cmp, global_cmp}
use Rattle.ts_table.specs.declared.order.CellOrder.{CellOrder}
use Rattle.ts_table.specs.declared.order.CellOrder.TheVariants.{Plain, Global}

-- how two coordinates stand: in row or column order, or in the global order of the domain
abbrev pub cells_cmp : List Dim → CellOrder → List ℤ → List ℤ → Ordering
cells_cmp dims (Plain order) a b = order_cmp order a b
cells_cmp dims (Global tile cell) a b = global_cmp dims tile cell a b

-- the version's cell lies in the domain
abbrev pub LiesInside : List Dim → Version → Type 0
LiesInside dims v = IsTrue (is_in_domain dims v.coords)
