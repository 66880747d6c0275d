-- Each version so far comes before the next.
use Rattle.std.proofs.Common.{◌≡◌}
use Rattle.std.specs.declared.cmp.Ordering.TheVariants.{Less}
use Rattle.std.specs.List.{AllAdjacentBelow}
use Rattle.ts_base.specs.declared.heads.Version.{Version}
use Rattle.ts_table.specs.Orders.{cells_cmp}
use Rattle.ts_table.proofs.ordering.do_cells_ascend.Given as goal

abbrev pub invariant-loop-place : goal.invariant-loop-place
invariant-loop-place l = AllAdjacentBelow (λ (v w : Version). cells_cmp l.domain l.order v.coords w.coords ≡ Less) l.table l.place
