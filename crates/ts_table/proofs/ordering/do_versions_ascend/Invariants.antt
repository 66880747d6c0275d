-- Each version so far comes before the next.
use Rattle.std.proofs.Common.{◌≡◌}
use Rattle.std.specs.declared.cmp.Ordering.TheVariants.{Less}
use Rattle.std.specs.List.{AllAdjacentBelow}
use Rattle.ts_base.specs.declared.heads.Version.{Version}
use Rattle.ts_table.specs.Orders.{cells_cmp}
use Rattle.ts_table.specs.Merges.{version_cmp}
use Rattle.ts_table.proofs.ordering.do_versions_ascend.Given as goal

abbrev pub invariant-loop-place : goal.invariant-loop-place
invariant-loop-place l = AllAdjacentBelow (λ (v w : Version). version_cmp (cells_cmp l.domain l.order) v w ≡ Less) l.table l.place
