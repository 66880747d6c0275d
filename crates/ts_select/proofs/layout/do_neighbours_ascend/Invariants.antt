-- Each cell so far comes before the next.
use Rattle.std.proofs.Common.{◌≡◌}
use Rattle.std.specs.declared.cmp.Ordering.TheVariants.{Less}
use Rattle.std.specs.List.{AllAdjacentBelow}
use Rattle.ts_base.specs.declared.heads.Version.{Version}
use Rattle.ts_model.specs.Queries.{layout_cmp}
use Rattle.ts_select.proofs.layout.do_neighbours_ascend.Given as goal

abbrev pub invariant-loop-place : goal.invariant-loop-place
invariant-loop-place l = AllAdjacentBelow (λ (a b : Version). layout_cmp l.frame l.layout a.coords b.coords ≡ Less) l.cells l.place
