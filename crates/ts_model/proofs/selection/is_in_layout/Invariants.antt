use Rattle.std.proofs.Common.{◌≡◌}
use Rattle.std.specs.declared.cmp.Ordering.TheVariants.{Less}
use Rattle.std.specs.List.{AllAdjacentBelow}
use Rattle.ts_model.specs.declared.queries.Shown.{Shown}
use Rattle.ts_model.specs.Queries.{layout_cmp}
use Rattle.ts_model.proofs.selection.is_in_layout.Given as goal

-- each cell so far comes before the next
abbrev pub invariant-loop-place : goal.invariant-loop-place
invariant-loop-place l = AllAdjacentBelow (λ (a b : Shown). layout_cmp l.frame l.layout a.coords b.coords ≡ Less) l.cells l.place
