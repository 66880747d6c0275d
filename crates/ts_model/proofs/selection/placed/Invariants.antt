-- The cells that are left and those that are placed give all cells placed.
use Rattle.std.proofs.Common.{◌≡◌, [], length}
use Rattle.std.specs.Prelude.{IsTrue, All}
use Rattle.ts_domain.specs.Domains.{is_in_domain}
use Rattle.ts_model.specs.declared.queries.Shown.{Shown}
use Rattle.ts_model.specs.Selections.{placed_behind}
use Rattle.ts_model.proofs.selection.placed.Given as goal

abbrev pub invariant-loop-cell : goal.invariant-loop-cell
invariant-loop-cell l =
    All (λ (cell : Shown). IsTrue (is_in_domain l.frame.domain cell.coords)) l.cells
    × (placed_behind l.frame l.ready l.picks l.cells l.placed.entries ≡ placed_behind l.frame l.ready l.picks l.fn.cells [])

abbrev pub decreases-loop-cell : goal.decreases-loop-cell
decreases-loop-cell l = length l.cells
