-- The last of the cells that are left is placed.
use Rattle.std.proofs.Common.{subst}
use Rattle.std.specs.Prelude.{IsTrue, All}
use Rattle.ts_domain.specs.Domains.{is_in_domain}
use Rattle.ts_model.specs.declared.queries.Shown.{Shown}
use Rattle.ts_model.proofs.Selected.{placed_more, all_but_last}
use Rattle.ts_model.proofs.selection.placed.Goals as goal

pub loop-cell-preserved : goal.loop-cell-preserved
loop-cell-preserved c =
    let inside = λ (cell : Shown). IsTrue (is_in_domain c.args.frame.now.domain cell.coords) in (
      all_but_last inside c.pop.new.self c.in-Some.cell (subst (All inside) c.in-Some.ensures c.loop-cell.invariant.0),
      placed_more c.args.frame.now c.args.ready.now c.args.picks.now c.loop-cell.cells c.pop.new.self c.args.cells c.in-Some.cell c.loop-cell.placed.entries c.place.new.placed.entries c.in-Some.ensures
          c.in_ok-place.ensures c.loop-cell.invariant.1,
    )
