-- The rows are those that are selected of the cells that are shown.
use Rattle.std.proofs.Common.{◌∙◌, sym, ap, map, subst}
use Rattle.std.specs.Prelude.{All, IsTrue}
use Rattle.ts_domain.specs.Domains.{is_in_domain}
use Rattle.ts_store.proofs.Trees.{entries-tree}
use Rattle.ts_model.specs.declared.queries.Shown.{Shown}
use Rattle.ts_model.specs.Queries.{selected}
use Rattle.ts_model.specs.Scans.{cells_in}
use Rattle.ts_model.specs.Selections.{placed}
use Rattle.ts_model.proofs.Newest.{coords_total}
use Rattle.ts_model.proofs.Referred.{cells_inside, placed_back}
use Rattle.ts_model.proofs.scan.answer.Goals as goal

pub rows_of-requires-clause-inside : goal.rows_of-requires-clause-inside
rows_of-requires-clause-inside c =
    let s = c.args.scan.now in
    let dims = s.frame.now.domain in
    subst (All (λ (cell : Shown). IsTrue (is_in_domain dims cell.coords))) (sym c.in_ok-listed.ensures.cells)
    (cells_inside dims s.deeds.now s.frame.now s.current.now s.ready.now s.from s.to c.in_ok-cells.cells c.requires.inside c.in_ok-cells.ensures)

pub returns-clause-rows : goal.returns-clause-rows
returns-clause-rows c =
    let s = c.args.scan.now in
    let entries = c.in_ok-cells.cells.entries in
    record {
      cells = cells_in c.in_ok-cells.cells;
      each = c.in_ok-cells.ensures;
      same =
          c.of_rows.ensures ∙ c.in_ok-rows_of.ensures
          ∙ ap (selected s.frame.now s.current.now.attrs s.ready.now)
          (ap (map placed) c.in_ok-listed.ensures.cells ∙ placed_back entries ∙ sym (entries-tree coords_total entries c.in_ok-listed.ensures.ordered));
    }
