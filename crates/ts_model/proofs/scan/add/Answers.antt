-- The row takes its place in the tree.
use Rattle.std.proofs.Common.{sym, ap, ◌∙◌}
use Rattle.ts_store.proofs.Trees.{insert-tree}
use Rattle.ts_model.specs.Scans.{cells_in, with_shown}
use Rattle.ts_model.proofs.Newest.{coords_total, coords_exact}
use Rattle.ts_model.proofs.scan.add.Goals as goal

pub returns-in_ok-insert : goal.returns-in_ok-insert
returns-in_ok-insert c =
    insert-tree coords_total coords_exact c.args.cells.now c.insert.new.self c.args.at c.in-Some.row c.in_ok-insert.ensures.updates
    ∙ ap (with_shown (cells_in c.args.cells.now) c.args.at) (sym c.in-Some.is)
