-- A cell that is below the other one stands before it.
use Rattle.std.proofs.Common.{sym, ◌∙◌}
use Rattle.ts_sparse_read.specs.Sifts.{cell_in}
use Rattle.ts_sparse_read.proofs.NearLaws.{behind_less}
use Rattle.ts_sparse_read.proofs.near.follows.Goals as goal

pub returns-in-Less : goal.returns-in-Less
returns-in-Less c _ = behind_less c.args.frame.now (cell_in c.args.columns.now c.args.first) (cell_in c.args.columns.now c.args.second) (sym c.cmp_cells.ensures ∙ c.in-Less.is)
