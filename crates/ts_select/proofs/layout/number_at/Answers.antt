use Rattle.ts_table.specs.Tables.{version_or}
use Rattle.ts_select.proofs.Fields.{zero_if_none}
use Rattle.ts_select.proofs.layout.number_at.Goals as goal

pub returns-in-None : goal.returns-in-None
returns-in-None c = zero_if_none (version_or c.args.cells.now c.args.place).coords c.args.dim c.in-None.ensures
