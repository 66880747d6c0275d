-- Where there is no value, the default is null.
use Rattle.std.proofs.Common.{sym, Option, None}
use Rattle.ts_table.specs.declared.column.Seen.{Seen}
use Rattle.ts_sparse.proofs.SeenValues.{value_there}
use Rattle.ts_sparse.proofs.values.value_of.Goals as goal

pub returns-in-None : goal.returns-in-None
returns-in-None c =
    let none : Option Seen = None in
    sym (value_there c.args.version.now.row c.args.attr none c.in-None.ensures)
