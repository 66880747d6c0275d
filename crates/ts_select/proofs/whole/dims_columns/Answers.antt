-- The columns of the coordinates are those of the dimensions.
use Rattle.std.proofs.lemmas.Result.{IfOk-weaker}
use Rattle.ts_select.proofs.AllCells.{dims_have}
use Rattle.ts_select.proofs.whole.dims_columns.Goals as goal

pub returns-then-is_shown : goal.returns-then-is_shown
returns-then-is_shown c =
    IfOk-weaker c.coordinates_of.result _ _ (λ columns are. dims_have c.args.cells.now c.args.dims c.args.fields.now _ c.requires.long are) c.coordinates_of.ensures
