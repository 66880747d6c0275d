-- The values of the column of the attribute.
use Rattle.std.proofs.Common.{◌∙◌}
use Rattle.std.proofs.lemmas.Result.{IfOk-weaker}
use Rattle.ts_select.proofs.Fields.{part_is}
use Rattle.ts_select.proofs.columns.vals_column.Goals as goal

pub returns-in-Some : goal.returns-in-Some
returns-in-Some c =
    IfOk-weaker c.gathered.result _ _ (λ column is. is ∙ part_is c.args.cells.now c.args.field c.in-Some.vals.now c.args.places.now c.in-Some.ensures c.requires.places) c.gathered.ensures
