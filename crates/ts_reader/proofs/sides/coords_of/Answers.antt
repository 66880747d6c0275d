-- The columns of all dimensions have the coordinates.
use Rattle.std.proofs.lemmas.Result.{IfOk-weaker}
use Rattle.ts_reader.proofs.Across.{coords_have}
use Rattle.ts_reader.proofs.sides.coords_of.Goals as goal

pub returns : goal.returns
returns c = IfOk-weaker c.columns_of.result _ _ (λ dims is. coords_have c.args.versions.now c.args.count dims.items c.requires.some c.requires.few c.requires.wide is) c.columns_of.ensures
