-- The coordinates as values.
use Rattle.std.proofs.Common.{map, ap, ◌∙◌}
use Rattle.std.proofs.lemmas.Result.{IfOk-weaker}
use Rattle.ts_base.specs.declared.values.Val.TheVariants.{Int}
use Rattle.ts_select.proofs.Fields.{coordinates_are}
use Rattle.ts_select.proofs.columns.coords_column.Goals as goal

pub returns : goal.returns
returns c =
    let a = c.args in
    IfOk-weaker c.of_integers.result _ _ (λ column is. is ∙ ap (map Int) c.in_ok-numbers.ensures ∙ coordinates_are a.cells.now a.dims a.dim a.places.now c.requires.dims c.requires.places c.requires.below) c.of_integers.ensures.ok
