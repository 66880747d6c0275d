-- The columns of the lists of integers.
use Rattle.std.proofs.Common.{map, ap, ◌∙◌}
use Rattle.std.specs.List.{range_with_len}
use Rattle.std.proofs.lemmas.Result.{IfOk-weaker}
use Rattle.ts_base.specs.declared.values.Val.TheVariants.{Int}
use Rattle.ts_table.specs.Tables.{column_of}
use Rattle.ts_select.proofs.Gathered.{map_map}
use Rattle.ts_select.proofs.coordinates.coordinates_of.Goals as goal

pub returns : goal.returns
returns c =
    IfOk-weaker c.columns_of.result _ _ (λ columns is.
    is ∙ ap (map (map Int)) c.in_ok-numbers.ensures ∙ map_map (map Int) (column_of c.args.cells.now) (range_with_len 0 c.args.dims)) c.columns_of.ensures
