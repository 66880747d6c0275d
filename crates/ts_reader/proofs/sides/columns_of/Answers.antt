-- The column of one dimension more.
use Rattle.std.proofs.Common.{◌++◌, [], ◌∷◌, map, sym, ap, ◌∙◌, arith}
use Rattle.std.specs.List.{range_with_len}
use Rattle.std.proofs.lemmas.List.FromFn.{map-range_with_len_more}
use Rattle.ts_table.specs.Tables.{column_of}
use Rattle.ts_reader.proofs.sides.columns_of.Goals as goal

pub loop-dim-preserved : goal.loop-dim-preserved
loop-dim-preserved c =
    let versions = c.args.versions.now in
    let dim = c.loop-dim.dim in
    let column = c.in_ok-column_along.field-0 in
    c.in_ok-push.ensures.items
    ∙ ap (λ columns. columns ++ column ∷ []) c.loop-dim.invariant
    ∙ ap (λ ns. map (column_of versions) (range_with_len 0 dim) ++ ns ∷ []) c.in_ok-column_along.ensures
    ∙ sym (map-range_with_len_more (column_of versions) 0 dim dim (omega arith))
