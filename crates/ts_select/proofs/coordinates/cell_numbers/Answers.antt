-- The numbers of one dimension more.
use Rattle.std.proofs.Common.{◌++◌, [], ◌∷◌, map, sym, ap, ◌∙◌, arith}
use Rattle.std.specs.List.{range_with_len}
use Rattle.std.proofs.lemmas.List.FromFn.{map-range_with_len_more}
use Rattle.ts_table.specs.Tables.{column_of}
use Rattle.ts_select.proofs.coordinates.cell_numbers.Goals as goal

pub loop-dim-preserved : goal.loop-dim-preserved
loop-dim-preserved c =
    let along = column_of c.args.cells.now in
    let dim = c.loop-dim.dim in
    c.in_ok-push.ensures.items
    ∙ ap (λ columns. columns ++ c.in_ok-numbers_along.field-0 ∷ []) c.loop-dim.invariant
    ∙ ap (λ ns. map along (range_with_len 0 dim) ++ ns ∷ []) c.in_ok-numbers_along.ensures
    ∙ sym (map-range_with_len_more along 0 dim dim (omega arith))
