-- The column of one dimension more.
use Rattle.std.proofs.Common.{◌++◌, [], ◌∷◌, map, sym, ap, ◌∙◌, arith}
use Rattle.std.specs.List.{range_with_len}
use Rattle.std.proofs.lemmas.List.FromFn.{map-range_with_len_more}
use Rattle.ts_select.specs.Sites.{numbers_at}
use Rattle.ts_select.proofs.sites.columns_of.Goals as goal

pub loop-dim-preserved : goal.loop-dim-preserved
loop-dim-preserved c =
    let numbers = numbers_at c.args.cells.now c.args.places.now in
    let dim = c.loop-dim.dim in
    let column = c.in_ok-column_along.field-0 in
    c.in_ok-push.ensures.items
    ∙ ap (λ columns. columns ++ column ∷ []) c.loop-dim.invariant
    ∙ ap (λ ns. map numbers (range_with_len 0 dim) ++ ns ∷ []) c.in_ok-column_along.ensures
    ∙ sym (map-range_with_len_more numbers 0 dim dim (omega arith))
