-- The rows of the cells that are selected.
use Rattle.std.proofs.Common.{rules, ◌≡◌, ℤ, List, None, length, map, get_or, sym, ap, ◌∙◌}
use Rattle.std.specs.List.{range_with_len}
use Rattle.std.proofs.lemmas.Result.{IfOk-weaker}
use Rattle.ts_base.specs.declared.values.Val.{Val}
use Rattle.ts_order.proofs.OrderLemmas.{length-is_in_domain}
use Rattle.ts_model.specs.Queries.{items_at, fields_of}
use Rattle.ts_select.specs.Cells.{cell_at, fields_at}
use Rattle.ts_select.proofs.Ascending.{cells_all}
use Rattle.ts_select.proofs.Gathered.{map_map}
use Rattle.ts_select.proofs.selecting.rows_of.Goals as goal

pub whole_rows-requires-clause-dims : goal.whole_rows-requires-clause-dims
whole_rows-requires-clause-dims c = λ k d below.
    length-is_in_domain c.args.frame.now.domain (get_or c.args.cells k d).coords (c.requires.inside k d below) ∙ sym c.count-dims.ensures.count

pub returns-then-len-gt0 : goal.returns-then-len-gt0
returns-then-len-gt0 c =
    let ready = c.args.ready.now in
    let versions = c.args.cells in
    let row = λ (e : List ℤ × List Val). items_at ready.fields (fields_of e) in
    let range = range_with_len 0 (length versions) in
    let none : ready.filter ≡ None = search rules in
    IfOk-weaker c.whole_rows.result _ _ (λ rows is.
    is ∙ (λ i. map (λ place. items_at (c.as_slice-fields.ensures i) (fields_at versions place)) range)
    ∙ sym (map_map row (cell_at versions) range) ∙ ap (map row) (cells_all c.args.frame.now c.args.schema.now.attrs ready versions none (c.is_in_layout-stands.ensures.0 c.if-stands.true))) c.whole_rows.ensures

pub rows_at-requires-clause-dims : goal.rows_at-requires-clause-dims
rows_at-requires-clause-dims c = λ k d below.
    length-is_in_domain c.args.frame.now.domain (get_or c.args.cells k d).coords (c.requires.inside k d below) ∙ sym c.count-dims.ensures.count

pub returns : goal.returns
returns c =
    let ready = c.args.ready.now in
    let versions = c.args.cells in
    let row = λ (e : List ℤ × List Val). items_at ready.fields (fields_of e) in
    IfOk-weaker c.rows_at.result _ _ (λ rows is.
    is ∙ (λ i. map (λ place. items_at (c.as_slice-fields.ensures i) (fields_at versions place)) (c.as_slice.ensures i))
    ∙ sym (map_map row (cell_at versions) c.in_ok-places.places) ∙ ap (map row) c.in_ok-places.ensures.cells) c.rows_at.ensures
