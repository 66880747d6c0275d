use Rattle.std.proofs.Common.{Err, map, [], ap, ◌∙◌, sym, subst, option_and_then}
use Rattle.std.proofs.lemmas.Result.{err_from_is_err_and}
use Rattle.serde_json.specs.View.{items_of}
use Rattle.ts_script.specs.Shapes.{Gives, list_of, items_onto}
use Rattle.ts_script.specs.Trees.{data_of, view, items_view}
use Rattle.ts_script.proofs.ListLemmas.{view-Values, items_onto-both, Gives-stopped}
use Rattle.ts_script.proofs.forms.SequenceFromJson.from_json.Goals as goal

pub returns-in_err-done-in-Values-clause-gives : goal.returns-in_err-done-in-Values-clause-gives
returns-in_err-done-in-Values-clause-gives g c =
    let form = g.T.FromJson.form in
    let cells = c.in-Values.cells in
    let rest = c.in-Values.rest in
    let p = err_from_is_err_and c.from_residual.result c.from_residual.ensures.1 in
    let all = ap (λ v. list_of form (view v)) c.in-Values.is ∙ ap (list_of form) (view-Values cells rest) ∙ items_onto-both form [] (map data_of cells.value.column) (map view rest.items) in
    let same = ap (λ done. option_and_then (λ more. items_onto form more (items_view rest.items)) (items_onto form [] (items_of (map data_of done.column)))) c.deref.ensures in
    rw (p.1, p.2) (subst (Gives (Err c.in_err-done-in-Values.field-0.0)) (same ∙ sym all) (Gives-stopped c.in_err-done-in-Values.field-0.0 (items_onto form [] (items_of (map data_of c.deref.result.now.column))) (λ more. items_onto form more (items_view rest.items)) c.in_err-done-in-Values.ensures.gives))

pub returns-in_ok-done-in-Values-clause-gives : goal.returns-in_ok-done-in-Values-clause-gives
returns-in_ok-done-in-Values-clause-gives g c =
    let form = g.T.FromJson.form in
    let cells = c.in-Values.cells in
    let rest = c.in-Values.rest in
    let all = ap (λ v. list_of form (view v)) c.in-Values.is ∙ ap (list_of form) (view-Values cells rest) ∙ items_onto-both form [] (map data_of cells.value.column) (map view rest.items) in
    let same = ap (λ done. option_and_then (λ more. items_onto form more (items_view rest.items)) (items_onto form [] (items_of (map data_of done.column)))) c.deref.ensures in
    let front = ap (option_and_then (λ more. items_onto form more (items_view rest.items))) c.in_ok-done-in-Values.ensures.gives in
    let behind = ap (λ items. items_onto form c.in_ok-done-in-Values.done (items_view items)) c.as_slice.ensures.value in
    subst (Gives c.read_items.result) (behind ∙ sym front ∙ same ∙ sym all) c.read_items.ensures.gives
