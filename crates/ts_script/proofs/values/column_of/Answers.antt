use Rattle.std.proofs.Common.{map, [], ap, ap₂, ◌∙◌, sym, subst}
use Rattle.ts_script.specs.Shapes.{Gives, list_of, items_onto}
use Rattle.ts_script.specs.Trees.{view, items_view}
use Rattle.ts_script.specs.Values.{value}
use Rattle.ts_script.proofs.ListLemmas.{view-Values, items_onto-plain}
use Rattle.ts_script.proofs.values.column_of.Goals as goal

pub returns-in-Values-clause-gives : goal.returns-in-Values-clause-gives
returns-in-Values-clause-gives c =
    let cells = c.in-Values.cells in
    let rest = c.in-Values.rest in
    let all = ap (λ v. list_of value (view v)) c.in-Values.is ∙ ap (list_of value) (view-Values cells rest) ∙ items_onto-plain [] cells.value.column (map view rest.items) in
    let same = ap₂ (λ done items. items_onto value done.column (items_view items)) c.into_inner.ensures c.as_slice.ensures.value in
    subst (Gives c.with_values.result) (same ∙ sym all) c.with_values.ensures.gives
