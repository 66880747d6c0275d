-- The cells that are placed give the rows that are selected, and so do those that ascend as they stand.
use Rattle.std.proofs.Common.{◌≡◌, ℤ, List, [], ap, map, ◌∙◌, subst}
use Rattle.std.specs.Prelude.{IfOk, filter}
use Rattle.std.specs.List.Sorted.{IsStrictlySortedBy}
use Rattle.ts_base.specs.declared.values.Val.{Val}
use Rattle.ts_model.specs.declared.places.GlobalPlace.{GlobalPlace}
use Rattle.ts_model.specs.declared.queries.Shown.{Shown}
use Rattle.ts_model.specs.Queries.{items_at, fields_of, layout_cmp}
use Rattle.ts_model.specs.Selections.{placed, passes_by, placed_behind}
use Rattle.ts_model.proofs.Ascending.{rows_passing}
use Rattle.ts_model.proofs.Selected.{rows_selected}
use Rattle.ts_model.proofs.selection.rows_of.Goals as goal

pub returns-then-is_in_layout : goal.returns-then-is_in_layout
returns-then-is_in_layout c =
    let frame = c.args.frame.now in
    let ready = c.args.ready.now in
    let cells = c.args.cells in
    let row = λ (e : List ℤ × List Val). items_at ready.fields (fields_of e) in
    let ascend = subst (IsStrictlySortedBy (λ (a b : Shown). layout_cmp frame ready.layout a.coords b.coords)) c.as_slice.ensures (c.is_in_layout.ensures.0 c.if-is_in_layout.true) in
    let same =
    ap (λ picks. map row (filter (λ (e : List ℤ × List Val). passes_by picks ready.filter e.0 e.1) (map placed cells))) c.in_ok-picks.ensures
    ∙ rows_passing frame c.args.schema.now.attrs ready cells ascend in
    subst (λ wanted. IfOk c.cut_passing.result (λ rows. rows ≡ wanted)) same c.cut_passing.ensures

pub returns : goal.returns
returns c =
    let ready = c.args.ready.now in
    let row = λ (e : GlobalPlace × Shown). items_at ready.fields (fields_of (placed e.1)) in
    let same =
    ap (map row) (c.in_ok-placed.ensures ∙ ap (λ picks. placed_behind c.args.frame.now ready picks c.args.cells []) c.in_ok-picks.ensures)
    ∙ rows_selected c.args.frame.now c.args.schema.now.attrs ready c.args.cells in
    subst (λ wanted. IfOk c.cut_all.result (λ rows. rows ≡ wanted)) same c.cut_all.ensures
