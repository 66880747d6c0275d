-- All fields, in turn.
use Rattle.std.proofs.Common.{◌≡◌, map, length, length-append, sym, ◌∙◌, subst, arith, ◌+◌}
use Rattle.std.specs.Prelude.{IfOk}
use Rattle.std.proofs.lemmas.List.{length-map}
use Rattle.ts_base.specs.declared.values.Val.TheVariants.{Int}
use Rattle.ts_model.specs.Queries.{fields_of}
use Rattle.ts_model.specs.Selections.{placed}
use Rattle.ts_model.proofs.WholeRows.{all_in_turn}
use Rattle.ts_model.proofs.selection.row_of.Goals as goal

pub returns-then-as_slice-fields : goal.returns-then-as_slice-fields
returns-then-as_slice-fields c =
    let cell = c.args.cell in
    let fields = c.args.fields.now in
    let long : length (fields_of (placed cell)) ≡ length cell.coords + length cell.row = length-append (map Int cell.coords) cell.row ∙ omega (arith, length-map cell.coords Int) in
    let many : length fields ≡ length (fields_of (placed cell)) = sym c.if-as_slice-fields.true ∙ (λ i. length (c.as_slice.ensures i) + length (c.as_slice-then-in_turn.ensures i)) ∙ sym long in
    subst (λ wanted. IfOk c.whole_row.result (λ row. row ≡ wanted)) (sym (all_in_turn fields (fields_of (placed cell)) (c.requires.turn c.if-in_turn.true) many)) c.whole_row.ensures
