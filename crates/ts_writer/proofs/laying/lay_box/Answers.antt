use Rattle.std.proofs.Common.{◌≡◌, List, Ok, length, sym, ap, ◌∙◌, arith, rules, subst}
use Rattle.std.specs.List.{All}
use Rattle.std.proofs.lemmas.List.{length-map}
use Rattle.ts_base.specs.declared.values.Val.{Val}
use Rattle.ts_domain.specs.declared.boxes.SubBox.{SubBox}
use Rattle.ts_domain.specs.Boxes.{cells_of}
use Rattle.ts_order.specs.Orders.{coords_in_order}
use Rattle.ts_model.specs.Queries.{low_of}
use Rattle.ts_model.specs.Commands.{◌or_else◌, box_refusal, cells_at, unless}
use Rattle.ts_model.specs.Selections.{IsNamedBox}
use Rattle.ts_writer.specs.Laying.{pieced}
use Rattle.ts_writer.proofs.Lengths.{attr_columns_long}
use Rattle.ts_writer.proofs.Pieced.{box_within, few_cells, over_laid}
use Rattle.ts_writer.proofs.laying.lay_box.Goals as goal

pub returns-in_err-rows : goal.returns-in_err-rows
returns-in_err-rows c =
    let lays = over_laid c.args.frame.now.domain c.args.attrs.now c.args.write.now c.as_slice.result.now c.box_of-sub.result c.as_slice-2.result.now c.cells-count.result c.as_slice.ensures c.box_of-sub.ensures.value c.as_slice-2.ensures c.cells-count.ensures.capped in
    rw lays (search rules)

pub returns-in-Some : goal.returns-in-Some
returns-in-Some c =
    let lays = over_laid c.args.frame.now.domain c.args.attrs.now c.args.write.now c.as_slice.result.now c.box_of-sub.result c.as_slice-2.result.now c.cells-count.result c.as_slice.ensures c.box_of-sub.ensures.value c.as_slice-2.ensures c.cells-count.ensures.capped in
    rw lays (search rules)

pub piece_over-requires-clause-valid : goal.piece_over-requires-clause-valid
piece_over-requires-clause-valid c = c.box_of-sub.ensures.ordered (subst (All IsNamedBox) (sym c.as_slice.ensures) c.requires.named)

pub piece_over-requires-clause-inside : goal.piece_over-requires-clause-inside
piece_over-requires-clause-inside c =
    let dims = c.args.frame.now.domain in
    let valid = c.box_of-sub.ensures.ordered (subst (All IsNamedBox) (sym c.as_slice.ensures) c.requires.named) in
    let wide = ap (λ (b : SubBox). length b.low) c.box_of-sub.ensures.value ∙ length-map dims (low_of c.as_slice.result.now) in
    box_within dims c.args.attrs.now c.args.write.now c.box_of-sub.result valid wide (sym c.box_refusal.ensures ∙ c.in_default.is)

pub piece_over-requires-clause-few : goal.piece_over-requires-clause-few
piece_over-requires-clause-few c =
    let few = few_cells c.args.frame.now.domain c.args.attrs.now c.args.write.now c.box_of-sub.result (sym c.box_refusal.ensures ∙ c.in_default.is) in
    omega (arith, few)

pub piece_over-requires-clause-long : goal.piece_over-requires-clause-long
piece_over-requires-clause-long c =
    let few = few_cells c.args.frame.now.domain c.args.attrs.now c.args.write.now c.box_of-sub.result (sym c.box_refusal.ensures ∙ c.in_default.is) in
    let all : c.cells-count.result ≡ cells_of c.box_of-sub.result = omega (arith, few, c.cells-count.ensures.capped) in
    let long = attr_columns_long c.as_slice-2.result.now c.cells-count.result c.args.attrs.now c.in_ok-rows.rows c.in_ok-rows.ensures in
    subst (λ n. All (λ (vals : List Val). length vals ≡ n) c.in_ok-rows.rows) all long

pub returns : goal.returns
returns c =
    let dims = c.args.frame.now.domain in
    let attrs = c.args.attrs.now in
    let write = c.args.write.now in
    let sub = c.box_of-sub.result in
    let lays = over_laid dims attrs write c.as_slice.result.now sub c.as_slice-2.result.now c.cells-count.result c.as_slice.ensures c.box_of-sub.ensures.value c.as_slice-2.ensures c.cells-count.ensures.capped in
    let none = sym c.box_refusal.ensures ∙ c.in_default.is in
    ap (pieced c.args.frame.now c.args.origin)
    (lays ∙ ap (λ r. r or_else λ rows. unless (cells_at (coords_in_order write.layout sub) rows 0) (box_refusal dims attrs write sub)) c.in_ok-rows.ensures
    ∙ ap (unless (cells_at (coords_in_order write.layout sub) c.in_ok-rows.rows 0)) none)
    ∙ ap Ok (sym c.in_ok-piece_over.ensures)
