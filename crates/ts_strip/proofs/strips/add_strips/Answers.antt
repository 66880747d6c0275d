-- The cells of the batch are those of its box.
use Rattle.std.proofs.Common.{[], map, sym, ap, ◌∙◌}
use Rattle.std.proofs.lemmas.List.{get_or_default}
use Rattle.ts_base.specs.declared.heads.Version.{Version}
use Rattle.ts_order.specs.Orders.{coords_in_order}
use Rattle.ts_table.specs.BoxTables.{versions_over}
use Rattle.ts_strip.proofs.StripLaws.{cells_over, in_row_order}
use Rattle.ts_strip.proofs.strips.add_strips.Goals as goal

pub add_rows-requires-clause-cells : goal.add_rows-requires-clause-cells
add_rows-requires-clause-cells c =
    let parts = c.parts-parts.result in
    let made = c.parts-parts.ensures.made ∙ ap (λ o. versions_over parts.origin parts.attrs.now 0 (coords_in_order o parts.sub.now)) c.in-Row.is in
    ap (map (λ (v : Version). v.coords)) (get_or_default c.args.batches.now c.args.batch [] c.index-batches-batch.result c.requires.within ∙ sym c.index-batches-batch.is ∙ sym c.in-Some.ensures ∙ made) ∙ cells_over parts.origin parts.attrs.now 0 _ ∙ in_row_order parts.sub.now
