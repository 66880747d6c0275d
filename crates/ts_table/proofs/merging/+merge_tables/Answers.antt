-- What merges both halves, merged, merges all.
use Rattle.std.proofs.Common.{◌≡◌, List, ◌++◌, Result, IfOk, ◌∙◌, subst}
use Rattle.std.proofs.lemmas.List.{take-append-drop}
use Rattle.std.proofs.lemmas.Result.{IfOk-weaker}
use Rattle.ts_base.specs.declared.heads.Version.{Version}
use Rattle.ts_domain.specs.declared.dims.Dim.{Dim}
use Rattle.ts_table.specs.declared.order.CellOrder.{CellOrder}
use Rattle.ts_table.specs.Orders.{cells_cmp}
use Rattle.ts_table.proofs.CellOrders.{cells_total}
use Rattle.ts_table.specs.Merges.{IsMerged, IsMergedAll}
use Rattle.ts_table.proofs.MergeAllLaws.{both_merged}
use Rattle.ts_table.proofs.MergeTables.{alone}
use Rattle.ts_table.proofs.merging.+merge_tables.Goals as goal

-- what both halves are merged to, merged, is what all tables are merged to
halves : {E : Type 0} (dims : List Dim) (order : CellOrder) (xs ys lists : List (List Version)) (first second : List Version) (result : Result (List Version) E) → xs ++ ys ≡ lists
    → IsMergedAll (cells_cmp dims order) xs first → IsMergedAll (cells_cmp dims order) ys second → IfOk result (IsMerged (cells_cmp dims order) first second)
    → IfOk result (IsMergedAll (cells_cmp dims order) lists)
halves dims order xs ys lists first second result whole a b =
    let law = both_merged (cells_cmp dims order) (cells_total dims order) xs ys first second in
    IfOk-weaker result (IsMerged (cells_cmp dims order) first second) (IsMergedAll (cells_cmp dims order) lists) (λ list merged. subst (λ all. IsMergedAll (cells_cmp dims order) all list) whole (law list a b merged))

pub returns-in_ok-second-in_default-clause-merged : goal.returns-in_ok-second-in_default-clause-merged
returns-in_ok-second-in_default-clause-merged t c =
    let front = c.split_at.ensures.front in
    let back = c.split_at.ensures.back in
    let whole : c.split_at.result.0.now ++ c.split_at.result.1.now ≡ c.args.tables.now = (λ i. front i ++ back i) ∙ take-append-drop _ c.args.tables.now in
    halves c.args.domain.now c.args.order _ _ c.args.tables.now _ _ _ whole c.in_ok-first-in_default.ensures.merged c.in_ok-second-in_default.ensures.merged c.merge_two.ensures.merged

pub returns-in-len1-clause-merged : goal.returns-in-len1-clause-merged
returns-in-len1-clause-merged t c =
    rw (alone c.args.tables.now c.table-item.result c.in-len1.len_at_least c.in-len1.len_below c.table-item.is) c.newest_alone.ensures.newest
