-- What was merged is merged as the definition says, since each order of cells is a total one.
use Rattle.std.proofs.Common.{◌≡◌, List, Result, IfOk, sym, subst}
use Rattle.std.specs.List.{All}
use Rattle.std.proofs.lemmas.List.Elements.{All-from_recursion, recursion_from_All}
use Rattle.std.proofs.lemmas.Result.{IfOk-weaker}
use Rattle.ts_base.specs.declared.heads.Version.{Version}
use Rattle.ts_domain.specs.declared.dims.Dim.{Dim}
use Rattle.ts_table.specs.declared.order.CellOrder.{CellOrder}
use Rattle.ts_table.specs.Orders.{cells_cmp, LiesInside}
use Rattle.ts_table.specs.Merges.{merged, Climbs, IsMerged}
use Rattle.ts_table.proofs.CellOrders.{cells_total}
use Rattle.ts_table.proofs.MergeLaws.{is_merged, merged_all}
use Rattle.ts_table.proofs.merging.merge_two.Goals as goal

merged_so : {E : Type 0} (dims : List Dim) (order : CellOrder) (vs ws : List Version) (result : Result (List Version) E) → Climbs (cells_cmp dims order) vs → Climbs (cells_cmp dims order) ws
    → IfOk result (λ list. list ≡ merged (cells_cmp dims order) vs ws) → IfOk result (IsMerged (cells_cmp dims order) vs ws)
merged_so dims order vs ws result a b =
    let law = is_merged (cells_cmp dims order) (cells_total dims order) vs ws a b in
    IfOk-weaker result (λ list. list ≡ merged (cells_cmp dims order) vs ws) (IsMerged (cells_cmp dims order) vs ws) (λ list same. subst (IsMerged (cells_cmp dims order) vs ws) (sym same) law)

pub returns-clause-merged : goal.returns-clause-merged
returns-clause-merged c =
    merged_so c.args.domain.now c.args.order c.args.first.now c.args.second.now _ c.requires.first_climbs c.requires.second_climbs (rw (c.as_slice.ensures, c.as_slice-2.ensures) at c.merge_slices.ensures)

-- what holds of each version of both lists holds of the merged one's
all_of : {E : Type 0} (dims : List Dim) (order : CellOrder) (vs ws : List Version) (result : Result (List Version) E) → All (LiesInside dims) vs → All (LiesInside dims) ws
    → IfOk result (λ list. list ≡ merged (cells_cmp dims order) vs ws) → IfOk result (All (LiesInside dims))
all_of dims order vs ws result a b =
    let both = merged_all (cells_cmp dims order) (cells_total dims order) (LiesInside dims) vs ws (recursion_from_All (LiesInside dims) vs a) (recursion_from_All (LiesInside dims) ws b) in
    let all = All-from_recursion (LiesInside dims) (merged (cells_cmp dims order) vs ws) both in
    IfOk-weaker result (λ list. list ≡ merged (cells_cmp dims order) vs ws) (All (LiesInside dims)) (λ list same. subst (All (LiesInside dims)) (sym same) all)

pub returns-clause-inside : goal.returns-clause-inside
returns-clause-inside c =
    all_of c.args.domain.now c.args.order c.args.first.now c.args.second.now _ c.requires.first c.requires.second (rw (c.as_slice.ensures, c.as_slice-2.ensures) at c.merge_slices.ensures)
