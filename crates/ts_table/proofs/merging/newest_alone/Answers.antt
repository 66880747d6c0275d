-- The last versions of a table that ascends are its newest, since each order of cells is a total one.
use Rattle.std.proofs.Common.{◌≡◌, List, [], ◌∷◌, Result, IfOk, sym, subst}
use Rattle.std.specs.List.{All}
use Rattle.std.proofs.lemmas.Result.{IfOk-weaker}
use Rattle.std.proofs.lemmas.List.Elements.{All-from_recursion, recursion_from_All}
use Rattle.ts_base.specs.declared.heads.Version.{Version}
use Rattle.ts_domain.specs.declared.dims.Dim.{Dim}
use Rattle.ts_table.specs.declared.order.CellOrder.{CellOrder}
use Rattle.ts_table.specs.Orders.{cells_cmp, LiesInside}
use Rattle.ts_table.proofs.CellOrders.{cells_total}
use Rattle.ts_table.specs.Merges.{VersionsAscend, last_alone, IsMergedAll}
use Rattle.ts_table.proofs.MergeAllLaws.{one_merged, last_all}
use Rattle.ts_table.proofs.merging.newest_alone.Goals as goal

-- what the list is, and that it is the list of the last versions
abbrev Are : {E : Type 0} → List Dim → CellOrder → List Version → Result (List Version) E → Type 0
Are dims order vs result = IfOk result (λ list. list ≡ last_alone (cells_cmp dims order) vs)

-- the last versions are the newest
newest_so : {E : Type 0} (dims : List Dim) (order : CellOrder) (vs : List Version) (result : Result (List Version) E) → VersionsAscend (cells_cmp dims order) vs → Are dims order vs result
    → IfOk result (IsMergedAll (cells_cmp dims order) (vs ∷ []))
newest_so dims order vs result asc =
    let law = one_merged (cells_cmp dims order) (cells_total dims order) vs asc in
    IfOk-weaker result (λ list. list ≡ last_alone (cells_cmp dims order) vs) (IsMergedAll (cells_cmp dims order) (vs ∷ [])) (λ list same. subst (IsMergedAll (cells_cmp dims order) (vs ∷ [])) (sym same) law)

-- they lie in the domain
inside_so : {E : Type 0} (dims : List Dim) (order : CellOrder) (vs : List Version) (result : Result (List Version) E) → All (LiesInside dims) vs → Are dims order vs result → IfOk result (All (LiesInside dims))
inside_so dims order vs result all =
    let kept = last_all (cells_cmp dims order) (cells_total dims order) (LiesInside dims) vs (recursion_from_All (LiesInside dims) vs all) in
    let law = All-from_recursion (LiesInside dims) (last_alone (cells_cmp dims order) vs) kept in
    IfOk-weaker result (λ list. list ≡ last_alone (cells_cmp dims order) vs) (All (LiesInside dims)) (λ list same. subst (All (LiesInside dims)) (sym same) law)

pub returns-clause-newest : goal.returns-clause-newest
returns-clause-newest c = newest_so c.args.domain.now c.args.order c.args.table.now _ c.requires.ascends c.last_alone.ensures

pub returns-clause-inside : goal.returns-clause-inside
returns-clause-inside c = inside_so c.args.domain.now c.args.order c.args.table.now _ c.requires.inside c.last_alone.ensures
