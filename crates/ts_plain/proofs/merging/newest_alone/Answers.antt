-- The last versions of a list that ascends are its newest, since global order is a total one.
use Rattle.std.proofs.Common.{◌≡◌, List, [], ◌∷◌, Result, IfOk, sym, subst}
use Rattle.std.specs.List.{All}
use Rattle.std.proofs.lemmas.Result.{IfOk-weaker}
use Rattle.std.proofs.lemmas.List.Elements.{All-from_recursion, recursion_from_All}
use Rattle.ts_base.specs.declared.heads.Version.{Version}
use Rattle.ts_order.proofs.OrderLemmas.{global_total}
use Rattle.ts_schema.specs.declared.frames.Frame.{Frame}
use Rattle.ts_plain.specs.Merges.{VersionsAscend, last_alone, global_order, LiesInside, IsMergedAll}
use Rattle.ts_plain.proofs.MergeAllLaws.{one_merged, last_all}
use Rattle.ts_plain.proofs.merging.newest_alone.Goals as goal

-- what the list is, and that it is the list of the last versions
abbrev Are : {E : Type 0} → Frame → List Version → Result (List Version) E → Type 0
Are frame vs result = IfOk result (λ list. list ≡ last_alone (global_order frame) vs)

-- the last versions are the newest
newest_so : {E : Type 0} (frame : Frame) (vs : List Version) (result : Result (List Version) E) → VersionsAscend (global_order frame) vs → Are frame vs result
    → IfOk result (IsMergedAll (global_order frame) (vs ∷ []))
newest_so frame vs result asc =
    let law = one_merged (global_order frame) (global_total frame.domain frame.tile frame.cell) vs asc in
    IfOk-weaker result (λ list. list ≡ last_alone (global_order frame) vs) (IsMergedAll (global_order frame) (vs ∷ [])) (λ list same. subst (IsMergedAll (global_order frame) (vs ∷ [])) (sym same) law)

-- they lie in the domain
inside_so : {E : Type 0} (frame : Frame) (vs : List Version) (result : Result (List Version) E) → All (LiesInside frame) vs → Are frame vs result → IfOk result (All (LiesInside frame))
inside_so frame vs result all =
    let kept = last_all (global_order frame) (global_total frame.domain frame.tile frame.cell) (LiesInside frame) vs (recursion_from_All (LiesInside frame) vs all) in
    let law = All-from_recursion (LiesInside frame) (last_alone (global_order frame) vs) kept in
    IfOk-weaker result (λ list. list ≡ last_alone (global_order frame) vs) (All (LiesInside frame)) (λ list same. subst (All (LiesInside frame)) (sym same) law)

pub returns-clause-newest : goal.returns-clause-newest
returns-clause-newest c = newest_so c.args.frame.now c.args.versions.now _ c.requires.ascends (rw c.as_slice.ensures at c.last_alone.ensures)

pub returns-clause-inside : goal.returns-clause-inside
returns-clause-inside c = inside_so c.args.frame.now c.args.versions.now _ c.requires.inside (rw c.as_slice.ensures at c.last_alone.ensures)
