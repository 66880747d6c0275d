-- What merges both halves, merged, merges all.
use Rattle.std.proofs.Common.{◌≡◌, List, ◌++◌, Result, IfOk, ◌∙◌, subst}
use Rattle.std.proofs.lemmas.List.{take-append-drop}
use Rattle.std.proofs.lemmas.Result.{IfOk-weaker}
use Rattle.ts_base.specs.declared.heads.Version.{Version}
use Rattle.ts_order.proofs.OrderLemmas.{global_total}
use Rattle.ts_schema.specs.declared.frames.Frame.{Frame}
use Rattle.ts_plain.specs.Merges.{global_order, IsMerged, IsMergedAll}
use Rattle.ts_plain.proofs.MergeAllLaws.{both_merged}
use Rattle.ts_plain.proofs.merging.+merge_all.Goals as goal

-- what both halves are merged to, merged, is what all lists are merged to
halves : {E : Type 0} (frame : Frame) (xs ys lists : List (List Version)) (first second : List Version) (result : Result (List Version) E) → xs ++ ys ≡ lists
    → IsMergedAll (global_order frame) xs first → IsMergedAll (global_order frame) ys second → IfOk result (IsMerged (global_order frame) first second)
    → IfOk result (IsMergedAll (global_order frame) lists)
halves frame xs ys lists first second result whole a b =
    let law = both_merged (global_order frame) (global_total frame.domain frame.tile frame.cell) xs ys first second in
    IfOk-weaker result (IsMerged (global_order frame) first second) (IsMergedAll (global_order frame) lists) (λ list merged. subst (λ all. IsMergedAll (global_order frame) all list) whole (law list a b merged))

pub returns-in_ok-second-in_default-clause-merged : goal.returns-in_ok-second-in_default-clause-merged
returns-in_ok-second-in_default-clause-merged t c =
    let front = c.split_at.ensures.front in
    let back = c.split_at.ensures.back in
    let whole : c.split_at.result.0.now ++ c.split_at.result.1.now ≡ c.args.lists.now = (λ i. front i ++ back i) ∙ take-append-drop _ c.args.lists.now in
    halves c.args.frame.now _ _ c.args.lists.now _ _ _ whole c.in_ok-first-in_default.ensures.merged c.in_ok-second-in_default.ensures.merged c.merge_two.ensures.merged
