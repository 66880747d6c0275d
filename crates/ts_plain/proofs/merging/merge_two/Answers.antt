-- What was merged is merged as the definition says, since global order is a total one.
use Rattle.std.proofs.Common.{◌≡◌, List, Result, IfOk, sym, subst}
use Rattle.std.specs.List.{All}
use Rattle.std.proofs.lemmas.List.Elements.{All-from_recursion, recursion_from_All}
use Rattle.std.proofs.lemmas.Result.{IfOk-weaker}
use Rattle.ts_base.specs.declared.heads.Version.{Version}
use Rattle.ts_order.proofs.OrderLemmas.{global_total}
use Rattle.ts_schema.specs.declared.frames.Frame.{Frame}
use Rattle.ts_plain.specs.Merges.{merged, Climbs, global_order, LiesInside, IsMerged}
use Rattle.ts_plain.proofs.MergeLaws.{is_merged, merged_all}
use Rattle.ts_plain.proofs.merging.merge_two.Goals as goal

merged_so : {E : Type 0} (frame : Frame) (vs ws : List Version) (result : Result (List Version) E) → Climbs (global_order frame) vs → Climbs (global_order frame) ws
    → IfOk result (λ list. list ≡ merged (global_order frame) vs ws) → IfOk result (IsMerged (global_order frame) vs ws)
merged_so frame vs ws result a b =
    let law = is_merged (global_order frame) (global_total frame.domain frame.tile frame.cell) vs ws a b in
    IfOk-weaker result (λ list. list ≡ merged (global_order frame) vs ws) (IsMerged (global_order frame) vs ws) (λ list same. subst (IsMerged (global_order frame) vs ws) (sym same) law)

pub returns-clause-merged : goal.returns-clause-merged
returns-clause-merged c =
    merged_so c.args.frame.now c.args.first.now c.args.second.now _ c.requires.first_climbs c.requires.second_climbs (rw (c.as_slice.ensures, c.as_slice-2.ensures) at c.merge_slices.ensures)

-- what holds of each version of both lists holds of the merged one's
all_of : {E : Type 0} (frame : Frame) (vs ws : List Version) (result : Result (List Version) E) → All (LiesInside frame) vs → All (LiesInside frame) ws
    → IfOk result (λ list. list ≡ merged (global_order frame) vs ws) → IfOk result (All (LiesInside frame))
all_of frame vs ws result a b =
    let both = merged_all (global_order frame) (global_total frame.domain frame.tile frame.cell) (LiesInside frame) vs ws (recursion_from_All (LiesInside frame) vs a) (recursion_from_All (LiesInside frame) ws b) in
    let all = All-from_recursion (LiesInside frame) (merged (global_order frame) vs ws) both in
    IfOk-weaker result (λ list. list ≡ merged (global_order frame) vs ws) (All (LiesInside frame)) (λ list same. subst (All (LiesInside frame)) (sym same) all)

pub returns-clause-inside : goal.returns-clause-inside
returns-clause-inside c =
    all_of c.args.frame.now c.args.first.now c.args.second.now _ c.requires.first c.requires.second (rw (c.as_slice.ensures, c.as_slice-2.ensures) at c.merge_slices.ensures)
