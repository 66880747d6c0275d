use Rattle.std.proofs.Common.{◌++◌, ap, ◌∙◌, arith, drop, length-drop}
use Rattle.std.proofs.lemmas.List.{append-nil}
use Rattle.ts_rtree.proofs.Levels.{upper_of_one}
use Rattle.ts_rtree.proofs.Steps.{level_from, rising_more, fewer_boxes}
use Rattle.ts_rtree.proofs.building.all_nodes.Goals as goal

pub loop-start-smaller : goal.loop-start-smaller
loop-start-smaller c =
    let all = c.in_ok-append.ensures ∙ ap (λ text. c.loop-start.boxes ++ text) c.as_slice-in-loop-start.ensures in
    let above = c.in_ok-above.ensures ∙ level_from c.loop-start.start _ c.loop-start.boxes c.as_slice.ensures in
    fewer_boxes c.loop-start.boxes _ _ c.loop-start.start _ (omega (arith, c.len.ensures)) above all c.len-start.ensures

pub loop-start-preserved : goal.loop-start-preserved
loop-start-preserved c =
    let all = c.in_ok-append.ensures ∙ ap (λ text. c.loop-start.boxes ++ text) c.as_slice-in-loop-start.ensures in
    let above = c.in_ok-above.ensures ∙ level_from c.loop-start.start _ c.loop-start.boxes c.as_slice.ensures in
    rising_more c.args.leaves.now c.loop-start.boxes _ _ c.loop-start.start _ c.loop-start.invariant (omega (arith, c.len.ensures)) above all c.len-start.ensures

pub returns : goal.returns
returns c =
    let none = upper_of_one (drop c.loop-start.start c.loop-start.boxes) (omega (arith, c.len.ensures, length-drop c.loop-start.start c.loop-start.boxes)) in
    rw (none, append-nil) at c.loop-start.invariant.0
