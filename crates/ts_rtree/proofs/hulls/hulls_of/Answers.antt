use Rattle.ts_rtree.proofs.HullLaws.{making_next_at, making_more_at}
use Rattle.ts_rtree.proofs.hulls.hulls_of.Goals as goal
use Rattle.ts_rtree.proofs.hulls.hulls_of.Goals.{then-left-eq0+in_ok-push, else-left-eq0}

pub loop-place-preserved : goal.loop-place-preserved
loop-place-preserved c =
    let l = c.loop-place in
    let x = c.index-boxes-place in
    elim c.if-left-eq0.branch [
      | then-left-eq0+in_ok-push w ↦ making_next_at c.args.fan c.args.boxes.now l.hulls _ _ l.left _ l.place l.hull x.result _ l.invariant w.if-left-eq0.true c.loop-place-test.true x.is w.in_ok-push.ensures.ok w.hulls-is w.left-is w.hull-is
      | else-left-eq0 w ↦ making_more_at c.args.fan c.args.boxes.now l.hulls _ l.left _ l.place l.hull x.result _ _ l.invariant w.if-left-eq0.false c.loop-place-test.true x.is w.hull-hull.ensures.corners w.hulls-is w.left-is w.hull-is
    ]
