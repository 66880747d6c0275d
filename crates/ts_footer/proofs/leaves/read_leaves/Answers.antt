use Rattle.ts_footer.proofs.LeafReads.{leaves_next}
use Rattle.ts_footer.proofs.leaves.read_leaves.Goals as goal

pub loop-place-preserved : goal.loop-place-preserved
loop-place-preserved c =
    let l = c.loop-place in
    leaves_next c.args.hull.now c.args.count l.place l.leaves _ c.in_ok-leaf.leaf l.cursor _ _ c.loop-place-test.true l.invariant c.in_ok-leaf.ensures.reads c.in_ok-leaf.ensures.like c.in_ok-push.ensures.ok
