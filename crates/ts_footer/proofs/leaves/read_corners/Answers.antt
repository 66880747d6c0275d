use Rattle.ts_footer.proofs.LeafReads.{corners_next}
use Rattle.ts_footer.proofs.leaves.read_corners.Goals as goal

pub loop-dim-preserved : goal.loop-dim-preserved
loop-dim-preserved c =
    let l = c.loop-dim in
    corners_next c.args.dims l.dim l.low.items l.high.items _ _ l.cursor _ c.in_ok-side.side _ c.loop-dim-test.true l.invariant c.in_ok-side.ensures.reads c.in_ok-side.ensures.span c.push.ensures c.push-in-loop-dim.ensures
