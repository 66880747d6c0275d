-- No slice yet, one slice more, and all slices.
use Rattle.ts_sparse.specs.Seen.{IsSlice}
use Rattle.ts_sparse.proofs.SeenLaws.{each_next}
use Rattle.ts_sparse.proofs.coords.slices_of.Goals as goal

pub loop-batch-preserved : goal.loop-batch-preserved
loop-batch-preserved c =
    let l = c.loop-batch in
    each_next (IsSlice c.args.dim) c.args.batches.now l.slices.items c.push.new.self.items l.batch-index c.batch-item.result c.slice_of.result l.invariant c.loop-batch-test.true c.batch-item.is c.slice_of.ensures c.in_ok-push.ensures.items
