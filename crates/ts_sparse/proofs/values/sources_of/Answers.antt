-- No source yet, one source more, and all sources.
use Rattle.ts_sparse.specs.Seen.{IsSource}
use Rattle.ts_sparse.proofs.SeenLaws.{each_next}
use Rattle.ts_sparse.proofs.values.sources_of.Goals as goal

pub loop-batch-preserved : goal.loop-batch-preserved
loop-batch-preserved c =
    let l = c.loop-batch in
    each_next (IsSource c.args.attr) c.args.batches.now l.sources.items c.push.new.self.items l.batch-index c.batch-item.result c.source_of.result l.invariant c.loop-batch-test.true c.batch-item.is c.source_of.ensures c.in_ok-push.ensures.items
