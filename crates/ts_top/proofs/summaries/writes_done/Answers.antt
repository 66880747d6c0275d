use Rattle.std.proofs.Common.{arith}
use Rattle.ts_top.proofs.Refusing.{write_later}
use Rattle.ts_top.proofs.summaries.writes_done.Goals as goal

pub loop-came-preserved : goal.loop-came-preserved
loop-came-preserved c =
    let (was, few) = c.loop-came.invariant in
    let more = write_later c.args.results.now c.loop-came.came-index c.came-item.result c.loop-came-test.true c.came-item.is in
    (omega (arith, was, more, c.written_in-writes.ensures.is), omega (arith, few, c.written_in-writes.ensures.few))
