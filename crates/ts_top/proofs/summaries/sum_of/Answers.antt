use Rattle.std.proofs.Common.{◌<◌, length, arith}
use Rattle.ts_top.proofs.Refusing.{sum_later}
use Rattle.ts_top.proofs.summaries.sum_of.Goals as goal

pub loop-row-preserved : goal.loop-row-preserved
loop-row-preserved c =
    let (was, few) = c.loop-row.invariant in
    let within : c.loop-row.row < length c.args.rows.now = omega (arith, c.loop-row-test.true, c.len-row-end.ensures) in
    let more = sum_later c.args.rows.now c.loop-row.row within in
    (omega (arith, was, more, c.value_of.ensures.is, c.from-sum.ensures), omega (arith, few, c.from-sum.ensures, c.value_of.ensures.few))
