-- The value of one row more.
use Rattle.ts_column.proofs.Written.{value_more}
use Rattle.ts_column.proofs.rows.column_of.Goals as goal

pub loop-row-preserved : goal.loop-row-preserved
loop-row-preserved c =
    let l = c.loop-row in
    value_more c.args.column c.args.rows.now l.row-index c.row-item.result c.at.result.now l.values c.push.new.self c.loop-row-test.true c.row-item.is c.at.ensures l.invariant c.in_ok-push.ensures.ok
