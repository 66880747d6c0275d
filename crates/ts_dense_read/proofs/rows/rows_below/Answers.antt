-- One slot more.
use Rattle.ts_dense_read.specs.SpaceTakes.{is_slot_wanted}
use Rattle.ts_dense_read.proofs.SlotTakes.{passing_more}
use Rattle.ts_dense_read.proofs.rows.rows_below.Goals as goal

pub loop-row-preserved : goal.loop-row-preserved
loop-row-preserved c =
    let l = c.loop-row in
    passing_more (is_slot_wanted c.args.opened.now c.args.leaf.now c.args.origins.now) l.rows c.push_row.new.rows l.row l.invariant c.in_ok-push_row.ensures
