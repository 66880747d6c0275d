-- The next tile is found.
use Rattle.std.proofs.Common.{◌+◌, ap, rules}
use Rattle.ts_dense.proofs.TileStarts.{finding_more, finding_room}
use Rattle.ts_dense.proofs.starts.tile_starts.Goals as goal

pub overflow_add-at : goal.overflow_add-at
overflow_add-at c =
    let l = c.loop-count in
    let room = finding_room c.args.counts.now c.args.texts.now l.starts l.first _ l.at l.count-index _ _ l.invariant c.end_of-end.ensures c.tile_size-at.ensures in search rules

pub loop-count-preserved : goal.loop-count-preserved
loop-count-preserved c =
    let l = c.loop-count in
    finding_more c.args.counts.now c.args.texts.now l.starts _ l.first _ l.at _ l.count-index l.invariant c.loop-count-test.true c.end_of-end.ensures c.in_ok-push.ensures.ok (ap (λ n. l.at + n) c.tile_size-at.ensures)
