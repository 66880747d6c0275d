-- The next byte list is counted.
use Rattle.std.proofs.Common.{refl, rules}
use Rattle.ts_dense.proofs.TileStarts.{count_more, count_room}
use Rattle.ts_dense.proofs.starts.tile_size.Goals as goal

pub overflow_add-size : goal.overflow_add-size
overflow_add-size c =
    let l = c.loop-place in
    let room = count_room c.args.texts.now c.args.first c.args.end l.size l.place _ c.at.result.now l.invariant c.loop-place-test.true c.requires.within c.at.ensures c.requires.few refl in search rules

pub loop-place-preserved : goal.loop-place-preserved
loop-place-preserved c =
    let l = c.loop-place in
    count_more c.args.texts.now c.args.first c.args.end l.size _ l.place c.at.result.now l.invariant c.loop-place-test.true c.requires.within c.at.ensures refl
