-- One cell more.
use Rattle.ts_sparse_read.proofs.PickLaws.{taken_more}
use Rattle.ts_sparse_read.proofs.versions.wanted_places.Goals as goal

pub loop-place-preserved : goal.loop-place-preserved
loop-place-preserved c =
    let l = c.loop-place in
    taken_more c.args.opened.now c.args.columns.now l.places.items c.push_wanted.new.places.items l.place c.requires.sound c.loop-place-test.true l.invariant c.in_ok-push_wanted.ensures
