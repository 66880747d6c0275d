-- One origin more keeps what the loop keeps.
use Rattle.ts_dense_read.proofs.OriginSteps.{reading_more}
use Rattle.ts_dense_read.proofs.origins.read_each.Goals as goal

pub loop-place-preserved : goal.loop-place-preserved
loop-place-preserved c =
    let a = c.args in
    let l = c.loop-place in
    reading_more a.entries a.opened.now.want.attrs a.opened.now.attrs a.vals.now a.count a.cursor.now l.cursor c.read_origin.new.cursor l.origins c.push.new.self l.place c.in_ok-origin.origin c.requires.vals l.invariant c.loop-place-test.true
    c.in_ok-origin.ensures c.in_ok-push.ensures.ok
