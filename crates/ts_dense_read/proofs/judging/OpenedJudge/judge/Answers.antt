-- What was taken is answered.
use Rattle.std.specs.Prelude.{List}
use Rattle.ts_base.specs.declared.heads.Version.{Version}
use Rattle.ts_dense_read.specs.SpaceJudges.{slots_of_tiles, space_judge}
use Rattle.ts_dense_read.proofs.TileTakes.{whole_judged, told_judged}
use Rattle.ts_dense_read.proofs.judging.OpenedJudge.judge.Goals as goal

pub returns-in-Ok : goal.returns-in-Ok
unfolding space_judge
returns-in-Ok g c =
    let o = c.args.self.now in
    whole_judged o (slots_of_tiles o.frame o.attrs o.want.attrs o.head o.tiles c.args.got.now) c.in-Ok.found c.in-Ok.ensures

pub returns-in-Err : goal.returns-in-Err
unfolding space_judge
returns-in-Err g c =
    let o = c.args.self.now in
    told_judged o (λ (vs : List Version). vs) (slots_of_tiles o.frame o.attrs o.want.attrs o.head o.tiles c.args.got.now) c.in-Err.fault c.told.result c.in-Err.ensures c.told.ensures
