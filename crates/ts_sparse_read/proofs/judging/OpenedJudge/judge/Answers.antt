-- What was taken is answered.
use Rattle.std.specs.Prelude.{None}
use Rattle.ts_sparse_read.specs.declared.sifted.Sifted.{Sifted}
use Rattle.ts_sparse_read.specs.Judges.{cells_of_tiles, sparse_judge}
use Rattle.ts_sparse_read.proofs.TileSifts.{whole_judged, told_judged}
use Rattle.ts_sparse_read.proofs.judging.OpenedJudge.judge.Goals as goal

pub returns-in-Ok : goal.returns-in-Ok
unfolding sparse_judge
returns-in-Ok g c =
    let o = c.args.self.now in
    whole_judged o (cells_of_tiles o.frame o.attrs o.want.attrs o.head None o.tiles c.args.got.now) c.in-Ok.sifted c.in-Ok.ensures

pub returns-in-Err : goal.returns-in-Err
unfolding sparse_judge
returns-in-Err g c =
    let o = c.args.self.now in
    told_judged o (λ (s : Sifted). s) (cells_of_tiles o.frame o.attrs o.want.attrs o.head None o.tiles c.args.got.now) c.in-Err.fault c.told.result c.in-Err.ensures c.told.ensures
