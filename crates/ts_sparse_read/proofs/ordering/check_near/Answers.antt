-- In one space tile the columns decide; else the spots do.
use Rattle.ts_sparse_read.specs.Sifts.{cell_in}
use Rattle.ts_sparse_read.proofs.SiftLaws.{spot_inside}
use Rattle.ts_sparse_read.proofs.PickStepLaws.{place_shared}
use Rattle.ts_sparse_read.proofs.ordering.check_near.Goals as goal

pub returns-then-may_follow : goal.returns-then-may_follow
returns-then-may_follow c =
    let frame = c.args.frame.now in
    let columns = c.args.columns.now in
    let may = c.may_follow.ensures c.if-may_follow.true in
    place_shared frame c.args.consolidated c.args.ranges.now c.args.place (cell_in columns c.args.before) (cell_in columns c.args.place) (c.requires.shared may.0 c.args.before c.args.place c.requires.before c.requires.within) may.1

pub check_place-requires-clause-before : goal.check_place-requires-clause-before
check_place-requires-clause-before c = spot_inside c.args.frame.now c.args.columns.now c.args.before c.spot_at-first.result c.requires.sound c.requires.before c.spot_at-first.ensures

pub check_place-requires-clause-inside : goal.check_place-requires-clause-inside
check_place-requires-clause-inside c = spot_inside c.args.frame.now c.args.columns.now c.args.place c.spot_at-second.result c.requires.sound c.requires.within c.spot_at-second.ensures
