-- The first cell is that at 0; before another one stands one of the tile.
use Rattle.std.proofs.Common.{◌≡◌, ◌+◌, arith}
use Rattle.std.specs.Option.{option_copied}
use Rattle.ts_sparse_read.specs.Sifts.{bare_if}
use Rattle.ts_sparse_read.proofs.SiftLaws.{spot_inside}
use Rattle.ts_sparse_read.proofs.PickStepLaws.{told_next}
use Rattle.ts_sparse_read.proofs.ordering.check_next.Goals as goal

pub check_place-requires-clause-inside : goal.check_place-requires-clause-inside
check_place-requires-clause-inside c = spot_inside c.args.frame.now c.args.columns.now c.args.place c.spot_at.result c.requires.sound c.requires.within c.spot_at.ensures

pub returns-in-Some : goal.returns-in-Some
returns-in-Some c =
    let next : c.args.place ≡ c.in-Some.before + 1 = omega (arith, c.in-Some.ensures) in
    told_next c.args.frame.now c.args.consolidated c.args.ranges.now c.in-Some.before c.args.place (bare_if (option_copied c.args.last)) c.args.columns.now c.check_near.result next c.check_near.ensures
