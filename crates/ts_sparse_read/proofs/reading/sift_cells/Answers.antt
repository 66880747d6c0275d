-- What is broken is so whatever was found before the tile.
use Rattle.std.proofs.Common.{rules, ◌≡◌, ℕ, Err}
use Rattle.std.specs.declared.alloc.Global.{Global}
use Rattle.std.specs.declared.vec.Vec.{Vec}
use Rattle.ts_sparse_read.specs.Sifts.{picked}
use Rattle.ts_sparse_read.proofs.PickStepLaws.{picks_stop}
use Rattle.ts_sparse_read.proofs.reading.sift_cells.Goals as goal

pub returns-in_err-places : goal.returns-in_err-places
returns-in_err-places c =
    let o = c.args.opened.now in
    let is : c.from_residual.result ≡ Err c.in_err-places.field-0.0 = search rules in
    rw is (picks_stop o c.args.columns c.args.ranges.now {A = Vec ℕ Global} {B = Unit {0}} (λ places. picked o c.args.columns places.items c.pick_cells.new.last) (λ _. c.args.sifted.now) c.args.sifted.now c.in_err-places.field-0.0 c.in_err-places.ensures.picks)
