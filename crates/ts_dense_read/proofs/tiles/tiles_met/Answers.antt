-- The tiles that were laid are those that meet the box.
use Rattle.std.proofs.Common.{rules, ◌≡◌, true}
use Rattle.ts_domain.specs.Boxes.{do_boxes_meet}
use Rattle.ts_sparse_read.specs.Opens.{is_box_in}
use Rattle.ts_dense_read.proofs.MeetTiles.{tiles_answer}
use Rattle.ts_dense_read.proofs.tiles.tiles_met.Goals as goal

pub returns : goal.returns
returns c =
    let a = c.args in
    let is : is_box_in c.args.frame.now.domain c.args.sub.now ≡ true = search rules in
    let meet : do_boxes_meet c.args.hull.now c.args.sub.now ≡ true = search rules in
    tiles_answer a.frame.now a.hull.now c.as_slice-dims.ensures.sound c.requires.valid c.requires.inside a.used.now a.sub.now c.lay_tiles.result is meet c.lay_tiles.ensures
