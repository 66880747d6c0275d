use Rattle.std.proofs.Common.{◌∙◌}
use Rattle.ts_order.specs.Tiles.{tiles_in}
use Rattle.ts_writer.specs.Spots.{spots_in}
use Rattle.ts_writer.proofs.SpotLists.{parts_all, parts_more}
use Rattle.ts_writer.proofs.spots.spots_of.Goals as goal

pub loop-tile-preserved : goal.loop-tile-preserved
loop-tile-preserved c =
    let frame = c.args.frame.now in
    let same = c.as_slice-tile-items.ensures ∙ c.in_ok-tiles.ensures.value in
    parts_more (spots_in c.args.layout c.args.sub.now frame.cell) c.loop-tile.spots.items _ _ (tiles_in frame.domain frame.tile c.args.sub.now) c.loop-tile.tile-index c.tile-item.result same c.loop-tile-test.true c.tile-item.is c.loop-tile.invariant c.in_ok-add_tile.ensures

pub returns : goal.returns
returns c =
    let frame = c.args.frame.now in
    let same = c.as_slice-tile-items.ensures ∙ c.in_ok-tiles.ensures.value in
    parts_all (spots_in c.args.layout c.args.sub.now frame.cell) c.loop-tile.spots.items _ (tiles_in frame.domain frame.tile c.args.sub.now) c.loop-tile.tile-index same c.loop-tile-test.false c.loop-tile.invariant
