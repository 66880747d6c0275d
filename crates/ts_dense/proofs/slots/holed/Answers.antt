-- The tiles one after another, and the slots of all.
use Rattle.std.proofs.Common.{ap, ◌∙◌}
use Rattle.std.specs.List.{flat_map}
use Rattle.ts_order.specs.Orders.{coords_in_order}
use Rattle.ts_piece.specs.Spots.{spotted}
use Rattle.ts_dense.specs.Laying.{versions_at}
use Rattle.ts_dense.proofs.FillLaws.{placing_none, placing_more, placed_all}
use Rattle.ts_dense.proofs.slots.holed.Goals as goal

pub loop-tile-init : goal.loop-tile-init
loop-tile-init c = placing_none c.args.order c.args.tiles.now (spotted c.parts.result.batches.now c.parts.result.spots.now) c.new-slots.result.items c.new-slots.ensures.items

pub loop-tile-preserved : goal.loop-tile-preserved
loop-tile-preserved c =
    let l = c.loop-tile in
    placing_more c.args.order c.args.tiles.now (spotted c.parts.result.batches.now c.parts.result.spots.now) l.slots.items c.fill.new.slots.items l.next c.in_ok-next.next l.tile-index c.tile-item.result
    l.invariant c.loop-tile-test.true c.tile-item.is c.in_ok-next.ensures

pub returns : goal.returns
returns c =
    let l = c.loop-tile in
    let all = spotted c.parts.result.batches.now c.parts.result.spots.now in
    placed_all c.args.order c.args.tiles.now all l.slots.items l.next l.tile-index l.invariant c.loop-tile-test.false
    ∙ ap (versions_at (flat_map (coords_in_order c.args.order) c.args.tiles.now)) c.parts.ensures.versions
