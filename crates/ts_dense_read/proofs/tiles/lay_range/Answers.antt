-- One tile more.
use Rattle.std.proofs.Common.{arith}
use Rattle.ts_order.specs.Orders.{coords_in_order}
use Rattle.ts_order.proofs.OrderedCoords.{length-coords_in_order}
use Rattle.ts_dense_read.specs.TileRanges.{tile_of}
use Rattle.ts_dense_read.proofs.MeetTiles.{laying_more, laying_all}
use Rattle.ts_dense_read.proofs.tiles.lay_range.Goals as goal

pub tile_of-requires-clause-reached : goal.tile_of-requires-clause-reached
tile_of-requires-clause-reached c = c.requires.among c.coords_at-number.result c.coords_at-number.ensures.inside

pub loop-place-preserved : goal.loop-place-preserved
loop-place-preserved c =
    let a = c.args in
    let l = c.loop-place in
    laying_more (tile_of a.frame.now a.hull.now a.used.now) (coords_in_order a.frame.now.tile a.range.now) l.tiles c.push.new.self l.place c.coords_at-number.result c.in_ok-tile.tile l.invariant c.coords_at-number.ensures.place
    c.in_ok-tile.ensures c.in_ok-push.ensures.ok

pub returns : goal.returns
returns c =
    let a = c.args in
    let l = c.loop-place in
    let many = length-coords_in_order a.frame.now.tile a.range.now c.requires.range in
    laying_all (tile_of a.frame.now a.hull.now a.used.now) (coords_in_order a.frame.now.tile a.range.now) l.tiles l.place l.invariant (omega (arith, many, c.cells-place-end.ensures.capped, c.requires.fewer, c.loop-place-test.false))
