use Rattle.std.proofs.Common.{◌∙◌, sym}
use Rattle.ts_order.specs.Orders.{tile_numbers}
use Rattle.ts_order.proofs.OrderLemmas.{slice_cmp_more, slice_cmp_apart, slice_cmp_all, length-is_in_domain, length-tile_numbers}
use Rattle.ts_order.proofs.compare.cmp_tiles.Goals as goal

pub returns-in_default : goal.returns-in_default
returns-in_default c =
    let dims = c.args.dims.now in
    let first = length-tile_numbers dims c.args.a.now (length-is_in_domain dims c.args.a.now c.requires.first) in
    let second = length-tile_numbers dims c.args.b.now (length-is_in_domain dims c.args.b.now c.requires.second) in
    slice_cmp_apart c.args.tile (tile_numbers dims c.args.a.now) (tile_numbers dims c.args.b.now) c.loop-rank.rank
    (rw first c.loop-rank-test.true) (rw second c.loop-rank-test.true) (second ∙ sym first) _ c.cmp_tile_at.result
    (rw (first, ← c.dim_at.ensures.value) c.cmp_tile_at.ensures) c.in_default.not-Equal c.loop-rank.invariant

pub loop-rank-preserved : goal.loop-rank-preserved
loop-rank-preserved c =
    let dims = c.args.dims.now in
    let first = length-tile_numbers dims c.args.a.now (length-is_in_domain dims c.args.a.now c.requires.first) in
    let second = length-tile_numbers dims c.args.b.now (length-is_in_domain dims c.args.b.now c.requires.second) in
    slice_cmp_more c.args.tile (tile_numbers dims c.args.a.now) (tile_numbers dims c.args.b.now) c.loop-rank.rank
    (rw first c.loop-rank-test.true) (rw second c.loop-rank-test.true) (second ∙ sym first) _ c.cmp_tile_at.result
    (rw (first, ← c.dim_at.ensures.value) c.cmp_tile_at.ensures) c.in-Equal.is c.loop-rank.invariant

pub returns : goal.returns
returns c =
    let dims = c.args.dims.now in
    let first = length-tile_numbers dims c.args.a.now (length-is_in_domain dims c.args.a.now c.requires.first) in
    let second = length-tile_numbers dims c.args.b.now (length-is_in_domain dims c.args.b.now c.requires.second) in
    slice_cmp_all c.args.tile (tile_numbers dims c.args.a.now) (tile_numbers dims c.args.b.now) c.loop-rank.rank _ (rw first c.loop-rank-test.false) (second ∙ sym first) c.loop-rank.invariant
