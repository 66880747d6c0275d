use Rattle.std.proofs.Common.{rules, ◌≡◌, ◌∙◌, sym, get_or, pos, FitsSigned, to_z-of_z}
use Rattle.std.specs.Int.{w128, int_max}
use Rattle.ts_domain.specs.Dims.{tile_start}
use Rattle.ts_order.proofs.TileSteps.{tile_at, length_low, length_tile, get_or-cut_low}
use Rattle.ts_dense_read.proofs.parts.cut_low_at.Goals as goal

pub bounds-low-dim : goal.bounds-low-dim
bounds-low-dim c = rw (c.as_slice-low.ensures, length_low c.args.dims.now c.args.sub.now c.args.tile.now c.requires.meets) c.requires.within

pub bounds-number-dim : goal.bounds-number-dim
bounds-number-dim c = rw (c.as_slice-number.ensures, length_tile c.args.dims.now c.args.sub.now c.args.tile.now c.requires.meets) c.requires.within

pub tile_start-requires-clause-positive : goal.tile_start-requires-clause-positive
tile_start-requires-clause-positive c =
    let fits : FitsSigned w128 (get_or c.as_slice-number.result.now c.args.dim (pos 0)) = search rules in
    let here = tile_at c.args.dims.now c.args.sub.now c.args.tile.now c.args.dim c.index-dims-dim.result c.requires.meets c.requires.within c.index-dims-dim.is in
    rw (to_z-of_z fits, c.as_slice-number.ensures) here.positive

pub tile_start-requires-clause-reached : goal.tile_start-requires-clause-reached
tile_start-requires-clause-reached c =
    let fits : FitsSigned w128 (get_or c.as_slice-number.result.now c.args.dim (pos 0)) = search rules in
    let here = tile_at c.args.dims.now c.args.sub.now c.args.tile.now c.args.dim c.index-dims-dim.result c.requires.meets c.requires.within c.index-dims-dim.is in
    rw (to_z-of_z fits, c.as_slice-number.ensures) here.reached

pub returns : goal.returns
returns c =
    let dims = c.args.dims.now in
    let sub = c.args.sub.now in
    let tile = c.args.tile.now in
    let meets = c.requires.meets in
    let number : FitsSigned w128 (get_or c.as_slice-number.result.now c.args.dim (pos 0)) = search rules in
    let bound : FitsSigned w128 (get_or c.as_slice-low.result.now c.args.dim (pos 0)) = search rules in
    let edge : FitsSigned w128 c.tile_start.result = search rules in
    let cut : FitsSigned w128 c.max.result = search rules in
    let is = get_or-cut_low dims tile sub.low c.args.dim c.index-dims-dim.result (length_tile dims sub tile meets) (length_low dims sub tile meets) c.requires.within c.index-dims-dim.is in
    let edge_is : c.tile_start.result ≡ tile_start c.index-dims-dim.result (get_or tile c.args.dim (pos 0)) = rw (to_z-of_z number, c.as_slice-number.ensures) at c.tile_start.ensures in
    let value : c.max.result ≡ int_max (get_or sub.low c.args.dim (pos 0)) c.tile_start.result = rw (to_z-of_z bound, to_z-of_z edge, c.as_slice-low.ensures) at c.max.ensures.value in
    to_z-of_z cut ∙ (rw edge_is at value) ∙ sym is
