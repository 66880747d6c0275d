use Rattle.std.proofs.Common.{rules, ◌≡◌, ◌∙◌, sym, get_or, pos, FitsSigned, to_z-of_z}
use Rattle.std.specs.Int.{w128, int_min}
use Rattle.ts_domain.specs.Dims.{tile_end}
use Rattle.ts_order.proofs.TileSteps.{tile_at, length_high, length_tile, get_or-cut_high}
use Rattle.ts_dense_read.proofs.parts.cut_high_at.Goals as goal

pub bounds-high-dim : goal.bounds-high-dim
bounds-high-dim c = rw (c.as_slice-high.ensures, length_high c.args.dims.now c.args.sub.now c.args.tile.now c.requires.meets) c.requires.within

pub bounds-number-dim : goal.bounds-number-dim
bounds-number-dim c = rw (c.as_slice-number.ensures, length_tile c.args.dims.now c.args.sub.now c.args.tile.now c.requires.meets) c.requires.within

pub tile_end-requires-clause-positive : goal.tile_end-requires-clause-positive
tile_end-requires-clause-positive c =
    let fits : FitsSigned w128 (get_or c.as_slice-number.result.now c.args.dim (pos 0)) = search rules in
    let here = tile_at c.args.dims.now c.args.sub.now c.args.tile.now c.args.dim c.index-dims-dim.result c.requires.meets c.requires.within c.index-dims-dim.is in
    rw (to_z-of_z fits, c.as_slice-number.ensures) here.positive

pub tile_end-requires-clause-reached : goal.tile_end-requires-clause-reached
tile_end-requires-clause-reached c =
    let fits : FitsSigned w128 (get_or c.as_slice-number.result.now c.args.dim (pos 0)) = search rules in
    let here = tile_at c.args.dims.now c.args.sub.now c.args.tile.now c.args.dim c.index-dims-dim.result c.requires.meets c.requires.within c.index-dims-dim.is in
    rw (to_z-of_z fits, c.as_slice-number.ensures) here.reached

pub returns : goal.returns
returns c =
    let dims = c.args.dims.now in
    let sub = c.args.sub.now in
    let tile = c.args.tile.now in
    let meets = c.requires.meets in
    let number : FitsSigned w128 (get_or c.as_slice-number.result.now c.args.dim (pos 0)) = search rules in
    let bound : FitsSigned w128 (get_or c.as_slice-high.result.now c.args.dim (pos 0)) = search rules in
    let edge : FitsSigned w128 c.tile_end.result = search rules in
    let cut : FitsSigned w128 c.min.result = search rules in
    let is = get_or-cut_high dims tile sub.high c.args.dim c.index-dims-dim.result (length_tile dims sub tile meets) (length_high dims sub tile meets) c.requires.within c.index-dims-dim.is in
    let edge_is : c.tile_end.result ≡ tile_end c.index-dims-dim.result (get_or tile c.args.dim (pos 0)) = rw (to_z-of_z number, c.as_slice-number.ensures) at c.tile_end.ensures in
    let value : c.min.result ≡ int_min (get_or sub.high c.args.dim (pos 0)) c.tile_end.result = rw (to_z-of_z bound, to_z-of_z edge, c.as_slice-high.ensures) at c.min.ensures.value in
    to_z-of_z cut ∙ (rw edge_is at value) ∙ sym is
