use Rattle.std.proofs.Common.{◌≡◌, refl, FitsSigned, to_z-of_z}
use Rattle.std.specs.Int.{w128}
use Rattle.ts_domain.specs.Dims.{tile_start}
use Rattle.ts_order.proofs.TileSteps.{fit_in_tile}
use Rattle.ts_dense_read.proofs.parts.tile_end.Goals as goal

pub overflow_add-result : goal.overflow_add-result
overflow_add-result c =
    let f = fit_in_tile c.args.dim.now c.args.tile c.requires.sound c.requires.positive c.requires.reached in
    let tile : FitsSigned w128 c.args.tile = c.ranges.tile in
    let start : c.tile_start.result ≡ tile_start c.args.dim.now c.args.tile = rw (to_z-of_z tile) at c.tile_start.ensures in
    rw (start, to_z-of_z f.start, to_z-of_z f.extent_fits, to_z-of_z f.width) f.end

pub returns : goal.returns
returns c =
    let f = fit_in_tile c.args.dim.now c.args.tile c.requires.sound c.requires.positive c.requires.reached in
    let tile : FitsSigned w128 c.args.tile = c.ranges.tile in
    let start : c.tile_start.result ≡ tile_start c.args.dim.now c.args.tile = rw (to_z-of_z tile) at c.tile_start.ensures in
    rw (start, to_z-of_z f.start, to_z-of_z f.extent_fits, to_z-of_z f.width, to_z-of_z f.end) refl
