use Rattle.std.proofs.Common.{refl, FitsSigned, to_z-of_z}
use Rattle.std.specs.Int.{w128}
use Rattle.ts_order.proofs.TileSteps.{fit_in_tile}
use Rattle.ts_dense_read.proofs.parts.tile_start.Goals as goal

pub overflow_mul-result : goal.overflow_mul-result
overflow_mul-result c =
    let f = fit_in_tile c.args.dim.now c.args.tile c.requires.sound c.requires.positive c.requires.reached in
    let tile : FitsSigned w128 c.args.tile = c.ranges.tile in
    rw (to_z-of_z tile, to_z-of_z f.extent_fits) f.offset

pub overflow_add-result : goal.overflow_add-result
overflow_add-result c =
    let f = fit_in_tile c.args.dim.now c.args.tile c.requires.sound c.requires.positive c.requires.reached in
    let tile : FitsSigned w128 c.args.tile = c.ranges.tile in
    rw (to_z-of_z f.low_fits, to_z-of_z tile, to_z-of_z f.extent_fits, to_z-of_z f.offset) f.start

pub returns : goal.returns
returns c =
    let f = fit_in_tile c.args.dim.now c.args.tile c.requires.sound c.requires.positive c.requires.reached in
    let tile : FitsSigned w128 c.args.tile = c.ranges.tile in
    rw (to_z-of_z f.low_fits, to_z-of_z tile, to_z-of_z f.extent_fits, to_z-of_z f.offset, to_z-of_z f.start) refl
