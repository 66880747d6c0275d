use Rattle.std.proofs.Common.{to_z-of_z}
use Rattle.ts_domain.proofs.TileLemmas.{fit_on_the_way, end_by_rest}
use Rattle.ts_domain.proofs.dims.end_of_tiles.Goals as goal

pub overflow_sub-result-2 : goal.overflow_sub-result-2
overflow_sub-result-2 c =
    let d = c.args.dim.now in
    let v = c.requires.valid in
    let f = fit_on_the_way d.low d.high d.extent v.low v.high v.extent c.requires.ordered c.requires.some in
    rw (to_z-of_z f.low_fits, to_z-of_z f.high_fits, to_z-of_z f.extent_fits, to_z-of_z f.distance, to_z-of_z f.into_tile, to_z-of_z f.whole) f.left

pub overflow_add-result : goal.overflow_add-result
overflow_add-result c =
    let d = c.args.dim.now in
    let v = c.requires.valid in
    let f = fit_on_the_way d.low d.high d.extent v.low v.high v.extent c.requires.ordered c.requires.some in
    rw (to_z-of_z f.low_fits, to_z-of_z f.high_fits, to_z-of_z f.extent_fits, to_z-of_z f.distance, to_z-of_z f.into_tile, to_z-of_z f.whole, to_z-of_z f.left) f.end

pub returns : goal.returns
returns c =
    let d = c.args.dim.now in
    let v = c.requires.valid in
    let f = fit_on_the_way d.low d.high d.extent v.low v.high v.extent c.requires.ordered c.requires.some in
    rw (to_z-of_z f.low_fits, to_z-of_z f.high_fits, to_z-of_z f.extent_fits, to_z-of_z f.distance, to_z-of_z f.into_tile, to_z-of_z f.whole, to_z-of_z f.left, to_z-of_z f.end)
    (end_by_rest d.low d.high d.extent c.requires.ordered c.requires.some)
