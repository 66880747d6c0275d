use Rattle.std.proofs.Common.{rules, arith, ◌∙◌, FitsSigned, to_z-of_z}
use Rattle.std.specs.Int.{w128}
use Rattle.std.proofs.lemmas.Int.{ints}
use Rattle.ts_order.proofs.TileOrder.{fit_in_dim}
use Rattle.ts_order.proofs.tiles.tile_number.Goals as goal

pub returns : goal.returns
returns c =
    let d = c.args.dim.now in
    let r = c.requires in
    let f = fit_in_dim d c.args.x d.high r.sound r.above r.below (omega (arith, ints)) in
    let fits : FitsSigned w128 c.div_euclid.result = search rules in
    to_z-of_z fits ∙ (rw (to_z-of_z f.low_fits, to_z-of_z f.first_fits, to_z-of_z f.extent_fits, to_z-of_z f.offset) at c.div_euclid.ensures)
