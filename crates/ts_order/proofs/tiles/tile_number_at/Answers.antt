use Rattle.std.proofs.Common.{rules, ◌∙◌, sym, get_or, pos, FitsSigned, to_z-of_z}
use Rattle.std.specs.Int.{w128}
use Rattle.ts_order.proofs.OrderLemmas.{is_in_domain_at, length-is_in_domain, get_or-tile_numbers}
use Rattle.ts_order.proofs.tiles.tile_number_at.Goals as goal

pub bounds-at-dim : goal.bounds-at-dim
bounds-at-dim c = rw (length-is_in_domain c.args.dims.now c.args.at.now c.requires.inside) c.requires.within

pub tile_number-requires-clause-above : goal.tile_number-requires-clause-above
tile_number-requires-clause-above c =
    let fits : FitsSigned w128 (get_or c.args.at.now c.args.dim (pos 0)) = search rules in
    rw (to_z-of_z fits) (is_in_domain_at c.args.dims.now c.args.at.now c.args.dim c.index-dims-dim.result c.requires.inside c.requires.within c.index-dims-dim.is).0

pub tile_number-requires-clause-below : goal.tile_number-requires-clause-below
tile_number-requires-clause-below c =
    let fits : FitsSigned w128 (get_or c.args.at.now c.args.dim (pos 0)) = search rules in
    rw (to_z-of_z fits) (is_in_domain_at c.args.dims.now c.args.at.now c.args.dim c.index-dims-dim.result c.requires.inside c.requires.within c.index-dims-dim.is).1

pub returns : goal.returns
returns c =
    let fits : FitsSigned w128 (get_or c.args.at.now c.args.dim (pos 0)) = search rules in
    let number : FitsSigned w128 c.tile_number.result = search rules in
    let is = get_or-tile_numbers c.args.dims.now c.args.at.now c.args.dim c.index-dims-dim.result (length-is_in_domain c.args.dims.now c.args.at.now c.requires.inside) c.requires.within c.index-dims-dim.is in
    to_z-of_z number ∙ (rw (to_z-of_z fits) at c.tile_number.ensures) ∙ sym is
