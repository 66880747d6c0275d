use Rattle.std.proofs.Common.{rules, get_or, pos, FitsSigned, to_z-of_z}
use Rattle.std.specs.Int.{w128}
use Rattle.ts_order.proofs.OrderLemmas.{is_in_domain_at, length-is_in_domain, get_or-tile_numbers}
use Rattle.ts_order.proofs.compare.cmp_tile_at.Goals as goal

pub bounds-a-dim : goal.bounds-a-dim
bounds-a-dim c = rw (length-is_in_domain c.args.dims.now c.args.a.now c.requires.first) c.requires.below

pub bounds-b-dim : goal.bounds-b-dim
bounds-b-dim c = rw (length-is_in_domain c.args.dims.now c.args.b.now c.requires.second) c.requires.below

pub cmp_tile-requires-clause-a_above : goal.cmp_tile-requires-clause-a_above
cmp_tile-requires-clause-a_above c =
    let fits : FitsSigned w128 (get_or c.args.a.now c.args.dim (pos 0)) = search rules in
    rw (to_z-of_z fits) (is_in_domain_at c.args.dims.now c.args.a.now c.args.dim c.index-dims-dim.result c.requires.first c.requires.below c.index-dims-dim.is).0

pub cmp_tile-requires-clause-a_below : goal.cmp_tile-requires-clause-a_below
cmp_tile-requires-clause-a_below c =
    let fits : FitsSigned w128 (get_or c.args.a.now c.args.dim (pos 0)) = search rules in
    rw (to_z-of_z fits) (is_in_domain_at c.args.dims.now c.args.a.now c.args.dim c.index-dims-dim.result c.requires.first c.requires.below c.index-dims-dim.is).1

pub cmp_tile-requires-clause-b_above : goal.cmp_tile-requires-clause-b_above
cmp_tile-requires-clause-b_above c =
    let fits : FitsSigned w128 (get_or c.args.b.now c.args.dim (pos 0)) = search rules in
    rw (to_z-of_z fits) (is_in_domain_at c.args.dims.now c.args.b.now c.args.dim c.index-dims-dim.result c.requires.second c.requires.below c.index-dims-dim.is).0

pub cmp_tile-requires-clause-b_below : goal.cmp_tile-requires-clause-b_below
cmp_tile-requires-clause-b_below c =
    let fits : FitsSigned w128 (get_or c.args.b.now c.args.dim (pos 0)) = search rules in
    rw (to_z-of_z fits) (is_in_domain_at c.args.dims.now c.args.b.now c.args.dim c.index-dims-dim.result c.requires.second c.requires.below c.index-dims-dim.is).1

pub returns : goal.returns
returns c =
    let dims = c.args.dims.now in
    let first : FitsSigned w128 (get_or c.args.a.now c.args.dim (pos 0)) = search rules in
    let second : FitsSigned w128 (get_or c.args.b.now c.args.dim (pos 0)) = search rules in
    let a = get_or-tile_numbers dims c.args.a.now c.args.dim c.index-dims-dim.result (length-is_in_domain dims c.args.a.now c.requires.first) c.requires.below c.index-dims-dim.is in
    let b = get_or-tile_numbers dims c.args.b.now c.args.dim c.index-dims-dim.result (length-is_in_domain dims c.args.b.now c.requires.second) c.requires.below c.index-dims-dim.is in
    rw (a, b) (rw (to_z-of_z first, to_z-of_z second) at c.cmp_tile.ensures)
