-- The corners of what both boxes have lie in the domain.
use Rattle.std.proofs.Common.{◌∙◌, sym, subst, ℤ, List}
use Rattle.std.specs.Prelude.{IsTrue}
use Rattle.ts_domain.specs.Domains.{is_in_domain}
use Rattle.ts_domain.proofs.Between.{length-are_bounds}
use Rattle.ts_dense_read.proofs.TurnedTiles.{near_low_inside, near_high_inside}
use Rattle.ts_dense_read.proofs.ranges.range_of.Goals as goal

pub nearest-requires-clause-highs : goal.nearest-requires-clause-highs
nearest-requires-clause-highs c = length-are_bounds c.args.hull.now.low c.args.hull.now.high c.requires.valid ∙ sym c.requires.dims

pub tile_numbers-requires-clause-inside : goal.tile_numbers-requires-clause-inside
tile_numbers-requires-clause-inside c =
    subst (λ (xs : List ℤ). IsTrue (is_in_domain c.args.dims.now xs)) (sym c.nearest.ensures) (near_low_inside c.args.dims.now c.args.hull.now c.args.sub.now c.requires.sound c.requires.valid c.requires.inside c.requires.other c.requires.dims c.requires.meet)

pub nearest-requires-2-clause-lows : goal.nearest-requires-2-clause-lows
nearest-requires-2-clause-lows c = sym (length-are_bounds c.args.sub.now.low c.args.sub.now.high c.requires.other ∙ c.requires.dims)

pub nearest-requires-2-clause-highs : goal.nearest-requires-2-clause-highs
nearest-requires-2-clause-highs c =
    length-are_bounds c.args.hull.now.low c.args.hull.now.high c.requires.valid ∙ sym (length-are_bounds c.args.sub.now.low c.args.sub.now.high c.requires.other ∙ c.requires.dims)

pub tile_numbers-requires-2-clause-inside : goal.tile_numbers-requires-2-clause-inside
tile_numbers-requires-2-clause-inside c =
    subst (λ (xs : List ℤ). IsTrue (is_in_domain c.args.dims.now xs)) (sym c.nearest-2.ensures) (near_high_inside c.args.dims.now c.args.hull.now c.args.sub.now c.requires.sound c.requires.valid c.requires.inside c.requires.other c.requires.dims c.requires.meet)
