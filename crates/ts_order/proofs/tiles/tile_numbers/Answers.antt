use Rattle.std.proofs.Common.{rules, arith, ◌≡◌, ◌∙◌, sym, ap, take, length, length-set, FitsSigned, to_z-of_z}
use Rattle.std.specs.Int.{w128}
use Rattle.std.proofs.lemmas.List.{take_all}
use Rattle.ts_order.specs.Orders.{tile_numbers}
use Rattle.ts_order.proofs.OrderLemmas.{length-is_in_domain, length-tile_numbers}
use Rattle.ts_order.proofs.TileSteps.{written_more}
use Rattle.ts_order.proofs.tiles.tile_numbers.Goals as goal

pub tile_number_at-requires-clause-within : goal.tile_number_at-requires-clause-within
tile_number_at-requires-clause-within c =
    let same = length-is_in_domain c.args.dims.now c.args.at.now c.requires.inside in
    rw (← same, ← c.len-count.ensures.count) c.loop-dim-test.true

pub loop-dim-preserved : goal.loop-dim-preserved
loop-dim-preserved c =
    let dims = c.args.dims.now in
    let at = c.args.at.now in
    let same = length-is_in_domain dims at c.requires.inside in
    let whole : length (tile_numbers dims at) ≡ length dims = length-tile_numbers dims at same in
    let fits : FitsSigned w128 c.tile_number_at.result = search rules in (
      length-set c.loop-dim.numbers c.loop-dim.dim _ ∙ c.loop-dim.invariant.0,
      written_more c.loop-dim.numbers (tile_numbers dims at) c.loop-dim.dim _ (omega (arith, c.loop-dim.invariant.0)) (omega (arith, whole, same)) (to_z-of_z fits ∙ (rw c.as_slice.ensures at c.tile_number_at.ensures)) c.loop-dim.invariant.1,
    )

pub returns : goal.returns
returns c =
    let dims = c.args.dims.now in
    let at = c.args.at.now in
    let same = length-is_in_domain dims at c.requires.inside in
    let whole : length (tile_numbers dims at) ≡ length dims = length-tile_numbers dims at same in
    let done : c.loop-dim.dim ≡ c.len-count.result = omega arith in
    c.new.ensures ∙ ap (λ n. take n c.loop-dim.numbers) (sym done) ∙ c.loop-dim.invariant.1 ∙ take_all c.loop-dim.dim (tile_numbers dims at) (omega (arith, whole, same))
