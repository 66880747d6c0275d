use Rattle.std.proofs.Common.{rules, arith, ◌≡◌, ◌∙◌, sym, ap, take, length, length-set, FitsSigned, to_z-of_z}
use Rattle.std.specs.Int.{w128}
use Rattle.std.proofs.lemmas.List.{take_all}
use Rattle.ts_order.specs.Tiles.{cut_low}
use Rattle.ts_order.proofs.TileSteps.{written_more, length_low, length_tile, length-cut_low}
use Rattle.ts_dense_read.proofs.parts.cut_low.Goals as goal

pub cut_low_at-requires-clause-within : goal.cut_low_at-requires-clause-within
cut_low_at-requires-clause-within c =
    let same = length_low c.args.dims.now c.args.sub.now c.args.tile.now c.requires in
    rw (← same, ← c.len-count.ensures.count) c.loop-dim-test.true

pub loop-dim-preserved : goal.loop-dim-preserved
loop-dim-preserved c =
    let dims = c.args.dims.now in
    let sub = c.args.sub.now in
    let tile = c.args.tile.now in
    let same = length_low dims sub tile c.requires in
    let whole : length (cut_low dims tile sub.low) ≡ length dims = length-cut_low dims tile sub.low (length_tile dims sub tile c.requires) same in
    let fits : FitsSigned w128 c.cut_low_at.result = search rules in (
      length-set c.loop-dim.numbers c.loop-dim.dim _ ∙ c.loop-dim.invariant.0,
      written_more c.loop-dim.numbers (cut_low dims tile sub.low) c.loop-dim.dim _ (omega (arith, c.loop-dim.invariant.0)) (omega (arith, whole, same)) (to_z-of_z fits ∙ c.cut_low_at.ensures) c.loop-dim.invariant.1,
    )

pub returns : goal.returns
returns c =
    let dims = c.args.dims.now in
    let sub = c.args.sub.now in
    let tile = c.args.tile.now in
    let same = length_low dims sub tile c.requires in
    let whole : length (cut_low dims tile sub.low) ≡ length dims = length-cut_low dims tile sub.low (length_tile dims sub tile c.requires) same in
    let done : c.loop-dim.dim ≡ c.len-count.result = omega arith in
    c.new.ensures ∙ ap (λ n. take n c.loop-dim.numbers) (sym done) ∙ c.loop-dim.invariant.1 ∙ take_all c.loop-dim.dim (cut_low dims tile sub.low) (omega (arith, whole, same))
