-- One number more.
use Rattle.std.proofs.Common.{rules, arith, ◌≡◌, ◌∙◌, sym, ap, take, length, length-set, FitsSigned, to_z-of_z}
use Rattle.std.specs.Int.{w128}
use Rattle.std.proofs.lemmas.List.{take_all}
use Rattle.ts_order.proofs.TileSteps.{written_more}
use Rattle.ts_dense_read.specs.TileRanges.{nearest}
use Rattle.ts_dense_read.proofs.TurnedTiles.{length-nearest}
use Rattle.ts_dense_read.proofs.ranges.nearest.Goals as goal

pub loop-dim-preserved : goal.loop-dim-preserved
loop-dim-preserved c =
    let l = c.loop-dim in
    let hull = c.args.hull.now in
    let at = c.args.at.now in
    let whole : length (nearest c.args.hull.now.low c.args.hull.now.high c.args.at.now) ≡ length c.args.at.now = length-nearest hull.low hull.high at c.requires.lows c.requires.highs in
    let fits : FitsSigned w128 c.nearest_at.result = search rules in (
      length-set l.numbers l.dim _ ∙ l.invariant.0,
      written_more l.numbers (nearest hull.low hull.high at) l.dim _ (omega (arith, l.invariant.0)) (omega (arith, whole)) (to_z-of_z fits ∙ (rw (c.as_slice-low.ensures, c.as_slice-high.ensures, c.as_slice.ensures) at c.nearest_at.ensures)) l.invariant.1,
    )

pub returns : goal.returns
returns c =
    let hull = c.args.hull.now in
    let at = c.args.at.now in
    let whole : length (nearest c.args.hull.now.low c.args.hull.now.high c.args.at.now) ≡ length c.args.at.now = length-nearest hull.low hull.high at c.requires.lows c.requires.highs in
    let done : c.loop-dim.dim ≡ c.len-count.result = omega arith in
    c.new.ensures ∙ ap (λ n. take n c.loop-dim.numbers) (sym done) ∙ c.loop-dim.invariant.1 ∙ take_all c.loop-dim.dim (nearest hull.low hull.high at) (omega (arith, whole))
