-- The corners' numbers have their widths, so that a side is written as it stands.
use Rattle.std.proofs.Common.{rules, pos, get_or, FitsSigned, ◌∙◌}
use Rattle.std.specs.Int.{w128}
use Rattle.std.proofs.lemmas.Int.{to_z-of_z}
use Rattle.ts_plain.proofs.Corners.{hull_on}
use Rattle.ts_plain.proofs.writing.write_hull.Goals as goal

pub loop-dim-preserved : goal.loop-dim-preserved
loop-dim-preserved c =
    let i = c.loop-dim.dim in
    let lows = c.args.low.now in
    let highs = c.args.high.now in
    let low : FitsSigned w128 (get_or lows i (pos 0)) = search rules in
    let high : FitsSigned w128 (get_or highs i (pos 0)) = search rules in
    let wrote = simp (to_z-of_z, low, high) at c.in_ok-write_side.ensures in
    wrote ∙ hull_on c.args.scribe.now c.loop-dim.scribe lows highs i (pos 0) (pos 0) c.loop-dim-test.true c.requires c.loop-dim.invariant
