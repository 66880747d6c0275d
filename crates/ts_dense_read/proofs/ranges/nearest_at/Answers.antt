-- A number lies nearest to another between two bounds.
use Rattle.std.proofs.Common.{rules, ◌≡◌, ◌∙◌, sym, ap, get_or, pos, FitsSigned, to_z-of_z}
use Rattle.std.specs.Int.{w128, int_min, int_max}
use Rattle.ts_dense_read.proofs.TurnedTiles.{get_or-nearest}
use Rattle.ts_dense_read.proofs.ranges.nearest_at.Goals as goal

pub returns : goal.returns
returns c =
    let a = c.args in
    let low : FitsSigned w128 (get_or c.args.low.now c.args.dim (pos 0)) = search rules in
    let high : FitsSigned w128 (get_or c.args.high.now c.args.dim (pos 0)) = search rules in
    let at : FitsSigned w128 (get_or c.args.at.now c.args.dim (pos 0)) = search rules in
    let lesser : FitsSigned w128 c.min.result = search rules in
    let greater : FitsSigned w128 c.max.result = search rules in
    let first : c.min.result ≡ int_min (get_or c.args.high.now c.args.dim (pos 0)) (get_or c.args.at.now c.args.dim (pos 0)) = rw (to_z-of_z high, to_z-of_z at) at c.min.ensures.value in
    let second : c.max.result ≡ int_max (get_or c.args.low.now c.args.dim (pos 0)) c.min.result = rw (to_z-of_z low, to_z-of_z lesser) at c.max.ensures.value in
    to_z-of_z greater ∙ second ∙ ap (int_max (get_or c.args.low.now c.args.dim (pos 0))) first ∙ sym (get_or-nearest a.low.now a.high.now a.at.now a.dim c.requires.lows c.requires.highs c.requires.within)
