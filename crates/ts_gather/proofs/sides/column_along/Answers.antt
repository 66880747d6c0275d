-- The side once more.
use Rattle.std.proofs.Common.{◌++◌, get_or, pos, sym, ap, ◌∙◌}
use Rattle.ts_domain.specs.Bounds.{count_between, numbers_from}
use Rattle.ts_gather.specs.Sides.{stretched}
use Rattle.ts_gather.proofs.SideLaws.{repeated_more}
use Rattle.ts_gather.proofs.sides.column_along.Goals as goal

pub loop-time-preserved : goal.loop-time-preserved
loop-time-preserved c =
    let l = c.loop-time in
    let x = get_or c.args.low.now c.args.dim (pos 0) in
    let once = stretched c.args.each (numbers_from x (count_between x (get_or c.args.high.now c.args.dim (pos 0)))) in
    c.in_ok-push_side.ensures ∙ ap (λ ys. ys ++ once) l.invariant ∙ sym (repeated_more l.time once)
