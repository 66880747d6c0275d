-- One number more, so many times.
use Rattle.std.proofs.Common.{rules, ◌≡◌, ◌++◌, get_or, pos, replicate, sym, ap, ◌∙◌, append_assoc}
use Rattle.ts_domain.specs.Bounds.{numbers_from}
use Rattle.ts_gather.specs.Sides.{stretched}
use Rattle.ts_gather.proofs.SideLaws.{stretched_more}
use Rattle.ts_gather.proofs.sides.push_side.Goals as goal

pub loop-steps-preserved : goal.loop-steps-preserved
loop-steps-preserved c =
    let l = c.loop-steps in
    let x = get_or c.args.low.now c.args.dim (pos 0) in
    let y = c.number_at-number.result in
    let push : c.push_times.new.column ≡ c.loop-steps.column ++ replicate c.args.each c.number_at-number.result = search rules in
    push ∙ ap (λ ys. ys ++ replicate c.args.each y) l.invariant ∙ append_assoc c.args.column.now (stretched c.args.each (numbers_from x l.steps)) (replicate c.args.each y)
    ∙ ap (λ ys. c.args.column.now ++ ys) (sym (stretched_more c.args.each l.steps x y c.number_at-number.ensures))
