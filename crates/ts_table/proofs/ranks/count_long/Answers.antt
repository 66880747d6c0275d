-- One place more is counted on.
use Rattle.std.proofs.Common.{rules, arith, ◌≡◌, ◌∙◌, ◌+◌, ◌*◌, length, length-set, get_or, refl, pos}
use Rattle.ts_table.specs.Ranks.{steps_on}
use Rattle.ts_table.proofs.RankSteps.{done_more, left_less, all_counted}
use Rattle.ts_table.proofs.ranks.count_long.Goals as goal

pub loop-place-preserved : goal.loop-place-preserved
loop-place-preserved c =
    let line = c.args.line.now in
    let column = c.args.column.now in
    let places = c.args.places.now in
    let i = c.loop-place.place in
    let here : get_or c.loop-place.places i 0 ≡ get_or places i 0 = c.loop-place.invariant.left i (omega arith) (omega arith) in
    let steps : c.steps_on-steps.result ≡ steps_on line (get_or column i (pos 0)) = search rules in
    record {
      long = length-set c.loop-place.places i _ ∙ c.loop-place.invariant.long;
      done = done_more c.loop-place.places i _ (λ k. get_or places k 0 * line.count + steps_on line (get_or column k (pos 0))) (omega (arith, c.loop-place.invariant.long)) (rw (here, steps) refl) c.loop-place.invariant.done;
      left = left_less c.loop-place.places i _ (length places) (λ k. get_or places k 0) c.loop-place.invariant.left;
    }

pub returns : goal.returns
returns c =
    all_counted c.args.line.now c.args.column.now c.args.places.now c.loop-place.places c.requires.long c.loop-place.invariant.long
    (λ k below. c.loop-place.invariant.done k (omega (arith, below, c.loop-place-test.false)))
