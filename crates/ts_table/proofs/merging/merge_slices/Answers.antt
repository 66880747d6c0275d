-- Where one list is at its end, the rest of the other follows.
use Rattle.std.proofs.Common.{◌≡◌, ◌++◌, drop, rules, ap, ◌∙◌}
use Rattle.ts_table.specs.Orders.{cells_cmp}
use Rattle.ts_table.specs.Merges.{merged}
use Rattle.ts_table.proofs.MergeSteps.{first_ends, second_ends, rest_is}
use Rattle.ts_table.proofs.merging.merge_slices.Goals as goal
use Rattle.ts_table.proofs.merging.merge_slices.Goals.{then-loop-i-test+else-j-second, else-loop-i-test}

pub returns : goal.returns
returns c =
    let l = c.loop-i in
    let all = merged (cells_cmp c.args.domain.now c.args.order) c.args.first.now c.args.second.now in
    let whole : (l.list ++ drop l.i c.args.first.now) ++ drop l.j c.args.second.now ≡ all = elim c.loop-i-test.branch [
      | then-loop-i-test+else-j-second w ↦ second_ends _ c.args.first.now c.args.second.now l.i l.j l.list all (search rules) l.invariant.2
      | else-loop-i-test w ↦ first_ends _ c.args.first.now c.args.second.now l.i l.j l.list all (search rules) l.invariant.2
    ] in
    let first : c.append.new.list ≡ l.list ++ drop l.i c.args.first.now = c.in_ok-append.ensures ∙ ap (λ text. l.list ++ text) (rest_is c.args.first.now l.i) in
    c.in_ok-append-2.ensures ∙ ap (λ text. c.append.new.list ++ text) (rest_is c.args.second.now l.j) ∙ ap (λ text. text ++ drop l.j c.args.second.now) first ∙ whole
