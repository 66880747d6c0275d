use Rattle.std.proofs.Common.{rules, ◌≡◌, ap, ◌∙◌}
use Rattle.ts_cond.specs.Holds.{holds}
use Rattle.ts_cond.specs.Picks.{picked_value}
use Rattle.ts_match.specs.Sights.{value_in}
use Rattle.ts_cond.proofs.PickLemmas.{holds_as_picked}
use Rattle.ts_match.proofs.matching.matches_cell.Goals as goal

pub returns-clause-matches : goal.returns-clause-matches
unfolding value_in
returns-clause-matches c = λ attrs same.
    let picks = c.args.picks.now in
    let condition = c.args.condition.now in
    let coords = c.args.cell.now.coords in
    let row = c.args.cell.now.row in
    let found : c.node_holds.result ≡ holds (picked_value picks condition.fields coords row) condition.root = search rules in
    found ∙ ap (λ picks. holds (picked_value picks condition.fields coords row) condition.root) same ∙ holds_as_picked condition.fields coords attrs row condition.root
