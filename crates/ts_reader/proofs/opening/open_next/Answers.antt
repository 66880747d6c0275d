-- All heads are read: what is loaded comes next.
use Rattle.std.proofs.Common.{◌≡◌, rules, false, nat_lt, length, ◌∙◌}
use Rattle.std.proofs.lemmas.Result.{IfOk-weaker}
use Rattle.ts_reader.proofs.Leads.{all_open}
use Rattle.ts_reader.proofs.opening.open_next.Goals as goal

pub returns-clause-is : goal.returns-clause-is
returns-clause-is g c =
    let last : nat_lt (length c.args.opened) (length c.args.reading.fragments) ≡ false = search rules in
    IfOk-weaker c.load.result _ _ (λ s is. is ∙ all_open g.P.Pieces.codec c.args.reading c.args.opened last) c.load.ensures.is
