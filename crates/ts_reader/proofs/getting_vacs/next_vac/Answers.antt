-- All `.vac` objects are got: the fragments come next.
use Rattle.std.proofs.Common.{◌≡◌, rules, false, nat_lt, length, ◌∙◌}
use Rattle.std.proofs.lemmas.Result.{IfOk-weaker}
use Rattle.ts_reader.proofs.Leads.{all_vacs}
use Rattle.ts_reader.proofs.getting_vacs.next_vac.Goals as goal

pub returns-clause-is : goal.returns-clause-is
returns-clause-is g c =
    let last : nat_lt (length c.args.reading.vacs) (length c.args.reading.counting) ≡ false = search rules in
    IfOk-weaker c.open_next.result _ _ (λ s is. is ∙ all_vacs g.P.Pieces.codec c.args.reading c.new-2.result last c.new-2.ensures) c.open_next.ensures.is
