-- All deletes are got: the fetches come next.
use Rattle.std.proofs.Common.{◌≡◌, rules, false, nat_lt, length, ◌∙◌}
use Rattle.std.proofs.lemmas.Result.{IfOk-weaker}
use Rattle.ts_reader.proofs.Leads.{all_deletions}
use Rattle.ts_reader.proofs.getting_deletes.next_delete.Goals as goal

pub returns-clause-is : goal.returns-clause-is
returns-clause-is g c =
    let r = c.args.gathered.reading in
    let last : nat_lt (length r.deletions) (length r.delete_names) ≡ false = search rules in
    IfOk-weaker c.fetch_from.result _ _ (λ s is. is ∙ all_deletions g.P.Pieces.codec r c.args.gathered.opened c.args.gathered.schemas c.new-2.result last c.new-2.ensures) c.fetch_from.ensures.is
