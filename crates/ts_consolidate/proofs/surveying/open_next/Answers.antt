-- All heads are read: the schemas that they name come next.
use Rattle.std.proofs.Common.{◌≡◌, rules, false, nat_lt, length, ap, ◌∙◌}
use Rattle.std.proofs.lemmas.Result.{IfOk-weaker}
use Rattle.ts_model.specs.States.{schemas_named}
use Rattle.ts_consolidate.proofs.Leads.{all_heads}
use Rattle.ts_consolidate.proofs.surveying.open_next.Goals as goal

pub returns-clause-is : goal.returns-clause-is
returns-clause-is g c =
    let last : nat_lt (length c.args.opened) (length c.args.survey.fragments) ≡ false = search rules in
    let named = c.in_ok-keys.ensures.is ∙ ap schemas_named c.as_slice.ensures in
    IfOk-weaker c.next_schema.result _ _ (λ t is. is ∙ all_heads g.P.Pieces.codec c.args.job.now c.args.survey c.args.opened c.in_ok-keys.keys c.new.result last named c.new.ensures) c.next_schema.ensures.is
