-- The further schemas that the heads name come next.
use Rattle.std.proofs.Common.{ap, refl, ◌∙◌}
use Rattle.std.specs.FinMap as finite
use Rattle.std.proofs.lemmas.Result.{IfOk-weaker}
use Rattle.ts_reader.specs.Newest.{keys_of_others}
use Rattle.ts_reader.proofs.Leads.{all_loaded}
use Rattle.ts_reader.proofs.opening.gather.Goals as goal

pub returns-clause-is : goal.returns-clause-is
returns-clause-is g c =
    let named = (rw c.get.ensures at c.in_ok-keys.ensures.is) ∙ ap (λ os. finite.keys (keys_of_others c.args.reading.current.key os)) c.as_slice.ensures in
    IfOk-weaker c.gather_next.result _ _ (λ s is. is ∙ all_loaded g.P.Pieces.codec c.args.reading c.args.opened c.in_ok-keys.keys c.new-schemas.result named c.new-schemas.ensures) c.gather_next.ensures.is

pub gather_next-requires-clause-first : goal.gather_next-requires-clause-first
gather_next-requires-clause-first g c κs within = rw c.new-schemas.ensures (record { rise = c.in_ok-keys.ensures.rise; first = refl })
