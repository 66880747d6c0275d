-- What is near is among what the objects of the kind name.
use Rattle.std.proofs.Common.{sym, subst}
use Rattle.std.specs.List.{All}
use Rattle.std.proofs.lemmas.Result.{IfOk-weaker}
use Rattle.std.proofs.lemmas.List.Elements.{All-filter}
use Rattle.ts_model.specs.States.{meets}
use Rattle.ts_actor.specs.Listings.{IsSpelledAs}
use Rattle.ts_reader.proofs.listing.stamped_near.Goals as goal

pub returns-clause-spelled : goal.returns-clause-spelled
returns-clause-spelled c =
    IfOk-weaker c.near.result _ _ (λ chosen is. subst (All (IsSpelledAs c.args.kind)) (sym is) (All-filter (meets c.args.from c.args.to) (IsSpelledAs c.args.kind) c.in_ok-named.named c.in_ok-named.ensures.spelled)) c.near.ensures
