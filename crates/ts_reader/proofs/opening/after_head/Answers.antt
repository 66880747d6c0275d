-- The next fragment is opened.
use Rattle.std.proofs.Common.{sym, ap, ◌∙◌, subst}
use Rattle.std.proofs.lemmas.Result.{IfOk-weaker}
use Rattle.std.proofs.lemmas.List.Elements.{All-push}
use Rattle.ts_base.specs.Names.{IsSpelledFrag}
use Rattle.ts_actor.specs.Listings.{AreSpelled}
use Rattle.ts_reader.proofs.Leads.{head_read}
use Rattle.ts_reader.proofs.opening.after_head.Goals as goal

pub open_next-requires-clause-spelled : goal.open_next-requires-clause-spelled
open_next-requires-clause-spelled g c κs within = subst AreSpelled (sym c.in_ok-push-in-Ok.ensures.ok) (All-push (λ o. IsSpelledFrag o.frag) c.args.opened _ c.requires.spelled c.requires.frag)

pub returns-in-Ok-clause-is : goal.returns-in-Ok-clause-is
returns-in-Ok-clause-is g c =
    IfOk-weaker c.open_next.result _ _ (λ s is.
    is ∙ head_read g.P.Pieces.codec c.args.reading c.args.opened _ c.args.frag c.args.bytes c.in-Ok.head
    (sym (ap (λ bytes. g.P.Pieces.codec.head c.args.reading.frame c.args.frag bytes) c.as_slice.ensures) ∙ (rw c.get.ensures at c.in-Ok.ensures)) c.in_ok-push-in-Ok.ensures.ok) c.open_next.ensures.is
