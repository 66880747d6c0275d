-- The next fragment is opened.
use Rattle.std.proofs.Common.{sym, ap, ◌∙◌, subst}
use Rattle.std.proofs.lemmas.Result.{IfOk-weaker}
use Rattle.std.proofs.lemmas.List.Elements.{All-push}
use Rattle.ts_consolidate.specs.Merges.{AreOpened, IsOpened}
use Rattle.ts_consolidate.proofs.Leads.{head_read}
use Rattle.ts_consolidate.proofs.surveying.after_opened.Goals as goal

pub open_next-requires-clause-opened : goal.open_next-requires-clause-opened
open_next-requires-clause-opened g c κs within =
    let codec = g.P.Pieces.codec in
    let frame = c.args.survey.frame in
    let read = ap (λ f. codec.head f c.args.frag c.args.bytes) (sym c.get.ensures) ∙ ap (λ bytes. codec.head c.get.result.now c.args.frag bytes) (sym c.as_slice.ensures) ∙ c.in-Ok.ensures in
    subst (AreOpened codec frame) (sym c.in_ok-push-in-Ok.ensures.ok)
    (All-push (IsOpened codec frame) c.args.opened _ c.requires.opened (record { spelled = c.requires.frag; bytes = c.has_object.ensures.bytes; short = c.has_object.ensures.short; read = read }))

pub returns-in-Ok-clause-is : goal.returns-in-Ok-clause-is
returns-in-Ok-clause-is g c =
    let codec = g.P.Pieces.codec in
    let read = ap (λ f. codec.head f c.args.frag c.args.bytes) (sym c.get.ensures) ∙ ap (λ bytes. codec.head c.get.result.now c.args.frag bytes) (sym c.as_slice.ensures) ∙ c.in-Ok.ensures in
    IfOk-weaker c.open_next.result _ _ (λ t is. is ∙ head_read codec c.args.job.now c.args.survey c.args.opened _ c.args.frag c.args.bytes c.in-Ok.head read c.in_ok-push-in-Ok.ensures.ok) c.open_next.ensures.is
