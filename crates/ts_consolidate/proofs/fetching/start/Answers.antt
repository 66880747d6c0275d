-- The fetch that begins is one of all of the source.
use Rattle.std.proofs.Common.{sym, ap, ◌∙◌}
use Rattle.std.proofs.lemmas.Result.{IfOk-weaker}
use Rattle.ts_consolidate.proofs.Sources.{leads_first}
use Rattle.ts_consolidate.proofs.fetching.start.Goals as goal

pub returns-in-Ok-clause-leads : goal.returns-in-Ok-clause-leads
returns-in-Ok-clause-leads g c =
    let codec = g.P.Pieces.codec in
    let frame = c.args.frame.now in
    let schema = c.args.schema.now in
    let o = c.args.source.now in
    let opens = ap (λ want. codec.opens frame schema o.frag o.object want) (sym c.in_ok-want.ensures) ∙ c.in-Ok.ensures.is in
    IfOk-weaker c.go_on.result _ _ (λ step is. leads_first codec g.met.P.Pieces.stores frame schema o c.requires.frame c.requires.attrs c.requires.source c.in-Ok.fetch step opens is) c.go_on.ensures.is
