-- All versions of a fragment were told: the read goes on with the next one.
use Rattle.std.proofs.Common.{◌≡◌, ◌+◌, ◌++◌, suc, drop, arith, sym, ap, subst, ◌∙◌}
use Rattle.std.specs.Prelude.{IsTrue}
use Rattle.std.proofs.lemmas.List.Elements.{All-append}
use Rattle.std.proofs.lemmas.Result.{IfOk-weaker}
use Rattle.ts_domain.specs.Boxes.{is_in_box}
use Rattle.ts_actor.specs.PieceLaws.{AreInBox}
use Rattle.ts_model.specs.States.{fetching}
use Rattle.ts_reader.specs.declared.fetching.FetchStep.TheVariants as fetch_step
use Rattle.ts_reader.specs.Fetching.{LeadsInside}
use Rattle.ts_reader.proofs.Leads.{told_leads}
use Rattle.ts_reader.proofs.fetching.after_told.Goals as goal

pub returns-in_ok-joined-in-Takes-clause-is : goal.returns-in_ok-joined-in-Takes-clause-is
returns-in_ok-joined-in-Takes-clause-is g c =
    let codec = g.P.Pieces.codec in
    let opened = c.args.gathered.opened in
    let next : c.args.ongoing.next + 1 ≡ suc c.args.ongoing.next = omega arith in
    IfOk-weaker c.fetch_from.result _ _ (λ s is.
    is
    ∙ ap (λ n. fetching codec c.args.gathered.reading opened c.args.gathered.schemas n (drop n opened) c.in_ok-joined-in-Takes.field-0) next
    ∙ ap (λ vs. fetching codec c.args.gathered.reading opened c.args.gathered.schemas (suc c.args.ongoing.next) (drop (suc c.args.ongoing.next) opened) vs) c.in_ok-joined-in-Takes.ensures
    ∙ sym (told_leads c.args.gathered.reading opened c.args.gathered.schemas c.args.ongoing.next c.args.ongoing.got
    (λ vs. fetching codec c.args.gathered.reading opened c.args.gathered.schemas (suc c.args.ongoing.next) (drop (suc c.args.ongoing.next) opened) (c.args.ongoing.got ++ vs)) codec c.args.ongoing.frag _
    (fetch_step.Takes c.in-Takes.versions) (sym c.in-Takes.is ∙ c.in_ok-fetch.ensures.is))) c.fetch_from.ensures.is

pub fetch_from-requires-clause-inside : goal.fetch_from-requires-clause-inside
fetch_from-requires-clause-inside g c κs within =
    let sub = c.args.gathered.reading.ready.sub in
    let took : AreInBox sub c.in-Takes.versions = subst (LeadsInside g.P.Pieces.codec sub) c.in-Takes.is (c.in_ok-fetch.ensures.inside sub c.requires.in_box) in
    subst (AreInBox sub) (sym c.in_ok-joined-in-Takes.ensures) (All-append (λ v. IsTrue (is_in_box sub v.coords)) c.args.ongoing.got c.in-Takes.versions c.requires.inside took)
