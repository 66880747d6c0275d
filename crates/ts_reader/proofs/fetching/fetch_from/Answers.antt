-- The fetch of one more fragment begins.
use Rattle.std.proofs.Common.{sym, ◌∙◌, ap, subst, drop, suc, arith, ◌≡◌, ◌+◌}
use Rattle.std.specs.Prelude.{IsTrue}
use Rattle.std.proofs.lemmas.List.Elements.{All-append}
use Rattle.ts_domain.specs.Boxes.{is_in_box}
use Rattle.ts_actor.specs.PieceLaws.{AreInBox}
use Rattle.ts_reader.specs.Fetching.{LeadsInside}
use Rattle.ts_model.specs.States.{fetching}
use Rattle.ts_model.specs.declared.states.State.TheVariants.{Collects}
use Rattle.ts_reader.specs.declared.fetching.FetchStep.TheVariants as fetch_step
use Rattle.ts_reader.proofs.Leads.{leads_on}
use Rattle.ts_reader.proofs.fetching.fetch_from.Goals as goal

pub returns-in-Asks-clause-is : goal.returns-in-Asks-clause-is
returns-in-Asks-clause-is g c =
    ap Collects (c.in_ok-waiting-in-Asks.ensures ∙ c.fetches.ensures)
    ∙ sym (leads_on g.P.Pieces.codec c.args.gathered.reading c.args.gathered.opened c.args.gathered.schemas c.loop-place.place c.loop-place.got c.at-opened.result.now _
    (fetch_step.Asks c.in-Asks.fetch c.in-Asks.asked) c.at-opened.ensures c.loop-place.invariant.goes_on (sym c.in-Asks.is ∙ (rw c.get.ensures at c.in_ok-fetch.ensures.is)))

pub returns-in-Ends-clause-is : goal.returns-in-Ends-clause-is
returns-in-Ends-clause-is g c =
    sym (leads_on g.P.Pieces.codec c.args.gathered.reading c.args.gathered.opened c.args.gathered.schemas c.loop-place.place c.loop-place.got c.at-opened.result.now _
    (fetch_step.Ends c.in-Ends.end) c.at-opened.ensures c.loop-place.invariant.goes_on (sym c.in-Ends.is ∙ (rw c.get.ensures at c.in_ok-fetch.ensures.is)))

pub loop-place-preserved : goal.loop-place-preserved
loop-place-preserved g c =
    let next : suc c.loop-place.place ≡ c.loop-place.place + 1 = omega arith in
    let sub = c.args.gathered.reading.ready.sub in
    let took : AreInBox sub c.in-Takes.versions = subst (LeadsInside g.P.Pieces.codec sub) c.in-Takes.is (rw c.get.ensures at c.in_ok-fetch.ensures.inside) in
    record {
      within = omega (arith, c.loop-place.invariant.within);
      goes_on =
          leads_on g.P.Pieces.codec c.args.gathered.reading c.args.gathered.opened c.args.gathered.schemas c.loop-place.place c.loop-place.got c.at-opened.result.now _
          (fetch_step.Takes c.in-Takes.versions) c.at-opened.ensures c.loop-place.invariant.goes_on (sym c.in-Takes.is ∙ (rw c.get.ensures at c.in_ok-fetch.ensures.is))
          ∙ ap (λ vs. fetching g.P.Pieces.codec c.args.gathered.reading c.args.gathered.opened c.args.gathered.schemas (suc c.loop-place.place) (drop (suc c.loop-place.place) c.args.gathered.opened) vs) (sym c.in_ok-got-in-Takes.ensures)
          ∙ ap (λ n. fetching g.P.Pieces.codec c.args.gathered.reading c.args.gathered.opened c.args.gathered.schemas n (drop n c.args.gathered.opened) c.in_ok-got-in-Takes.got) next;
      inside = subst (AreInBox sub) (sym c.in_ok-got-in-Takes.ensures) (All-append (λ v. IsTrue (is_in_box sub v.coords)) c.loop-place.got c.in-Takes.versions c.loop-place.invariant.inside took);
    }
