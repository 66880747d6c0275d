-- The fetch of one more source begins.
use Rattle.std.proofs.Common.{sym, ◌∙◌, ap, subst, drop, take, suc, arith, ◌≡◌, ◌+◌, ◌++◌, ◌∷◌, []}
use Rattle.std.proofs.lemmas.List.Elements.{All-contains}
use Rattle.ts_schema.specs.declared.frames.Frame.{Frame}
use Rattle.ts_model.specs.States.{merging_from}
use Rattle.ts_model.specs.declared.states.State.TheVariants.{Merges}
use Rattle.ts_model.proofs.ListLemmas.{Contains-slice_get}
use Rattle.ts_consolidate.specs.declared.fetching.SourceStep.TheVariants as source_step
use Rattle.ts_consolidate.specs.Fetching.{LeadsOn, step_of}
use Rattle.ts_consolidate.specs.Merges.{AreGot, IsSource}
use Rattle.ts_consolidate.proofs.Leads.{leads_on}
use Rattle.ts_consolidate.proofs.Sources.{got_more}
use Rattle.ts_consolidate.proofs.fetching.merge_from.Goals as goal

pub start-requires-clause-source : goal.start-requires-clause-source
start-requires-clause-source g c κs within =
    let m = c.args.merged in
    subst (λ (frame : Frame). IsSource g.P.Pieces.codec frame m.schema c.at-source.result.now) (sym c.get.ensures)
    (All-contains (IsSource g.P.Pieces.codec m.survey.frame m.schema) m.opened c.at-source.result.now c.requires.has.each (Contains-slice_get m.opened c.loop-place.place c.at-source.result.now c.at-source.ensures))

pub returns-in-Asks-clause-is : goal.returns-in-Asks-clause-is
returns-in-Asks-clause-is g c =
    let m = c.args.merged in
    let led = c.in_ok-fetch.ensures.is ∙ ap (λ (frame : Frame). step_of g.P.Pieces.codec frame m.schema c.at-source.result.now) c.get.ensures in
    ap Merges c.fetches-state.ensures
    ∙ sym (leads_on g.P.Pieces.codec c.args.job.now m.survey m.opened m.schema c.loop-place.place c.loop-place.got c.at-source.result.now _
    (source_step.Asks c.in-Asks.fetch c.in-Asks.asked) c.at-source.ensures c.loop-place.invariant.goes_on (sym c.in-Asks.is ∙ led))

pub returns-in-Ends-clause-is : goal.returns-in-Ends-clause-is
returns-in-Ends-clause-is g c =
    let m = c.args.merged in
    let led = c.in_ok-fetch.ensures.is ∙ ap (λ (frame : Frame). step_of g.P.Pieces.codec frame m.schema c.at-source.result.now) c.get.ensures in
    sym (leads_on g.P.Pieces.codec c.args.job.now m.survey m.opened m.schema c.loop-place.place c.loop-place.got c.at-source.result.now _
    (source_step.Ends c.in-Ends.end) c.at-source.ensures c.loop-place.invariant.goes_on (sym c.in-Ends.is ∙ led))

pub loop-place-preserved : goal.loop-place-preserved
loop-place-preserved g c =
    let codec = g.P.Pieces.codec in
    let m = c.args.merged in
    let place = c.loop-place.place in
    let next : suc place ≡ place + 1 = omega arith in
    let led = c.in_ok-fetch.ensures.is ∙ ap (λ (frame : Frame). step_of codec frame m.schema c.at-source.result.now) c.get.ensures in
    let took = subst (λ (frame : Frame). LeadsOn codec frame m.schema c.at-source.result.now (source_step.Takes c.in-Takes.versions)) c.get.ensures (subst (LeadsOn codec c.get.result.now m.schema c.at-source.result.now) c.in-Takes.is c.in_ok-fetch.ensures.leads) in
    record {
      within = omega (arith, c.loop-place.invariant.within);
      goes_on =
          leads_on codec c.args.job.now m.survey m.opened m.schema place c.loop-place.got c.at-source.result.now _ (source_step.Takes c.in-Takes.versions) c.at-source.ensures c.loop-place.invariant.goes_on (sym c.in-Takes.is ∙ led)
          ∙ ap (λ got. merging_from codec c.args.job.now m.survey m.opened m.schema (suc place) (drop (suc place) m.opened) got) (sym c.in_ok-push-in-Takes.ensures.ok)
          ∙ ap (λ n. merging_from codec c.args.job.now m.survey m.opened m.schema n (drop n m.opened) c.push.new.self) next;
      got =
          subst (AreGot codec m.survey.frame m.schema.attrs (take (place + 1) m.opened)) (sym c.in_ok-push-in-Takes.ensures.ok)
          (subst (λ n. AreGot codec m.survey.frame m.schema.attrs (take n m.opened) (c.loop-place.got ++ c.in-Takes.versions ∷ [])) next
          (got_more codec m.survey.frame m.schema.attrs m.opened c.loop-place.got place c.at-source.result.now c.in-Takes.versions c.at-source.ensures c.loop-place.invariant.got took));
    }
