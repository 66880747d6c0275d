-- A fetch that was told something goes on, or all versions of its source were got.
use Rattle.std.proofs.Common.{◌≡◌, ◌+◌, ◌++◌, ◌∷◌, [], suc, drop, take, arith, sym, ap, subst, ◌∙◌}
use Rattle.std.proofs.lemmas.Result.{IfOk-weaker}
use Rattle.std.proofs.lemmas.List.Elements.{All-contains}
use Rattle.ts_model.specs.States.{merging_from}
use Rattle.ts_model.proofs.ListLemmas.{Contains-slice_get}
use Rattle.ts_consolidate.specs.declared.fetching.SourceStep.TheVariants as source_step
use Rattle.ts_consolidate.specs.Fetching.{AsksSpelled, LeadsOn, step_by}
use Rattle.ts_consolidate.specs.Merges.{AreGot, IsMerging, IsSource}
use Rattle.ts_consolidate.proofs.Leads.{told_leads}
use Rattle.ts_consolidate.proofs.Sources.{got_more, leads_told}
use Rattle.ts_consolidate.proofs.fetching.after_told.Goals as goal

pub merge_from-requires-clause-got : goal.merge_from-requires-clause-got
merge_from-requires-clause-got g c κs within =
    let codec = g.P.Pieces.codec in
    let m = c.args.merged in
    let w = c.args.ongoing in
    let o = c.requires.source in
    let next : suc w.next ≡ w.next + 1 = omega arith in
    let is = All-contains (IsSource codec m.survey.frame m.schema) m.opened o c.requires.has.each (Contains-slice_get m.opened w.next o c.requires.at) in
    let led = c.in_ok-fetch.ensures.is ∙ ap (λ f. step_by f (codec.steps w.fetch c.args.reply)) (sym c.requires.named) in
    let may = c.may_reply.ensures c.if-not-may_reply.false in
    let leads = leads_told codec g.met.P.Pieces.stores m.survey.frame m.schema o c.requires.has.survey.is_frame c.requires.has.attrs is w.fetch c.args.asked.now c.args.reply c.in_ok-fetch.field-0 c.requires.going may led in
    subst (AreGot codec m.survey.frame m.schema.attrs (take (w.next + 1) m.opened)) (sym c.in_ok-push-in-Takes.ensures.ok)
    (subst (λ n. AreGot codec m.survey.frame m.schema.attrs (take n m.opened) (w.got ++ c.in-Takes.versions ∷ [])) next
    (got_more codec m.survey.frame m.schema.attrs m.opened w.got w.next o c.in-Takes.versions c.requires.at c.requires.taken (subst (LeadsOn codec m.survey.frame m.schema o) c.in-Takes.is leads)))

pub returns-in-Asks-clause-may : goal.returns-in-Asks-clause-may
returns-in-Asks-clause-may g c =
    let codec = g.P.Pieces.codec in
    let m = c.args.merged in
    let w = c.args.ongoing in
    let o = c.requires.source in
    let is = All-contains (IsSource codec m.survey.frame m.schema) m.opened o c.requires.has.each (Contains-slice_get m.opened w.next o c.requires.at) in
    let led = c.in_ok-fetch.ensures.is ∙ ap (λ f. step_by f (codec.steps w.fetch c.args.reply)) (sym c.requires.named) in
    let may = c.may_reply.ensures c.if-not-may_reply.false in
    let leads = leads_told codec g.met.P.Pieces.stores m.survey.frame m.schema o c.requires.has.survey.is_frame c.requires.has.attrs is w.fetch c.args.asked.now c.args.reply c.in_ok-fetch.field-0 c.requires.going may led in
    subst (IsMerging codec) (sym c.fetches-state.ensures) (
      record {
        has = c.requires.has;
        taken = c.requires.taken;
        within = c.requires.within;
        source = o;
        at = c.requires.at;
        named = c.requires.named;
        going = subst (LeadsOn codec m.survey.frame m.schema o) c.in-Asks.is leads;
      },
      subst AsksSpelled c.in-Asks.is c.in_ok-fetch.ensures.spelled,
    )

pub returns-in_ok-push-in-Takes-clause-is : goal.returns-in_ok-push-in-Takes-clause-is
returns-in_ok-push-in-Takes-clause-is g c =
    let codec = g.P.Pieces.codec in
    let m = c.args.merged in
    let w = c.args.ongoing in
    let next : w.next + 1 ≡ suc w.next = omega arith in
    IfOk-weaker c.merge_from.result _ _ (λ t is.
    is
    ∙ ap (λ n. merging_from codec c.args.job.now m.survey m.opened m.schema n (drop n m.opened) c.push.new.self) next
    ∙ ap (λ got. merging_from codec c.args.job.now m.survey m.opened m.schema (suc w.next) (drop (suc w.next) m.opened) got) c.in_ok-push-in-Takes.ensures.ok
    ∙ sym (told_leads codec c.args.job.now m.survey m.opened m.schema w.next w.got w.frag (codec.steps w.fetch c.args.reply) (source_step.Takes c.in-Takes.versions) (sym c.in-Takes.is ∙ c.in_ok-fetch.ensures.is))) c.merge_from.ensures.is
