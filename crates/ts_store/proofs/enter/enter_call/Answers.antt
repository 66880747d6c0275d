use Rattle.std.proofs.Common.{◌≡◌, sym, ap, ◌∙◌, false, [], ◌∷◌, ◌++◌, slice_set, rules}
use Rattle.std.proofs.lemmas.List.{set_at}
use Rattle.ts_store.specs.Calls.{is_no_memory}
use Rattle.ts_store.specs.Journals.{entry}
use Rattle.ts_store.proofs.JournalLemmas.{held_after-Enters, failures-Enters}
use Rattle.ts_store.proofs.enter.enter_call.Goals as goal

-- the entry stands in the place that was taken for it
pub returns-clause-enters : goal.returns-clause-enters
returns-clause-enters g c =
    let made : is_no_memory c.apply-reply.result ≡ false = cc in
    let pushed : c.push.new.self ≡ c.args.journal.now ++ c.vacant.result ∷ [] = search rules in
    rw made (
    c.set.ensures
    ∙ ap (λ entries. slice_set entries c.len-place.result (entry c.args.lane c.args.call c.fate-fate.result)) pushed
    ∙ set_at c.args.journal.now c.vacant.result [] _ c.len-place.result (sym c.len-place.ensures)
    ∙ ap (λ fate. c.args.journal.now ++ entry c.args.lane c.args.call fate ∷ []) c.fate-fate.ensures)

pub returns-clause-held : goal.returns-clause-held
returns-clause-held g c = λ m is. held_after-Enters m _ _ _ _ c.args.lane c.args.call _ _ is c.apply-reply.ensures.answers.told (returns-clause-enters g c)

pub returns-clause-counted : goal.returns-clause-counted
returns-clause-counted g c = λ base kept.
    failures-Enters base _ _ _ _ c.args.lane c.args.call _ _ kept c.apply-reply.ensures.cause c.apply-reply.ensures.answers.served (returns-clause-enters g c)
