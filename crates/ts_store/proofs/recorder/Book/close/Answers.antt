-- The entry stands in the last place.
use Rattle.std.proofs.Common.{◌≡◌, ◌+◌, ap, ◌∙◌, [], ◌∷◌, ◌-◌, length, slice_set, arith, length-append}
use Rattle.std.proofs.lemmas.List.{set_at}
use Rattle.ts_store.specs.Journals.{entry}
use Rattle.ts_store.proofs.recorder.Book.close.Goals as goal

pub returns-clause-enters : goal.returns-clause-enters
returns-clause-enters c = λ front e is.
    let new = entry c.args.self.now.lane c.args.call c.args.fate in
    let count : length c.args.self.now.journal ≡ length front + 1 = ap length is ∙ length-append front (e ∷ []) in
    let place : length front ≡ c.len.result - 1 = omega arith in
    rw c.if-missed.false (c.set.ensures ∙ ap (λ es. slice_set es (c.len.result - 1) new) is ∙ set_at front e [] new (c.len.result - 1) place)
