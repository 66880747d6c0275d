-- The entry stands in the place that was taken for it.
use Rattle.std.proofs.Common.{◌≡◌, false, List, [], ◌∷◌, ◌++◌, length, length-append, arith, sym, ap, ◌∙◌, slice_set, cond, None, Some}
use Rattle.std.specs.List.{cons_option}
use Rattle.std.proofs.lemmas.List.{set_at}
use Rattle.ts_store.specs.declared.journal.Entry.{Entry}
use Rattle.ts_store.specs.Calls.{is_no_memory}
use Rattle.ts_store.specs.Journals.{entry}
use Rattle.ts_turnstile.proofs.making.settle.Goals as goal

pub returns-clause-enters : goal.returns-clause-enters
returns-clause-enters c = λ front vacant was.
    let e : Entry = entry c.args.turn.lane c.args.turn.call c.args.turn.fate in
    let found : is_no_memory c.args.turn.reply ≡ false = sym c.is_no_memory.ensures ∙ c.if-is_no_memory.false in
    let both : length (front ++ vacant ∷ []) ≡ length (c.requires.0 ++ c.requires.1 ∷ []) = ap length (sym was ∙ c.requires.2) in
    let place : length front ≡ c.args.place = let is = c.requires.3 in omega (arith, both, is, length-append front (vacant ∷ []), length-append c.requires.0 (c.requires.1 ∷ [])) in
    c.set.ensures
    ∙ ap (λ (l : List Entry). slice_set l c.args.place e) was
    ∙ set_at front vacant [] e c.args.place place
    ∙ ap (λ b. front ++ cons_option (cond b None (Some e)) []) (sym found)
