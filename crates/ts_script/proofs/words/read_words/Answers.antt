use Rattle.std.proofs.Common.{inl, inr, sym, ap, ◌∙◌, subst}
use Rattle.std.specs.Prelude.{option_and_then}
use Rattle.std.proofs.lemmas.Bool.{true≢false}
use Rattle.clap.specs.Simple.{is_simple, subcommand_of}
use Rattle.clap.specs.Faults.{fault_of, is_simple_and_free}
use Rattle.clap.specs.Kinds.{IsAmong}
use Rattle.ts_script.specs.Shapes.{Gives}
use Rattle.ts_script.specs.Words.{asked_by, word_texts}
use Rattle.ts_script.proofs.Asking.{asked_refused, asked_taken, simple, simple_and_free}
use Rattle.ts_script.proofs.words.read_words.Goals as goal

pub returns-in-Ok-try_get_matches_from-clause-asked : goal.returns-in-Ok-try_get_matches_from-clause-asked
returns-in-Ok-try_get_matches_from-clause-asked c =
    let app = c.in-Ok.ensures in
    let words = word_texts c.args.words.now in
    let found = c.in-Ok-try_get_matches_from.ensures in
    let rows = (found.matches (ap is_simple app ∙ simple)).1 ∙ ap (λ a. subcommand_of a words) app in
    let none = ap (λ a. fault_of a words) (sym app) ∙ found.kinds (ap is_simple_and_free app ∙ simple_and_free) in
    let said = ap (option_and_then (λ f. asked_by f.0 f.1)) rows ∙ asked_taken words none in
    subst (Gives c.read_matches.result) said c.read_matches.ensures.asked

pub returns-in-Err-2-clause-asked : goal.returns-in-Err-2-clause-asked
returns-in-Err-2-clause-asked c =
    let app = c.in-Ok.ensures in
    let words = word_texts c.args.words.now in
    let error = c.in-Err-try_get_matches_from.error in
    let kinds = c.in-Err-try_get_matches_from.ensures.kinds (ap is_simple_and_free app ∙ simple_and_free) in
    elim kinds [
      | inl e ↦ absurd (true≢false (sym (rw (c.kind.ensures ∙ e) at c.eq.ensures) ∙ c.if-eq.false))
      | inr is ↦ asked_refused words error.kind (subst (λ a. IsAmong error.kind (fault_of a words)) app is)
    ]
