-- What a read tells: its answer, over the objects at its listing of the commits.
use Rattle.std.proofs.Common.{◌≡◌, ℕ, List, ◌∷◌, ◌++◌, Option, ◌∙◌, ap, subst}
use Rattle.std.proofs.lemmas.List.Elements.{filter_map-append}
use Rattle.ts_base.specs.Held.{Held}
use Rattle.ts_base.specs.declared.names.Prefix.TheVariants.{Commits, Schemas}
use Rattle.ts_cond.specs.declared.query.Query.{Query}
use Rattle.ts_model.specs.declared.answers.Answer.{Answer}
use Rattle.ts_model.specs.declared.commands.Job.{Job}
use Rattle.ts_model.specs.Deeds.{History}
use Rattle.ts_model.specs.Told.{Told, entries_of, entry_of, held_told, history_told}
use Rattle.ts_law.specs.Ends.{AnswersAt, IsAnswerOver}
use Rattle.ts_top.specs.Promise.{Answers}
use Rattle.ts_top.specs.Runners.{run_spelled}
use Rattle.ts_top.proofs.MergesTold.{calls_in, divided, held_entered}
use Rattle.ts_top.proofs.Places.{Early, listed_now}

module _ (m : Held) (jobs : List Job) (past : History) (lane : Option ℕ → ℕ) (a c told : List Told) (parts : told ≡ a ++ c) (number : ℕ) (early : Early number a) (still : history_told jobs past told ≡ history_told jobs past a) where
  -- the history after the command
  abbrev now : History
  now = history_told jobs past told

  -- the answer at the listings of a read is that of its command
  pub answers_told : (from to : ℕ) (query : Query) (answer : Answer) → AnswersAt run_spelled m jobs past told number from to query answer → Answers (calls_in m lane a c) now from to query answer
  answers_told from to query answer is =
      let commits = is.commits in
      let (d, behind, split) = divided m jobs past lane a c told parts number early commits.before commits.listing commits.later commits.place commits.own in
      record {
        front = entries_of lane d;
        back = entries_of lane (commits.listing ∷ commits.later);
        parts = ap (entries_of lane) split ∙ filter_map-append (entry_of lane) d (commits.listing ∷ commits.later);
        over = subst (λ n. IsAnswerOver run_spelled now n now from to query answer) (ap (held_told m) behind ∙ held_entered m lane a d)
            (subst (λ h. IsAnswerOver run_spelled h (held_told m commits.before) now from to query answer) (listed_now jobs past a c told parts number early Commits commits still)
            (subst (λ h. IsAnswerOver run_spelled (history_told jobs past commits.before) (held_told m commits.before) h from to query answer) (listed_now jobs past a c told parts number early Schemas is.schemas still) is.answers));
      }
