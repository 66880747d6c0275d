-- An end that is true of the history is true over what was held at the beginning, where want of memory leaves nothing done.
use Rattle.std.proofs.Common.{◌≡◌, ℕ, List, refl}
use Rattle.ts_base.specs.Held.{Held}
use Rattle.ts_model.specs.declared.commands.Job.{Job}
use Rattle.ts_model.specs.declared.answers.Outcome.{Outcome}
use Rattle.ts_model.specs.declared.answers.Outcome.TheVariants as outcome
use Rattle.ts_model.specs.Deeds.{History}
use Rattle.ts_model.specs.Codecs.{Spelled}
use Rattle.ts_model.specs.Told.{Told, history_told}
use Rattle.ts_law.specs.Ends.{IsTrueEnd, IsTrueOver, IsUndone}

module _ (spelled : Spelled) (opening : Held) (jobs : List Job) (past : History) (told : List Told) (number : ℕ) (job : Job) where
  -- a true end is one over the beginning, if want of memory leaves nothing done
  pub true_over : (end : Outcome) → (end ≡ outcome.OutOfMemory → IsUndone (history_told jobs past told) job)
      → IsTrueEnd spelled opening jobs past told number job end → IsTrueOver spelled opening jobs past told number job end
  true_over outcome.Created short is = is
  true_over (outcome.Evolved k) short is = is
  true_over (outcome.Written f) short is = is
  true_over (outcome.Deleted f) short is = is
  true_over (outcome.Read answer) short is = is
  true_over (outcome.Consolidated f count) short is = is
  true_over (outcome.Vacuumed count) short is = is
  true_over (outcome.Unlocked count) short is = is
  true_over (outcome.Listed names) short is = is
  true_over (outcome.Refused r) short is = is
  true_over outcome.OutOfMemory short is = short refl

  -- and the other way round
  pub true_end_of : (end : Outcome) → IsTrueOver spelled opening jobs past told number job end → IsTrueEnd spelled opening jobs past told number job end
  true_end_of outcome.Created is = is
  true_end_of (outcome.Evolved k) is = is
  true_end_of (outcome.Written f) is = is
  true_end_of (outcome.Deleted f) is = is
  true_end_of (outcome.Read answer) is = is
  true_end_of (outcome.Consolidated f count) is = is
  true_end_of (outcome.Vacuumed count) is = is
  true_end_of (outcome.Unlocked count) is = is
  true_end_of (outcome.Listed names) is = is
  true_end_of (outcome.Refused r) is = is
  true_end_of outcome.OutOfMemory is = tt
