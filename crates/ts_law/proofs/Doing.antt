-- A job that was driven over a store, and the calls that were made of it.
use Rattle.std.proofs.Common.{◌≡◌, ℕ, List, [], ◌∷◌, ◌++◌, Option, sym, ◌∙◌, subst, append_assoc, append-nil}
use Rattle.ts_base.specs.Held.{Held}
use Rattle.ts_store.specs.declared.journal.Entry.{Entry}
use Rattle.ts_model.specs.declared.commands.Job.{Job}
use Rattle.ts_model.specs.declared.answers.Driven.{Driven}
use Rattle.ts_model.specs.declared.answers.Outcome.{Outcome}
use Rattle.ts_model.specs.declared.states.Stage.{Stage}
use Rattle.ts_model.specs.Codecs.{Codec}
use Rattle.ts_model.specs.States.{Exchange}
use Rattle.ts_model.specs.Stages.{first_stage, stage_of}
use Rattle.ts_model.specs.Stops.{Uncut}
use Rattle.ts_model.specs.Driven.{AskedFrom, ComesOut, IsDriven}
use Rattle.ts_model.specs.Driving.{RanTo, Ran}
use Rattle.ts_model.proofs.Driving.{Makes, ran-none, ran-step}
use Rattle.ts_model.proofs.Traces.{stage_from-append}
use Rattle.ts_law.proofs.Lanes.{exchanges, own_exchanges}

-- stores that tell what they hold and the journal of their calls, and lists of calls that lead from one to another
module _ {F : Type 0} (codec : Codec F) {S : Type 0} (held : S → Option Held) (journal : S → List Entry) (leads : S → List Exchange → S → Type 0) (number lane : ℕ) (job : Job)
    (none : (a b : S) → leads a [] b → b ≡ a)
    (one : (a b : S) (x : Exchange) (xs : List Exchange) → leads a (x ∷ xs) b → (between : S) × Makes lane (held a) (held between) (journal a) (journal between) x × leads between xs b) where
  -- a job makes more calls than before
  ran-more : (opening : Option Held) (before : List Entry) (past xs : List Exchange) (a b : S) → RanTo codec number lane job opening (held a) before (journal a) past
      → AskedFrom codec job (stage_of codec job past) xs → leads a xs b → RanTo codec number lane job opening (held b) before (journal b) (past ++ xs)
  ran-more opening before past [] a b ran asked way =
      let P : S → Type 0 = λ s. RanTo codec number lane job opening (held s) before (journal s) (past ++ []) in
      let Q : List Exchange → Type 0 = λ t. RanTo codec number lane job opening (held a) before (journal a) t in
      subst P (sym (none a b way)) (subst Q (sym (append-nil past)) ran)
  ran-more opening before past (x ∷ xs) a b ran asked way =
      let (between, makes, rest) = one a b x xs way in
      let P : List Exchange → Type 0 = λ t. RanTo codec number lane job opening (held b) before (journal b) t in
      let Q : Stage F → Type 0 = λ s. AskedFrom codec job s xs in
      let more = ran-step codec number lane job opening (held a) (held between) before (journal a) (journal between) past x.call makes.fate x.reply ran asked.0 makes.short makes.fits makes.answers makes.enters in
      subst P (append_assoc past (x ∷ []) xs)
      (ran-more opening before (past ++ x ∷ []) xs between b more (subst Q (sym (stage_from-append codec job (first_stage job) past (x ∷ []))) asked.1) rest)

  -- a job that asked for each of these calls, none of which its stop cut off, and came out so by them: they are the calls that were told
  pub ran-told : (trace : List Exchange) (a b : S) (result : Driven Outcome) → leads a trace b → AskedFrom codec job (first_stage job) trace → Uncut job.stop 0 trace → ComesOut codec job trace result
      → (ran : Ran codec number lane job (held a) (held b) (journal a) (journal b) result) × (exchanges ran.told ≡ trace)
  ran-told trace a b result way asked uncut ends =
      let ran = ran-more (held a) (journal a) [] trace a b (ran-none codec number lane job (held a) (journal a)) asked way in
      let P : List Exchange → Type 0 = λ xs. IsDriven codec job xs result in (
        record { told = ran.told; calls = ran.calls; driven = subst P (sym ran.same) (record { asked = asked; uncut = uncut; ends = ends }) },
        own_exchanges number ran.told ran.calls.own ∙ ran.same,
      )
