-- A call of a store that enters its calls is one of the store below.
use Rattle.std.proofs.Common.{◌≡◌, ℕ, inl, inr, Option, ◌∙◌, subst}
use Rattle.ts_base.specs.Held.{Held}
use Rattle.ts_store.specs.declared.fate.Fate.{Fate}
use Rattle.ts_store.specs.declared.call.Call.{Call}
use Rattle.ts_store.specs.declared.call.Reply.{Reply}
use Rattle.ts_store.specs.declared.recorder.Recorder.{Recorder}
use Rattle.ts_store.specs.Recorders.{Recorded, WasMade}
use Rattle.ts_store.specs.Stores.{Answers}
use Rattle.ts_model.specs.States.{Exchange}
use Rattle.ts_model.specs.Told.{Told}
use Rattle.ts_actor.specs.Drives.{Exchanged, MayBeMade}

module _ {S : Type 0} (held : S → Option Held) (last : S → Fate) (faults asked : S → ℕ) (notes : S → Call → Reply → S → Type 0) where
  -- a call of a store that enters it
  abbrev pub CalledAbove : Recorder S → Exchange → Recorder S → Type 0
  CalledAbove = Exchanged (λ r. held r.store) (λ r. r.book.last) (λ r. faults r.store) (WasMade (λ (r : Recorder S). r.book.asked) (λ (before : Recorder S) call said now. Recorded faults asked last notes before now call said))

  -- the store below made it, and has the fate for it that the store above tells, unless there was no memory
  pub made_below : (a b : Recorder S) (e : Told) → CalledAbove a (record { call = e.call; reply = e.reply }) b → e.fate ≡ b.book.last → MayBeMade last (Exchanged held last faults (WasMade asked notes)) a.store e b.store
  made_below a b e called fate_is = elim (called.noted.0.noted) [
    | inl unmade ↦ inr unmade
    | inr made ↦
        inl (
          record {
            fits = called.fits;
            short = called.short;
            spelled = called.spelled;
            answers = subst (λ fate. Answers (held a.store) (held b.store) fate e.call e.reply) made.1 called.answers;
            cause = called.cause;
            noted = made.0;
          },
          fate_is ∙ made.1,
        )
  ]
