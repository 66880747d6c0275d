-- What driving a machine over a store comes to.
use Rattle.std.specs.Prelude.{◌≡◌, ◌⊎◌, ℕ, true, List, [], ◌∷◌, ◌++◌, Option, ⊤, length}
use Rattle.ts_base.specs.declared.heads.Stop.{Stop}
use Rattle.ts_base.specs.Held.{Held}
use Rattle.ts_store.specs.declared.fate.Fate.{Fate}
use Rattle.ts_store.specs.declared.call.Call.{Call}
use Rattle.ts_store.specs.declared.call.Reply.{Reply}
use Rattle.ts_store.specs.Calls.{FitsCall, IsSpelledReply, is_no_memory}
use Rattle.ts_store.specs.Stores.{Answers, HasCause}
use Rattle.ts_model.specs.declared.answers.Driven.{Driven}
use Rattle.ts_model.specs.declared.answers.Driven.TheVariants as driven
use Rattle.ts_model.specs.States.{Exchange}
use Rattle.ts_model.specs.Stops.{cuts, Uncut}
use Rattle.ts_model.specs.Told.{Told, IsShortCall}
use Rattle.ts_actor.specs.Traces.{Trace, asking}

-- a call was made of a store, from what it was before to what it is after; the store's own members say what that is
pub record Exchanged {S : Type 0} (held : S → Option Held) (last : S → Fate) (faults : S → ℕ) (notes : S → Call → Reply → S → Type 0) (before : S) (x : Exchange) (after : S) : Type 0 where
  pub fits : FitsCall x.call x.reply
  pub short : IsShortCall x.call
  pub spelled : IsSpelledReply x.reply
  pub answers : Answers (held before) (held after) (last after) x.call x.reply
  pub cause : HasCause (faults before) (faults after) x.reply
  pub noted : notes before x.call x.reply after

-- these calls, one after the other, lead from one store to another
abbrev pub MadeInTurn : {S X : Type 0} → (S → X → S → Type 0) → S → List X → S → Type 0
MadeInTurn call before [] after = after ≡ before
MadeInTurn {S} call before (x ∷ xs) after = (between : S) × call before x between × MadeInTurn call between xs after

-- a call was made of a store, and the fate that is told of it is the one that the store has for its last call; or there was no memory for it and the store is as it was
abbrev pub MayBeMade : {S : Type 0} → (S → Fate) → (S → Exchange → S → Type 0) → S → Told → S → Type 0
MayBeMade last call before e after = (call before (record { call = e.call; reply = e.reply }) after × (e.fate ≡ last after)) ⊎ ((after ≡ before) × (is_no_memory e.reply ≡ true))

-- these calls and no others were made of a store, each with the fate that is told of it, but for such as found no memory
abbrev pub MadeOf : {S : Type 0} → (S → Fate) → (S → Exchange → S → Type 0) → S → List Told → S → Type 0
MadeOf last call before told after = MadeInTurn (MayBeMade last call) before told after

-- each call was asked for by a machine of the task that followed the calls before it
abbrev pub AreAsked : {A T : Type 0} → (A → T) → (A → Trace → Type 0) → T → List Exchange → List Exchange → Type 0
AreAsked task follows k past [] = ⊤
AreAsked {A} task follows k past (x ∷ xs) = ((a : A) × (task a ≡ k) × follows a (asking past x.call)) × AreAsked task follows k (past ++ x ∷ []) xs

-- the calls have this end; or the stop cut the machine off, which would have made one more call
abbrev pub EndsAs : {O : Type 0} → (List Exchange → O → Type 0) → (Trace → Type 0) → Stop → List Exchange → Driven O → Type 0
EndsAs ends follows stop trace (driven.Done out) = ends trace out
EndsAs ends follows stop trace driven.Stopped = (c : Call) × follows (asking trace c) × (cuts stop (length trace) c ≡ true)

-- a machine was driven over a store: the calls that it made, and how that ended
pub record Drove {A T O S : Type 0} (task : A → T) (follows : A → Trace → Type 0) (ends : T → List Exchange → O → Type 0) (call : S → Exchange → S → Type 0) (first last : A) (before after : S) (stop : Stop) (result : Driven O) : Type 0 where
  pub trace : List Exchange
  pub calls : MadeInTurn call before trace after
  pub asked : AreAsked task follows (task first) [] trace
  pub uncut : Uncut stop 0 trace
  pub end : EndsAs (ends (task first)) (follows last) stop trace result
