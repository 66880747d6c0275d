-- What each turn did to the store, as the store's own members say it.
use Rattle.std.specs.Prelude.{◌≡◌, ◌⊎◌, ℕ, true, Option, List, [], ◌∷◌}
use Rattle.ts_base.specs.Held.{Held}
use Rattle.ts_store.specs.declared.call.Call.{Call}
use Rattle.ts_store.specs.declared.call.Reply.{Reply}
use Rattle.ts_store.specs.declared.fate.Fate.{Fate}
use Rattle.ts_store.specs.declared.fate.Fate.TheVariants as fate
use Rattle.ts_store.specs.Calls.{FitsCall, IsSpelledReply, is_no_memory}
use Rattle.ts_store.specs.Recorders.{WasMade}
use Rattle.ts_store.specs.Stores.{Answers, HasCause}
use Rattle.ts_turnstile.specs.declared.turn.Turn.{Turn}

-- the call of a turn was made of a store, from what that was before to what it is after
pub record CallDid {S : Type 0} (held : S → Option Held) (last : S → Fate) (faults asked : S → ℕ) (notes : S → Call → Reply → S → Type 0) (before : S) (t : Turn) (after : S) : Type 0 where
  pub fits : FitsCall t.call t.reply
  pub spelled : IsSpelledReply t.reply
  pub answers : Answers (held before) (held after) (last after) t.call t.reply
  pub cause : HasCause (faults before) (faults after) t.reply
  pub noted : WasMade asked notes before t.call t.reply after
  pub fate : t.fate ≡ last after

-- there was no memory to enter the call: it was not made, and the store is as it was
pub record Missed {S : Type 0} (before : S) (t : Turn) (after : S) : Type 0 where
  pub same : after ≡ before
  pub missed : is_no_memory t.reply ≡ true
  pub fate : t.fate ≡ fate.Done

-- the call of a turn was made of a store, or there was no memory to enter it
abbrev pub TurnDid : {S : Type 0} → (S → Option Held) → (S → Fate) → (S → ℕ) → (S → ℕ) → (S → Call → Reply → S → Type 0) → S → Turn → S → Type 0
TurnDid held last faults asked notes before t after = CallDid held last faults asked notes before t after ⊎ Missed before t after

-- these turns, one after the other, lead from one store to another
abbrev pub LeadTo : {S : Type 0} → (S → Turn → S → Type 0) → S → List Turn → S → Type 0
LeadTo did before [] after = after ≡ before
LeadTo {S} did before (t ∷ turns) after = (between : S) × did before t between × LeadTo did between turns after
