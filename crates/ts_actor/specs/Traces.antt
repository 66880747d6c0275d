-- Traces: the calls that a machine has asked for, with their replies.
use Rattle.std.specs.Prelude.{◌≡◌, ℕ, ◌<◌, List, [], ◌∷◌, ◌++◌, Option, Some, None, ⊤}
use Rattle.ts_store.specs.declared.call.Call.{Call}
use Rattle.ts_store.specs.declared.call.Reply.{Reply}
use Rattle.ts_store.specs.declared.call.Reply.TheVariants as reply
use Rattle.ts_store.specs.Calls.{FitsCall, IsSpelledCall}
use Rattle.ts_model.specs.States.{Exchange}
use Rattle.ts_actor.specs.declared.actor.Step.{Step}
use Rattle.ts_actor.specs.declared.actor.Step.TheVariants as step

-- the calls that a machine has asked for so far, with their replies, and the call that has no reply yet
pub record Trace : Type 0 where
  pub past : List Exchange
  pub asked : Option Call

-- no call was asked for yet
abbrev pub start : Trace
start = record { past = []; asked = None }

-- after these calls this one was asked for
abbrev pub asking : List Exchange → Call → Trace
asking past c = record { past = past; asked = Some c }

-- the reply can come: the first one is Start, a later one fits the call that was asked for
abbrev pub CanCome : Option Call → Reply → Type 0
CanCome None r = r ≡ reply.Start
CanCome (Some c) r = FitsCall c r

-- the last call with its reply, if a call was asked for
abbrev pub exchange : Option Call → Reply → List Exchange
exchange None r = []
exchange (Some c) r = record { call = c; reply = r } ∷ []

-- the calls of a trace once its last call has its reply
abbrev pub filled : Trace → Reply → List Exchange
filled t r = t.past ++ exchange t.asked r

-- a reply is due: the machine follows some trace, and the reply can come there
pub record Expects (follows : Trace → Type 0) (r : Reply) : Type 0 where
  pub trace : Trace
  pub follows_it : follows trace
  pub can_come : CanCome trace.asked r

-- after these calls the machine asks for one more and follows the longer trace, or is done with an end that these calls have
abbrev pub GoesOn : {O : Type 0} → (Trace → Type 0) → (List Exchange → O → Type 0) → List Exchange → Step O → Type 0
GoesOn follows ends past (step.Ask c) = follows (asking past c)
GoesOn follows ends past (step.Done out) = ends past out

-- a machine that asks for a call has fewer left than before
abbrev pub Falls : {O : Type 0} → ℕ → ℕ → Step O → Type 0
Falls before now (step.Ask c) = now < before
Falls before now (step.Done out) = ⊤

-- a call that is asked for has a spelling
abbrev pub IsSpelledStep : {O : Type 0} → Step O → Type 0
IsSpelledStep (step.Ask c) = IsSpelledCall c
IsSpelledStep (step.Done out) = ⊤
