-- Commands of lanes, and how each came out by the turns that were its own.
use Rattle.std.specs.Prelude.{◌≡◌, ◌⊎◌, ℕ, ◌+◌, ◌<◌, ◌≤◌, List, [], ◌∷◌, ◌++◌, map, All}
use Rattle.ts_base.specs.declared.heads.Stop.{Stop}
use Rattle.ts_model.specs.declared.answers.Driven.{Driven}
use Rattle.ts_model.specs.declared.answers.Driven.TheVariants as driven
use Rattle.ts_model.specs.declared.answers.Outcome.{Outcome}
use Rattle.ts_model.specs.declared.answers.Outcome.TheVariants as outcome
use Rattle.ts_model.specs.States.{Exchange}
use Rattle.ts_model.specs.Stops.{Uncut}
use Rattle.ts_model.specs.Told.{IsShortCall}
use Rattle.ts_actor.specs.Traces.{Trace}
use Rattle.ts_actor.specs.Drives.{AreAsked, EndsAs}
use Rattle.ts_turnstile.specs.declared.turn.Turn.{Turn}
use Rattle.ts_turnstile.specs.declared.view.View.{View}
use Rattle.ts_turnstile.specs.Passes.{CalledInTurn}

-- the lane has a command with this number, counted from 1
abbrev pub IsCommand : ℕ → (ℕ → ℕ) → ℕ → ℕ → Type 0
IsCommand lanes count lane number = (lane < lanes) × (1 ≤ number) × (number ≤ count lane)

-- a call was made in turn for the command with this number; an object that it puts is short enough to be got at once
abbrev pub CalledShort : ℕ → View → Exchange → View → Type 0
CalledShort number v x w = CalledInTurn v w number x.call x.reply × IsShortCall x.call

-- an actor of this task made these calls, none of which the stop cut off, and came out so by them
pub record Acted {A T O : Type 0} (task : A → T) (follows : A → Trace → Type 0) (ends : T → List Exchange → O → Type 0) (stop : Stop) (k : T) (trace : List Exchange) (result : Driven O) : Type 0 where
  pub last : A
  pub same : task last ≡ k
  pub asked : AreAsked task follows k [] trace
  pub uncut : Uncut stop 0 trace
  pub end : EndsAs (ends k) (follows last) stop trace result

-- an actor of a task of the command came out so by these calls; or there was no memory to make one, and the command came out so without a call
abbrev pub CameOut : {A T : Type 0} → (ℕ → ℕ → Stop) → (ℕ → ℕ → T → Type 0) → (A → T) → (A → Trace → Type 0) → (T → List Exchange → Outcome → Type 0) → ℕ → ℕ → List Exchange → Driven Outcome → Type 0
CameOut {A} {T} stops offers task follows ends lane number trace result =
    (k : T) × offers lane number k × (Acted task follows ends (stops lane number) k trace result ⊎ ((trace ≡ []) × (result ≡ driven.Done outcome.OutOfMemory)))

-- the call of a turn, with its reply
abbrev pub exchange_in : Turn → Exchange
exchange_in t = record { call = t.call; reply = t.reply }

-- the turn was one of the command of a lane with a number, and its call is short
abbrev pub IsTurnOf : ℕ → ℕ → Turn → Type 0
IsTurnOf lane number t = (t.lane ≡ lane) × (t.number ≡ number) × IsShortCall t.call

-- after these turns of a lane the command with a number had its own, and came out so by them
pub record DidCommand (came : ℕ → ℕ → List Exchange → Driven Outcome → Type 0) (lane number : ℕ) (before after : List Turn) (result : Driven Outcome) : Type 0 where
  pub own : List Turn
  pub adds : after ≡ before ++ own
  pub of_it : All (IsTurnOf lane number) own
  pub came_out : came lane number (map exchange_in own) result

-- the turns of a lane are those of its commands from a number on, one command after the other, and each came out so by its own
abbrev pub Did : (ℕ → ℕ → List Exchange → Driven Outcome → Type 0) → ℕ → ℕ → List (Driven Outcome) → List Turn → Type 0
Did came lane number [] turns = turns ≡ []
Did came lane number (result ∷ results) turns =
    (own : List Turn) × (rest : List Turn) × (turns ≡ own ++ rest) × All (IsTurnOf lane number) own × came lane number (map exchange_in own) result × Did came lane (1 + number) results rest
