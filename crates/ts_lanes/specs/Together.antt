-- The commands of all lanes together, by one list of the calls that the store got.
use Rattle.std.specs.Prelude.{◌≡◌, ℕ, ◌+◌, ◌≤◌, Bool, false, cond, Option, Some, None, IfSome, List, [], ◌∷◌, length, slice_get, All, ⊤}
use Rattle.std.specs.declared.alloc.Global.{Global}
use Rattle.std.specs.declared.vec.Vec.{Vec}
use Rattle.ts_base.specs.Held.{Held}
use Rattle.ts_store.specs.declared.call.Call.{Call}
use Rattle.ts_store.specs.declared.call.Reply.{Reply}
use Rattle.ts_store.specs.declared.fate.Fate.{Fate}
use Rattle.ts_store.specs.declared.journal.Entry.{Entry}
use Rattle.ts_store.specs.Calls.{after, is_no_memory}
use Rattle.ts_store.specs.Counts.{capped}
use Rattle.ts_store.specs.Journals.{failures}
use Rattle.ts_store.specs.Recorders.{WasMade}
use Rattle.ts_model.specs.declared.answers.Driven.{Driven}
use Rattle.ts_model.specs.declared.answers.Outcome.{Outcome}
use Rattle.ts_model.specs.States.{Exchange}
use Rattle.ts_model.specs.Told.{Told, trace_of, changes, Suits, entries_of}
use Rattle.ts_model.specs.Driving.{Leaves}
use Rattle.ts_actor.specs.Drives.{Exchanged, MadeOf}
use Rattle.ts_turnstile.specs.declared.turn.Turn.{Turn}
use Rattle.ts_lanes.specs.Commands.{IsCommand}

-- commands are numbered among all: `index` gives the number of a lane's command, and `lane_of` the lane that a number belongs to. Those of a lane are numbered in order, each by a number of its own
pub record Numbers (lanes : ℕ) (count : ℕ → ℕ) (index : ℕ → ℕ → ℕ) (lane_of : ℕ → ℕ) : Type 0 where
  pub lane : (lane number : ℕ) → IsCommand lanes count lane number → lane_of (index lane number) ≡ lane
  pub order : (lane number other : ℕ) → number ≤ other → index lane number ≤ index lane other
  pub apart : (lane number other : ℕ) → IsCommand lanes count lane number → IsCommand lanes count lane other → index lane number ≡ index lane other → number ≡ other

-- a turn changed what was held before; nothing is said of a store that does not tell what it holds
abbrev pub changed_over : Option Held → Turn → Bool
changed_over None t = false
changed_over (Some m) t = cond (is_no_memory t.reply) false (changes m t.call t.fate)

-- what is held after a turn, where that is told; one that found no memory did nothing
abbrev pub held_on : Option Held → Turn → Option Held
held_on None t = None
held_on (Some m) t = Some (cond (is_no_memory t.reply) m (after m t.call t.fate))

-- the call of a turn, by the number that its command has among all
abbrev pub told_over : (ℕ → ℕ → ℕ) → Option Held → Turn → Told
told_over index held t = record { job = Some (index t.lane t.number); call = t.call; fate = t.fate; reply = t.reply; changed = changed_over held t }

-- the calls of turns
abbrev pub told_by : (ℕ → ℕ → ℕ) → Option Held → List Turn → List Told
told_by index held [] = []
told_by index held (t ∷ turns) = told_over index held t ∷ told_by index (held_on held t) turns

-- the lane of who made a call
abbrev pub lane_in : (ℕ → ℕ) → Option ℕ → ℕ
lane_in lane_of (Some number) = lane_of number
lane_in lane_of None = 0

-- the call is one of a command of a lane
abbrev pub IsOfCommand : ℕ → (ℕ → ℕ) → (ℕ → ℕ → ℕ) → Told → Type 0
IsOfCommand lanes count index e = (lane : ℕ) × (number : ℕ) × IsCommand lanes count lane number × (e.job ≡ Some (index lane number))

-- where two calls were made in one lane, the first is not one of a later command than the second
abbrev pub IsBefore : (ℕ → ℕ) → Told → Told → Type 0
IsBefore lane_of a b = (i j : ℕ) → a.job ≡ Some i → b.job ≡ Some j → lane_of i ≡ lane_of j → i ≤ j

-- no call of a lane's later command stands before one of its earlier command
abbrev pub InTurn : (ℕ → ℕ) → List Told → Type 0
InTurn lane_of [] = ⊤
InTurn lane_of (e ∷ told) = All (IsBefore lane_of e) told × InTurn lane_of told

-- the commands of all lanes were done together over a store, those of a lane one after the other, and came out so; `came` says how a command came out by its own calls
pub record DidTogether {S : Type 0} (came : ℕ → ℕ → List Exchange → Driven Outcome → Type 0) (lanes : ℕ) (count : ℕ → ℕ) (index : ℕ → ℕ → ℕ) (lane_of : ℕ → ℕ) (held : S → Option Held) (last : S → Fate) (faults asked : S → ℕ) (notes : S → Call → Reply → S → Type 0) (store later : S) (journal : List Entry) (results : List (Vec (Driven Outcome) Global)) : Type 0 where
  -- the calls in the order in which the store got them, those for which there was no memory among them
  pub told : List Told
  -- each is one of a command of a lane
  pub owned : All (IsOfCommand lanes count index) told
  -- just these calls were made of the store, which says of each what it did
  pub made_of : MadeOf last (Exchanged held last faults (WasMade asked notes)) store told later
  -- each reply suits its call
  pub suit : All Suits told
  -- the journal has their entries, each in its lane
  pub entries : entries_of (lane_in lane_of) told ≡ journal
  -- those of a lane's commands come one after the other
  pub in_turn : InTurn lane_of told
  -- over a store that told what it held each reply is that of a store of one thread, and what the calls leave is held
  pub over : IfSome (held store) (λ m. Leaves m (held later) told)
  -- the count of faults rose by the failed calls
  pub rose : capped (faults store + failures journal) ≤ faults later
  -- each lane has the results of its commands
  pub one_each : length results ≡ lanes
  pub each : (lane : ℕ) (own : Vec (Driven Outcome) Global) → slice_get results lane ≡ Some own → length own.items ≡ count lane
  -- each command came out so by its own calls
  pub came_out : (lane number : ℕ) (own : Vec (Driven Outcome) Global) (result : Driven Outcome) → slice_get results lane ≡ Some own → slice_get own.items number ≡ Some result → came lane (1 + number) (trace_of (index lane (1 + number)) told) result
