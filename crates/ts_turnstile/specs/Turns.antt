-- What was done in turns, and the entries that it has in a journal.
use Rattle.std.specs.Prelude.{◌≡◌, ℕ, ◌==◌, List, [], ◌∷◌, ◌++◌, Option, Some, None, cond, filter_map, if◌then◌else◌}
use Rattle.ts_store.specs.declared.call.Call.{Call}
use Rattle.ts_store.specs.declared.call.Reply.{Reply}
use Rattle.ts_store.specs.declared.fate.Fate.{Fate}
use Rattle.ts_store.specs.declared.journal.Entry.{Entry}
use Rattle.ts_store.specs.Calls.{is_no_memory}
use Rattle.ts_store.specs.Journals.{entry}
use Rattle.ts_turnstile.specs.declared.turn.Turn.{Turn}

-- a call of a lane's command, what it did and what it was answered
abbrev pub turn : ℕ → ℕ → Call → Fate → Reply → Turn
turn lane number call did said = record { lane = lane; number = number; call = call; fate = did; reply = said }

-- the entry of a turn: want of memory leaves none
abbrev pub entry_in : Turn → Option Entry
entry_in t = cond (is_no_memory t.reply) None (Some (entry t.lane t.call t.fate))

-- the entries of turns
abbrev pub entries_in : List Turn → List Entry
entries_in turns = filter_map entry_in turns

-- the turns of one lane
abbrev pub turns_by : ℕ → List Turn → List Turn
turns_by lane [] = []
turns_by lane (t ∷ turns) = if t.lane == lane then t ∷ turns_by lane turns else turns_by lane turns

-- the second list is the first, and maybe more turns after it
abbrev pub GoesInto : List Turn → List Turn → Type 0
GoesInto turns longer = (rest : List Turn) × (longer ≡ turns ++ rest)
