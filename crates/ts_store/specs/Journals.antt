-- Journals: the calls that were made of a store, in order, each with its lane and its fate.
use Rattle.std.specs.Prelude.{◌≡◌, ℕ, ◌+◌, ◌==◌, Bool, true, false, List, [], ◌∷◌, ◌++◌, if◌then◌else◌}
use Rattle.ts_base.specs.Held.{Held}
use Rattle.ts_store.specs.declared.fate.Fate.{Fate}
use Rattle.ts_store.specs.declared.fate.Fate.TheVariants as fate
use Rattle.ts_store.specs.declared.call.Call.{Call}
use Rattle.ts_store.specs.declared.call.Reply.{Reply}
use Rattle.ts_store.specs.declared.journal.Entry.{Entry}
use Rattle.ts_store.specs.Calls.{after, is_no_memory}

-- the entry of a call
abbrev pub entry : ℕ → Call → Fate → Entry
entry lane call fate = record { lane = lane; call = call; fate = fate }

-- what is held after the calls of a journal
abbrev pub held_after : Held → List Entry → Held
held_after m [] = m
held_after m (e ∷ entries) = held_after (after m e.call e.fate) entries

-- the call was answered Failed
abbrev pub has_failed : Fate → Bool
has_failed fate.Done = false
has_failed _ = true

-- 1 for a call that was answered Failed
abbrev pub failing : Entry → ℕ
failing e = if has_failed e.fate then 1 else 0

-- how many calls were answered Failed
abbrev pub failures : List Entry → ℕ
failures [] = 0
failures (e ∷ entries) = failing e + failures entries

-- the calls of one lane
abbrev pub calls_by : ℕ → List Entry → List Entry
calls_by lane [] = []
calls_by lane (e ∷ entries) = if e.lane == lane then e ∷ calls_by lane entries else calls_by lane entries

-- the second journal is the first, and maybe more calls after it
abbrev pub GrowsInto : List Entry → List Entry → Type 0
GrowsInto journal longer = (rest : List Entry) × (longer ≡ journal ++ rest)

-- the journal after a call: for want of memory as before, and else with the call's entry
abbrev pub EntersIf : Bool → List Entry → List Entry → Entry → Type 0
EntersIf true journal longer e = longer ≡ journal
EntersIf false journal longer e = longer ≡ journal ++ e ∷ []

-- a call that was replied to like this is entered
abbrev pub Enters : List Entry → List Entry → ℕ → Call → Fate → Reply → Type 0
Enters journal longer lane call fate reply = EntersIf (is_no_memory reply) journal longer (entry lane call fate)
