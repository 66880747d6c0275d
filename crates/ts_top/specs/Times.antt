-- The times of a run, where a time is how many calls were made by then: what was held at each, the history, and which command made which call.
use Rattle.std.specs.Prelude.{◌≡◌, ℕ, ◌+◌, ◌<◌, ◌≤◌, nat_eq, List, Some, filter, length, slice_get, take, ◌⊎◌, map as list_map}
use Rattle.ts_base.specs.Held.{Held}
use Rattle.ts_base.specs.declared.names.Prefix.{Prefix}
use Rattle.ts_store.specs.declared.call.Call.{Call}
use Rattle.ts_store.specs.declared.call.Call.TheVariants as call
use Rattle.ts_store.specs.declared.fate.Fate.TheVariants as fate
use Rattle.ts_store.specs.declared.journal.Entry.{Entry}
use Rattle.ts_store.specs.Journals.{held_after}
use Rattle.ts_model.specs.Deeds.{History}

-- a call of the journal, with the number of the command that made it: its place among the lines in lane order
pub record Made : Type 0 where
  pub number : ℕ
  pub entry : Entry

-- the entries of these calls
abbrev pub journal_of : List Made → List Entry
journal_of calls = list_map (λ c. c.entry) calls

-- a run by its times: what was held before its calls, these calls, and the history after so many of them
pub record Timeline : Type 0 where
  pub opening : Held
  pub calls : List Made
  pub history : ℕ → History

-- what was held after so many calls
abbrev pub held_at : Timeline → ℕ → Held
held_at t n = held_after t.opening (journal_of (take n t.calls))

-- the entries of a command's calls
abbrev pub entries_by : ℕ → List Made → List Entry
entries_by number calls = journal_of (filter (λ c. nat_eq c.number number) calls)

-- ---- the times of a command

-- a command in a run: the time of its first call, and the one after its last call
pub record Span : Type 0 where
  pub run : Timeline
  pub number : ℕ
  pub from : ℕ
  pub to : ℕ

-- the call that is made at a time is one of the command
abbrev pub IsCall : Span → ℕ → Type 0
IsCall s n = (c : Made) × (slice_get s.run.calls n ≡ Some c) × (c.number ≡ s.number)

-- it is this one
abbrev pub Makes : Span → ℕ → Call → Type 0
Makes s n asked = (c : Made) × (slice_get s.run.calls n ≡ Some c) × (c.number ≡ s.number) × (c.entry.call ≡ asked)

-- it is this one, and it is done
abbrev pub HasMade : Span → ℕ → Call → Type 0
HasMade s n asked = (c : Made) × (slice_get s.run.calls n ≡ Some c) × (c.number ≡ s.number) × (c.entry.call ≡ asked) × (c.entry.fate ≡ fate.Done)

-- it lists what is below a prefix
abbrev pub Lists : Span → ℕ → Prefix → Type 0
Lists s n prefix = Makes s n (call.List prefix)

-- a command's calls are made between its times, the first and the last of them at these.
-- One that made no call has only one time, which may be any time of the run.
pub record IsSpan (s : Span) : Type 0 where
  pub ordered : s.from ≤ s.to
  pub whole : s.to ≤ length s.run.calls
  pub all : (n : ℕ) → IsCall s n → (s.from ≤ n) × (n < s.to)
  pub tight : (s.from ≡ s.to) ⊎ (IsCall s s.from × ((last : ℕ) × (s.to ≡ last + 1) × IsCall s last))

-- the history as a command ended
abbrev pub now : Span → History
now s = s.run.history s.to
