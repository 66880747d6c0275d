-- What a store that enters its calls in a journal says of each.
use Rattle.std.specs.Prelude.{◌≡◌, ℕ, ◌+◌, ◌≤◌, ◌⊎◌, Bool, true, false, Result, Ok, Err}
use Rattle.ts_base.specs.declared.names.Prefix.TheVariants.{Schemas}
use Rattle.ts_store.specs.declared.fate.Fate.{Fate}
use Rattle.ts_store.specs.declared.fate.Fate.TheVariants.{Done}
use Rattle.ts_store.specs.declared.call.Call.{Call}
use Rattle.ts_store.specs.declared.call.Call.TheVariants as call
use Rattle.ts_store.specs.declared.call.Reply.{Reply}
use Rattle.ts_store.specs.declared.call.StoreError.{StoreError}
use Rattle.ts_store.specs.declared.call.StoreError.TheVariants as error
use Rattle.ts_store.specs.declared.journal.Entry.{Entry}
use Rattle.ts_store.specs.declared.recorder.Recorder.{Recorder}
use Rattle.ts_store.specs.Calls.{asked_after, is_no_memory}
use Rattle.ts_store.specs.Counts.{capped}
use Rattle.ts_store.specs.Journals.{entry, failures, Enters}

-- an entry that holds the place of one to come
abbrev pub vacant : ℕ → Entry
vacant lane = entry lane (call.List Schemas) Done

-- the call found no memory
abbrev pub found_none : {X : Type 0} → Result X StoreError → Bool
found_none (Ok x) = false
found_none (Err error.Failed) = false
found_none (Err error.OutOfMemory) = true

-- the store was not asked for the call, for want of memory
abbrev pub Unmade : {S : Type 0} → S → Reply → S → Type 0
Unmade before said now = (now ≡ before) × (is_no_memory said ≡ true)

-- the store made the call: it says of it what it says of each, and counts it where it is a get
abbrev pub WasMade : {S : Type 0} → (S → ℕ) → (S → Call → Reply → S → Type 0) → S → Call → Reply → S → Type 0
WasMade asked notes before call said now = notes before call said now × (asked now ≡ asked_after (asked before) call)

-- a call was made of the store below and entered, or there was no memory for it
pub record Recorded {S : Type 0} (faults asked : S → ℕ) (last : S → Fate) (notes : S → Call → Reply → S → Type 0) (before now : Recorder S) (call : Call) (said : Reply) : Type 0 where
  -- the lane stays
  pub lane : now.book.lane ≡ before.book.lane
  -- the call is entered in that lane with what it did, unless there was no memory
  pub enters : Enters before.book.journal now.book.journal before.book.lane call now.book.last said
  -- the store below made the call, and the fate that is entered is the one that it tells, unless it was not asked for want of memory
  pub noted : Unmade before.store said now.store ⊎ (WasMade asked notes before.store call said now.store × (now.book.last ≡ last now.store))
  -- its count of faults keeps up with the failed calls of the journal
  pub counted : (base : ℕ) → capped (base + failures before.book.journal) ≤ faults before.store → capped (base + failures now.book.journal) ≤ faults now.store
