-- What a store in a folder says of each call.
use Rattle.std.specs.Prelude.{◌≡◌, ℕ, ◌≤◌, Bool, true, false, length, if◌then◌else◌, Result, Ok, Err}
use Rattle.ts_store.specs.declared.fate.Fate.{Fate}
use Rattle.ts_store.specs.declared.fate.Fate.TheVariants as fate
use Rattle.ts_store.specs.declared.call.Call.{Call}
use Rattle.ts_store.specs.declared.call.Call.TheVariants as call
use Rattle.ts_store.specs.declared.call.Reply.{Reply}
use Rattle.ts_store.specs.declared.call.Reply.TheVariants as reply
use Rattle.ts_store.specs.Counts.{one_more}
use Rattle.ts_store.specs.declared.call.StoreError.{StoreError}
use Rattle.ts_store.specs.declared.call.StoreError.TheVariants as error
use Rattle.ts_folder.specs.declared.folder.Tally.{Tally}
use Rattle.ts_folder.specs.declared.trouble.Trouble.{Trouble}
use Rattle.ts_folder.specs.declared.trouble.Trouble.TheVariants as trouble
use Rattle.ts_folder.specs.Listings.{IsListing}

-- the call failed
abbrev pub is_failed : Reply → Bool
is_failed reply.Failed = true
is_failed _ = false

-- what a call did that was replied to like this: where it failed that is not known
abbrev pub fate_of : Reply → Fate
fate_of said = if is_failed said then fate.Unknown else fate.Done

-- the count of faults after a call that was replied to like this: one more just where it failed
abbrev pub faults_after : ℕ → Reply → ℕ
faults_after faults said = if is_failed said then one_more faults else faults

-- a listing is one, and no more bytes come than were asked for
abbrev pub IsWithin : Call → Reply → Type 0
IsWithin (call.List prefix) (reply.Names names) = IsListing prefix names
IsWithin (call.Get name from len) (reply.Bytes bytes) = length bytes ≤ len
IsWithin _ _ = Unit {0}

-- a call is counted as failed exactly where it failed, and its reply is such as was asked for
pub record Told (before now : Tally) (call : Call) (said : Reply) : Type 0 where
  pub counted : now.faults ≡ faults_after before.faults said
  pub fate : now.last ≡ fate_of said
  pub within : IsWithin call said

-- a call ends as its work on files came out: with its answer, for want of memory, or failed and counted
abbrev pub Ended : {X : Type 0} → Tally → Tally → Result X Trouble → Result X StoreError → Type 0
Ended before now (Ok answer) result = (result ≡ Ok answer) × (now ≡ record before { last = fate.Done })
Ended before now (Err trouble.Memory) result = (result ≡ Err error.OutOfMemory) × (now ≡ record before { last = fate.Done })
Ended before now (Err trouble.Device) result =
    (result ≡ Err error.Failed) × (now ≡ record before { faults = one_more before.faults; last = fate.Unknown })
