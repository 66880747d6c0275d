-- Calls to a store, their replies, and what each call does to what is held.
use Rattle.std.specs.Prelude.{ℕ, Bool, true, false, ◌&&◌, not, if◌then◌else◌, List, length, take, drop, filter, Option, Some, None, Result, Ok, Err, All}
use Rattle.std.specs.Option.{option_map}
use Rattle.std.specs.FinMap as map
use Rattle.ts_base.specs.declared.names.Name.{Name}
use Rattle.ts_base.specs.declared.names.Prefix.{Prefix}
use Rattle.ts_base.specs.Names.{is_under, IsSpelled}
use Rattle.ts_base.specs.Held.{Held}
use Rattle.ts_store.specs.declared.fate.Fate.{Fate}
use Rattle.ts_store.specs.declared.fate.Fate.TheVariants as fate
use Rattle.ts_store.specs.declared.call.Made.{Made}
use Rattle.ts_store.specs.declared.call.Made.TheVariants as made
use Rattle.ts_store.specs.declared.call.StoreError.{StoreError}
use Rattle.ts_store.specs.declared.call.StoreError.TheVariants as error
use Rattle.ts_store.specs.declared.call.Call.{Call}
use Rattle.ts_store.specs.declared.call.Call.TheVariants as call
use Rattle.ts_store.specs.declared.call.Reply.{Reply}
use Rattle.ts_store.specs.declared.call.Reply.TheVariants as reply
use Rattle.ts_store.specs.Counts.{one_more}

-- the call did what it was asked
abbrev pub took_effect : Fate → Bool
took_effect fate.Done = true
took_effect fate.FailedDone = true
took_effect _ = false

-- what is held after a call: a put adds a name that was not held, a removal takes its name away
abbrev pub after : Held → Call → Fate → Held
after m (call.Put name bytes) fate = if took_effect fate && not (map.contains_key m name) then map.insert m name bytes else m
after m (call.Remove name) fate = if took_effect fate then map.remove m name else m
after m _ fate = m

-- the names that are held under a prefix, ascending
abbrev pub names_under : Prefix → Held → List Name
names_under prefix m = filter (is_under prefix) (map.keys m)

-- of these bytes those from a place on, at most so many
abbrev pub part_of : ℕ → ℕ → List ℕ → List ℕ
part_of from len bytes = take len (drop from bytes)

-- the reply to a get, which found an object or did not
abbrev pub part_reply : Option (List ℕ) → Reply
part_reply None = reply.Absent
part_reply (Some bytes) = reply.Bytes bytes

-- the reply to a size, which found an object or did not
abbrev pub length_reply : Option ℕ → Reply
length_reply None = reply.Absent
length_reply (Some len) = reply.Length len

-- the reply to a put
abbrev pub made_reply : Made → Reply
made_reply made.New = reply.Made
made_reply made.Taken = reply.Taken

-- what a call finds
abbrev pub answer : Held → Call → Reply
answer m (call.Put name bytes) = if map.contains_key m name then reply.Taken else reply.Made
answer m (call.Remove name) = reply.Removed
answer m (call.List prefix) = reply.Names (names_under prefix m)
answer m (call.Get name from len) = part_reply (option_map (part_of from len) (map.get m name))
answer m (call.Size name) = length_reply (option_map length (map.get m name))

-- what a call with this fate is answered
abbrev pub reply_of : Held → Call → Fate → Reply
reply_of m c fate.Done = answer m c
reply_of m c _ = reply.Failed

-- the reply for want of memory
abbrev pub is_no_memory : Reply → Bool
is_no_memory reply.NoMemory = true
is_no_memory _ = false

-- the reply to a call that ended in an error
abbrev pub error_reply : StoreError → Reply
error_reply error.Failed = reply.Failed
error_reply error.OutOfMemory = reply.NoMemory

-- the reply to a call that ended like this
abbrev pub reply_to : {X : Type 0} → (X → Reply) → Result X StoreError → Reply
reply_to told (Ok x) = told x
reply_to told (Err e) = error_reply e

-- the reply that the result of a put stands for
abbrev pub put_reply : Result Made StoreError → Reply
put_reply = reply_to made_reply

-- the reply that the result of a remove stands for
abbrev pub remove_reply : {X : Type 0} → Result X StoreError → Reply
remove_reply = reply_to (λ _. reply.Removed)

-- the reply that the result of a listing stands for
abbrev pub list_reply : Result (List Name) StoreError → Reply
list_reply = reply_to reply.Names

-- the reply that the result of a get stands for
abbrev pub get_reply : Result (Option (List ℕ)) StoreError → Reply
get_reply = reply_to part_reply

-- the reply that the result of a size stands for
abbrev pub size_reply : Result (Option ℕ) StoreError → Reply
size_reply = reply_to length_reply

-- the kinds of reply that a call may have
abbrev pub FitsCall : Call → Reply → Type 0
FitsCall _ reply.Failed = Unit {0}
FitsCall _ reply.NoMemory = Unit {0}
FitsCall (call.Put name bytes) reply.Made = Unit {0}
FitsCall (call.Put name bytes) reply.Taken = Unit {0}
FitsCall (call.Remove name) reply.Removed = Unit {0}
FitsCall (call.List prefix) (reply.Names names) = Unit {0}
FitsCall (call.Get name from len) (reply.Bytes bytes) = Unit {0}
FitsCall (call.Get name from len) reply.Absent = Unit {0}
FitsCall (call.Size name) (reply.Length len) = Unit {0}
FitsCall (call.Size name) reply.Absent = Unit {0}
FitsCall _ _ = ⊥

-- the call names an object that has a spelling, or a prefix
abbrev pub IsSpelledCall : Call → Type 0
IsSpelledCall (call.Put name bytes) = IsSpelled name
IsSpelledCall (call.Remove name) = IsSpelled name
IsSpelledCall (call.Get name from len) = IsSpelled name
IsSpelledCall (call.Size name) = IsSpelled name
IsSpelledCall _ = Unit {0}

-- the names in the reply have spellings
abbrev pub IsSpelledReply : Reply → Type 0
IsSpelledReply (reply.Names names) = All IsSpelled names
IsSpelledReply _ = Unit {0}

-- the number of gets after a call
abbrev pub asked_after : ℕ → Call → ℕ
asked_after asked (call.Get name from len) = one_more asked
asked_after asked _ = asked
