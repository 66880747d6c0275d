-- The calls of jobs, with all that is known of each, and what they leave.
use Rattle.std.specs.Prelude.{◌≡◌, ◌≢◌, ℕ, Bool, true, false, cond, not, ◌&&◌, List, [], ◌∷◌, ◌++◌, Option, Some, None, option_map, option_and_then, option_to_list, filter_map, nat_eq, slice_get, Result, Ok, Err, ⊤, ◌⊎◌}
use Rattle.ts_base.specs.declared.keys.Key.{Key}
use Rattle.ts_base.specs.declared.names.Name.{Name}
use Rattle.ts_base.specs.declared.heads.Cell.{Cell}
use Rattle.ts_store.specs.declared.call.Call.{Call}
use Rattle.ts_store.specs.declared.call.Reply.{Reply}
use Rattle.ts_store.specs.declared.fate.Fate.{Fate}
use Rattle.ts_store.specs.declared.journal.Entry.{Entry}
use Rattle.ts_model.specs.declared.commands.Command.{Command}
use Rattle.ts_model.specs.declared.commands.Job.{Job}
use Rattle.ts_model.specs.declared.commands.WriteIn.{WriteIn}
use Rattle.ts_model.specs.declared.answers.Refusal.{Refusal}
use Rattle.ts_model.specs.declared.deeds.Written.{Written}
use Rattle.ts_model.specs.declared.deeds.Deletion.{Deletion}
use Rattle.ts_model.specs.declared.deeds.Deed.{Deed}
use Rattle.ts_schema.specs.declared.frames.Frame.{Frame}
use Rattle.ts_schema.specs.declared.schemas.Schema.{Schema}
use Rattle.ts_base.specs.Held.{Held}
use Rattle.ts_schema.specs.Evolutions.{evolved_attrs, schema_at}
use Rattle.ts_schema.specs.Parts.{IsShort}
use Rattle.ts_store.specs.Calls.{took_effect, after, reply_of, is_no_memory, FitsCall}
use Rattle.ts_model.specs.declared.commands.Command.TheVariants.{Create, Evolve, Write, Delete}
use Rattle.ts_model.specs.declared.deeds.Deed.TheVariants.{Framed, Declared, Wrote, Erased}
use Rattle.ts_base.specs.declared.names.CommitKind.TheVariants.{Wrt, Del}
use Rattle.ts_base.specs.declared.names.Prefix.TheVariants.{Schemas}
use Rattle.ts_model.specs.States.{schemas_in, made_by, Exchange}
use Rattle.ts_model.specs.Jobs.{schema_of_job, written_as, deletion_as}
use Rattle.ts_model.specs.Deeds.{History, frame_in, schema_with}
use Rattle.ts_model.specs.Commands.{frame_made, laid}
use Rattle.ts_model.specs.Queries.{delete_condition}
use Rattle.ts_cond.specs.Tests.{Condition}
use Rattle.ts_base.specs.declared.names.Name.TheVariants as name
use Rattle.ts_store.specs.declared.call.Call.TheVariants as call
use Rattle.ts_store.specs.declared.call.Reply.TheVariants as reply
use Rattle.ts_store.specs.declared.fate.Fate.TheVariants as fate
use Rattle.std.specs.FinMap as map

-- a call: the number of the job that made it, its fate, its reply, and whether it changed what is held
pub record Told : Type 0 where
  pub job : Option ℕ
  pub call : Call
  pub fate : Fate
  pub reply : Reply
  pub changed : Bool

-- the call was made by the job with a number
abbrev pub is_by : ℕ → Option ℕ → Bool
is_by number None = false
is_by number (Some n) = nat_eq n number

-- the call and its reply, if that job made it
abbrev pub exchange_of : ℕ → Told → Option Exchange
exchange_of number e = cond (is_by number e.job) (Some (record { call = e.call; reply = e.reply })) None

-- the calls of one job, with their replies
abbrev pub trace_of : ℕ → List Told → List Exchange
trace_of number told = filter_map (exchange_of number) told

-- the call changes what is held: it took effect, and what it puts is new or what it removes is there
abbrev pub changes : Held → Call → Fate → Bool
changes m (call.Put n bytes) fate = took_effect fate && not (map.contains_key m n)
changes m (call.Remove n) fate = took_effect fate && map.contains_key m n
changes m _ fate = false

-- what is held after the call; a call that found no memory did nothing
abbrev pub after_told : Held → Told → Held
after_told m e = cond (is_no_memory e.reply) m (after m e.call e.fate)

-- what is held after the calls
abbrev pub held_told : Held → List Told → Held
held_told m [] = m
held_told m (e ∷ es) = held_told (after_told m e) es

-- an object that is put is short enough to be got at once
abbrev pub IsShortCall : Call → Type 0
IsShortCall (call.Put n bytes) = IsShort bytes
IsShortCall c = ⊤

-- the reply fits the call, and is Failed where the fate of the call is not Done, and only there
pub record Suits (e : Told) : Type 0 where
  pub short : IsShortCall e.call
  pub fits : FitsCall e.call e.reply
  pub failed : e.reply ≡ reply.Failed → e.fate ≢ fate.Done
  pub served : e.reply ≢ reply.Failed → e.fate ≡ fate.Done

-- the call found no memory, or its reply is that of a store of one thread which holds m
abbrev pub IsReplied : Held → Told → Type 0
IsReplied m e = (is_no_memory e.reply ≡ true) × (e.changed ≡ false) ⊎ (e.reply ≡ reply_of m e.call e.fate) × (e.changed ≡ changes m e.call e.fate)

-- each call is replied to over what those before it left
abbrev pub Replied : Held → List Told → Type 0
Replied m [] = ⊤
Replied m (e ∷ es) = IsReplied m e × Replied (after_told m e) es

-- each call is made in this lane, whoever makes it
abbrev pub only_lane : ℕ → Option ℕ → ℕ
only_lane lane job = lane

-- the entry of a call, in the lane of who made it; want of memory leaves none
abbrev pub entry_of : (Option ℕ → ℕ) → Told → Option Entry
entry_of lane e = cond (is_no_memory e.reply) None (Some (record { lane = lane e.job; call = e.call; fate = e.fate }))

-- the entries of calls, each in the lane of who made it
abbrev pub entries_of : (Option ℕ → ℕ) → List Told → List Entry
entries_of lane told = filter_map (entry_of lane) told

-- ---- the history

-- the schemas that a reply to a listing of them names, or else those that were found before
abbrev pub found_in : Option (List Key) → Call → Reply → Option (List Key)
found_in before (call.List Schemas) (reply.Names names) = Some (schemas_in names)
found_in before c r = before

-- the schemas that a job found by the last of these calls that lists them
abbrev pub found_after : Option (List Key) → List Exchange → Option (List Key)
found_after found [] = found
found_after found (x ∷ xs) = found_after (found_in found x.call x.reply) xs

-- the schemas that a job found: those of its last listing of them
abbrev pub schemas_found : List Exchange → Option (List Key)
schemas_found trace = found_after None trace

-- the schema that a job works in, of those that it found: the one that holds at its stamp
abbrev pub schema_used : History → Job → Option (List Key) → Option Schema
schema_used h job found = option_and_then (schema_with h) (option_and_then (λ keys. schema_at keys job.at) found)

-- the schema that a job declares
abbrev pub declared_by : History → Job → Option (List Key) → Command → Option Schema
declared_by h job found (Create f) = Some (schema_of_job job f.attrs)
declared_by h job found (Evolve change) = option_map (λ s. schema_of_job job (evolved_attrs s.attrs change)) (schema_used h job found)
declared_by h job found _ = None

-- the cells, if no refusal stands against them
abbrev pub cells_of : Result (List Cell) Refusal → Option (List Cell)
cells_of (Ok cells) = Some cells
cells_of (Err r) = None

-- what is written in a schema of an array with a frame
abbrev pub written_in : Job → WriteIn → Option Schema → Option Frame → Option Written
written_in job w (Some s) (Some frame) = option_map (written_as job s.key) (cells_of (laid frame s.attrs w))
written_in job w _ _ = None

-- what a job writes
abbrev pub written_by : History → Job → Option (List Key) → Command → Option Written
written_by h job found (Write w) = written_in job w (schema_used h job found) (frame_in h)
written_by h job found _ = None

-- the condition, if no refusal stands against it
abbrev pub condition_of : Result Condition Refusal → Option Condition
condition_of (Ok condition) = Some condition
condition_of (Err r) = None

-- what a text erases in a schema of an array with a frame
abbrev pub deleted_in : Job → List ℕ → Option Schema → Option Frame → Option Deletion
deleted_in job text (Some s) (Some frame) = option_map (deletion_as job) (condition_of (delete_condition frame s.attrs text))
deleted_in job text _ _ = None

-- what a job erases
abbrev pub deleted_by : History → Job → Option (List Key) → Command → Option Deletion
deleted_by h job found (Delete text) = deleted_in job text (schema_used h job found) (frame_in h)
deleted_by h job found _ = None

-- the deed of an object that a job puts: of the frame, of a schema, of a `.wrt`, or of a `.del`
abbrev pub deed_of : History → Job → Option (List Key) → Name → Option Deed
deed_of h job found name.Domain = option_map (λ f. Framed (frame_made f)) (made_by job.command)
deed_of h job found (name.Schema k) = option_map Declared (declared_by h job found job.command)
deed_of h job found (name.Commit f Wrt) = option_map Wrote (written_by h job found job.command)
deed_of h job found (name.Commit f Del) = option_map Erased (deleted_by h job found job.command)
deed_of h job found _ = None

-- the deed of a call of a job
abbrev pub deed_in : History → Job → Option (List Key) → Call → Option Deed
deed_in h job found (call.Put n bytes) = deed_of h job found n
deed_in h job found _ = None

-- the deed of a call, after these deeds and these calls: no bytes are decoded
abbrev pub deed_told : List Job → History → List Told → Told → Option Deed
deed_told jobs h seen e = option_and_then (λ number. option_and_then (λ job. deed_in h job (schemas_found (trace_of number seen)) e.call) (slice_get jobs number)) e.job

-- the deeds that a call appends: that of what it puts, where it changed what is held
abbrev pub grown : List Job → History → List Told → Told → List Deed
grown jobs h seen e = cond e.changed (option_to_list (deed_told jobs h seen e)) []

-- the history after further calls
abbrev pub history_from : List Job → History → List Told → List Told → History
history_from jobs h seen [] = h
history_from jobs h seen (e ∷ es) = history_from jobs (h ++ grown jobs h seen e) (seen ++ e ∷ []) es

-- the history after the calls, from a past one
abbrev pub history_told : List Job → History → List Told → History
history_told jobs past told = history_from jobs past [] told
