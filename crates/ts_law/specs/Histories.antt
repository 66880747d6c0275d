-- The history of a journal: what its puts append, told by the entries alone.
use Rattle.std.specs.Prelude.{ℕ, nat_eq, cond, List, [], ◌∷◌, ◌++◌, Option, None, option_map, option_and_then, option_to_list}
use Rattle.std.specs.Result.{result_ok}
use Rattle.ts_base.specs.declared.keys.Key.{Key}
use Rattle.ts_base.specs.declared.names.Name.{Name}
use Rattle.ts_base.specs.Held.{Held}
use Rattle.ts_schema.specs.FrameTexts.{frame_of}
use Rattle.ts_store.specs.declared.call.Call.{Call}
use Rattle.ts_store.specs.declared.journal.Entry.{Entry}
use Rattle.ts_store.specs.Calls.{after, reply_of}
use Rattle.ts_store.specs.Journals.{held_after}
use Rattle.ts_model.specs.declared.commands.Job.{Job}
use Rattle.ts_model.specs.declared.deeds.Deed.{Deed}
use Rattle.ts_model.specs.declared.deeds.Deed.TheVariants.{Framed}
use Rattle.ts_model.specs.Deeds.{History}
use Rattle.ts_model.specs.Jobs.{job_with}
use Rattle.ts_model.specs.Told.{changes, found_in, deed_of}
use Rattle.ts_law.specs.Fresh.{id_in}
use Rattle.ts_base.specs.declared.names.Name.TheVariants as name
use Rattle.ts_store.specs.declared.call.Call.TheVariants as call

-- the schemas that the last listing of them named which a lane made among these entries, or else those that were found before
abbrev pub found_by : Held → ℕ → Option (List Key) → List Entry → Option (List Key)
found_by m lane found [] = found
found_by m lane found (e ∷ es) = found_by (after m e.call e.fate) lane (cond (nat_eq e.lane lane) (found_in found e.call (reply_of m e.call e.fate)) found) es

-- the deed of an object, put by the job whose identifier its name carries
abbrev pub deed_carried : List Job → History → Option (List Key) → Name → Option Deed
deed_carried jobs h found n = option_and_then (λ id. option_and_then (λ job. deed_of h job found n) (job_with jobs id)) (id_in n)

-- the deed of an object with these bytes: the frame is the one that the bytes spell
abbrev pub deed_put : List Job → History → Option (List Key) → Name → List ℕ → Option Deed
deed_put jobs h found name.Domain bytes = option_map Framed (result_ok (frame_of bytes))
deed_put jobs h found n bytes = deed_carried jobs h found n

-- the deed of a call, where the lane that made it found these schemas
abbrev pub deed_entered : List Job → History → Option (List Key) → Call → Option Deed
deed_entered jobs h found (call.Put n bytes) = deed_put jobs h found n bytes
deed_entered jobs h found _ = None

-- the deeds that an entry appends after those before, over objects that were held before all: that of what it puts, where it took effect and made a new name
abbrev pub grown_by : List Job → Held → History → List Entry → Entry → List Deed
grown_by jobs m h before e = cond (changes (held_after m before) e.call e.fate) (option_to_list (deed_entered jobs h (found_by m e.lane None before) e.call)) []

-- the history after further entries
abbrev pub history_by : List Job → Held → History → List Entry → List Entry → History
history_by jobs m h before [] = h
history_by jobs m h before (e ∷ es) = history_by jobs m (h ++ grown_by jobs m h before e) (before ++ e ∷ []) es

-- the history of a journal of these jobs, from a past one and the objects that were held then
abbrev pub history_of : History → Held → List Job → List Entry → History
history_of h m jobs journal = history_by jobs m h [] journal
