-- What the end of a command tells where commands of other lanes make calls between its own: of what was held, and of the history, at times of its own.
use Rattle.std.specs.Prelude.{◌≡◌, ◌≢◌, ℕ, ◌+◌, ◌<◌, ◌≤◌, List, [], ◌∷◌, ◌++◌, Some, None, Ok, option_map, filter, length, slice_get, Contains, IfSome, ◌⊎◌, map as list_map}
use Rattle.std.specs.List.{list_any}
use Rattle.std.specs.FinMap as map
use Rattle.ts_base.specs.Keys.{frag_of}
use Rattle.ts_base.specs.Names.{wrt_of}
use Rattle.ts_base.specs.declared.heads.Cell.{Cell}
use Rattle.ts_base.specs.declared.heads.Piece.{Piece}
use Rattle.ts_base.specs.declared.heads.Stop.{Stop}
use Rattle.ts_base.specs.declared.heads.Stop.TheVariants as stop
use Rattle.ts_base.specs.declared.keys.FragKey.{FragKey}
use Rattle.ts_base.specs.declared.keys.Key.{Key}
use Rattle.ts_base.specs.declared.names.LeaseMode.{LeaseMode}
use Rattle.ts_base.specs.declared.names.Name.{Name}
use Rattle.ts_base.specs.declared.names.Name.TheVariants as name
use Rattle.ts_base.specs.declared.names.Place.{Place}
use Rattle.ts_base.specs.declared.names.Prefix.TheVariants.{Commits, Leases, Schemas}
use Rattle.ts_commit.specs.Selections.{has_origin, is_among, names_merged, removal_set}
use Rattle.ts_commit.specs.declared.vacs.Limits.{Limits}
use Rattle.ts_commit.specs.declared.vacs.Planned.{Planned}
use Rattle.ts_commit.specs.declared.vacs.Planned.TheVariants.{Nothing, Take}
use Rattle.ts_commit.specs.declared.vacs.VacOf.{VacOf}
use Rattle.ts_cond.specs.Tests.{Condition}
use Rattle.ts_cond.specs.declared.query.Query.{Query}
use Rattle.ts_lease.specs.declared.verdicts.Verdict.TheVariants.{Held as Opposed}
use Rattle.ts_lease.specs.Leases.{verdict_in}
use Rattle.ts_schema.specs.declared.frames.Frame.{Frame}
use Rattle.ts_schema.specs.declared.schemas.Schema.{Schema}
use Rattle.ts_schema.specs.Evolutions.{evolved_attrs, evolution_fault}
use Rattle.ts_store.specs.declared.call.Call.TheVariants as call
use Rattle.ts_store.specs.declared.fate.Fate.TheVariants as fate
use Rattle.ts_store.specs.Calls.{names_under}
use Rattle.ts_model.specs.declared.answers.Answer.{Answer}
use Rattle.ts_model.specs.declared.answers.Driven.{Driven}
use Rattle.ts_model.specs.declared.answers.Driven.TheVariants.{Done, Stopped}
use Rattle.ts_model.specs.declared.answers.Outcome.{Outcome}
use Rattle.ts_model.specs.declared.answers.Outcome.TheVariants as outcome
use Rattle.ts_model.specs.declared.answers.Refusal.{Refusal}
use Rattle.ts_model.specs.declared.answers.Refusal.TheVariants as refusal
use Rattle.ts_model.specs.declared.commands.Command.{Command}
use Rattle.ts_model.specs.declared.commands.Command.TheVariants.{Create, Evolve, Write, Read, Delete, Consolidate, Vacuum, Unlock, Fragments}
use Rattle.ts_model.specs.declared.commands.FrameIn.{FrameIn}
use Rattle.ts_model.specs.declared.deeds.Deed.{Deed}
use Rattle.ts_model.specs.declared.deeds.Deed.TheVariants.{Framed, Declared, Wrote, Erased}
use Rattle.ts_model.specs.Commands.{create_refusal, frame_made, laid}
use Rattle.ts_model.specs.Deeds.{IsNewKey, current_schema, deletions, frame_in, schema_with, schemas, writes}
use Rattle.ts_model.specs.Queries.{delete_condition}
use Rattle.ts_model.specs.Stages.{mode_of}
use Rattle.ts_model.specs.States.{frame_put, get_frame, leases_unlocked, place_of}
use Rattle.ts_law.specs.Bounds.{FewGets, gets_among}
use Rattle.ts_law.specs.Changes.{IsOwn, OnlyLooks, RemovesNone}
use Rattle.ts_law.specs.Ends.{AreAllVacs, IsAnswerOver, IsPlanned}
use Rattle.ts_law.specs.Refusals.{IsNoFault, refusal_in}
use Rattle.ts_law.specs.Since.{HeldSince}
use Rattle.ts_law.specs.Stands.{HoldsIn, IsCommitted, Names}
use Rattle.ts_top.specs.Causes.{looks_for, own_faults}
use Rattle.ts_top.specs.Runners.{run_most, run_spelled}
use Rattle.ts_top.specs.Sweeps.{IsSwept}
use Rattle.ts_top.specs.Times.{HasMade, Made, Span, IsCall, IsSpan, Lists, Makes, entries_by, held_at, now}

-- ---- what the calls of a command did

-- none of the command's calls appended a deed
abbrev pub DidNone : Span → Type 0
DidNone s = (n : ℕ) → IsCall s n → s.run.history (n + 1) ≡ s.run.history n

-- each of the command's calls left each object as it was, but the lease of the command with the key, and objects of a kind, which may depend on the time
abbrev pub LeftOthers : Span → Key → Command → (ℕ → Name → Type 0) → Type 0
LeftOthers s k command kind =
    (n : ℕ) → IsCall s n → (x : Name) → (option_map (name.Lease k) (mode_of command) ≡ Some x → ⊥) → (map.get (held_at s.run (n + 1)) x ≡ map.get (held_at s.run n) x) ⊎ kind n x

-- each of them left all but the lease
abbrev pub LeftAll : Span → Key → Command → Type 0
LeftAll s k command = LeftOthers s k command (λ n x. ⊥)

-- at the end of the command its lease was not held
abbrev pub LeftNoLease : Span → Key → Command → Type 0
LeftNoLease s k command = IfSome (mode_of command) (λ mode. map.get (held_at s.run s.to) (name.Lease k mode) ≡ None)

-- a call of the command removed the object, which was not held right after the call
abbrev pub DidRemove : Span → Name → Type 0
DidRemove s x = (n : ℕ) × Makes s n (call.Remove x) × (map.get (held_at s.run (n + 1)) x ≡ None)

-- a call of the command removed the object, or at a time from the listing to the command's end it was not held
abbrev pub WasGone : Span → ℕ → Name → Type 0
WasGone s listed x = DidRemove s x ⊎ ((n : ℕ) × (listed ≤ n) × (n ≤ s.to) × (map.get (held_at s.run n) x ≡ None))

-- how many gets the calls of the command are
abbrev pub gets_by : Span → ℕ
gets_by s = gets_among (list_map (λ e. e.call) (entries_by s.number s.run.calls))

-- ---- what it found

-- before a time the command listed the schemas, and this one held then at the stamp of its key.
-- The history had no deed of the command then.
abbrev pub HeldAsListed : Span → ℕ → Key → Schema → Type 0
HeldAsListed s till k schema = (n : ℕ) × (n < till) × Lists s n Schemas × IsNewKey (s.run.history n) k × (current_schema (s.run.history n) k.t ≡ Some schema)

-- a create found no array before a time.
-- Its put of the frame was done where the history had no deed, or as it listed the schemas there was none.
abbrev pub FoundNoArray : Span → ℕ → FrameIn → Type 0
FoundNoArray s till made =
    ((n : ℕ) × (n < till) × HasMade s n (frame_put made) × (s.run.history n ≡ []))
    ⊎ ((n : ℕ) × (n < till) × Lists s n Schemas × (schemas (s.run.history n) ≡ []))

-- as the command listed the schemas, one held at a stamp
abbrev pub FoundSchema : Span → ℕ → Type 0
FoundSchema s at = (n : ℕ) × Lists s n Schemas × (current : Schema) × (current_schema (s.run.history n) at ≡ Some current)

-- the answer to a read of [from, to]: over the fragments that were committed as it listed the commits, shown through the schema that held as it then listed the schemas.
-- It names those that are clipped, and is that of the history at the first listing without its clipped writes.
-- Where it names none, it is that of the whole history.
pub record Answered (s : Span) (from to : ℕ) (query : Query) (answer : Answer) : Type 0 where
  pub listed : ℕ
  pub lists : Lists s listed Commits
  pub shown : ℕ
  pub shows : Lists s shown Schemas
  pub order : listed < shown
  pub over : IsAnswerOver run_spelled (s.run.history listed) (held_at s.run listed) (s.run.history shown) from to query answer

-- the gets of a read of [from, to] are few by its listings: no more than it may make by what was held as it listed the commits, in the history as it then listed the schemas
pub record FewSo (s : Span) (from to : ℕ) (query : Query) : Type 0 where
  pub listed : ℕ
  pub lists : Lists s listed Commits
  pub shown : ℕ
  pub shows : Lists s shown Schemas
  pub order : listed < shown
  pub few : FewGets run_spelled run_most (s.run.history shown) (held_at s.run listed) from to query (gets_by s)

-- a read made few gets: none, or few by its listings
abbrev pub MadeFewGets : Span → ℕ → ℕ → Query → Type 0
MadeFewGets s from to query = (gets_by s ≡ 0) ⊎ FewSo s from to query

-- a consolidation came to this plan: it is that of the fragments in its interval that were committed as it listed the commits
pub record PlannedSo (s : Span) (from to : ℕ) (limits : Limits) (plan : Planned) : Type 0 where
  pub listed : ℕ
  pub lists : Lists s listed Commits
  pub by_plan : IsPlanned run_spelled (s.run.history listed) (held_at s.run listed) from to limits plan

-- a consolidation with the key merged so many fragments into one of its own: those that its plan takes.
-- Once it put the `.wrt` of that one, after the listing that it planned by, it was committed.
-- All that went into a source went into it, and nothing else.
-- Its `.vac` named the sources, and what the `.vac` objects of these named.
pub record MergedSo (s : Span) (k : Key) (from to : ℕ) (limits : Limits) (f : FragKey) (count : ℕ) : Type 0 where
  pub sources : List FragKey
  pub plans : PlannedSo s from to limits (Take sources)
  pub counted : count ≡ length sources
  pub own : f.id ≡ k.id
  pub put : ℕ
  pub puts : Makes s put (call.Put (wrt_of f) [])
  pub order : plans.listed < put
  pub committed : IsCommitted (held_at s.run (put + 1)) f
  pub piece : Piece
  pub holds : HoldsIn run_spelled (s.run.history (put + 1)) (held_at s.run (put + 1)) f piece
  pub origins : (w : Key) → has_origin w piece.head ≡ list_any (has_origin w) (filter (λ head. is_among head.frag sources) plans.by_plan.heads)
  pub vac : Names (held_at s.run (put + 1)) f (names_merged plans.by_plan.vacs sources)

-- a vacuum found these `.vac` objects: those of the fragments that were committed as it listed the commits
abbrev pub FoundVacs : Span → ℕ → List VacOf → Type 0
FoundVacs s n vacs = Lists s n Commits × AreAllVacs (held_at s.run n) vacs

-- the removal set of a vacuum has so many fragments: all that the `.vac` objects name which it found, also those that were gone already.
-- It removed each of their objects and each of these `.vac` objects.
-- One that no call of it removed was not held at some time from its listing of the commits to its end.
pub record VacuumedSo (s : Span) (count : ℕ) : Type 0 where
  pub listed : ℕ
  pub vacs : List VacOf
  pub found : FoundVacs s listed vacs
  pub counted : count ≡ length (removal_set vacs)
  pub gone : (x : Name) → IsSwept vacs x → WasGone s listed x

-- the leases that an unlock of a seed and a lane takes for dead, of those that were held at a time
abbrev pub dead_at : Span → ℕ → ℕ → ℕ → List Name
dead_at s seed lane n = leases_unlocked seed lane (names_under Leases (held_at s.run n))

-- an unlock of a seed and a lane removed so many leases: those that it takes for dead, of those that were held as it listed them
pub record UnlockedSo (s : Span) (seed lane count : ℕ) : Type 0 where
  pub listed : ℕ
  pub lists : Lists s listed Leases
  pub counted : count ≡ length (dead_at s seed lane listed)
  pub removed : (x : Name) → Contains (dead_at s seed lane listed) x → DidRemove s x

-- ---- refusals

-- one of the command's calls failed, which speaks of this object or prefix
abbrev pub OwnFailed : Span → Place → Type 0
OwnFailed s p = (n : ℕ) × (c : Made) × (slice_get s.run.calls n ≡ Some c) × (c.number ≡ s.number) × (p ≡ place_of c.entry.call) × (c.entry.fate ≢ fate.Done)

-- a lease was in the way: of those that were held as the command listed them this one was the first that opposes the command's own
abbrev pub WasOpposed : Span → Key → Command → Name → Type 0
WasOpposed s k command other =
    (n : ℕ) × Lists s n Leases × (mode : LeaseMode) × (mode_of command ≡ Some mode) × (verdict_in (names_under Leases (held_at s.run n)) (name.Lease k mode) ≡ Opposed other)

-- the cause of a refusal, at times of the command.
-- A create finds another frame than its own as it gets the frame, or a schema as it lists them, or is refused for itself.
-- An unlock and a list of the commits are refused for failed calls alone.
-- Another command finds no schema as it lists them, or a lease in its way, or is refused in the frame and the schema there.
-- A consolidation that has nothing to do found a schema at its stamp, and its plan takes nothing, where so many fragments may be merged.
abbrev pub HadCause : Span → Key → Refusal → Command → Type 0
HadCause s k refusal.ArrayExists (Create made) =
    ((n : ℕ) × Makes s n get_frame × (frame : Frame) × (frame_in (s.run.history n) ≡ Some frame) × (frame ≢ frame_made made))
    ⊎ ((n : ℕ) × Lists s n Schemas × (declared : Schema) × Contains (schemas (s.run.history n)) declared)
HadCause s k r (Create made) = create_refusal made ≡ Some r
HadCause s k r (Unlock seed lane) = ⊥
HadCause s k r Fragments = ⊥
HadCause s k (refusal.NoSchema at) command = (at ≡ looks_for k command) × ((n : ℕ) × Lists s n Schemas × (current_schema (s.run.history n) at ≡ None))
HadCause s k (refusal.Leased other) command = WasOpposed s k command other
HadCause s k (refusal.NothingToDo eligible) (Consolidate from to limits) = FoundSchema s k.t × PlannedSo s from to limits (Nothing eligible)
HadCause s k r command =
    (n : ℕ) × Lists s n Schemas × (current : Schema) × (current_schema (s.run.history n) (looks_for k command) ≡ Some current)
    × (frame : Frame) × (frame_in (s.run.history n) ≡ Some frame) × (refusal_in frame current.attrs command ≡ Some r)

-- what a refusal tells.
-- No object is missing, damaged or taken.
-- Where a call failed, the history has no deed of the command, but perhaps that of the put that failed.
-- A command that is refused else did no deed, for a cause.
abbrev pub ToldRefusal : Span → Key → Command → Refusal → Type 0
ToldRefusal s k command (refusal.Missing n) = ⊥
ToldRefusal s k command (refusal.Damaged n at) = ⊥
ToldRefusal s k command (refusal.Taken n) = ⊥
ToldRefusal s k command (refusal.StoreFault p) = OwnFailed s p × (IsNewKey (now s) k ⊎ Contains (own_faults k command) (refusal.StoreFault p))
ToldRefusal s k command r = DidNone s × IsNewKey (now s) k × HadCause s k r command

-- ---- deeds

-- a deed that a command with the key may do by its call at a time
abbrev pub IsDeedAt : Span → ℕ → Key → Command → Deed → Type 0
IsDeedAt s n k (Create made) (Framed frame) = (create_refusal made ≡ None) × (frame ≡ frame_made made)
IsDeedAt s n k (Create made) (Declared new) = FoundNoArray s n made × (create_refusal made ≡ None) × (new ≡ record { key = k; attrs = made.attrs })
IsDeedAt s n k (Evolve change) (Declared new) =
    (current : Schema) × HeldAsListed s n k current × (frame : Frame) × (frame_in (s.run.history n) ≡ Some frame)
    × (evolution_fault frame.domain current.attrs change ≡ None) × (new ≡ record { key = k; attrs = evolved_attrs current.attrs change })
IsDeedAt s n k (Write columns) (Wrote w) =
    (current : Schema) × HeldAsListed s n k current × (frame : Frame) × (frame_in (s.run.history n) ≡ Some frame)
    × (cells : List Cell) × (laid frame current.attrs columns ≡ Ok cells) × (w ≡ record { key = k; schema = current.key; cells = cells })
IsDeedAt s n k (Delete text) (Erased e) =
    (current : Schema) × HeldAsListed s n k current × (frame : Frame) × (frame_in (s.run.history n) ≡ Some frame)
    × (condition : Condition) × (delete_condition frame current.attrs text ≡ Ok condition) × (e ≡ record { key = k; cond = condition })
IsDeedAt s n k _ _ = ⊥

-- the end of a command with the key tells of its deed, which the history has as the command ended.
-- A create and an evolve tell of a schema, a write and a delete of their own.
abbrev pub HasDoneSo : Span → Key → Outcome → Command → Type 0
HasDoneSo s k outcome.Created (Create made) =
    FoundNoArray s s.to made × (create_refusal made ≡ None) × (frame_in (now s) ≡ Some (frame_made made)) × (schema_with (now s) k ≡ Some (record { key = k; attrs = made.attrs }))
HasDoneSo s k (outcome.Evolved n) (Evolve change) =
    (n ≡ k) × (current : Schema) × HeldAsListed s s.to k current × (frame : Frame) × (frame_in (now s) ≡ Some frame)
    × (evolution_fault frame.domain current.attrs change ≡ None) × (schema_with (now s) k ≡ Some (record { key = k; attrs = evolved_attrs current.attrs change }))
HasDoneSo s k (outcome.Written f) (Write columns) =
    (f ≡ frag_of k) × (current : Schema) × HeldAsListed s s.to k current × (frame : Frame) × (frame_in (now s) ≡ Some frame)
    × (cells : List Cell) × (laid frame current.attrs columns ≡ Ok cells) × Contains (writes (now s)) (record { key = k; schema = current.key; cells = cells })
HasDoneSo s k (outcome.Deleted f) (Delete text) =
    (f ≡ frag_of k) × (current : Schema) × HeldAsListed s s.to k current × (frame : Frame) × (frame_in (now s) ≡ Some frame)
    × (condition : Condition) × (delete_condition frame current.attrs text ≡ Ok condition) × Contains (deletions (now s)) (record { key = k; cond = condition })
HasDoneSo s k _ _ = ⊥

-- ---- ends

-- what the end of a command with the key tells of the times of the command.
-- A read, a consolidation, a vacuum, an unlock and a list of the commits do no deed.
-- A read answers by its listings.
-- A consolidation tells what it merged, a vacuum and an unlock what they removed, and a list of the commits those that were held as it listed them.
-- A read, a consolidation and a vacuum that ended well leave no lease.
-- A command that ran short of memory has no deed of its key.
abbrev pub ToldSo : Span → Key → Outcome → Command → Type 0
ToldSo s k (outcome.Read answer) (Read from to query) = DidNone s × Answered s from to query answer × LeftNoLease s k (Read from to query)
ToldSo s k outcome.Created command = HasDoneSo s k outcome.Created command
ToldSo s k (outcome.Evolved n) command = HasDoneSo s k (outcome.Evolved n) command
ToldSo s k (outcome.Written f) command = HasDoneSo s k (outcome.Written f) command
ToldSo s k (outcome.Deleted f) command = HasDoneSo s k (outcome.Deleted f) command
ToldSo s k (outcome.Consolidated f count) (Consolidate from to limits) = DidNone s × IsNewKey (now s) k × FoundSchema s k.t × MergedSo s k from to limits f count × LeftNoLease s k (Consolidate from to limits)
ToldSo s k (outcome.Vacuumed count) Vacuum = DidNone s × IsNewKey (now s) k × FoundSchema s k.t × VacuumedSo s count × LeftNoLease s k Vacuum
ToldSo s k (outcome.Unlocked count) (Unlock seed lane) = DidNone s × IsNewKey (now s) k × UnlockedSo s seed lane count
ToldSo s k (outcome.Listed names) Fragments = DidNone s × IsNewKey (now s) k × ((n : ℕ) × Lists s n Commits × (names ≡ names_under Commits (held_at s.run n)))
ToldSo s k (outcome.Refused r) command = ToldRefusal s k command r
ToldSo s k outcome.OutOfMemory command = IsNewKey (now s) k
ToldSo s k _ _ = ⊥

-- how a command came out tells the truth: its end does, and one that was stopped was to be stopped
abbrev pub CameOutSo : Span → Key → Stop → Driven Outcome → Command → Type 0
CameOutSo s k stops (Done end) command = ToldSo s k end command
CameOutSo s k stops Stopped command = stops ≢ stop.Never

-- a vacuum may remove the object at a time: it is one that it sweeps where it finds the `.vac` objects that it found before
abbrev pub IsToSweepAt : Span → ℕ → Name → Type 0
IsToSweepAt s n x = (listed : ℕ) × (listed < n) × (vacs : List VacOf) × FoundVacs s listed vacs × IsSwept vacs x

-- an unlock may remove the lease at a time: it takes it for dead, of those that it listed before
abbrev pub IsToUnlockAt : Span → ℕ → ℕ → ℕ → Name → Type 0
IsToUnlockAt s seed lane n x = (listed : ℕ) × (listed < n) × Lists s listed Leases × Contains (dead_at s seed lane listed) x

-- a command with the key was done, to its end or to where it was stopped.
-- Each of its calls appended no deed, or one that it may do by that call.
pub record WasDone (s : Span) (k : Key) (stops : Stop) (result : Driven Outcome) (command : Command) : Type 0 where
  pub span : IsSpan s
  pub deeds : (n : ℕ) → IsCall s n → (s.run.history (n + 1) ≡ s.run.history n) ⊎ ((d : Deed) × (s.run.history (n + 1) ≡ s.run.history n ++ d ∷ []) × IsDeedAt s n k command d)
  pub tells : CameOutSo s k stops result command
  -- no call of another command than a vacuum takes away an object that is no lease
  pub stays : (command ≡ Vacuum → ⊥) → (n : ℕ) → IsCall s n → HeldSince (held_at s.run n) (held_at s.run (n + 1))
  -- each call of a vacuum leaves each object as it was, but its lease and those that it may remove
  pub sweeps : command ≡ Vacuum → LeftOthers s k command (IsToSweepAt s)
  -- each call of an unlock leaves each object as it was, but the leases that it takes for dead
  pub unlocks : (seed lane : ℕ) → command ≡ Unlock seed lane → LeftOthers s k command (IsToUnlockAt s seed lane)
  -- each call of any other command leaves each object as it was, but those that carry its identifier, and the frame that a create puts
  pub puts : RemovesNone command → LeftOthers s k command (λ n. IsOwn k command)
  -- each call of a read and of a list of the commits leaves each object as it was, but a lease of their own
  pub looks : OnlyLooks command → LeftAll s k command
  -- a read, to its end or not, made few gets, by the fragments, the `.vac` objects and the deletes that were held as it listed the commits
  pub gets : (from to : ℕ) (query : Query) → command ≡ Read from to query → MadeFewGets s from to query
  -- each call of one that is refused for no fault leaves each object as it was, but its lease
  pub idle : (r : Refusal) → result ≡ Done (outcome.Refused r) → IsNoFault r → LeftAll s k command
