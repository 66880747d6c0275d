-- What a run promises whose commands come one after the other: what its printed text and the end of each command mean, in words of the history.
use Rattle.std.specs.Prelude.{◌≡◌, ◌≢◌, ℕ, ◌+◌, ◌≤◌, Bool, false, List, [], ◌∷◌, ◌++◌, Option, Some, None, Ok, option_map, length, slice_get, All, Contains, IfSome, ⊤, ◌⊎◌, map as list_map}
use Rattle.std.specs.Io.KnownBytes.{Appends}
use Rattle.std.specs.FinMap as map
use Rattle.ts_base.specs.Held.{Held}
use Rattle.ts_base.specs.declared.keys.Key.{Key}
use Rattle.ts_base.specs.declared.heads.Cell.{Cell}
use Rattle.ts_base.specs.declared.heads.Stop.{Stop}
use Rattle.ts_base.specs.declared.heads.Stop.TheVariants as stop
use Rattle.ts_base.specs.Keys.{frag_of}
use Rattle.ts_base.specs.declared.names.Name.{Name}
use Rattle.ts_base.specs.declared.names.Name.TheVariants as name
use Rattle.ts_base.specs.declared.names.Prefix.TheVariants.{Commits}
use Rattle.ts_store.specs.declared.journal.Entry.{Entry}
use Rattle.ts_store.specs.Calls.{names_under}
use Rattle.ts_store.specs.Journals.{held_after}
use Rattle.ts_store.specs.Streams.{AppendsFront}
use Rattle.ts_schema.specs.declared.frames.Frame.{Frame}
use Rattle.ts_schema.specs.declared.schemas.Schema.{Schema}
use Rattle.ts_schema.specs.Evolutions.{evolved_attrs, evolution_fault}
use Rattle.ts_cond.specs.Tests.{Condition}
use Rattle.ts_cond.specs.declared.query.Query.{Query}
use Rattle.ts_model.specs.declared.commands.Line.{Line}
use Rattle.ts_model.specs.declared.commands.Command.{Command}
use Rattle.ts_model.specs.declared.commands.Command.TheVariants.{Create, Evolve, Write, Read, Delete, Consolidate, Vacuum, Unlock, Fragments}
use Rattle.ts_model.specs.declared.answers.Answer.{Answer}
use Rattle.ts_model.specs.declared.answers.Outcome.{Outcome}
use Rattle.ts_model.specs.declared.answers.Outcome.TheVariants as outcome
use Rattle.ts_model.specs.declared.answers.Refusal.{Refusal}
use Rattle.ts_model.specs.declared.answers.Driven.{Driven}
use Rattle.ts_model.specs.declared.answers.Driven.TheVariants.{Done, Stopped}
use Rattle.ts_model.specs.declared.deeds.Deed.{Deed}
use Rattle.ts_model.specs.declared.deeds.Deed.TheVariants.{Framed, Declared, Wrote, Erased}
use Rattle.ts_model.specs.Answers.{IsWhole}
use Rattle.ts_model.specs.Deeds.{History, frame_in, schemas, schema_with, current_schema, writes, deletions, IsNewKey}
use Rattle.ts_model.specs.Commands.{create_refusal, frame_made, laid}
use Rattle.ts_model.specs.Queries.{delete_condition}
use Rattle.ts_model.specs.Stages.{mode_of}
use Rattle.ts_model.specs.Stops.{is_point}
use Rattle.ts_law.specs.Bounds.{FewGets, gets_among}
use Rattle.ts_law.specs.Changes.{IsOwn, OnlyLooks, RemovesNone}
use Rattle.ts_law.specs.Ends.{IsAnswerOver}
use Rattle.ts_law.specs.Fresh.{IsStampOf, Numbered, command_at, id_of, in_lane_order}
use Rattle.ts_law.specs.Refusals.{IsNoFault}
use Rattle.ts_law.specs.Since.{HeldSince}
use Rattle.ts_law.specs.Stands.{EachInItsOwn, Stands}
use Rattle.ts_law.specs.Sweeps.{IsNoVacuum}
use Rattle.ts_top.specs.Causes.{TellsRefusal}
use Rattle.ts_script.specs.declared.words.Asked.{Asked}
use Rattle.ts_script.specs.Words.{asked}
use Rattle.ts_script.specs.Meanings.{report_of}
use Rattle.ts_top.specs.Reports.{report_text}
use Rattle.ts_top.specs.Merges.{Calls, Merged, held_by}
use Rattle.ts_top.specs.Runners.{run_most, run_spelled}
use Rattle.ts_top.specs.Seen.{Seen, Means}
use Rattle.ts_top.specs.Sweeps.{MaySweep, Unlocked, Vacuumed, dead_leases}

-- a history goes on from another: deeds came after it
abbrev pub Extends : History → History → Type 0
Extends sooner later = (deeds : List Deed) × (later ≡ sooner ++ deeds)

-- a schema held at the stamp of a command with the key, at some time while the history went from `before` to `now`, when it had no deed of the command
abbrev pub HeldOnce : History → History → Key → Schema → Type 0
HeldOnce before now k schema = (once : History) × Extends before once × Extends once now × IsNewKey once k × (current_schema once k.t ≡ Some schema)

-- at the end of its calls no lease of a command with the key is held
abbrev pub HasNoLease : Calls → Key → Command → Type 0
HasNoLease calls k command = IfSome (mode_of command) (λ mode. map.get (held_by calls calls.entries) (name.Lease k mode) ≡ None)

-- at the end of its calls each object is as it was before them, but the lease of a command with the key
abbrev pub LeavesAll : Calls → Key → Command → Type 0
LeavesAll calls k command = (n : Name) → (option_map (name.Lease k) (mode_of command) ≡ Some n → ⊥) → map.get (held_by calls calls.entries) n ≡ map.get calls.opening n

-- the same, but also for objects of a kind
abbrev pub LeavesOthers : Calls → Key → Command → (Name → Type 0) → Type 0
LeavesOthers calls k command kind = (n : Name) → (option_map (name.Lease k) (mode_of command) ≡ Some n → ⊥) → (map.get (held_by calls calls.entries) n ≡ map.get calls.opening n) ⊎ kind n

-- the answer to a read of [from, to]: over the fragments that were committed after some front of its calls.
-- It names those that are clipped, and is that of the history without its clipped writes.
-- Where it names none, it is that of the whole history.
pub record Answers (calls : Calls) (h : History) (from to : ℕ) (query : Query) (answer : Answer) : Type 0 where
  pub front : List Entry
  pub back : List Entry
  pub parts : calls.entries ≡ front ++ back
  pub over : IsAnswerOver run_spelled h (held_by calls front) h from to query answer

-- the end of a command with the key tells of its deed, which is done between two histories: a create and an evolve of a schema, a write and a delete of their own
abbrev pub HasDone : History → History → Key → Outcome → Command → Type 0
HasDone before now k outcome.Created (Create made) =
    (schemas before ≡ []) × (create_refusal made ≡ None) × (frame_in now ≡ Some (frame_made made)) × (schema_with now k ≡ Some (record { key = k; attrs = made.attrs }))
HasDone before now k (outcome.Evolved n) (Evolve change) =
    (n ≡ k) × (current : Schema) × HeldOnce before now k current × (frame : Frame) × (frame_in now ≡ Some frame)
    × (evolution_fault frame.domain current.attrs change ≡ None) × (schema_with now k ≡ Some (record { key = k; attrs = evolved_attrs current.attrs change }))
HasDone before now k (outcome.Written f) (Write columns) =
    (f ≡ frag_of k) × (current : Schema) × HeldOnce before now k current × (frame : Frame) × (frame_in now ≡ Some frame)
    × (cells : List Cell) × (laid frame current.attrs columns ≡ Ok cells) × Contains (writes now) (record { key = k; schema = current.key; cells = cells })
HasDone before now k (outcome.Deleted f) (Delete text) =
    (f ≡ frag_of k) × (current : Schema) × HeldOnce before now k current × (frame : Frame) × (frame_in now ≡ Some frame)
    × (condition : Condition) × (delete_condition frame current.attrs text ≡ Ok condition) × Contains (deletions now) (record { key = k; cond = condition })
HasDone before now k _ _ = ⊥

-- what the end of a command with the key tells of the histories before and after it.
-- A read, a consolidation, a vacuum, an unlock and a list of the commits do no deed.
-- A read answers by the one history.
-- A consolidation tells what it merged, a vacuum and an unlock what they removed, and a list of the commits those that were held before its calls.
-- A read, a consolidation and a vacuum that ended well leave no lease.
-- A command that ran short of memory has no deed of its key.
abbrev pub Tells : Calls → History → History → Key → Outcome → Command → Type 0
Tells calls before now k (outcome.Read answer) (Read from to query) = Answers calls now from to query answer × HasNoLease calls k (Read from to query)
Tells calls before now k outcome.Created command = HasDone before now k outcome.Created command
Tells calls before now k (outcome.Evolved n) command = HasDone before now k (outcome.Evolved n) command
Tells calls before now k (outcome.Written f) command = HasDone before now k (outcome.Written f) command
Tells calls before now k (outcome.Deleted f) command = HasDone before now k (outcome.Deleted f) command
Tells calls before now k (outcome.Consolidated f count) (Consolidate from to limits) =
    (now ≡ before) × IsNewKey now k × (current : Schema) × (current_schema now k.t ≡ Some current) × Merged calls now k from to limits f count × HasNoLease calls k (Consolidate from to limits)
Tells calls before now k (outcome.Vacuumed count) Vacuum = (now ≡ before) × IsNewKey now k × (current : Schema) × (current_schema now k.t ≡ Some current) × Vacuumed calls count × HasNoLease calls k Vacuum
Tells calls before now k (outcome.Unlocked count) (Unlock seed lane) = (now ≡ before) × IsNewKey now k × Unlocked calls seed lane count
Tells calls before now k (outcome.Listed names) Fragments = (now ≡ before) × IsNewKey now k × (names ≡ names_under Commits calls.opening)
Tells calls before now k (outcome.Refused r) command = TellsRefusal calls before now k command r
Tells calls before now k outcome.OutOfMemory command = IsNewKey now k
Tells calls before now k _ _ = ⊥

-- a deed that a command with the key may do, where the history was `before` as the command began and is `h` as it does the deed
abbrev pub IsDeedOf : History → History → Key → Command → Deed → Type 0
IsDeedOf before h k (Create made) (Framed frame) = (create_refusal made ≡ None) × (frame ≡ frame_made made)
IsDeedOf before h k (Create made) (Declared s) = (schemas before ≡ []) × (create_refusal made ≡ None) × (s ≡ record { key = k; attrs = made.attrs })
IsDeedOf before h k (Evolve change) (Declared s) =
    (current : Schema) × HeldOnce before h k current × (frame : Frame) × (frame_in h ≡ Some frame)
    × (evolution_fault frame.domain current.attrs change ≡ None) × (s ≡ record { key = k; attrs = evolved_attrs current.attrs change })
IsDeedOf before h k (Write columns) (Wrote w) =
    (current : Schema) × HeldOnce before h k current × (frame : Frame) × (frame_in h ≡ Some frame)
    × (cells : List Cell) × (laid frame current.attrs columns ≡ Ok cells) × (w ≡ record { key = k; schema = current.key; cells = cells })
IsDeedOf before h k (Delete text) (Erased e) =
    (current : Schema) × HeldOnce before h k current × (frame : Frame) × (frame_in h ≡ Some frame)
    × (condition : Condition) × (delete_condition frame current.attrs text ≡ Ok condition) × (e ≡ record { key = k; cond = condition })
IsDeedOf before h k _ _ = ⊥

-- how a command came out tells the truth: its end does, and one that was stopped was to be stopped
abbrev pub CameOut : Calls → History → History → Key → Stop → Driven Outcome → Command → Type 0
CameOut calls before now k stops (Done end) command = Tells calls before now k end command
CameOut calls before now k stops Stopped command = stops ≢ stop.Never

-- a command was done, to its end or to where it was stopped: each deed that came is one of it, over the history before the deed
pub record IsDone (calls : Calls) (before now : History) (k : Key) (stops : Stop) (result : Driven Outcome) (command : Command) : Type 0 where
  pub deeds : List Deed
  pub goes_on : now ≡ before ++ deeds
  pub own : (front back : List Deed) (d : Deed) → deeds ≡ front ++ d ∷ back → IsDeedOf before (before ++ front) k command d
  pub tells : CameOut calls before now k stops result command
  -- all but a vacuum keep each object that is no lease
  pub stays : (command ≡ Vacuum → ⊥) → HeldSince calls.opening (held_by calls calls.entries)
  -- a vacuum, to its end or not, leaves each object as it was, but its lease and those that it may remove
  pub sweeps : command ≡ Vacuum → LeavesOthers calls k command (MaySweep calls)
  -- an unlock, to its end or not, leaves each object as it was, but the leases that it takes for dead
  pub unlocks : (seed lane : ℕ) → command ≡ Unlock seed lane → LeavesOthers calls k command (Contains (dead_leases calls seed lane))
  -- any other command, to its end or not, leaves each object as it was, but those that carry its identifier, and the frame that a create puts
  pub puts : RemovesNone command → LeavesOthers calls k command (IsOwn k command)
  -- a read and a list of the commits, to their end or not, leave each object as it was, but a lease of their own
  pub looks : OnlyLooks command → LeavesAll calls k command
  -- a read, to its end or not, makes few gets, by the fragments, the `.vac` objects and the deletes that were held before its calls
  pub gets : (from to : ℕ) (query : Query) → command ≡ Read from to query → FewGets run_spelled run_most now calls.opening from to query (gets_among (list_map (λ e. e.call) calls.entries))
  -- one that is refused for no fault leaves each object as it was, but its lease
  pub idle : (r : Refusal) → result ≡ Done (outcome.Refused r) → IsNoFault r → LeavesAll calls k command

-- none of the calls is one at which the command was to be stopped: they are no more than so many, or none is of that kind
abbrev pub KeepsStop : Stop → Calls → Type 0
KeepsStop stop.Never calls = ⊤
KeepsStop (stop.Calls most) calls = length calls.entries ≤ most
KeepsStop (stop.Before point) calls = All (λ e. is_point point e.call ≡ false) calls.entries

-- the command of a line was done, at a stamp of the line, by calls in the line's lane, and by none at which the line stops it.
-- Its key is that stamp, with the identifier that is made of the seed, the lane and the line's number there.
abbrev pub IsLineDone : (ℕ → Bool) → ℕ → Calls → History → History → Numbered → Driven Outcome → Type 0
IsLineDone gives seed calls before now item result =
    All (λ e. e.lane ≡ item.line.lane) calls.entries × KeepsStop item.line.stop calls
    × ((at : ℕ) × IsStampOf gives item.line at × IsDone calls before now (record { t = at; id = id_of seed item.line.lane item.number }) item.line.stop result (command_at seed item.line at))

-- the objects stand for the history, as the program spells them
abbrev pub IsStored : Held → History → Type 0
IsStored m h = Stands run_spelled m h

-- what a run of one lane promises over objects and the history that they stand for.
-- The commands that were asked for were done one after the other, and came out so: each with an end, or stopped.
-- After each of them the objects stand for the history, and the store holds those after the last.
-- What was printed tells the ends, with status 0 or 6, or is a front of that.
pub record Promise {S : Type 0} (held : S → Option Held) (seen : Seen S) (m : Held) (past : History) : Type 0 where
  pub job : Asked
  pub asks : asked seen.words ≡ Some job
  pub lines : List Line
  pub means : Means job seen.input.old (Ok lines)
  pub ends : List (Driven Outcome)
  pub one_each : length ends ≡ length lines
  -- the history after so many commands, and the journal up to there
  pub after : ℕ → History
  pub made : ℕ → List Entry
  pub first : (after 0 ≡ past) × (made 0 ≡ [])
  pub last : made (length ends) ≡ seen.journal
  pub done : (i : ℕ) (item : Numbered) (end : Driven Outcome) → slice_get (in_lane_order lines) i ≡ Some item → slice_get ends i ≡ Some end
      → (calls : List Entry) × (made (i + 1) ≡ made i ++ calls) × IsLineDone seen.gives seen.seed (record { opening = held_after m (made i); entries = calls }) (after i) (after (i + 1)) item end
  -- without a vacuum no answer is clipped, where at the beginning each write is in its own fragment, as from nothing
  pub unclipped : EachInItsOwn run_spelled m past → All IsNoVacuum lines → (i : ℕ) (answer : Answer) → slice_get ends i ≡ Some (Done (outcome.Read answer)) → IsWhole answer
  -- after each command, also a stopped one, the objects stand for the history
  pub stood : (i : ℕ) → i ≤ length ends → IsStored (held_after m (made i)) (after i)
  pub stored : (held seen.later ≡ Some (held_after m seen.journal)) × IsStored (held_after m seen.journal) (after (length ends))
  pub front : AppendsFront seen.out.old seen.out.new (report_text (report_of job) (in_lane_order lines) ends)
  pub whole : (seen.status ≡ 0) ⊎ (seen.status ≡ 6) → Appends seen.out.old seen.out.new (report_text (report_of job) (in_lane_order lines) ends)
