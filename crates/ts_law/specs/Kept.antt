-- What every call of a job keeps: the objects stand for the history, and what each job found so far is true of both.
use Rattle.std.specs.Prelude.{◌≡◌, ℕ, ℤ, ◌<◌, ◌≤◌, true, false, List, [], ◌∷◌, ◌++◌, Some, None, length, slice_get, Ok, IsSome, All, Contains, ⊤, ◌⊎◌, take, filter, option_map, map as list_map}
use Rattle.ts_base.specs.declared.keys.Key.{Key}
use Rattle.ts_base.specs.declared.keys.FragKey.{FragKey}
use Rattle.ts_base.specs.declared.names.Name.{Name}
use Rattle.ts_base.specs.declared.heads.Version.{Version}
use Rattle.ts_base.specs.declared.heads.Head.{Head}
use Rattle.ts_base.specs.declared.heads.Piece.{Piece}
use Rattle.ts_base.specs.declared.heads.Cell.{Cell}
use Rattle.ts_store.specs.declared.call.Call.{Call}
use Rattle.ts_model.specs.declared.commands.Command.{Command}
use Rattle.ts_model.specs.declared.commands.Job.{Job}
use Rattle.ts_model.specs.declared.commands.FrameIn.{FrameIn}
use Rattle.ts_model.specs.declared.commands.WriteIn.{WriteIn}
use Rattle.ts_model.specs.declared.answers.Outcome.{Outcome}
use Rattle.ts_model.specs.declared.states.State.{State}
use Rattle.ts_model.specs.declared.states.Stage.{Stage}
use Rattle.ts_model.specs.declared.states.Stage.TheVariants.{PutsLease, ListsLeases, Releases}
use Rattle.ts_model.specs.declared.states.Stage.TheVariants as stages
use Rattle.ts_model.specs.declared.states.Creating.{Creating}
use Rattle.ts_model.specs.declared.states.Seeking.{Seeking}
use Rattle.ts_model.specs.declared.states.Collecting.{Collecting}
use Rattle.ts_model.specs.declared.states.Merging.{Merging}
use Rattle.ts_model.specs.declared.states.Merging.TheVariants as merging
use Rattle.ts_model.specs.declared.states.Sweeping.{Sweeping}
use Rattle.ts_model.specs.declared.states.Sweeping.TheVariants as sweeping
use Rattle.ts_model.specs.declared.states.Candidates.{Candidates}
use Rattle.ts_model.specs.declared.states.Survey.{Survey}
use Rattle.ts_schema.specs.declared.attrs.Attr.{Attr}
use Rattle.ts_schema.specs.Wants.{taken}
use Rattle.ts_commit.specs.declared.vacs.Limits.{Limits}
use Rattle.ts_commit.specs.declared.vacs.Planned.TheVariants as planned
use Rattle.ts_commit.specs.Plans.{is_inside}
use Rattle.ts_model.specs.declared.states.NewObject.{NewObject}
use Rattle.ts_model.specs.declared.states.Opened.{Opened}
use Rattle.ts_model.specs.declared.states.Reading.{Reading}
use Rattle.ts_model.specs.declared.states.Listed.{Listed}
use Rattle.ts_model.specs.declared.deeds.Deletion.{Deletion}
use Rattle.ts_schema.specs.declared.frames.Frame.{Frame}
use Rattle.ts_schema.specs.declared.schemas.Schema.{Schema}
use Rattle.ts_schema.specs.declared.evolution.Evolution.{Evolution}
use Rattle.ts_base.specs.Keys.{frag_of, is_within}
use Rattle.ts_base.specs.Held.{Held}
use Rattle.ts_schema.specs.Evolutions.{evolved_attrs, evolution_fault, schema_at}
use Rattle.ts_schema.specs.Parts.{IsShort}
use Rattle.ts_model.specs.declared.commands.Command.TheVariants.{Create, Evolve, Write, Read, Delete, Consolidate, Vacuum, Unlock, Fragments}
use Rattle.ts_model.specs.declared.states.State.TheVariants.{Creates, Seeks, Puts, Collects, Lists, Removes, Over}
use Rattle.ts_model.specs.declared.states.State.TheVariants as states
use Rattle.ts_model.specs.declared.states.Creating.TheVariants.{PutsFrame, ComparesFrame, ListsDeclared}
use Rattle.ts_model.specs.declared.states.Seeking.TheVariants.{ListsCommits, ListsSchemas, GetsSchema, GetsFrame}
use Rattle.ts_model.specs.declared.states.Collecting.TheVariants.{GetsVacs, GetsHeads, GetsSchemas, GetsDeletes, Fetches}
use Rattle.ts_base.specs.declared.names.Prefix.TheVariants.{Commits, Leases, Schemas}
use Rattle.ts_model.specs.Told.{Told, trace_of, IsShortCall, schemas_found, held_told, history_told}
use Rattle.ts_store.specs.Calls.{names_under}
use Rattle.ts_law.specs.Fresh.{id_in, AreSpent, IsSpent}
pub use Rattle.ts_law.specs.Since.{Clean, HeldSince, Since, AreVacs}
use Rattle.ts_law.specs.Sweeps.{GetsNames, ListsAll, SweepsFrom, Vacuuming}
use Rattle.ts_law.specs.Leases.{AreLeased, IsBroken, Spares}
use Rattle.ts_cond.specs.declared.query.Query.{Query}
use Rattle.ts_cond.specs.Tests.{Condition}
use Rattle.ts_domain.specs.declared.boxes.SubBox.{SubBox}
use Rattle.ts_domain.specs.Boxes.{is_in_box}
use Rattle.ts_model.specs.Queries.{ready_in, delete_condition}
use Rattle.ts_model.specs.Used.{used_row}
use Rattle.ts_model.specs.Driven.{MayAsk}
use Rattle.ts_model.specs.States.{delete_object_of, schema_object_of, write_objects, keys_named, known_attrs, want_of, begun, committed_in, counting_in, deletes_in, heads_of, loaded_of, meets, opened_among, vac_of, all_of, frags_of, schemas_named, piece_merged, can_be_named, merge_objects}
use Rattle.ts_model.specs.Stages.{lease_of, stage_of}
use Rattle.ts_model.specs.Codecs.{Codec, Spelled, Tracking}
use Rattle.ts_model.specs.Jobs.{key_of, frag_of_job, AreFit, AreApart, looked_at, job_with}
use Rattle.ts_law.specs.Stands.{HoldsIn, IsCommitted, Stands}
use Rattle.ts_law.specs.Origins.{last_version, newest_at, wrote_in}
use Rattle.ts_commit.specs.Selections.{clipped_names, has_origin, is_among, is_clipped, is_usable, names_merged, usable}
use Rattle.ts_law.specs.Ends.{AreHeads, FindsNoArray, FindsSchema, ListedAt, IsGone, IsPlanned, IsUndone, IsTrueEnd, dead_leases}
use Rattle.ts_model.specs.Deeds.{History, frame_in, deletions, schema_with, current_schema}
use Rattle.ts_model.specs.Commands.{frame_made, create_refusal, laid}
use Rattle.ts_store.specs.declared.call.Call.TheVariants as call
use Rattle.ts_model.specs.declared.answers.Outcome.TheVariants as outcome
use Rattle.std.specs.FinMap as map

-- ---- what a job found so far

-- the schema that a job works in: at its listing of the schemas it was the one that held where the job looks, and it is a deed; no deed of the job was there
pub record Works (past : History) (jobs : List Job) (seen : List Told) (number : ℕ) (job : Job) (current : Schema) : Type 0 where
  pub schemas : ListedAt seen number Schemas
  pub undone : IsUndone (history_told jobs past schemas.before) job
  pub holds : current_schema (history_told jobs past schemas.before) (looked_at job) ≡ Some current
  pub found : List Key
  pub is_found : schemas_found (trace_of number seen) ≡ Some found
  pub at : schema_at found (looked_at job) ≡ Some current.key
  pub declared : schema_with (history_told jobs past seen) current.key ≡ Some current

-- what a read looks into of the commits that it listed
pub record LooksInto (spelled : Spelled) (opening : Held) (past : History) (jobs : List Job) (seen : List Told) (m : Held) (number from to : ℕ) (fragments counting delete_names : List FragKey) : Type 0 where
  pub since : Since spelled opening past jobs seen m number
  -- the fragments whose span meets the interval
  pub fragments_are : fragments ≡ filter (meets from to) (committed_in (names_under Commits (held_told opening (since.commits).before)))
  -- those that have a `.vac`
  pub counting_are : counting ≡ counting_in (names_under Commits (held_told opening (since.commits).before))
  -- the deletes that are stamped in the interval
  pub deletes_are : delete_names ≡ filter (meets from to) (deletes_in (names_under Commits (held_told opening (since.commits).before)))

-- what a job listed before the schemas: a read the commits, another job nothing
abbrev pub HasLooked : Spelled → Held → History → List Job → List Told → Held → ℕ → Command → Listed → Type 0
HasLooked spelled opening past jobs seen m number (Create f) listed = ⊥
HasLooked spelled opening past jobs seen m number (Consolidate from to limits) listed = ⊥
HasLooked spelled opening past jobs seen m number Vacuum listed = ⊥
HasLooked spelled opening past jobs seen m number (Unlock seed lane) listed = ⊥
HasLooked spelled opening past jobs seen m number Fragments listed = ⊥
HasLooked spelled opening past jobs seen m number (Read from to query) listed = LooksInto spelled opening past jobs seen m number from to listed.fragments listed.counting listed.delete_names
HasLooked spelled opening past jobs seen m number _ listed = ⊤

-- a read that listed the commits, and later the schemas
pub record ReadsAt (spelled : Spelled) (opening : Held) (past : History) (jobs : List Job) (seen : List Told) (m : Held) (number : ℕ) (job : Job) (from to : ℕ) (fragments counting delete_names : List FragKey) (current : Schema) : Type 0 where
  pub listed : LooksInto spelled opening past jobs seen m number from to fragments counting delete_names
  pub works : Works past jobs seen number job current
  pub between : List Told
  pub order : (works.schemas).before ≡ (listed.since.commits).before ++ (listed.since.commits).listing ∷ between

-- what a job listed before it gets the schema there
abbrev pub HasListed : Spelled → Held → History → List Job → List Told → Held → ℕ → Job → Command → Listed → Schema → Type 0
HasListed spelled opening past jobs seen m number job (Create f) listed current = ⊥
HasListed spelled opening past jobs seen m number job (Consolidate from to limits) listed current = ⊥
HasListed spelled opening past jobs seen m number job Vacuum listed current = ⊥
HasListed spelled opening past jobs seen m number job (Unlock seed lane) listed current = ⊥
HasListed spelled opening past jobs seen m number job Fragments listed current = ⊥
HasListed spelled opening past jobs seen m number job (Read from to query) listed current = ReadsAt spelled opening past jobs seen m number job from to listed.fragments listed.counting listed.delete_names current
HasListed spelled opening past jobs seen m number job _ listed current = Works past jobs seen number job current

-- a read that has the schema there and the frame
pub record ReadsIn (spelled : Spelled) (opening : Held) (past : History) (jobs : List Job) (seen : List Told) (m : Held) (number : ℕ) (job : Job) (r : Reading) : Type 0 where
  pub query : Query
  pub reads : job.command ≡ Read r.from r.to query
  pub at : ReadsAt spelled opening past jobs seen m number job r.from r.to r.fragments r.counting r.delete_names r.current
  pub framed : frame_in (history_told jobs past ((at.works).schemas).before) ≡ Some r.frame
  pub is_ready : ready_in r.frame (r.current).attrs query ≡ Ok r.ready

-- an open fragment: its head is that of its piece, and its object is that of the part with the head
pub record IsOpen {F : Type 0} (codec : Codec F) (spelled : Spelled) (g : History) (m : Held) (frame : Frame) (o : Opened) : Type 0 where
  pub piece : Piece
  pub holds : HoldsIn spelled g m o.frag piece
  pub same_frame : holds.frame ≡ frame
  pub head : o.head ≡ piece.head
  pub object : (holds.spells).look (codec.head_part frame) ≡ Some o.object

-- the first of these fragments are open
pub record AreOpen {F : Type 0} (codec : Codec F) (spelled : Spelled) (g : History) (m : Held) (frame : Frame) (fragments : List FragKey) (opened : List Opened) : Type 0 where
  pub frags : list_map (λ o. o.frag) opened ≡ take (length opened) fragments
  pub each : (o : Opened) → Contains opened o → IsOpen codec spelled g m frame o

-- a read that knows what it clips loads these fragments: each is open, and one that the read can use; each write in the interval that is not clipped went into one of them
pub record AreChosen {F : Type 0} (codec : Codec F) (spelled : Spelled) (g : History) (m : Held) (r : Reading) (chosen : List Opened) : Type 0 where
  -- it has all `.vac` objects, and opened all fragments: it loads those of them that it is to load by these
  pub are_vacs : AreVacs m r.counting r.vacs
  pub all_vacs : length r.vacs ≡ length r.counting
  pub all : List Opened
  pub are_open : AreOpen codec spelled g m r.frame r.fragments all
  pub all_open : length all ≡ length r.fragments
  pub loads : chosen ≡ opened_among (loaded_of r all) all
  pub heads : List Head
  pub are_heads : AreHeads spelled g m r.from r.to heads
  pub clipped_is : r.clipped ≡ clipped_names r.from r.to heads
  pub each : (o : Opened) → Contains chosen o → IsOpen codec spelled g m r.frame o
  pub usable : (o : Opened) → Contains chosen o → Contains (usable r.from r.to heads) o.head
  pub covered : (k : Key) → is_within r.from r.to k ≡ true → is_clipped r.from r.to heads k ≡ false → (o : Opened) × Contains chosen o × (has_origin k o.head ≡ true)

-- the further schemas of a read are those of these keys, as far as it got them, and each is a deed
pub record AreSchemas (h : History) (keys : List Key) (schemas : List Schema) : Type 0 where
  pub keys_are : list_map (λ s. s.key) schemas ≡ take (length schemas) keys
  pub each : (s : Schema) → Contains schemas s → schema_with h s.key ≡ Some s

-- a version with the values alone that a read uses
abbrev pub used_version : Reading → List Schema → Version → Version
used_version r schemas v = record { key = v.key; schema = v.schema; coords = v.coords; row = used_row r (known_attrs r schemas v.schema) v.row }

-- these are the whole versions of which a read in a box and an interval gets its part, in the fragments with these heads
pub record AreGot (g : History) (from to : ℕ) (sub : SubBox) (heads : List Head) (got : List Version) : Type 0 where
  -- at each coordinate of the box the newest version is that of the last write in the interval that went into one of them
  pub inside : (c : List ℤ) → is_in_box sub c ≡ true → newest_at got c ≡ last_version (wrote_in g from to heads) c
  -- elsewhere there is none
  pub outside : (c : List ℤ) → is_in_box sub c ≡ false → newest_at got c ≡ None

-- of the whole versions a read got what it uses
pub record GotUsed (g : History) (r : Reading) (schemas : List Schema) (heads : List Head) (got : List Version) : Type 0 where
  pub whole : List Version
  pub are : AreGot g r.from r.to r.ready.sub heads whole
  -- at each coordinate it got the newest one, with the values that it uses
  pub uses : (c : List ℤ) → newest_at got c ≡ option_map (used_version r schemas) (newest_at whole c)

-- what was told before a read listed the commits that it looks into
abbrev pub told_before_read : {spelled : Spelled} {opening : Held} {past : History} {jobs : List Job} {seen : List Told} {m : Held} {number : ℕ} {job : Job} {r : Reading} → ReadsIn spelled opening past jobs seen m number job r → List Told
told_before_read reads = (((reads.at).listed).since.commits).before

-- the deletes that a read got are those under the first of these names, and each is a deed
pub record AreDeletions (h : History) (delete_names : List FragKey) (erased : List Deletion) : Type 0 where
  pub names_are : list_map (λ e. frag_of e.key) erased ≡ take (length erased) delete_names
  pub each : (e : Deletion) → Contains erased e → Contains (deletions h) e

-- a read that has the first of its `.vac` objects
pub record GettingVacs (spelled : Spelled) (opening : Held) (past : History) (jobs : List Job) (seen : List Told) (m : Held) (number : ℕ) (job : Job) (r : Reading) : Type 0 where
  pub reads : ReadsIn spelled opening past jobs seen m number job r
  pub are_vacs : AreVacs (held_told opening (told_before_read reads)) r.counting r.vacs

-- a read that has all `.vac` objects, and of which the first fragments are open
pub record Opening {F : Type 0} (codec : Codec F) (spelled : Spelled) (opening : Held) (past : History) (jobs : List Job) (seen : List Told) (m : Held) (number : ℕ) (job : Job) (r : Reading) (opened : List Opened) : Type 0 where
  pub reads : ReadsIn spelled opening past jobs seen m number job r
  pub are_vacs : AreVacs (held_told opening (told_before_read reads)) r.counting r.vacs
  pub all_vacs : length r.vacs ≡ length r.counting
  pub are_open : AreOpen codec spelled (history_told jobs past (told_before_read reads)) (held_told opening (told_before_read reads)) r.frame r.fragments opened

-- a read that knows what it loads, and has some of the schemas of these fragments
pub record Gathering {F : Type 0} (codec : Codec F) (spelled : Spelled) (opening : Held) (past : History) (jobs : List Job) (seen : List Told) (m : Held) (number : ℕ) (job : Job) (r : Reading) (opened : List Opened) (schemas : List Schema) : Type 0 where
  pub reads : ReadsIn spelled opening past jobs seen m number job r
  pub chosen : AreChosen codec spelled (history_told jobs past (told_before_read reads)) (held_told opening (told_before_read reads)) r opened
  pub gathered : AreSchemas (history_told jobs past seen) (keys_named r opened) schemas

-- a read that has all schemas of its fragments, and some of the deletes
pub record GettingDeletes {F : Type 0} (codec : Codec F) (spelled : Spelled) (opening : Held) (past : History) (jobs : List Job) (seen : List Told) (m : Held) (number : ℕ) (job : Job) (r : Reading) (opened : List Opened) (schemas : List Schema) : Type 0 where
  pub gathers : Gathering codec spelled opening past jobs seen m number job r opened schemas
  pub all_schemas : length schemas ≡ length (keys_named r opened)
  pub deletions : AreDeletions (history_told jobs past seen) r.delete_names r.deletions

-- a read that fetches: it has all schemas of its fragments and all deletes, and it got the versions in the fragments before the next one
pub record Fetching {F : Type 0} (codec : Codec F) (spelled : Spelled) (opening : Held) (past : History) (jobs : List Job) (seen : List Told) (m : Held) (number : ℕ) (job : Job) (r : Reading) (opened : List Opened) (schemas : List Schema) (next : ℕ) (got : List Version) : Type 0 where
  pub deletes_found : GettingDeletes codec spelled opening past jobs seen m number job r opened schemas
  pub all_deletes : length r.deletions ≡ length r.delete_names
  pub found : GotUsed (history_told jobs past ((((((deletes_found.gathers)).reads).at).listed).since.commits).before) r schemas (heads_of (take next opened)) got

-- the fetch of a fragment, which the read can use, has come so far on its parts
pub record OnWay {F : Type 0} (spelled : Spelled) (tracks : Tracking F) (g : History) (m : Held) (r : Reading) (frag : FragKey) (fetch : F) (c : Call) : Type 0 where
  pub piece : Piece
  pub holds : HoldsIn spelled g m frag piece
  pub same_frame : holds.frame ≡ r.frame
  pub usable : is_usable r.from r.to piece.head ≡ true
  pub way : tracks r.frame holds.schema piece (holds.spells).look (want_of r (holds.schema).attrs) fetch c

-- ---- what a consolidation found so far

-- what a consolidation chooses from, of the commits that it listed
pub record ChoosesFrom (spelled : Spelled) (opening : Held) (past : History) (jobs : List Job) (seen : List Told) (m : Held) (number from to : ℕ) (fragments counting : List FragKey) : Type 0 where
  pub since : Since spelled opening past jobs seen m number
  -- the fragments in the interval
  pub fragments_are : fragments ≡ filter (is_inside from to) (committed_in (names_under Commits (held_told opening (since.commits).before)))
  -- those that have a `.vac`
  pub counting_are : counting ≡ counting_in (names_under Commits (held_told opening (since.commits).before))

-- a consolidation that listed the commits
pub record Chooses (spelled : Spelled) (opening : Held) (past : History) (jobs : List Job) (seen : List Told) (m : Held) (number : ℕ) (job : Job) (c : Candidates) : Type 0 where
  pub from : ℕ
  pub to : ℕ
  pub limits : Limits
  pub merges : job.command ≡ Consolidate from to limits
  pub chooses : ChoosesFrom spelled opening past jobs seen m number from to c.fragments c.counting

-- a consolidation that found a schema at its stamp and has the frame, and the first of the `.vac` objects
pub record Surveys (spelled : Spelled) (opening : Held) (past : History) (jobs : List Job) (seen : List Told) (m : Held) (number : ℕ) (job : Job) (s : Survey) : Type 0 where
  pub merges : job.command ≡ Consolidate s.from s.to s.limits
  pub chooses : ChoosesFrom spelled opening past jobs seen m number s.from s.to s.fragments s.counting
  pub found : FindsSchema jobs past seen number job
  pub framed : frame_in (history_told jobs past seen) ≡ Some s.frame
  pub are_vacs : AreVacs (held_told opening ((chooses.since).commits).before) s.counting s.vacs

-- what was told before a consolidation listed the commits that it chooses from
abbrev pub told_before_survey : {spelled : Spelled} {opening : Held} {past : History} {jobs : List Job} {seen : List Told} {m : Held} {number : ℕ} {job : Job} {s : Survey} → Surveys spelled opening past jobs seen m number job s → List Told
told_before_survey surveys = (((surveys.chooses).since).commits).before

-- a consolidation that has all `.vac` objects, and of which the first fragments are open
pub record Opens {F : Type 0} (codec : Codec F) (spelled : Spelled) (opening : Held) (past : History) (jobs : List Job) (seen : List Told) (m : Held) (number : ℕ) (job : Job) (s : Survey) (opened : List Opened) : Type 0 where
  pub surveys : Surveys spelled opening past jobs seen m number job s
  pub all_vacs : length s.vacs ≡ length s.counting
  pub are_open : AreOpen codec spelled (history_told jobs past (told_before_survey surveys)) (held_told opening (told_before_survey surveys)) s.frame s.fragments opened

-- a consolidation of which all fragments are open, and that has some of the schemas that their heads name
pub record Learns {F : Type 0} (codec : Codec F) (spelled : Spelled) (opening : Held) (past : History) (jobs : List Job) (seen : List Told) (m : Held) (number : ℕ) (job : Job) (s : Survey) (opened : List Opened) (schemas : List Schema) : Type 0 where
  pub opens : Opens codec spelled opening past jobs seen m number job s opened
  pub all_open : length opened ≡ length s.fragments
  pub gathered : AreSchemas (history_told jobs past seen) (schemas_named opened) schemas

-- the open fragment holds this piece, in this schema
pub record IsSource {F : Type 0} (codec : Codec F) (spelled : Spelled) (g : History) (m : Held) (frame : Frame) (schema : Schema) (o : Opened) (p : Piece) : Type 0 where
  pub committed : IsCommitted m o.frag
  pub holds : HoldsIn spelled g m o.frag p
  pub same_frame : holds.frame ≡ frame
  pub same_schema : holds.schema ≡ schema
  pub head : o.head ≡ p.head
  pub object : (holds.spells).look (codec.head_part frame) ≡ Some o.object

-- so does each of these, in turn
abbrev pub AreSourcesIn : {F : Type 0} → Codec F → Spelled → History → Held → Frame → Schema → List Opened → List Piece → Type 0
AreSourcesIn codec spelled g m frame schema [] [] = ⊤
AreSourcesIn codec spelled g m frame schema (o ∷ sources) (p ∷ ps) = IsSource codec spelled g m frame schema o p × AreSourcesIn codec spelled g m frame schema sources ps
AreSourcesIn codec spelled g m frame schema _ _ = ⊥

-- a consolidation that knows its sources, which are those of its plan, all in one schema
pub record HasSources {F : Type 0} (codec : Codec F) (spelled : Spelled) (opening : Held) (past : History) (jobs : List Job) (seen : List Told) (m : Held) (number : ℕ) (job : Job) (s : Survey) (sources : List Opened) (schema : Schema) : Type 0 where
  pub surveys : Surveys spelled opening past jobs seen m number job s
  pub by_plan : IsPlanned spelled (history_told jobs past (told_before_survey surveys)) (held_told opening (told_before_survey surveys)) s.from s.to s.limits (planned.Take (frags_of sources))
  pub same_vacs : by_plan.vacs ≡ s.vacs
  pub heads : heads_of sources ≡ filter (λ head. is_among head.frag (frags_of sources)) by_plan.heads
  pub pieces : List Piece
  pub are_sources : AreSourcesIn codec spelled (history_told jobs past (told_before_survey surveys)) (held_told opening (told_before_survey surveys)) s.frame schema sources pieces
  pub declared : schema_with (history_told jobs past seen) schema.key ≡ Some schema

-- what is got of each of these pieces, in turn: all of it
abbrev pub all_taken_of : Frame → List Attr → List Piece → List (List Version)
all_taken_of frame attrs ps = list_map (λ p. taken (all_of frame attrs) p.versions) ps

-- a consolidation that has its sources, and got the versions of those before the next one
pub record Merges {F : Type 0} (codec : Codec F) (spelled : Spelled) (opening : Held) (past : History) (jobs : List Job) (seen : List Told) (m : Held) (number : ℕ) (job : Job) (s : Survey) (sources : List Opened) (schema : Schema) (next : ℕ) (got : List (List Version)) : Type 0 where
  pub has : HasSources codec spelled opening past jobs seen m number job s sources schema
  pub got_are : got ≡ all_taken_of s.frame schema.attrs (take next has.pieces)

-- the fetch of a source has come so far on its parts
pub record IsFetched {F : Type 0} (codec : Codec F) (spelled : Spelled) (tracks : Tracking F) (g : History) (m : Held) (frame : Frame) (schema : Schema) (frag : FragKey) (pieces : List Piece) (next : ℕ) (fetch : F) (c : Call) : Type 0 where
  pub source : Opened
  pub piece : Piece
  pub at : slice_get pieces next ≡ Some piece
  pub is : IsSource codec spelled g m frame schema source piece
  pub named : source.frag ≡ frag
  pub way : tracks frame schema piece ((is.holds).spells).look (all_of frame schema.attrs) fetch c

-- the objects that a consolidation puts are those of the piece that its sources are merged into, and of its `.vac`
pub record AimsToMerge {F : Type 0} (codec : Codec F) (spelled : Spelled) (opening : Held) (past : History) (jobs : List Job) (seen : List Told) (m : Held) (number : ℕ) (job : Job) (objects : List NewObject) (f : FragKey) (count : ℕ) : Type 0 where
  pub survey : Survey
  pub first : Opened
  pub others : List Opened
  pub schema : Schema
  pub got : List (List Version)
  pub merges : Merges codec spelled opening past jobs seen m number job survey (first ∷ others) schema (length (first ∷ others)) got
  pub named : f ≡ (piece_merged job survey.frame first others got).head.frag
  pub counted : count ≡ length (first ∷ others)
  pub can : can_be_named (piece_merged job survey.frame first others got) ≡ true
  pub are : objects ≡ merge_objects codec survey.frame schema (piece_merged job survey.frame first others got) (names_merged survey.vacs (frags_of (first ∷ others)))

-- ---- what an unlock found so far

-- the command makes a listing of its own, and works in no schema: it is an unlock, or `fragments`
abbrev pub MakesListing : Command → Type 0
MakesListing command = ((seed : ℕ) × (lane : ℕ) × (command ≡ Unlock seed lane)) ⊎ (command ≡ Fragments)

-- an unlock that listed the leases and removes these of them, one after the other: those before a place are gone
pub record Unlocking (opening : Held) (past : History) (jobs : List Job) (seen : List Told) (m : Held) (number : ℕ) (job : Job) (names : List Name) (next : ℕ) (end : Outcome) : Type 0 where
  pub clean : Clean opening past jobs seen m job
  pub seed : ℕ
  pub lane : ℕ
  pub unlocks : job.command ≡ Unlock seed lane
  pub leases : ListedAt seen number Leases
  pub names_are : names ≡ dead_leases seed lane opening leases.before
  pub ends : end ≡ outcome.Unlocked (length names)
  pub gone : (i : ℕ) (n : Name) → i < next → slice_get names i ≡ Some n → IsGone opening seen number n

-- ---- what a job puts

-- what the job's last put makes of it: by its end
abbrev pub Aims : {F : Type 0} → Codec F → Spelled → Held → History → List Job → List Told → Held → ℕ → Job → List NewObject → Outcome → Type 0
Aims codec spelled opening past jobs seen m number job objects outcome.Created =
    (f : FrameIn) × (job.command ≡ Create f) × (objects ≡ schema_object_of job f.attrs ∷ []) × (create_refusal f ≡ None) × (frame_in (history_told jobs past seen) ≡ Some (frame_made f))
    × FindsNoArray jobs past seen number f
Aims codec spelled opening past jobs seen m number job objects (outcome.Evolved k) =
    (change : Evolution) × (frame : Frame) × (current : Schema) × (job.command ≡ Evolve change) × (k ≡ key_of job) × (objects ≡ schema_object_of job (evolved_attrs current.attrs change) ∷ [])
    × (frame_in (history_told jobs past seen) ≡ Some frame) × (evolution_fault frame.domain current.attrs change ≡ None) × Works past jobs seen number job current
Aims codec spelled opening past jobs seen m number job objects (outcome.Written f) =
    (w : WriteIn) × (frame : Frame) × (current : Schema) × (cells : List Cell) × (job.command ≡ Write w) × (f ≡ frag_of_job job) × (objects ≡ write_objects codec frame current job cells) × (map.get m (vac_of f) ≡ None)
    × (frame_in (history_told jobs past seen) ≡ Some frame) × (laid frame current.attrs w ≡ Ok cells) × Works past jobs seen number job current
Aims codec spelled opening past jobs seen m number job objects (outcome.Deleted f) =
    (text : List ℕ) × (frame : Frame) × (current : Schema) × (condition : Condition) × (job.command ≡ Delete text) × (f ≡ frag_of_job job) × (objects ≡ delete_object_of job condition ∷ [])
    × (frame_in (history_told jobs past seen) ≡ Some frame) × (delete_condition frame current.attrs text ≡ Ok condition) × Works past jobs seen number job current
Aims codec spelled opening past jobs seen m number job objects (outcome.Consolidated f count) = AimsToMerge codec spelled opening past jobs seen m number job objects f count
Aims codec spelled opening past jobs seen m number job objects _ = ⊥

-- a job that puts objects: it put those before a place, and none from there on is held; no deed has its key, and its identifier is unspent
pub record Putting {F : Type 0} (codec : Codec F) (spelled : Spelled) (opening : Held) (past : History) (jobs : List Job) (seen : List Told) (m : Held) (number : ℕ) (job : Job) (objects : List NewObject) (next : ℕ) (end : Outcome) : Type 0 where
  pub held : (i : ℕ) (o : NewObject) → i < next → slice_get objects i ≡ Some o → map.get m o.name ≡ Some o.bytes
  pub short : (i : ℕ) (o : NewObject) → i < next → slice_get objects i ≡ Some o → IsShort o.bytes
  pub free : (i : ℕ) (o : NewObject) → next ≤ i → slice_get objects i ≡ Some o → map.get m o.name ≡ None
  pub some : next < length objects
  pub undone : IsUndone (history_told jobs past seen) job
  pub unspent : IsSpent opening past seen job.id → ⊥
  pub aims : Aims codec spelled opening past jobs seen m number job objects end

-- ---- claims

-- what the state of a create that has not come to its puts says is true
abbrev pub CreateClaims : Held → History → List Job → List Told → Held → Job → Creating → Type 0
CreateClaims opening past jobs seen m job PutsFrame =
    Clean opening past jobs seen m job × ((f : FrameIn) × (job.command ≡ Create f) × (create_refusal f ≡ None))
CreateClaims opening past jobs seen m job ComparesFrame =
    Clean opening past jobs seen m job × ((f : FrameIn) × (job.command ≡ Create f) × (create_refusal f ≡ None)) × ((frame : Frame) × (frame_in (history_told jobs past seen) ≡ Some frame))
CreateClaims opening past jobs seen m job ListsDeclared =
    Clean opening past jobs seen m job × ((f : FrameIn) × (job.command ≡ Create f) × (create_refusal f ≡ None) × (frame_in (history_told jobs past seen) ≡ Some (frame_made f)))

-- what the state of a job that seeks its schema and the frame says is true
abbrev pub SeekClaims : Spelled → Held → History → List Job → List Told → Held → ℕ → Job → Seeking → Type 0
SeekClaims spelled opening past jobs seen m number job ListsCommits = Clean opening past jobs seen m job × ((from : ℕ) × (to : ℕ) × (query : Query) × (job.command ≡ Read from to query))
SeekClaims spelled opening past jobs seen m number job (ListsSchemas listed) = Clean opening past jobs seen m job × HasLooked spelled opening past jobs seen m number job.command listed
SeekClaims spelled opening past jobs seen m number job (GetsSchema listed current) =
    Clean opening past jobs seen m job × ((s : Schema) × (s.key ≡ current) × HasListed spelled opening past jobs seen m number job job.command listed s)
SeekClaims spelled opening past jobs seen m number job (GetsFrame listed current) =
    Clean opening past jobs seen m job × HasListed spelled opening past jobs seen m number job job.command listed current

-- what the state of a read that collects says is true
abbrev pub CollectClaims : {F : Type 0} → Codec F → Spelled → Tracking F → Held → History → List Job → List Told → Held → ℕ → Job → Collecting F → Type 0
CollectClaims codec spelled tracks opening past jobs seen m number job (GetsVacs r) =
    Clean opening past jobs seen m job × GettingVacs spelled opening past jobs seen m number job r × (r.deletions ≡ [])
CollectClaims codec spelled tracks opening past jobs seen m number job (GetsHeads r opened) =
    Clean opening past jobs seen m job × Opening codec spelled opening past jobs seen m number job r opened × (r.deletions ≡ [])
CollectClaims codec spelled tracks opening past jobs seen m number job (GetsSchemas r opened keys schemas) =
    Clean opening past jobs seen m job × (keys ≡ keys_named r opened) × Gathering codec spelled opening past jobs seen m number job r opened schemas × (r.deletions ≡ [])
CollectClaims codec spelled tracks opening past jobs seen m number job (GetsDeletes r opened schemas) =
    Clean opening past jobs seen m job × GettingDeletes codec spelled opening past jobs seen m number job r opened schemas
CollectClaims codec spelled tracks opening past jobs seen m number job (Fetches r opened schemas next frag got fetch c) =
    Clean opening past jobs seen m job × (slice_get (list_map (λ o. o.frag) opened) next ≡ Some frag)
    × ((fetches : Fetching codec spelled opening past jobs seen m number job r opened schemas next got)
    × OnWay spelled tracks (history_told jobs past (((((((fetches.deletes_found).gathers)).reads).at).listed).since.commits).before)
    (held_told opening (((((((fetches.deletes_found).gathers)).reads).at).listed).since.commits).before) r frag fetch c)

-- what the state of a consolidation that has not come to its puts says is true
abbrev pub MergeClaims : {F : Type 0} → Codec F → Spelled → Tracking F → Held → History → List Job → List Told → Held → ℕ → Job → Merging F → Type 0
MergeClaims codec spelled tracks opening past jobs seen m number job merging.ListsCommits = Clean opening past jobs seen m job × ((from : ℕ) × (to : ℕ) × (limits : Limits) × (job.command ≡ Consolidate from to limits))
MergeClaims codec spelled tracks opening past jobs seen m number job (merging.ListsSchemas c) = Clean opening past jobs seen m job × Chooses spelled opening past jobs seen m number job c
MergeClaims codec spelled tracks opening past jobs seen m number job (merging.GetsFrame c) =
    Clean opening past jobs seen m job × Chooses spelled opening past jobs seen m number job c × ((frame : Frame) × (frame_in (history_told jobs past seen) ≡ Some frame)) × FindsSchema jobs past seen number job
MergeClaims codec spelled tracks opening past jobs seen m number job (merging.GetsVacs s) = Clean opening past jobs seen m job × Surveys spelled opening past jobs seen m number job s
MergeClaims codec spelled tracks opening past jobs seen m number job (merging.GetsHeads s opened) = Clean opening past jobs seen m job × Opens codec spelled opening past jobs seen m number job s opened
MergeClaims codec spelled tracks opening past jobs seen m number job (merging.GetsSchemas s opened keys schemas) =
    Clean opening past jobs seen m job × (keys ≡ schemas_named opened) × Learns codec spelled opening past jobs seen m number job s opened schemas
MergeClaims codec spelled tracks opening past jobs seen m number job (merging.Fetches s sources schema next frag got fetch c) =
    Clean opening past jobs seen m job × (slice_get (frags_of sources) next ≡ Some frag)
    × ((merges : Merges codec spelled opening past jobs seen m number job s sources schema next got)
    × IsFetched codec spelled tracks (history_told jobs past (told_before_survey (merges.has).surveys)) (held_told opening (told_before_survey (merges.has).surveys))
    s.frame schema frag (merges.has).pieces next fetch c)

-- what the state of a vacuum that has not come to its removals says is true
abbrev pub SweepClaims : Spelled → Held → History → List Job → List Told → Held → ℕ → Job → Sweeping → Type 0
SweepClaims spelled opening past jobs seen m number job sweeping.ListsCommits = Clean opening past jobs seen m job × (job.command ≡ Vacuum)
SweepClaims spelled opening past jobs seen m number job (sweeping.ListsSchemas s) = Clean opening past jobs seen m job × SweepsFrom spelled opening past jobs seen m number job s
SweepClaims spelled opening past jobs seen m number job (sweeping.GetsVacs s) = Clean opening past jobs seen m job × GetsNames spelled opening past jobs seen m number job s
SweepClaims spelled opening past jobs seen m number job (sweeping.ListsParts s set listed) = Clean opening past jobs seen m job × ListsAll spelled opening past jobs seen m number job s set listed

-- a job that removes objects is an unlock or a vacuum
abbrev pub Removing : Spelled → Held → History → List Job → List Told → Held → ℕ → Job → List Name → ℕ → Outcome → Type 0
Removing spelled opening past jobs seen m number job names next end = Unlocking opening past jobs seen m number job names next end ⊎ Vacuuming spelled opening past jobs seen m number job names next end

-- what a job's state says is true
abbrev pub Claims : {F : Type 0} → Codec F → Spelled → Tracking F → Held → History → List Job → List Told → Held → ℕ → Job → State F → Type 0
Claims codec spelled tracks opening past jobs seen m number job (Creates s) = CreateClaims opening past jobs seen m job s
Claims codec spelled tracks opening past jobs seen m number job (Seeks s) = SeekClaims spelled opening past jobs seen m number job s
Claims codec spelled tracks opening past jobs seen m number job (Puts objects next end) = Putting codec spelled opening past jobs seen m number job objects next end
Claims codec spelled tracks opening past jobs seen m number job (Collects s) = CollectClaims codec spelled tracks opening past jobs seen m number job s
Claims codec spelled tracks opening past jobs seen m number job (states.Merges s) = MergeClaims codec spelled tracks opening past jobs seen m number job s
Claims codec spelled tracks opening past jobs seen m number job Lists = Clean opening past jobs seen m job × MakesListing job.command
Claims codec spelled tracks opening past jobs seen m number job (states.Sweeps s) = SweepClaims spelled opening past jobs seen m number job s
Claims codec spelled tracks opening past jobs seen m number job (Removes names next end) = Removing spelled opening past jobs seen m number job names next end
Claims codec spelled tracks opening past jobs seen m number job (Over end) = IsTrueEnd spelled opening jobs past seen number job end

-- a job relies on its lease, or is to put it, and its work has not begun
abbrev pub IsBefore : {F : Type 0} → Codec F → Spelled → Tracking F → Held → History → List Job → List Told → Held → ℕ → Job → Name → Type 0
IsBefore codec spelled tracks opening past jobs seen m number job lease = (lease_of job ≡ Some lease) × Claims codec spelled tracks opening past jobs seen m number job (begun job.command)

-- what a job's stage says is true: before its work it is clean, but for its lease, and that it removes its lease leaves the end that it came to true
abbrev pub StageClaims : {F : Type 0} → Codec F → Spelled → Tracking F → Held → History → List Job → List Told → Held → ℕ → Job → Stage F → Type 0
StageClaims codec spelled tracks opening past jobs seen m number job (PutsLease lease) = IsBefore codec spelled tracks opening past jobs seen m number job lease × (map.get m lease ≡ None)
StageClaims codec spelled tracks opening past jobs seen m number job (ListsLeases lease) = IsBefore codec spelled tracks opening past jobs seen m number job lease
StageClaims codec spelled tracks opening past jobs seen m number job (stages.Works s) = Claims codec spelled tracks opening past jobs seen m number job s
StageClaims codec spelled tracks opening past jobs seen m number job (Releases lease end) = (lease_of job ≡ Some lease) × IsTrueEnd spelled opening jobs past seen number job end × IsUndone (history_told jobs past seen) job

-- ---- what is kept

-- the identifiers that a call's put carries are those of its own job
pub record IsOfJobs (jobs : List Job) (e : Told) : Type 0 where
  pub numbered : (number : ℕ) → e.job ≡ Some number → number < length jobs
  pub puts : (n : Name) (bytes : List ℕ) (id : ℕ) → e.call ≡ call.Put n bytes → id_in n ≡ Some id → IsSome (job_with jobs id)

-- what is kept after these calls, of which `dead` are the jobs that were dropped: from a past history and the objects that were held at the beginning to those that are held now
pub record Kept {F : Type 0} (codec : Codec F) (spelled : Spelled) (tracks : Tracking F) (opening : Held) (past : History) (jobs : List Job) (dead : List ℕ) (seen : List Told) (m : Held) : Type 0 where
  pub stands : Stands spelled m (history_told jobs past seen)
  pub is_held : m ≡ held_told opening seen
  pub spent : AreSpent opening past seen m
  pub apart : AreApart jobs
  pub fit : AreFit jobs
  pub known : All (IsOfJobs jobs) seen
  pub leased : AreLeased codec jobs dead seen m
  pub claims : (number : ℕ) (job : Job) → slice_get jobs number ≡ Some job → (Contains dead number → ⊥) → StageClaims codec spelled tracks opening past jobs seen m number job (stage_of codec job (trace_of number seen))

-- ---- which calls may come

-- the call is one that a job may make which was not dropped, and it spares the leases of other jobs
pub record IsAllowed {F : Type 0} (codec : Codec F) (jobs : List Job) (dead : List ℕ) (seen : List Told) (e : Told) : Type 0 where
  pub number : ℕ
  pub job : Job
  pub own : e.job ≡ Some number
  pub is_job : slice_get jobs number ≡ Some job
  pub alive : Contains dead number → ⊥
  pub asked : MayAsk codec job (stage_of codec job (trace_of number seen)) e.call
  pub spares : Spares codec jobs dead seen job e.call
  pub short : IsShortCall e.call

-- a call that may come: one of a job, or nobody's that breaks a lease
abbrev pub MayCome : {F : Type 0} → Codec F → List Job → List ℕ → List Told → Told → Type 0
MayCome codec jobs dead seen e = IsAllowed codec jobs dead seen e ⊎ IsBroken codec jobs dead seen e

-- the numbers of the one list are among those of the other
abbrev pub AreAmong : List ℕ → List ℕ → Type 0
AreAmong few many = (n : ℕ) → Contains few n → Contains many n

-- each of these calls may come after those before it. Jobs may be dropped before any of them: at first those of `dead` were, and in the end those of `last`
abbrev pub AreAllowed : {F : Type 0} → Codec F → List Job → List ℕ → List ℕ → List Told → List Told → Type 0
AreAllowed codec jobs dead last seen [] = AreAmong dead last
AreAllowed codec jobs dead last seen (e ∷ es) = (now : List ℕ) × AreAmong dead now × MayCome codec jobs now seen e × AreAllowed codec jobs now last (seen ++ e ∷ []) es
