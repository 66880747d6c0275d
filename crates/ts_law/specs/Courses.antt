-- The course of each job: the puts, the listings and the removals that it makes, in order, what it may look at between them, and how it may end.
use Rattle.std.specs.Prelude.{◌≡◌, ◌≢◌, ℕ, Bool, true, false, cond, List, [], ◌∷◌, ◌++◌, Option, Some, None, filter, length, nat_lt, Result, Ok, Err, IsTrue, All, Contains, ⊤, ◌⊎◌, map as list_map}
use Rattle.ts_base.specs.declared.keys.Key.{Key}
use Rattle.ts_base.specs.declared.keys.FragKey.{FragKey}
use Rattle.ts_base.specs.declared.names.Name.{Name}
use Rattle.ts_base.specs.declared.names.Part.{Part}
use Rattle.ts_base.specs.declared.heads.Cell.{Cell}
use Rattle.ts_base.specs.declared.heads.Head.{Head}
use Rattle.ts_store.specs.declared.call.Call.{Call}
use Rattle.ts_store.specs.declared.call.Reply.{Reply}
use Rattle.ts_model.specs.declared.commands.Command.{Command}
use Rattle.ts_model.specs.declared.commands.Job.{Job}
use Rattle.ts_model.specs.declared.commands.FrameIn.{FrameIn}
use Rattle.ts_model.specs.declared.commands.WriteIn.{WriteIn}
use Rattle.ts_model.specs.declared.answers.Outcome.{Outcome}
use Rattle.ts_model.specs.declared.answers.Refusal.{Refusal}
use Rattle.ts_model.specs.declared.answers.Driven.{Driven}
use Rattle.ts_schema.specs.declared.frames.Frame.{Frame}
use Rattle.ts_schema.specs.declared.schemas.Schema.{Schema}
use Rattle.ts_schema.specs.declared.attrs.Attr.{Attr}
use Rattle.ts_schema.specs.declared.evolution.Evolution.{Evolution}
use Rattle.ts_schema.specs.declared.faults.SchemaFault.{SchemaFault}
use Rattle.ts_schema.specs.declared.wants.Want.{Want}
use Rattle.ts_schema.specs.Evolutions.{evolved_attrs, evolution_fault, schema_at}
use Rattle.ts_schema.specs.FrameTexts.{frame_of}
use Rattle.ts_schema.specs.SchemaTexts.{schema_of}
use Rattle.ts_model.specs.declared.commands.Command.TheVariants.{Create, Evolve, Write, Read, Delete, Consolidate, Vacuum, Unlock, Fragments}
use Rattle.ts_model.specs.Stops.{cuts, Uncut}
use Rattle.ts_model.specs.declared.deeds.Deletion.{Deletion}
use Rattle.ts_model.specs.declared.states.Opened.{Opened}
use Rattle.ts_model.specs.declared.states.Reading.{Reading}
use Rattle.ts_model.specs.States.{frags_of, heads_of, opened_among, schemas_in, place_of, get_all, put_of, frame_put, schema_object_of, write_objects, is_own_frame, get_frame, list_schemas, list_commits, list_leases, list_parts, leases_unlocked, names_removed, get_schema, get_delete, get_vac, counting_in, committed_in, deletes_in, meets, delete_object_of, deletion_named, want_of, all_of, merge_objects, Exchange}
use Rattle.ts_model.specs.Stages.{lease_of, put_lease, released}
use Rattle.ts_lease.specs.Leases.{verdict_in}
use Rattle.ts_lease.specs.declared.verdicts.Verdict.TheVariants.{Held}
use Rattle.ts_model.specs.Codecs.{Codec, Asks, Breaks, Takes, is_look}
use Rattle.ts_model.specs.Jobs.{key_of, frag_of_job, refused_before, looked_at}
use Rattle.ts_model.specs.Commands.{laid}
use Rattle.ts_model.specs.Queries.{delete_condition, ready_in}
use Rattle.ts_cond.specs.CondTexts.{cond_of}
use Rattle.ts_cond.specs.Tests.{Condition}
use Rattle.ts_cond.specs.declared.query.Query.{Query}
use Rattle.ts_law.specs.Refusals.{WorksInSchema, refusal_in}
use Rattle.ts_law.specs.Swept.{sweep_over}
use Rattle.ts_base.specs.declared.names.CommitKind.TheVariants.{Del, Vac}
use Rattle.ts_base.specs.declared.names.Prefix.TheVariants.{Leases}
use Rattle.ts_commit.specs.Vacs.{names_of}
use Rattle.ts_commit.specs.declared.vacs.VacOf.{VacOf}
use Rattle.ts_commit.specs.declared.vacs.Limits.{Limits}
use Rattle.ts_commit.specs.declared.vacs.Planned.{Planned}
use Rattle.ts_commit.specs.declared.vacs.Planned.TheVariants as planned
use Rattle.ts_commit.specs.Plans.{is_inside, plan_of}
use Rattle.ts_commit.specs.Selections.{names_merged, removal_set}
use Rattle.ts_model.specs.Merging.{all_got, merged_with}
use Rattle.ts_base.specs.declared.heads.Piece.{Piece}
use Rattle.ts_base.specs.declared.heads.Version.{Version}
use Rattle.ts_base.specs.declared.names.Name.TheVariants as name
use Rattle.ts_base.specs.declared.names.Place.TheVariants as place
use Rattle.ts_store.specs.declared.call.Call.TheVariants as call
use Rattle.ts_store.specs.declared.call.Reply.TheVariants as reply
use Rattle.ts_model.specs.declared.answers.Outcome.TheVariants as outcome
use Rattle.ts_model.specs.declared.answers.Refusal.TheVariants as refusal
use Rattle.ts_model.specs.declared.answers.Driven.TheVariants as driven

-- ---- courses

-- what a consolidation merged its sources into: a piece in a schema, and what the `.vac` of it is to name
pub record Merge : Type 0 where
  pub schema : Schema
  pub piece : Piece
  pub names : List FragKey

-- what a job found: whether the frame was there already, the schema that it works in, the frame, what a consolidation merged, if it came so far, the leases that an unlock removes, and the fragments and the names that a vacuum removes, as far as it came to know them
pub record Found : Type 0 where
  pub taken : Bool
  pub current : Schema
  pub frame : Frame
  pub merged : Option Merge
  pub leases : List Name
  pub swept : List FragKey
  pub removed : List Name

-- the put of an evolve, where no fault stands against its change
abbrev pub evolve_puts : Job → Found → Evolution → Option SchemaFault → List Call
evolve_puts job found change None = put_of (schema_object_of job (evolved_attrs (found.current).attrs change)) ∷ []
evolve_puts job found change (Some fault) = []

-- the puts of a write, where no refusal stands against its cells
abbrev pub cell_puts : {F : Type 0} → Codec F → Job → Found → Result (List Cell) Refusal → List Call
cell_puts codec job found (Ok cells) = list_map put_of (write_objects codec found.frame found.current job cells)
cell_puts codec job found (Err r) = []

-- the put of a delete, where no refusal stands against its condition
abbrev pub delete_puts : Job → Result Condition Refusal → List Call
delete_puts job (Ok condition) = put_of (delete_object_of job condition) ∷ []
delete_puts job (Err r) = []

-- the puts of a consolidation, where it merged something
abbrev pub merge_puts : {F : Type 0} → Codec F → Frame → Option Merge → List Call
merge_puts codec frame None = []
merge_puts codec frame (Some x) = list_map put_of (merge_objects codec frame x.schema x.piece x.names)

-- before the course of a job that has a lease: the put of it, and the listing of the leases
abbrev pub under_lease : Option Name → List Call → List Call
under_lease None course = course
under_lease (Some lease) course = put_lease lease ∷ list_leases ∷ course

-- the listings and the removals of a vacuum after those by which it finds what to remove
abbrev pub sweep_calls : Found → List Call
sweep_calls found = list_map list_parts found.swept ++ list_map call.Remove found.removed

-- the puts and listings of a job at its work, in order, and the removals of an unlock and of a vacuum
abbrev pub course_by : {F : Type 0} → Codec F → Job → Found → Command → List Call
course_by codec job found (Create f) = frame_put f ∷ (cond found.taken (list_schemas ∷ []) [] ++ put_of (schema_object_of job f.attrs) ∷ [])
course_by codec job found (Evolve change) = list_schemas ∷ evolve_puts job found change (evolution_fault (found.frame).domain (found.current).attrs change)
course_by codec job found (Write w) = list_schemas ∷ cell_puts codec job found (laid found.frame (found.current).attrs w)
course_by codec job found (Read from to query) = list_commits ∷ list_schemas ∷ []
course_by codec job found (Delete text) = list_schemas ∷ delete_puts job (delete_condition found.frame (found.current).attrs text)
course_by codec job found (Consolidate from to limits) = list_commits ∷ list_schemas ∷ merge_puts codec found.frame found.merged
course_by codec job found Vacuum = list_commits ∷ list_schemas ∷ sweep_calls found
course_by codec job found (Unlock seed lane) = list_leases ∷ list_map call.Remove found.leases
course_by codec job found Fragments = list_commits ∷ []

-- the course of a job that found this, up to the removal of its lease
abbrev pub course_of : {F : Type 0} → Codec F → Job → Found → List Call
course_of codec job found = under_lease (lease_of job) (course_by codec job found job.command)

-- ---- what a job found

-- the schema that bytes spell under a key is this one
abbrev pub IsSchemaIn : Schema → Key → Result (List Attr) ℕ → Type 0
IsSchemaIn current k (Ok attrs) = current ≡ record { key = k; attrs = attrs }
IsSchemaIn current k (Err at) = ⊤

-- the frame that bytes spell is this one
abbrev pub IsFrameIn : Frame → Result Frame ℕ → Type 0
IsFrameIn frame (Ok x) = frame ≡ x
IsFrameIn frame (Err at) = ⊤

-- a reply says what the job found: that its frame was there, the schema that it works in, the frame, the leases that it removes
abbrev pub SaysFound : Found → Command → Call → Reply → Type 0
SaysFound found (Create f) (call.Put name.Domain bytes) reply.Taken = found.taken ≡ true
SaysFound found (Create f) (call.Put name.Domain bytes) reply.Made = found.taken ≡ false
SaysFound found (Evolve change) (call.Get (name.Schema k) from len) (reply.Bytes bytes) = IsSchemaIn found.current k (schema_of bytes)
SaysFound found (Evolve change) (call.Get name.Domain from len) (reply.Bytes bytes) = IsFrameIn found.frame (frame_of bytes)
SaysFound found (Write w) (call.Get (name.Schema k) from len) (reply.Bytes bytes) = IsSchemaIn found.current k (schema_of bytes)
SaysFound found (Write w) (call.Get name.Domain from len) (reply.Bytes bytes) = IsFrameIn found.frame (frame_of bytes)
SaysFound found (Delete text) (call.Get (name.Schema k) from len) (reply.Bytes bytes) = IsSchemaIn found.current k (schema_of bytes)
SaysFound found (Delete text) (call.Get name.Domain from len) (reply.Bytes bytes) = IsFrameIn found.frame (frame_of bytes)
SaysFound found (Unlock seed lane) (call.List Leases) (reply.Names names) = found.leases ≡ leases_unlocked seed lane names
SaysFound found command c r = ⊤

-- a job was told bytes that spell a schema
abbrev pub GotSchema : List Exchange → Schema → Type 0
GotSchema trace s = (bytes : List ℕ) × Contains trace (record { call = get_all (name.Schema s.key); reply = reply.Bytes bytes }) × (schema_of bytes ≡ Ok s.attrs)

-- of the schemas that a job listed the one with the key holds where the job looks
pub record IsCurrentKey (job : Job) (trace : List Exchange) (k : Key) : Type 0 where
  pub names : List Name
  pub listed : Contains trace (record { call = list_schemas; reply = reply.Names names })
  pub newest : schema_at (schemas_in names) (looked_at job) ≡ Some k

-- a job was told bytes that spell the frame that it found
pub record IsFramed (found : Found) (trace : List Exchange) : Type 0 where
  pub frame_bytes : List ℕ
  pub frame_got : Contains trace (record { call = get_frame; reply = reply.Bytes frame_bytes })
  pub frame_is : frame_of frame_bytes ≡ Ok found.frame

-- a job got what it found: the schema there is that of its listing of the schemas, and it and the frame are spelled by the bytes that the job was told
pub record IsGot (job : Job) (found : Found) (trace : List Exchange) : Type 0 where
  pub key : IsCurrentKey job trace (found.current).key
  pub schema : GotSchema trace found.current
  pub frame_bytes : List ℕ
  pub frame_got : Contains trace (record { call = get_frame; reply = reply.Bytes frame_bytes })
  pub frame_is : frame_of frame_bytes ≡ Ok found.frame

-- the command is a consolidation
abbrev pub IsConsolidate : Command → Type 0
IsConsolidate (Consolidate from to limits) = ⊤
IsConsolidate _ = ⊥

-- a job knows the frame: a consolidation got it alone, another job got the schema there too
abbrev pub KnowsFrame : Job → Found → List Exchange → Type 0
KnowsFrame job found trace = IsGot job found trace ⊎ (IsConsolidate job.command × IsFramed found trace)

-- all replies to a job say what it found
abbrev pub AreFound : Job → Found → List Exchange → Type 0
AreFound job found trace = All (λ x. SaysFound found job.command x.call x.reply) trace

-- ---- the fetches of a job

-- a read was told the condition of the delete under a name
abbrev pub GotDelete : List Exchange → FragKey → Deletion → Type 0
GotDelete trace f e = (bytes : List ℕ) × (condition : Condition) × Contains trace (record { call = get_delete f; reply = reply.Bytes bytes }) × (cond_of bytes ≡ Ok condition) × (e ≡ deletion_named f condition)

-- these are the deletes under these names, in order, as a read was told them
abbrev pub AreDeletesOf : List Exchange → List FragKey → List Deletion → Type 0
AreDeletesOf trace [] [] = ⊤
AreDeletesOf trace (f ∷ names) (e ∷ erased) = GotDelete trace f e × AreDeletesOf trace names erased
AreDeletesOf trace _ _ = ⊥

-- a read of a query over an interval, in the array that it found, that has all deletes that it listed in the interval
pub record ReadsBy (found : Found) (trace : List Exchange) (from to : ℕ) (query : Query) (r : Reading) : Type 0 where
  pub from_is : r.from ≡ from
  pub to_is : r.to ≡ to
  pub frame_is : r.frame ≡ found.frame
  pub there_is : r.current ≡ found.current
  pub is_ready : ready_in found.frame (found.current).attrs query ≡ Ok r.ready
  -- it listed these with the commits
  pub names : List Name
  pub listed : Contains trace (record { call = list_commits; reply = reply.Names names })
  -- its deletes are those of them in the interval
  pub deletes : AreDeletesOf trace (filter (meets from to) (deletes_in names)) r.deletions

-- what a command wants of a fragment in a schema: a read the values that it uses of the cells that it asks for, a consolidation all
abbrev pub IsWantOf : Found → List Exchange → Command → Schema → Want → Type 0
IsWantOf found trace (Read from to query) s want = (r : Reading) × ReadsBy found trace from to query r × (want ≡ want_of r s.attrs)
IsWantOf found trace (Consolidate from to limits) s want = want ≡ all_of found.frame s.attrs
IsWantOf found trace _ s want = ⊥

-- a job got the head of a fragment in an array of the frame that it found
abbrev pub GotHead : {F : Type 0} → Codec F → Found → List Exchange → FragKey → Head → Type 0
GotHead codec found trace f head =
    (object : List ℕ) × Contains trace (record { call = get_all (name.Part f (codec.head_part found.frame)); reply = reply.Bytes object }) × (codec.head found.frame f object ≡ Ok head)

-- the schema in which a fragment with this head is opened: by a read the one that the head names, by a consolidation one that a head names which it got
abbrev pub IsNamedFor : {F : Type 0} → Codec F → Found → List Exchange → Command → Head → Schema → Type 0
IsNamedFor codec found trace (Consolidate from to limits) head s = (f : FragKey) × (first : Head) × GotHead codec found trace f first × (s.key ≡ first.schema)
IsNamedFor codec found trace _ head s = s.key ≡ head.schema

-- a job opened a fragment, whose head it got, in a schema that a head names and that it got too, and the fetch began so
pub record IsOpened {F : Type 0} (codec : Codec F) (job : Job) (found : Found) (trace : List Exchange) (frag : FragKey) (opening : Result F ℕ) : Type 0 where
  pub object : List ℕ
  pub got : Contains trace (record { call = get_all (name.Part frag (codec.head_part found.frame)); reply = reply.Bytes object })
  pub head : Head
  pub reads : codec.head found.frame frag object ≡ Ok head
  pub schema : Schema
  pub schema_got : GotSchema trace schema
  pub named : IsNamedFor codec found trace job.command head schema
  pub want : Want
  pub wants : IsWantOf found trace job.command schema want
  pub opens : codec.opens found.frame schema frag object want ≡ opening

-- a fetch that waited for the reply to a call came by these replies, each to the call that it asked for, to wait for the reply to another
abbrev pub IsFetched : {F : Type 0} → Codec F → List Exchange → F → Call → List Reply → F → Call → Type 0
IsFetched codec trace f c [] g d = (f ≡ g) × (c ≡ d)
IsFetched {F} codec trace f c (r ∷ rs) g d = Contains trace (record { call = c; reply = r }) × (h : F) × (b : Call) × (codec.steps f r ≡ Asks h b) × IsFetched codec trace h b rs g d

-- a fetch that a job began waits for the reply to a call
pub record IsUnderWay {F : Type 0} (codec : Codec F) (job : Job) (found : Found) (trace : List Exchange) (frag : FragKey) (fetch : F) (c : Call) : Type 0 where
  pub first : F
  pub opened : IsOpened codec job found trace frag (Ok first)
  pub begun : F
  pub asked : Call
  pub begins : codec.steps first reply.Start ≡ Asks begun asked
  pub replies : List Reply
  pub fetched : IsFetched codec trace begun asked replies fetch c

-- ---- the plan of a consolidation

-- a consolidation was told names by the `.vac` of a fragment
abbrev pub GotNames : List Exchange → FragKey → List FragKey → Type 0
GotNames trace f names = (bytes : List ℕ) × Contains trace (record { call = get_vac f; reply = reply.Bytes bytes }) × (names_of bytes ≡ Ok names)

-- a job got the object with the head of a fragment, and the head is that which it spells
abbrev pub HasOpened : {F : Type 0} → Codec F → Found → List Exchange → Opened → Type 0
HasOpened codec found trace o =
    Contains trace (record { call = get_all (name.Part o.frag (codec.head_part found.frame)); reply = reply.Bytes o.object }) × (codec.head found.frame o.frag o.object ≡ Ok o.head)

-- a consolidation planned so, by what it was told
-- It planned over the heads of all fragments in its interval that it listed with the commits.
-- It knew all `.vac` objects that count, and the schemas that the heads name.
pub record PlansBy {F : Type 0} (codec : Codec F) (job : Job) (found : Found) (trace : List Exchange) (plan : Planned) : Type 0 where
  pub from : ℕ
  pub to : ℕ
  pub limits : Limits
  pub merges : job.command ≡ Consolidate from to limits
  pub framed : IsFramed found trace
  pub names : List Name
  pub listed : Contains trace (record { call = list_commits; reply = reply.Names names })
  pub opened : List Opened
  pub all_opened : frags_of opened ≡ filter (is_inside from to) (committed_in names)
  pub each_opened : (o : Opened) → Contains opened o → HasOpened codec found trace o
  pub vacs : List VacOf
  pub all_vacs : list_map (λ v. v.frag) vacs ≡ counting_in names
  pub each_vac : (v : VacOf) → Contains vacs v → GotNames trace v.frag v.names
  pub attributes : Key → ℕ
  pub counted : (o : Opened) → Contains opened o → (s : Schema) × (s.key ≡ o.head.schema) × GotSchema trace s × (attributes o.head.schema ≡ length s.attrs)
  pub is : plan_of (heads_of opened) vacs attributes from to limits ≡ plan

-- ---- what a vacuum removes

-- a vacuum chose the fragments that it removes, by what it was told: all that the `.vac` objects name which count in its listing of the commits, where a schema holds at its stamp
pub record ChoosesBy (job : Job) (trace : List Exchange) (set : List FragKey) : Type 0 where
  pub key : Key
  pub current : IsCurrentKey job trace key
  pub names : List Name
  pub listed : Contains trace (record { call = list_commits; reply = reply.Names names })
  pub vacs : List VacOf
  pub all_vacs : list_map (λ v. v.frag) vacs ≡ counting_in names
  pub each_vac : (v : VacOf) → Contains vacs v → GotNames trace v.frag v.names
  pub is : set ≡ removal_set vacs

-- of each of these fragments in turn a vacuum listed these parts
abbrev pub EachListed : List Exchange → List FragKey → List (List Name) → Type 0
EachListed trace [] [] = ⊤
EachListed trace (f ∷ set) (names ∷ listed) = Contains trace (record { call = list_parts f; reply = reply.Names names }) × EachListed trace set listed
EachListed trace _ _ = ⊥

-- a vacuum removes these names, by what it was told: of each fragment that it chose its `.wrt` and its `.vac`, where they were listed, and the parts that it listed, and the other `.vac` objects that count
pub record RemovesBy (job : Job) (trace : List Exchange) (set : List FragKey) (removed : List Name) : Type 0 where
  pub chooses : ChoosesBy job trace set
  pub listed : List (List Name)
  pub each_listed : EachListed trace set listed
  pub is : removed ≡ names_removed (sweep_over chooses.names chooses.vacs) set listed

-- what a vacuum is said to remove it removes by what it was told
abbrev pub SweepsFound : Job → Found → List Exchange → Type 0
SweepsFound job found trace = ((found.swept ≡ []) ⊎ ChoosesBy job trace found.swept) × ((found.removed ≡ []) ⊎ RemovesBy job trace found.swept found.removed)

-- ---- which objects a job may look at

-- of the names of a kind that a read listed with the commits one whose span meets the interval
abbrev pub IsListedIn : (List Name → List FragKey) → List Exchange → ℕ → ℕ → FragKey → Type 0
IsListedIn kind trace from to f = (names : List Name) × Contains trace (record { call = list_commits; reply = reply.Names names }) × Contains (kind names) f × (meets from to f ≡ true)

-- a fragment is near: its `.wrt` was listed, and its span meets the interval
abbrev pub IsLookedInto : List Exchange → ℕ → ℕ → FragKey → Type 0
IsLookedInto trace from to f = IsListedIn committed_in trace from to f

-- a consolidation listed a fragment with the commits that lies in the interval
abbrev pub IsListedInside : List Exchange → ℕ → ℕ → FragKey → Type 0
IsListedInside trace from to f = (names : List Name) × Contains trace (record { call = list_commits; reply = reply.Names names }) × Contains (committed_in names) f × (is_inside from to f ≡ true)

-- a job listed a fragment with the commits whose `.vac` counts
abbrev pub IsCountingIn : List Exchange → FragKey → Type 0
IsCountingIn trace f = (names : List Name) × Contains trace (record { call = list_commits; reply = reply.Names names }) × Contains (counting_in names) f

-- a job that works in a schema gets the one that holds where it looks, of those that it listed, and once it has that one the frame
abbrev pub LooksForSchema : Job → List Exchange → Call → Type 0
LooksForSchema job trace c = ((k : Key) × IsCurrentKey job trace k × (c ≡ get_schema k)) ⊎ ((s : Schema) × IsCurrentKey job trace s.key × GotSchema trace s × (c ≡ get_frame))

-- what a read looks at in the array that it found: each is a get of a whole object, but for the calls for which a fetch asks
pub data LooksInside {F : Type 0} (codec : Codec F) (job : Job) (found : Found) (trace : List Exchange) (from to : ℕ) (c : Call) : Type 0 where
  -- a `.vac` that counts
  AtVac : (f : FragKey) → IsCountingIn trace f → c ≡ get_vac f → LooksInside codec job found trace from to c
  -- the part that has the head of a near fragment
  AtHead : (f : FragKey) → IsLookedInto trace from to f → c ≡ get_all (name.Part f (codec.head_part found.frame)) → LooksInside codec job found trace from to c
  -- a further schema: one that is named by a head which the read got, and is not the schema there
  AtSchema : (f : FragKey) (head : Head) → GotHead codec found trace f head → head.schema ≢ (found.current).key → c ≡ get_schema head.schema → LooksInside codec job found trace from to c
  -- a delete that was listed and is stamped in the interval
  AtDelete : (f : FragKey) → IsListedIn deletes_in trace from to f → c ≡ get_delete f → LooksInside codec job found trace from to c
  -- a get or a size for which the fetch of a near fragment asks, which the read began on what it got
  InFetch : (f : FragKey) (fetch : F) → IsLookedInto trace from to f → IsUnderWay codec job found trace f fetch c → IsTrue (is_look c) → LooksInside codec job found trace from to c

-- what a consolidation looks at: each is a get of a whole object, but for the calls for which a fetch asks
pub data LooksForSources {F : Type 0} (codec : Codec F) (job : Job) (found : Found) (trace : List Exchange) (from to : ℕ) (c : Call) : Type 0 where
  -- the frame, once it listed the schemas, of which one holds at its stamp
  AtFrame : (k : Key) → IsCurrentKey job trace k → c ≡ get_frame → LooksForSources codec job found trace from to c
  -- a `.vac` that counts
  AtNames : (f : FragKey) → IsFramed found trace → IsCountingIn trace f → c ≡ get_vac f → LooksForSources codec job found trace from to c
  -- the part that has the head of a fragment in the interval
  AtOpened : (f : FragKey) → IsFramed found trace → IsListedInside trace from to f → c ≡ get_all (name.Part f (codec.head_part found.frame)) → LooksForSources codec job found trace from to c
  -- a schema that is named by a head which it got
  AtNamed : (f : FragKey) (head : Head) → IsFramed found trace → GotHead codec found trace f head → c ≡ get_schema head.schema → LooksForSources codec job found trace from to c
  -- a get or a size for which the fetch of a fragment asks that its plan takes
  InSource : (chosen : List FragKey) (f : FragKey) (fetch : F) → PlansBy codec job found trace (planned.Take chosen) → Contains chosen f → IsUnderWay codec job found trace f fetch c → IsTrue (is_look c) → LooksForSources codec job found trace from to c

-- a vacuum gets a `.vac` that counts, once it listed the schemas, of which one holds at its stamp
abbrev pub LooksForVacs : Job → List Exchange → Call → Type 0
LooksForVacs job trace c = (k : Key) × IsCurrentKey job trace k × (f : FragKey) × IsCountingIn trace f × (c ≡ get_vac f)

-- the call looks at an object that the job's command reads, by what the job was told before; but for the calls of fetches it gets the whole object
abbrev pub IsLookBy : {F : Type 0} → Codec F → Job → Found → List Exchange → Command → Call → Type 0
IsLookBy codec job found trace (Create f) c = Contains trace (record { call = frame_put f; reply = reply.Taken }) × (c ≡ get_frame)
IsLookBy codec job found trace (Evolve change) c = LooksForSchema job trace c
IsLookBy codec job found trace (Write w) c = LooksForSchema job trace c
IsLookBy codec job found trace (Read from to query) c = LooksForSchema job trace c ⊎ (IsGot job found trace × LooksInside codec job found trace from to c)
IsLookBy codec job found trace (Delete text) c = LooksForSchema job trace c
IsLookBy codec job found trace (Consolidate from to limits) c = LooksForSources codec job found trace from to c
IsLookBy codec job found trace Vacuum c = LooksForVacs job trace c
IsLookBy codec job found trace (Unlock seed lane) c = ⊥
IsLookBy codec job found trace Fragments c = ⊥

-- the call looks at an object that the job reads
abbrev pub IsLookOf : {F : Type 0} → Codec F → Job → Found → List Exchange → Call → Type 0
IsLookOf codec job found trace c = IsLookBy codec job found trace job.command c

-- ---- going along a course

-- which calls a job may make between those of its course, after these calls of its own
abbrev pub Looks : Type 1
Looks = List Exchange → Call → Type 0

-- the call may come after these calls where `course` is left of a course, and leaves `rest` of it: it is a look, which may stand between the calls of a course, or the course's next call
abbrev pub IsNext : Looks → List Exchange → List Call → Call → List Call → Type 0
IsNext looks trace course c rest = (looks trace c × (course ≡ rest)) ⊎ (course ≡ c ∷ rest)

-- the reply is what a call is asked for: a get or a size may be told bytes or a length; a create goes on where its frame was there already
abbrev pub lets_on : Call → Reply → Bool
lets_on (call.Put name.Domain bytes) reply.Taken = true
lets_on (call.Put n bytes) reply.Made = true
lets_on (call.Remove n) reply.Removed = true
lets_on (call.List prefix) (reply.Names names) = true
lets_on (call.Get n from len) (reply.Bytes bytes) = true
lets_on (call.Get n from len) (reply.Length size) = true
lets_on (call.Size n) (reply.Bytes bytes) = true
lets_on (call.Size n) (reply.Length len) = true
lets_on c r = false

-- after those before, the calls went along the course, each reply let the job go on, and `left` is left of the course
abbrev pub Along : Looks → List Exchange → List Call → List Exchange → List Call → Type 0
Along looks before course [] left = course ≡ left
Along looks before course (x ∷ xs) left = IsTrue (lets_on x.call x.reply) × ((rest : List Call) × IsNext looks before course x.call rest × Along looks (before ++ x ∷ []) rest xs left)

-- after those before, the calls went along the course up to the last one
pub record EndsAt (looks : Looks) (before : List Exchange) (course : List Call) (trace : List Exchange) (last : Exchange) : Type 0 where
  pub front : List Exchange
  pub left : List Call
  pub rest : List Call
  pub parts : trace ≡ front ++ last ∷ []
  pub along : Along looks before course front left
  pub next : IsNext looks (before ++ front) left last.call rest

-- ---- refusals

-- why a job is refused where it found this
abbrev pub refused_in : Found → Command → Option Refusal
refused_in found command = refusal_in found.frame (found.current).attrs command

-- a fetch of a fragment has all versions that were wanted: as it began, or by a reply for which it waited
abbrev pub HasTaken : {F : Type 0} → Codec F → Job → Found → List Exchange → FragKey → List Version → Type 0
HasTaken {F} codec job found trace f vs =
    (fetch : F) × ((IsOpened codec job found trace f (Ok fetch) × (codec.steps fetch reply.Start ≡ Takes vs))
    ⊎ ((x : Exchange) × IsUnderWay codec job found trace f fetch x.call × Contains trace x × (codec.steps fetch x.reply ≡ Takes vs)))

-- of each of these fragments in turn a fetch has these versions
abbrev pub EachTaken : {F : Type 0} → Codec F → Job → Found → List Exchange → List Opened → List (List Version) → Type 0
EachTaken codec job found trace [] [] = ⊤
EachTaken codec job found trace (o ∷ sources) (vs ∷ got) = HasTaken codec job found trace o.frag vs × EachTaken codec job found trace sources got
EachTaken codec job found trace _ _ = ⊥

-- a consolidation merged so many fragments, those of its plan: into the piece of their heads and of all their versions, in the schema that the first of them names
pub record IsMergeBy {F : Type 0} (codec : Codec F) (job : Job) (found : Found) (trace : List Exchange) (merge : Merge) (count : ℕ) : Type 0 where
  pub chosen : List FragKey
  pub by_plan : PlansBy codec job found trace (planned.Take chosen)
  pub first : Opened
  pub others : List Opened
  pub sources : first ∷ others ≡ opened_among chosen by_plan.opened
  pub counted : count ≡ length (first ∷ others)
  pub schema_got : GotSchema trace merge.schema
  pub schema_named : (merge.schema).key ≡ first.head.schema
  pub got : List (List Version)
  pub each_taken : EachTaken codec job found trace (first ∷ others) got
  pub piece : merge.piece ≡ merged_with found.frame job.id first.head (heads_of others) (all_got got)
  pub names : merge.names ≡ names_merged by_plan.vacs (frags_of (first ∷ others))

-- a consolidation merged something by what it was told up to a call, before the calls after that
pub record HasMerged {F : Type 0} (codec : Codec F) (job : Job) (found : Found) (trace : List Exchange) (merge : Merge) : Type 0 where
  pub front : List Exchange
  pub last : Exchange
  pub later : List Exchange
  pub parts : trace ≡ front ++ last ∷ later
  pub was_told : last.reply ≢ reply.NoMemory
  pub count : ℕ
  pub by_told : IsMergeBy codec job found (front ++ last ∷ []) merge count

-- what a job is said to have merged, it has merged
abbrev pub MergesFound : {F : Type 0} → Codec F → Job → Found → List Exchange → Type 0
MergesFound codec job found trace = (merge : Merge) → found.merged ≡ Some merge → HasMerged codec job found trace merge

-- a part of a fragment breaks its layout at an offset: where a job opens the fragment, where the fetch begins, or by the last reply, which the fetch waited for
abbrev pub BreaksPart : {F : Type 0} → Codec F → Job → Found → List Exchange → Exchange → FragKey → Part → ℕ → Type 0
BreaksPart {F} codec job found trace last f part at =
    ((part ≡ codec.head_part found.frame) × IsOpened codec job found trace f (Err at))
    ⊎ ((fetch : F) × ((IsOpened codec job found trace f (Ok fetch) × (codec.steps fetch reply.Start ≡ Breaks part at)) ⊎ (IsUnderWay codec job found trace f fetch last.call × (codec.steps fetch last.reply ≡ Breaks part at))))

-- a job may fetch a fragment: a consolidation one that its plan takes
-- Another job may fetch any, once it got the schema that it works in and the frame.
abbrev pub MayFetch : {F : Type 0} → Codec F → Job → Found → List Exchange → Command → FragKey → Type 0
MayFetch codec job found trace (Consolidate from to limits) f = (chosen : List FragKey) × PlansBy codec job found trace (planned.Take chosen) × Contains chosen f
MayFetch codec job found trace _ f = IsGot job found trace

-- a job finds a part broken at an offset, of a fragment that it may fetch
abbrev pub BreaksFetch : {F : Type 0} → Codec F → Job → Found → List Exchange → Exchange → Name → ℕ → Type 0
BreaksFetch codec job found trace last n at = (f : FragKey) × (part : Part) × (n ≡ name.Part f part) × MayFetch codec job found trace job.command f × BreaksPart codec job found trace last f part at

-- the bytes of an object break its layout at an offset: a schema, the frame, a delete, a `.vac`, or the head of a fragment in an array of the frame that the job got
abbrev pub BreaksAt : {F : Type 0} → Codec F → Job → Found → List Exchange → Name → List ℕ → ℕ → Type 0
BreaksAt codec job found trace (name.Schema k) bytes at = schema_of bytes ≡ Err at
BreaksAt codec job found trace name.Domain bytes at = frame_of bytes ≡ Err at
BreaksAt codec job found trace (name.Part f part) bytes at = KnowsFrame job found trace × (part ≡ codec.head_part found.frame) × (codec.head found.frame f bytes ≡ Err at)
BreaksAt codec job found trace (name.Commit f Del) bytes at = cond_of bytes ≡ Err at
BreaksAt codec job found trace (name.Commit f Vac) bytes at = names_of bytes ≡ Err at
BreaksAt codec job found trace n bytes at = ⊥

-- an array is there already: its frame is another one than a create makes, or it has a schema
abbrev pub IsThere : FrameIn → Exchange → Type 0
IsThere f last =
    ((bytes : List ℕ) × (last ≡ record { call = get_frame; reply = reply.Bytes bytes }) × (is_own_frame (Some f) bytes ≡ false))
    ⊎ ((names : List Name) × (last ≡ record { call = list_schemas; reply = reply.Names names }) × (nat_lt 0 (length names) ≡ true))

-- a lease holds a job up: of the leases that it listed this is the first that opposes its own one
abbrev pub IsHeldUp : Job → Exchange → Name → Type 0
IsHeldUp job last other =
    (own : Name) × (lease_of job ≡ Some own) × (names : List Name) × (last ≡ record { call = list_leases; reply = reply.Names names }) × (verdict_in names own ≡ Held other)

-- a refusal has its cause: in the last call with its reply, or in what the job found and got
abbrev pub IsCause : {F : Type 0} → Codec F → Job → Found → List Exchange → Exchange → Refusal → Type 0
IsCause codec job found trace last refusal.ArrayExists = (f : FrameIn) × (job.command ≡ Create f) × IsThere f last
IsCause codec job found trace last (refusal.NoSchema at) =
    WorksInSchema job.command × (names : List Name) × (last ≡ record { call = list_schemas; reply = reply.Names names }) × (at ≡ looked_at job) × (schema_at (schemas_in names) at ≡ None)
IsCause codec job found trace last (refusal.NothingToDo count) = (found.merged ≡ None) × PlansBy codec job found trace (planned.Nothing count)
IsCause codec job found trace last (refusal.Leased other) = IsHeldUp job last other
IsCause codec job found trace last (refusal.Taken n) = (n ≡ name.Domain → ⊥) × (bytes : List ℕ) × (last ≡ record { call = call.Put n bytes; reply = reply.Taken })
IsCause codec job found trace last (refusal.StoreFault p) = (p ≡ place_of last.call) × (last.reply ≡ reply.Failed)
IsCause codec job found trace last (refusal.Missing n) = (place_of last.call ≡ place.Name n) × (last.reply ≡ reply.Absent)
IsCause codec job found trace last (refusal.Damaged n at) =
    ((bytes : List ℕ) × Contains trace (record { call = get_all n; reply = reply.Bytes bytes }) × BreaksAt codec job found trace n bytes at) ⊎ BreaksFetch codec job found trace last n at
IsCause codec job found trace last r = IsGot job found trace × (refused_in found job.command ≡ Some r)

-- ---- ends

-- the next call of what is left of a course removes the lease of the job
abbrev pub ReleasesNext : Job → List Call → Type 0
ReleasesNext job left = (lease : Name) × (lease_of job ≡ Some lease) × (more : List Call) × (left ≡ call.Remove lease ∷ more)

-- after a call with its reply a job may be out of memory, where `left` is left of its course
-- So it may be after a look or a listing, after a put where more is left, and after a call for which the store had no memory.
-- After a removal it may be so only where the next one is that of its own lease, which a course has only where a store listed it among the parts of a fragment.
abbrev pub RunsShort : Job → Call → Reply → List Call → Type 0
RunsShort job (call.Put n bytes) reply.Made left = left ≢ []
RunsShort job (call.Put n bytes) reply.Taken left = left ≢ []
RunsShort job (call.Put n bytes) reply.Failed left = left ≢ []
RunsShort job (call.Remove n) reply.Removed left = ReleasesNext job left
RunsShort job (call.Remove n) reply.Failed left = ⊥
RunsShort job c r left = ⊤

-- how the calls may end where `course` is a job's course: well, at the end of the course; refused; or out of memory, before its first call or where a call may leave it so
abbrev pub EndsAlong : {F : Type 0} → Codec F → Job → Found → List Call → List Exchange → Outcome → Type 0
EndsAlong codec job found course trace (outcome.Refused r) = (last : Exchange) × EndsAt (IsLookOf codec job found) [] course trace last × IsCause codec job found trace last r
EndsAlong codec job found course trace outcome.OutOfMemory = (trace ≡ []) ⊎ ((last : Exchange) × (at : EndsAt (IsLookOf codec job found) [] course trace last) × RunsShort job last.call last.reply at.rest)
EndsAlong codec job found course trace outcome.Created = Along (IsLookOf codec job found) [] course trace [] × ((f : FrameIn) × (job.command ≡ Create f))
EndsAlong codec job found course trace (outcome.Evolved k) = Along (IsLookOf codec job found) [] course trace [] × ((change : Evolution) × (job.command ≡ Evolve change)) × (k ≡ key_of job) × IsGot job found trace × (refused_in found job.command ≡ None)
EndsAlong codec job found course trace (outcome.Written f) = Along (IsLookOf codec job found) [] course trace [] × ((w : WriteIn) × (job.command ≡ Write w)) × (f ≡ frag_of_job job) × IsGot job found trace × (refused_in found job.command ≡ None)
EndsAlong codec job found course trace (outcome.Deleted f) = Along (IsLookOf codec job found) [] course trace [] × ((text : List ℕ) × (job.command ≡ Delete text)) × (f ≡ frag_of_job job) × IsGot job found trace × (refused_in found job.command ≡ None)
EndsAlong codec job found course trace (outcome.Read answer) = Along (IsLookOf codec job found) [] course trace [] × ((from : ℕ) × (to : ℕ) × (query : Query) × (job.command ≡ Read from to query)) × IsGot job found trace × (refused_in found job.command ≡ None)
EndsAlong codec job found course trace (outcome.Consolidated f count) = Along (IsLookOf codec job found) [] course trace [] × ((merge : Merge) × (found.merged ≡ Some merge) × (f ≡ merge.piece.head.frag) × IsMergeBy codec job found trace merge count)
EndsAlong codec job found course trace (outcome.Vacuumed count) = Along (IsLookOf codec job found) [] course trace [] × (job.command ≡ Vacuum) × (count ≡ length found.swept) × RemovesBy job trace found.swept found.removed
EndsAlong codec job found course trace (outcome.Unlocked count) = Along (IsLookOf codec job found) [] course trace [] × ((seed : ℕ) × (lane : ℕ) × (job.command ≡ Unlock seed lane)) × (count ≡ length found.leases)
EndsAlong codec job found course trace (outcome.Listed names) = Along (IsLookOf codec job found) [] course trace [] × (job.command ≡ Fragments) × Contains trace (record { call = list_commits; reply = reply.Names names })

-- the calls begin with the put of the lease, whose name was not taken
abbrev pub HasPut : Name → List Exchange → Type 0
HasPut lease [] = ⊥
HasPut lease (x ∷ xs) = (x.call ≡ put_lease lease) × (x.reply ≢ reply.Taken)

-- the calls of a job are the put of its lease, a listing of the leases that shows one which opposes its own, and these more
abbrev pub FindsOpposed : Name → List Exchange → List Exchange → Name → Type 0
FindsOpposed lease trace more other =
    (put : Exchange) × (names : List Name) × (trace ≡ put ∷ record { call = list_leases; reply = reply.Names names } ∷ more) × (verdict_in names lease ≡ Held other)

-- a job whose listing of the leases shows one that opposes its own does not go on: it is refused for the first such one
abbrev pub HeedsLeases : Name → List Exchange → Outcome → Type 0
HeedsLeases lease trace was = (more : List Exchange) (other : Name) → FindsOpposed lease trace more other → (more ≡ []) × (was ≡ outcome.Refused (refusal.Leased other))

-- the removal of a lease, with its reply
abbrev pub removal : Name → Reply → Exchange
removal lease r = record { call = call.Remove lease; reply = r }

-- how a job that has a lease may end
pub data LeaseEnds {F : Type 0} (codec : Codec F) (job : Job) (found : Found) (lease : Name) (trace : List Exchange) (end : Outcome) : Type 0 where
  -- before its first call, for want of memory
  NotBegun : trace ≡ [] → end ≡ outcome.OutOfMemory → LeaseEnds codec job found lease trace end
  -- by the put of its lease, whose name was taken: that lease is not its own
  NotOwn : trace ≡ record { call = put_lease lease; reply = reply.Taken } ∷ [] → end ≡ outcome.Refused (refusal.Taken lease) → LeaseEnds codec job found lease trace end
  -- by the removal of its lease, which is its last call whatever end its other calls came to
  Removed : (front : List Exchange) (r : Reply) (was : Outcome) → trace ≡ front ++ removal lease r ∷ [] → HasPut lease front → HeedsLeases lease front was → EndsAlong codec job found (course_of codec job found) front was → end ≡ released lease was r
      → LeaseEnds codec job found lease trace end

-- how a job may end that has this lease, if it has one
abbrev pub EndsUnder : {F : Type 0} → Codec F → Job → Found → Option Name → List Exchange → Outcome → Type 0
EndsUnder codec job found None trace end = EndsAlong codec job found (course_of codec job found) trace end
EndsUnder codec job found (Some lease) trace end = LeaseEnds codec job found lease trace end

-- how a job may end: one that is refused before its first call makes none
abbrev pub MayEndAs : {F : Type 0} → Codec F → Job → Found → List Exchange → Outcome → Option Refusal → Type 0
MayEndAs codec job found trace end None = EndsUnder codec job found (lease_of job) trace end
MayEndAs codec job found trace end (Some r) = (trace ≡ []) × ((end ≡ outcome.Refused r) ⊎ (end ≡ outcome.OutOfMemory))

-- the calls went along the course, and the stop cut the job off where it would have made one more call, which may come next there
pub record IsCutAlong {F : Type 0} (codec : Codec F) (job : Job) (found : Found) (trace : List Exchange) : Type 0 where
  pub begins : refused_before job.command ≡ None
  pub left : List Call
  pub along : Along (IsLookOf codec job found) [] (course_of codec job found) trace left
  pub unmade : Call
  pub rest : List Call
  pub next : IsNext (IsLookOf codec job found) trace left unmade rest
  pub cut : cuts job.stop (length trace) unmade ≡ true
  -- a job that has a lease found none that opposes it
  pub free : (lease : Name) → lease_of job ≡ Some lease → (more : List Exchange) (other : Name) → FindsOpposed lease trace more other → ⊥

-- the stop cut the job off where it would have removed its lease, whatever end its calls had come to
pub record IsCutLeased {F : Type 0} (codec : Codec F) (job : Job) (found : Found) (trace : List Exchange) : Type 0 where
  pub lease : Name
  pub own : lease_of job ≡ Some lease
  pub was : Outcome
  pub put : HasPut lease trace
  pub heeds : HeedsLeases lease trace was
  pub ended : EndsAlong codec job found (course_of codec job found) trace was
  pub cut : cuts job.stop (length trace) (call.Remove lease) ≡ true

-- the stop cut the job off
abbrev pub IsCutOff : {F : Type 0} → Codec F → Job → Found → List Exchange → Type 0
IsCutOff codec job found trace = IsCutAlong codec job found trace ⊎ IsCutLeased codec job found trace

-- how a job may come out: with an end, or cut off by its stop
abbrev pub MayComeOut : {F : Type 0} → Codec F → Job → Found → List Exchange → Driven Outcome → Type 0
MayComeOut codec job found trace (driven.Done end) = MayEndAs codec job found trace end (refused_before job.command)
MayComeOut codec job found trace driven.Stopped = IsCutOff codec job found trace

-- the calls of a job, in order, none of which its stop cut off, and how it came out
pub record IsSegment {F : Type 0} (codec : Codec F) (job : Job) (trace : List Exchange) (result : Driven Outcome) : Type 0 where
  pub uncut : Uncut job.stop 0 trace
  pub found : Found
  pub are_found : AreFound job found trace
  pub merges_found : MergesFound codec job found trace
  pub sweeps_found : SweepsFound job found trace
  pub ends : MayComeOut codec job found trace result
