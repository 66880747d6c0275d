-- What the end of a job tells of the history.
use Rattle.std.specs.Prelude.{◌≡◌, ℕ, Bool, true, false, not, length, List, [], ◌∷◌, ◌++◌, Some, None, Ok, IsTrue, Contains, filter, ⊤, ◌⊎◌, map as list_map}
use Rattle.std.specs.List.{list_any}
use Rattle.std.specs.Option.{option_map_or}
use Rattle.ts_base.specs.declared.names.Name.{Name}
use Rattle.ts_base.specs.declared.names.Prefix.{Prefix}
use Rattle.ts_base.specs.declared.keys.Key.{Key}
use Rattle.ts_base.specs.Names.{wrt_of}
use Rattle.ts_store.specs.declared.call.Call.{Call}
use Rattle.ts_commit.specs.declared.vacs.VacOf.{VacOf}
use Rattle.ts_commit.specs.declared.vacs.Limits.{Limits}
use Rattle.ts_commit.specs.declared.vacs.Planned.{Planned}
use Rattle.ts_commit.specs.declared.vacs.Planned.TheVariants as planned
use Rattle.ts_commit.specs.Plans.{is_inside, plan_of}
use Rattle.ts_base.specs.declared.keys.FragKey.{FragKey}
use Rattle.ts_base.specs.declared.heads.Cell.{Cell}
use Rattle.ts_base.specs.declared.heads.Head.{Head}
use Rattle.ts_base.specs.declared.heads.Piece.{Piece}
use Rattle.ts_base.specs.Held.{Held}
use Rattle.ts_model.specs.declared.commands.Command.{Command}
use Rattle.ts_model.specs.declared.commands.Job.{Job}
use Rattle.ts_model.specs.declared.commands.FrameIn.{FrameIn}
use Rattle.ts_model.specs.declared.commands.WriteIn.{WriteIn}
use Rattle.ts_model.specs.declared.deeds.Deed.{Deed}
use Rattle.ts_model.specs.declared.deeds.Deed.TheVariants.{Wrote}
use Rattle.ts_model.specs.declared.answers.Answer.{Answer}
use Rattle.ts_model.specs.declared.answers.Outcome.{Outcome}
use Rattle.ts_model.specs.declared.answers.Refusal.{Refusal}
use Rattle.ts_schema.specs.declared.frames.Frame.{Frame}
use Rattle.ts_schema.specs.declared.schemas.Schema.{Schema}
use Rattle.ts_schema.specs.declared.attrs.Attr.{Attr}
use Rattle.ts_schema.specs.declared.evolution.Evolution.{Evolution}
use Rattle.ts_schema.specs.Evolutions.{evolved_attrs, evolution_fault}
use Rattle.ts_model.specs.declared.commands.Command.TheVariants.{Create, Evolve, Write, Read, Delete, Consolidate, Vacuum, Unlock, Fragments}
use Rattle.ts_base.specs.declared.names.CommitKind.{CommitKind}
use Rattle.ts_base.specs.declared.names.CommitKind.TheVariants.{Wrt, Del}
use Rattle.ts_base.specs.declared.names.Prefix.TheVariants.{Commits, Fragment, Leases, Schemas}
use Rattle.ts_store.specs.Calls.{is_no_memory, names_under}
use Rattle.ts_commit.specs.Selections.{clipped_names, has_origin, is_among, is_clipped, names_merged, removal_set}
use Rattle.ts_model.specs.Told.{Told, held_told, history_told}
use Rattle.ts_model.specs.States.{committed_in, counting_in, frame_put, leases_unlocked, meets, vac_of}
use Rattle.ts_model.specs.Codecs.{Spelled}
use Rattle.ts_law.specs.Stands.{EachInItsOwn, HoldsIn, IsCommitted, Names}
use Rattle.ts_cond.specs.declared.query.Query.{Query}
use Rattle.ts_cond.specs.Tests.{Condition}
use Rattle.ts_model.specs.Queries.{delete_condition}
use Rattle.ts_model.specs.Jobs.{key_of, frag_of_job, looked_at, schema_of_job, written_as, deletion_as}
use Rattle.ts_model.specs.Deeds.{History, frame_in, schemas, writes, deletions, schema_with, current_schema, IsNewKey}
use Rattle.ts_model.specs.Commands.{create_refusal, frame_made, laid}
use Rattle.ts_model.specs.Answers.{IsWhole, IsAnswer}
use Rattle.ts_base.specs.declared.names.Name.TheVariants as name
use Rattle.ts_base.specs.declared.names.Place.TheVariants as place
use Rattle.ts_store.specs.declared.call.Call.TheVariants as call
use Rattle.ts_store.specs.declared.call.Reply.TheVariants as reply
use Rattle.ts_model.specs.declared.answers.Outcome.TheVariants as outcome
use Rattle.ts_model.specs.declared.answers.Refusal.TheVariants as refusal
use Rattle.std.specs.FinMap as map

-- a job listed what is below a prefix at a place of what was told, and there was memory for it
pub record ListedAt (told : List Told) (number : ℕ) (prefix : Prefix) : Type 0 where
  pub before : List Told
  pub listing : Told
  pub later : List Told
  pub place : told ≡ before ++ listing ∷ later
  pub own : listing.job ≡ Some number
  pub lists : listing.call ≡ call.List prefix
  pub memory : is_no_memory listing.reply ≡ false

-- a job made a call at a place of what was told, and there was memory for it
pub record MadeAt (told : List Told) (number : ℕ) (c : Call) : Type 0 where
  pub before : List Told
  pub made : Told
  pub later : List Told
  pub place : told ≡ before ++ made ∷ later
  pub own : made.job ≡ Some number
  pub makes : made.call ≡ c
  pub memory : is_no_memory made.reply ≡ false

-- ---- reads

-- the heads of the fragments that are committed in a map and whose span meets [a, b]
pub record AreHeads (spelled : Spelled) (h : History) (m : Held) (a b : ℕ) (heads : List Head) : Type 0 where
  pub frags : list_map (λ head. head.frag) heads ≡ filter (meets a b) (committed_in (names_under Commits m))
  pub each : (head : Head) → Contains heads head → (p : Piece) × HoldsIn spelled h m head.frag p × (p.head ≡ head)

-- a deed is left where it is no write that is clipped from a read of [a, b] of fragments with these heads
abbrev pub is_left : ℕ → ℕ → List Head → Deed → Bool
is_left a b heads (Wrote w) = not (is_clipped a b heads w.key)
is_left a b heads _ = true

-- the history without its clipped writes
abbrev pub without_clipped : ℕ → ℕ → List Head → History → History
without_clipped a b heads h = filter (is_left a b heads) h

-- the answer to a read of [a, b] over objects that stand for a history, which it shows through a later one
pub record IsAnswerOver (spelled : Spelled) (h : History) (m : Held) (later : History) (a b : ℕ) (query : Query) (answer : Answer) : Type 0 where
  pub heads : List Head
  pub are_heads : AreHeads spelled h m a b heads
  -- it names the clipped fragments: those that it cannot use, and that a write went into which is in none that it can use
  pub clipped_is : answer.clipped ≡ clipped_names a b heads
  -- it is that of the history without its clipped writes
  pub is : IsAnswer (without_clipped a b heads h) later a b query answer
  -- where no fragment is clipped, it is that of the whole history
  pub whole : IsWhole answer → IsAnswer h later a b query answer
  -- no fragment is clipped where each write is in its own fragment
  pub unclipped : EachInItsOwn spelled m h → IsWhole answer
  -- nor is one in a sparse array
  pub sparse : (frame : Frame) → frame_in h ≡ Some frame → frame.dense ≡ false → IsWhole answer

-- the answer of a read is that of the objects and the history at its listing of the commits, shown through the history at its later listing of the schemas
pub record AnswersAt (spelled : Spelled) (opening : Held) (jobs : List Job) (past : History) (told : List Told) (number from to : ℕ) (query : Query) (answer : Answer) : Type 0 where
  pub commits : ListedAt told number Commits
  pub schemas : ListedAt told number Schemas
  pub between : List Told
  pub order : schemas.before ≡ commits.before ++ commits.listing ∷ between
  pub answers : IsAnswerOver spelled (history_told jobs past commits.before) (held_told opening commits.before) (history_told jobs past schemas.before) from to query answer

-- ---- commands that do a deed

-- no deed of the history has the key of a job
abbrev pub IsUndone : History → Job → Type 0
IsUndone h job = IsNewKey h (key_of job)

-- the job declared a schema with these attributes
abbrev pub HasDeclared : History → Job → List Attr → Type 0
HasDeclared h job attrs = schema_with h (key_of job) ≡ Some (schema_of_job job attrs)

-- a create found no array: its put of the frame was Made, before which nothing had been done; or as it listed the schemas, there was none
abbrev pub FindsNoArray : List Job → History → List Told → ℕ → FrameIn → Type 0
FindsNoArray jobs past told number made =
    ((at : MadeAt told number (frame_put made)) × ((at.made).reply ≡ reply.Made) × (history_told jobs past at.before ≡ []))
    ⊎ ((at : ListedAt told number Schemas) × (schemas (history_told jobs past at.before) ≡ []))

-- the array has the frame of a create, and a schema of it. The create is a right one, and it found no array
pub record IsCreated (jobs : List Job) (past : History) (told : List Told) (number : ℕ) (job : Job) : Type 0 where
  pub made : FrameIn
  pub creates : job.command ≡ Create made
  pub sound : create_refusal made ≡ None
  pub found_none : FindsNoArray jobs past told number made
  pub framed : frame_in (history_told jobs past told) ≡ Some (frame_made made)
  pub declared : HasDeclared (history_told jobs past told) job made.attrs

-- the schema of an evolve is one that the change makes of another, which holds at its stamp of those that it listed before it declared its own. The change fits that one, in the array with the frame
pub record IsEvolved (jobs : List Job) (past : History) (told : List Told) (number : ℕ) (job : Job) : Type 0 where
  pub change : Evolution
  pub evolves : job.command ≡ Evolve change
  pub schemas : ListedAt told number Schemas
  pub current : Schema
  pub undone : IsUndone (history_told jobs past schemas.before) job
  pub holds : current_schema (history_told jobs past schemas.before) job.at ≡ Some current
  pub frame : Frame
  pub framed : frame_in (history_told jobs past told) ≡ Some frame
  pub sound : evolution_fault frame.domain current.attrs change ≡ None
  pub declared : HasDeclared (history_told jobs past told) job (evolved_attrs current.attrs change)

-- the write of a job is a deed: its cells are those of its columns, in the schema that holds at its stamp of those that it listed
pub record IsWritten (jobs : List Job) (past : History) (told : List Told) (number : ℕ) (job : Job) : Type 0 where
  pub cells_in : WriteIn
  pub writes_them : job.command ≡ Write cells_in
  pub schemas : ListedAt told number Schemas
  pub current : Schema
  pub undone : IsUndone (history_told jobs past schemas.before) job
  pub holds : current_schema (history_told jobs past schemas.before) job.at ≡ Some current
  pub frame : Frame
  pub framed : frame_in (history_told jobs past told) ≡ Some frame
  pub cells : List Cell
  pub lays : laid frame current.attrs cells_in ≡ Ok cells
  pub written : Contains (writes (history_told jobs past told)) (written_as job current.key cells)

-- the delete of a job is a deed: its condition is that of its text, in the schema that holds at its stamp of those that it listed
pub record IsDeleted (jobs : List Job) (past : History) (told : List Told) (number : ℕ) (job : Job) : Type 0 where
  pub text : List ℕ
  pub deletes : job.command ≡ Delete text
  pub schemas : ListedAt told number Schemas
  pub current : Schema
  pub undone : IsUndone (history_told jobs past schemas.before) job
  pub holds : current_schema (history_told jobs past schemas.before) job.at ≡ Some current
  pub frame : Frame
  pub framed : frame_in (history_told jobs past told) ≡ Some frame
  pub condition : Condition
  pub says : delete_condition frame current.attrs text ≡ Ok condition
  pub erased : Contains (deletions (history_told jobs past told)) (deletion_as job condition)

-- ---- consolidations

-- the heads of the fragments that are committed in a map and lie in [a, b]
pub record AreInside (spelled : Spelled) (h : History) (m : Held) (a b : ℕ) (heads : List Head) : Type 0 where
  pub frags : list_map (λ head. head.frag) heads ≡ filter (is_inside a b) (committed_in (names_under Commits m))
  pub each : (head : Head) → Contains heads head → (p : Piece) × HoldsIn spelled h m head.frag p × (p.head ≡ head)

-- what all `.vac` objects of committed fragments name
pub record AreAllVacs (m : Held) (vacs : List VacOf) : Type 0 where
  pub frags : list_map (λ v. v.frag) vacs ≡ counting_in (names_under Commits m)
  pub each : (v : VacOf) → Contains vacs v → Names m v.frag v.names

-- how many attributes the schema of a key has in a history
abbrev pub attributes_with : History → Key → ℕ
attributes_with h k = option_map_or (λ s. length s.attrs) (schema_with h k) 0

-- the plan of a consolidation of [from, to], over the fragments that are committed in a map
pub record IsPlanned (spelled : Spelled) (h : History) (m : Held) (from to : ℕ) (limits : Limits) (plan : Planned) : Type 0 where
  pub heads : List Head
  pub are_heads : AreInside spelled h m from to heads
  pub vacs : List VacOf
  pub are_vacs : AreAllVacs m vacs
  pub is : plan_of heads vacs (attributes_with h) from to limits ≡ plan

-- a job found the schema that holds where it looks, as it listed the schemas
pub record FindsSchema (jobs : List Job) (past : History) (told : List Told) (number : ℕ) (job : Job) : Type 0 where
  pub schemas : ListedAt told number Schemas
  pub current : Schema
  pub holds : current_schema (history_told jobs past schemas.before) (looked_at job) ≡ Some current

-- what was told up to a call, the call included
abbrev pub up_to : List Told → Told → List Told
up_to before made = before ++ made ∷ []

-- a consolidation merged so many fragments into one of its own: those that its plan takes over the commits that it listed. Once its `.wrt` was put, just what went into a source had gone into the new fragment. The `.vac` of that one named the sources, and what the `.vac` objects of these named
pub record IsMerged (spelled : Spelled) (opening : Held) (jobs : List Job) (past : History) (told : List Told) (number : ℕ) (job : Job) (f : FragKey) (count : ℕ) : Type 0 where
  pub from : ℕ
  pub to : ℕ
  pub limits : Limits
  pub merges : job.command ≡ Consolidate from to limits
  pub commits : ListedAt told number Commits
  pub sources : List FragKey
  pub by_plan : IsPlanned spelled (history_told jobs past commits.before) (held_told opening commits.before) from to limits (planned.Take sources)
  pub counted : count ≡ length sources
  pub found : FindsSchema jobs past told number job
  pub own : f.id ≡ job.id
  pub put : MadeAt told number (call.Put (wrt_of f) [])
  pub later : List Told
  pub order : put.before ≡ commits.before ++ commits.listing ∷ later
  pub committed : IsCommitted (held_told opening (up_to put.before put.made)) f
  pub piece : Piece
  pub holds : HoldsIn spelled (history_told jobs past (up_to put.before put.made)) (held_told opening (up_to put.before put.made)) f piece
  pub origins : (k : Key) → has_origin k piece.head ≡ list_any (has_origin k) (filter (λ head. is_among head.frag sources) by_plan.heads)
  pub merged : Names (held_told opening (up_to put.before put.made)) f (names_merged by_plan.vacs sources)

-- a consolidation found so many fragments that may be merged, of the commits that it listed, and its plan takes none
pub record FindsNothing (spelled : Spelled) (opening : Held) (jobs : List Job) (past : History) (told : List Told) (number : ℕ) (job : Job) (count : ℕ) : Type 0 where
  pub from : ℕ
  pub to : ℕ
  pub limits : Limits
  pub merges : job.command ≡ Consolidate from to limits
  pub commits : ListedAt told number Commits
  pub by_plan : IsPlanned spelled (history_told jobs past commits.before) (held_told opening commits.before) from to limits (planned.Nothing count)
  pub found : FindsSchema jobs past told number job

-- ---- unlocks, and lists of the commits

-- the leases that an unlock of a seed and a lane takes for dead, of those that are held after these calls
abbrev pub dead_leases : ℕ → ℕ → Held → List Told → List Name
dead_leases seed lane opening told = leases_unlocked seed lane (names_under Leases (held_told opening told))

-- a job removed an object: a call of it asked for that, and right after the call the object was not held
pub record IsGone (opening : Held) (told : List Told) (number : ℕ) (n : Name) : Type 0 where
  pub removed : MadeAt told number (call.Remove n)
  pub gone : map.get (held_told opening (up_to removed.before removed.made)) n ≡ None

-- an unlock removed so many leases: those that it takes for dead of those that it listed
pub record IsUnlocked (opening : Held) (told : List Told) (number : ℕ) (job : Job) (count : ℕ) : Type 0 where
  pub seed : ℕ
  pub lane : ℕ
  pub unlocks : job.command ≡ Unlock seed lane
  pub leases : ListedAt told number Leases
  pub counted : count ≡ length (dead_leases seed lane opening leases.before)
  pub gone : (n : Name) → Contains (dead_leases seed lane opening leases.before) n → IsGone opening told number n

-- ---- vacuums

-- a job listed the parts of a fragment after a listing of its own
pub record ListsPartsAfter (told : List Told) (number : ℕ) (before : List Told) (listing : Told) (f : FragKey) : Type 0 where
  pub parts : ListedAt told number (Fragment f)
  pub between : List Told
  pub order : parts.before ≡ before ++ listing ∷ between

-- a job removed all that it found of a fragment: its `.wrt` and its `.vac`, where they were held at the job's listing of the commits, and each part that was held as it listed them after that
pub record IsSweptAway (opening : Held) (told : List Told) (number : ℕ) (before : List Told) (listing : Told) (f : FragKey) : Type 0 where
  pub commit : IsCommitted (held_told opening before) f → IsGone opening told number (wrt_of f)
  pub lists : ListsPartsAfter told number before listing f
  pub each_part : (n : Name) → Contains (names_under (Fragment f) (held_told opening lists.parts.before)) n → IsGone opening told number n
  pub own_vac : IsTrue (map.contains_key (held_told opening before) (vac_of f)) → IsGone opening told number (vac_of f)

-- the removal set of a vacuum has so many fragments: all that the `.vac` objects of fragments name that were committed as it listed the commits. Of each of them it removed all that it found, and it removed those `.vac` objects
pub record IsVacuumed (opening : Held) (jobs : List Job) (past : History) (told : List Told) (number : ℕ) (job : Job) (count : ℕ) : Type 0 where
  pub vacuums : job.command ≡ Vacuum
  pub commits : ListedAt told number Commits
  pub found : FindsSchema jobs past told number job
  pub vacs : List VacOf
  pub are_vacs : AreAllVacs (held_told opening commits.before) vacs
  pub counted : count ≡ length (removal_set vacs)
  pub swept : (f : FragKey) → Contains (removal_set vacs) f → IsSweptAway opening told number commits.before commits.listing f
  pub vacs_gone : (v : VacOf) → Contains vacs v → IsGone opening told number (vac_of v.frag)

-- a job told the names of the commits that were held as it listed them
pub record IsListed (opening : Held) (told : List Told) (number : ℕ) (job : Job) (names : List Name) : Type 0 where
  pub lists : job.command ≡ Fragments
  pub commits : ListedAt told number Commits
  pub names_are : names ≡ names_under Commits (held_told opening commits.before)

-- ---- all ends

-- the kind of the commit by which a command's deed comes: a `.del` for a delete, else a `.wrt`
abbrev pub kind_of : Command → CommitKind
kind_of (Delete text) = Del
kind_of _ = Wrt

-- what a refusal tells, where a map was held at the beginning: no object is missing, damaged or taken, and a refused job has no deed under its key, but perhaps where the put of its own `.wrt`, `.del` or schema failed; a consolidation that has nothing to do found so many fragments that may be merged
abbrev pub IsTrueRefusal : Spelled → Held → List Job → History → List Told → ℕ → Job → Refusal → Type 0
IsTrueRefusal spelled opening jobs past told number job (refusal.Missing n) = ⊥
IsTrueRefusal spelled opening jobs past told number job (refusal.Damaged n at) = ⊥
IsTrueRefusal spelled opening jobs past told number job (refusal.Taken n) = ⊥
IsTrueRefusal spelled opening jobs past told number job (refusal.StoreFault (place.Name (name.Commit f kind))) = (f ≡ frag_of_job job) × (kind ≡ kind_of job.command) ⊎ IsUndone (history_told jobs past told) job
IsTrueRefusal spelled opening jobs past told number job (refusal.StoreFault (place.Name (name.Schema k))) = (k ≡ key_of job) ⊎ IsUndone (history_told jobs past told) job
IsTrueRefusal spelled opening jobs past told number job (refusal.NothingToDo count) = IsUndone (history_told jobs past told) job × FindsNothing spelled opening jobs past told number job count
IsTrueRefusal spelled opening jobs past told number job r = IsUndone (history_told jobs past told) job

-- what an end tells of the history, and that of a read, of a consolidation, of a vacuum, of an unlock and of a list of the commits of the objects too
abbrev pub IsTrueEnd : Spelled → Held → List Job → History → List Told → ℕ → Job → Outcome → Type 0
IsTrueEnd spelled opening jobs past told number job outcome.Created = IsCreated jobs past told number job
IsTrueEnd spelled opening jobs past told number job (outcome.Evolved k) = (k ≡ key_of job) × IsEvolved jobs past told number job
IsTrueEnd spelled opening jobs past told number job (outcome.Written f) = (f ≡ frag_of_job job) × IsWritten jobs past told number job
IsTrueEnd spelled opening jobs past told number job (outcome.Deleted f) = (f ≡ frag_of_job job) × IsDeleted jobs past told number job
IsTrueEnd spelled opening jobs past told number job (outcome.Read answer) = (from : ℕ) × (to : ℕ) × (query : Query) × (job.command ≡ Read from to query) × AnswersAt spelled opening jobs past told number from to query answer
IsTrueEnd spelled opening jobs past told number job (outcome.Consolidated f count) = IsUndone (history_told jobs past told) job × IsMerged spelled opening jobs past told number job f count
IsTrueEnd spelled opening jobs past told number job (outcome.Vacuumed count) = IsUndone (history_told jobs past told) job × IsVacuumed opening jobs past told number job count
IsTrueEnd spelled opening jobs past told number job (outcome.Unlocked count) = IsUndone (history_told jobs past told) job × IsUnlocked opening told number job count
IsTrueEnd spelled opening jobs past told number job (outcome.Listed names) = IsUndone (history_told jobs past told) job × IsListed opening told number job names
IsTrueEnd spelled opening jobs past told number job (outcome.Refused r) = IsTrueRefusal spelled opening jobs past told number job r
IsTrueEnd spelled opening jobs past told number job outcome.OutOfMemory = ⊤

-- what an end tells of the history and of the objects, where a map was held at the beginning; a job that ended for want of memory has no deed
abbrev pub IsTrueOver : Spelled → Held → List Job → History → List Told → ℕ → Job → Outcome → Type 0
IsTrueOver spelled opening jobs past told number job outcome.OutOfMemory = IsUndone (history_told jobs past told) job
IsTrueOver spelled opening jobs past told number job end = IsTrueEnd spelled opening jobs past told number job end
