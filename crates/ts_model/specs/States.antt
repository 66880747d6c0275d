-- How a job goes: the call that it makes next, and where a reply leads it.
use Rattle.std.specs.Prelude.{ℕ, ℤ, ◌-◌, ◌/◌, ◌%◌, ◌^◌, Bool, true, false, cond, not, ◌&&◌, ◌||◌, if◌then◌else◌, List, [], ◌∷◌, ◌++◌, Option, Some, None, option_map, option_and_then, filter, filter_map, length, nat_le, nat_lt, nat_eq, slice_get, Result, Ok, Err, find, drop, suc, map as list_map}
use Rattle.ts_base.specs.declared.keys.Key.{Key}
use Rattle.ts_base.specs.declared.keys.FragKey.{FragKey}
use Rattle.ts_base.specs.declared.names.Name.{Name}
use Rattle.ts_base.specs.declared.names.Place.{Place}
use Rattle.ts_base.specs.declared.names.PartBytes.{PartBytes}
use Rattle.ts_base.specs.declared.heads.Version.{Version}
use Rattle.ts_base.specs.declared.heads.Head.{Head}
use Rattle.ts_base.specs.declared.heads.Piece.{Piece}
use Rattle.ts_base.specs.declared.heads.Cell.{Cell}
use Rattle.ts_base.specs.declared.values.Val.{Val}
use Rattle.ts_store.specs.declared.call.Call.{Call}
use Rattle.ts_store.specs.declared.call.Reply.{Reply}
use Rattle.ts_model.specs.declared.commands.Command.{Command}
use Rattle.ts_model.specs.declared.commands.Job.{Job}
use Rattle.ts_model.specs.declared.commands.FrameIn.{FrameIn}
use Rattle.ts_model.specs.declared.answers.Answer.{Answer}
use Rattle.ts_model.specs.declared.answers.Outcome.{Outcome}
use Rattle.ts_model.specs.declared.answers.Refusal.{Refusal}
use Rattle.ts_model.specs.declared.states.State.{State}
use Rattle.ts_model.specs.declared.states.Creating.{Creating}
use Rattle.ts_model.specs.declared.states.Seeking.{Seeking}
use Rattle.ts_model.specs.declared.states.Collecting.{Collecting}
use Rattle.ts_model.specs.declared.states.Merging.{Merging}
use Rattle.ts_model.specs.declared.states.Candidates.{Candidates}
use Rattle.ts_model.specs.declared.states.Survey.{Survey}
use Rattle.ts_model.specs.declared.states.Sweep.{Sweep}
use Rattle.ts_model.specs.declared.states.Sweeping.{Sweeping}
use Rattle.ts_model.specs.declared.states.Sweeping.TheVariants as sweeping
use Rattle.ts_model.specs.declared.states.NewObject.{NewObject}
use Rattle.ts_model.specs.declared.states.Opened.{Opened}
use Rattle.ts_model.specs.declared.states.Reading.{Reading}
use Rattle.ts_model.specs.declared.states.Listed.{Listed}
use Rattle.ts_model.specs.declared.deeds.Deletion.{Deletion}
use Rattle.ts_model.specs.declared.queries.Ready.{Ready}
use Rattle.ts_schema.specs.declared.frames.Frame.{Frame}
use Rattle.ts_schema.specs.declared.schemas.Schema.{Schema}
use Rattle.ts_schema.specs.declared.attrs.Attr.{Attr}
use Rattle.ts_schema.specs.declared.wants.Want.{Want}
use Rattle.std.specs.List.{list_any}
use Rattle.std.specs.Option.{is_none, is_some, option_map_or}
use Rattle.std.specs.Str.{bytes_eq}
use Rattle.ts_base.specs.Keys.{key_eq, key_cmp, key_lt}
use Rattle.ts_base.specs.Names.{wrt_of, del_of}
use Rattle.ts_domain.specs.declared.boxes.SubBox.{SubBox}
use Rattle.ts_domain.specs.Boxes.{coords_of_box}
use Rattle.ts_domain.specs.Domains.{whole_domain}
use Rattle.ts_commit.specs.declared.vacs.Limits.{Limits}
use Rattle.ts_commit.specs.declared.vacs.VacOf.{VacOf}
use Rattle.ts_commit.specs.declared.vacs.Planned.{Planned}
use Rattle.ts_commit.specs.Plans.{is_inside, plan_of}
use Rattle.ts_commit.specs.Selections.{is_among, loaded, clipped_names, names_merged, removal_set}
use Rattle.ts_commit.specs.Vacs.{names_of, vac_object}
use Rattle.ts_cond.specs.CondTexts.{cond_object, cond_of}
use Rattle.ts_cond.specs.Picks.{matches}
use Rattle.ts_cond.specs.Tests.{Condition}
use Rattle.ts_schema.specs.Attrs.{shown_row}
use Rattle.ts_schema.specs.Evolutions.{evolved_attrs, evolution_fault, schema_at}
use Rattle.ts_schema.specs.FrameTexts.{frame_object, frame_of}
use Rattle.ts_schema.specs.SchemaTexts.{schema_object, schema_of}
use Rattle.ts_model.specs.declared.commands.Command.TheVariants.{Create, Evolve, Write, Read, Delete, Consolidate, Vacuum, Unlock, Fragments}
use Rattle.ts_model.specs.declared.states.State.TheVariants.{Creates, Seeks, Puts, Collects, Merges, Lists, Sweeps, Removes, Over}
use Rattle.ts_model.specs.declared.states.Creating.TheVariants.{PutsFrame, ComparesFrame, ListsDeclared}
use Rattle.ts_model.specs.declared.states.Seeking.TheVariants.{ListsCommits, ListsSchemas, GetsSchema, GetsFrame}
use Rattle.ts_model.specs.declared.states.Collecting.TheVariants.{GetsVacs, GetsHeads, GetsSchemas, GetsDeletes, Fetches}
use Rattle.ts_base.specs.declared.names.CommitKind.TheVariants.{Wrt, Del, Vac}
use Rattle.ts_base.specs.declared.names.Prefix.TheVariants.{Commits, Fragment, Leases, Schemas}
use Rattle.ts_model.specs.Pieces.{newest_of}
use Rattle.ts_model.specs.Merging.{merged_with, all_got}
use Rattle.ts_model.specs.Codecs.{Stepped, Codec, Asks, Takes, Breaks}
use Rattle.ts_model.specs.Jobs.{key_of, frag_of_job, written_as, refused_before, looked_at}
use Rattle.ts_model.specs.Deeds.{schemas, keys}
use Rattle.ts_model.specs.Answers.{fills_of}
use Rattle.ts_model.specs.Commands.{frame_made, laid, piece_of}
use Rattle.ts_model.specs.Queries.{attr_fields, places_from, delete_condition, ready_in, selected, types_shown}
use Rattle.ts_model.specs.Used.{used_attrs, places_used}
use Rattle.ts_base.specs.declared.names.Name.TheVariants as name
use Rattle.ts_base.specs.declared.names.Place.TheVariants as place
use Rattle.ts_store.specs.declared.call.Call.TheVariants as call
use Rattle.ts_store.specs.declared.call.Reply.TheVariants as reply
use Rattle.ts_model.specs.declared.answers.Outcome.TheVariants as outcome
use Rattle.ts_model.specs.declared.answers.Refusal.TheVariants as refusal
use Rattle.ts_model.specs.declared.states.Merging.TheVariants as merging
use Rattle.ts_commit.specs.declared.vacs.Planned.TheVariants as planned
use Rattle.std.specs.FinMap as map

-- ---- names

-- the schema object of a job
abbrev pub schema_name : Job → Name
schema_name job = name.Schema (key_of job)

-- the object by which the fragment of a job is committed
abbrev pub commit_of : Job → Name
commit_of job = wrt_of (frag_of_job job)

-- the fragment that a `.wrt` commits
abbrev pub wrt_in : Name → Option FragKey
wrt_in (name.Commit f Wrt) = Some f
wrt_in _ = None

-- the committed fragments of a listing, in its order
abbrev pub committed_in : List Name → List FragKey
committed_in names = filter_map wrt_in names

-- the delete whose object has the name
abbrev pub del_in : Name → Option FragKey
del_in (name.Commit f Del) = Some f
del_in _ = None

-- the deletes of a listing, in its order
abbrev pub deletes_in : List Name → List FragKey
deletes_in names = filter_map del_in names

-- the object by which a consolidated fragment names those that it replaces
abbrev pub vac_of : FragKey → Name
vac_of f = name.Commit f Vac

-- the fragment whose `.vac` has the name
abbrev pub vac_in : Name → Option FragKey
vac_in (name.Commit f Vac) = Some f
vac_in _ = None

-- the fragments of a listing that have a `.vac`, in its order
abbrev pub with_vac_in : List Name → List FragKey
with_vac_in names = filter_map vac_in names

-- the fragments of a listing whose `.vac` counts, in its order: they are committed
abbrev pub counting_in : List Name → List FragKey
counting_in names = filter (λ f. is_among f (committed_in names)) (with_vac_in names)

-- the key of a schema object
abbrev pub schema_key_in : Name → Option Key
schema_key_in (name.Schema k) = Some k
schema_key_in _ = None

-- the schemas of a listing
abbrev pub schemas_in : List Name → List Key
schemas_in names = filter_map schema_key_in names

-- the span of the fragment meets [a, b]; nothing meets an empty interval
abbrev pub meets : ℕ → ℕ → FragKey → Bool
meets a b f = nat_le a b && (nat_le f.t1 b && nat_le a f.t2)

-- nothing to look into
abbrev pub nothing_listed : Listed
nothing_listed = record { fragments = []; counting = []; delete_names = [] }

-- what a read looks into: of its listing the committed fragments whose span meets the interval, those that have a `.vac`, and the deletes that are stamped in the interval
abbrev pub looked_into : Command → List Name → Listed
looked_into (Read from to query) names = record { fragments = filter (meets from to) (committed_in names); counting = counting_in names; delete_names = filter (meets from to) (deletes_in names) }
looked_into _ names = nothing_listed

-- ---- how jobs end

-- over with a refusal
abbrev pub refuse : {F : Type 0} → Refusal → State F
refuse r = Over (outcome.Refused r)

-- over where there is a refusal
abbrev pub unless_refused : {F : Type 0} → State F → Option Refusal → State F
unless_refused s None = s
unless_refused s (Some r) = refuse r

-- the object or the prefix that a call speaks of
abbrev pub place_of : Call → Place
place_of (call.Put n bytes) = place.Name n
place_of (call.Remove n) = place.Name n
place_of (call.List prefix) = place.Prefix prefix
place_of (call.Get n from len) = place.Name n
place_of (call.Size n) = place.Name n

-- the end of a job by a reply that does not let it go on
abbrev pub end_by : Call → Reply → Outcome
end_by c reply.Failed = outcome.Refused (refusal.StoreFault (place_of c))
end_by (call.Put n bytes) reply.Taken = outcome.Refused (refusal.Taken n)
end_by (call.Get n from len) reply.Absent = outcome.Refused (refusal.Missing n)
end_by (call.Size n) reply.Absent = outcome.Refused (refusal.Missing n)
end_by c r = outcome.OutOfMemory

-- how a job ends by a reply that does not let it go on
abbrev pub ended : {F : Type 0} → Call → Reply → State F
ended c r = Over (end_by c r)

-- an object is damaged at an offset
abbrev pub damaged : {F : Type 0} → Name → ℕ → State F
damaged n at = refuse (refusal.Damaged n at)

-- ---- calls

-- the listing of the schemas
abbrev pub list_schemas : Call
list_schemas = call.List Schemas

-- the listing of the commits
abbrev pub list_commits : Call
list_commits = call.List Commits

-- the listing of the leases
abbrev pub list_leases : Call
list_leases = call.List Leases

-- all of an object
abbrev pub get_all : Name → Call
get_all n = call.Get n 0 (2 ^ 64 - 1)

-- the put of an object
abbrev pub put_of : NewObject → Call
put_of o = call.Put o.name o.bytes

-- the frame that a command makes, and its first attributes
abbrev pub made_by : Command → Option FrameIn
made_by (Create f) = Some f
made_by _ = None

-- the put of the frame of a create
abbrev pub frame_put : FrameIn → Call
frame_put f = call.Put name.Domain (frame_object (frame_made f))

-- the object of a job's schema with these attributes
abbrev pub schema_object_of : Job → List Attr → NewObject
schema_object_of job attrs = record { name = schema_name job; bytes = schema_object attrs }

-- an object for each part of a fragment
abbrev pub part_objects : FragKey → List PartBytes → List NewObject
part_objects frag parts = list_map (λ x. record { name = name.Part frag x.part; bytes = x.bytes }) parts

-- the objects that a write job puts: the parts of its fragment, and then the empty `.wrt`
abbrev pub write_objects : {F : Type 0} → Codec F → Frame → Schema → Job → List Cell → List NewObject
write_objects codec frame s job cells =
    part_objects (frag_of_job job) (codec.parts frame s (piece_of frame (written_as job s.key cells))) ++ record { name = commit_of job; bytes = [] } ∷ []

-- the object of a delete job with this condition
abbrev pub delete_object_of : Job → Condition → NewObject
delete_object_of job condition = record { name = del_of (key_of job); bytes = cond_object condition }

-- ---- puts

-- a job puts objects from a place on, and ends after the last
abbrev pub putting : {F : Type 0} → List NewObject → ℕ → Outcome → State F
putting objects next end = cond (nat_lt next (length objects)) (Puts objects next end) (Over end)

-- the put of a job's schema, after which it ends so
abbrev pub puts_schema : {F : Type 0} → Job → List Attr → Outcome → State F
puts_schema job attrs end = putting (schema_object_of job attrs ∷ []) 0 end

-- a create puts its first schema
abbrev pub puts_first : {F : Type 0} → Job → Option FrameIn → State F
puts_first job (Some f) = puts_schema job f.attrs outcome.Created
puts_first job None = Over outcome.OutOfMemory

-- ---- reads

-- the schema of a key among those that a read knows
abbrev pub known_schema : Reading → List Schema → Key → Option Schema
known_schema r schemas k = if key_eq k r.current.key then Some r.current else find (λ s. key_eq s.key k) schemas

-- the attributes of the schema of a key among those that a read knows
abbrev pub known_attrs : Reading → List Schema → Key → List Attr
known_attrs r schemas k = option_map_or (λ s. s.attrs) (known_schema r schemas k) []

-- of the schema of a key, the attributes whose values a read gets: those that it uses
abbrev pub attrs_got : Reading → List Schema → Key → List Attr
attrs_got r schemas k = used_attrs r (known_attrs r schemas k)

-- the keys of the further schemas that these heads name, ascending and each once
abbrev pub keys_named : Reading → List Opened → List Key
keys_named r opened = map.keys (map.from_entries {R = key_cmp} (list_map (λ o. (o.head.schema, o.head.schema)) (filter (λ o. not (key_eq o.head.schema r.current.key)) opened)))

-- a version of which the used values were got is erased by a delete of the read: one with a greater key matches it, under the version's own schema
abbrev pub is_erased_by : Reading → List Schema → Version → Bool
is_erased_by r schemas v = list_any (λ e. key_lt v.key e.key && matches e.cond v.coords (attr_fields (attrs_got r schemas v.schema)) v.row) r.deletions

-- a version's coordinates, and its row as it shows through the schema there; an attribute that the read does not use shows its fill
abbrev pub cell_shown : Reading → List Schema → Version → List ℤ × List Val
cell_shown r schemas v = (v.coords, shown_row (attrs_got r schemas v.schema) v.row r.current.attrs)

-- what is left of the versions that a read got: the newest of each cell, unless it is erased
abbrev pub cells_left : Reading → List Schema → List Version → List (List ℤ × List Val)
cells_left r schemas got = list_map (cell_shown r schemas) (filter (λ v. not (is_erased_by r schemas v)) (map.values (newest_of got)))

-- the row of a version as it shows through the schema there, unless it is erased
abbrev pub version_left : Reading → List Schema → Version → Option (List Val)
version_left r schemas v = cond (not (is_erased_by r schemas v)) (Some (shown_row (attrs_got r schemas v.schema) v.row r.current.attrs)) None

-- the row that a dense array shows where this is the newest version, if there is one: what is left of it, or else the fill
abbrev pub row_or_fill : Reading → List Schema → Option Version → List Val
row_or_fill r schemas newest = option_map_or (λ row. row) (option_and_then (version_left r schemas) newest) (fills_of r.current.attrs)

-- the cells of the box of a dense array, in row order
abbrev pub cells_filled : Reading → List Schema → List Version → List (List ℤ × List Val)
cells_filled r schemas got = list_map (λ c. (c, row_or_fill r schemas (map.get (newest_of got) c))) (coords_of_box (r.ready).sub)

-- the cells of a read that got these versions
abbrev pub cells_shown : Reading → List Schema → List Version → List (List ℤ × List Val)
cells_shown r schemas got = cond (r.frame).dense (cells_filled r schemas got) (cells_left r schemas got)

-- the answer of a read that got these versions
abbrev pub answer_of : Reading → List Schema → List Version → Answer
answer_of r schemas got = record {
  types = types_shown r.frame (r.current).attrs r.ready;
  rows = selected r.frame (r.current).attrs r.ready (cells_shown r schemas got);
  clipped = r.clipped;
}

-- what is wanted of a fragment with so many attributes: the cells of a box that are stamped in [a, b], with all their values
abbrev pub wanted : SubBox → ℕ → ℕ → List Attr → Want
wanted sub a b attrs = record { sub = sub; attrs = places_from 0 (length attrs); a = a; b = b }

-- what a read wants of a fragment: the cells of its box that are stamped in its interval, with the values that it uses
abbrev pub want_of : Reading → List Attr → Want
want_of r attrs = record { sub = r.ready.sub; attrs = places_used r 0 attrs; a = r.from; b = r.to }

-- where a step of a fetch leads: to a call, on with the versions, or to an end
abbrev pub fetch_leads : {F : Type 0} → Reading → List Opened → List Schema → ℕ → FragKey → List Version → (List Version → State F) → Stepped F → State F
fetch_leads r opened schemas next frag got on (Asks f c) = Collects (Fetches r opened schemas next frag got f c)
fetch_leads r opened schemas next frag got on (Takes vs) = on vs
fetch_leads r opened schemas next frag got on (Breaks part at) = damaged (name.Part frag part) at

-- where the beginning of a fetch leads
abbrev pub fetch_begins : {F : Type 0} → Codec F → Reading → List Opened → List Schema → ℕ → FragKey → List Version → (List Version → State F) → Result F ℕ → State F
fetch_begins codec r opened schemas next frag got on (Ok f) = fetch_leads r opened schemas next frag got on (codec.steps f reply.Start)
fetch_begins codec r opened schemas next frag got on (Err at) = damaged (name.Part frag (codec.head_part r.frame)) at

-- a read begins to fetch a fragment in its schema, which it knows
abbrev pub fetches_one : {F : Type 0} → Codec F → Reading → List Opened → List Schema → ℕ → Opened → List Version → (List Version → State F) → Option Schema → State F
fetches_one codec r opened schemas next o got on None = Over outcome.OutOfMemory
fetches_one codec r opened schemas next o got on (Some s) = fetch_begins codec r opened schemas next o.frag got on (codec.opens r.frame s o.frag o.object (want_of r s.attrs))

-- a read fetches the fragments from a place on, after the versions before; after the last it answers
abbrev pub fetching : {F : Type 0} → Codec F → Reading → List Opened → List Schema → ℕ → List Opened → List Version → State F
fetching codec r opened schemas next [] got = Over (outcome.Read (answer_of r schemas got))
fetching codec r opened schemas next (o ∷ rest) got = fetches_one codec r opened schemas next o got (λ vs. fetching codec r opened schemas (suc next) rest (got ++ vs)) (known_schema r schemas o.head.schema)

-- a read gets the next delete, or begins to fetch
abbrev pub getting_deletes : {F : Type 0} → Codec F → Reading → List Opened → List Schema → State F
getting_deletes codec r opened schemas = cond (nat_lt (length r.deletions) (length r.delete_names)) (Collects (GetsDeletes r opened schemas)) (fetching codec r opened schemas 0 opened [])

-- a read gets the next further schema, or goes on to the deletes
abbrev pub gathering : {F : Type 0} → Codec F → Reading → List Opened → List Key → List Schema → State F
gathering codec r opened keys schemas = cond (nat_lt (length schemas) (length keys)) (Collects (GetsSchemas r opened keys schemas)) (getting_deletes codec r opened schemas)

-- the heads of open fragments
abbrev pub heads_of : List Opened → List Head
heads_of opened = list_map (λ o. o.head) opened

-- the fragments that a read loads, of those that meet its interval
abbrev pub loaded_of : Reading → List Opened → List FragKey
loaded_of r opened = list_map (λ head. head.frag) (loaded r.from r.to (heads_of opened) r.vacs)

-- these of them
abbrev pub opened_among : List FragKey → List Opened → List Opened
opened_among frags opened = filter (λ o. is_among o.frag frags) opened

-- what a read reads, once it knows which fragments are clipped
abbrev pub with_clipped : Reading → List FragKey → Reading
with_clipped r clipped = record { from = r.from; to = r.to; ready = r.ready; frame = r.frame; current = r.current; fragments = r.fragments; counting = r.counting; vacs = r.vacs; clipped = clipped; delete_names = r.delete_names; deletions = r.deletions }

-- a read that knows what is clipped goes on with the fragments that it loads
abbrev pub loads : {F : Type 0} → Codec F → Reading → List Opened → State F
loads codec r chosen = gathering codec r chosen (keys_named r chosen) []

-- a read opens the next fragment, or selects what it loads once all are open
abbrev pub opening : {F : Type 0} → Codec F → Reading → List Opened → State F
opening codec r opened =
    cond (nat_lt (length opened) (length r.fragments)) (Collects (GetsHeads r opened)) (loads codec (with_clipped r (clipped_names r.from r.to (heads_of opened))) (opened_among (loaded_of r opened) opened))

-- a read gets the next `.vac`, or opens its fragments
abbrev pub getting_vacs : {F : Type 0} → Codec F → Reading → State F
getting_vacs codec r = cond (nat_lt (length r.vacs) (length r.counting)) (Collects (GetsVacs r)) (opening codec r [])

-- ---- consolidations

-- what a consolidation of [from, to] chooses from: of its listing the committed fragments in the interval, and those that have a `.vac`
abbrev pub candidates_in : ℕ → ℕ → List Name → Candidates
candidates_in from to names = record { fragments = filter (is_inside from to) (committed_in names); counting = counting_in names }

-- what a command chooses from: nothing, unless it is a consolidation
abbrev pub candidates_of : Command → List Name → Candidates
candidates_of (Consolidate from to limits) names = candidates_in from to names
candidates_of _ names = record { fragments = []; counting = [] }

-- what a consolidation knows before it got any `.vac`
abbrev pub survey_of : ℕ → ℕ → Limits → Candidates → Frame → Survey
survey_of from to limits c frame = record { from = from; to = to; limits = limits; frame = frame; fragments = c.fragments; counting = c.counting; vacs = [] }

-- with a `.vac` more
abbrev pub survey_with : Survey → FragKey → List FragKey → Survey
survey_with s f names = record { from = s.from; to = s.to; limits = s.limits; frame = s.frame; fragments = s.fragments; counting = s.counting; vacs = s.vacs ++ record { frag = f; names = names } ∷ [] }

-- the keys of the schemas that these heads name, ascending and each once
abbrev pub schemas_named : List Opened → List Key
schemas_named opened = map.keys (map.from_entries {R = key_cmp} (list_map (λ o. (o.head.schema, o.head.schema)) opened))

-- the schema of a key among these
abbrev pub schema_among : List Schema → Key → Option Schema
schema_among schemas k = find (λ s. key_eq s.key k) schemas

-- how many attributes it has
abbrev pub attributes_among : List Schema → Key → ℕ
attributes_among schemas k = option_map_or (λ s. length s.attrs) (schema_among schemas k) 0

-- the plan of a consolidation that opened all fragments and has their schemas
abbrev pub plan_for : Survey → List Opened → List Schema → Planned
plan_for s opened schemas = plan_of (heads_of opened) s.vacs (attributes_among schemas) s.from s.to s.limits

-- all of a fragment is wanted: each cell of the domain, whenever it is stamped, with all its values
abbrev pub all_of : Frame → List Attr → Want
all_of frame attrs = wanted (whole_domain frame.domain) 0 (2 ^ 64 - 1) attrs

-- the names of open fragments
abbrev pub frags_of : List Opened → List FragKey
frags_of opened = list_map (λ o. o.frag) opened

-- the object of the `.vac` of a fragment
abbrev pub vac_object_of : FragKey → List FragKey → NewObject
vac_object_of f names = record { name = vac_of f; bytes = vac_object names }

-- the objects that a consolidation puts: the parts of its fragment, the `.vac` that says what was merged into it, and then the empty `.wrt`
abbrev pub merge_objects : {F : Type 0} → Codec F → Frame → Schema → Piece → List FragKey → List NewObject
merge_objects codec frame s p names = part_objects p.head.frag (codec.parts frame s p) ++ vac_object_of p.head.frag names ∷ record { name = wrt_of p.head.frag; bytes = [] } ∷ []

-- what a first source and others are merged into, of which these versions were got
abbrev pub piece_merged : Job → Frame → Opened → List Opened → List (List Version) → Piece
piece_merged job frame o others got = merged_with frame job.id o.head (heads_of others) (all_got got)

-- a fragment can name the origins of the piece and count its cells: of origins, of versions and of the cells that its head counts there are fewer than 2^32 each
abbrev pub can_be_named : Piece → Bool
can_be_named p = nat_lt (length p.head.origins) (2 ^ 32) && (nat_lt (length p.versions) (2 ^ 32) && nat_lt p.head.cells (2 ^ 32))

-- a consolidation of so many fragments puts the piece, whose `.vac` is to have these names
abbrev pub puts_piece : {F : Type 0} → Codec F → Frame → Schema → List FragKey → ℕ → Piece → State F
puts_piece codec frame schema names count p = cond (can_be_named p) (putting (merge_objects codec frame schema p names) 0 (outcome.Consolidated p.head.frag count)) (Over outcome.OutOfMemory)

-- a consolidation puts what its sources are merged into
abbrev pub puts_merged : {F : Type 0} → Codec F → Job → Survey → Schema → List (List Version) → List Opened → State F
puts_merged codec job s schema got [] = Over outcome.OutOfMemory
puts_merged codec job s schema got (o ∷ others) = puts_piece codec s.frame schema (names_merged s.vacs (frags_of (o ∷ others))) (length (o ∷ others)) (piece_merged job s.frame o others got)

-- where a step of a fetch of a source leads: to a call, on with the versions, or to an end
abbrev pub source_leads : {F : Type 0} → Survey → List Opened → Schema → ℕ → FragKey → List (List Version) → (List Version → State F) → Stepped F → State F
source_leads s sources schema next frag got on (Asks f c) = Merges (merging.Fetches s sources schema next frag got f c)
source_leads s sources schema next frag got on (Takes vs) = on vs
source_leads s sources schema next frag got on (Breaks part at) = damaged (name.Part frag part) at

-- where the beginning of the fetch leads
abbrev pub source_begins : {F : Type 0} → Codec F → Survey → List Opened → Schema → ℕ → FragKey → List (List Version) → (List Version → State F) → Result F ℕ → State F
source_begins codec s sources schema next frag got on (Ok f) = source_leads s sources schema next frag got on (codec.steps f reply.Start)
source_begins codec s sources schema next frag got on (Err at) = damaged (name.Part frag (codec.head_part s.frame)) at

-- a consolidation fetches its sources from a place on, after those before; after the last it puts what they are merged into
abbrev pub merging_from : {F : Type 0} → Codec F → Job → Survey → List Opened → Schema → ℕ → List Opened → List (List Version) → State F
merging_from codec job s sources schema next [] got = puts_merged codec job s schema got sources
merging_from codec job s sources schema next (o ∷ rest) got =
    source_begins codec s sources schema next o.frag got (λ vs. merging_from codec job s sources schema (suc next) rest (got ++ vs ∷ [])) (codec.opens s.frame schema o.frag o.object (all_of s.frame schema.attrs))

-- a consolidation fetches its sources in their schema, which it knows
abbrev pub merges_in : {F : Type 0} → Codec F → Job → Survey → List Opened → Option Schema → State F
merges_in codec job s sources None = Over outcome.OutOfMemory
merges_in codec job s sources (Some schema) = merging_from codec job s sources schema 0 sources []

-- a consolidation has its sources, whose schema is that of the first one
abbrev pub merges_all : {F : Type 0} → Codec F → Job → Survey → List Schema → List Opened → State F
merges_all codec job s schemas [] = Over outcome.OutOfMemory
merges_all codec job s schemas (o ∷ others) = merges_in codec job s (o ∷ others) (schema_among schemas o.head.schema)

-- where the plan leads
abbrev pub on_plan : {F : Type 0} → Codec F → Job → Survey → List Opened → List Schema → Planned → State F
on_plan codec job s opened schemas (planned.Take frags) = merges_all codec job s schemas (opened_among frags opened)
on_plan codec job s opened schemas (planned.Nothing count) = refuse (refusal.NothingToDo count)

-- a consolidation gets the next schema, or plans
abbrev pub surveying : {F : Type 0} → Codec F → Job → Survey → List Opened → List Key → List Schema → State F
surveying codec job s opened keys schemas = cond (nat_lt (length schemas) (length keys)) (Merges (merging.GetsSchemas s opened keys schemas)) (on_plan codec job s opened schemas (plan_for s opened schemas))

-- a consolidation opens the next fragment, or goes on to the schemas
abbrev pub opening_next : {F : Type 0} → Codec F → Job → Survey → List Opened → State F
opening_next codec job s opened = cond (nat_lt (length opened) (length s.fragments)) (Merges (merging.GetsHeads s opened)) (surveying codec job s opened (schemas_named opened) [])

-- a consolidation gets the next `.vac`, or opens its fragments
abbrev pub getting_names : {F : Type 0} → Codec F → Job → Survey → State F
getting_names codec job s = cond (nat_lt (length s.vacs) (length s.counting)) (Merges (merging.GetsVacs s)) (opening_next codec job s [])

-- a consolidation that has the frame gets its first `.vac`
abbrev pub surveys : {F : Type 0} → Codec F → Job → Command → Candidates → Frame → State F
surveys codec job (Consolidate from to limits) c frame = getting_names codec job (survey_of from to limits c frame)
surveys codec job _ c frame = Over outcome.OutOfMemory

-- ---- the commands that begin with a listing of their own

-- the lane that an identifier has: the upper 32 of its lower 64 bits
abbrev pub lane_in : ℕ → ℕ
lane_in id = id / 2 ^ 32 % 2 ^ 32

-- an unlock of a seed and a lane removes the lease: its identifier has another seed, or that lane
abbrev pub is_unlocked : ℕ → ℕ → Name → Bool
is_unlocked seed lane (name.Lease k mode) = not (nat_eq (k.id / 2 ^ 64) seed) || nat_eq (lane_in k.id) lane
is_unlocked seed lane n = false

-- the leases of a listing that it removes, in its order
abbrev pub leases_unlocked : ℕ → ℕ → List Name → List Name
leases_unlocked seed lane names = filter (is_unlocked seed lane) names

-- a job removes objects from a place on, and ends after the last
abbrev pub removing : {F : Type 0} → List Name → ℕ → Outcome → State F
removing names next end = cond (nat_lt next (length names)) (Removes names next end) (Over end)

-- an unlock removes these leases, and tells how many they were
abbrev pub unlocks : {F : Type 0} → List Name → State F
unlocks names = removing names 0 (outcome.Unlocked (length names))

-- what such a command lists: an unlock the leases, and `fragments` the commits
abbrev pub listing_of : Command → Call
listing_of (Unlock seed lane) = list_leases
listing_of _ = list_commits

-- where the listed names lead it
abbrev pub lists : {F : Type 0} → Command → List Name → State F
lists (Unlock seed lane) names = unlocks (leases_unlocked seed lane names)
lists Fragments names = Over (outcome.Listed names)
lists _ names = Over outcome.OutOfMemory

-- ---- vacuums

-- the listing of the parts of a fragment
abbrev pub list_parts : FragKey → Call
list_parts f = call.List (Fragment f)

-- what a vacuum finds in a listing of the commits
abbrev pub sweep_of : List Name → Sweep
sweep_of names = record { committed = committed_in names; with_vac = with_vac_in names; counting = counting_in names; vacs = [] }

-- with a `.vac` more
abbrev pub sweep_with : Sweep → FragKey → List FragKey → Sweep
sweep_with s f names = record { committed = s.committed; with_vac = s.with_vac; counting = s.counting; vacs = s.vacs ++ record { frag = f; names = names } ∷ [] }

-- an object of a fragment, where the fragment is one of these
abbrev pub where_among : List FragKey → (FragKey → Name) → FragKey → List Name
where_among frags object f = cond (is_among f frags) (object f ∷ []) []

-- what a vacuum removes of a fragment: its `.wrt` where that was listed, then its parts, and then its own `.vac` where that was listed
abbrev pub names_of_one : Sweep → FragKey → List Name → List Name
names_of_one s f parts = where_among s.committed wrt_of f ++ (parts ++ where_among s.with_vac vac_of f)

-- the same of each of these fragments in turn
abbrev pub names_of_all : Sweep → List FragKey → List (List Name) → List Name
names_of_all s (f ∷ set) (parts ∷ listed) = names_of_one s f parts ++ names_of_all s set listed
names_of_all s _ _ = []

-- the `.vac` objects that it got, but for those of fragments of the set
abbrev pub vacs_beside : List VacOf → List FragKey → List Name
vacs_beside vacs set = list_map (λ v. vac_of v.frag) (filter (λ v. not (is_among v.frag set)) vacs)

-- all that a vacuum removes, in order: fragment by fragment, and then the other `.vac` objects
abbrev pub names_removed : Sweep → List FragKey → List (List Name) → List Name
names_removed s set listed = names_of_all s set listed ++ vacs_beside s.vacs set

-- a vacuum lists the parts of the next fragment, or goes on to its removals
abbrev pub listing_parts : {F : Type 0} → Sweep → List FragKey → List (List Name) → State F
listing_parts s set listed = cond (nat_lt (length listed) (length set)) (Sweeps (sweeping.ListsParts s set listed)) (removing (names_removed s set listed) 0 (outcome.Vacuumed (length set)))

-- a vacuum gets the next `.vac`, or goes on to the parts of what they name
abbrev pub sweeping_vacs : {F : Type 0} → Sweep → State F
sweeping_vacs s = cond (nat_lt (length s.vacs) (length s.counting)) (Sweeps (sweeping.GetsVacs s)) (listing_parts s (removal_set s.vacs) [])

-- a vacuum goes on where a schema holds at its stamp
abbrev pub where_swept : {F : Type 0} → Sweep → ℕ → Option Key → State F
where_swept s at None = refuse (refusal.NoSchema at)
where_swept s at (Some k) = sweeping_vacs s

-- ---- the work of a job in the schema there

-- a write puts its cells, or is refused
abbrev pub puts_cells : {F : Type 0} → Codec F → Job → Frame → Schema → Result (List Cell) Refusal → State F
puts_cells codec job frame s (Ok cells) = putting (write_objects codec frame s job cells) 0 (outcome.Written (frag_of_job job))
puts_cells codec job frame s (Err r) = refuse r

-- a delete puts its condition, or is refused
abbrev pub puts_delete : {F : Type 0} → Job → Result Condition Refusal → State F
puts_delete job (Ok condition) = putting (delete_object_of job condition ∷ []) 0 (outcome.Deleted (frag_of_job job))
puts_delete job (Err r) = refuse r

-- what a read reads, before it got any `.vac` or delete
abbrev pub reading_of : ℕ → ℕ → Listed → Frame → Schema → Ready → Reading
reading_of from to listed frame s ready = record { from = from; to = to; ready = ready; frame = frame; current = s; fragments = listed.fragments; counting = listed.counting; vacs = []; clipped = []; delete_names = listed.delete_names; deletions = [] }

-- a read gets its first `.vac`, or is refused
abbrev pub asks_for : {F : Type 0} → Codec F → ℕ → ℕ → Listed → Frame → Schema → Result Ready Refusal → State F
asks_for codec from to listed frame s (Ok ready) = getting_vacs codec (reading_of from to listed frame s ready)
asks_for codec from to listed frame s (Err r) = refuse r

-- what a job does once it has the schema there and the frame
abbrev pub works : {F : Type 0} → Codec F → Job → Command → Listed → Frame → Schema → State F
works codec job (Create f) listed frame s = Over outcome.OutOfMemory
works codec job (Evolve change) listed frame s = unless_refused (puts_schema job (evolved_attrs s.attrs change) (outcome.Evolved (key_of job))) (option_map refusal.SchemaBad (evolution_fault frame.domain s.attrs change))
works codec job (Write w) listed frame s = puts_cells codec job frame s (laid frame s.attrs w)
works codec job (Read from to query) listed frame s = asks_for codec from to listed frame s (ready_in frame s.attrs query)
works codec job (Delete text) listed frame s = puts_delete job (delete_condition frame s.attrs text)
works codec job (Consolidate from to limits) listed frame s = Over outcome.OutOfMemory
works codec job Vacuum listed frame s = Over outcome.OutOfMemory
works codec job (Unlock seed lane) listed frame s = Over outcome.OutOfMemory
works codec job Fragments listed frame s = Over outcome.OutOfMemory

-- ---- where replies lead

-- on with the names of a listing
abbrev pub on_names : {F : Type 0} → Call → (List Name → State F) → Reply → State F
on_names c on (reply.Names names) = on names
on_names c on r = ended c r

-- on with the bytes of an object
abbrev pub on_bytes : {F : Type 0} → Call → (List ℕ → State F) → Reply → State F
on_bytes c on (reply.Bytes bytes) = on bytes
on_bytes c on r = ended c r

-- on after a put of a new object
abbrev pub on_made : {F : Type 0} → Call → State F → Reply → State F
on_made c on reply.Made = on
on_made c on r = ended c r

-- on after a removal
abbrev pub on_removed : {F : Type 0} → Call → State F → Reply → State F
on_removed c on reply.Removed = on
on_removed c on r = ended c r

-- on with what an object spells, or it is damaged
abbrev pub on_read : {F A : Type 0} → Name → (A → State F) → Result A ℕ → State F
on_read n on (Ok x) = on x
on_read n on (Err at) = damaged n at

-- where the put of a frame leads: one that is there already is compared
abbrev pub after_frame : {F : Type 0} → Job → Call → Reply → State F
after_frame job c reply.Taken = Creates ComparesFrame
after_frame job c r = on_made c (puts_first job (made_by job.command)) r

-- the bytes are those of the frame that a create makes
abbrev pub is_own_frame : Option FrameIn → List ℕ → Bool
is_own_frame None bytes = false
is_own_frame (Some f) bytes = bytes_eq (frame_object (frame_made f)) bytes

-- where the schemas of a listing lead: to the schema there, if there is one
abbrev pub seeks : {F : Type 0} → Listed → ℕ → Option Key → State F
seeks listed at None = refuse (refusal.NoSchema at)
seeks listed at (Some k) = Seeks (GetsSchema listed k)

-- where the reply to a fetch's call leads: bytes and lengths are for the fetch
abbrev pub after_fetched : {F : Type 0} → Codec F → Reading → List Opened → List Schema → ℕ → FragKey → List Version → F → Call → Reply → State F
after_fetched codec r opened schemas next frag got f c (reply.Bytes bytes) =
    fetch_leads r opened schemas next frag got (λ vs. fetching codec r opened schemas (suc next) (drop (suc next) opened) (got ++ vs)) (codec.steps f (reply.Bytes bytes))
after_fetched codec r opened schemas next frag got f c (reply.Length n) =
    fetch_leads r opened schemas next frag got (λ vs. fetching codec r opened schemas (suc next) (drop (suc next) opened) (got ++ vs)) (codec.steps f (reply.Length n))
after_fetched codec r opened schemas next frag got f c r' = ended c r'

-- where the head of a fragment leads
abbrev pub after_head : {F : Type 0} → Codec F → Reading → List Opened → FragKey → List ℕ → State F
after_head codec r opened f bytes =
    on_read (name.Part f (codec.head_part r.frame)) (λ head. opening codec r (opened ++ record { frag = f; head = head; object = bytes } ∷ [])) (codec.head r.frame f bytes)

-- where a further schema leads
abbrev pub after_schema : {F : Type 0} → Codec F → Reading → List Opened → List Key → List Schema → Key → List ℕ → State F
after_schema codec r opened keys schemas k bytes =
    on_read (name.Schema k) (λ attrs. gathering codec r opened keys (schemas ++ record { key = k; attrs = attrs } ∷ [])) (schema_of bytes)

-- with a `.vac` more
abbrev pub with_vac : Reading → FragKey → List FragKey → Reading
with_vac r f names = record { from = r.from; to = r.to; ready = r.ready; frame = r.frame; current = r.current; fragments = r.fragments; counting = r.counting; vacs = r.vacs ++ record { frag = f; names = names } ∷ []; clipped = r.clipped; delete_names = r.delete_names; deletions = r.deletions }

-- where a `.vac` leads
abbrev pub after_vac : {F : Type 0} → Codec F → Reading → FragKey → List ℕ → State F
after_vac codec r f bytes = on_read (vac_of f) (λ names. getting_vacs codec (with_vac r f names)) (names_of bytes)

-- with a delete more
abbrev pub with_deletion : Reading → Deletion → Reading
with_deletion r e = record { from = r.from; to = r.to; ready = r.ready; frame = r.frame; current = r.current; fragments = r.fragments; counting = r.counting; vacs = r.vacs; clipped = r.clipped; delete_names = r.delete_names; deletions = r.deletions ++ e ∷ [] }

-- the delete under a name with this condition
abbrev pub deletion_named : FragKey → Condition → Deletion
deletion_named f condition = record { key = record { t = f.t1; id = f.id }; cond = condition }

-- where a delete leads
abbrev pub after_delete : {F : Type 0} → Codec F → Reading → List Opened → List Schema → FragKey → List ℕ → State F
after_delete codec r opened schemas f bytes =
    on_read (name.Commit f Del) (λ condition. getting_deletes codec (with_deletion r (deletion_named f condition)) opened schemas) (cond_of bytes)

-- with the item at a place; a job never asks past the last
abbrev pub with_item : {F A : Type 0} → (A → State F) → Option A → State F
with_item on (Some x) = on x
with_item on None = Over outcome.OutOfMemory

-- ---- the automaton

-- where a command begins: one that is refused before its first call is over
abbrev pub begins : {F : Type 0} → Command → State F
begins (Create f) = Creates PutsFrame
begins (Evolve change) = Seeks (ListsSchemas nothing_listed)
begins (Write w) = Seeks (ListsSchemas nothing_listed)
begins (Read from to query) = Seeks ListsCommits
begins (Delete text) = Seeks (ListsSchemas nothing_listed)
begins (Consolidate from to limits) = Merges merging.ListsCommits
begins Vacuum = Sweeps sweeping.ListsCommits
begins (Unlock seed lane) = Lists
begins Fragments = Lists

-- the first state of a job, which is over where the job is refused before its first call
abbrev pub begun : {F : Type 0} → Command → State F
begun command = unless_refused (begins command) (refused_before command)

-- the get of the part that has the head, in an array of a frame
abbrev pub get_head_in : {F : Type 0} → Codec F → Frame → FragKey → Call
get_head_in codec frame f = get_all (name.Part f (codec.head_part frame))

-- the same of a read
abbrev pub get_head : {F : Type 0} → Codec F → Reading → FragKey → Call
get_head codec r f = get_head_in codec r.frame f

-- the get of a `.vac`
abbrev pub get_vac : FragKey → Call
get_vac f = get_all (vac_of f)

-- the get of a schema
abbrev pub get_schema : Key → Call
get_schema k = get_all (name.Schema k)

-- the get of a delete
abbrev pub get_delete : FragKey → Call
get_delete f = get_all (name.Commit f Del)

-- the get of the frame
abbrev pub get_frame : Call
get_frame = get_all name.Domain

-- the next call of a create that has not come to its puts
abbrev pub create_asks : Job → Creating → Option Call
create_asks job PutsFrame = option_map frame_put (made_by job.command)
create_asks job ComparesFrame = Some get_frame
create_asks job ListsDeclared = Some list_schemas

-- the next call of a job that seeks its schema and the frame
abbrev pub seek_asks : Seeking → Call
seek_asks ListsCommits = list_commits
seek_asks (ListsSchemas listed) = list_schemas
seek_asks (GetsSchema listed current) = get_schema current
seek_asks (GetsFrame listed current) = get_frame

-- the next call of a read that collects
abbrev pub collect_asks : {F : Type 0} → Codec F → Collecting F → Option Call
collect_asks codec (GetsVacs r) = option_map get_vac (slice_get r.counting (length r.vacs))
collect_asks codec (GetsHeads r opened) = option_map (get_head codec r) (slice_get r.fragments (length opened))
collect_asks codec (GetsSchemas r opened keys schemas) = option_map get_schema (slice_get keys (length schemas))
collect_asks codec (GetsDeletes r opened schemas) = option_map get_delete (slice_get r.delete_names (length r.deletions))
collect_asks codec (Fetches r opened schemas next frag got f c) = Some c

-- the next call of a consolidation that has not come to its puts
abbrev pub merge_asks : {F : Type 0} → Codec F → Merging F → Option Call
merge_asks codec merging.ListsCommits = Some list_commits
merge_asks codec (merging.ListsSchemas c) = Some list_schemas
merge_asks codec (merging.GetsFrame c) = Some get_frame
merge_asks codec (merging.GetsVacs s) = option_map get_vac (slice_get s.counting (length s.vacs))
merge_asks codec (merging.GetsHeads s opened) = option_map (get_head_in codec s.frame) (slice_get s.fragments (length opened))
merge_asks codec (merging.GetsSchemas s opened keys schemas) = option_map get_schema (slice_get keys (length schemas))
merge_asks codec (merging.Fetches s sources schema next frag got f c) = Some c

-- the next call of a vacuum that has not come to its removals
abbrev pub sweep_asks : Sweeping → Option Call
sweep_asks sweeping.ListsCommits = Some list_commits
sweep_asks (sweeping.ListsSchemas s) = Some list_schemas
sweep_asks (sweeping.GetsVacs s) = option_map get_vac (slice_get s.counting (length s.vacs))
sweep_asks (sweeping.ListsParts s set listed) = option_map list_parts (slice_get set (length listed))

-- the next call of a job, if it is not over
abbrev pub asks : {F : Type 0} → Codec F → Job → State F → Option Call
asks codec job (Creates s) = create_asks job s
asks codec job (Seeks s) = Some (seek_asks s)
asks codec job (Puts objects next end) = option_map put_of (slice_get objects next)
asks codec job (Collects s) = collect_asks codec s
asks codec job (Merges s) = merge_asks codec s
asks codec job Lists = Some (listing_of job.command)
asks codec job (Sweeps s) = sweep_asks s
asks codec job (Removes names next end) = option_map call.Remove (slice_get names next)
asks codec job (Over o) = None

-- where a reply leads a create that has not come to its puts
abbrev pub create_goes : {F : Type 0} → Job → Creating → Reply → State F
create_goes job PutsFrame r = with_item (λ f. after_frame job (frame_put f) r) (made_by job.command)
create_goes job ComparesFrame r = on_bytes get_frame (λ bytes. cond (is_own_frame (made_by job.command) bytes) (Creates ListsDeclared) (refuse refusal.ArrayExists)) r
create_goes job ListsDeclared r = on_names list_schemas (λ names. cond (nat_eq (length names) 0) (puts_first job (made_by job.command)) (refuse refusal.ArrayExists)) r

-- where a reply leads a job that seeks its schema and the frame: once it has both, it works
abbrev pub seek_goes : {F : Type 0} → Codec F → Job → Seeking → Reply → State F
seek_goes codec job ListsCommits r = on_names list_commits (λ names. Seeks (ListsSchemas (looked_into job.command names))) r
seek_goes codec job (ListsSchemas listed) r = on_names list_schemas (λ names. seeks listed (looked_at job) (schema_at (schemas_in names) (looked_at job))) r
seek_goes codec job (GetsSchema listed current) r = on_bytes (get_schema current) (λ bytes. on_read (name.Schema current) (λ attrs. Seeks (GetsFrame listed (record { key = current; attrs = attrs }))) (schema_of bytes)) r
seek_goes codec job (GetsFrame listed current) r = on_bytes get_frame (λ bytes. on_read name.Domain (λ frame. works codec job job.command listed frame current) (frame_of bytes)) r

-- where a reply leads a read that collects
abbrev pub collect_goes : {F : Type 0} → Codec F → Collecting F → Reply → State F
collect_goes codec (GetsVacs r) r' = with_item (λ f. on_bytes (get_vac f) (after_vac codec r f) r') (slice_get r.counting (length r.vacs))
collect_goes codec (GetsHeads r opened) r' = with_item (λ f. on_bytes (get_head codec r f) (after_head codec r opened f) r') (slice_get r.fragments (length opened))
collect_goes codec (GetsSchemas r opened keys schemas) r' = with_item (λ k. on_bytes (get_schema k) (after_schema codec r opened keys schemas k) r') (slice_get keys (length schemas))
collect_goes codec (GetsDeletes r opened schemas) r' = with_item (λ f. on_bytes (get_delete f) (after_delete codec r opened schemas f) r') (slice_get r.delete_names (length r.deletions))
collect_goes codec (Fetches r opened schemas next frag got f c) r' = after_fetched codec r opened schemas next frag got f c r'

-- where the reply to a call of a source's fetch leads: bytes and lengths are for the fetch
abbrev pub after_source : {F : Type 0} → Codec F → Job → Survey → List Opened → Schema → ℕ → FragKey → List (List Version) → F → Call → Reply → State F
after_source codec job s sources schema next frag got f c (reply.Bytes bytes) =
    source_leads s sources schema next frag got (λ vs. merging_from codec job s sources schema (suc next) (drop (suc next) sources) (got ++ vs ∷ [])) (codec.steps f (reply.Bytes bytes))
after_source codec job s sources schema next frag got f c (reply.Length n) =
    source_leads s sources schema next frag got (λ vs. merging_from codec job s sources schema (suc next) (drop (suc next) sources) (got ++ vs ∷ [])) (codec.steps f (reply.Length n))
after_source codec job s sources schema next frag got f c r = ended c r

-- a consolidation goes on where a schema holds at its stamp
abbrev pub where_schema : {F : Type 0} → Candidates → ℕ → Option Key → State F
where_schema c at None = refuse (refusal.NoSchema at)
where_schema c at (Some k) = Merges (merging.GetsFrame c)

-- where a `.vac` leads a consolidation
abbrev pub after_names : {F : Type 0} → Codec F → Job → Survey → FragKey → List ℕ → State F
after_names codec job s f bytes = on_read (vac_of f) (λ names. getting_names codec job (survey_with s f names)) (names_of bytes)

-- where the head of a fragment leads it
abbrev pub after_opened : {F : Type 0} → Codec F → Job → Survey → List Opened → FragKey → List ℕ → State F
after_opened codec job s opened f bytes =
    on_read (name.Part f (codec.head_part s.frame)) (λ head. opening_next codec job s (opened ++ record { frag = f; head = head; object = bytes } ∷ [])) (codec.head s.frame f bytes)

-- where a schema leads it
abbrev pub after_surveyed : {F : Type 0} → Codec F → Job → Survey → List Opened → List Key → List Schema → Key → List ℕ → State F
after_surveyed codec job s opened keys schemas k bytes =
    on_read (name.Schema k) (λ attrs. surveying codec job s opened keys (schemas ++ record { key = k; attrs = attrs } ∷ [])) (schema_of bytes)

-- where a reply leads a consolidation that has not come to its puts
abbrev pub merge_goes : {F : Type 0} → Codec F → Job → Merging F → Reply → State F
merge_goes codec job merging.ListsCommits r = on_names list_commits (λ names. Merges (merging.ListsSchemas (candidates_of job.command names))) r
merge_goes codec job (merging.ListsSchemas c) r = on_names list_schemas (λ names. where_schema c (looked_at job) (schema_at (schemas_in names) (looked_at job))) r
merge_goes codec job (merging.GetsFrame c) r = on_bytes get_frame (λ bytes. on_read name.Domain (surveys codec job job.command c) (frame_of bytes)) r
merge_goes codec job (merging.GetsVacs s) r = with_item (λ f. on_bytes (get_vac f) (after_names codec job s f) r) (slice_get s.counting (length s.vacs))
merge_goes codec job (merging.GetsHeads s opened) r = with_item (λ f. on_bytes (get_head_in codec s.frame f) (after_opened codec job s opened f) r) (slice_get s.fragments (length opened))
merge_goes codec job (merging.GetsSchemas s opened keys schemas) r = with_item (λ k. on_bytes (get_schema k) (after_surveyed codec job s opened keys schemas k) r) (slice_get keys (length schemas))
merge_goes codec job (merging.Fetches s sources schema next frag got f c) r = after_source codec job s sources schema next frag got f c r

-- where a `.vac` leads a vacuum
abbrev pub after_swept : {F : Type 0} → Sweep → FragKey → List ℕ → State F
after_swept s f bytes = on_read (vac_of f) (λ names. sweeping_vacs (sweep_with s f names)) (names_of bytes)

-- where a reply leads a vacuum that has not come to its removals
abbrev pub sweep_goes : {F : Type 0} → Job → Sweeping → Reply → State F
sweep_goes job sweeping.ListsCommits r = on_names list_commits (λ names. Sweeps (sweeping.ListsSchemas (sweep_of names))) r
sweep_goes job (sweeping.ListsSchemas s) r = on_names list_schemas (λ names. where_swept s (looked_at job) (schema_at (schemas_in names) (looked_at job))) r
sweep_goes job (sweeping.GetsVacs s) r = with_item (λ f. on_bytes (get_vac f) (after_swept s f) r) (slice_get s.counting (length s.vacs))
sweep_goes job (sweeping.ListsParts s set listed) r = with_item (λ f. on_names (list_parts f) (λ names. listing_parts s set (listed ++ names ∷ [])) r) (slice_get set (length listed))

-- where a reply leads a job
abbrev pub goes : {F : Type 0} → Codec F → Job → State F → Reply → State F
goes codec job (Creates s) r = create_goes job s r
goes codec job (Seeks s) r = seek_goes codec job s r
goes codec job (Puts objects next end) r = with_item (λ o. on_made (put_of o) (putting objects (suc next) end) r) (slice_get objects next)
goes codec job (Collects s) r = collect_goes codec s r
goes codec job (Merges s) r = merge_goes codec job s r
goes codec job (Sweeps s) r = sweep_goes job s r
goes codec job Lists r = on_names (listing_of job.command) (lists job.command) r
goes codec job (Removes names next end) r = with_item (λ n. on_removed (call.Remove n) (removing names (suc next) end) r) (slice_get names next)
goes codec job (Over o) r = Over o

-- the job is over
abbrev pub is_over : {F : Type 0} → State F → Bool
is_over (Over end) = true
is_over s = false

-- ---- want of memory

-- memory can be wanting for what a reply leads to: not where an object was put or removed, nor where the job is over
abbrev pub takes_memory : {F : Type 0} → State F → Bool
takes_memory (Puts objects next end) = false
takes_memory (Removes names next end) = false
takes_memory (Over end) = false
takes_memory s = true

-- memory can be wanting for the next call: not for the removal of an object whose name is at hand, nor where the job is over
abbrev pub asks_memory : {F : Type 0} → State F → Bool
asks_memory (Removes names next end) = is_none (slice_get names next)
asks_memory (Over end) = false
asks_memory s = true

-- it has removed an object, and has more to remove
abbrev pub is_amid_removals : {F : Type 0} → State F → Bool
is_amid_removals (Removes names next end) = nat_lt 0 next && is_some (slice_get names next)
is_amid_removals s = false

-- ---- traces

-- a call and its reply
pub record Exchange : Type 0 where
  pub call : Call
  pub reply : Reply
