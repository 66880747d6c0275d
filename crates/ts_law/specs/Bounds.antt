-- How many gets a read makes at the most: by what it lists, and by the pieces that it loads.
use Rattle.std.specs.Prelude.{◌≡◌, ℕ, ◌+◌, ◌≤◌, List, ◌∷◌, Some, Ok, Err, ◌⊎◌, filter, length, Contains, map as list_map, ◌++◌, slice_get}
use Rattle.std.specs.List.{sum_by}
use Rattle.std.specs.Option.{option_map_or}
use Rattle.std.specs.Set.{distinct_count}
use Rattle.ts_base.specs.declared.keys.Key.{Key}
use Rattle.ts_base.specs.declared.heads.Head.{Head}
use Rattle.ts_base.specs.declared.heads.Piece.{Piece}
use Rattle.ts_base.specs.declared.names.Prefix.TheVariants.{Commits, Schemas}
use Rattle.ts_base.specs.Held.{Held}
use Rattle.ts_base.specs.Keys.{key_eq, frag_of}
use Rattle.ts_store.specs.declared.call.Call.{Call}
use Rattle.ts_store.specs.Calls.{names_under}
use Rattle.ts_schema.specs.declared.frames.Frame.{Frame}
use Rattle.ts_schema.specs.declared.schemas.Schema.{Schema}
use Rattle.ts_commit.specs.Selections.{is_among, loaded}
use Rattle.ts_cond.specs.declared.query.Query.{Query}
use Rattle.ts_model.specs.declared.answers.Refusal.{Refusal}
use Rattle.ts_model.specs.declared.deeds.Deletion.{Deletion}
use Rattle.ts_model.specs.declared.states.Reading.{Reading}
use Rattle.ts_model.specs.declared.commands.Command.TheVariants.{Read}
use Rattle.ts_model.specs.declared.commands.Job.{Job}
use Rattle.ts_model.specs.Codecs.{Spelled}
use Rattle.ts_model.specs.Gets.{gets_of, MostGets}
use Rattle.ts_model.specs.Deeds.{History, frame_in, schema_with, current_schema, deletions}
use Rattle.ts_model.specs.Queries.{ready_in}
use Rattle.ts_model.specs.Told.{Told, held_told, history_told, trace_of}
use Rattle.ts_model.specs.States.{committed_in, counting_in, deletes_in, meets, want_of}
use Rattle.ts_law.specs.Ends.{AreAllVacs, ListedAt}
use Rattle.ts_law.specs.Stands.{HoldsIn}

-- how many of the calls are gets
abbrev pub gets_among : List Call → ℕ
gets_among calls = sum_by gets_of calls

-- the heads of pieces
abbrev pub heads_in : List Piece → List Head
heads_in pieces = list_map (λ p. p.head) pieces

-- of these pieces, those in fragments that the read loads
abbrev pub pieces_loaded : Reading → List Piece → List Piece
pieces_loaded r pieces = filter (λ p. is_among p.head.frag (list_map (λ head. head.frag) (loaded r.from r.to (heads_in pieces) r.vacs))) pieces

-- the most gets by which a read fetches what it wants of a piece, in the schema that the piece is written in
abbrev pub most_for : MostGets → History → Reading → Piece → ℕ
most_for most h r p = option_map_or (λ s. most r.frame s p (want_of r s.attrs)) (schema_with h p.head.schema) 0

-- the schema there and those that heads name, each counted once
abbrev pub schema_count : Key → List Head → ℕ
schema_count current heads = distinct_count key_eq (current ∷ list_map (λ head. head.schema) heads)

-- the most gets of a read that finds these pieces in the fragments that it looks into: one for the frame, for each schema, for each `.vac` that counts, for each delete and for each fragment, and the most of each fetch
abbrev pub most_gets_of : MostGets → History → Reading → List Piece → ℕ
most_gets_of most h r pieces =
    1 + schema_count r.current.key (heads_in pieces) + length r.counting + length r.delete_names + length r.fragments + sum_by (most_for most h r) (pieces_loaded r pieces)

-- what a read of [from, to] asks for, by the schemas of a history, and what it lists of the objects that were held as it listed the commits; the history may have gone on from these. It is the committed fragments whose span meets the interval, the committed fragments that have a `.vac`, whatever their span, and the deletes in the interval
pub record ListsOver (h : History) (m : Held) (from to : ℕ) (query : Query) (r : Reading) : Type 0 where
  pub begins : r.from ≡ from
  pub ends : r.to ≡ to
  pub framed : frame_in h ≡ Some r.frame
  pub holds : current_schema h to ≡ Some r.current
  pub is_ready : ready_in r.frame r.current.attrs query ≡ Ok r.ready
  pub fragments_are : r.fragments ≡ filter (meets from to) (committed_in (names_under Commits m))
  pub counting_are : r.counting ≡ counting_in (names_under Commits m)
  pub deletes_are : r.delete_names ≡ filter (meets from to) (deletes_in (names_under Commits m))

-- what the read knows before its first fetch, and the pieces in the fragments that it looks into: it has the `.vac` objects that count, and the deletes in the interval
pub record ReadsOver (spelled : Spelled) (h : History) (m : Held) (from to : ℕ) (query : Query) (r : Reading) (pieces : List Piece) : Type 0 where
  pub asks : ListsOver h m from to query r
  pub frags : list_map (λ p. p.head.frag) pieces ≡ r.fragments
  pub each : (p : Piece) → Contains pieces p → HoldsIn spelled h m p.head.frag p
  pub vacs : AreAllVacs m r.vacs
  pub deletes : list_map (λ e. frag_of e.key) r.deletions ≡ r.delete_names
  pub deeds : (e : Deletion) → Contains r.deletions e → Contains (deletions h) e

-- so many gets are no more than a read of [from, to] may make that sees this history, and listed the commits as these objects were held
pub data FewGets (spelled : Spelled) (most : MostGets) (h : History) (m : Held) (from to : ℕ) (query : Query) (count : ℕ) : Type 0 where
  -- it makes none
  NoGets : count ≡ 0 → FewGets spelled most h m from to query count
  -- its query is refused: it makes two gets at the most
  GetsTwo : (frame : Frame) (current : Schema) (r : Refusal) → frame_in h ≡ Some frame → current_schema h to ≡ Some current → ready_in frame current.attrs query ≡ Err r → count ≤ 2
      → FewGets spelled most h m from to query count
  -- it gets no more than it may of what it lists, and of the pieces that it loads
  GetsFew : (r : Reading) (pieces : List Piece) → ReadsOver spelled h m from to query r pieces → count ≤ most_gets_of most h r pieces → FewGets spelled most h m from to query count

-- how many gets a job makes, those counted too that found no memory
abbrev pub gets_told : ℕ → List Told → ℕ
gets_told number told = gets_among (list_map (λ x. x.call) (trace_of number told))

-- so many gets of a read of a run are few by its listings: by what was held as it listed the commits, in the history as it then listed the schemas
pub record FewByListings (spelled : Spelled) (most : MostGets) (opening : Held) (jobs : List Job) (past : History) (told : List Told) (number from to : ℕ) (query : Query) (count : ℕ) : Type 0 where
  pub commits : ListedAt told number Commits
  pub schemas : ListedAt told number Schemas
  pub between : List Told
  pub order : schemas.before ≡ commits.before ++ commits.listing ∷ between
  pub few : FewGets spelled most (history_told jobs past schemas.before) (held_told opening commits.before) from to query count

-- each read of a run makes no get, or few by its listings
abbrev pub ReadsFewListed : Spelled → MostGets → List Job → History → Held → List Told → Type 0
ReadsFewListed spelled most jobs h m told =
    (number : ℕ) (job : Job) (from to : ℕ) (query : Query) → slice_get jobs number ≡ Some job → job.command ≡ Read from to query
    → (gets_told number told ≡ 0) ⊎ FewByListings spelled most m jobs h told number from to query (gets_told number told)

-- a read of a run made its calls one after the other: it makes few gets, by what was held before them
pub record IsFewRead (spelled : Spelled) (most : MostGets) (jobs : List Job) (h : History) (m : Held) (told : List Told) (number from to : ℕ) (query : Query) : Type 0 where
  pub front : List Told
  pub own : List Told
  pub rest : List Told
  pub parts : told ≡ front ++ own ++ rest
  pub mine : (e : Told) → Contains own e → e.job ≡ Some number
  pub all : trace_of number own ≡ trace_of number told
  pub few : FewGets spelled most (history_told jobs h front) (held_told m front) from to query (gets_among (list_map (λ x. x.call) (trace_of number own)))

-- each read of a run makes few gets
abbrev pub ReadsFew : Spelled → MostGets → List Job → History → Held → List Told → Type 0
ReadsFew spelled most jobs h m told =
    (number : ℕ) (job : Job) (from to : ℕ) (query : Query) → slice_get jobs number ≡ Some job → job.command ≡ Read from to query → IsFewRead spelled most jobs h m told number from to query
