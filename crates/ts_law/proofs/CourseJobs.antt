-- A job of each command makes the calls of its course, and ends by it.
use Rattle.std.proofs.Common.{length, ◌∙◌, ◌⊎◌, ◌≡◌, ℕ, suc, Bool, true, false, cond, List, [], ◌∷◌, ◌++◌, Option, Some, None, Result, Ok, Err, IsTrue, arith, refl, sym, ap, inl, inr, subst}
use Rattle.std.specs.Prelude.{Contains, option_map, nat_eq, map as list_map}
use Rattle.std.specs.Result.{result_err}
use Rattle.std.proofs.lemmas.Bool.{lt-ltb, ne_eqb}
use Rattle.std.proofs.lemmas.Option.{none-some}
use Rattle.std.proofs.lemmas.List.Elements.{All-nil, Contains-push}
use Rattle.ts_base.specs.declared.keys.Key.{Key}
use Rattle.ts_base.specs.declared.names.Name.{Name}
use Rattle.ts_base.specs.declared.heads.Cell.{Cell}
use Rattle.ts_schema.specs.declared.frames.Frame.{Frame}
use Rattle.ts_schema.specs.declared.schemas.Schema.{Schema}
use Rattle.ts_schema.specs.declared.faults.SchemaFault.{SchemaFault}
use Rattle.ts_schema.specs.declared.evolution.Evolution.{Evolution}
use Rattle.ts_schema.specs.Evolutions.{evolved_attrs, evolution_fault}
use Rattle.ts_schema.specs.FrameTexts.{frame_of}
use Rattle.ts_schema.specs.SchemaTexts.{schema_of}
use Rattle.ts_store.specs.declared.call.Call.{Call}
use Rattle.ts_store.specs.declared.call.Reply.{Reply}
use Rattle.ts_model.specs.declared.commands.Command.{Command}
use Rattle.ts_model.specs.declared.commands.FrameIn.{FrameIn}
use Rattle.ts_model.specs.declared.commands.WriteIn.{WriteIn}
use Rattle.ts_model.specs.declared.commands.Job.{Job}
use Rattle.ts_model.specs.declared.answers.Outcome.{Outcome}
use Rattle.ts_model.specs.declared.answers.Refusal.{Refusal}
use Rattle.ts_model.specs.declared.states.State.{State}
use Rattle.ts_model.specs.declared.states.NewObject.{NewObject}
use Rattle.ts_model.specs.declared.states.State.TheVariants.{Creates, Seeks, Over}
use Rattle.ts_model.specs.declared.states.Stage.TheVariants.{Works}
use Rattle.ts_base.specs.declared.names.LeaseMode.TheVariants.{Exc, Shr}
use Rattle.ts_model.proofs.Asked.{asked-push, next_call}
use Rattle.ts_model.proofs.Lacks.{no_memory_ends}
use Rattle.ts_model.specs.declared.states.Creating.TheVariants.{PutsFrame, ComparesFrame, ListsDeclared}
use Rattle.ts_model.specs.declared.states.Seeking.TheVariants.{ListsCommits, ListsSchemas}
use Rattle.ts_model.specs.declared.commands.Command.TheVariants.{Create, Evolve, Write, Read, Delete, Consolidate, Vacuum, Unlock, Fragments}
use Rattle.ts_model.specs.Codecs.{Codec, AsksLooks}
use Rattle.ts_model.specs.Commands.{laid, piece_of}
use Rattle.ts_model.specs.Jobs.{key_of, frag_of_job, written_as, refused_before}
use Rattle.ts_model.specs.Stages.{first_stage, goes_on, lease_of, stage_from, stage_of}
use Rattle.ts_model.specs.Stops.{cuts}
use Rattle.ts_model.specs.States.{Exchange, goes, begins, begun, refuse, unless_refused, get_schema, get_frame, list_schemas, list_commits, looked_into, committed_in, meets, commit_of, put_of, putting, puts_cells, schema_object_of, write_objects, frame_put, is_own_frame, nothing_listed, asks_for, reading_of, puts_delete, delete_object_of}
use Rattle.ts_model.specs.Driven.{AskedFrom, EndsBy, MayAsk, lacks_from}
use Rattle.ts_law.specs.Courses.{EndsUnder, IsCutAlong, IsCutOff, Found, cell_puts, evolve_puts, course_of, IsSchemaIn, IsFrameIn, SaysFound, IsGot, AreFound, LooksForSchema, IsLookOf, lets_on, refused_in, IsCause, EndsAlong, MayEndAs, delete_puts}
use Rattle.ts_model.proofs.ListLemmas.{Contains-nil, Contains-here, Contains-only, filter-Contains}
use Rattle.ts_law.proofs.CourseBacked.{AreBacked, IsIdle, backed_idle}
use Rattle.ts_law.proofs.CourseGrows.{among_more}
use Rattle.ts_law.proofs.LaidRefusals.{IsOfColumns, FailsByColumns, laid_fails}
use Rattle.ts_model.specs.declared.queries.Ready.{Ready}
use Rattle.ts_cond.specs.declared.query.Query.{Query}
use Rattle.ts_cond.specs.Tests.{Condition}
use Rattle.ts_model.specs.Queries.{ready_in, delete_condition}
use Rattle.ts_law.proofs.QueryRefusals.{IsOfQuery, FailsByQuery, ready_fails, delete_condition_fails}
use Rattle.ts_law.proofs.CourseCalls.{ends_along, Ends, WorkAsks, WorkEnds, Well, work_from, over_ends, Goes, Follows, follows_on, follows_refused, follows_ended, goes_none, goes_by, follows_putting, parts_apart, puts_go, Next}
use Rattle.ts_law.proofs.CourseReads.{follows_getting_vacs, reads_on}
use Rattle.ts_law.proofs.CourseMerges.{merge_finds}
use Rattle.ts_law.proofs.CourseLeased.{leased_cut, leased_finds}
use Rattle.ts_law.proofs.CourseSweeps.{sweep_finds}
use Rattle.ts_law.proofs.CourseUnlocks.{commits_finds, unlock_finds}
use Rattle.ts_law.proofs.CutOff.{as_if, found_before, backed_before, no_calls, unmade_of}
use Rattle.ts_law.proofs.CourseStages.{bare_asks, bare_from, bare_lacks, same_work}
use Rattle.ts_law.proofs.CourseSeeks.{no_schema, no_frame, found_as, OfBytes, schemas_found}
use Rattle.ts_base.specs.declared.names.Name.TheVariants as name
use Rattle.ts_store.specs.declared.call.Reply.TheVariants as reply
use Rattle.ts_model.specs.declared.answers.Outcome.TheVariants as outcome
use Rattle.ts_model.specs.declared.answers.Refusal.TheVariants as refusal

-- ---- each command

-- the one object of a schema is not the frame
schema_apart : (k : Key) (bytes : List ℕ) (ob : NewObject) → Contains (record { name = name.Schema k; bytes = bytes } ∷ []) ob → ob.name ≡ name.Domain → ⊥
schema_apart k bytes ob at same = let is = Contains-only (record { name = name.Schema k; bytes = bytes }) ob at in cc

-- nor is that of a delete
delete_apart : (job : Job) (condition : Condition) (ob : NewObject) → Contains (delete_object_of job condition ∷ []) ob → ob.name ≡ name.Domain → ⊥
delete_apart job condition ob at same = let is = Contains-only (delete_object_of job condition) ob at in cc

-- nor an object of a write
written_apart : {F : Type 0} (codec : Codec F) (job : Job) (frame : Frame) (there : Schema) (cells : List Cell) (ob : NewObject) → Contains (write_objects codec frame there job cells) ob → ob.name ≡ name.Domain → ⊥
written_apart codec job frame there cells =
    parts_apart (frag_of_job job) (codec.parts frame there (piece_of frame (written_as job there.key cells))) (record { name = commit_of job; bytes = [] } ∷ [])
    (λ ob at same. let is = Contains-only (record { name = commit_of job; bytes = [] }) ob at in cc)

module _ {F : Type 0} (codec : Codec F) (any : Job) where
  -- the calls say what a job found, and end along its course
  abbrev AreTold : Job → Found → List Exchange → Outcome → Type 0
  AreTold job found xs end = AreFound job found xs × Ends codec job [] found (course_of codec job found) xs end

  -- a job found something, and its calls from a state on say so and end along its course
  abbrev Finds : Job → List Exchange → Outcome → State F → Type 0
  Finds job xs end s = WorkAsks codec job s xs → WorkEnds codec job s xs end → (found : Found) × AreTold job found xs end × IsIdle found

  -- a job with another command
  abbrev pub with : Command → Job
  with command = record any { command = command }

  -- what bytes of the schema there say to an evolve
  evolve_schema : (change : Evolution) (found : Found) (k : Key) (r : Reply) → OfBytes (λ bytes. IsSchemaIn found.current k (schema_of bytes)) r → SaysFound found (Evolve change) (get_schema k) r
  evolve_schema change found k (reply.Bytes bytes) is = is
  evolve_schema change found k _ is = tt

  -- what bytes of the frame say to an evolve
  evolve_frame : (change : Evolution) (found : Found) (r : Reply) → OfBytes (λ bytes. IsFrameIn found.frame (frame_of bytes)) r → SaysFound found (Evolve change) get_frame r
  evolve_frame change found (reply.Bytes bytes) is = is
  evolve_frame change found _ is = tt

  -- what bytes of the schema there say to a write
  write_schema : (w : WriteIn) (found : Found) (k : Key) (r : Reply) → OfBytes (λ bytes. IsSchemaIn found.current k (schema_of bytes)) r → SaysFound found (Write w) (get_schema k) r
  write_schema w found k (reply.Bytes bytes) is = is
  write_schema w found k _ is = tt

  -- what bytes of the frame say to a write
  write_frame : (w : WriteIn) (found : Found) (r : Reply) → OfBytes (λ bytes. IsFrameIn found.frame (frame_of bytes)) r → SaysFound found (Write w) get_frame r
  write_frame w found (reply.Bytes bytes) is = is
  write_frame w found _ is = tt

  -- what bytes of the schema there say to a delete
  delete_schema : (text : List ℕ) (found : Found) (k : Key) (r : Reply) → OfBytes (λ bytes. IsSchemaIn found.current k (schema_of bytes)) r → SaysFound found (Delete text) (get_schema k) r
  delete_schema text found k (reply.Bytes bytes) is = is
  delete_schema text found k _ is = tt

  -- what bytes of the frame say to a delete
  delete_frame : (text : List ℕ) (found : Found) (r : Reply) → OfBytes (λ bytes. IsFrameIn found.frame (frame_of bytes)) r → SaysFound found (Delete text) get_frame r
  delete_frame text found (reply.Bytes bytes) is = is
  delete_frame text found _ is = tt

  -- what an evolve does once it has the schema there and the frame
  evolve_works : (change : Evolution) (there : Schema) (frame : Frame) (seen : List Exchange) (x : Exchange) (xs : List Exchange) (end : Outcome) → IsGot (with (Evolve change)) (found_as there frame) (seen ++ x ∷ []) → SaysFound (found_as there frame) (Evolve change) x.call x.reply → IsTrue (lets_on x.call x.reply) → LooksForSchema (with (Evolve change)) seen x.call
      → (fault : Option SchemaFault) → evolution_fault frame.domain there.attrs change ≡ fault
      → Follows codec (with (Evolve change)) seen (found_as there frame) (evolve_puts (with (Evolve change)) (found_as there frame) change fault) x xs end
      (unless_refused (putting (schema_object_of any (evolved_attrs there.attrs change) ∷ []) 0 (outcome.Evolved (key_of any))) (option_map refusal.SchemaBad fault))
  evolve_works change there frame seen x xs end got says on look None is =
      let job = with (Evolve change) in
      let object = schema_object_of any (evolved_attrs there.attrs change) in
      let well : Well codec job (seen ++ x ∷ []) (found_as there frame) (outcome.Evolved (key_of any)) = ((change, refl), refl, got, ap (option_map refusal.SchemaBad) is) in
      follows_putting codec job seen (found_as there frame) (put_of object ∷ []) x xs end (object ∷ []) 0 (outcome.Evolved (key_of any)) well says on (inl (look, refl))
      (puts_go codec job (seen ++ x ∷ []) (found_as there frame) (object ∷ []) (outcome.Evolved (key_of any)) well (schema_apart (key_of any) object.bytes) (λ ob at r. tt) xs end 0)
  evolve_works change there frame seen x xs end got says on look (Some fault) is =
      follows_refused codec (with (Evolve change)) seen (found_as there frame) [] [] x xs end (refusal.SchemaBad fault) says (inl (look, refl)) (got, ap (option_map refusal.SchemaBad) is)

  -- a refusal of columns is its own cause
  columns_cause : (w : WriteIn) (found : Found) (seen : List Exchange) (x : Exchange) (r : Refusal) → IsGot (with (Write w)) found seen → IsOfColumns r → refused_in found (Write w) ≡ Some r → IsCause codec (with (Write w)) found seen x r
  columns_cause w found seen x (refusal.SchemaClash label) got is cause = (got, cause)
  columns_cause w found seen x (refusal.Domain dim value) got is cause = (got, cause)
  columns_cause w found seen x (refusal.DuplicateCell place) got is cause = (got, cause)
  columns_cause w found seen x (refusal.TooMany cells) got is cause = (got, cause)
  columns_cause w found seen x _ got is cause = absurd is

  -- what a write does then
  write_works : (w : WriteIn) (there : Schema) (frame : Frame) (seen : List Exchange) (x : Exchange) (xs : List Exchange) (end : Outcome) → IsGot (with (Write w)) (found_as there frame) (seen ++ x ∷ []) → SaysFound (found_as there frame) (Write w) x.call x.reply → IsTrue (lets_on x.call x.reply) → LooksForSchema (with (Write w)) seen x.call
      → (laying : Result (List Cell) Refusal) → laid frame there.attrs w ≡ laying → FailsByColumns laying
      → Follows codec (with (Write w)) seen (found_as there frame) (cell_puts codec (with (Write w)) (found_as there frame) laying) x xs end (puts_cells codec (with (Write w)) frame there laying)
  write_works w there frame seen x xs end got says on look (Ok cells) is fails =
      let job = with (Write w) in
      let objects = write_objects codec frame there job cells in
      let well : Well codec job (seen ++ x ∷ []) (found_as there frame) (outcome.Written (frag_of_job any)) = ((w, refl), refl, got, ap result_err is) in
      follows_putting codec job seen (found_as there frame) (list_map put_of objects) x xs end objects 0 (outcome.Written (frag_of_job any)) well says on (inl (look, refl))
      (puts_go codec job (seen ++ x ∷ []) (found_as there frame) objects (outcome.Written (frag_of_job any)) well (written_apart codec job frame there cells) (λ ob at r. tt) xs end 0)
  write_works w there frame seen x xs end got says on look (Err r) is fails =
      follows_refused codec (with (Write w)) seen (found_as there frame) [] [] x xs end r says (inl (look, refl)) (columns_cause w (found_as there frame) (seen ++ x ∷ []) x r got fails (ap result_err is))

  -- a refusal of a query is its own cause
  query_cause : (command : Command) (found : Found) (seen : List Exchange) (x : Exchange) (r : Refusal) → IsGot (with command) found seen → IsOfQuery r → refused_in found command ≡ Some r → IsCause codec (with command) found seen x r
  query_cause command found seen x (refusal.Domain dim value) got is cause = (got, cause)
  query_cause command found seen x (refusal.TooMany cells) got is cause = (got, cause)
  query_cause command found seen x refusal.DenseArray got is cause = (got, cause)
  query_cause command found seen x (refusal.UnknownField field) got is cause = (got, cause)
  query_cause command found seen x (refusal.Condition fault) got is cause = (got, cause)
  query_cause command found seen x _ got is cause = absurd is

  -- what a delete does then
  delete_works : (text : List ℕ) (there : Schema) (frame : Frame) (seen : List Exchange) (x : Exchange) (xs : List Exchange) (end : Outcome) → IsGot (with (Delete text)) (found_as there frame) (seen ++ x ∷ []) → SaysFound (found_as there frame) (Delete text) x.call x.reply → IsTrue (lets_on x.call x.reply) → LooksForSchema (with (Delete text)) seen x.call
      → (spelled : Result Condition Refusal) → delete_condition frame there.attrs text ≡ spelled → FailsByQuery spelled
      → Follows codec (with (Delete text)) seen (found_as there frame) (delete_puts (with (Delete text)) spelled) x xs end (puts_delete (with (Delete text)) spelled)
  delete_works text there frame seen x xs end got says on look (Ok condition) is fails =
      let job = with (Delete text) in
      let object = delete_object_of job condition in
      let well : Well codec job (seen ++ x ∷ []) (found_as there frame) (outcome.Deleted (frag_of_job any)) = ((text, refl), refl, got, ap result_err is) in
      follows_putting codec job seen (found_as there frame) (put_of object ∷ []) x xs end (object ∷ []) 0 (outcome.Deleted (frag_of_job any)) well says on (inl (look, refl))
      (puts_go codec job (seen ++ x ∷ []) (found_as there frame) (object ∷ []) (outcome.Deleted (frag_of_job any)) well (delete_apart job condition) (λ ob at r. tt) xs end 0)
  delete_works text there frame seen x xs end got says on look (Err r) is fails =
      follows_refused codec (with (Delete text)) seen (found_as there frame) [] [] x xs end r says (inl (look, refl)) (query_cause (Delete text) (found_as there frame) (seen ++ x ∷ []) x r got fails (ap result_err is))

  -- what a read does then
  read_works : AsksLooks codec → (from to : ℕ) (query : Query) (names : List Name) (there : Schema) (frame : Frame) (seen : List Exchange) (x : Exchange) (xs : List Exchange) (end : Outcome) → Contains seen (record { call = list_commits; reply = reply.Names names }) → IsGot (with (Read from to query)) (found_as there frame) (seen ++ x ∷ []) → IsTrue (lets_on x.call x.reply) → IsLookOf codec (with (Read from to query)) (found_as there frame) seen x.call
      → (asked : Result Ready Refusal) → ready_in frame there.attrs query ≡ asked → FailsByQuery asked
      → Follows codec (with (Read from to query)) seen (found_as there frame) [] x xs end (asks_for codec from to (looked_into (Read from to query) names) frame there asked)
  read_works looks from to query names there frame seen x xs end told got on look (Ok ready) is fails =
      let job = with (Read from to query) in
      follows_getting_vacs codec job looks from to query refl (found_as there frame) ready is seen [] x xs end on (inl (look, refl)) (reads_on codec job looks from to query refl (found_as there frame) ready is (seen ++ x ∷ []) xs end)
      (reading_of from to (looked_into (Read from to query) names) frame there ready) (record {
        finds = refl;
        got = got;
        fragments = λ f at. let kept = filter-Contains (meets from to) (committed_in names) f at in (names, among_more seen x _ told, kept.0, kept.1);
        merged = λ f at. (names, among_more seen x _ told, at);
        names = names;
        listed = among_more seen x _ told;
        dead = refl;
        told = tt;
        objects = λ o at. absurd (Contains-nil o at);
        further = λ s at. absurd (Contains-nil s at);
      })
  read_works looks from to query names there frame seen x xs end told got on look (Err r) is fails =
      follows_refused codec (with (Read from to query)) seen (found_as there frame) [] [] x xs end r tt (inl (look, refl)) (query_cause (Read from to query) (found_as there frame) (seen ++ x ∷ []) x r got fails (ap result_err is))

  -- an evolve
  evolve_finds : (change : Evolution) (xs : List Exchange) (end : Outcome) → Finds (with (Evolve change)) xs end (Seeks (ListsSchemas nothing_listed))
  evolve_finds change xs end a e =
      let (there, frame, goes_on) =
      schemas_found codec (with (Evolve change)) tt (λ found seen c look. look) (λ found r. tt) (evolve_schema change) (evolve_frame change) (λ found. evolve_puts (with (Evolve change)) found change (evolution_fault (found.frame).domain (found.current).attrs change)) [] nothing_listed
      (λ there frame seen x xs end since got says on look. evolve_works change there frame seen x xs end got says on look (evolution_fault frame.domain there.attrs change) refl) [] xs end (λ x at. at) in
      (found_as there frame, goes_on a e, (refl, refl, refl))

  -- a write
  write_finds : (w : WriteIn) (xs : List Exchange) (end : Outcome) → Finds (with (Write w)) xs end (Seeks (ListsSchemas nothing_listed))
  write_finds w xs end a e =
      let (there, frame, goes_on) =
      schemas_found codec (with (Write w)) tt (λ found seen c look. look) (λ found r. tt) (write_schema w) (write_frame w) (λ found. cell_puts codec (with (Write w)) found (laid found.frame (found.current).attrs w)) [] nothing_listed
      (λ there frame seen x xs end since got says on look. write_works w there frame seen x xs end got says on look (laid frame there.attrs w) refl (laid_fails frame there.attrs w)) [] xs end (λ x at. at) in
      (found_as there frame, goes_on a e, (refl, refl, refl))

  -- a delete
  delete_finds : (text : List ℕ) (xs : List Exchange) (end : Outcome) → Finds (with (Delete text)) xs end (Seeks (ListsSchemas nothing_listed))
  delete_finds text xs end a e =
      let (there, frame, goes_on) =
      schemas_found codec (with (Delete text)) tt (λ found seen c look. look) (λ found r. tt) (delete_schema text) (delete_frame text) (λ found. delete_puts (with (Delete text)) (delete_condition found.frame (found.current).attrs text)) [] nothing_listed
      (λ there frame seen x xs end since got says on look. delete_works text there frame seen x xs end got says on look (delete_condition frame there.attrs text) refl (delete_condition_fails frame there.attrs text)) [] xs end (λ x at. at) in
      (found_as there frame, goes_on a e, (refl, refl, refl))

  -- the calls after those before say what a job found, and end along a course
  abbrev AreAlong : Job → List Exchange → Found → List Call → List Exchange → Outcome → Type 0
  AreAlong job before found course xs end = AreFound job found xs × Ends codec job before found course xs end

  -- a read
  read_finds : AsksLooks codec → (from to : ℕ) (query : Query) (before xs : List Exchange) (end : Outcome) → WorkAsks codec (with (Read from to query)) (Seeks ListsCommits) xs → WorkEnds codec (with (Read from to query)) (Seeks ListsCommits) xs end
      → (found : Found) × AreAlong (with (Read from to query)) before found (list_commits ∷ list_schemas ∷ []) xs end × AreBacked codec (with (Read from to query)) found (before ++ xs)
  read_finds looks from to query before [] end a e = (found_as no_schema no_frame, goes_none codec (with (Read from to query)) before (found_as no_schema no_frame) (list_commits ∷ list_schemas ∷ []) end (Seeks ListsCommits) (λ o q. cc) a e, backed_idle codec (with (Read from to query)) (found_as no_schema no_frame) (before ++ []) (refl, refl, refl))
  read_finds looks from to query before (x ∷ xs) end a e =
      let (there, frame, follows) = by_reply x.reply in
      (found_as there frame, goes_by codec (with (Read from to query)) before (found_as there frame) (list_commits ∷ list_schemas ∷ []) x xs end (Seeks ListsCommits) list_commits refl (λ same. follows) a e, backed_idle codec job (found_as there frame) (before ++ x ∷ xs) (refl, refl, refl))
    where
      job : Job
      job = with (Read from to query)

      CommitsFor : Reply → Type 0
      CommitsFor r = (there : Schema) × (frame : Frame) × Follows codec job before (found_as there frame) (list_commits ∷ list_schemas ∷ []) (record { call = list_commits; reply = r }) xs end (goes codec job (Seeks ListsCommits) r)

      by_reply : (r : Reply) → CommitsFor r
      by_reply (reply.Names names) =
          let y : Exchange = record { call = list_commits; reply = reply.Names names } in
          let (there, frame, later) =
          schemas_found codec job tt (λ found seen c look. inl look) (λ found r. tt) (λ found k r is. tt) (λ found r is. tt) (λ found. []) (before ++ y ∷ []) (looked_into (Read from to query) names)
          (λ there frame seen z zs end' since got says on look. read_works looks from to query names there frame seen z zs end' (since y (Contains-push before y)) got on look (ready_in frame there.attrs query) refl (ready_fails frame there.attrs query))
          (before ++ y ∷ []) xs end (λ z at. at) in
          (there, frame, follows_on codec job before (found_as there frame) (list_commits ∷ list_schemas ∷ []) (list_schemas ∷ []) y xs end (Seeks (ListsSchemas (looked_into (Read from to query) names))) tt refl (inr (refl, tt)) later)
      by_reply r = (no_schema, no_frame, follows_ended codec job before (found_as no_schema no_frame) (list_commits ∷ list_schemas ∷ []) (list_schemas ∷ []) list_commits r xs end tt tt (inr (refl, tt)))

  -- ---- a create

  module _ (f : FrameIn) where
    -- a job that creates this array
    abbrev creating : Job
    creating = with (Create f)

    -- the object of its first schema
    abbrev first_object : NewObject
    first_object = schema_object_of any f.attrs

    -- what a create found
    abbrev found_by : Bool → Found
    found_by taken = record { taken = taken; current = no_schema; frame = no_frame; merged = None; leases = []; swept = []; removed = [] }

    -- after a call, the first schema is put
    first_follows : (taken : Bool) (seen : List Exchange) (course : List Call) (x : Exchange) (xs : List Exchange) (end : Outcome) → SaysFound (found_by taken) (Create f) x.call x.reply → IsTrue (lets_on x.call x.reply) → Next codec creating seen (found_by taken) course x.call (put_of first_object ∷ [])
        → Follows codec creating seen (found_by taken) course x xs end (putting (first_object ∷ []) 0 outcome.Created)
    first_follows taken seen course x xs end says on following =
        follows_putting codec creating seen (found_by taken) course x xs end (first_object ∷ []) 0 outcome.Created (f, refl) says on following
        (puts_go codec creating (seen ++ x ∷ []) (found_by taken) (first_object ∷ []) outcome.Created (f, refl) (schema_apart (key_of any) first_object.bytes) silent_put xs end 0)
      where
        silent_put : (ob : NewObject) → Contains (first_object ∷ []) ob → (r : Reply) → SaysFound (found_by taken) (Create f) (put_of ob) r
        silent_put ob at r = subst (λ o. SaysFound (found_by taken) (Create f) (put_of o) r) (Contains-only first_object ob at) tt

    -- the listing of the schemas
    declared_goes : (seen xs : List Exchange) (end : Outcome) → Goes codec creating seen (found_by true) (list_schemas ∷ put_of first_object ∷ []) xs end (Creates ListsDeclared)
    declared_goes seen [] end = goes_none codec creating seen (found_by true) (list_schemas ∷ put_of first_object ∷ []) end (Creates ListsDeclared) (λ o q. cc)
    declared_goes seen (x ∷ xs) end = goes_by codec creating seen (found_by true) (list_schemas ∷ put_of first_object ∷ []) x xs end (Creates ListsDeclared) list_schemas refl (λ same. by_reply x.reply)
      where
        by_names : (names : List Name) → Follows codec creating seen (found_by true) (list_schemas ∷ put_of first_object ∷ []) (record { call = list_schemas; reply = reply.Names names }) xs end
            (cond (nat_eq (length names) 0) (putting (first_object ∷ []) 0 outcome.Created) (refuse refusal.ArrayExists))
        by_names [] = first_follows true seen (list_schemas ∷ put_of first_object ∷ []) (record { call = list_schemas; reply = reply.Names [] }) xs end tt refl (inr (refl, tt))
        by_names (n ∷ names) =
            subst (λ b. Follows codec creating seen (found_by true) (list_schemas ∷ put_of first_object ∷ []) (record { call = list_schemas; reply = reply.Names (n ∷ names) }) xs end (cond b (putting (first_object ∷ []) 0 outcome.Created) (refuse refusal.ArrayExists)))
            (sym (ne_eqb (suc (length names)) 0 (λ e. absurd (omega arith))))
            (follows_refused codec creating seen (found_by true) (list_schemas ∷ put_of first_object ∷ []) (put_of first_object ∷ []) (record { call = list_schemas; reply = reply.Names (n ∷ names) }) xs end refusal.ArrayExists tt (inr (refl, tt))
            (f, refl, inr (n ∷ names, refl, lt-ltb 0 (suc (length names)) (omega arith))))

        by_reply : (r : Reply) → Follows codec creating seen (found_by true) (list_schemas ∷ put_of first_object ∷ []) (record { call = list_schemas; reply = r }) xs end (goes codec creating (Creates ListsDeclared) r)
        by_reply (reply.Names names) = by_names names
        by_reply r = follows_ended codec creating seen (found_by true) (list_schemas ∷ put_of first_object ∷ []) (put_of first_object ∷ []) list_schemas r xs end tt tt (inr (refl, tt))

    -- the get of the frame that was there
    compare_goes : (seen xs : List Exchange) (end : Outcome) → Contains seen (record { call = frame_put f; reply = reply.Taken }) → Goes codec creating seen (found_by true) (list_schemas ∷ put_of first_object ∷ []) xs end (Creates ComparesFrame)
    compare_goes seen [] end told = goes_none codec creating seen (found_by true) (list_schemas ∷ put_of first_object ∷ []) end (Creates ComparesFrame) (λ o q. cc)
    compare_goes seen (x ∷ xs) end told = goes_by codec creating seen (found_by true) (list_schemas ∷ put_of first_object ∷ []) x xs end (Creates ComparesFrame) get_frame refl (λ same. by_reply x.reply)
      where
        by_own : (bytes : List ℕ) (b : Bool) → is_own_frame (Some f) bytes ≡ b → Follows codec creating seen (found_by true) (list_schemas ∷ put_of first_object ∷ []) (record { call = get_frame; reply = reply.Bytes bytes }) xs end (cond b (Creates ListsDeclared) (refuse refusal.ArrayExists))
        by_own bytes true is = follows_on codec creating seen (found_by true) (list_schemas ∷ put_of first_object ∷ []) (list_schemas ∷ put_of first_object ∷ []) (record { call = get_frame; reply = reply.Bytes bytes }) xs end (Creates ListsDeclared) tt refl (inl ((told, refl), refl)) (declared_goes (seen ++ record { call = get_frame; reply = reply.Bytes bytes } ∷ []) xs end)
        by_own bytes false is =
            follows_refused codec creating seen (found_by true) (list_schemas ∷ put_of first_object ∷ []) (list_schemas ∷ put_of first_object ∷ []) (record { call = get_frame; reply = reply.Bytes bytes }) xs end refusal.ArrayExists tt (inl ((told, refl), refl)) (f, refl, inl (bytes, refl, is))

        by_reply : (r : Reply) → Follows codec creating seen (found_by true) (list_schemas ∷ put_of first_object ∷ []) (record { call = get_frame; reply = r }) xs end (goes codec creating (Creates ComparesFrame) r)
        by_reply (reply.Bytes bytes) = by_own bytes (is_own_frame (Some f) bytes) refl
        by_reply r = follows_ended codec creating seen (found_by true) (list_schemas ∷ put_of first_object ∷ []) (list_schemas ∷ put_of first_object ∷ []) get_frame r xs end tt tt (inl ((told, refl), refl))

    -- a create
    create_finds : (xs : List Exchange) (end : Outcome) → Finds creating xs end (Creates PutsFrame)
    create_finds [] end a e = (found_by false, goes_none codec creating [] (found_by false) (course_of codec creating (found_by false)) end (Creates PutsFrame) (λ o q. cc) a e, (refl, refl, refl))
    create_finds (x ∷ xs) end a e =
        let (taken, follows) = by_reply x.reply in
        (found_by taken, goes_by codec creating [] (found_by taken) (course_of codec creating (found_by taken)) x xs end (Creates PutsFrame) (frame_put f) refl (λ same. follows) a e, (refl, refl, refl))
      where
        FrameFor : Reply → Type 0
        FrameFor r = (taken : Bool) × Follows codec creating [] (found_by taken) (course_of codec creating (found_by taken)) (record { call = frame_put f; reply = r }) xs end (goes codec creating (Creates PutsFrame) r)

        by_reply : (r : Reply) → FrameFor r
        by_reply reply.Made = (false, first_follows false [] (course_of codec creating (found_by false)) (record { call = frame_put f; reply = reply.Made }) xs end refl refl (inr (refl, λ e. cc)))
        by_reply reply.Taken = (true, follows_on codec creating [] (found_by true) (course_of codec creating (found_by true)) (list_schemas ∷ put_of first_object ∷ []) (record { call = frame_put f; reply = reply.Taken }) xs end (Creates ComparesFrame) refl refl (inr (refl, λ e. cc)) (compare_goes (record { call = frame_put f; reply = reply.Taken } ∷ []) xs end (Contains-here (record { call = frame_put f; reply = reply.Taken }) [])))
        by_reply r = (false, follows_ended codec creating [] (found_by false) (course_of codec creating (found_by false)) (put_of first_object ∷ []) (frame_put f) r xs end tt tt (inr (refl, λ e. cc)))

  -- ---- a job of any command

  -- where no refusal comes before the first call of a job without a lease
  begins_finds : (command : Command) → lease_of (with command) ≡ None → (whole : List Exchange) (end : Outcome) → Finds (with command) whole end (begins command)
  begins_finds (Create f) none whole end = create_finds f whole end
  begins_finds (Evolve change) none whole end = evolve_finds change whole end
  begins_finds (Write w) none whole end = write_finds w whole end
  begins_finds (Delete text) none whole end = delete_finds text whole end
  begins_finds (Unlock seed lane) none whole end = unlock_finds codec any seed lane whole end
  begins_finds Fragments none whole end = commits_finds codec any whole end
  begins_finds (Read from to query) none whole end = absurd (none-some _ (sym none))
  begins_finds (Consolidate from to limits) none whole end = absurd (none-some _ (sym none))
  begins_finds Vacuum none whole end = absurd (none-some _ (sym none))

  -- how a job without a lease ends: where its calls have led it, or for want of memory where that can be wanting
  abbrev BareEnds : Command → List Exchange → Outcome → Type 0
  BareEnds command whole end = (stage_from codec (with command) (Works (begun command)) whole ≡ Works (Over end)) ⊎ ((end ≡ outcome.OutOfMemory) × (lacks_from codec (with command) true (Works (begun command)) whole ≡ true))

  -- the ends of its work
  bare_ends : (command : Command) → lease_of (with command) ≡ None → (whole : List Exchange) (end : Outcome) → BareEnds command whole end → WorkEnds codec (with command) (begun command) whole end
  bare_ends command none whole end (inl over) = inl (same_work codec (with command) (sym (bare_from codec (with command) none (begun command) whole) ∙ over))
  bare_ends command none whole end (inr (is, lacks)) = inr (is, inl (sym (bare_lacks codec (with command) none true (begun command) whole) ∙ lacks))

  -- a job without a lease
  pub bare_finds : (command : Command) → lease_of (with command) ≡ None → (whole : List Exchange) (end : Outcome) → AskedFrom codec (with command) (Works (begun command)) whole
      → BareEnds command whole end → (found : Found) × AreFound (with command) found whole × AreBacked codec (with command) found whole × MayEndAs codec (with command) found whole end (refused_before command)
  bare_finds command none whole end asked ends = by_refusal (refused_before command) (bare_asks codec (with command) none (begun command) whole asked) (bare_ends command none whole end ends)
    where
      under : (found : Found) → EndsAlong codec (with command) found (course_of codec (with command) found) whole end → EndsUnder codec (with command) found (lease_of (with command)) whole end
      under found h = subst (λ o. EndsUnder codec (with command) found o whole end) (sym none) h

      by_refusal : (r : Option Refusal) → WorkAsks codec (with command) (unless_refused (begins command) r) whole → WorkEnds codec (with command) (unless_refused (begins command) r) whole end
          → (found : Found) × AreFound (with command) found whole × AreBacked codec (with command) found whole × MayEndAs codec (with command) found whole end r
      by_refusal None a e =
          let (found, told, merged) = begins_finds command none whole end a e in
          (found, told.0, backed_idle codec (with command) found whole merged, under found (ends_along codec (with command) found (course_of codec (with command) found) whole end told.1))
      by_refusal (Some r) a e =
          let over = over_ends codec (with command) (outcome.Refused r) whole end a e in
          (found_as no_schema no_frame, subst (AreFound (with command) (found_as no_schema no_frame)) (sym over.0) (All-nil (λ x. SaysFound (found_as no_schema no_frame) command x.call x.reply)), backed_idle codec (with command) (found_as no_schema no_frame) whole (refl, refl, refl), over)

  -- how a job without a lease ended
  bare_by : (command : Command) (whole : List Exchange) (end : Outcome) → first_stage {F = F} (with command) ≡ Works (begun command) → EndsBy codec (with command) whole end
      → BareEnds command whole end
  bare_by command whole end first (inl over) = inl (ap (λ g. stage_from codec (with command) g whole) (sym first) ∙ over)
  bare_by command whole end first (inr (is, short)) = inr (is, ap (λ g. lacks_from codec (with command) true g whole) (sym first) ∙ short.1)

  -- a job of any command
  pub begun_finds : AsksLooks codec → (command : Command) (whole : List Exchange) (end : Outcome) → AskedFrom codec (with command) (first_stage (with command)) whole → EndsBy codec (with command) whole end
      → (found : Found) × AreFound (with command) found whole × AreBacked codec (with command) found whole × MayEndAs codec (with command) found whole end (refused_before command)
  begun_finds looks (Read from to query) whole end asked ends = leased_finds codec (with (Read from to query)) Shr refl refl (λ found c r. tt) (found_as no_schema no_frame) (refl, refl, refl) (read_finds looks from to query) whole end asked ends
  begun_finds looks (Consolidate from to limits) whole end asked ends = leased_finds codec (with (Consolidate from to limits)) Shr refl refl (λ found c r. tt) (found_as no_schema no_frame) (refl, refl, refl) (merge_finds codec any looks from to limits) whole end asked ends
  begun_finds looks Vacuum whole end asked ends = leased_finds codec (with Vacuum) Exc refl refl (λ found c r. tt) (found_as no_schema no_frame) (refl, refl, refl) (sweep_finds codec any) whole end asked ends
  begun_finds looks (Create f) whole end asked ends = bare_finds (Create f) refl whole end asked (bare_by (Create f) whole end refl ends)
  begun_finds looks (Evolve change) whole end asked ends = bare_finds (Evolve change) refl whole end asked (bare_by (Evolve change) whole end refl ends)
  begun_finds looks (Write w) whole end asked ends = bare_finds (Write w) refl whole end asked (bare_by (Write w) whole end refl ends)
  begun_finds looks (Delete text) whole end asked ends = bare_finds (Delete text) refl whole end asked (bare_by (Delete text) whole end refl ends)
  begun_finds looks (Unlock seed lane) whole end asked ends = bare_finds (Unlock seed lane) refl whole end asked (bare_by (Unlock seed lane) whole end refl ends)
  begun_finds looks Fragments whole end asked ends = bare_finds Fragments refl whole end asked (bare_by Fragments whole end refl ends)

  -- a job without a lease that its stop cuts off
  bare_cut : (command : Command) → lease_of (with command) ≡ None → first_stage {F = F} (with command) ≡ Works (begun command) → (whole : List Exchange) (c : Call) → AskedFrom codec (with command) (first_stage (with command)) whole
      → MayAsk codec (with command) (stage_of codec (with command) whole) c → cuts any.stop (length whole) c ≡ true → (found : Found) × AreFound (with command) found whole × AreBacked codec (with command) found whole × IsCutOff codec (with command) found whole
  bare_cut command none first whole c asked may cut =
      let begins : AskedFrom codec (with command) (Works (begun command)) whole = subst (λ g. AskedFrom codec (with command) g whole) first asked in
      let at : stage_of codec (with command) whole ≡ Works (work_from codec (with command) (begun command) whole) = ap (λ g. stage_from codec (with command) g whole) first ∙ bare_from codec (with command) none (begun command) whole in
      let here : MayAsk codec (with command) (stage_from codec (with command) (Works (begun command)) whole) c = subst (λ g. MayAsk codec (with command) (stage_from codec (with command) g whole) c) first may in
      let asks_it = next_call codec (with command) (Works (work_from codec (with command) (begun command) whole)) c none (subst (λ g. MayAsk codec (with command) g c) at may) in
      let more = asked-push codec (with command) (Works (begun command)) whole (as_if c) begins here in
      let ends : stage_from codec (with command) (Works (begun command)) (whole ++ as_if c ∷ []) ≡ Works (Over outcome.OutOfMemory) =
      bare_from codec (with command) none (begun command) (whole ++ as_if c ∷ [])
      ∙ ap Works (work_from-push (begun command) whole (as_if c) ∙ no_memory_ends F codec (with command) (work_from codec (with command) (begun command) whole) c asks_it) in
      let (found, told, merged, ended) = bare_finds command none (whole ++ as_if c ∷ []) outcome.OutOfMemory more (inl ends) in
      (found, found_before (with command) found whole (as_if c) told, backed_before codec (with command) found whole c merged, inl (by_refusal found (refused_before command) refl ended))
    where
      work_from-push : (s : State F) (xs : List Exchange) (x : Exchange) → work_from codec (with command) s (xs ++ x ∷ []) ≡ goes codec (with command) (work_from codec (with command) s xs) x.reply
      work_from-push s [] x = refl
      work_from-push s (y ∷ xs) x = work_from-push (goes codec (with command) s y.reply) xs x

      by_refusal : (found : Found) (r : Option Refusal) → refused_before command ≡ r → MayEndAs codec (with command) found (whole ++ as_if c ∷ []) outcome.OutOfMemory r → IsCutAlong codec (with command) found whole
      by_refusal found None is h =
          let ended = subst (λ o. EndsUnder codec (with command) found o (whole ++ as_if c ∷ []) outcome.OutOfMemory) none h in
          let u = unmade_of (IsLookOf codec (with command) found) (course_of codec (with command) found) whole c (elim ended [ inl made ↦ inl made | inr at ↦ inr (at.0, at.1) ]) in
          record { begins = is; left = u.0; along = u.2; unmade = c; rest = u.1; next = u.3; cut = cut; free = λ lease some. absurd (none-some lease (sym none ∙ some)) }
      by_refusal found (Some r) is h = absurd (no_calls whole (as_if c) h.0)

  -- a job of any command that its stop cuts off
  pub begun_cut : AsksLooks codec → (command : Command) (whole : List Exchange) (c : Call) → AskedFrom codec (with command) (first_stage (with command)) whole → MayAsk codec (with command) (stage_of codec (with command) whole) c → cuts any.stop (length whole) c ≡ true
      → (found : Found) × AreFound (with command) found whole × AreBacked codec (with command) found whole × IsCutOff codec (with command) found whole
  begun_cut looks (Read from to query) whole c asked may cut = leased_cut codec (with (Read from to query)) Shr refl refl (λ found c r. tt) (found_as no_schema no_frame) (refl, refl, refl) (read_finds looks from to query) whole c asked may cut
  begun_cut looks (Consolidate from to limits) whole c asked may cut = leased_cut codec (with (Consolidate from to limits)) Shr refl refl (λ found c r. tt) (found_as no_schema no_frame) (refl, refl, refl) (merge_finds codec any looks from to limits) whole c asked may cut
  begun_cut looks Vacuum whole c asked may cut = leased_cut codec (with Vacuum) Exc refl refl (λ found c r. tt) (found_as no_schema no_frame) (refl, refl, refl) (sweep_finds codec any) whole c asked may cut
  begun_cut looks (Create f) whole c asked may cut = bare_cut (Create f) refl refl whole c asked may cut
  begun_cut looks (Evolve change) whole c asked may cut = bare_cut (Evolve change) refl refl whole c asked may cut
  begun_cut looks (Write w) whole c asked may cut = bare_cut (Write w) refl refl whole c asked may cut
  begun_cut looks (Delete text) whole c asked may cut = bare_cut (Delete text) refl refl whole c asked may cut
  begun_cut looks (Unlock seed lane) whole c asked may cut = bare_cut (Unlock seed lane) refl refl whole c asked may cut
  begun_cut looks Fragments whole c asked may cut = bare_cut Fragments refl refl whole c asked may cut
