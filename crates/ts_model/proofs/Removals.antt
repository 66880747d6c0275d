-- A job whose reply takes memory has removed nothing: where that reply leads, it is not amid its removals.
use Rattle.std.proofs.Common.{◌≡◌, ℕ, suc, Bool, true, false, cond, List, [], ◌∷◌, ◌++◌, Option, Some, None, Result, Ok, Err, length, refl, sym}
use Rattle.std.specs.Prelude.{drop, nat_eq, nat_lt, option_map, slice_get}
use Rattle.std.proofs.lemmas.Bool.{true≢false}
use Rattle.ts_base.specs.declared.keys.Key.{Key}
use Rattle.ts_base.specs.declared.keys.FragKey.{FragKey}
use Rattle.ts_base.specs.declared.names.Name.{Name}
use Rattle.ts_base.specs.declared.names.Name.TheVariants as name
use Rattle.ts_base.specs.declared.heads.Version.{Version}
use Rattle.ts_base.specs.declared.heads.Cell.{Cell}
use Rattle.ts_store.specs.declared.call.Call.{Call}
use Rattle.ts_store.specs.declared.call.Reply.{Reply}
use Rattle.ts_store.specs.declared.call.Reply.TheVariants as reply
use Rattle.ts_commit.specs.declared.vacs.Planned.{Planned}
use Rattle.ts_commit.specs.declared.vacs.Planned.TheVariants as planned
use Rattle.ts_commit.specs.Selections.{clipped_names, names_merged, removal_set}
use Rattle.ts_cond.specs.Tests.{Condition}
use Rattle.ts_cond.specs.CondTexts.{cond_of}
use Rattle.ts_schema.specs.declared.frames.Frame.{Frame}
use Rattle.ts_schema.specs.declared.schemas.Schema.{Schema}
use Rattle.ts_schema.specs.Evolutions.{evolution_fault, evolved_attrs, schema_at}
use Rattle.ts_schema.specs.FrameTexts.{frame_of}
use Rattle.ts_schema.specs.SchemaTexts.{schema_of}
use Rattle.ts_commit.specs.Vacs.{names_of}
use Rattle.ts_model.specs.declared.commands.Command.{Command}
use Rattle.ts_model.specs.declared.commands.Command.TheVariants.{Evolve, Write, Read, Delete, Consolidate, Unlock, Fragments}
use Rattle.ts_model.specs.declared.commands.FrameIn.{FrameIn}
use Rattle.ts_model.specs.declared.commands.Job.{Job}
use Rattle.ts_model.specs.declared.answers.Outcome.{Outcome}
use Rattle.ts_model.specs.declared.answers.Outcome.TheVariants as outcome
use Rattle.ts_model.specs.declared.answers.Refusal.{Refusal}
use Rattle.ts_model.specs.declared.answers.Refusal.TheVariants as refusal
use Rattle.ts_model.specs.declared.queries.Ready.{Ready}
use Rattle.ts_model.specs.declared.states.Candidates.{Candidates}
use Rattle.ts_model.specs.declared.states.Collecting.{Collecting}
use Rattle.ts_model.specs.declared.states.Collecting.TheVariants.{GetsVacs, GetsHeads, GetsSchemas, GetsDeletes, Fetches}
use Rattle.ts_model.specs.declared.states.Creating.{Creating}
use Rattle.ts_model.specs.declared.states.Creating.TheVariants.{PutsFrame, ComparesFrame, ListsDeclared}
use Rattle.ts_model.specs.declared.states.Listed.{Listed}
use Rattle.ts_model.specs.declared.states.Merging.{Merging}
use Rattle.ts_model.specs.declared.states.Merging.TheVariants as merging
use Rattle.ts_model.specs.declared.states.NewObject.{NewObject}
use Rattle.ts_model.specs.declared.states.Opened.{Opened}
use Rattle.ts_model.specs.declared.states.Reading.{Reading}
use Rattle.ts_model.specs.declared.states.Seeking.{Seeking}
use Rattle.ts_model.specs.declared.states.Seeking.TheVariants.{ListsCommits, ListsSchemas, GetsSchema, GetsFrame}
use Rattle.ts_model.specs.declared.states.State.{State}
use Rattle.ts_model.specs.declared.states.State.TheVariants.{Creates, Seeks, Puts, Collects, Merges, Lists, Sweeps, Removes, Over}
use Rattle.ts_model.specs.declared.states.Survey.{Survey}
use Rattle.ts_model.specs.declared.states.Sweep.{Sweep}
use Rattle.ts_model.specs.declared.states.Sweeping.{Sweeping}
use Rattle.ts_model.specs.declared.states.Sweeping.TheVariants as sweeping
use Rattle.ts_model.specs.Codecs.{Codec, Stepped, Asks, Takes, Breaks}
use Rattle.ts_model.specs.Commands.{laid}
use Rattle.ts_model.specs.Jobs.{frag_of_job, key_of, looked_at}
use Rattle.ts_model.specs.Queries.{delete_condition, ready_in}
use Rattle.ts_model.specs.States.{after_delete, after_frame, after_head, after_names, after_opened, after_schema, after_surveyed, after_swept, after_vac, all_of, asks_for, can_be_named, candidates_of, collect_goes, create_goes, delete_object_of, deletion_named, fetch_begins, fetch_leads, fetches_one, fetching, frags_of, frame_put, gathering, get_delete, get_frame, get_head, get_head_in, get_schema, get_vac, getting_deletes, getting_names, getting_vacs, goes, heads_of, is_amid_removals, is_own_frame, keys_named, known_schema, list_commits, list_parts, list_schemas, listing_of, listing_parts, lists, loaded_of, loads, looked_into, made_by, merge_goes, merge_objects, merges_all, merges_in, merging_from, names_removed, on_bytes, on_made, on_names, on_plan, on_read, opened_among, opening, opening_next, piece_merged, plan_for, puts_cells, puts_delete, puts_first, puts_merged, putting, reading_of, removing, schema_among, schema_object_of, schemas_in, schemas_named, seek_goes, seeks, source_begins, source_leads, survey_of, survey_with, surveying, surveys, sweep_goes, sweep_of, sweep_with, sweeping_vacs, takes_memory, unless_refused, want_of, where_schema, where_swept, with_clipped, with_deletion, with_item, with_vac, works}

module _ (F : Type 0) where
  -- the job is not amid its removals
  data Fresh (s : State F) : Type 0 where
    Is : is_amid_removals s ≡ false → Fresh s

  -- ---- what goes on with one thing or another

  either : (b : Bool) (s t : State F) → Fresh s → Fresh t → Fresh (cond b s t)
  either true s t one other = one
  either false s t one other = other

  with_names : (c : Call) (on : List Name → State F) (r : Reply) → ((names : List Name) → Fresh (on names)) → Fresh (on_names c on r)
  with_names c on (reply.Names names) each = each names
  with_names c on _ each = Is refl

  with_bytes : (c : Call) (on : List ℕ → State F) (r : Reply) → ((bytes : List ℕ) → Fresh (on bytes)) → Fresh (on_bytes c on r)
  with_bytes c on (reply.Bytes bytes) each = each bytes
  with_bytes c on _ each = Is refl

  with_read : {A : Type 0} (n : Name) (on : A → State F) (x : Result A ℕ) → ((a : A) → Fresh (on a)) → Fresh (on_read n on x)
  with_read n on (Ok a) each = each a
  with_read n on (Err at) each = Is refl

  of_item : {A : Type 0} (on : A → State F) (o : Option A) → ((a : A) → Fresh (on a)) → Fresh (with_item on o)
  of_item on (Some a) each = each a
  of_item on None each = Is refl

  made : (c : Call) (s : State F) (r : Reply) → Fresh s → Fresh (on_made c s r)
  made c s reply.Made is = is
  made c s _ is = Is refl

  unrefused : (s : State F) (o : Option Refusal) → Fresh s → Fresh (unless_refused s o)
  unrefused s None is = is
  unrefused s (Some r) is = Is refl

  -- ---- puts and first removals

  puts : (objects : List NewObject) (next : ℕ) (end : Outcome) → Fresh (putting objects next end)
  puts objects next end = either (nat_lt next (length objects)) (Puts objects next end) (Over end) (Is refl) (Is refl)

  puts_one : (job : Job) (o : Option FrameIn) → Fresh (puts_first job o)
  puts_one job (Some f) = puts (schema_object_of job f.attrs ∷ []) 0 outcome.Created
  puts_one job None = Is refl

  removes_first : (names : List Name) (end : Outcome) → Fresh (removing names 0 end)
  removes_first names end = either (nat_lt 0 (length names)) (Removes names 0 end) (Over end) (Is refl) (Is refl)

  after_put : (job : Job) (c : Call) (r : Reply) → Fresh (after_frame job c r)
  after_put job c reply.Taken = Is refl
  after_put job c r = made c (puts_first job (made_by job.command)) r (puts_one job (made_by job.command))

  -- ---- vacuums, unlocks and listings

  lists_parts : (s : Sweep) (set : List FragKey) (listed : List (List Name)) → Fresh (listing_parts s set listed)
  lists_parts s set listed = either (nat_lt (length listed) (length set)) (Sweeps (sweeping.ListsParts s set listed)) _ (Is refl) (removes_first (names_removed s set listed) _)

  gets_swept : (s : Sweep) → Fresh (sweeping_vacs s)
  gets_swept s = either (nat_lt (length s.vacs) (length s.counting)) (Sweeps (sweeping.GetsVacs s)) _ (Is refl) (lists_parts s (removal_set s.vacs) [])

  sweeps : (job : Job) (s : Sweeping) (r : Reply) → Fresh (sweep_goes job s r)
  sweeps job sweeping.ListsCommits r = with_names list_commits (λ x. Sweeps (sweeping.ListsSchemas (sweep_of x))) r (λ names. Is refl)
  sweeps job (sweeping.ListsSchemas s) r = with_names list_schemas _ r (λ names. by (schema_at (schemas_in names) (looked_at job)))
    where
      by : (o : Option Key) → Fresh (where_swept s (looked_at job) o)
      by None = Is refl
      by (Some k) = gets_swept s
  sweeps job (sweeping.GetsVacs s) r = of_item _ (slice_get s.counting (length s.vacs)) (λ f. with_bytes (get_vac f) (after_swept s f) r (λ bytes. with_read _ _ (names_of bytes) (λ names. gets_swept (sweep_with s f names))))
  sweeps job (sweeping.ListsParts s set listed) r = of_item _ (slice_get set (length listed)) (λ f. with_names (list_parts f) _ r (λ names. lists_parts s set (listed ++ names ∷ [])))

  told : (c : Command) (names : List Name) → Fresh (lists c names)
  told (Unlock seed lane) names = removes_first _ _
  told Fragments names = Is refl
  told _ names = Is refl

  module _ (codec : Codec F) where
    -- ---- reads

    steps : (r : Reading) (opened : List Opened) (schemas : List Schema) (next : ℕ) (frag : FragKey) (got : List Version) (on : List Version → State F) (x : Stepped F) → ((vs : List Version) → Fresh (on vs)) → Fresh (fetch_leads r opened schemas next frag got on x)
    steps r opened schemas next frag got on (Asks f c) each = Is refl
    steps r opened schemas next frag got on (Takes vs) each = each vs
    steps r opened schemas next frag got on (Breaks part at) each = Is refl

    begins_fetch : (r : Reading) (opened : List Opened) (schemas : List Schema) (next : ℕ) (frag : FragKey) (got : List Version) (on : List Version → State F) (x : Result F ℕ) → ((vs : List Version) → Fresh (on vs)) → Fresh (fetch_begins codec r opened schemas next frag got on x)
    begins_fetch r opened schemas next frag got on (Ok f) each = steps r opened schemas next frag got on (codec.steps f reply.Start) each
    begins_fetch r opened schemas next frag got on (Err at) each = Is refl

    fetches_next : (r : Reading) (opened : List Opened) (schemas : List Schema) (next : ℕ) (o : Opened) (got : List Version) (on : List Version → State F) (x : Option Schema) → ((vs : List Version) → Fresh (on vs)) → Fresh (fetches_one codec r opened schemas next o got on x)
    fetches_next r opened schemas next o got on None each = Is refl
    fetches_next r opened schemas next o got on (Some s) each = begins_fetch r opened schemas next o.frag got on (codec.opens r.frame s o.frag o.object (want_of r s.attrs)) each

    fetches : (r : Reading) (opened : List Opened) (schemas : List Schema) (next : ℕ) (rest : List Opened) (got : List Version) → Fresh (fetching codec r opened schemas next rest got)
    fetches r opened schemas next [] got = Is refl
    fetches r opened schemas next (o ∷ rest) got = fetches_next r opened schemas next o got _ (known_schema r schemas o.head.schema) (λ vs. fetches r opened schemas (suc next) rest (got ++ vs))

    gets_deletes : (r : Reading) (opened : List Opened) (schemas : List Schema) → Fresh (getting_deletes codec r opened schemas)
    gets_deletes r opened schemas = either (nat_lt (length r.deletions) (length r.delete_names)) (Collects (GetsDeletes r opened schemas)) _ (Is refl) (fetches r opened schemas 0 opened [])

    gathers : (r : Reading) (opened : List Opened) (keys : List Key) (schemas : List Schema) → Fresh (gathering codec r opened keys schemas)
    gathers r opened keys schemas = either (nat_lt (length schemas) (length keys)) (Collects (GetsSchemas r opened keys schemas)) _ (Is refl) (gets_deletes r opened schemas)

    loads_some : (r : Reading) (chosen : List Opened) → Fresh (loads codec r chosen)
    loads_some r chosen = gathers r chosen (keys_named r chosen) []

    opens_next : (r : Reading) (opened : List Opened) → Fresh (opening codec r opened)
    opens_next r opened = either (nat_lt (length opened) (length r.fragments)) (Collects (GetsHeads r opened)) _ (Is refl) (loads_some (with_clipped r (clipped_names r.from r.to (heads_of opened))) (opened_among (loaded_of r opened) opened))

    gets_vacs : (r : Reading) → Fresh (getting_vacs codec r)
    gets_vacs r = either (nat_lt (length r.vacs) (length r.counting)) (Collects (GetsVacs r)) _ (Is refl) (opens_next r [])

    collects : (s : Collecting F) (r : Reply) → Fresh (collect_goes codec s r)
    collects (GetsVacs r) r' = of_item _ (slice_get r.counting (length r.vacs)) (λ f. with_bytes (get_vac f) (after_vac codec r f) r' (λ bytes. with_read _ _ (names_of bytes) (λ names. gets_vacs (with_vac r f names))))
    collects (GetsHeads r opened) r' = of_item _ (slice_get r.fragments (length opened)) (λ f. with_bytes (get_head codec r f) (after_head codec r opened f) r' (λ bytes. with_read _ _ (codec.head r.frame f bytes) (λ head. opens_next r (opened ++ record { frag = f; head = head; object = bytes } ∷ []))))
    collects (GetsSchemas r opened keys schemas) r' = of_item _ (slice_get keys (length schemas)) (λ k. with_bytes (get_schema k) (after_schema codec r opened keys schemas k) r' (λ bytes. with_read _ _ (schema_of bytes) (λ attrs. gathers r opened keys (schemas ++ record { key = k; attrs = attrs } ∷ []))))
    collects (GetsDeletes r opened schemas) r' = of_item _ (slice_get r.delete_names (length r.deletions)) (λ f. with_bytes (get_delete f) (after_delete codec r opened schemas f) r' (λ bytes. with_read _ _ (cond_of bytes) (λ condition. gets_deletes (with_deletion r (deletion_named f condition)) opened schemas)))
    collects (Fetches r opened schemas next frag got f c) (reply.Bytes bytes) = steps r opened schemas next frag got _ (codec.steps f (reply.Bytes bytes)) (λ vs. fetches r opened schemas (suc next) (drop (suc next) opened) (got ++ vs))
    collects (Fetches r opened schemas next frag got f c) (reply.Length n) = steps r opened schemas next frag got _ (codec.steps f (reply.Length n)) (λ vs. fetches r opened schemas (suc next) (drop (suc next) opened) (got ++ vs))
    collects (Fetches r opened schemas next frag got f c) _ = Is refl

    module _ (job : Job) where
      -- ---- consolidations

      source_steps : (s : Survey) (sources : List Opened) (schema : Schema) (next : ℕ) (frag : FragKey) (got : List (List Version)) (on : List Version → State F) (x : Stepped F) → ((vs : List Version) → Fresh (on vs)) → Fresh (source_leads s sources schema next frag got on x)
      source_steps s sources schema next frag got on (Asks f c) each = Is refl
      source_steps s sources schema next frag got on (Takes vs) each = each vs
      source_steps s sources schema next frag got on (Breaks part at) each = Is refl

      begins_source : (s : Survey) (sources : List Opened) (schema : Schema) (next : ℕ) (frag : FragKey) (got : List (List Version)) (on : List Version → State F) (x : Result F ℕ) → ((vs : List Version) → Fresh (on vs)) → Fresh (source_begins codec s sources schema next frag got on x)
      begins_source s sources schema next frag got on (Ok f) each = source_steps s sources schema next frag got on (codec.steps f reply.Start) each
      begins_source s sources schema next frag got on (Err at) each = Is refl

      puts_sources : (s : Survey) (schema : Schema) (got : List (List Version)) (sources : List Opened) → Fresh (puts_merged codec job s schema got sources)
      puts_sources s schema got [] = Is refl
      puts_sources s schema got (o ∷ others) = either (can_be_named (piece_merged job s.frame o others got)) _ (Over outcome.OutOfMemory) (puts (merge_objects codec s.frame schema (piece_merged job s.frame o others got) (names_merged s.vacs (frags_of (o ∷ others)))) 0 (outcome.Consolidated ((piece_merged job s.frame o others got).head).frag (length (o ∷ others)))) (Is refl)

      merges_next : (s : Survey) (sources : List Opened) (schema : Schema) (next : ℕ) (rest : List Opened) (got : List (List Version)) → Fresh (merging_from codec job s sources schema next rest got)
      merges_next s sources schema next [] got = puts_sources s schema got sources
      merges_next s sources schema next (o ∷ rest) got = begins_source s sources schema next o.frag got _ (codec.opens s.frame schema o.frag o.object (all_of s.frame schema.attrs)) (λ vs. merges_next s sources schema (suc next) rest (got ++ vs ∷ []))

      merges_known : (s : Survey) (sources : List Opened) (o : Option Schema) → Fresh (merges_in codec job s sources o)
      merges_known s sources None = Is refl
      merges_known s sources (Some schema) = merges_next s sources schema 0 sources []

      merges_sources : (s : Survey) (schemas : List Schema) (sources : List Opened) → Fresh (merges_all codec job s schemas sources)
      merges_sources s schemas [] = Is refl
      merges_sources s schemas (o ∷ others) = merges_known s (o ∷ others) (schema_among schemas o.head.schema)

      plans : (s : Survey) (opened : List Opened) (schemas : List Schema) (p : Planned) → Fresh (on_plan codec job s opened schemas p)
      plans s opened schemas (planned.Take frags) = merges_sources s schemas (opened_among frags opened)
      plans s opened schemas (planned.Nothing count) = Is refl

      surveys_next : (s : Survey) (opened : List Opened) (keys : List Key) (schemas : List Schema) → Fresh (surveying codec job s opened keys schemas)
      surveys_next s opened keys schemas = either (nat_lt (length schemas) (length keys)) (Merges (merging.GetsSchemas s opened keys schemas)) _ (Is refl) (plans s opened schemas (plan_for s opened schemas))

      opens_survey : (s : Survey) (opened : List Opened) → Fresh (opening_next codec job s opened)
      opens_survey s opened = either (nat_lt (length opened) (length s.fragments)) (Merges (merging.GetsHeads s opened)) _ (Is refl) (surveys_next s opened (schemas_named opened) [])

      gets_names : (s : Survey) → Fresh (getting_names codec job s)
      gets_names s = either (nat_lt (length s.vacs) (length s.counting)) (Merges (merging.GetsVacs s)) _ (Is refl) (opens_survey s [])

      surveyed : (command : Command) (c : Candidates) (frame : Frame) → Fresh (surveys codec job command c frame)
      surveyed (Consolidate from to limits) c frame = gets_names (survey_of from to limits c frame)
      surveyed _ c frame = Is refl

      merges : (s : Merging F) (r : Reply) → Fresh (merge_goes codec job s r)
      merges merging.ListsCommits r = with_names list_commits (λ x. Merges (merging.ListsSchemas (candidates_of job.command x))) r (λ names. Is refl)
      merges (merging.ListsSchemas c) r = with_names list_schemas _ r (λ names. by (schema_at (schemas_in names) (looked_at job)))
        where
          by : (o : Option Key) → Fresh (where_schema c (looked_at job) o)
          by None = Is refl
          by (Some k) = Is refl
      merges (merging.GetsFrame c) r = with_bytes get_frame _ r (λ bytes. with_read name.Domain _ (frame_of bytes) (surveyed job.command c))
      merges (merging.GetsVacs s) r = of_item _ (slice_get s.counting (length s.vacs)) (λ f. with_bytes (get_vac f) (after_names codec job s f) r (λ bytes. with_read _ _ (names_of bytes) (λ names. gets_names (survey_with s f names))))
      merges (merging.GetsHeads s opened) r = of_item _ (slice_get s.fragments (length opened)) (λ f. with_bytes (get_head_in codec s.frame f) (after_opened codec job s opened f) r (λ bytes. with_read _ _ (codec.head s.frame f bytes) (λ head. opens_survey s (opened ++ record { frag = f; head = head; object = bytes } ∷ []))))
      merges (merging.GetsSchemas s opened keys schemas) r = of_item _ (slice_get keys (length schemas)) (λ k. with_bytes (get_schema k) (after_surveyed codec job s opened keys schemas k) r (λ bytes. with_read _ _ (schema_of bytes) (λ attrs. surveys_next s opened keys (schemas ++ record { key = k; attrs = attrs } ∷ []))))
      merges (merging.Fetches s sources schema next frag got f c) (reply.Bytes bytes) = source_steps s sources schema next frag got _ (codec.steps f (reply.Bytes bytes)) (λ vs. merges_next s sources schema (suc next) (drop (suc next) sources) (got ++ vs ∷ []))
      merges (merging.Fetches s sources schema next frag got f c) (reply.Length n) = source_steps s sources schema next frag got _ (codec.steps f (reply.Length n)) (λ vs. merges_next s sources schema (suc next) (drop (suc next) sources) (got ++ vs ∷ []))
      merges (merging.Fetches s sources schema next frag got f c) _ = Is refl

      -- ---- jobs that seek their schema, and creates

      puts_laid : (frame : Frame) (s : Schema) (x : Result (List Cell) Refusal) → Fresh (puts_cells codec job frame s x)
      puts_laid frame s (Ok cells) = puts _ 0 _
      puts_laid frame s (Err r) = Is refl

      puts_condition : (x : Result Condition Refusal) → Fresh (puts_delete job x)
      puts_condition (Ok condition) = puts (delete_object_of job condition ∷ []) 0 (outcome.Deleted (frag_of_job job))
      puts_condition (Err r) = Is refl

      reads : (from to : ℕ) (listed : Listed) (frame : Frame) (s : Schema) (x : Result Ready Refusal) → Fresh (asks_for codec from to listed frame s x)
      reads from to listed frame s (Ok ready) = gets_vacs (reading_of from to listed frame s ready)
      reads from to listed frame s (Err r) = Is refl

      does : (command : Command) (listed : Listed) (frame : Frame) (s : Schema) → Fresh (works codec job command listed frame s)
      does (Evolve change) listed frame s = unrefused _ (option_map refusal.SchemaBad (evolution_fault frame.domain s.attrs change)) (puts (schema_object_of job (evolved_attrs s.attrs change) ∷ []) 0 (outcome.Evolved (key_of job)))
      does (Write w) listed frame s = puts_laid frame s (laid frame s.attrs w)
      does (Read from to query) listed frame s = reads from to listed frame s (ready_in frame s.attrs query)
      does (Delete text) listed frame s = puts_condition (delete_condition frame s.attrs text)
      does _ listed frame s = Is refl

      seeks_on : (s : Seeking) (r : Reply) → Fresh (seek_goes codec job s r)
      seeks_on ListsCommits r = with_names list_commits (λ x. Seeks (ListsSchemas (looked_into job.command x))) r (λ names. Is refl)
      seeks_on (ListsSchemas listed) r = with_names list_schemas _ r (λ names. by (schema_at (schemas_in names) (looked_at job)))
        where
          by : (o : Option Key) → Fresh (seeks listed (looked_at job) o)
          by None = Is refl
          by (Some k) = Is refl
      seeks_on (GetsSchema listed there) r = with_bytes (get_schema there) _ r (λ bytes. with_read (name.Schema there) (λ x. Seeks (GetsFrame listed (record { key = there; attrs = x }))) (schema_of bytes) (λ attrs. Is refl))
      seeks_on (GetsFrame listed there) r = with_bytes get_frame _ r (λ bytes. with_read name.Domain _ (frame_of bytes) (λ frame. does job.command listed frame there))

      creates : (s : Creating) (r : Reply) → Fresh (create_goes job s r)
      creates PutsFrame r = of_item _ (made_by job.command) (λ f. after_put job (frame_put f) r)
      creates ComparesFrame r = with_bytes get_frame _ r (λ bytes. either (is_own_frame (made_by job.command) bytes) (Creates ListsDeclared) (Over (outcome.Refused refusal.ArrayExists)) (Is refl) (Is refl))
      creates ListsDeclared r = with_names list_schemas _ r (λ names. either (nat_eq (length names) 0) (puts_first job (made_by job.command)) (Over (outcome.Refused refusal.ArrayExists)) (puts_one job (made_by job.command)) (Is refl))

      -- where a reply that takes memory leads
      leads : (s : State F) (r : Reply) → takes_memory s ≡ true → Fresh (goes codec job s r)
      leads (Creates s) r takes = creates s r
      leads (Seeks s) r takes = seeks_on s r
      leads (Collects s) r takes = collects s r
      leads (Merges s) r takes = merges s r
      leads (Sweeps s) r takes = sweeps job s r
      leads Lists r takes = with_names (listing_of job.command) (lists job.command) r (told job.command)
      leads (Puts objects next end) r takes = absurd (true≢false (sym takes))
      leads (Removes names next end) r takes = absurd (true≢false (sym takes))
      leads (Over end) r takes = absurd (true≢false (sym takes))

      -- a job whose reply takes memory is not amid its removals where the reply leads
      pub takes_unremoved : (s : State F) (r : Reply) → takes_memory s ≡ true → is_amid_removals (goes codec job s r) ≡ false
      takes_unremoved s r takes = by_fresh (leads s r takes)
        where
          by_fresh : Fresh (goes codec job s r) → is_amid_removals (goes codec job s r) ≡ false
          by_fresh (Is e) = e
