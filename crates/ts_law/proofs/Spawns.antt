-- Jobs that begin: what is kept at the start, and when a job with a new identifier comes.
use Rattle.std.proofs.Common.{List, None, Option, Some, [], ap, arith, cond, false, inl, inr, length, refl, subst, suc, append_assoc, sym, take, zero, ℕ, ◌++◌, ◌<◌, ◌∙◌, ◌∷◌, ◌≡◌}
use Rattle.std.proofs.Common.{nat_eq}
use Rattle.std.proofs.lemmas.Bool.{eqb-true, ne_eqb, true≢false}
use Rattle.std.proofs.lemmas.List.{length_push}
use Rattle.std.proofs.lemmas.List.Elements.{All-contains, All-contains_itself, All-head, All-nil, All-push, All-tail, All-weaker, Contains-append_left}
use Rattle.std.proofs.lemmas.Option.{none-some, same_Some}
use Rattle.std.specs.Option.{is_some, option_or}
use Rattle.std.specs.Prelude.{All, Contains, IsSome, option_and_then, option_map, option_to_list, slice_get}
use Rattle.ts_base.specs.Held.{Held}
use Rattle.ts_base.specs.declared.heads.Version.{Version}
use Rattle.ts_base.specs.declared.keys.FragKey.{FragKey}
use Rattle.ts_base.specs.declared.names.Name.{Name}
use Rattle.ts_base.specs.declared.names.Prefix.{Prefix}
use Rattle.ts_base.specs.declared.names.Prefix.TheVariants.{Commits, Schemas}
use Rattle.ts_domain.specs.Dims.{domain_fault}
use Rattle.ts_domain.specs.declared.dims.DomainFault.{DomainFault}
use Rattle.ts_law.proofs.DeedKeys.{key_told}
use Rattle.ts_law.proofs.HeldLemmas.{Holds-from_get}
use Rattle.ts_model.proofs.HistoryLaws.{new_from_absent}
use Rattle.ts_model.proofs.ListLemmas.{find-Some, find-append, or_else, slice_get-Contains, slice_get_push}
use Rattle.ts_model.specs.Commands.{create_refusal, frame_made}
use Rattle.ts_model.specs.Deeds.{History, IsNewKey, deletions, frame_in, schemas, current_schema, schema_with, writes}
use Rattle.ts_law.specs.Ends.{AreInside, FindsNoArray, FindsNothing, HasDeclared, IsAnswerOver, IsMerged, IsPlanned, IsTrueEnd, IsTrueRefusal, IsUndone, IsVacuumed, ListedAt, attributes_with, up_to, FindsSchema}
use Rattle.ts_model.specs.Codecs.{Codec, Spelled, Tracking}
use Rattle.ts_law.specs.Fresh.{IsHeldId, IsNewId, IsSpent, id_in}
use Rattle.ts_model.specs.Jobs.{AreApart, IsFit, deletion_as, job_with, key_of, looked_at, written_as}
use Rattle.ts_law.specs.Kept.{Aims, AimsToMerge, AreDeletions, GotUsed, AreOpen, AreSchemas, AreSourcesIn, ChoosesFrom, Chooses, Claims, Clean, AreChosen, GettingDeletes, GettingVacs, Fetching, Gathering, HasListed, HasLooked, HasSources, IsFetched, IsOfJobs, Kept, Learns, LooksInto, MergeClaims, Merges, OnWay, Opening, Opens, Putting, ReadsAt, ReadsIn, Since, StageClaims, Surveys, SweepClaims, Unlocking, Works}
use Rattle.ts_law.specs.Stands.{HoldsIn, Stands}
use Rattle.ts_law.specs.Removals.{AreCoveredOutside}
use Rattle.ts_law.specs.Sweeps.{GetsNames, ListsAll, SweepsFrom, Vacuuming}
use Rattle.ts_commit.specs.Selections.{removal_set}
use Rattle.ts_model.specs.declared.states.Sweep.{Sweep}
use Rattle.ts_model.specs.declared.states.Sweeping.{Sweeping}
use Rattle.ts_model.specs.declared.states.Sweeping.TheVariants as sweeping
use Rattle.ts_model.specs.States.{heads_of, begun, frags_of, keys_named, schemas_named, unless_refused}
use Rattle.ts_model.specs.Stages.{begins_at, first_stage, lease_of, stage_of}
use Rattle.ts_model.specs.declared.states.Stage.{Stage}
use Rattle.ts_model.specs.declared.states.Stage.TheVariants.{ListsLeases, PutsLease, Releases}
use Rattle.ts_model.specs.declared.states.Stage.TheVariants as stages
use Rattle.ts_law.proofs.LeaseSteps.{lease_is}
use Rattle.ts_law.proofs.Leasing.{leased_more, no_leases}
use Rattle.ts_model.specs.Told.{Told, deed_in, deed_told, grown, held_told, history_from, history_told, is_by, schemas_found, trace_of}
use Rattle.ts_model.specs.declared.answers.Outcome.{Outcome}
use Rattle.ts_model.specs.declared.answers.Refusal.{Refusal}
use Rattle.ts_model.specs.declared.commands.Command.{Command}
use Rattle.ts_model.specs.declared.commands.Command.TheVariants.{Consolidate, Create, Delete, Evolve, Fragments, Read, Vacuum, Unlock, Write}
use Rattle.ts_model.specs.declared.commands.FrameIn.{FrameIn}
use Rattle.ts_model.specs.declared.commands.Job.{Job}
use Rattle.ts_model.specs.declared.states.Listed.{Listed}
use Rattle.ts_model.specs.declared.states.NewObject.{NewObject}
use Rattle.ts_model.specs.declared.states.Opened.{Opened}
use Rattle.ts_model.specs.declared.states.Reading.{Reading}
use Rattle.ts_model.specs.declared.states.State.{State}
use Rattle.ts_model.specs.declared.states.State.TheVariants.{Creates, Seeks, Puts, Collects, Lists, Removes, Over}
use Rattle.ts_model.specs.declared.states.State.TheVariants as states
use Rattle.ts_model.specs.declared.states.Candidates.{Candidates}
use Rattle.ts_model.specs.declared.states.Merging.{Merging}
use Rattle.ts_model.specs.declared.states.Merging.TheVariants as merging
use Rattle.ts_model.specs.declared.states.Survey.{Survey}
use Rattle.ts_commit.specs.declared.vacs.Limits.{Limits}
use Rattle.ts_commit.specs.declared.vacs.Planned.{Planned}
use Rattle.ts_commit.specs.declared.vacs.Planned.TheVariants as planned
use Rattle.ts_commit.specs.Plans.{plan_of}
use Rattle.ts_base.specs.Names.{wrt_of}
use Rattle.ts_model.specs.declared.states.Creating.TheVariants.{PutsFrame, ComparesFrame, ListsDeclared}
use Rattle.ts_model.specs.declared.states.Seeking.TheVariants.{ListsCommits, ListsSchemas, GetsSchema, GetsFrame}
use Rattle.ts_model.specs.declared.states.Collecting.TheVariants.{GetsVacs, GetsHeads, GetsSchemas, GetsDeletes, Fetches}
use Rattle.ts_schema.specs.Evolutions.{evolved_attrs}
use Rattle.ts_schema.specs.Faults.{schema_fault}
use Rattle.ts_schema.specs.declared.faults.SchemaFault.{SchemaFault}
use Rattle.ts_schema.specs.declared.frames.Frame.{Frame}
use Rattle.ts_schema.specs.declared.schemas.Schema.{Schema}
use Rattle.ts_base.specs.declared.names.Place.TheVariants as place
use Rattle.std.specs.FinMap as map
use Rattle.ts_base.specs.declared.names.Name.TheVariants as name
use Rattle.ts_model.specs.declared.answers.Outcome.TheVariants as outcome
use Rattle.ts_model.specs.declared.answers.Refusal.TheVariants as refusal

-- ---- keys

-- no deed has the key of a job whose identifier is new
pub new_key : (opening : Held) (past : History) (m : Held) (jobs : List Job) (seen : List Told) (job : Job) → IsNewId opening past m jobs job.id → IsNewKey (history_told jobs past seen) (key_of job)
new_key opening past m jobs seen job is = new_from_absent (history_told jobs past seen) (key_of job) (λ at. elim (key_told jobs past [] seen (key_of job) at) [
  | inl before ↦ is.uncarried (inl (key_of job, before, refl))
  | inr known ↦ is.other known.number known.job known.is_job (sym (ap (λ k. k.id) known.key))
])

-- ---- a job that made no call

-- no held object carries a new identifier
new_is_free : (m : Held) (id : ℕ) → (IsHeldId m id → ⊥) → (n : Name) → id_in n ≡ Some id → map.get m n ≡ None
new_is_free m id free n carries = from_got (map.get m n) refl
  where
    from_got : (o : Option (List ℕ)) → map.get m n ≡ o → o ≡ None
    from_got None is = refl
    from_got (Some bytes) is = absurd (free (n, Holds-from_get m n bytes is, carries))

module _ {F : Type 0} (codec : Codec F) (spelled : Spelled) (tracks : Tracking F) (opening m : Held) (past : History) (jobs : List Job) (seen : List Told) (number : ℕ) (job : Job)
    (clean : Clean opening past jobs seen m job) where
  -- a create that is not refused puts its frame, and else no deed has its key
  create_claims : (f : FrameIn) → job.command ≡ Create f → (o q : Option Refusal) → create_refusal f ≡ option_or o q
      → ((r : Refusal) → o ≡ Some r → IsTrueRefusal spelled opening jobs past seen number job r) → ((r : Refusal) → q ≡ Some r → IsTrueRefusal spelled opening jobs past seen number job r)
      → Claims codec spelled tracks opening past jobs seen m number job (unless_refused (Creates PutsFrame) (option_or o q))
  create_claims f is None None sound first second = (clean, (f, is, sound))
  create_claims f is None (Some r) sound first second = second r refl
  create_claims f is (Some r) q sound first second = first r refl

  -- a refusal for the dimensions is true
  domain_refusal : (f : FrameIn) (o : Option DomainFault) (r : Refusal) → option_map refusal.DomainBad o ≡ Some r → IsTrueRefusal spelled opening jobs past seen number job r
  domain_refusal f None r is = absurd (none-some r is)
  domain_refusal f (Some fault) r is = subst (IsTrueRefusal spelled opening jobs past seen number job) (same_Some (refusal.DomainBad fault) r is) clean.undone

  -- a refusal for the attributes is true
  schema_refusal : (f : FrameIn) (o : Option SchemaFault) (r : Refusal) → option_map refusal.SchemaBad o ≡ Some r → IsTrueRefusal spelled opening jobs past seen number job r
  schema_refusal f None r is = absurd (none-some r is)
  schema_refusal f (Some fault) r is = subst (IsTrueRefusal spelled opening jobs past seen number job) (same_Some (refusal.SchemaBad fault) r is) clean.undone

  -- the claims of where a clean job begins
  begun_claims : (c : Command) → job.command ≡ c → Claims codec spelled tracks opening past jobs seen m number job (begun c)
  begun_claims (Create f) is =
      create_claims f is (option_map refusal.DomainBad (domain_fault f.dims)) (option_map refusal.SchemaBad (schema_fault f.dims f.attrs)) refl
      (λ r e. domain_refusal f (domain_fault f.dims) r e) (λ r e. schema_refusal f (schema_fault f.dims f.attrs) r e)
  begun_claims (Evolve change) is = (clean, rw is tt)
  begun_claims (Write w) is = (clean, rw is tt)
  begun_claims (Read from to query) is = (clean, (from, to, query, is))
  begun_claims (Delete text) is = (clean, rw is tt)
  begun_claims (Consolidate from to limits) is = (clean, (from, to, limits, is))
  begun_claims Vacuum is = (clean, is)
  begun_claims (Unlock seed lane) is = (clean, inl (seed, lane, is))
  begun_claims Fragments is = (clean, inr is)

-- ---- the start

-- what is kept before the first job comes: the map stands for the past
pub starts_kept : {F : Type 0} (codec : Codec F) (spelled : Spelled) (tracks : Tracking F) (past : History) (m : Held) → Stands spelled m past → Kept codec spelled tracks m past [] [] [] m
starts_kept codec spelled tracks past m stands = record {
  stands = stands;
  is_held = refl;
  spent = record {
    committed = λ f committed. inl (inr (inl (wrt_of f, committed, refl)));
    named = λ f named. inl (inr (inr (f, named, refl)));
  };
  apart = λ i j a b at_i at_j same. absurd (none-some a at_i);
  fit = All-nil IsFit;
  known = All-nil (IsOfJobs []);
  leased = no_leases codec m;
  claims = λ number job at alive. absurd (none-some job at);
}

-- ---- a job more

-- an item of the front of two lists
slice_get_front : {X : Type 0} (xs ys : List X) (i : ℕ) → i < length xs → slice_get (xs ++ ys) i ≡ slice_get xs i
slice_get_front [] ys i less = absurd (omega arith)
slice_get_front (x ∷ xs) ys zero less = refl
slice_get_front (x ∷ xs) ys (suc i) less = slice_get_front xs ys i (omega arith)

module _ (jobs : List Job) (job : Job) where
  -- the jobs with the one that comes
  abbrev all : List Job
  all = jobs ++ job ∷ []

  -- a job that is found is found among all
  job_with_more : (id : ℕ) → IsSome (job_with jobs id) → job_with all id ≡ job_with jobs id
  job_with_more id some = find-append (λ j. nat_eq j.id id) jobs (job ∷ []) ∙ first (job_with jobs id) some
    where
      first : (o : Option Job) → IsSome o → or_else o (job_with (job ∷ []) id) ≡ o
      first None is = absurd (true≢false (sym is))
      first (Some j) is = refl

  -- a call of one of the jobs has the same deed
  deed_told_more : (h : History) (seen : List Told) (e : Told) → IsOfJobs jobs e → deed_told all h seen e ≡ deed_told jobs h seen e
  deed_told_more h seen e known = of_maker e.job refl
    where
      of_maker : (o : Option ℕ) → e.job ≡ o → deed_told all h seen e ≡ deed_told jobs h seen e
      of_maker None is = rw is refl
      of_maker (Some number) is =
          rw is (ap (option_and_then (λ j. deed_in h j (schemas_found (trace_of number seen)) e.call)) (slice_get_front jobs (job ∷ []) number (known.numbered number is)))

  -- calls of the jobs before append the same deeds to any history
  history_from_more : (h : History) (before seen : List Told) → All (IsOfJobs jobs) seen → history_from all h before seen ≡ history_from jobs h before seen
  history_from_more h before [] known = refl
  history_from_more h before (e ∷ seen) known =
      ap (λ o. history_from all (h ++ cond e.changed (option_to_list o) []) (before ++ e ∷ []) seen) (deed_told_more h before e (All-head (IsOfJobs jobs) e seen known))
      ∙ history_from_more (h ++ grown jobs h before e) (before ++ e ∷ []) seen (All-tail (IsOfJobs jobs) e seen known)

  -- calls of the jobs before append the same deeds
  pub history_more : (past : History) (seen : List Told) → All (IsOfJobs jobs) seen → history_told all past seen ≡ history_told jobs past seen
  history_more past seen known = history_from_more past [] seen known

  -- no call was made by the job that comes
  not_by : (o : Option ℕ) → ((number : ℕ) → o ≡ Some number → number < length jobs) → is_by (length jobs) o ≡ false
  not_by None below = refl
  not_by (Some number) below = ne_eqb number (length jobs) (λ same. let less = below number refl in omega arith)

  -- the job that comes has made no call
  no_calls : (seen : List Told) → All (IsOfJobs jobs) seen → trace_of (length jobs) seen ≡ []
  no_calls [] known = refl
  no_calls (e ∷ seen) known =
      rw (not_by e.job (All-head (IsOfJobs jobs) e seen known).numbered) (no_calls seen (All-tail (IsOfJobs jobs) e seen known))

  -- the jobs before are among all
  of_all : (e : Told) → IsOfJobs jobs e → IsOfJobs all e
  of_all e known = record {
    numbered = λ number is. let less = known.numbered number is in rw (length_push jobs job) (omega arith);
    puts = λ n bytes id is carried. let some = known.puts n bytes id is carried in rw (job_with_more id some) some;
  }

  -- ---- what was claimed of the jobs before is true among all

  module _ {F : Type 0} (codec : Codec F) (spelled : Spelled) (tracks : Tracking F) (opening : Held) (past : History) (seen : List Told) (known : All (IsOfJobs jobs) seen) (m : Held) (number : ℕ) (j : Job) where
    -- the history now is one
    now : history_told jobs past seen ≡ history_told all past seen
    now = sym (history_more past seen known)

    -- so is that after the first calls
    front_more : (front back : List Told) → seen ≡ front ++ back → history_told jobs past front ≡ history_told all past front
    front_more front back parts = sym (history_more past front known_front)
      where
        known_front : All (IsOfJobs jobs) front
        known_front = All-weaker (Contains front) (IsOfJobs jobs) (λ e there. All-contains (IsOfJobs jobs) seen e known (rw parts (Contains-append_left front back e there))) front (All-contains_itself front)

    -- and that at a listing
    listed_more : (prefix : Prefix) (at : ListedAt seen number prefix) → history_told jobs past at.before ≡ history_told all past at.before
    listed_more prefix at = front_more at.before (at.listing ∷ at.later) at.place

    -- a create that found no array found none among all
    no_array_more : (made : FrameIn) → FindsNoArray jobs past seen number made → FindsNoArray all past seen number made
    no_array_more made (inl (at, is_made, nothing)) = inl (at, is_made, subst (λ g. g ≡ []) (front_more at.before (at.made ∷ at.later) at.place) nothing)
    no_array_more made (inr (at, none)) = inr (at, subst (λ g. schemas g ≡ []) (listed_more Schemas at) none)

    -- a clean job is clean among all
    clean_more : Clean opening past jobs seen m j → Clean opening past all seen m j
    clean_more clean = record { free = clean.free; undone = subst (λ g. IsUndone g j) now clean.undone; unspent = clean.unspent }

    -- the frame is one among all
    framed_more : (frame : Frame) → frame_in (history_told jobs past seen) ≡ Some frame → frame_in (history_told all past seen) ≡ Some frame
    framed_more frame is = subst (λ g. frame_in g ≡ Some frame) now is

    -- the schema that a job works in is one among all
    abbrev works_more : (there : Schema) → Works past jobs seen number j there → Works past all seen number j there
    works_more there is = record {
      schemas = is.schemas;
      undone = subst (λ g. IsUndone g j) (listed_more Schemas is.schemas) is.undone;
      holds = subst (λ g. current_schema g (looked_at j) ≡ Some there) (listed_more Schemas is.schemas) is.holds;
      found = is.found;
      is_found = is.is_found;
      at = is.at;
      declared = subst (λ g. schema_with g there.key ≡ Some there) now is.declared;
    }

    -- no deed of the job is one among all
    undone_more : IsUndone (history_told jobs past seen) j → IsUndone (history_told all past seen) j
    undone_more is = subst (λ g. IsUndone g j) now is

    -- what a job knows since its listing of the commits is the same among all
    abbrev since_more : Since spelled opening past jobs seen m number → Since spelled opening past all seen m number
    since_more is = record {
      commits = is.commits;
      stands = subst (Stands spelled (held_told opening (is.commits).before)) (listed_more Commits is.commits) is.stands;
      held = is.held;
    }

    -- what a read listed is the same among all
    abbrev near_more : (from to : ℕ) (fragments counting delete_names : List FragKey) → LooksInto spelled opening past jobs seen m number from to fragments counting delete_names → LooksInto spelled opening past all seen m number from to fragments counting delete_names
    near_more from to fragments counting delete_names is = record {
      since = since_more is.since;
      fragments_are = is.fragments_are;
      counting_are = is.counting_are;
      deletes_are = is.deletes_are;
    }

    -- what a job listed before the schemas is the same among all
    has_near_more : (command : Command) (listed : Listed) → HasLooked spelled opening past jobs seen m number command listed → HasLooked spelled opening past all seen m number command listed
    has_near_more (Create f) listed is = is
    has_near_more (Evolve change) listed is = is
    has_near_more (Write w) listed is = is
    has_near_more (Read from to query) listed is = near_more from to listed.fragments listed.counting listed.delete_names is
    has_near_more (Delete text) listed is = is
    has_near_more (Consolidate from to limits) listed is = elim is [ ]
    has_near_more Vacuum listed is = elim is [ ]
    has_near_more (Unlock seed lane) listed is = elim is [ ]
    has_near_more Fragments listed is = elim is [ ]

    -- what a read listed, and then the schemas, is the same among all
    abbrev reads_at_more : (from to : ℕ) (fragments counting delete_names : List FragKey) (there : Schema)
        → ReadsAt spelled opening past jobs seen m number j from to fragments counting delete_names there → ReadsAt spelled opening past all seen m number j from to fragments counting delete_names there
    reads_at_more from to fragments counting delete_names there is = record {
      listed = near_more from to fragments counting delete_names is.listed;
      works = works_more there is.works;
      between = is.between;
      order = is.order;
    }

    -- what a job listed before it gets the schema there is the same among all
    has_listed_more : (command : Command) (listed : Listed) (there : Schema)
        → HasListed spelled opening past jobs seen m number j command listed there → HasListed spelled opening past all seen m number j command listed there
    has_listed_more (Create f) listed there is = is
    has_listed_more (Evolve change) listed there is = works_more there is
    has_listed_more (Write w) listed there is = works_more there is
    has_listed_more (Read from to query) listed there is = reads_at_more from to listed.fragments listed.counting listed.delete_names there is
    has_listed_more (Delete text) listed there is = works_more there is
    has_listed_more (Consolidate from to limits) listed there is = elim is [ ]
    has_listed_more Vacuum listed there is = elim is [ ]
    has_listed_more (Unlock seed lane) listed there is = elim is [ ]
    has_listed_more Fragments listed there is = elim is [ ]

    -- what a read knows is the same among all
    abbrev reads_in_more : (r : Reading) → ReadsIn spelled opening past jobs seen m number j r → ReadsIn spelled opening past all seen m number j r
    reads_in_more r is = record {
      query = is.query;
      reads = is.reads;
      at = reads_at_more r.from r.to r.fragments r.counting r.delete_names r.current is.at;
      framed = subst (λ g. frame_in g ≡ Some r.frame) (listed_more Schemas ((is.at).works).schemas) is.framed;
      is_ready = is.is_ready;
    }

    -- a read that gets `.vac` objects is such among all
    abbrev getting_vacs_more : (r : Reading) → GettingVacs spelled opening past jobs seen m number j r → GettingVacs spelled opening past all seen m number j r
    getting_vacs_more r is = record { reads = reads_in_more r is.reads; are_vacs = is.are_vacs }

    -- a read that opens is such among all
    abbrev opening_more : (r : Reading) (opened : List Opened) → Opening codec spelled opening past jobs seen m number j r opened → Opening codec spelled opening past all seen m number j r opened
    opening_more r opened is = record {
      reads = reads_in_more r is.reads;
      are_vacs = is.are_vacs;
      all_vacs = is.all_vacs;
      are_open = subst (λ g. AreOpen codec spelled g (held_told opening (((is.reads).at).listed).since.commits.before) r.frame r.fragments opened) (listed_more Commits (((is.reads).at).listed).since.commits) is.are_open;
    }

    -- a read that gathers schemas is such among all
    abbrev gathering_more : (r : Reading) (opened : List Opened) (schemas : List Schema)
        → Gathering codec spelled opening past jobs seen m number j r opened schemas → Gathering codec spelled opening past all seen m number j r opened schemas
    gathering_more r opened schemas is = record {
      reads = reads_in_more r is.reads;
      chosen = subst (λ g. AreChosen codec spelled g (held_told opening (((is.reads).at).listed).since.commits.before) r opened) (listed_more Commits (((is.reads).at).listed).since.commits) is.chosen;
      gathered = subst (λ g. AreSchemas g (keys_named r opened) schemas) now is.gathered;
    }

    -- a read that gets deletes is such among all
    abbrev getting_deletes_more : (r : Reading) (opened : List Opened) (schemas : List Schema)
        → GettingDeletes codec spelled opening past jobs seen m number j r opened schemas → GettingDeletes codec spelled opening past all seen m number j r opened schemas
    getting_deletes_more r opened schemas is = record {
      gathers = gathering_more r opened schemas is.gathers;
      all_schemas = is.all_schemas;
      deletions = subst (λ g. AreDeletions g r.delete_names r.deletions) now is.deletions;
    }

    -- a read that fetches is such among all
    abbrev fetching_more : (r : Reading) (opened : List Opened) (schemas : List Schema) (next : ℕ) (got : List Version)
        → Fetching codec spelled opening past jobs seen m number j r opened schemas next got → Fetching codec spelled opening past all seen m number j r opened schemas next got
    fetching_more r opened schemas next got is = record {
      deletes_found = getting_deletes_more r opened schemas is.deletes_found;
      all_deletes = is.all_deletes;
      found = subst (λ g. GotUsed g r schemas (heads_of (take next opened)) got) (listed_more Commits ((((((is.deletes_found).gathers)).reads).at).listed).since.commits) is.found;
    }

    -- ---- consolidations

    -- what a consolidation chooses from is the same among all
    abbrev chooses_from_more : (from to : ℕ) (fragments counting : List FragKey) → ChoosesFrom spelled opening past jobs seen m number from to fragments counting → ChoosesFrom spelled opening past all seen m number from to fragments counting
    chooses_from_more from to fragments counting is = record {
      since = since_more is.since;
      fragments_are = is.fragments_are;
      counting_are = is.counting_are;
    }

    -- a consolidation that listed the commits is such among all
    abbrev chooses_more : (c : Candidates) → Chooses spelled opening past jobs seen m number j c → Chooses spelled opening past all seen m number j c
    chooses_more c is = record {
      from = is.from;
      to = is.to;
      limits = is.limits;
      merges = is.merges;
      chooses = chooses_from_more is.from is.to c.fragments c.counting is.chooses;
    }

    -- that a job found a schema is true among all
    abbrev finds_schema_more : FindsSchema jobs past seen number j → FindsSchema all past seen number j
    finds_schema_more is = record { schemas = is.schemas; current = is.current; holds = subst (λ g. current_schema g (looked_at j) ≡ Some is.current) (listed_more Schemas is.schemas) is.holds }

    -- so is one that gets `.vac` objects
    abbrev surveys_more : (s : Survey) → Surveys spelled opening past jobs seen m number j s → Surveys spelled opening past all seen m number j s
    surveys_more s is = record {
      merges = is.merges;
      chooses = chooses_from_more s.from s.to s.fragments s.counting is.chooses;
      found = finds_schema_more is.found;
      framed = framed_more s.frame is.framed;
      are_vacs = is.are_vacs;
    }

    -- one that opens fragments
    abbrev opens_more : (s : Survey) (opened : List Opened) → Opens codec spelled opening past jobs seen m number j s opened → Opens codec spelled opening past all seen m number j s opened
    opens_more s opened is = record {
      surveys = surveys_more s is.surveys;
      all_vacs = is.all_vacs;
      are_open = subst (λ g. AreOpen codec spelled g (held_told opening ((((is.surveys).chooses).since).commits).before) s.frame s.fragments opened) (listed_more Commits (((is.surveys).chooses).since).commits) is.are_open;
    }

    -- one that gets schemas
    abbrev learns_more : (s : Survey) (opened : List Opened) (schemas : List Schema) → Learns codec spelled opening past jobs seen m number j s opened schemas → Learns codec spelled opening past all seen m number j s opened schemas
    learns_more s opened schemas is = record {
      opens = opens_more s opened is.opens;
      all_open = is.all_open;
      gathered = subst (λ g. AreSchemas g (schemas_named opened) schemas) now is.gathered;
    }

    -- a plan is the same over a history that is the same
    abbrev planned_more : (g h : History) → g ≡ h → (n : Held) (from to : ℕ) (limits : Limits) (plan : Planned) → IsPlanned spelled g n from to limits plan → IsPlanned spelled h n from to limits plan
    planned_more g h same n from to limits plan is = record {
      heads = is.heads;
      are_heads = subst (λ x. AreInside spelled x n from to is.heads) same is.are_heads;
      vacs = is.vacs;
      are_vacs = is.are_vacs;
      is = subst (λ x. plan_of is.heads is.vacs (attributes_with x) from to limits ≡ plan) same is.is;
    }

    -- a consolidation that knows its sources is such among all
    abbrev has_sources_more : (s : Survey) (sources : List Opened) (schema : Schema)
        → HasSources codec spelled opening past jobs seen m number j s sources schema → HasSources codec spelled opening past all seen m number j s sources schema
    has_sources_more s sources schema is =
        let commits = (((is.surveys).chooses).since).commits in
        record {
          surveys = surveys_more s is.surveys;
          by_plan = planned_more (history_told jobs past commits.before) (history_told all past commits.before) (listed_more Commits commits) (held_told opening commits.before) s.from s.to s.limits (planned.Take (frags_of sources)) is.by_plan;
          same_vacs = is.same_vacs;
          heads = is.heads;
          pieces = is.pieces;
          are_sources = subst (λ g. AreSourcesIn codec spelled g (held_told opening commits.before) s.frame schema sources is.pieces) (listed_more Commits commits) is.are_sources;
          declared = subst (λ g. schema_with g schema.key ≡ Some schema) now is.declared;
        }

    -- so is one that fetches them
    abbrev merges_more : (s : Survey) (sources : List Opened) (schema : Schema) (next : ℕ) (got : List (List Version))
        → Merges codec spelled opening past jobs seen m number j s sources schema next got → Merges codec spelled opening past all seen m number j s sources schema next got
    merges_more s sources schema next got is = record { has = has_sources_more s sources schema is.has; got_are = is.got_are }

    -- and one that puts what they are merged into
    aims_to_merge_more : (objects : List NewObject) (f : FragKey) (count : ℕ) → AimsToMerge codec spelled opening past jobs seen m number j objects f count → AimsToMerge codec spelled opening past all seen m number j objects f count
    aims_to_merge_more objects f count is = record {
      survey = is.survey;
      first = is.first;
      others = is.others;
      schema = is.schema;
      got = is.got;
      merges = merges_more is.survey (is.first ∷ is.others) is.schema (length (is.first ∷ is.others)) is.got is.merges;
      named = is.named;
      counted = is.counted;
      can = is.can;
      are = is.are;
    }

    -- what the state of a consolidation says is true among all
    merge_claims_more : (s : Merging F) → MergeClaims codec spelled tracks opening past jobs seen m number j s → MergeClaims codec spelled tracks opening past all seen m number j s
    merge_claims_more merging.ListsCommits is = (clean_more is.0, is.1)
    merge_claims_more (merging.ListsSchemas c) is = (clean_more is.0, chooses_more c is.1)
    merge_claims_more (merging.GetsFrame c) is = (clean_more is.0, chooses_more c is.1, (is.2.0, framed_more is.2.0 is.2.1), finds_schema_more is.3)
    merge_claims_more (merging.GetsVacs s) is = (clean_more is.0, surveys_more s is.1)
    merge_claims_more (merging.GetsHeads s opened) is = (clean_more is.0, opens_more s opened is.1)
    merge_claims_more (merging.GetsSchemas s opened named schemas) is = (clean_more is.0, is.1, learns_more s opened schemas is.2)
    merge_claims_more (merging.Fetches s sources schema next frag got fetch c) is =
        let commits = (((((is.2.0).has).surveys).chooses).since).commits in (
          clean_more is.0,
          is.1,
          (
            merges_more s sources schema next got is.2.0,
            subst (λ g. IsFetched codec spelled tracks g (held_told opening commits.before) s.frame schema frag ((is.2.0).has).pieces next fetch c) (listed_more Commits commits) is.2.1,
          ),
        )

    -- that a consolidation found nothing to do is true among all
    finds_nothing_more : (count : ℕ) → FindsNothing spelled opening jobs past seen number j count → FindsNothing spelled opening all past seen number j count
    finds_nothing_more count is =
        let before = (is.commits).before in
        record {
          from = is.from;
          to = is.to;
          limits = is.limits;
          merges = is.merges;
          commits = is.commits;
          by_plan = planned_more (history_told jobs past before) (history_told all past before) (listed_more Commits is.commits) (held_told opening before) is.from is.to is.limits (planned.Nothing count) is.by_plan;
          found = finds_schema_more is.found;
        }

    -- so is what it merged
    merged_more : (f : FragKey) (count : ℕ) → IsMerged spelled opening jobs past seen number j f count → IsMerged spelled opening all past seen number j f count
    merged_more f count is =
        let before = (is.commits).before in
        let put = is.put in
        record {
          from = is.from;
          to = is.to;
          limits = is.limits;
          merges = is.merges;
          commits = is.commits;
          sources = is.sources;
          by_plan = planned_more (history_told jobs past before) (history_told all past before) (listed_more Commits is.commits) (held_told opening before) is.from is.to is.limits (planned.Take is.sources) is.by_plan;
          counted = is.counted;
          found = finds_schema_more is.found;
          own = is.own;
          put = is.put;
          later = is.later;
          order = is.order;
          committed = is.committed;
          piece = is.piece;
          holds = subst (λ g. HoldsIn spelled g (held_told opening (up_to put.before put.made)) f is.piece)
              (front_more (up_to put.before put.made) put.later (put.place ∙ sym (append_assoc put.before (put.made ∷ []) put.later))) is.holds;
          origins = is.origins;
          merged = is.merged;
        }

    -- ---- vacuums

    -- a vacuum that listed the commits is such among all
    abbrev sweeps_from_more : (s : Sweep) → SweepsFrom spelled opening past jobs seen m number j s → SweepsFrom spelled opening past all seen m number j s
    sweeps_from_more s is = record { vacuums = is.vacuums; since = since_more is.since; is_found = is.is_found; spent = is.spent; old = is.old }

    -- so is one that gets `.vac` objects
    abbrev gets_names_more : (s : Sweep) → GetsNames spelled opening past jobs seen m number j s → GetsNames spelled opening past all seen m number j s
    gets_names_more s is = record { from = sweeps_from_more s is.from; found = finds_schema_more is.found }

    -- one that lists the objects of fragments
    abbrev lists_all_more : (s : Sweep) (set : List FragKey) (listed : List (List Name)) → ListsAll spelled opening past jobs seen m number j s set listed → ListsAll spelled opening past all seen m number j s set listed
    lists_all_more s set listed is = record { gets = gets_names_more s is.gets; all_vacs = is.all_vacs; set_is = is.set_is; so_many = is.so_many; parts = is.parts }

    -- and one that removes
    vacuuming_more : (names : List Name) (next : ℕ) (end : Outcome) → Vacuuming spelled opening past jobs seen m number j names next end → Vacuuming spelled opening past all seen m number j names next end
    vacuuming_more names next end is = record {
      clean = clean_more is.clean;
      vacuums = is.vacuums;
      commits = is.commits;
      sweep = is.sweep;
      is_found = is.is_found;
      all_vacs = is.all_vacs;
      found = finds_schema_more is.found;
      listed = is.listed;
      all_listed = is.all_listed;
      parts = is.parts;
      names_are = is.names_are;
      ends = is.ends;
      spent = is.spent;
      covered = subst (λ g. AreCoveredOutside spelled g m (removal_set (is.sweep).vacs)) now is.covered;
      sweeping = is.sweeping;
      gone = is.gone;
    }

    -- what the state of a vacuum says is true among all
    sweep_claims_more : (s : Sweeping) → SweepClaims spelled opening past jobs seen m number j s → SweepClaims spelled opening past all seen m number j s
    sweep_claims_more sweeping.ListsCommits is = (clean_more is.0, is.1)
    sweep_claims_more (sweeping.ListsSchemas s) is = (clean_more is.0, sweeps_from_more s is.1)
    sweep_claims_more (sweeping.GetsVacs s) is = (clean_more is.0, gets_names_more s is.1)
    sweep_claims_more (sweeping.ListsParts s set listed) is = (clean_more is.0, lists_all_more s set listed is.1)

    -- what a vacuum removed is the same among all
    vacuumed_more : (count : ℕ) → IsVacuumed opening jobs past seen number j count → IsVacuumed opening all past seen number j count
    vacuumed_more count is = record {
      vacuums = is.vacuums;
      commits = is.commits;
      vacs = is.vacs;
      are_vacs = is.are_vacs;
      counted = is.counted;
      found = finds_schema_more is.found;
      swept = is.swept;
      vacs_gone = is.vacs_gone;
    }

    -- what an unlock knows is the same among all
    unlocking_more : (names : List Name) (next : ℕ) (end : Outcome) → Unlocking opening past jobs seen m number j names next end → Unlocking opening past all seen m number j names next end
    unlocking_more names next end is = record { clean = clean_more is.clean; seed = is.seed; lane = is.lane; unlocks = is.unlocks; leases = is.leases; names_are = is.names_are; ends = is.ends; gone = is.gone }

    -- ---- what a job puts, and its end

    -- what the last put of a job makes of it is the same among all
    aims_more : (objects : List NewObject) (end : Outcome) → Aims codec spelled opening past jobs seen m number j objects end → Aims codec spelled opening past all seen m number j objects end
    aims_more objects outcome.Created (f, creates, is, none, framed, new) = (f, creates, is, none, framed_more (frame_made f) framed, no_array_more f new)
    aims_more objects (outcome.Evolved k) (change, frame, there, evolves, same, is, framed, sound, works) =
        (change, frame, there, evolves, same, is, framed_more frame framed, sound, works_more there works)
    aims_more objects (outcome.Written f) (w, frame, there, cells, writes_them, same, is, no_vac, framed, lays, works) =
        (w, frame, there, cells, writes_them, same, is, no_vac, framed_more frame framed, lays, works_more there works)
    aims_more objects (outcome.Deleted f) (text, frame, there, condition, deletes, same, is, framed, says, works) =
        (text, frame, there, condition, deletes, same, is, framed_more frame framed, says, works_more there works)
    aims_more objects (outcome.Consolidated f count) is = aims_to_merge_more objects f count is
    aims_more objects (outcome.Read answer) is = is
    aims_more objects (outcome.Vacuumed count) is = is
    aims_more objects (outcome.Unlocked count) is = is
    aims_more objects (outcome.Listed names) is = is
    aims_more objects (outcome.Refused r) is = is
    aims_more objects outcome.OutOfMemory is = is

    -- a job that puts is such among all
    putting_more : (objects : List NewObject) (next : ℕ) (end : Outcome) → Putting codec spelled opening past jobs seen m number j objects next end → Putting codec spelled opening past all seen m number j objects next end
    putting_more objects next end is = record {
      held = is.held;
      short = is.short;
      free = is.free;
      some = is.some;
      undone = undone_more is.undone;
      unspent = is.unspent;
      aims = aims_more objects end is.aims;
    }

    -- what a refusal tells is true among all
    refusal_more : (r : Refusal) → IsTrueRefusal spelled opening jobs past seen number j r → IsTrueRefusal spelled opening all past seen number j r
    refusal_more (refusal.Missing n) is = is
    refusal_more (refusal.Damaged n at) is = is
    refusal_more (refusal.Taken n) is = is
    refusal_more (refusal.StoreFault (place.Name (name.Commit f made))) is = elim is [ inl own ↦ inl own | inr undone ↦ inr (undone_more undone) ]
    refusal_more (refusal.StoreFault (place.Name (name.Schema k))) is = elim is [ inl own ↦ inl own | inr undone ↦ inr (undone_more undone) ]
    refusal_more (refusal.NothingToDo count) is = (undone_more is.0, finds_nothing_more count is.1)
    refusal_more _ is = undone_more is

    -- what the end of a job tells is true among all
    end_more : (end : Outcome) → IsTrueEnd spelled opening jobs past seen number j end → IsTrueEnd spelled opening all past seen number j end
    end_more outcome.Created is = record {
      made = is.made;
      creates = is.creates;
      sound = is.sound;
      found_none = no_array_more is.made is.found_none;
      framed = framed_more (frame_made is.made) is.framed;
      declared = subst (λ g. HasDeclared g j (is.made).attrs) now is.declared;
    }
    end_more (outcome.Evolved k) (same, is) = (
      same,
      record {
        change = is.change;
        evolves = is.evolves;
        schemas = is.schemas;
        current = is.current;
        undone = subst (λ g. IsUndone g j) (listed_more Schemas is.schemas) is.undone;
        holds = subst (λ g. current_schema g j.at ≡ Some is.current) (listed_more Schemas is.schemas) is.holds;
        frame = is.frame;
        framed = framed_more is.frame is.framed;
        sound = is.sound;
        declared = subst (λ g. HasDeclared g j (evolved_attrs (is.current).attrs is.change)) now is.declared;
      },
    )
    end_more (outcome.Written f) (same, is) = (
      same,
      record {
        cells_in = is.cells_in;
        writes_them = is.writes_them;
        schemas = is.schemas;
        current = is.current;
        undone = subst (λ g. IsUndone g j) (listed_more Schemas is.schemas) is.undone;
        holds = subst (λ g. current_schema g j.at ≡ Some is.current) (listed_more Schemas is.schemas) is.holds;
        frame = is.frame;
        framed = framed_more is.frame is.framed;
        cells = is.cells;
        lays = is.lays;
        written = subst (λ g. Contains (writes g) (written_as j (is.current).key is.cells)) now is.written;
      },
    )
    end_more (outcome.Deleted f) (same, is) = (
      same,
      record {
        text = is.text;
        deletes = is.deletes;
        schemas = is.schemas;
        current = is.current;
        undone = subst (λ g. IsUndone g j) (listed_more Schemas is.schemas) is.undone;
        holds = subst (λ g. current_schema g j.at ≡ Some is.current) (listed_more Schemas is.schemas) is.holds;
        frame = is.frame;
        framed = framed_more is.frame is.framed;
        condition = is.condition;
        says = is.says;
        erased = subst (λ g. Contains (deletions g) (deletion_as j is.condition)) now is.erased;
      },
    )
    end_more (outcome.Read answer) (from, to, query, reads, is) = (
      from,
      to,
      query,
      reads,
      record {
        commits = is.commits;
        schemas = is.schemas;
        between = is.between;
        order = is.order;
        answers = subst (λ g. IsAnswerOver spelled g (held_told opening (is.commits).before) (history_told all past (is.schemas).before) from to query answer) (listed_more Commits is.commits)
            (subst (λ g. IsAnswerOver spelled (history_told jobs past (is.commits).before) (held_told opening (is.commits).before) g from to query answer) (listed_more Schemas is.schemas) is.answers);
      },
    )
    end_more (outcome.Consolidated f count) (undone, is) = (undone_more undone, merged_more f count is)
    end_more (outcome.Vacuumed count) (undone, is) = (undone_more undone, vacuumed_more count is)
    end_more (outcome.Unlocked count) (undone, is) = (undone_more undone, is)
    end_more (outcome.Listed names) (undone, is) = (undone_more undone, is)
    end_more (outcome.Refused r) is = refusal_more r is
    end_more outcome.OutOfMemory is = is

    -- the claims of a job hold among all
    claims_more : (s : State F) → Claims codec spelled tracks opening past jobs seen m number j s → Claims codec spelled tracks opening past all seen m number j s
    claims_more (Creates PutsFrame) is = (clean_more is.0, is.1)
    claims_more (Creates ComparesFrame) is = (clean_more is.0, is.1, (is.2.0, framed_more is.2.0 is.2.1))
    claims_more (Creates ListsDeclared) is = (clean_more is.0, (is.1.0, is.1.1, is.1.2, framed_more (frame_made is.1.0) is.1.3))
    claims_more (Puts objects next end) is = putting_more objects next end is
    claims_more (Seeks ListsCommits) is = (clean_more is.0, is.1)
    claims_more (Seeks (ListsSchemas listed)) is = (clean_more is.0, has_near_more j.command listed is.1)
    claims_more (Seeks (GetsSchema listed there)) is = (clean_more is.0, (is.1.0, is.1.1, has_listed_more j.command listed is.1.0 is.1.2))
    claims_more (Seeks (GetsFrame listed there)) is = (clean_more is.0, has_listed_more j.command listed there is.1)
    claims_more (Collects (GetsVacs r)) is = (clean_more is.0, getting_vacs_more r is.1, is.2)
    claims_more (Collects (GetsHeads r opened)) is = (clean_more is.0, opening_more r opened is.1, is.2)
    claims_more (Collects (GetsSchemas r opened named schemas)) is = (clean_more is.0, is.1, gathering_more r opened schemas is.2, is.3)
    claims_more (Collects (GetsDeletes r opened schemas)) is = (clean_more is.0, getting_deletes_more r opened schemas is.1)
    claims_more (Collects (Fetches r opened schemas next frag got fetch c)) is = (
      clean_more is.0,
      is.1,
      (
        fetching_more r opened schemas next got is.2.0,
        subst (λ g. OnWay spelled tracks g (held_told opening (((((((is.2.0).deletes_found).gathers)).reads).at).listed).since.commits.before) r frag fetch c) (listed_more Commits (((((((is.2.0).deletes_found).gathers)).reads).at).listed).since.commits) is.2.1,
      ),
    )
    claims_more (states.Merges s) is = merge_claims_more s is
    claims_more Lists is = (clean_more is.0, is.1)
    claims_more (states.Sweeps s) is = sweep_claims_more s is
    claims_more (Removes names next end) is = elim is [ inl unlocking ↦ inl (unlocking_more names next end unlocking) | inr vacuuming ↦ inr (vacuuming_more names next end vacuuming) ]
    claims_more (Over end) is = end_more end is

    -- the claims of its stage hold among all
    stage_more : (stage : Stage F) → StageClaims codec spelled tracks opening past jobs seen m number j stage → StageClaims codec spelled tracks opening past all seen m number j stage
    stage_more (PutsLease lease) is = ((is.0.0, claims_more (begun j.command) is.0.1), is.1)
    stage_more (ListsLeases lease) is = (is.0, claims_more (begun j.command) is.1)
    stage_more (stages.Works s) is = claims_more s is
    stage_more (Releases lease end) is = (is.0, end_more end is.1, undone_more is.2)

  module _ {F : Type 0} (codec : Codec F) (spelled : Spelled) (tracks : Tracking F) (opening : Held) (past : History) (dead : List ℕ) (seen : List Told) (m : Held)
      (kept : Kept codec spelled tracks opening past jobs dead seen m) (is : IsNewId opening past m jobs job.id) where
    -- no two of all jobs have one identifier
    apart_more : AreApart all
    apart_more i k a b at_i at_k same = elim (slice_get_push jobs job i a at_i) [
      | inl a_before ↦ elim (slice_get_push jobs job k b at_k) [
        | inl b_before ↦ kept.apart i k a b a_before b_before same
        | inr b_last ↦ absurd (is.other i a a_before (same ∙ ap (λ j. j.id) (sym b_last.1)))
      ]
      | inr a_last ↦ elim (slice_get_push jobs job k b at_k) [
        | inl b_before ↦ absurd (is.other k b b_before (sym same ∙ ap (λ j. j.id) (sym a_last.1)))
        | inr b_last ↦ a_last.0 ∙ sym b_last.0
      ]
    ]

    -- its identifier is unspent: what the calls commit carries that of another job
    unspent_new : IsSpent opening past seen job.id → ⊥
    unspent_new (inl carried) = is.uncarried carried
    unspent_new (inr (e, at, commits)) = by_job (job_with jobs commits.frag.id) refl
      where
        known : IsOfJobs jobs e
        known = All-contains (IsOfJobs jobs) seen e kept.known at

        by_job : (o : Option Job) → job_with jobs commits.frag.id ≡ o → ⊥
        by_job None none = true≢false (sym (known.puts (wrt_of commits.frag) commits.bytes commits.frag.id commits.puts refl) ∙ ap is_some none)
        by_job (Some other) found =
            let (member, same) = find-Some (λ j. nat_eq j.id commits.frag.id) jobs other found in
            let (number, there) = slice_get-Contains jobs other member in
            is.other number other there (eqb-true other.id commits.frag.id same ∙ commits.carries)

    -- the claims of the job that comes
    new_claims : StageClaims codec spelled tracks opening past all seen m (length jobs) job (first_stage job)
    new_claims = by_lease (lease_of job) refl
      where
        begins : Claims codec spelled tracks opening past all seen m (length jobs) job (begun job.command)
        begins = begun_claims codec spelled tracks opening m past all seen (length jobs) job (record {
          free = λ n carries _. new_is_free m job.id is.free n carries;
          undone = subst (λ g. IsNewKey g (key_of job)) (sym (history_more past seen kept.known)) (new_key opening past m jobs seen job is);
          unspent = unspent_new;
        }) job.command refl

        by_lease : (o : Option Name) → lease_of job ≡ o → StageClaims codec spelled tracks opening past all seen m (length jobs) job (begins_at o (begun job.command))
        by_lease None none = begins
        by_lease (Some lease) some = let (mode, named) = lease_is job lease some in ((some, begins), new_is_free m job.id is.free lease (ap id_in named))

    -- what is kept is kept among all
    more_kept : IsFit job → Kept codec spelled tracks opening past all dead seen m
    more_kept fit = record {
      stands = subst (Stands spelled m) (sym (history_more past seen kept.known)) kept.stands;
      is_held = kept.is_held;
      spent = kept.spent;
      apart = apart_more;
      fit = All-push IsFit jobs job kept.fit fit;
      known = All-weaker (IsOfJobs jobs) (IsOfJobs all) of_all seen kept.known;
      leased = leased_more codec jobs job dead seen m (no_calls seen kept.known) kept.leased;
      claims = λ number j at alive. elim (slice_get_push jobs job number j at) [
        | inl before ↦
            stage_more codec spelled tracks opening past seen kept.known m number j (stage_of codec j (trace_of number seen)) (kept.claims number j before alive)
        | inr last ↦
            subst (λ n. StageClaims codec spelled tracks opening past all seen m n j (stage_of codec j (trace_of n seen))) (sym last.0)
            (subst (λ i. StageClaims codec spelled tracks opening past all seen m (length jobs) i (stage_of codec i (trace_of (length jobs) seen))) last.1
            (subst (λ t. StageClaims codec spelled tracks opening past all seen m (length jobs) job (stage_of codec job t)) (sym (no_calls seen kept.known)) new_claims))
      ];
    }

-- what is kept stays where a job with a new identifier comes
pub spawn_kept : {F : Type 0} (codec : Codec F) (spelled : Spelled) (tracks : Tracking F) (opening : Held) (past : History) (jobs : List Job) (dead : List ℕ) (seen : List Told) (m : Held) (job : Job)
    → Kept codec spelled tracks opening past jobs dead seen m → IsFit job → IsNewId opening past m jobs job.id → Kept codec spelled tracks opening past (jobs ++ job ∷ []) dead seen m
spawn_kept codec spelled tracks opening past jobs dead seen m job kept fit is = more_kept jobs job codec spelled tracks opening past dead seen m kept is fit
