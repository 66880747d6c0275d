-- What a job found stays true: what a call of one job leaves of the facts of others.
use Rattle.std.proofs.Common.{List, None, Option, Some, [], ap, append_assoc, false, inl, inr, refl, subst, sym, ℕ, ◌++◌, ◌∙◌, ◌∷◌, ◌≡◌}
use Rattle.std.proofs.lemmas.List.Elements.{Contains-append_cases, Contains-append_left}
use Rattle.std.proofs.lemmas.Option.{none-some, same_Some}
use Rattle.std.specs.Prelude.{Contains}
use Rattle.ts_base.specs.Held.{Held}
use Rattle.ts_base.specs.Names.{wrt_of}
use Rattle.ts_base.specs.declared.heads.Version.{Version}
use Rattle.ts_base.specs.declared.keys.FragKey.{FragKey}
use Rattle.ts_base.specs.declared.keys.Key.{Key}
use Rattle.ts_base.specs.declared.names.Name.{Name}
use Rattle.ts_base.specs.declared.names.Prefix.{Prefix}
use Rattle.ts_base.specs.declared.names.Prefix.TheVariants.{Commits, Fragment, Leases, Schemas}
use Rattle.ts_model.proofs.HistoryLaws.{absent_from_new, deletions-append, frame_in-append, keys-append, new_from_absent, schema_with-append, writes-append}
use Rattle.ts_model.proofs.Traces.{later_unchanged, schemas_found-stays}
use Rattle.ts_model.specs.Commands.{frame_made}
use Rattle.ts_model.specs.Deeds.{History, IsNewKey, deletions, frame_in, keys, schema_with, writes}
use Rattle.ts_model.specs.declared.commands.FrameIn.{FrameIn}
use Rattle.ts_law.specs.Ends.{FindsNoArray, FindsNothing, HasDeclared, IsGone, IsListed, IsMerged, IsSweptAway, IsTrueEnd, IsTrueRefusal, IsUndone, IsUnlocked, IsVacuumed, ListedAt, MadeAt, FindsSchema}
use Rattle.ts_model.specs.Codecs.{Codec, Spelled}
use Rattle.ts_law.specs.Fresh.{id_in, DoesCommit}
use Rattle.ts_model.specs.Jobs.{deletion_as, key_of, schema_of_job, written_as}
use Rattle.ts_law.specs.Kept.{AreDeletions, AreSchemas, Clean, GettingDeletes, GettingVacs, Fetching, Gathering, HasListed, HasLooked, LooksInto, Opening, ReadsAt, ReadsIn, Since, Works}
use Rattle.ts_model.specs.States.{frame_put, keys_named, list_schemas, vac_of}
use Rattle.ts_law.specs.Steps.{Keeps}
use Rattle.ts_law.proofs.Spent.{still_commits, unspent_on}
use Rattle.ts_model.specs.Told.{Told, history_told}
use Rattle.ts_model.specs.declared.answers.Outcome.{Outcome}
use Rattle.ts_model.specs.declared.answers.Refusal.{Refusal}
use Rattle.ts_model.specs.declared.commands.Command.{Command}
use Rattle.ts_model.specs.declared.commands.Command.TheVariants.{Consolidate, Create, Delete, Evolve, Fragments, Read, Vacuum, Unlock, Write}
use Rattle.ts_model.specs.declared.commands.Job.{Job}
use Rattle.ts_model.specs.declared.deeds.Deletion.{Deletion}
use Rattle.ts_model.specs.declared.deeds.Written.{Written}
use Rattle.ts_model.specs.declared.states.Listed.{Listed}
use Rattle.ts_model.specs.declared.states.Opened.{Opened}
use Rattle.ts_model.specs.declared.states.Reading.{Reading}
use Rattle.ts_schema.specs.Evolutions.{evolved_attrs}
use Rattle.ts_schema.specs.declared.attrs.Attr.{Attr}
use Rattle.ts_schema.specs.declared.frames.Frame.{Frame}
use Rattle.ts_schema.specs.declared.schemas.Schema.{Schema}
use Rattle.ts_store.specs.Calls.{is_no_memory}
use Rattle.ts_store.specs.declared.call.Call.{Call}
use Rattle.ts_store.specs.declared.call.Call.TheVariants as call
use Rattle.std.specs.FinMap as map
use Rattle.ts_base.specs.declared.names.Name.TheVariants as name
use Rattle.ts_model.specs.declared.answers.Outcome.TheVariants as outcome
use Rattle.ts_base.specs.declared.names.Place.TheVariants as place
use Rattle.ts_model.specs.declared.answers.Refusal.TheVariants as refusal

-- ---- objects and histories

module _ (m m' : Held) (h h' : History) (id : ℕ) (keeps : Keeps m m' h h' id) where
  -- the frame stays
  pub frame_stays : (frame : Frame) → frame_in h ≡ Some frame → frame_in h' ≡ Some frame
  frame_stays frame is = rw keeps.grows (frame_in-append h keeps.more frame is)

  -- the schema of a key stays
  pub schema_stays : (k : Key) (s : Schema) → schema_with h k ≡ Some s → schema_with h' k ≡ Some s
  schema_stays k s is = rw keeps.grows (schema_with-append h keeps.more k s is)

  -- a write stays
  pub write_stays : (w : Written) → Contains (writes h) w → Contains (writes h') w
  write_stays w at = rw (keeps.grows, writes-append h keeps.more) (Contains-append_left (writes h) (writes keeps.more) w at)

  -- a delete stays
  pub deletion_stays : (x : Deletion) → Contains (deletions h) x → Contains (deletions h') x
  deletion_stays x at = rw (keeps.grows, deletions-append h keeps.more) (Contains-append_left (deletions h) (deletions keeps.more) x at)

  -- a new key of another job stays new
  pub new_stays : (k : Key) → (k.id ≡ id → ⊥) → IsNewKey h k → IsNewKey h' k
  new_stays k other new = new_from_absent h' k (λ at. elim (Contains-append_cases (keys h) (keys keeps.more) k (subst (λ l. Contains l k) (keys-append h keeps.more) (subst (λ g. Contains (keys g) k) keeps.grows at))) [
    | inl before ↦ absent_from_new h k new before
    | inr own ↦ other (keeps.come k own)
  ])

  -- an object that carries the identifier of another job stays absent
  pub absent_stays : (n : Name) (other : ℕ) → id_in n ≡ Some other → (other ≡ id → ⊥) → map.get m n ≡ None → map.get m' n ≡ None
  absent_stays n other carries apart none = from_got (map.get m' n) refl
    where
      from_got : (o : Option (List ℕ)) → map.get m' n ≡ o → o ≡ None
      from_got None is = refl
      from_got (Some bytes) is = elim (keeps.adds n bytes is) [
        | inl before ↦ absurd (none-some bytes (sym none ∙ before))
        | inr come ↦ elim come [
          | inl own ↦ absurd (apart (same_Some other id (sym carries ∙ own)))
          | inr frame ↦ absurd (none-some other (sym (ap id_in frame) ∙ carries))
        ]
      ]

-- a clean job stays clean by the calls of others
pub clean_stays : (opening : Held) (past : History) (jobs : List Job) (seen : List Told) (e : Told) (m m' : Held) (id : ℕ) → Keeps m m' (history_told jobs past seen) (history_told jobs past (seen ++ e ∷ [])) id
    → (job : Job) → (job.id ≡ id → ⊥) → (DoesCommit e job.id → ⊥) → Clean opening past jobs seen m job → Clean opening past jobs (seen ++ e ∷ []) m' job
clean_stays opening past jobs seen e m m' id keeps job other none clean = record {
  free = λ n carries apart. absent_stays m m' (history_told jobs past seen) (history_told jobs past (seen ++ e ∷ [])) id keeps n job.id carries other (clean.free n carries apart);
  undone = new_stays m m' (history_told jobs past seen) (history_told jobs past (seen ++ e ∷ [])) id keeps (key_of job) other clean.undone;
  unspent = unspent_on opening past seen e job.id none clean.unspent;
}

-- so it does by a call that changes nothing
pub clean_look : (opening : Held) (past : History) (jobs : List Job) (seen : List Told) (e : Told) (m m' : Held) (job : Job) → m' ≡ m → e.changed ≡ false
    → Clean opening past jobs seen m job → Clean opening past jobs (seen ++ e ∷ []) m' job
clean_look opening past jobs seen e m m' job same_held still clean = record {
  free = λ n carries apart. ap (λ x. map.get x n) same_held ∙ clean.free n carries apart;
  undone = subst (λ g. IsUndone g job) (sym (later_unchanged jobs past seen e still)) clean.undone;
  unspent = unspent_on opening past seen e job.id (still_commits e job.id still) clean.unspent;
}

-- what was listed was listed still
abbrev pub listed_stays : (seen : List Told) (e : Told) (number : ℕ) (prefix : Prefix) → ListedAt seen number prefix → ListedAt (seen ++ e ∷ []) number prefix
listed_stays seen e number prefix at = record {
  before = at.before;
  listing = at.listing;
  later = at.later ++ e ∷ [];
  place = ap (λ t. t ++ e ∷ []) at.place ∙ append_assoc at.before (at.listing ∷ at.later) (e ∷ []);
  own = at.own;
  lists = at.lists;
  memory = at.memory;
}

-- a listing that comes now is listed
abbrev pub listed_now : (seen : List Told) (e : Told) (number : ℕ) (prefix : Prefix) → e.job ≡ Some number → e.call ≡ call.List prefix → is_no_memory e.reply ≡ false → ListedAt (seen ++ e ∷ []) number prefix
listed_now seen e number prefix own lists memory = record { before = seen; listing = e; later = []; place = refl; own = own; lists = lists; memory = memory }

-- a call that was made was made still
abbrev pub made_stays : (seen : List Told) (e : Told) (number : ℕ) (c : Call) → MadeAt seen number c → MadeAt (seen ++ e ∷ []) number c
made_stays seen e number c at = record {
  before = at.before;
  made = at.made;
  later = at.later ++ e ∷ [];
  place = ap (λ t. t ++ e ∷ []) at.place ∙ append_assoc at.before (at.made ∷ at.later) (e ∷ []);
  own = at.own;
  makes = at.makes;
  memory = at.memory;
}

-- a call that comes now is made
abbrev pub made_now : (seen : List Told) (e : Told) (number : ℕ) (c : Call) → e.job ≡ Some number → e.call ≡ c → is_no_memory e.reply ≡ false → MadeAt (seen ++ e ∷ []) number c
made_now seen e number c own makes memory = record { before = seen; made = e; later = []; place = refl; own = own; makes = makes; memory = memory }

-- ---- what a job found so far

module _ (spelled : Spelled) (opening : Held) (past : History) (jobs : List Job) (seen : List Told) (e : Told) (m m' : Held) (id : ℕ)
    (keeps : Keeps m m' (history_told jobs past seen) (history_told jobs past (seen ++ e ∷ [])) id) (number : ℕ) where
  -- the call is none by which the job lists the schemas
  abbrev Unlisted : Type 0
  Unlisted = e.job ≡ Some number → e.call ≡ list_schemas → ⊥

  -- what a read knows since its listing stays
  abbrev pub since_stays : Since spelled opening past jobs seen m number → Since spelled opening past jobs (seen ++ e ∷ []) m' number
  since_stays is = record {
    commits = listed_stays seen e number Commits is.commits;
    stands = is.stands;
    held = λ n bytes no_lease was. keeps.keeps n bytes no_lease (is.held n bytes no_lease was);
  }

  -- what a read listed stays
  abbrev pub near_stays : (from to : ℕ) (fragments counting delete_names : List FragKey) → LooksInto spelled opening past jobs seen m number from to fragments counting delete_names → LooksInto spelled opening past jobs (seen ++ e ∷ []) m' number from to fragments counting delete_names
  near_stays from to fragments counting delete_names is = record {
    since = since_stays is.since;
    fragments_are = is.fragments_are;
    counting_are = is.counting_are;
    deletes_are = is.deletes_are;
  }

  -- what a job listed before the schemas stays
  pub has_near_stays : (command : Command) (listed : Listed) → HasLooked spelled opening past jobs seen m number command listed → HasLooked spelled opening past jobs (seen ++ e ∷ []) m' number command listed
  has_near_stays (Create f) listed is = is
  has_near_stays (Evolve change) listed is = is
  has_near_stays (Write w) listed is = is
  has_near_stays (Read from to query) listed is = near_stays from to listed.fragments listed.counting listed.delete_names is
  has_near_stays (Delete text) listed is = is
  has_near_stays (Consolidate from to limits) listed is = elim is [ ]
  has_near_stays Vacuum listed is = elim is [ ]
  has_near_stays (Unlock seed lane) listed is = elim is [ ]
  has_near_stays Fragments listed is = elim is [ ]

  -- the schema that a job works in stays
  abbrev pub works_stays : (job : Job) (there : Schema) → Unlisted → Works past jobs seen number job there → Works past jobs (seen ++ e ∷ []) number job there
  works_stays job there unlisted is = record {
    schemas = listed_stays seen e number Schemas is.schemas;
    undone = is.undone;
    holds = is.holds;
    found = is.found;
    is_found = schemas_found-stays number seen e unlisted ∙ is.is_found;
    at = is.at;
    declared = schema_stays m m' (history_told jobs past seen) (history_told jobs past (seen ++ e ∷ [])) id keeps there.key there is.declared;
  }

  -- what a read listed, and then the schemas, stays
  abbrev pub reads_at_stays : (job : Job) (from to : ℕ) (fragments counting delete_names : List FragKey) (there : Schema) → Unlisted
      → ReadsAt spelled opening past jobs seen m number job from to fragments counting delete_names there → ReadsAt spelled opening past jobs (seen ++ e ∷ []) m' number job from to fragments counting delete_names there
  reads_at_stays job from to fragments counting delete_names there unlisted is = record {
    listed = near_stays from to fragments counting delete_names is.listed;
    works = works_stays job there unlisted is.works;
    between = is.between;
    order = is.order;
  }

  -- what a job listed before it gets the schema there stays
  pub has_listed_stays : (job : Job) (command : Command) (listed : Listed) (there : Schema) → Unlisted
      → HasListed spelled opening past jobs seen m number job command listed there → HasListed spelled opening past jobs (seen ++ e ∷ []) m' number job command listed there
  has_listed_stays job (Create f) listed there unlisted is = is
  has_listed_stays job (Evolve change) listed there unlisted is = works_stays job there unlisted is
  has_listed_stays job (Write w) listed there unlisted is = works_stays job there unlisted is
  has_listed_stays job (Read from to query) listed there unlisted is = reads_at_stays job from to listed.fragments listed.counting listed.delete_names there unlisted is
  has_listed_stays job (Delete text) listed there unlisted is = works_stays job there unlisted is
  has_listed_stays job (Consolidate from to limits) listed there unlisted is = elim is [ ]
  has_listed_stays job Vacuum listed there unlisted is = elim is [ ]
  has_listed_stays job (Unlock seed lane) listed there unlisted is = elim is [ ]
  has_listed_stays job Fragments listed there unlisted is = elim is [ ]

  -- what a read knows stays
  abbrev pub reads_in_stays : (job : Job) (r : Reading) → Unlisted → ReadsIn spelled opening past jobs seen m number job r → ReadsIn spelled opening past jobs (seen ++ e ∷ []) m' number job r
  reads_in_stays job r unlisted is = record {
    query = is.query;
    reads = is.reads;
    at = reads_at_stays job r.from r.to r.fragments r.counting r.delete_names r.current unlisted is.at;
    framed = is.framed;
    is_ready = is.is_ready;
  }

  -- a read that gets `.vac` objects goes on as it was
  abbrev pub getting_vacs_stays : (job : Job) (r : Reading) → Unlisted → GettingVacs spelled opening past jobs seen m number job r → GettingVacs spelled opening past jobs (seen ++ e ∷ []) m' number job r
  getting_vacs_stays job r unlisted is = record { reads = reads_in_stays job r unlisted is.reads; are_vacs = is.are_vacs }

  module _ {F : Type 0} (codec : Codec F) where
    -- the further schemas of a read stay
    pub are_schemas_stays : (named : List Key) (schemas : List Schema) → AreSchemas (history_told jobs past seen) named schemas → AreSchemas (history_told jobs past (seen ++ e ∷ [])) named schemas
    are_schemas_stays named schemas is = record {
      keys_are = is.keys_are;
      each = λ s at. schema_stays m m' (history_told jobs past seen) (history_told jobs past (seen ++ e ∷ [])) id keeps s.key s (is.each s at);
    }

    -- the deletes of a read stay
    pub are_deletions_stays : (deletes : List FragKey) (erased : List Deletion) → AreDeletions (history_told jobs past seen) deletes erased → AreDeletions (history_told jobs past (seen ++ e ∷ [])) deletes erased
    are_deletions_stays deletes erased is = record {
      names_are = is.names_are;
      each = λ x at. deletion_stays m m' (history_told jobs past seen) (history_told jobs past (seen ++ e ∷ [])) id keeps x (is.each x at);
    }

    -- a read that opens goes on as it was
    abbrev pub opening_stays : (job : Job) (r : Reading) (opened : List Opened) → Unlisted
        → Opening codec spelled opening past jobs seen m number job r opened → Opening codec spelled opening past jobs (seen ++ e ∷ []) m' number job r opened
    opening_stays job r opened unlisted is = record {
      reads = reads_in_stays job r unlisted is.reads;
      are_vacs = is.are_vacs;
      all_vacs = is.all_vacs;
      are_open = is.are_open;
    }

    -- a read that gathers schemas goes on as it was
    abbrev pub gathering_stays : (job : Job) (r : Reading) (opened : List Opened) (schemas : List Schema) → Unlisted
        → Gathering codec spelled opening past jobs seen m number job r opened schemas → Gathering codec spelled opening past jobs (seen ++ e ∷ []) m' number job r opened schemas
    gathering_stays job r opened schemas unlisted is = record {
      reads = reads_in_stays job r unlisted is.reads;
      chosen = is.chosen;
      gathered = are_schemas_stays (keys_named r opened) schemas is.gathered;
    }

    -- a read that gets deletes goes on as it was
    abbrev pub getting_deletes_stays : (job : Job) (r : Reading) (opened : List Opened) (schemas : List Schema) → Unlisted
        → GettingDeletes codec spelled opening past jobs seen m number job r opened schemas → GettingDeletes codec spelled opening past jobs (seen ++ e ∷ []) m' number job r opened schemas
    getting_deletes_stays job r opened schemas unlisted is = record {
      gathers = gathering_stays job r opened schemas unlisted is.gathers;
      all_schemas = is.all_schemas;
      deletions = are_deletions_stays r.delete_names r.deletions is.deletions;
    }

    -- a read that fetches goes on as it was
    abbrev pub fetching_stays : (job : Job) (r : Reading) (opened : List Opened) (schemas : List Schema) (next : ℕ) (got : List Version) → Unlisted
        → Fetching codec spelled opening past jobs seen m number job r opened schemas next got → Fetching codec spelled opening past jobs (seen ++ e ∷ []) m' number job r opened schemas next got
    fetching_stays job r opened schemas next got unlisted is = record {
      deletes_found = getting_deletes_stays job r opened schemas unlisted is.deletes_found;
      all_deletes = is.all_deletes;
      found = is.found;
    }

-- ---- ends

-- that a create found no array stays true
pub no_array_stays : (past : History) (jobs : List Job) (seen : List Told) (e : Told) (number : ℕ) (made : FrameIn) → FindsNoArray jobs past seen number made → FindsNoArray jobs past (seen ++ e ∷ []) number made
no_array_stays past jobs seen e number made (inl (at, is_made, nothing)) = inl (made_stays seen e number (frame_put made) at, is_made, nothing)
no_array_stays past jobs seen e number made (inr (at, none)) = inr (listed_stays seen e number Schemas at, none)

-- that a job found a schema stays true
abbrev pub finds_schema_stays : (past : History) (jobs : List Job) (seen : List Told) (e : Told) (number : ℕ) (job : Job) → FindsSchema jobs past seen number job → FindsSchema jobs past (seen ++ e ∷ []) number job
finds_schema_stays past jobs seen e number job is = record { schemas = listed_stays seen e number Schemas is.schemas; current = is.current; holds = is.holds }

-- that a consolidation found nothing to do stays true
pub finds_nothing_stays : (spelled : Spelled) (opening : Held) (past : History) (jobs : List Job) (seen : List Told) (e : Told) (number : ℕ) (job : Job) (count : ℕ)
    → FindsNothing spelled opening jobs past seen number job count → FindsNothing spelled opening jobs past (seen ++ e ∷ []) number job count
finds_nothing_stays spelled opening past jobs seen e number job count is = record {
  from = is.from;
  to = is.to;
  limits = is.limits;
  merges = is.merges;
  commits = listed_stays seen e number Commits is.commits;
  by_plan = is.by_plan;
  found = finds_schema_stays past jobs seen e number job is.found;
}

-- what a consolidation merged stays
pub merged_stays : (spelled : Spelled) (opening : Held) (past : History) (jobs : List Job) (seen : List Told) (e : Told) (number : ℕ) (job : Job) (f : FragKey) (count : ℕ)
    → IsMerged spelled opening jobs past seen number job f count → IsMerged spelled opening jobs past (seen ++ e ∷ []) number job f count
merged_stays spelled opening past jobs seen e number job f count is = record {
  from = is.from;
  to = is.to;
  limits = is.limits;
  merges = is.merges;
  commits = listed_stays seen e number Commits is.commits;
  sources = is.sources;
  by_plan = is.by_plan;
  counted = is.counted;
  found = finds_schema_stays past jobs seen e number job is.found;
  own = is.own;
  put = made_stays seen e number (call.Put (wrt_of f) []) is.put;
  later = is.later;
  order = is.order;
  committed = is.committed;
  piece = is.piece;
  holds = is.holds;
  origins = is.origins;
  merged = is.merged;
}

-- what a job removed stays removed by a call of it
abbrev pub gone_stays : (opening : Held) (seen : List Told) (e : Told) (number : ℕ) (n : Name) → IsGone opening seen number n → IsGone opening (seen ++ e ∷ []) number n
gone_stays opening seen e number n is = record { removed = made_stays seen e number (call.Remove n) is.removed; gone = is.gone }

-- what an unlock removed stays so
abbrev pub unlocked_stays : (opening : Held) (seen : List Told) (e : Told) (number : ℕ) (job : Job) (count : ℕ) → IsUnlocked opening seen number job count → IsUnlocked opening (seen ++ e ∷ []) number job count
unlocked_stays opening seen e number job count is = record {
  seed = is.seed;
  lane = is.lane;
  unlocks = is.unlocks;
  leases = listed_stays seen e number Leases is.leases;
  counted = is.counted;
  gone = λ n at. gone_stays opening seen e number n (is.gone n at);
}

-- what a vacuum removed of a fragment
pub swept_away_stays : (opening : Held) (seen : List Told) (e : Told) (number : ℕ) (before : List Told) (listing : Told) (f : FragKey) → IsSweptAway opening seen number before listing f → IsSweptAway opening (seen ++ e ∷ []) number before listing f
swept_away_stays opening seen e number before listing f is = record {
  commit = λ committed. gone_stays opening seen e number (wrt_of f) (is.commit committed);
  lists = record { parts = listed_stays seen e number (Fragment f) is.lists.parts; between = is.lists.between; order = is.lists.order };
  each_part = λ n at. gone_stays opening seen e number n (is.each_part n at);
  own_vac = λ held. gone_stays opening seen e number (vac_of f) (is.own_vac held);
}

-- and all that it removed
abbrev pub vacuumed_stays : (opening : Held) (past : History) (jobs : List Job) (seen : List Told) (e : Told) (number : ℕ) (job : Job) (count : ℕ)
    → IsVacuumed opening jobs past seen number job count → IsVacuumed opening jobs past (seen ++ e ∷ []) number job count
vacuumed_stays opening past jobs seen e number job count is = record {
  vacuums = is.vacuums;
  commits = listed_stays seen e number Commits is.commits;
  vacs = is.vacs;
  are_vacs = is.are_vacs;
  counted = is.counted;
  found = finds_schema_stays past jobs seen e number job is.found;
  swept = λ f at. swept_away_stays opening seen e number (is.commits).before (is.commits).listing f (is.swept f at);
  vacs_gone = λ v at. gone_stays opening seen e number (vac_of v.frag) (is.vacs_gone v at);
}

-- so do the commits that a job listed
abbrev pub names_stay : (opening : Held) (seen : List Told) (e : Told) (number : ℕ) (job : Job) (names : List Name) → IsListed opening seen number job names → IsListed opening (seen ++ e ∷ []) number job names
names_stay opening seen e number job names is = record { lists = is.lists; commits = listed_stays seen e number Commits is.commits; names_are = is.names_are }

module _ (spelled : Spelled) (opening : Held) (past : History) (jobs : List Job) (seen : List Told) (e : Told) (m m' : Held) (id : ℕ)
    (keeps : Keeps m m' (history_told jobs past seen) (history_told jobs past (seen ++ e ∷ [])) id) (number : ℕ) (job : Job) where
  -- a schema that was declared stays so
  pub declared_stays : (attrs : List Attr) → HasDeclared (history_told jobs past seen) job attrs → HasDeclared (history_told jobs past (seen ++ e ∷ [])) job attrs
  declared_stays attrs is = schema_stays m m' (history_told jobs past seen) (history_told jobs past (seen ++ e ∷ [])) id keeps (key_of job) (schema_of_job job attrs) is

  -- a job that has no deed keeps having none by the calls of others
  undone_stays : (job.id ≡ id → ⊥) → IsUndone (history_told jobs past seen) job → IsUndone (history_told jobs past (seen ++ e ∷ [])) job
  undone_stays other is = new_stays m m' (history_told jobs past seen) (history_told jobs past (seen ++ e ∷ [])) id keeps (key_of job) other is

  -- what a refusal tells stays true
  pub refusal_stays : (r : Refusal) → (job.id ≡ id → ⊥) → IsTrueRefusal spelled opening jobs past seen number job r → IsTrueRefusal spelled opening jobs past (seen ++ e ∷ []) number job r
  refusal_stays (refusal.Missing n) other is = is
  refusal_stays (refusal.Damaged n at) other is = is
  refusal_stays (refusal.Taken n) other is = is
  refusal_stays (refusal.StoreFault (place.Name (name.Commit f kind))) other is = elim is [ inl own ↦ inl own | inr undone ↦ inr (undone_stays other undone) ]
  refusal_stays (refusal.StoreFault (place.Name (name.Schema k))) other is = elim is [ inl own ↦ inl own | inr undone ↦ inr (undone_stays other undone) ]
  refusal_stays (refusal.NothingToDo count) other is = (undone_stays other is.0, finds_nothing_stays spelled opening past jobs seen e number job count is.1)
  refusal_stays _ other is = undone_stays other is

  -- what the end of a job tells stays true
  pub end_stays : (end : Outcome) → (job.id ≡ id → ⊥) → IsTrueEnd spelled opening jobs past seen number job end → IsTrueEnd spelled opening jobs past (seen ++ e ∷ []) number job end
  end_stays outcome.Created other is = record {
    made = is.made;
    creates = is.creates;
    sound = is.sound;
    found_none = no_array_stays past jobs seen e number is.made is.found_none;
    framed = frame_stays m m' (history_told jobs past seen) (history_told jobs past (seen ++ e ∷ [])) id keeps (frame_made is.made) is.framed;
    declared = declared_stays (is.made).attrs is.declared;
  }
  end_stays (outcome.Evolved k) other (same, is) = (
    same,
    record {
      change = is.change;
      evolves = is.evolves;
      schemas = listed_stays seen e number Schemas is.schemas;
      current = is.current;
      undone = is.undone;
      holds = is.holds;
      frame = is.frame;
      framed = frame_stays m m' (history_told jobs past seen) (history_told jobs past (seen ++ e ∷ [])) id keeps is.frame is.framed;
      sound = is.sound;
      declared = declared_stays (evolved_attrs (is.current).attrs is.change) is.declared;
    },
  )
  end_stays (outcome.Written f) other (same, is) = (
    same,
    record {
      cells_in = is.cells_in;
      writes_them = is.writes_them;
      schemas = listed_stays seen e number Schemas is.schemas;
      current = is.current;
      undone = is.undone;
      holds = is.holds;
      frame = is.frame;
      framed = frame_stays m m' (history_told jobs past seen) (history_told jobs past (seen ++ e ∷ [])) id keeps is.frame is.framed;
      cells = is.cells;
      lays = is.lays;
      written = write_stays m m' (history_told jobs past seen) (history_told jobs past (seen ++ e ∷ [])) id keeps (written_as job (is.current).key is.cells) is.written;
    },
  )
  end_stays (outcome.Deleted f) other (same, is) = (
    same,
    record {
      text = is.text;
      deletes = is.deletes;
      schemas = listed_stays seen e number Schemas is.schemas;
      current = is.current;
      undone = is.undone;
      holds = is.holds;
      frame = is.frame;
      framed = frame_stays m m' (history_told jobs past seen) (history_told jobs past (seen ++ e ∷ [])) id keeps is.frame is.framed;
      condition = is.condition;
      says = is.says;
      erased = deletion_stays m m' (history_told jobs past seen) (history_told jobs past (seen ++ e ∷ [])) id keeps (deletion_as job is.condition) is.erased;
    },
  )
  end_stays (outcome.Read answer) other (from, to, query, reads, is) = (
    from,
    to,
    query,
    reads,
    record {
      commits = listed_stays seen e number Commits is.commits;
      schemas = listed_stays seen e number Schemas is.schemas;
      between = is.between;
      order = is.order;
      answers = is.answers;
    },
  )
  end_stays (outcome.Consolidated f count) other (undone, is) = (undone_stays other undone, merged_stays spelled opening past jobs seen e number job f count is)
  end_stays (outcome.Vacuumed count) other (undone, is) = (undone_stays other undone, vacuumed_stays opening past jobs seen e number job count is)
  end_stays (outcome.Unlocked count) other (undone, is) = (undone_stays other undone, unlocked_stays opening seen e number job count is)
  end_stays (outcome.Listed names) other (undone, is) = (undone_stays other undone, names_stay opening seen e number job names is)
  end_stays (outcome.Refused r) other is = refusal_stays r other is
  end_stays outcome.OutOfMemory other is = is
