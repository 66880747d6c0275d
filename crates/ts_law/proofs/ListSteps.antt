-- What the listings of a job find, and where they lead.
use Rattle.std.proofs.Common.{◌≡◌, ℕ, false, ◌&&◌, true, List, [], ◌∷◌, ◌++◌, Option, Some, None, refl, sym, ◌∙◌, ap, subst, arith}
use Rattle.std.specs.Prelude.{Contains, filter, filter_map, nat_le, option_map}
use Rattle.std.proofs.lemmas.Bool.{and_from, and_parts, le-leb, leb-true}
use Rattle.std.specs.FinMap as map
use Rattle.std.proofs.lemmas.Option.{same_Some, none-some}
use Rattle.ts_base.specs.declared.keys.Key.{Key}
use Rattle.ts_base.specs.declared.keys.FragKey.{FragKey}
use Rattle.ts_base.specs.declared.names.Name.{Name}
use Rattle.ts_base.specs.declared.names.Name.TheVariants as name
use Rattle.ts_base.specs.declared.names.CommitKind.TheVariants as kind
use Rattle.ts_base.specs.declared.names.Prefix.{Prefix}
use Rattle.ts_base.specs.declared.names.Prefix.TheVariants.{Commits, Schemas}
use Rattle.ts_base.specs.Keys.{is_within, frag_eq, frag_of}
use Rattle.ts_base.specs.Names.{wrt_of}
use Rattle.ts_base.specs.Held.{Held}
use Rattle.ts_store.specs.declared.call.Call.{Call}
use Rattle.ts_store.specs.declared.call.Call.TheVariants as call
use Rattle.ts_store.specs.declared.call.Reply.{Reply}
use Rattle.ts_store.specs.declared.call.Reply.TheVariants as reply
use Rattle.ts_store.specs.Calls.{is_no_memory, names_under}
use Rattle.ts_cond.specs.CondTexts.{cond_object}
use Rattle.ts_cond.specs.declared.query.Query.{Query}
use Rattle.ts_schema.specs.declared.schemas.Schema.{Schema}
use Rattle.ts_schema.specs.Evolutions.{schema_at}
use Rattle.ts_schema.specs.SchemaTexts.{schema_object}
use Rattle.ts_model.specs.declared.commands.Command.{Command}
use Rattle.ts_model.specs.declared.commands.Command.TheVariants.{Create, Consolidate, Delete, Evolve, Fragments, Vacuum, Unlock, Write, Read}
use Rattle.ts_model.specs.declared.commands.Job.{Job}
use Rattle.ts_model.specs.declared.deeds.Deletion.{Deletion}
use Rattle.ts_model.specs.declared.states.Listed.{Listed}
use Rattle.ts_model.specs.declared.states.State.{State}
use Rattle.ts_model.specs.declared.states.State.TheVariants.{Seeks}
use Rattle.ts_model.specs.declared.states.Seeking.TheVariants.{ListsCommits, ListsSchemas}
use Rattle.ts_model.specs.Deeds.{History, IsHistory, deletions, deletion_of, schemas, schema_with, current_schema}
use Rattle.ts_model.specs.Codecs.{Codec, CodecLaws, Spelled, Tracking}
use Rattle.ts_model.specs.Jobs.{looked_at}
use Rattle.ts_law.specs.Stands.{IsCommitted, WentInto, Stands}
use Rattle.ts_law.proofs.Grows.{meets_of_within}
use Rattle.ts_law.proofs.OriginLaws.{key_there, member_any}
use Rattle.ts_model.proofs.KeyLemmas.{frag_same}
use Rattle.ts_commit.specs.Selections.{is_among}
use Rattle.ts_model.specs.States.{wrt_in, committed_in, vac_in, vac_of, del_in, counting_in, deletes_in, schema_key_in, schemas_in, meets, looked_into, list_commits, list_schemas, on_names, seeks}
use Rattle.ts_model.specs.Told.{Told, trace_of, after_told, IsReplied, schemas_found, held_told, history_told}
use Rattle.ts_law.specs.Ends.{IsUndone}
use Rattle.ts_law.specs.Kept.{Clean, Works, HasLooked, HasListed, Claims}
use Rattle.ts_law.specs.Steps.{Keeps, Leads, Advances, Comes}
use Rattle.ts_model.proofs.ListLemmas.{Contains-here, Contains-nil, Contains-filter, filter-Contains, Contains-filter_map, filter_map-Contains}
use Rattle.ts_law.proofs.HeldLemmas.{Holds, Holds-from_get, listed_from_Holds, Holds-from_listed}
use Rattle.ts_model.proofs.HistoryLaws.{deletion_of-is, deletion_of_name, schema_with-is, schema_of_key, current_is_with, there_by_keys}
use Rattle.ts_model.proofs.Traces.{schemas_found-own}
use Rattle.ts_law.proofs.Effects.{IsLook, look_stays, look_leads, look_history, listed}
use Rattle.ts_law.proofs.StandsLaws.{free_from_get}
use Rattle.ts_law.proofs.Stays.{clean_look, listed_now, near_stays}

-- ---- what a listing of the commits finds

-- a name that commits a fragment is its `.wrt`
pub wrt_in-some : (n : Name) (f : FragKey) → wrt_in n ≡ Some f → n ≡ wrt_of f
wrt_in-some name.Domain f e = absurd (none-some f e)
wrt_in-some (name.Schema k) f e = absurd (none-some f e)
wrt_in-some (name.Commit g kind.Wrt) f e = ap wrt_of (same_Some g f e)
wrt_in-some (name.Commit g kind.Del) f e = absurd (none-some f e)
wrt_in-some (name.Commit g kind.Vac) f e = absurd (none-some f e)
wrt_in-some (name.Part g part) f e = absurd (none-some f e)
wrt_in-some (name.Lease k mode) f e = absurd (none-some f e)

-- a committed fragment whose span meets the interval is one that a read looks into
pub looked_from_committed : (m : Held) (from to : ℕ) (f : FragKey) → IsCommitted m f → meets from to f ≡ true → Contains (filter (meets from to) (committed_in (names_under Commits m))) f
looked_from_committed m from to f committed within =
    Contains-filter (meets from to) (committed_in (names_under Commits m)) f
    (Contains-filter_map wrt_in (names_under Commits m) (wrt_of f) f (listed_from_Holds Commits m (wrt_of f) committed refl) refl) within

-- a fragment that a read looks into is committed, and its span meets the interval
pub committed_from_looked : (m : Held) (from to : ℕ) (f : FragKey) → Contains (filter (meets from to) (committed_in (names_under Commits m))) f → IsCommitted m f × (meets from to f ≡ true)
committed_from_looked m from to f at =
    let parts = filter-Contains (meets from to) (committed_in (names_under Commits m)) f at in
    let found = filter_map-Contains wrt_in (names_under Commits m) f parts.0 in
    (subst (Holds m) (wrt_in-some found.0 f found.2) (Holds-from_listed Commits m found.0 found.1).0, parts.1)

-- a fragment that a write in the interval went into meets it
pub meets_of_origin : (spelled : Spelled) (m : Held) (h : History) (from to : ℕ) (f : FragKey) (k : Key) → WentInto spelled h m f k → is_within from to k ≡ true → meets from to f ≡ true
meets_of_origin spelled m h from to f k went within =
    let span = ((went.holds).holds).span in
    let at = key_there k (went.piece).head.origins went.origin in
    let from_on = span.from_on k at in
    let up_to = span.up_to k at in
    let tests = and_parts (nat_le from k.t) (nat_le k.t to) within in
    let low = leb-true from k.t tests.0 in
    let high = leb-true k.t to tests.1 in
    subst (λ g. meets from to g ≡ true) ((went.holds).spells).named
    (and_from (nat_le from to) (nat_le (went.piece).head.frag.t1 to && nat_le from (went.piece).head.frag.t2) (le-leb from to (omega (arith, low, high)))
    (and_from (nat_le (went.piece).head.frag.t1 to) (nat_le from (went.piece).head.frag.t2) (le-leb (went.piece).head.frag.t1 to (omega (arith, from_on, high)))
    (le-leb from (went.piece).head.frag.t2 (omega (arith, up_to, low)))))

-- an instant that meets the interval is stamped in it
within_of_meets : (from to : ℕ) (k : Key) → meets from to (frag_of k) ≡ true → is_within from to k ≡ true
within_of_meets from to k meet = grind arith

-- ---- the `.vac` objects that a listing of the commits finds

-- a name of a `.vac` is that of its fragment
vac_in-some : (n : Name) (f : FragKey) → vac_in n ≡ Some f → n ≡ vac_of f
vac_in-some name.Domain f e = absurd (none-some f e)
vac_in-some (name.Schema k) f e = absurd (none-some f e)
vac_in-some (name.Commit g kind.Wrt) f e = absurd (none-some f e)
vac_in-some (name.Commit g kind.Del) f e = absurd (none-some f e)
vac_in-some (name.Commit g kind.Vac) f e = ap vac_of (same_Some g f e)
vac_in-some (name.Part g part) f e = absurd (none-some f e)
vac_in-some (name.Lease k mode) f e = absurd (none-some f e)

-- a fragment whose `.vac` counts is committed, and its `.vac` is held
pub counting_held : (m : Held) (f : FragKey) → Contains (counting_in (names_under Commits m)) f → IsCommitted m f × Holds m (vac_of f)
counting_held m f at =
    let names = names_under Commits m in
    let parts = filter-Contains (λ g. is_among g (committed_in names)) (filter_map vac_in names) f at in
    let found = filter_map-Contains vac_in names f parts.0 in
    let held = subst (Holds m) (vac_in-some found.0 f found.2) (Holds-from_listed Commits m found.0 found.1).0 in
    let among = member_any (frag_eq f) (committed_in names) parts.1 in
    let committed = filter_map-Contains wrt_in names f (subst (Contains (committed_in names)) (sym (frag_same f among.0 among.2)) among.1) in
    (subst (Holds m) (wrt_in-some committed.0 f committed.2) (Holds-from_listed Commits m committed.0 committed.1).0, held)

-- ---- the deletes that a listing of the commits finds

-- a name of a delete is its `.del`
del_in-some : (n : Name) (f : FragKey) → del_in n ≡ Some f → n ≡ name.Commit f kind.Del
del_in-some name.Domain f e = absurd (none-some f e)
del_in-some (name.Schema k) f e = absurd (none-some f e)
del_in-some (name.Commit g kind.Wrt) f e = absurd (none-some f e)
del_in-some (name.Commit g kind.Del) f e = ap (λ x. name.Commit x kind.Del) (same_Some g f e)
del_in-some (name.Commit g kind.Vac) f e = absurd (none-some f e)
del_in-some (name.Part g part) f e = absurd (none-some f e)
del_in-some (name.Lease k mode) f e = absurd (none-some f e)

module _ (spelled : Spelled) (m : Held) (h : History) (stands : Stands spelled m h) (from to : ℕ) where
  -- the deletes that a read looks into
  abbrev dels : List FragKey
  dels = filter (meets from to) (deletes_in (names_under Commits m))

  -- a delete whose object is held is one of the history
  erase_from_held : (f : FragKey) → Holds m (name.Commit f kind.Del) → (x : Deletion) × (deletion_of h f ≡ Some x)
  erase_from_held f held = by_found (deletion_of h f) refl
    where
      lost : deletion_of h f ≡ None → ⊥
      lost none = free_from_get m (name.Commit f kind.Del) (stands.deletes f ∙ ap (option_map (λ x. cond_object x.cond)) none) held

      by_found : (o : Option Deletion) → deletion_of h f ≡ o → (x : Deletion) × (o ≡ Some x)
      by_found None none = absurd (lost none)
      by_found (Some x) some = (x, refl)

  -- a delete that a read looks into is one of the history, and stamped in the interval
  pub erase_from_looked : (f : FragKey) → Contains dels f → (x : Deletion) × Contains (deletions h) x × (frag_of x.key ≡ f) × (is_within from to x.key ≡ true)
  erase_from_looked f at =
      let parts = filter-Contains (meets from to) (deletes_in (names_under Commits m)) f at in
      let found = filter_map-Contains del_in (names_under Commits m) f parts.0 in
      let held = subst (Holds m) (del_in-some found.0 f found.2) (Holds-from_listed Commits m found.0 found.1).0 in
      let of = erase_from_held f held in
      let is = deletion_of-is h f of.0 of.1 in
      (of.0, is.0, is.1, within_of_meets from to (of.0).key (ap (meets from to) is.1 ∙ parts.1))

  -- a delete of the history that is stamped in the interval is one that a read looks into
  pub looked_from_erase : (x : Deletion) → Contains (deletions h) x → is_within from to x.key ≡ true → Contains dels (frag_of x.key)
  looked_from_erase x at within =
      let held : map.get m (name.Commit (frag_of x.key) kind.Del) ≡ Some (cond_object x.cond) = stands.deletes (frag_of x.key) ∙ ap (option_map (λ y. cond_object y.cond)) (deletion_of_name h x stands.history at) in
      Contains-filter (meets from to) (deletes_in (names_under Commits m)) (frag_of x.key)
      (Contains-filter_map del_in (names_under Commits m) (name.Commit (frag_of x.key) kind.Del) (frag_of x.key)
      (listed_from_Holds Commits m (name.Commit (frag_of x.key) kind.Del) (Holds-from_get m (name.Commit (frag_of x.key) kind.Del) (cond_object x.cond) held) refl) refl)
      (meets_of_within from to x.key within)

-- ---- what a listing of the schemas finds

-- a name that has the key of a schema is that of its object
schema_key-some : (n : Name) (k : Key) → schema_key_in n ≡ Some k → n ≡ name.Schema k
schema_key-some name.Domain k e = absurd (none-some k e)
schema_key-some (name.Schema l) k e = ap name.Schema (same_Some l k e)
schema_key-some (name.Commit g c) k e = absurd (none-some k e)
schema_key-some (name.Part g part) k e = absurd (none-some k e)
schema_key-some (name.Lease l mode) k e = absurd (none-some k e)

module _ (spelled : Spelled) (m : Held) (h : History) (stands : Stands spelled m h) where
  -- a schema whose object is held is one of the history
  schema_from_held : (k : Key) → Holds m (name.Schema k) → (s : Schema) × (schema_with h k ≡ Some s)
  schema_from_held k held = elim (schema_with h k) as (λ o. schema_with h k ≡ o → (s : Schema) × (o ≡ Some s)) [
    | None ↦ λ none. absurd (lost none)
    | Some s ↦ λ _. (s, refl)
  ] refl
    where
      lost : schema_with h k ≡ None → ⊥
      lost none = elim (map.get m (name.Schema k)) as (λ o. map.get m (name.Schema k) ≡ o → ⊥) [
        | None ↦ λ absent. cc
        | Some bytes ↦ λ found. none-some bytes (sym (ap (option_map (λ s. schema_object s.attrs)) none) ∙ sym (stands.schemas k) ∙ found)
      ] refl

  -- a key of a listing of the schemas is that of a schema of the history
  pub key_from_listed : (k : Key) → Contains (schemas_in (names_under Schemas m)) k → (s : Schema) × Contains (schemas h) s × (s.key ≡ k)
  key_from_listed k at =
      let found = filter_map-Contains schema_key_in (names_under Schemas m) k at in
      let held = subst (Holds m) (schema_key-some found.0 k found.2) (Holds-from_listed Schemas m found.0 found.1).0 in
      let declared = schema_from_held k held in
      let is = schema_with-is h k declared.0 declared.1 in
      (declared.0, is.0, is.1)

  -- the key of a schema of the history is in the listing
  listed_from_key : (s : Schema) → Contains (schemas h) s → Contains (schemas_in (names_under Schemas m)) s.key
  listed_from_key s at =
      Contains-filter_map schema_key_in (names_under Schemas m) (name.Schema s.key) s.key
      (listed_from_Holds Schemas m (name.Schema s.key)
      (Holds-from_get m (name.Schema s.key) (schema_object s.attrs) (stands.schemas s.key ∙ ap (option_map (λ x. schema_object x.attrs)) (schema_of_key h s stands.history at))) refl) refl

  -- where the listing has nothing there is no schema
  pub none_from_listed : names_under Schemas m ≡ [] → schemas h ≡ []
  none_from_listed none = by_schemas (schemas h) refl
    where
      by_schemas : (all : List Schema) → schemas h ≡ all → schemas h ≡ []
      by_schemas [] is = is
      by_schemas (s ∷ others) is =
          absurd (Contains-nil s.key (subst (λ ns. Contains (schemas_in ns) s.key) none (listed_from_key s (subst (λ l. Contains l s) (sym is) (Contains-here s others)))))

  -- the listing tells the key of the schema there
  pub there_from_listed : (b : ℕ) → schema_at (schemas_in (names_under Schemas m)) b ≡ option_map (λ s. s.key) (current_schema h b)
  there_from_listed b = there_by_keys h (schemas_in (names_under Schemas m)) b key_from_listed listed_from_key

-- ---- a look of a job

-- what a look of a clean job leaves: all as it was
pub record Looked (spelled : Spelled) (opening : Held) (past : History) (jobs : List Job) (seen : List Told) (e : Told) (m : Held) (job : Job) : Type 0 where
  pub leads : Leads spelled past jobs seen e m job.id
  pub same_held : after_told m e ≡ m
  pub same_history : history_told jobs past (seen ++ e ∷ []) ≡ history_told jobs past seen
  pub clean : Clean opening past jobs (seen ++ e ∷ []) (after_told m e) job
  pub history : IsHistory (history_told jobs past (seen ++ e ∷ []))

-- a call that looks leaves all as it was
pub looked : (spelled : Spelled) (opening : Held) (past : History) (jobs : List Job) (seen : List Told) (e : Told) (m : Held) (job : Job) (c : Call) → e.call ≡ c → IsLook c
    → Stands spelled m (history_told jobs past seen) → IsReplied m e → Clean opening past jobs seen m job → Looked spelled opening past jobs seen e m job
looked spelled opening past jobs seen e m job c is look stands replied clean =
    let looks : IsLook e.call = subst IsLook (sym is) look in
    let (same_held, still) = look_stays m e looks replied in
    let same_history = look_history jobs past seen e m looks replied in
    record {
      leads = look_leads spelled past jobs seen e m job.id stands looks replied;
      same_held = same_held;
      same_history = same_history;
      clean = clean_look opening past jobs seen e m (after_told m e) job same_held still clean;
      history = subst IsHistory (sym same_history) stands.history;
    }

-- ---- the calls

module _ {F : Type 0} (codec : Codec F) (spelled : Spelled) (tracks : Tracking F) (opening : Held) (past : History) (jobs : List Job) (seen : List Told) (e : Told) (m : Held) (number : ℕ) (job : Job) where
  -- the history before the call
  abbrev h : History
  h = history_told jobs past seen

  -- the history after the call
  abbrev h' : History
  h' = history_told jobs past (seen ++ e ∷ [])

  -- what is held after the call
  abbrev m' : Held
  m' = after_told m e

  -- what a state claims after the call
  abbrev ClaimedAfter : State F → Type 0
  ClaimedAfter s = Claims codec spelled tracks opening past jobs (seen ++ e ∷ []) m' number job s

  -- a call of the job comes in a state
  abbrev ComesHere : State F → Type 0
  ComesHere s = Comes codec spelled tracks opening past jobs seen e m number job s

  -- a call leads the job on from a state
  abbrev AdvancesHere : State F → Type 0
  AdvancesHere s = Advances codec spelled tracks opening past jobs seen e m number job s

  -- how a reply to a listing leads on
  pub names_lead : (p : Prefix) (on : List Name → State F) (r : Reply) → ((names : List Name) → r ≡ reply.Names names → ClaimedAfter (on names)) → IsUndone h' job → ClaimedAfter (on_names (call.List p) on r)
  names_lead p on (reply.Names names) found un = found names refl
  names_lead p on reply.Failed found un = un
  names_lead p on _ found un = tt

  -- ---- the listing of the commits

  -- a read knows the fragments and the deletes that it listed
  near_listed : Stands spelled m h → m ≡ held_told opening seen → e.job ≡ Some number → e.call ≡ list_commits → is_no_memory e.reply ≡ false → m' ≡ m → (from to : ℕ) (query : Query)
      → HasLooked spelled opening past jobs (seen ++ e ∷ []) m' number (Read from to query) (looked_into (Read from to query) (names_under Commits m))
  near_listed stands now own is memory same_held from to query = record {
    since = record {
      commits = listed_now seen e number Commits own is memory;
      stands = subst (λ n. Stands spelled n h) now stands;
      held = λ n bytes no_lease was. ap (λ x. map.get x n) (same_held ∙ now) ∙ was;
    };
    fragments_are = ap (λ x. filter (meets from to) (committed_in (names_under Commits x))) now;
    counting_are = ap (λ x. counting_in (names_under Commits x)) now;
    deletes_are = ap (λ x. filter (meets from to) (deletes_in (names_under Commits x))) now;
  }

  -- they are those of the command
  near_in_command : Stands spelled m h → m ≡ held_told opening seen → e.job ≡ Some number → e.call ≡ list_commits → is_no_memory e.reply ≡ false → m' ≡ m → (from to : ℕ) (query : Query) → job.command ≡ Read from to query
      → (names : List Name) → names ≡ names_under Commits m → HasLooked spelled opening past jobs (seen ++ e ∷ []) m' number job.command (looked_into job.command names)
  near_in_command stands now own is memory same_held from to query reads names all =
      subst (λ c. HasLooked spelled opening past jobs (seen ++ e ∷ []) m' number c (looked_into c names)) (sym reads)
      (subst (λ ns. HasLooked spelled opening past jobs (seen ++ e ∷ []) m' number (Read from to query) (looked_into (Read from to query) ns)) (sym all)
      (near_listed stands now own is memory same_held from to query))

  -- the listing of the commits leads a read to the listing of the schemas
  pub commits_steps : CodecLaws codec spelled tracks → ComesHere (Seeks ListsCommits) → AdvancesHere (Seeks ListsCommits)
  commits_steps laws comes =
      let is : e.call ≡ list_commits = sym (same_Some list_commits e.call comes.asked) in
      let look = looked spelled opening past jobs seen e m job list_commits is tt comes.stands comes.replied comes.claims.0 in
      let reads = comes.claims.1 in
      record {
        leads = look.leads;
        own = names_lead Commits (λ names. Seeks (ListsSchemas (looked_into job.command names))) e.reply
            (λ names said. (look.clean, near_in_command comes.stands comes.is_held comes.own is (ap is_no_memory said) look.same_held reads.0 reads.1 reads.2 reads.3 names (listed m e Commits names is comes.replied said)))
            look.clean.undone;
      }

  -- ---- the listing of the schemas

  -- the listing tells a job which schemas there are
  told_them : e.job ≡ Some number → e.call ≡ list_schemas → (names : List Name) → e.reply ≡ reply.Names names → schemas_found (trace_of number (seen ++ e ∷ [])) ≡ Some (schemas_in names)
  told_them own is names said = schemas_found-own number seen e own ∙ rw (is, said) refl

  -- a job knows the schema there once it listed the schemas
  abbrev works_listed : Stands spelled m h → IsUndone h job → e.job ≡ Some number → e.call ≡ list_schemas → h' ≡ h → (names : List Name) → e.reply ≡ reply.Names names → names ≡ names_under Schemas m
      → (s : Schema) → current_schema h (looked_at job) ≡ Some s → Works past jobs (seen ++ e ∷ []) number job s
  works_listed stands undone own is same_history names said all s there = record {
    schemas = listed_now seen e number Schemas own is (ap is_no_memory said);
    undone = undone;
    holds = there;
    found = schemas_in names;
    is_found = told_them own is names said;
    at = ap (λ ns. schema_at (schemas_in ns) (looked_at job)) all ∙ there_from_listed spelled m h stands (looked_at job) ∙ ap (option_map (λ x. x.key)) there;
    declared = ap (λ g. schema_with g s.key) same_history ∙ current_is_with h (looked_at job) s stands.history there;
  }

  -- what a job listed before goes on with the schema there
  has_listed : Keeps m m' h h' job.id → (c : Command) (listed : Listed) → HasLooked spelled opening past jobs seen m number c listed → (s : Schema) (works : Works past jobs (seen ++ e ∷ []) number job s)
      → (works.schemas).before ≡ seen → HasListed spelled opening past jobs (seen ++ e ∷ []) m' number job c listed s
  has_listed keeps (Create f) listed before s works at = before
  has_listed keeps (Evolve change) listed before s works at = works
  has_listed keeps (Write w) listed before s works at = works
  has_listed keeps (Read from to query) listed before s works at = record {
    listed = near_stays spelled opening past jobs seen e m m' job.id keeps number from to listed.fragments listed.counting listed.delete_names before;
    works = works;
    between = before.since.commits.later;
    order = at ∙ before.since.commits.place;
  }
  has_listed keeps (Delete text) listed before s works at = works
  has_listed keeps (Consolidate from to limits) listed before s works at = absurd before
  has_listed keeps Vacuum listed before s works at = absurd before
  has_listed keeps (Unlock seed lane) listed before s works at = absurd before
  has_listed keeps Fragments listed before s works at = absurd before

  -- where the keys of the listing lead
  sought : (listing : Listed) → Stands spelled m h → Clean opening past jobs (seen ++ e ∷ []) m' job → (names : List Name) → names ≡ names_under Schemas m
      → ((s : Schema) → current_schema h (looked_at job) ≡ Some s → HasListed spelled opening past jobs (seen ++ e ∷ []) m' number job job.command listing s)
      → ClaimedAfter (seeks listing (looked_at job) (schema_at (schemas_in names) (looked_at job)))
  sought listing stands clean names all with =
      subst (λ o. ClaimedAfter (seeks listing (looked_at job) o))
      (sym (ap (λ ns. schema_at (schemas_in ns) (looked_at job)) all ∙ there_from_listed spelled m h stands (looked_at job)))
      (elim (current_schema h (looked_at job)) as (λ o. current_schema h (looked_at job) ≡ o → ClaimedAfter (seeks listing (looked_at job) (option_map (λ s. s.key) o))) [
        | None ↦ λ _. clean.undone
        | Some s ↦ λ there. (clean, (s, refl, with s there))
      ] refl)

  -- the listing of the schemas leads a job to the get of the schema there, or to its end
  pub schemas_steps : CodecLaws codec spelled tracks → (listing : Listed) → ComesHere (Seeks (ListsSchemas listing)) → AdvancesHere (Seeks (ListsSchemas listing))
  schemas_steps laws listing comes =
      let is : e.call ≡ list_schemas = sym (same_Some list_schemas e.call comes.asked) in
      let look = looked spelled opening past jobs seen e m job list_schemas is tt comes.stands comes.replied comes.claims.0 in
      record {
        leads = look.leads;
        own = names_lead Schemas (λ names. seeks listing (looked_at job) (schema_at (schemas_in names) (looked_at job))) e.reply
            (λ names said.
            let all = listed m e Schemas names is comes.replied said in
            sought listing comes.stands look.clean names all (λ s there.
            has_listed look.leads.leaves job.command listing comes.claims.1 s (works_listed comes.stands comes.claims.0.undone comes.own is look.same_history names said all s there) refl))
            look.clean.undone;
      }
