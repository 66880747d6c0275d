-- What a consolidation knows of the array leads it on: to the next look, to its plan, and to its sources.
use Rattle.std.proofs.Common.{◌≡◌, ℕ, Bool, true, false, cond, List, [], ◌∷◌, Some, length, take, refl, sym, ◌∙◌, ap, subst, arith}
use Rattle.std.specs.Prelude.{Contains, filter, nat_lt, map as list_map}
use Rattle.std.specs.FinMap as map
use Rattle.std.specs.FinMap.Entries.{is_some-find}
use Rattle.std.specs.Option.{is_some, option_map_or}
use Rattle.std.proofs.lemmas.Bool.{ltb-false}
use Rattle.std.proofs.lemmas.Option.{same_Some}
use Rattle.std.proofs.lemmas.List.{take_all}
use Rattle.std.proofs.lemmas.Cmp.{eq_by_cmp_equiv}
use Rattle.std.proofs.lemmas.Map.Views.{Contains-from_any, list_any-from_Contains}
use Rattle.ts_base.specs.declared.keys.Key.{Key}
use Rattle.ts_base.specs.declared.keys.FragKey.{FragKey}
use Rattle.ts_base.specs.declared.heads.Head.{Head}
use Rattle.ts_base.specs.declared.heads.Piece.{Piece}
use Rattle.ts_base.specs.declared.names.Prefix.TheVariants.{Commits}
use Rattle.ts_base.specs.Exact.{key_total}
use Rattle.ts_base.specs.Held.{Held}
use Rattle.ts_base.specs.Keys.{key_cmp, key_eq}
use Rattle.ts_store.specs.Calls.{names_under}
use Rattle.ts_schema.specs.declared.frames.Frame.{Frame}
use Rattle.ts_schema.specs.declared.schemas.Schema.{Schema}
use Rattle.ts_commit.specs.declared.vacs.Planned.{Planned}
use Rattle.ts_commit.specs.declared.vacs.Planned.TheVariants as planned
use Rattle.ts_commit.specs.Plans.{is_inside}
use Rattle.ts_commit.specs.Selections.{is_among}
use Rattle.ts_model.specs.declared.commands.Job.{Job}
use Rattle.ts_model.specs.declared.states.Merging.TheVariants as merging
use Rattle.ts_model.specs.declared.states.Opened.{Opened}
use Rattle.ts_model.specs.declared.states.State.{State}
use Rattle.ts_model.specs.declared.states.State.TheVariants as states
use Rattle.ts_model.specs.declared.states.Survey.{Survey}
use Rattle.ts_model.specs.Codecs.{Codec, CodecLaws, Spelled, Tracking}
use Rattle.ts_model.specs.Deeds.{History, schema_with}
use Rattle.ts_model.specs.States.{attributes_among, committed_in, frags_of, getting_names, heads_of, merges_all, merges_in, on_plan, opened_among, opening_next, plan_for, schema_among, schemas_named, surveying, wrt_in}
use Rattle.ts_model.specs.Told.{Told, held_told, history_told}
use Rattle.ts_model.proofs.HistoryLaws.{schema_with-is}
use Rattle.ts_model.proofs.KeyLemmas.{key_itself, key_same}
use Rattle.ts_model.proofs.ListLemmas.{Contains-here, Contains-nil, Contains-there, filter-Contains, filter_map-Contains, find-Some, find_member}
use Rattle.ts_law.specs.Ends.{AreAllVacs, AreInside, attributes_with, IsPlanned}
use Rattle.ts_law.specs.Kept.{AreSourcesIn, Claims, Clean, HasSources, IsOpen, IsSource, Learns, Opens, Surveys}
use Rattle.ts_law.specs.Stands.{HoldsIn, IsCommitted}
use Rattle.ts_law.proofs.Fetches.{Contains-map, map-Contains}
use Rattle.ts_law.proofs.HeldLemmas.{Holds, Holds-from_listed}
use Rattle.ts_law.proofs.ListSteps.{wrt_in-some}
use Rattle.ts_law.proofs.MergeFetches.{rest_claims}
use Rattle.ts_law.proofs.MergePlans.{committed_once, filter_once, frags_in, named_part, NoRepeats, plan_alike, takes_part, TakesPart}
use Rattle.ts_law.proofs.ReadSteps.{as_many, named_from_found, schema_at_listing}

-- ---- the fragments in the interval

-- a fragment that a consolidation found in its listing is committed
pub committed_from_inside : (m : Held) (from to : ℕ) (f : FragKey) → Contains (filter (is_inside from to) (committed_in (names_under Commits m))) f → IsCommitted m f
committed_from_inside m from to f at =
    let parts = filter-Contains (is_inside from to) (committed_in (names_under Commits m)) f at in
    let found = filter_map-Contains wrt_in (names_under Commits m) f parts.0 in
    subst (Holds m) (wrt_in-some found.0 f found.2) (Holds-from_listed Commits m found.0 found.1).0

-- ---- the keys that heads name

module _ (opened : List Opened) where
  -- the keys that they name, as entries of a map
  abbrev pairs : List (Key × Key)
  pairs = list_map (λ o. ((o.head).schema, (o.head).schema)) opened

  -- a key that the map has is that of a head
  pub schema_named_by : (k : Key) → Contains (schemas_named opened) k → (o : Opened) × Contains opened o × ((o.head).schema ≡ k)
  schema_named_by k at =
      let held : map.contains_key (map.from_entries {R = key_cmp} pairs) k ≡ true =
      map.contains_key-keys (map.from_entries {R = key_cmp} pairs) k ∙ list_any-from_Contains (eq_by_cmp_equiv key_total) k (schemas_named opened) at in
      named_from_found k opened (ap is_some (sym (map.get-from_entries key_total pairs k)) ∙ held)

  -- a head's schema is among the keys
  pub schemas_named_has : (o : Opened) → Contains opened o → Contains (schemas_named opened) (o.head).schema
  schemas_named_has o at =
      Contains-from_any key_same (o.head).schema (schemas_named opened)
      (sym (map.contains_key-keys (map.from_entries {R = key_cmp} pairs) (o.head).schema) ∙ ap is_some (map.get-from_entries key_total pairs (o.head).schema)
      ∙ is_some-find key_cmp (o.head).schema pairs ∙ list_any-from_Contains (eq_by_cmp_equiv key_total) (o.head).schema (list_map (λ e. e.0) pairs)
      (Contains-map (λ e. e.0) pairs ((o.head).schema, (o.head).schema) (Contains-map (λ p. ((p.head).schema, (p.head).schema)) opened o at)))

-- ---- open fragments

module _ {F : Type 0} (codec : Codec F) (spelled : Spelled) (g : History) (m : Held) (frame : Frame) where
  -- the head of an open fragment names it
  named : (o : Opened) → IsOpen codec spelled g m frame o → o.head.frag ≡ o.frag
  named o is = ap (λ x. x.frag) is.head ∙ ((is.holds).spells).named

  -- so the heads name the fragments
  own_frags : (os : List Opened) → ((o : Opened) → Contains os o → IsOpen codec spelled g m frame o) → frags_in (heads_of os) ≡ frags_of os
  own_frags [] all = refl
  own_frags (o ∷ os) all = λ i. named o (all o (Contains-here o os)) i ∷ own_frags os (λ x at. all x (Contains-there o os x at)) i

  -- the heads of the open fragments that are named are those of the heads that are
  heads_among : (fs : List FragKey) (os : List Opened) → ((o : Opened) → Contains os o → IsOpen codec spelled g m frame o) → heads_of (opened_among fs os) ≡ filter (λ head. is_among head.frag fs) (heads_of os)
  heads_among fs [] all = refl
  heads_among fs (o ∷ os) all =
      by (is_among o.frag fs) (heads_among fs os (λ x at. all x (Contains-there o os x at)))
      ∙ ap (λ f. cond (is_among f fs) (o.head ∷ filter (λ head. is_among head.frag fs) (heads_of os)) (filter (λ head. is_among head.frag fs) (heads_of os))) (sym (named o (all o (Contains-here o os))))
    where
      by : (t : Bool) → heads_of (opened_among fs os) ≡ filter (λ head. is_among head.frag fs) (heads_of os)
          → heads_of (cond t (o ∷ opened_among fs os) (opened_among fs os)) ≡ cond t (o.head ∷ filter (λ head. is_among head.frag fs) (heads_of os)) (filter (λ head. is_among head.frag fs) (heads_of os))
      by true rest = ap (λ l. o.head ∷ l) rest
      by false rest = rest

  -- open fragments that hold pieces in a schema, in turn
  sources_in : (schema : Schema) (os : List Opened) → ((o : Opened) → Contains os o → (p : Piece) × IsSource codec spelled g m frame schema o p) → (ps : List Piece) × AreSourcesIn codec spelled g m frame schema os ps
  sources_in schema [] each = ([], tt)
  sources_in schema (o ∷ os) each =
      let first = each o (Contains-here o os) in
      let rest = sources_in schema os (λ x at. each x (Contains-there o os x at)) in
      (first.0 ∷ rest.0, (first.1, rest.1))

-- ---- what a consolidation knows leads on

module _ {F : Type 0} (codec : Codec F) (spelled : Spelled) (tracks : Tracking F) (laws : CodecLaws codec spelled tracks)
    (opening : Held) (past : History) (jobs : List Job) (seen : List Told) (m : Held) (number : ℕ) (job : Job) (clean : Clean opening past jobs seen m job) (s : Survey) where
  -- the history now
  abbrev now : History
  now = history_told jobs past seen

  -- what a state claims
  abbrev Claimed : State F → Type 0
  Claimed x = Claims codec spelled tracks opening past jobs seen m number job x

  module _ (opened : List Opened) (schemas : List Schema) (learns : Learns codec spelled opening past jobs seen m number job s opened schemas) (all_schemas : length schemas ≡ length (schemas_named opened)) where
    -- how it has surveyed
    abbrev surveys : Surveys spelled opening past jobs seen m number job s
    surveys = (learns.opens).surveys

    -- the history at the listing of the commits
    abbrev g : History
    g = history_told jobs past (((surveys.chooses).since).commits).before

    -- what was held then
    abbrev then : Held
    then = held_told opening (((surveys.chooses).since).commits).before

    -- each fragment is open
    opened_is : (o : Opened) → Contains opened o → IsOpen codec spelled g then s.frame o
    opened_is o at = ((learns.opens).are_open).each o at

    -- they are those in the interval
    fragments_are : frags_of opened ≡ filter (is_inside s.from s.to) (committed_in (names_under Commits then))
    fragments_are =
        ((learns.opens).are_open).frags ∙ ap (λ n. take n s.fragments) learns.all_open ∙ take_all (length s.fragments) s.fragments (omega arith) ∙ (surveys.chooses).fragments_are

    -- so are their heads
    heads_are : frags_in (heads_of opened) ≡ filter (is_inside s.from s.to) (committed_in (names_under Commits then))
    heads_are = own_frags codec spelled g then s.frame opened opened_is ∙ fragments_are

    inside : AreInside spelled g then s.from s.to (heads_of opened)
    inside = record {
      frags = heads_are;
      each = λ head at.
          let o = map-Contains (λ x. x.head) opened head at in
          let is = opened_is o.0 o.1 in
          (is.piece, subst (λ f. HoldsIn spelled g then f is.piece) (sym (named codec spelled g then s.frame o.0 is) ∙ ap (λ x. x.frag) o.2) is.holds, sym is.head ∙ o.2);
    }

    -- it has the names in all `.vac` objects that count
    all_vacs : AreAllVacs then s.vacs
    all_vacs = record {
      frags = (surveys.are_vacs).frags ∙ ap (λ n. take n s.counting) (learns.opens).all_vacs ∙ take_all (length s.counting) s.counting (omega arith) ∙ (surveys.chooses).counting_are;
      each = λ v at. ((surveys.are_vacs).each v at).1;
    }

    -- the schemas that it has have all keys that the heads name
    all_keys : list_map (λ x. x.key) schemas ≡ schemas_named opened
    all_keys = (learns.gathered).keys_are ∙ ap (λ n. take n (schemas_named opened)) all_schemas ∙ take_all (length (schemas_named opened)) (schemas_named opened) (omega arith)

    -- the schema of an open fragment is a deed, then and now
    was_declared : (o : Opened) (at : Contains opened o) → schema_with g (o.head).schema ≡ Some ((opened_is o at).holds).schema
    was_declared o at = ap (λ x. schema_with g x.schema) (opened_is o at).head ∙ ((opened_is o at).holds).declared

    is_declared : (o : Opened) (at : Contains opened o) → schema_with now (o.head).schema ≡ Some ((opened_is o at).holds).schema
    is_declared o at =
        schema_at_listing codec spelled tracks opening past jobs seen m number job ((surveys.chooses).since.commits) (o.head).schema ((opened_is o at).holds).schema (was_declared o at)

    -- it knows it
    knows : (o : Opened) (at : Contains opened o) → schema_among schemas (o.head).schema ≡ Some ((opened_is o at).holds).schema
    knows o at =
        let key = (o.head).schema in
        let x = map-Contains (λ t. t.key) schemas key (subst (λ ks. Contains ks key) (sym all_keys) (schemas_named_has opened o at)) in
        let found = find_member (λ t. key_eq t.key key) schemas x.0 x.1 (ap (λ k. key_eq k key) x.2 ∙ key_itself key) in
        let is = find-Some (λ t. key_eq t.key key) schemas found.0 found.1 in
        found.1 ∙ sym ((learns.gathered).each found.0 is.0) ∙ ap (schema_with now) (key_same (found.0).key key is.1) ∙ is_declared o at

    -- so it counts the attributes of each head's schema as at the listing
    counts_alike : (head : Head) → Contains (heads_of opened) head → attributes_with g head.schema ≡ attributes_among schemas head.schema
    counts_alike head at =
        let o = map-Contains (λ x. x.head) opened head at in
        subst (λ x. attributes_with g x.schema ≡ attributes_among schemas x.schema) o.2 (ap (λ x. option_map_or (λ t. length t.attrs) x 0) (was_declared o.0 o.1 ∙ sym (knows o.0 o.1)))

    -- its plan is that of the listing
    abbrev is_planned : (plan : Planned) → plan_for s opened schemas ≡ plan → IsPlanned spelled g then s.from s.to s.limits plan
    is_planned plan is = record {
      heads = heads_of opened;
      are_heads = inside;
      vacs = s.vacs;
      are_vacs = all_vacs;
      is = plan_alike (heads_of opened) s.vacs s.from s.to s.limits (attributes_with g) (attributes_among schemas) counts_alike ∙ is;
    }

    -- ---- the plan takes fragments

    module _ (frags : List FragKey) (plan : plan_for s opened schemas ≡ planned.Take frags) where
      -- what it takes of the heads
      takes : TakesPart (heads_of opened) frags
      takes = takes_part (heads_of opened) s.vacs s.from s.to s.limits (attributes_among schemas) frags plan

      -- the sources
      abbrev sources : List Opened
      sources = opened_among frags opened

      -- their heads are those that it takes
      heads_taken : filter (λ head. is_among head.frag frags) (heads_of opened) ≡ takes.taken
      heads_taken =
          ap (λ fs. filter (λ head. is_among head.frag fs) (heads_of opened)) takes.named
          ∙ named_part takes.taken (heads_of opened) takes.part (subst NoRepeats (sym heads_are) (filter_once (is_inside s.from s.to) (committed_in (names_under Commits then)) (committed_once then)))

      source_heads : heads_of sources ≡ filter (λ head. is_among head.frag frags) (heads_of opened)
      source_heads = heads_among codec spelled g then s.frame frags opened opened_is

      -- a source is open
      source_there : (o : Opened) → Contains sources o → Contains opened o
      source_there o at = (filter-Contains (λ x. is_among x.frag frags) opened o at).0

      -- the plan names the sources, in their order
      named_so : frags ≡ frags_of sources
      named_so =
          takes.named ∙ ap frags_in (sym (source_heads ∙ heads_taken))
          ∙ own_frags codec spelled g then s.frame sources (λ o at. opened_is o (source_there o at))

      -- they share a schema
      shares : (o : Opened) → Contains sources o → (o.head).schema ≡ takes.schema
      shares o at = takes.alike o.head (subst (λ hs. Contains hs o.head) (source_heads ∙ heads_taken) (Contains-map (λ x. x.head) sources o at))

      -- each holds a piece in the schema of one of them
      source_is : (first : Opened) (here : Contains sources first) (o : Opened) → Contains sources o → (p : Piece) × IsSource codec spelled g then s.frame ((opened_is first (source_there first here)).holds).schema o p
      source_is first here o at =
          let there = source_there o at in
          let is = opened_is o there in
          let schema = ((opened_is first (source_there first here)).holds).schema in
          let known : schema_among schemas (o.head).schema ≡ Some schema = ap (schema_among schemas) (shares o at ∙ sym (shares first here)) ∙ knows first (source_there first here) in (
            is.piece,
            record {
              committed = committed_from_inside then s.from s.to o.frag (subst (λ fs. Contains fs o.frag) fragments_are (Contains-map (λ x. x.frag) opened o there));
              holds = is.holds;
              same_frame = is.same_frame;
              same_schema = same_Some (is.holds).schema schema (sym (knows o there) ∙ known);
              head = is.head;
              object = is.object;
            },
          )

      -- so a consolidation has its sources
      has_sources : (first : Opened) → Contains sources first → (schema : Schema) → schema_among schemas (first.head).schema ≡ Some schema → HasSources codec spelled opening past jobs seen m number job s sources schema
      has_sources first here schema among =
          let there = source_there first here in
          let own = ((opened_is first there).holds).schema in
          let same : own ≡ schema = same_Some own schema (sym (knows first there) ∙ among) in
          let declared = is_declared first there in
          let its = sources_in codec spelled g then s.frame own sources (source_is first here) in
          subst (HasSources codec spelled opening past jobs seen m number job s sources) same (record {
            surveys = surveys;
            by_plan = is_planned (planned.Take (frags_of sources)) (plan ∙ ap planned.Take named_so);
            same_vacs = refl;
            heads = source_heads ∙ ap (λ fs. filter (λ head. is_among head.frag fs) (heads_of opened)) named_so;
            pieces = its.0;
            are_sources = its.1;
            declared = subst (λ k. schema_with now k ≡ Some own) (sym (schema_with-is now (first.head).schema own declared).1) declared;
          })

      -- and fetches them
      merges_claims : (os : List Opened) → sources ≡ os → Claimed (merges_all codec job s schemas os)
      merges_claims [] none = tt
      merges_claims (o ∷ others) are =
          let here : Contains sources o = subst (λ os. Contains os o) (sym are) (Contains-here o others) in
          let schema = ((opened_is o (source_there o here)).holds).schema in
          let known = knows o (source_there o here) in
          subst (λ x. Claimed (merges_in codec job s (o ∷ others) x)) (sym known)
          (rest_claims codec spelled tracks laws opening past jobs seen m number job clean s (o ∷ others) schema
          (subst (λ os. HasSources codec spelled opening past jobs seen m number job s os schema) are (has_sources o here schema known)) (o ∷ others) 0 [] refl refl)

    -- a consolidation that has all schemas goes on by its plan
    plan_claims : (plan : Planned) → plan_for s opened schemas ≡ plan → Claimed (on_plan codec job s opened schemas plan)
    plan_claims (planned.Take frags) is = merges_claims frags is (opened_among frags opened) refl
    plan_claims (planned.Nothing count) is = (
      clean.undone,
      record { from = s.from; to = s.to; limits = s.limits; merges = surveys.merges; commits = (surveys.chooses).since.commits; by_plan = is_planned (planned.Nothing count) is; found = surveys.found },
    )

  -- a consolidation gets the next schema, or plans
  pub surveying_claims : (opened : List Opened) (schemas : List Schema) → Learns codec spelled opening past jobs seen m number job s opened schemas → Claimed (surveying codec job s opened (schemas_named opened) schemas)
  surveying_claims opened schemas learns =
      elim (nat_lt (length schemas) (length (schemas_named opened))) as (λ b. nat_lt (length schemas) (length (schemas_named opened)) ≡ b
      → Claimed (cond b (states.Merges (merging.GetsSchemas s opened (schemas_named opened) schemas)) (on_plan codec job s opened schemas (plan_for s opened schemas)))) [
        | true ↦ λ _. (clean, refl, learns)
        | false ↦ λ end. plan_claims opened schemas learns
            (as_many (λ x. x.key) schemas (schemas_named opened) (learns.gathered).keys_are (ltb-false (length schemas) (length (schemas_named opened)) end)) (plan_for s opened schemas) refl
      ] refl

  -- a consolidation opens the next fragment, or goes on to the schemas
  pub opening_claims : (opened : List Opened) → Opens codec spelled opening past jobs seen m number job s opened → Claimed (opening_next codec job s opened)
  opening_claims opened opens =
      elim (nat_lt (length opened) (length s.fragments)) as (λ b. nat_lt (length opened) (length s.fragments) ≡ b
      → Claimed (cond b (states.Merges (merging.GetsHeads s opened)) (surveying codec job s opened (schemas_named opened) []))) [
        | true ↦ λ _. (clean, opens)
        | false ↦ λ end. surveying_claims opened [] (record {
          opens = opens;
          all_open = as_many (λ o. o.frag) opened s.fragments (opens.are_open).frags (ltb-false (length opened) (length s.fragments) end);
          gathered = record { keys_are = refl; each = λ x at. absurd (Contains-nil x at) };
        })
      ] refl

  -- a consolidation gets the next `.vac`, or opens its fragments
  pub getting_names_claims : Surveys spelled opening past jobs seen m number job s → Claimed (getting_names codec job s)
  getting_names_claims surveys =
      elim (nat_lt (length s.vacs) (length s.counting)) as (λ b. nat_lt (length s.vacs) (length s.counting) ≡ b → Claimed (cond b (states.Merges (merging.GetsVacs s)) (opening_next codec job s []))) [
        | true ↦ λ _. (clean, surveys)
        | false ↦ λ end. opening_claims [] (record {
          surveys = surveys;
          all_vacs = as_many (λ v. v.frag) s.vacs s.counting (surveys.are_vacs).frags (ltb-false (length s.vacs) (length s.counting) end);
          are_open = record { frags = refl; each = λ o at. absurd (Contains-nil o at) };
        })
      ] refl
