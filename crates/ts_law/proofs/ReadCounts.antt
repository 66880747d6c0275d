-- How many gets a read has made, by the state that it is in.
use Rattle.std.proofs.Common.{◌≡◌, ℕ, suc, ◌+◌, ◌≤◌, Bool, true, false, cond, inl, inr, List, [], ◌∷◌, ◌++◌, Option, Some, None, Result, Ok, Err, length, drop, refl, sym, ◌∙◌, ap, subst, arith}
use Rattle.std.specs.Prelude.{nat_lt, slice_get, ⊤, map as list_map}
use Rattle.std.specs.List.{sum_by}
use Rattle.std.specs.Option.{option_map_or}
use Rattle.std.proofs.lemmas.Bool.{true≢false}
use Rattle.std.proofs.lemmas.List.{length_push}
use Rattle.std.proofs.lemmas.List.Sums.{sum_by-cons}
use Rattle.std.proofs.lemmas.Option.{none-some, same_Some, slice_get_within}
use Rattle.ts_base.specs.declared.keys.Key.{Key}
use Rattle.ts_base.specs.declared.keys.FragKey.{FragKey}
use Rattle.ts_base.specs.declared.heads.Version.{Version}
use Rattle.ts_base.specs.declared.names.Name.{Name}
use Rattle.ts_base.specs.declared.names.Name.TheVariants as name
use Rattle.ts_base.specs.declared.names.CommitKind.TheVariants.{Del}
use Rattle.ts_schema.specs.declared.frames.Frame.{Frame}
use Rattle.ts_schema.specs.declared.schemas.Schema.{Schema}
use Rattle.ts_schema.specs.Evolutions.{schema_at}
use Rattle.ts_schema.specs.FrameTexts.{frame_of}
use Rattle.ts_schema.specs.SchemaTexts.{schema_of}
use Rattle.ts_lease.specs.Leases.{verdict_in}
use Rattle.ts_lease.specs.declared.verdicts.Verdict.{Verdict}
use Rattle.ts_lease.specs.declared.verdicts.Verdict.TheVariants.{Granted, Held as IsHeld}
use Rattle.ts_store.specs.declared.call.Call.{Call}
use Rattle.ts_store.specs.declared.call.Reply.{Reply}
use Rattle.ts_store.specs.declared.call.Reply.TheVariants as reply
use Rattle.ts_commit.specs.Selections.{clipped_names}
use Rattle.ts_commit.specs.Vacs.{names_of}
use Rattle.ts_cond.specs.declared.query.Query.{Query}
use Rattle.ts_cond.specs.CondTexts.{cond_of}
use Rattle.ts_model.specs.declared.answers.Refusal.{Refusal}
use Rattle.ts_model.specs.declared.commands.Command.TheVariants.{Read}
use Rattle.ts_model.specs.declared.commands.Job.{Job}
use Rattle.ts_model.specs.declared.deeds.Deletion.{Deletion}
use Rattle.ts_model.specs.declared.queries.Ready.{Ready}
use Rattle.ts_model.specs.declared.states.Listed.{Listed}
use Rattle.ts_model.specs.declared.states.Opened.{Opened}
use Rattle.ts_model.specs.declared.states.Reading.{Reading}
use Rattle.ts_model.specs.declared.states.Stage.{Stage}
use Rattle.ts_model.specs.declared.states.Stage.TheVariants.{PutsLease, ListsLeases, Works, Releases}
use Rattle.ts_model.specs.declared.states.State.{State}
use Rattle.ts_model.specs.declared.states.State.TheVariants.{Seeks, Collects, Over}
use Rattle.ts_model.specs.declared.states.Seeking.TheVariants.{ListsCommits, ListsSchemas, GetsSchema, GetsFrame}
use Rattle.ts_model.specs.declared.states.Collecting.TheVariants.{GetsVacs, GetsHeads, GetsSchemas, GetsDeletes, Fetches}
use Rattle.ts_model.specs.Codecs.{Codec, Stepped, Asks, Takes, Breaks}
use Rattle.ts_model.specs.Driven.{AskedFrom, MayAsk}
use Rattle.ts_model.specs.Gets.{gets_of}
use Rattle.ts_model.specs.Jobs.{looked_at}
use Rattle.ts_model.specs.Queries.{ready_in}
use Rattle.ts_model.specs.Stages.{after_lease, after_leases, begins_at, first_stage, goes_on, is_release, lease_of, on_verdict, put_lease, settled, stage_asks, stage_from, stage_goes, stage_of}
use Rattle.ts_model.specs.States.{Exchange, after_delete, after_fetched, after_head, after_schema, after_vac, asks, asks_for, begun, deletion_named, fetch_begins, fetch_leads, fetches_one, fetching, gathering, get_delete, get_frame, get_head, get_schema, get_vac, getting_deletes, getting_vacs, goes, heads_of, keys_named, known_schema, list_commits, list_leases, list_schemas, loaded_of, loads, looked_into, on_bytes, on_names, on_read, opened_among, opening, reading_of, schemas_in, seeks, vac_of, want_of, with_clipped, with_deletion, with_item, with_vac, works}
use Rattle.ts_model.proofs.Lacks.{other_goes, release_ends}
use Rattle.ts_law.specs.Bounds.{gets_among}
use Rattle.ts_law.proofs.LeaseSteps.{release_is}
use Rattle.ts_law.proofs.FetchSteps.{drop_first}
use Rattle.ts_law.proofs.ReadSteps.{asked_of}

-- where two lists are picked from in the same way, what is picked of the one is no more than what is picked of the other
pub picked_less : {X Y : Type 0} (f : X → ℕ) (g : Y → ℕ) (x : X) (xs : List X) (y : Y) (ys : List Y) → f x ≤ g y → sum_by f xs ≤ sum_by g ys → (b : Bool) → sum_by f (cond b (x ∷ xs) xs) ≤ sum_by g (cond b (y ∷ ys) ys)
picked_less f g x xs y ys one rest true = let a = sum_by-cons f x xs in let b = sum_by-cons g y ys in omega (arith, a, b, one, rest)
picked_less f g x xs y ys one rest false = rest

-- how many gets a fetch that begins so may make
abbrev pub gets_begun : {F : Type 0} → (F → ℕ) → Result F ℕ → ℕ
gets_begun gets (Ok f) = gets f
gets_begun gets (Err at) = 0

-- how many gets the fetch of an open fragment may make
abbrev pub fetch_gets : {F : Type 0} → Codec F → (F → ℕ) → Reading → List Schema → Opened → ℕ
fetch_gets codec gets r schemas o = option_map_or (λ s. gets_begun gets (codec.opens r.frame s o.frag o.object (want_of r s.attrs))) (known_schema r schemas o.head.schema) 0

-- how many gets a read makes before its first fetch
abbrev pub first_gets : Reading → List Opened → ℕ
first_gets r opened = 2 + length r.counting + length r.fragments + length (keys_named r opened) + length r.delete_names

module _ {F : Type 0} (codec : Codec F) (gets : F → ℕ) (pays : (f g : F) (r : Reply) (c : Call) → codec.steps f r ≡ Asks g c → gets g + gets_of c ≤ gets f) where
  -- the gets of these fetches
  abbrev gets_in : Reading → List Schema → List Opened → ℕ
  gets_in r schemas os = sum_by (fetch_gets codec gets r schemas) os

  -- ---- what it made in each state

  -- it got some of the `.vac` objects that count
  pub record CountsVacs (count : ℕ) (r : Reading) : Type 0 where
    pub vacs : length r.vacs ≤ length r.counting
    pub erased : length r.deletions ≤ length r.delete_names
    pub few : count ≤ 2 + length r.vacs

  -- it got all of these, and opened some of its fragments
  pub record CountsHeads (count : ℕ) (r : Reading) (opened : List Opened) : Type 0 where
    pub heads : length opened ≤ length r.fragments
    pub erased : length r.deletions ≤ length r.delete_names
    pub few : count ≤ 2 + length r.counting + length opened

  -- it opened all of these, and got some of the further schemas
  pub record CountsSchemas (count : ℕ) (r : Reading) (opened : List Opened) (schemas : List Schema) : Type 0 where
    pub some : length schemas ≤ length (keys_named r opened)
    pub erased : length r.deletions ≤ length r.delete_names
    pub few : count ≤ 2 + length r.counting + length r.fragments + length schemas

  -- it got all of these, and some of the deletes
  pub record CountsDeletes (count : ℕ) (r : Reading) (opened : List Opened) : Type 0 where
    pub erased : length r.deletions ≤ length r.delete_names
    pub few : count ≤ 2 + length r.counting + length r.fragments + length (keys_named r opened) + length r.deletions

  -- its fetch waits for the reply to a call: with that call, with those that the fetch may still make and those of the fetches to come, the gets are no more than those before the first fetch and those of all fetches
  abbrev pub CountsFetch : ℕ → Reading → List Opened → List Schema → ℕ → F → Call → Type 0
  CountsFetch count r opened schemas next f c = count + gets_of c + gets f + gets_in r schemas (drop (suc next) opened) ≤ first_gets r opened + gets_in r schemas opened

  -- a read that made so many gets may be in the state
  abbrev pub Counts : ℕ → State F → Type 0
  Counts count (Seeks ListsCommits) = count ≡ 0
  Counts count (Seeks (ListsSchemas listed)) = count ≡ 0
  Counts count (Seeks (GetsSchema listed there)) = count ≡ 0
  Counts count (Seeks (GetsFrame listed there)) = count ≤ 1
  Counts count (Collects (GetsVacs r)) = CountsVacs count r
  Counts count (Collects (GetsHeads r opened)) = CountsHeads count r opened
  Counts count (Collects (GetsSchemas r opened named schemas)) = (named ≡ keys_named r opened) × CountsSchemas count r opened schemas
  Counts count (Collects (GetsDeletes r opened schemas)) = CountsDeletes count r opened
  Counts count (Collects (Fetches r opened schemas next frag got f c)) = CountsFetch count r opened schemas next f c
  Counts count (Over end) = ⊤
  Counts count _ = ⊥

  -- ---- where it goes on

  module _ (count : ℕ) (r : Reading) (opened : List Opened) (schemas : List Schema) where
    -- a step of a fetch
    step_counts : (next : ℕ) (frag : FragKey) (got : List Version) (on : List Version → State F) (f : F) (said : Reply) → count + gets f + gets_in r schemas (drop (suc next) opened) ≤ first_gets r opened + gets_in r schemas opened
        → ((vs : List Version) → Counts count (on vs)) → (s : Stepped F) → codec.steps f said ≡ s → Counts count (fetch_leads r opened schemas next frag got on s)
    step_counts next frag got on f said few rest (Asks g c) is = let takes = pays f g said c is in omega (arith, few, takes)
    step_counts next frag got on f said few rest (Takes vs) is = rest vs
    step_counts next frag got on f said few rest (Breaks part at) is = tt

    -- the fetch of one fragment
    one_counts : (next : ℕ) (o : Opened) (rest : List Opened) (got : List Version) (on : List Version → State F) → drop (suc next) opened ≡ rest → count + gets_in r schemas (o ∷ rest) ≤ first_gets r opened + gets_in r schemas opened
        → ((vs : List Version) → Counts count (on vs)) → (q : Option Schema) → known_schema r schemas o.head.schema ≡ q → Counts count (fetches_one codec r opened schemas next o got on q)
    one_counts next o rest got on left few later None none = tt
    one_counts next o rest got on left few later (Some s) known = by_open (codec.opens r.frame s o.frag o.object (want_of r s.attrs)) refl
      where
        by_open : (b : Result F ℕ) → codec.opens r.frame s o.frag o.object (want_of r s.attrs) ≡ b → Counts count (fetch_begins codec r opened schemas next o.frag got on b)
        by_open (Err at) is = tt
        by_open (Ok f) is =
            let own : fetch_gets codec gets r schemas o ≡ gets f = ap (λ q. option_map_or (λ s. gets_begun gets (codec.opens r.frame s o.frag o.object (want_of r s.attrs))) q 0) known ∙ ap (gets_begun gets) is in
            let both = sum_by-cons (fetch_gets codec gets r schemas) o rest in
            let others : gets_in r schemas (drop (suc next) opened) ≡ gets_in r schemas rest = ap (gets_in r schemas) left in
            step_counts next o.frag got on f reply.Start (omega (arith, few, own, both, others)) later (codec.steps f reply.Start) refl

    -- the fetches from a place on
    fetching_counts : (rest : List Opened) (next : ℕ) (got : List Version) → drop next opened ≡ rest → count + gets_in r schemas rest ≤ first_gets r opened + gets_in r schemas opened → Counts count (fetching codec r opened schemas next rest got)
    fetching_counts [] next got left few = tt
    fetching_counts (o ∷ rest) next got left few =
        let parts = drop_first opened next o rest left in
        let both = sum_by-cons (fetch_gets codec gets r schemas) o rest in
        one_counts next o rest got _ parts.1 few (λ vs. fetching_counts rest (suc next) (got ++ vs) parts.1 (omega (arith, few, both))) (known_schema r schemas o.head.schema) refl

  -- the next delete, or the first fetch
  getting_deletes_counts : (count : ℕ) (r : Reading) (opened : List Opened) (schemas : List Schema) → CountsDeletes count r opened → Counts count (getting_deletes codec r opened schemas)
  getting_deletes_counts count r opened schemas has =
      elim (nat_lt (length r.deletions) (length r.delete_names)) as (λ b. nat_lt (length r.deletions) (length r.delete_names) ≡ b → Counts count (cond b (Collects (GetsDeletes r opened schemas)) (fetching codec r opened schemas 0 opened []))) [
        | true ↦ λ _. has
        | false ↦ λ end. let few = has.few in let erased = has.erased in fetching_counts count r opened schemas opened 0 [] refl (omega (arith, few, erased))
      ] refl

  -- the next further schema, or the first delete
  gathering_counts : (count : ℕ) (r : Reading) (opened : List Opened) (schemas : List Schema) → CountsSchemas count r opened schemas → Counts count (gathering codec r opened (keys_named r opened) schemas)
  gathering_counts count r opened schemas has =
      elim (nat_lt (length schemas) (length (keys_named r opened))) as (λ b. nat_lt (length schemas) (length (keys_named r opened)) ≡ b
      → Counts count (cond b (Collects (GetsSchemas r opened (keys_named r opened) schemas)) (getting_deletes codec r opened schemas))) [
        | true ↦ λ _. (refl, has)
        | false ↦ λ end. getting_deletes_counts count r opened schemas (record { erased = has.erased; few = let few = has.few in let some = has.some in omega (arith, few, some) })
      ] refl

  -- the next head, or the first further schema of the fragments that are loaded
  opening_counts : (count : ℕ) (r : Reading) (opened : List Opened) → CountsHeads count r opened → Counts count (opening codec r opened)
  opening_counts count r opened has =
      elim (nat_lt (length opened) (length r.fragments)) as (λ b. nat_lt (length opened) (length r.fragments) ≡ b → Counts count (cond b (Collects (GetsHeads r opened))
      (loads codec (with_clipped r (clipped_names r.from r.to (heads_of opened))) (opened_among (loaded_of r opened) opened)))) [
        | true ↦ λ _. has
        | false ↦ λ end.
            gathering_counts count (with_clipped r (clipped_names r.from r.to (heads_of opened))) (opened_among (loaded_of r opened) opened) []
            (record { some = omega arith; erased = has.erased; few = let few = has.few in let heads = has.heads in omega (arith, few, heads) })
      ] refl

  -- the next `.vac`, or the first head
  getting_vacs_counts : (count : ℕ) (r : Reading) → CountsVacs count r → Counts count (getting_vacs codec r)
  getting_vacs_counts count r has =
      elim (nat_lt (length r.vacs) (length r.counting)) as (λ b. nat_lt (length r.vacs) (length r.counting) ≡ b → Counts count (cond b (Collects (GetsVacs r)) (opening codec r []))) [
        | true ↦ λ _. has
        | false ↦ λ end. opening_counts count r [] (record { heads = omega arith; erased = has.erased; few = let few = has.few in let vacs = has.vacs in omega (arith, few, vacs) })
      ] refl

  -- ---- replies

  -- where a listing leads
  names_count : (count : ℕ) (c : Call) (on : List Name → State F) (r : Reply) → ((names : List Name) → Counts count (on names)) → Counts count (on_names c on r)
  names_count count c on (reply.Names names) told = told names
  names_count count c on _ told = tt

  -- where a get leads
  bytes_count : (count : ℕ) (c : Call) (on : List ℕ → State F) (r : Reply) → ((bytes : List ℕ) → Counts count (on bytes)) → Counts count (on_bytes c on r)
  bytes_count count c on (reply.Bytes bytes) told = told bytes
  bytes_count count c on _ told = tt

  -- where what an object spells leads
  read_count : {A : Type 0} (count : ℕ) (n : Name) (on : A → State F) (o : Result A ℕ) → ((x : A) → Counts count (on x)) → Counts count (on_read n on o)
  read_count count n on (Ok x) told = told x
  read_count count n on (Err at) told = tt

  -- where the schemas of a listing lead
  seeks_count : (count : ℕ) (listed : Listed) (at : ℕ) → count ≡ 0 → (o : Option Key) → Counts count (seeks listed at o)
  seeks_count count listed at none None = tt
  seeks_count count listed at none (Some k) = none

  -- ---- its calls

  module _ (from to : ℕ) (query : Query) (job : Job) (is : job.command ≡ Read from to query) where
    -- where the reply to a call leads
    abbrev GoesSo : ℕ → State F → Call → Reply → Type 0
    GoesSo count s c r = Counts (count + gets_of c) (goes codec job s r)

    -- the same of the call that the state asks
    called : (count : ℕ) (s : State F) (d c : Call) (r : Reply) → d ≡ c → GoesSo count s d r → GoesSo count s c r
    called count s d c r same led = subst (λ x. GoesSo count s x r) same led

    -- a read whose query is not refused gets its first `.vac`
    asks_count : (count : ℕ) (listed : Listed) (frame : Frame) (there : Schema) → count ≤ 2 → (o : Result Ready Refusal) → Counts count (asks_for codec from to listed frame there o)
    asks_count count listed frame there few (Err refused) = tt
    asks_count count listed frame there few (Ok found) = getting_vacs_counts count (reading_of from to listed frame there found) (record { vacs = omega arith; erased = omega arith; few = omega (arith, few) })

    schema_count : (count : ℕ) (listed : Listed) (k : Key) (r : Reply) → count ≡ 0 → GoesSo count (Seeks (GetsSchema listed k)) (get_schema k) r
    schema_count count listed k r none =
        bytes_count (count + 1) (get_schema k) (λ bytes. on_read (name.Schema k) (λ attrs. Seeks (GetsFrame listed (record { key = k; attrs = attrs }))) (schema_of bytes)) r
        (λ bytes. read_count (count + 1) (name.Schema k) (λ attrs. Seeks (GetsFrame listed (record { key = k; attrs = attrs }))) (schema_of bytes) (λ attrs. omega (arith, none)))

    frame_count : (count : ℕ) (listed : Listed) (there : Schema) (r : Reply) → count ≤ 1 → GoesSo count (Seeks (GetsFrame listed there)) get_frame r
    frame_count count listed there r few =
        bytes_count (count + 1) get_frame (λ bytes. on_read name.Domain (λ frame. works codec job job.command listed frame there) (frame_of bytes)) r
        (λ bytes. read_count (count + 1) name.Domain (λ frame. works codec job job.command listed frame there) (frame_of bytes)
        (λ frame. subst (λ c. Counts (count + 1) (works codec job c listed frame there)) (sym is) (asks_count (count + 1) listed frame there (omega (arith, few)) (ready_in frame there.attrs query))))

    vac_count : (count : ℕ) (r : Reading) (f : FragKey) → slice_get r.counting (length r.vacs) ≡ Some f → CountsVacs count r → (said : Reply) → GoesSo count (Collects (GetsVacs r)) (get_vac f) said
    vac_count count r f at has said =
        let few = has.few in
        let within = slice_get_within r.counting (length r.vacs) f at in
        subst (λ o. Counts (count + 1) (with_item (λ g. on_bytes (get_vac g) (after_vac codec r g) said) o)) (sym at)
        (bytes_count (count + 1) (get_vac f) (after_vac codec r f) said (λ bytes.
        read_count (count + 1) (vac_of f) (λ names. getting_vacs codec (with_vac r f names)) (names_of bytes) (λ names.
        let longer = length_push r.vacs (record { frag = f; names = names }) in
        getting_vacs_counts (count + 1) (with_vac r f names) (record { vacs = omega (arith, within, longer); erased = has.erased; few = omega (arith, few, longer) }))))

    head_count : (count : ℕ) (r : Reading) (opened : List Opened) (f : FragKey) → slice_get r.fragments (length opened) ≡ Some f → CountsHeads count r opened → (said : Reply) → GoesSo count (Collects (GetsHeads r opened)) (get_head codec r f) said
    head_count count r opened f at has said =
        let few = has.few in
        let within = slice_get_within r.fragments (length opened) f at in
        subst (λ o. Counts (count + 1) (with_item (λ g. on_bytes (get_head codec r g) (after_head codec r opened g) said) o)) (sym at)
        (bytes_count (count + 1) (get_head codec r f) (after_head codec r opened f) said (λ bytes.
        read_count (count + 1) (name.Part f (codec.head_part r.frame)) (λ head. opening codec r (opened ++ record { frag = f; head = head; object = bytes } ∷ [])) (codec.head r.frame f bytes) (λ head.
        let o : Opened = record { frag = f; head = head; object = bytes } in
        let longer = length_push opened o in
        opening_counts (count + 1) r (opened ++ o ∷ []) (record { heads = omega (arith, within, longer); erased = has.erased; few = omega (arith, few, longer) }))))

    further_count : (count : ℕ) (r : Reading) (opened : List Opened) (named : List Key) (schemas : List Schema) (k : Key) → slice_get named (length schemas) ≡ Some k → named ≡ keys_named r opened → CountsSchemas count r opened schemas
        → (said : Reply) → GoesSo count (Collects (GetsSchemas r opened named schemas)) (get_schema k) said
    further_count count r opened named schemas k at same has said =
        let few = has.few in
        let there : slice_get (keys_named r opened) (length schemas) ≡ Some k = ap (λ l. slice_get l (length schemas)) (sym same) ∙ at in
        let within = slice_get_within (keys_named r opened) (length schemas) k there in
        subst (λ o. Counts (count + 1) (with_item (λ g. on_bytes (get_schema g) (after_schema codec r opened named schemas g) said) o)) (sym at)
        (bytes_count (count + 1) (get_schema k) (after_schema codec r opened named schemas k) said (λ bytes.
        read_count (count + 1) (name.Schema k) (λ attrs. gathering codec r opened named (schemas ++ record { key = k; attrs = attrs } ∷ [])) (schema_of bytes) (λ attrs.
        let s : Schema = record { key = k; attrs = attrs } in
        let longer = length_push schemas s in
        subst (λ l. Counts (count + 1) (gathering codec r opened l (schemas ++ s ∷ []))) (sym same)
        (gathering_counts (count + 1) r opened (schemas ++ s ∷ []) (record { some = omega (arith, within, longer); erased = has.erased; few = omega (arith, few, longer) })))))

    delete_count : (count : ℕ) (r : Reading) (opened : List Opened) (schemas : List Schema) (f : FragKey) → slice_get r.delete_names (length r.deletions) ≡ Some f → CountsDeletes count r opened → (said : Reply)
        → GoesSo count (Collects (GetsDeletes r opened schemas)) (get_delete f) said
    delete_count count r opened schemas f at has said =
        let few = has.few in
        let within = slice_get_within r.delete_names (length r.deletions) f at in
        subst (λ o. Counts (count + 1) (with_item (λ g. on_bytes (get_delete g) (after_delete codec r opened schemas g) said) o)) (sym at)
        (bytes_count (count + 1) (get_delete f) (after_delete codec r opened schemas f) said (λ bytes.
        read_count (count + 1) (name.Commit f Del) (λ condition. getting_deletes codec (with_deletion r (deletion_named f condition)) opened schemas) (cond_of bytes) (λ condition.
        let e : Deletion = deletion_named f condition in
        let longer = length_push r.deletions e in
        getting_deletes_counts (count + 1) (with_deletion r e) opened schemas (record { erased = omega (arith, within, longer); few = omega (arith, few, longer) }))))

    fetch_count : (count : ℕ) (r : Reading) (opened : List Opened) (schemas : List Schema) (next : ℕ) (frag : FragKey) (got : List Version) (f : F) (c : Call) → CountsFetch count r opened schemas next f c → (said : Reply)
        → GoesSo count (Collects (Fetches r opened schemas next frag got f c)) c said
    fetch_count count r opened schemas next frag got f c few said = by_reply said
      where
        told : (r' : Reply) → Counts (count + gets_of c) (fetch_leads r opened schemas next frag got (λ vs. fetching codec r opened schemas (suc next) (drop (suc next) opened) (got ++ vs)) (codec.steps f r'))
        told r' =
            step_counts (count + gets_of c) r opened schemas next frag got (λ vs. fetching codec r opened schemas (suc next) (drop (suc next) opened) (got ++ vs)) f r' few
            (λ vs. fetching_counts (count + gets_of c) r opened schemas (drop (suc next) opened) (suc next) (got ++ vs) refl (omega (arith, few))) (codec.steps f r') refl

        by_reply : (r' : Reply) → Counts (count + gets_of c) (after_fetched codec r opened schemas next frag got f c r')
        by_reply (reply.Bytes bytes) = told (reply.Bytes bytes)
        by_reply (reply.Length n) = told (reply.Length n)
        by_reply _ = tt

    -- every call
    call_counts : (count : ℕ) (s : State F) → Counts count s → (c : Call) → asks codec job s ≡ Some c → (r : Reply) → GoesSo count s c r
    call_counts count (Seeks ListsCommits) none c asked r =
        called count (Seeks ListsCommits) list_commits c r (same_Some list_commits c asked)
        (names_count (count + 0) list_commits (λ names. Seeks (ListsSchemas (looked_into job.command names))) r (λ names. omega (arith, none)))
    call_counts count (Seeks (ListsSchemas listed)) none c asked r =
        called count (Seeks (ListsSchemas listed)) list_schemas c r (same_Some list_schemas c asked)
        (names_count (count + 0) list_schemas (λ names. seeks listed (looked_at job) (schema_at (schemas_in names) (looked_at job))) r
        (λ names. seeks_count (count + 0) listed (looked_at job) (omega (arith, none)) (schema_at (schemas_in names) (looked_at job))))
    call_counts count (Seeks (GetsSchema listed k)) none c asked r = called count (Seeks (GetsSchema listed k)) (get_schema k) c r (same_Some (get_schema k) c asked) (schema_count count listed k r none)
    call_counts count (Seeks (GetsFrame listed there)) few c asked r = called count (Seeks (GetsFrame listed there)) get_frame c r (same_Some get_frame c asked) (frame_count count listed there r few)
    call_counts count (Collects (GetsVacs q)) has c asked r =
        let (f, at, is_c) = asked_of get_vac (slice_get q.counting (length q.vacs)) c asked in
        called count (Collects (GetsVacs q)) (get_vac f) c r (sym is_c) (vac_count count q f at has r)
    call_counts count (Collects (GetsHeads q opened)) has c asked r =
        let (f, at, is_c) = asked_of (get_head codec q) (slice_get q.fragments (length opened)) c asked in
        called count (Collects (GetsHeads q opened)) (get_head codec q f) c r (sym is_c) (head_count count q opened f at has r)
    call_counts count (Collects (GetsSchemas q opened named schemas)) has c asked r =
        let (k, at, is_c) = asked_of get_schema (slice_get named (length schemas)) c asked in
        called count (Collects (GetsSchemas q opened named schemas)) (get_schema k) c r (sym is_c) (further_count count q opened named schemas k at has.0 has.1 r)
    call_counts count (Collects (GetsDeletes q opened schemas)) has c asked r =
        let (f, at, is_c) = asked_of get_delete (slice_get q.delete_names (length q.deletions)) c asked in
        called count (Collects (GetsDeletes q opened schemas)) (get_delete f) c r (sym is_c) (delete_count count q opened schemas f at has r)
    call_counts count (Collects (Fetches q opened schemas next frag got f d)) few c asked r =
        called count (Collects (Fetches q opened schemas next frag got f d)) d c r (same_Some d c asked) (fetch_count count q opened schemas next frag got f d few r)
    call_counts count (Over end) has c asked r = absurd (none-some c asked)
    call_counts count _ has c asked r = absurd has

    -- ---- with its lease

    -- a read that made so many gets may be in the stage: it gets nothing before its work
    abbrev pub StageCounts : ℕ → Stage F → Type 0
    StageCounts count (PutsLease lease) = count ≡ 0
    StageCounts count (ListsLeases lease) = count ≡ 0
    StageCounts count (Works s) = Counts count s
    StageCounts count (Releases lease end) = ⊤

    -- where the work ends the lease goes
    settled_counts : (count : ℕ) (o : Option Name) (s : State F) → Counts count s → StageCounts count (settled o s)
    settled_counts count (Some lease) (Over end) has = tt
    settled_counts count (Some lease) s has = has
    settled_counts count None s has = has

    begun_counts : (count : ℕ) → count ≡ 0 → Counts count (begun job.command)
    begun_counts count none = subst (λ c. Counts count (begun c)) (sym is) none

    lease_counts : (count : ℕ) (lease : Name) (r : Reply) → count ≡ 0 → StageCounts count (after_lease lease r)
    lease_counts count lease reply.Made none = none
    lease_counts count lease reply.Taken none = tt
    lease_counts count lease _ none = tt

    verdict_counts : (count : ℕ) (lease : Name) (v : Verdict) → count ≡ 0 → StageCounts count (on_verdict lease (begun job.command) v)
    verdict_counts count lease Granted none = settled_counts count (Some lease) (begun job.command) (begun_counts count none)
    verdict_counts count lease (IsHeld other) none = tt

    leases_counts : (count : ℕ) (lease : Name) (r : Reply) → count ≡ 0 → StageCounts count (after_leases lease (begun job.command) r)
    leases_counts count lease (reply.Names names) none = verdict_counts count lease (verdict_in names lease) none
    leases_counts count lease _ none = tt

    -- where a call that its stage asks leads, which is not the removal of its lease
    stage_counts : (count : ℕ) (stage : Stage F) → StageCounts count stage → (c : Call) → stage_asks codec job stage ≡ Some c → (r : Reply) → StageCounts (count + gets_of c) (stage_goes codec job stage r)
    stage_counts count (PutsLease lease) none c asked r = subst (λ x. StageCounts (count + gets_of x) (after_lease lease r)) (same_Some (put_lease lease) c asked) (lease_counts (count + 0) lease r (omega (arith, none)))
    stage_counts count (ListsLeases lease) none c asked r =
        subst (λ x. StageCounts (count + gets_of x) (after_leases lease (begun job.command) r)) (same_Some list_leases c asked) (leases_counts (count + 0) lease r (omega (arith, none)))
    stage_counts count (Works s) has c asked r = settled_counts (count + gets_of c) (lease_of job) (goes codec job s r) (call_counts count s has c asked r)
    stage_counts count (Releases lease end) has c asked r = tt

    -- where a call of it leads
    exchange_counts : (count : ℕ) (stage : Stage F) (x : Exchange) → StageCounts count stage → MayAsk codec job stage x.call → StageCounts (count + gets_of x.call) (goes_on codec job stage x)
    exchange_counts count stage x has may = by_kind (is_release job x.call) refl
      where
        by_kind : (b : Bool) → is_release job x.call ≡ b → StageCounts (count + gets_of x.call) (goes_on codec job stage x)
        by_kind true ends = let (lease, some, removes) = release_is job x.call ends in subst (StageCounts (count + gets_of x.call)) (sym (release_ends codec job stage x lease some ends)) tt
        by_kind false other = elim may [
          | inl asked ↦ subst (StageCounts (count + gets_of x.call)) (sym (other_goes codec job stage x other)) (stage_counts count stage has x.call asked x.reply)
          | inr gives_up ↦ absurd (true≢false (sym gives_up.0 ∙ other))
        ]

    -- where all calls from a stage on lead
    counts_from : (count : ℕ) (stage : Stage F) (xs : List Exchange) → StageCounts count stage → AskedFrom codec job stage xs → StageCounts (count + gets_among (list_map (λ x. x.call) xs)) (stage_from codec job stage xs)
    counts_from count stage [] has asked = subst (λ n. StageCounts n stage) (let same : count ≡ count + 0 = omega arith in same) has
    counts_from count stage (x ∷ xs) has asked =
        let both = sum_by-cons gets_of x.call (list_map (λ y. y.call) xs) in
        subst (λ n. StageCounts n (stage_from codec job (goes_on codec job stage x) xs))
        (let same : (count + gets_of x.call) + gets_among (list_map (λ y. y.call) xs) ≡ count + gets_among (list_map (λ y. y.call) (x ∷ xs)) = omega (arith, both) in same)
        (counts_from (count + gets_of x.call) (goes_on codec job stage x) xs (exchange_counts count stage x has asked.0) asked.1)

    first_counts : (o : Option Name) → StageCounts 0 (begins_at o (begun job.command))
    first_counts None = begun_counts 0 refl
    first_counts (Some lease) = refl

    -- a read whose calls are these made so many gets
    pub trace_counts : (trace : List Exchange) → AskedFrom codec job (first_stage job) trace → StageCounts (gets_among (list_map (λ x. x.call) trace)) (stage_of codec job trace)
    trace_counts trace asked = subst (λ n. StageCounts n (stage_of codec job trace)) (let same : 0 + gets_among (list_map (λ x. x.call) trace) ≡ gets_among (list_map (λ x. x.call) trace) = omega arith in same)
        (counts_from 0 (first_stage job) trace (first_counts (lease_of job)) asked)
