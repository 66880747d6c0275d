-- The gets of a job that lists the schemas: the schema there, the frame, and what a read gets before it fetches.
use Rattle.std.proofs.Common.{◌≡◌, ℕ, ◌-◌, ◌^◌, ◌≤◌, true, false, cond, inl, inr, List, [], ◌∷◌, ◌++◌, Option, Some, None, Ok, Result, length, take, refl, sym, ◌∙◌, ap, subst, arith}
use Rattle.std.specs.Prelude.{Contains, Err, option_map, filter, not, nat_lt, slice_get, map as list_map}
use Rattle.std.specs.FinMap as map
use Rattle.std.specs.Option.{is_some}
use Rattle.std.proofs.lemmas.Bool.{true≢false, cond_both, ltb-false}
use Rattle.std.proofs.lemmas.Option.{same_Some, none-some}
use Rattle.std.proofs.lemmas.List.{take_all, length-map, map-append, length_push}
use Rattle.std.proofs.lemmas.List.Elements.{Contains-push_cases}
use Rattle.std.proofs.lemmas.Cmp.{eq_by_cmp_equiv}
use Rattle.std.proofs.lemmas.Map.Views.{list_any-from_Contains}
use Rattle.ts_base.specs.declared.keys.Key.{Key}
use Rattle.ts_base.specs.declared.keys.FragKey.{FragKey}
use Rattle.ts_base.specs.declared.names.Name.{Name}
use Rattle.ts_base.specs.declared.names.Name.TheVariants as name
use Rattle.ts_base.specs.declared.names.Place.TheVariants as place
use Rattle.ts_base.specs.declared.names.Prefix.{Prefix}
use Rattle.ts_base.specs.declared.heads.Head.{Head}
use Rattle.ts_base.specs.declared.heads.Piece.{Piece}
use Rattle.ts_base.specs.Keys.{frag_eq, frag_of, key_eq, key_cmp}
use Rattle.ts_commit.specs.declared.vacs.VacOf.{VacOf}
use Rattle.ts_commit.specs.Vacs.{names_of}
use Rattle.ts_base.specs.Held.{Held}
use Rattle.ts_base.specs.Exact.{key_total}
use Rattle.ts_store.specs.declared.call.Call.{Call}
use Rattle.ts_store.specs.declared.call.Reply.{Reply}
use Rattle.ts_store.specs.declared.call.Reply.TheVariants as reply
use Rattle.ts_cond.specs.declared.query.Query.{Query}
use Rattle.ts_schema.specs.declared.frames.Frame.{Frame}
use Rattle.ts_schema.specs.declared.schemas.Schema.{Schema}
use Rattle.ts_schema.specs.declared.attrs.Attr.{Attr}
use Rattle.ts_schema.specs.FrameTexts.{frame_object, frame_of}
use Rattle.ts_schema.specs.SchemaTexts.{schema_object, schema_of}
use Rattle.ts_schema.specs.Parts.{IsShort}
use Rattle.ts_model.specs.declared.answers.Refusal.TheVariants as refusal
use Rattle.ts_model.specs.declared.commands.Command.{Command}
use Rattle.ts_model.specs.declared.commands.Command.TheVariants.{Create, Consolidate, Delete, Evolve, Fragments, Unlock, Vacuum, Write, Read}
use Rattle.ts_model.specs.declared.commands.Job.{Job}
use Rattle.ts_model.specs.declared.answers.Refusal.{Refusal}
use Rattle.ts_model.specs.declared.queries.Ready.{Ready}
use Rattle.ts_model.specs.declared.states.Listed.{Listed}
use Rattle.ts_model.specs.declared.states.State.{State}
use Rattle.ts_model.specs.declared.states.State.TheVariants.{Seeks, Collects}
use Rattle.ts_model.specs.declared.states.Seeking.TheVariants.{GetsSchema, GetsFrame}
use Rattle.ts_model.specs.declared.states.Collecting.TheVariants.{GetsVacs, GetsHeads, GetsSchemas, GetsDeletes}
use Rattle.ts_model.specs.declared.states.Opened.{Opened}
use Rattle.ts_model.specs.declared.states.Reading.{Reading}
use Rattle.ts_model.specs.Deeds.{History, IsHistory, frame_in, schema_with}
use Rattle.ts_model.specs.Codecs.{Codec, CodecLaws, Spelled, Tracking}
use Rattle.ts_model.specs.Jobs.{looked_at, IsFit, AreApart}
use Rattle.ts_commit.specs.Selections.{clipped_names, has_origin, is_among, is_usable, loaded, usable}
use Rattle.ts_law.specs.Stands.{HoldsIn, IsCommitted, Names, Stands}
use Rattle.ts_model.specs.States.{list_schemas, get_all, get_frame, get_head, get_schema, on_bytes, on_read, keys_named, fetching, getting_deletes, gathering, opening as opening_on, reading_of, asks_for, after_vac, get_vac, getting_vacs, heads_of, loaded_of, loads, opened_among, vac_of, with_clipped, with_vac, works, meets, after_head, after_schema, with_item}
use Rattle.ts_model.specs.Told.{Told, after_told, IsReplied, held_told, history_told}
use Rattle.ts_law.specs.Ends.{AreHeads, IsTrueRefusal, IsUndone, ListedAt}
use Rattle.ts_law.specs.Kept.{AreDeletions, Clean, Works, HasListed, AreChosen, GettingVacs, ReadsAt, ReadsIn, Since, IsOpen, Opening, Gathering, GettingDeletes, Claims}
use Rattle.ts_model.specs.Queries.{ready_in}
use Rattle.ts_law.specs.Steps.{Advances, Comes}
use Rattle.ts_model.proofs.ListLemmas.{Contains-filter, Contains-nil, Contains-here, Contains-there, filter-Contains, Contains-slice_get, take_next}
use Rattle.ts_model.proofs.KeyLemmas.{key_same}
use Rattle.ts_model.proofs.HistoryLaws.{IsHistory-front, frame_facts, framed_by_schema, frame_in-append, schema_with-is, schema_with-append, current_is_with, schema_facts}
use Rattle.ts_model.proofs.Traces.{history_told_grows}
use Rattle.ts_law.proofs.Declaring.{frame_again, attrs_again}
use Rattle.ts_law.proofs.Effects.{got}
use Rattle.ts_law.proofs.PutSteps.{works_delete, works_evolve, works_write}
use Rattle.ts_law.proofs.QueryRefusals.{FailsByQuery, query_true, ready_fails}
use Rattle.ts_law.proofs.Fetches.{Contains-map, map-Contains, one_head, used_none}
use Rattle.ts_law.proofs.Loading.{OneHead, loaded_usable, loaded_with}
use Rattle.ts_law.proofs.OriginLaws.{any_member, member_any}
use Rattle.ts_model.proofs.KeyLemmas.{frag_itself, frag_same}
use Rattle.ts_law.proofs.FetchSteps.{fetching_claims}
use Rattle.ts_law.proofs.ListSteps.{committed_from_looked, counting_held, looked}
use Rattle.ts_law.proofs.HeldLemmas.{bytes_there}
use Rattle.ts_law.proofs.Stays.{getting_vacs_stays, has_listed_stays, opening_stays, gathering_stays}

-- ---- the keys that heads name

-- a schema that a look-up finds among heads is that of one of them
pub named_from_found : (k : Key) (os : List Opened) → is_some (map.find key_cmp k (list_map (λ o. (o.head.schema, o.head.schema)) os)) ≡ true
    → (o : Opened) × Contains os o × (o.head.schema ≡ k)
named_from_found k [] found = absurd (true≢false (sym found))
named_from_found k (o ∷ os) found = cond_both (key_eq k o.head.schema) (Some o.head.schema) (map.find key_cmp k (list_map (λ x. (x.head.schema, x.head.schema)) os))
    (λ x. is_some x ≡ true → (y : Opened) × Contains (o ∷ os) y × (y.head.schema ≡ k))
    (λ tie _. (o, Contains-here o os, sym (key_same k o.head.schema tie)))
    (λ _ later. let rest = named_from_found k os later in (rest.0, Contains-there o os rest.0 rest.1, rest.2)) found

-- a key that heads name is that of one of them, and not that of the schema there
pub named_apart : (r : Reading) (opened : List Opened) (k : Key) → Contains (keys_named r opened) k → (o : Opened) × Contains opened o × (o.head.schema ≡ k) × (not (key_eq o.head.schema r.current.key) ≡ true)
named_apart r opened k at =
    let others = filter (λ o. not (key_eq o.head.schema r.current.key)) opened in
    let pairs = list_map (λ o. (o.head.schema, o.head.schema)) others in
    let held : map.contains_key (map.from_entries {R = key_cmp} pairs) k ≡ true =
    map.contains_key-keys (map.from_entries {R = key_cmp} pairs) k ∙ list_any-from_Contains (eq_by_cmp_equiv key_total) k (keys_named r opened) at in
    let named = named_from_found k others (ap is_some (sym (map.get-from_entries key_total pairs k)) ∙ held) in
    let among = filter-Contains (λ o. not (key_eq o.head.schema r.current.key)) opened named.0 named.1 in
    (named.0, among.0, named.2, among.1)

-- a key that heads name is that of one of them
named_by : (r : Reading) (opened : List Opened) (k : Key) → Contains (keys_named r opened) k → (o : Opened) × Contains opened o × (o.head.schema ≡ k)
named_by r opened k at = let named = named_apart r opened k at in (named.0, named.1, named.2)

-- ---- what a read knows leads on

-- as many as all, where the first so many of all are they
pub as_many : {X Y : Type 0} (f : X → Y) (xs : List X) (ys : List Y) → list_map f xs ≡ take (length xs) ys → length ys ≤ length xs → length xs ≡ length ys
as_many f xs ys are enough = sym (length-map xs f) ∙ ap length (are ∙ take_all (length xs) ys enough)

-- one item more where the first so many of all are they
pub push_next : {X Y : Type 0} (f : X → Y) (xs : List X) (x : X) (ys : List Y) → list_map f xs ≡ take (length xs) ys → slice_get ys (length xs) ≡ Some (f x)
    → list_map f (xs ++ x ∷ []) ≡ take (length (xs ++ x ∷ [])) ys
push_next f xs x ys are next =
    map-append f xs (x ∷ []) ∙ ap (λ zs. zs ++ f x ∷ []) are ∙ sym (take_next ys (length xs) (f x) next) ∙ ap (λ n. take n ys) (sym (length_push xs x))

-- what a job asks for next is at its place
pub asked_of : {A : Type 0} (ask : A → Call) (o : Option A) (c : Call) → option_map ask o ≡ Some c → (x : A) × (o ≡ Some x) × (c ≡ ask x)
asked_of ask None c is = absurd (none-some c is)
asked_of ask (Some x) c is = (x, refl, sym (same_Some (ask x) c is))

module _ {F : Type 0} (codec : Codec F) (spelled : Spelled) (tracks : Tracking F) (opening : Held) (past : History) (jobs : List Job) (seen : List Told) (m : Held) (number : ℕ) (job : Job) where
  -- the history now
  abbrev now : History
  now = history_told jobs past seen

  -- what a state claims
  abbrev Claimed : State F → Type 0
  Claimed s = Claims codec spelled tracks opening past jobs seen m number job s

  -- the history at a listing is the front of the history now
  front_at : {p : Prefix} (at : ListedAt seen number p) → (more : History) × (now ≡ history_told jobs past at.before ++ more)
  front_at at = let grown = history_told_grows jobs past at.before (at.listing ∷ at.later) in (grown.0, ap (history_told jobs past) at.place ∙ grown.1)

  -- the deeds at a listing are a history
  pub history_at : {p : Prefix} (at : ListedAt seen number p) → IsHistory now → IsHistory (history_told jobs past at.before)
  history_at at is = let front = front_at at in IsHistory-front (history_told jobs past at.before) front.0 (subst IsHistory front.1 is)

  -- the frame at a listing is the frame now
  pub frame_at : {p : Prefix} (at : ListedAt seen number p) (frame : Frame) → frame_in (history_told jobs past at.before) ≡ Some frame → frame_in now ≡ Some frame
  frame_at at frame framed = let front = front_at at in ap frame_in front.1 ∙ frame_in-append (history_told jobs past at.before) front.0 frame framed

  -- a schema that was there at a listing is there now
  pub schema_at_listing : {p : Prefix} (at : ListedAt seen number p) (k : Key) (s : Schema) → schema_with (history_told jobs past at.before) k ≡ Some s → schema_with now k ≡ Some s
  schema_at_listing at k s with = let front = front_at at in ap (λ g. schema_with g k) front.1 ∙ schema_with-append (history_told jobs past at.before) front.0 k s with

  -- the history in which a job found its schema has a frame
  framed_current : (there : Schema) (work : Works past jobs seen number job there) → IsHistory now → (frame : Frame) × (frame_in (history_told jobs past (work.schemas).before) ≡ Some frame)
  framed_current there work is =
      let then = history_at work.schemas is in
      framed_by_schema (history_told jobs past (work.schemas).before) there.key there then (current_is_with (history_told jobs past (work.schemas).before) (looked_at job) there then work.holds)

  -- a read gets the next delete, or begins to fetch
  pub getting_deletes_claims : CodecLaws codec spelled tracks → Clean opening past jobs seen m job → IsHistory now → (r : Reading) (opened : List Opened) (schemas : List Schema)
      → GettingDeletes codec spelled opening past jobs seen m number job r opened schemas → Claimed (getting_deletes codec r opened schemas)
  getting_deletes_claims laws clean is r opened schemas deletions =
      elim (nat_lt (length r.deletions) (length r.delete_names)) as (λ b. nat_lt (length r.deletions) (length r.delete_names) ≡ b
      → Claimed (cond b (Collects (GetsDeletes r opened schemas)) (fetching codec r opened schemas 0 opened []))) [
        | true ↦ λ _. (clean, deletions)
        | false ↦ λ end. fetching_claims codec spelled tracks opening past jobs seen m number job r opened schemas 0 [] laws clean
            (record {
              deletes_found = deletions;
              all_deletes = as_many (λ x. frag_of x.key) r.deletions r.delete_names deletions.deletions.names_are (ltb-false (length r.deletions) (length r.delete_names) end);
              found = used_none (history_told jobs past ((((((deletions.gathers)).reads).at).listed).since.commits).before) r schemas;
            })
            (history_at ((((deletions.gathers).reads).at).listed).since.commits is) is
      ] refl

  -- a read gets the next further schema, or goes on to the deletes, of which it has none
  gathering_claims : CodecLaws codec spelled tracks → Clean opening past jobs seen m job → IsHistory now → (r : Reading) (opened : List Opened) (schemas : List Schema) → r.deletions ≡ []
      → Gathering codec spelled opening past jobs seen m number job r opened schemas → Claimed (gathering codec r opened (keys_named r opened) schemas)
  gathering_claims laws clean is r opened schemas none gathers =
      elim (nat_lt (length schemas) (length (keys_named r opened))) as (λ b. nat_lt (length schemas) (length (keys_named r opened)) ≡ b
      → Claimed (cond b (Collects (GetsSchemas r opened (keys_named r opened) schemas)) (getting_deletes codec r opened schemas))) [
        | true ↦ λ _. (clean, refl, gathers, none)
        | false ↦ λ end. getting_deletes_claims laws clean is r opened schemas (record {
          gathers = gathers;
          all_schemas = as_many (λ s. s.key) schemas (keys_named r opened) gathers.gathered.keys_are (ltb-false (length schemas) (length (keys_named r opened)) end);
          deletions = subst (AreDeletions now r.delete_names) (sym none) (record { names_are = refl; each = λ x at. absurd (Contains-nil x at) });
        })
      ] refl

  -- what was held at a listing, and the history there
  abbrev then_at : (r : Reading) → ReadsIn spelled opening past jobs seen m number job r → Held
  then_at r reads = held_told opening (((reads.at).listed).since.commits).before

  abbrev history_then : (r : Reading) → ReadsIn spelled opening past jobs seen m number job r → History
  history_then r reads = history_told jobs past (((reads.at).listed).since.commits).before

  -- the heads of the open fragments are those of the listing, once all are open
  heads_are : (r : Reading) (opened : List Opened) (opens : Opening codec spelled opening past jobs seen m number job r opened) → length opened ≡ length r.fragments
      → AreHeads spelled (history_then r opens.reads) (then_at r opens.reads) r.from r.to (heads_of opened)
  heads_are r opened opens all = record {
    frags = own_frags opened (λ o at. opens.are_open.each o at) ∙ opens.are_open.frags ∙ ap (λ n. take n r.fragments) all ∙ take_all (length r.fragments) r.fragments (omega arith) ∙ ((opens.reads.at).listed).fragments_are;
    each = λ head at.
        let o = map-Contains (λ x. x.head) opened head at in
        let is = opens.are_open.each o.0 o.1 in
        (is.piece, subst (λ f. HoldsIn spelled (history_then r opens.reads) (then_at r opens.reads) f is.piece) (sym (named o.0 is) ∙ ap (λ x. x.frag) o.2) is.holds, sym is.head ∙ o.2);
  }
    where
      named : (o : Opened) → IsOpen codec spelled (history_then r opens.reads) (then_at r opens.reads) r.frame o → o.head.frag ≡ o.frag
      named o is = ap (λ x. x.frag) is.head ∙ ((is.holds).spells).named

      own_frags : (os : List Opened) → ((o : Opened) → Contains os o → IsOpen codec spelled (history_then r opens.reads) (then_at r opens.reads) r.frame o)
          → list_map (λ head. head.frag) (heads_of os) ≡ list_map (λ o. o.frag) os
      own_frags [] all = refl
      own_frags (o ∷ os) all = λ i. named o (all o (Contains-here o os)) i ∷ own_frags os (λ x at. all x (Contains-there o os x at)) i

  -- a read that opened all fragments loads some of them
  chosen_are : CodecLaws codec spelled tracks → (r : Reading) (opened : List Opened) (opens : Opening codec spelled opening past jobs seen m number job r opened) → length opened ≡ length r.fragments
      → AreChosen codec spelled (history_then r opens.reads) (then_at r opens.reads) (with_clipped r (clipped_names r.from r.to (heads_of opened))) (opened_among (loaded_of r opened) opened)
  chosen_are laws r opened opens all = record {
    are_vacs = opens.are_vacs;
    all_vacs = opens.all_vacs;
    all = opened;
    are_open = opens.are_open;
    all_open = all;
    loads = refl;
    heads = heads;
    are_heads = are;
    clipped_is = refl;
    each = λ o at. opens.are_open.each o (among o at).0;
    usable = λ o at. (among o at).1;
    covered = λ k within left.
        let up = loaded_with spelled then g r.from r.to heads are one since.stands r.vacs opens.are_vacs.each k within left in
        let o = map-Contains (λ x. x.head) opened up.0 (listed up.0 up.1) in
        let is = opens.are_open.each o.0 o.1 in
        let named : up.0.frag ≡ o.0.frag = ap (λ x. x.frag) (sym o.2 ∙ is.head) ∙ ((is.holds).spells).named in
        let loads = subst (λ f. is_among f (loaded_of r opened) ≡ true) named (any_member (frag_eq up.0.frag) (loaded_of r opened) up.0.frag (Contains-map (λ x. x.frag) (loaded r.from r.to heads r.vacs) up.0 up.1) (frag_itself up.0.frag)) in
        (o.0, Contains-filter (λ x. is_among x.frag (loaded_of r opened)) opened o.0 o.1 loads, subst (λ x. has_origin k x ≡ true) (sym o.2) up.2);
  }
    where
      then : Held
      then = then_at r opens.reads

      g : History
      g = history_then r opens.reads

      heads : List Head
      heads = heads_of opened

      since : Since spelled opening past jobs seen m number
      since = ((opens.reads.at).listed).since

      are : AreHeads spelled g then r.from r.to heads
      are = heads_are r opened opens all

      one : OneHead spelled g then
      one = one_head codec spelled tracks laws g then

      -- a fragment that is loaded has its head among those of the listing
      listed : (head : Head) → Contains (loaded r.from r.to heads r.vacs) head → Contains heads head
      listed head at = (filter-Contains (is_usable r.from r.to) heads head (loaded_usable spelled then g r.from r.to heads are one since.stands r.vacs opens.are_vacs.each head at)).0

      -- an open fragment that is loaded can be used
      among : (o : Opened) → Contains (opened_among (loaded_of r opened) opened) o → Contains opened o × Contains (usable r.from r.to heads) o.head
      among o at =
          let parts = filter-Contains (λ x. is_among x.frag (loaded_of r opened)) opened o at in
          let found = member_any (frag_eq o.frag) (loaded_of r opened) parts.1 in
          let head = map-Contains (λ x. x.frag) (loaded r.from r.to heads r.vacs) found.0 found.1 in
          let own = are.each head.0 (listed head.0 head.1) in
          let is = opens.are_open.each o parts.0 in
          let same_frag : head.0.frag ≡ o.frag = head.2 ∙ sym (frag_same o.frag found.0 found.2) in
          let same : head.0 ≡ o.head = sym own.2 ∙ one o.frag own.0 is.piece (subst (λ f. HoldsIn spelled g then f own.0) same_frag own.1) is.holds ∙ sym is.head in
          (parts.0, subst (Contains (usable r.from r.to heads)) same (loaded_usable spelled then g r.from r.to heads are one since.stands r.vacs opens.are_vacs.each head.0 head.1))

  -- a read that opened all fragments goes on with those that it loads
  loads_claims : CodecLaws codec spelled tracks → Clean opening past jobs seen m job → IsHistory now → (r : Reading) (opened : List Opened) → r.deletions ≡ []
      → (opens : Opening codec spelled opening past jobs seen m number job r opened) → length opened ≡ length r.fragments
      → Claimed (loads codec (with_clipped r (clipped_names r.from r.to (heads_of opened))) (opened_among (loaded_of r opened) opened))
  loads_claims laws clean is r opened none opens all =
      let reads = opens.reads in
      gathering_claims laws clean is (with_clipped r (clipped_names r.from r.to (heads_of opened))) (opened_among (loaded_of r opened) opened) [] none (record {
        reads = record { query = reads.query; reads = reads.reads; at = reads.at; framed = reads.framed; is_ready = reads.is_ready };
        chosen = chosen_are laws r opened opens all;
        gathered = record { keys_are = refl; each = λ s at. absurd (Contains-nil s at) };
      })

  -- a read opens the next fragment, or goes on once all are open
  opening_claims : CodecLaws codec spelled tracks → Clean opening past jobs seen m job → IsHistory now → (r : Reading) (opened : List Opened) → r.deletions ≡ []
      → Opening codec spelled opening past jobs seen m number job r opened → Claimed (opening_on codec r opened)
  opening_claims laws clean is r opened none opens =
      elim (nat_lt (length opened) (length r.fragments)) as (λ b. nat_lt (length opened) (length r.fragments) ≡ b → Claimed (cond b (Collects (GetsHeads r opened))
      (loads codec (with_clipped r (clipped_names r.from r.to (heads_of opened))) (opened_among (loaded_of r opened) opened)))) [
        | true ↦ λ _. (clean, opens, none)
        | false ↦ λ end. loads_claims laws clean is r opened none opens (as_many (λ o. o.frag) opened r.fragments opens.are_open.frags (ltb-false (length opened) (length r.fragments) end))
      ] refl

  -- a read gets the next `.vac`, or opens its fragments
  getting_vacs_claims : CodecLaws codec spelled tracks → Clean opening past jobs seen m job → IsHistory now → (r : Reading) → r.deletions ≡ []
      → GettingVacs spelled opening past jobs seen m number job r → Claimed (getting_vacs codec r)
  getting_vacs_claims laws clean is r none vacs =
      elim (nat_lt (length r.vacs) (length r.counting)) as (λ b. nat_lt (length r.vacs) (length r.counting) ≡ b → Claimed (cond b (Collects (GetsVacs r)) (opening_on codec r []))) [
        | true ↦ λ _. (clean, vacs, none)
        | false ↦ λ end. opening_claims laws clean is r [] none (record {
          reads = vacs.reads;
          are_vacs = vacs.are_vacs;
          all_vacs = as_many (λ v. v.frag) r.vacs r.counting vacs.are_vacs.frags (ltb-false (length r.vacs) (length r.counting) end);
          are_open = record { frags = refl; each = λ o at. absurd (Contains-nil o at) };
        })
      ] refl

-- ---- the gets

module _ {F : Type 0} (codec : Codec F) (spelled : Spelled) (tracks : Tracking F) (opening : Held) (past : History) (jobs : List Job) (seen : List Told) (e : Told) (m : Held) (number : ℕ) (job : Job) where
  -- the history before the call
  abbrev h : History
  h = history_told jobs past seen

  -- the history after the call
  abbrev h' : History
  h' = history_told jobs past (seen ++ e ∷ [])

  -- what is held after the call
  abbrev m' : Held
  m' = after_told m e

  -- what a state claims after the call
  abbrev ClaimedAfter : State F → Type 0
  ClaimedAfter s = Claims codec spelled tracks opening past jobs (seen ++ e ∷ []) m' number job s

  -- a call of the job comes in a state
  abbrev ComesHere : State F → Type 0
  ComesHere s = Comes codec spelled tracks opening past jobs seen e m number job s

  -- a call leads the job on from a state
  abbrev AdvancesHere : State F → Type 0
  AdvancesHere s = Advances codec spelled tracks opening past jobs seen e m number job s

  -- how a reply to a get leads on
  bytes_lead : (n : Name) (on : List ℕ → State F) (r : Reply) → ((bytes : List ℕ) → r ≡ reply.Bytes bytes → ClaimedAfter (on bytes)) → (r ≡ reply.Absent → ⊥)
      → IsTrueRefusal spelled opening jobs past (seen ++ e ∷ []) number job (refusal.StoreFault (place.Name n)) → ClaimedAfter (on_bytes (get_all n) on r)
  bytes_lead n on (reply.Bytes bytes) found held fault = found bytes refl
  bytes_lead n on reply.Absent found held fault = absurd (held refl)
  bytes_lead n on reply.Failed found held fault = fault
  bytes_lead n on _ found held fault = tt

  -- a get of all of a short object that is held leads on with its bytes
  pub whole_lead : (n : Name) (object : List ℕ) (on : List ℕ → State F) → e.call ≡ get_all n → IsReplied m e → map.get m n ≡ Some object → IsShort object
      → IsTrueRefusal spelled opening jobs past (seen ++ e ∷ []) number job (refusal.StoreFault (place.Name n)) → ClaimedAfter (on object) → ClaimedAfter (on_bytes (get_all n) on e.reply)
  whole_lead n object on is replied held short fault goes_on =
      let tells = got m e n 0 (2 ^ 64 - 1) is replied in
      bytes_lead n on e.reply
      (λ bytes said.
      let all = tells.bytes bytes said in
      let same : all.0 ≡ object = same_Some all.0 object (sym all.1 ∙ held) in
      subst (λ b. ClaimedAfter (on b)) (sym (all.2 ∙ ap (take (2 ^ 64 - 1)) same ∙ take_all (2 ^ 64 - 1) object (omega arith))) goes_on)
      (λ absent. none-some object (sym (tells.absent absent) ∙ held))
      fault

  -- what an object spells leads on
  pub read_lead : {A : Type 0} (n : Name) (on : A → State F) (x : A) (o : Result A ℕ) → o ≡ Ok x → ClaimedAfter (on x) → ClaimedAfter (on_read n on o)
  read_lead n on x o is goes_on = subst (λ o. ClaimedAfter (on_read n on o)) (sym is) goes_on

  -- what a job listed before tells that its schema is a deed
  works_of : (c : Command) (listing : Listed) (s : Schema) → HasListed spelled opening past jobs seen m number job c listing s → Works past jobs seen number job s
  works_of (Create f) listing s is = absurd is
  works_of (Evolve change) listing s is = is
  works_of (Write w) listing s is = is
  works_of (Read from to query) listing s is = is.works
  works_of (Delete text) listing s is = is
  works_of (Consolidate from to limits) listing s is = absurd is
  works_of Vacuum listing s is = absurd is
  works_of (Unlock seed lane) listing s is = absurd is
  works_of Fragments listing s is = absurd is

  -- a get is no listing
  pub no_listing : (n : Name) → e.call ≡ get_all n → e.job ≡ Some number → e.call ≡ list_schemas → ⊥
  no_listing n is own lists = get_lists (sym is ∙ lists)
    where
      get_lists : get_all n ≡ list_schemas → ⊥
      get_lists same = cc

  -- ---- schemas

  -- the object of a schema that is a deed leads on with its attributes
  pub schema_lead : Stands spelled m h → (k : Key) (s : Schema) (on : List Attr → State F) → schema_with h k ≡ Some s → e.call ≡ get_schema k → IsReplied m e
      → IsUndone h' job → ClaimedAfter (on s.attrs) → ClaimedAfter (on_bytes (get_schema k) (λ bytes. on_read (name.Schema k) on (schema_of bytes)) e.reply)
  schema_lead stands k s on declared is replied undone goes_on =
      let held : map.get m (name.Schema k) ≡ Some (schema_object s.attrs) = stands.schemas k ∙ ap (option_map (λ x. schema_object x.attrs)) declared in
      let short = stands.short_schemas k (schema_object s.attrs) held in
      whole_lead (name.Schema k) (schema_object s.attrs) (λ bytes. on_read (name.Schema k) on (schema_of bytes)) is replied held short (inr undone)
      (read_lead (name.Schema k) on s.attrs (schema_of (schema_object s.attrs)) (attrs_again s.attrs (schema_facts h k s stands.history declared).0 short) goes_on)

  -- the get of the schema there leads a job to the get of the frame
  pub schema_steps : CodecLaws codec spelled tracks → (listing : Listed) (there : Key) → ComesHere (Seeks (GetsSchema listing there)) → AdvancesHere (Seeks (GetsSchema listing there))
  schema_steps laws listing there comes =
      let is : e.call ≡ get_schema there = sym (same_Some (get_schema there) e.call comes.asked) in
      let look = looked spelled opening past jobs seen e m job (get_schema there) is tt comes.stands comes.replied comes.claims.0 in
      let s = comes.claims.1.0 in
      let same : s.key ≡ there = comes.claims.1.1 in
      let declared : schema_with h there ≡ Some s = subst (λ k. schema_with h k ≡ Some s) same (works_of job.command listing s comes.claims.1.2).declared in
      record {
        leads = look.leads;
        own = schema_lead comes.stands there s (λ attrs. Seeks (GetsFrame listing (record { key = there; attrs = attrs }))) declared is comes.replied look.clean.undone
            (subst (λ k. ClaimedAfter (Seeks (GetsFrame listing (record { key = k; attrs = s.attrs })))) same
            (look.clean, has_listed_stays spelled opening past jobs seen e m m' job.id look.leads.leaves number job job.command listing s (no_listing (name.Schema there) is) comes.claims.1.2));
      }

  -- ---- the frame

  -- a read opens its fragments, or it is refused for its query
  asks_lead : CodecLaws codec spelled tracks → Clean opening past jobs (seen ++ e ∷ []) m' job → IsHistory h' → (from to : ℕ) (query : Query) (listing : Listed) (frame : Frame) (there : Schema)
      → (at : ReadsAt spelled opening past jobs (seen ++ e ∷ []) m' number job from to listing.fragments listing.counting listing.delete_names there) → frame_in (history_told jobs past ((at.works).schemas).before) ≡ Some frame
      → job.command ≡ Read from to query → (o : Result Ready Refusal) → ready_in frame there.attrs query ≡ o → FailsByQuery o → ClaimedAfter (asks_for codec from to listing frame there o)
  asks_lead laws clean is from to query listing frame there at framed command (Err r) asked fails = query_true spelled opening jobs past (seen ++ e ∷ []) number job r fails clean.undone
  asks_lead laws clean is from to query listing frame there at framed command (Ok ready) asked fails =
      getting_vacs_claims codec spelled tracks opening past jobs (seen ++ e ∷ []) m' number job laws clean is (reading_of from to listing frame there ready) refl (record {
        reads = record { query = query; reads = command; at = at; framed = framed; is_ready = asked };
        are_vacs = record { frags = refl; each = λ v at. absurd (Contains-nil v at) };
      })

  -- a job works in the schema there once it has the frame
  works_lead : CodecLaws codec spelled tracks → IsFit job → AreApart jobs → Clean opening past jobs (seen ++ e ∷ []) m' job → IsHistory h' → (c : Command) → job.command ≡ c
      → (listing : Listed) (frame : Frame) (there : Schema)
      → frame_in h' ≡ Some frame → HasListed spelled opening past jobs (seen ++ e ∷ []) m' number job c listing there → ClaimedAfter (works codec job job.command listing frame there)
  works_lead laws fit apart clean is (Create f) command listing frame there framed listed = absurd listed
  works_lead laws fit apart clean is (Evolve change) command listing frame there framed listed =
      works_evolve codec spelled tracks opening past jobs (seen ++ e ∷ []) m' number job change listing frame there laws fit apart clean listed framed is command
  works_lead laws fit apart clean is (Write w) command listing frame there framed listed =
      works_write codec spelled tracks opening past jobs (seen ++ e ∷ []) m' number job w listing frame there laws fit apart clean listed framed is command
  works_lead laws fit apart clean is (Read from to query) command listing frame there framed listed =
      let then = framed_current codec spelled tracks opening past jobs (seen ++ e ∷ []) m' number job there listed.works is in
      let same : then.0 ≡ frame = same_Some then.0 frame
      (sym (frame_at codec spelled tracks opening past jobs (seen ++ e ∷ []) m' number job ((listed.works).schemas) then.0 then.1) ∙ framed) in
      subst (λ c. ClaimedAfter (works codec job c listing frame there)) (sym command)
      (asks_lead laws clean is from to query listing frame there listed (then.1 ∙ ap Some same) command (ready_in frame there.attrs query) refl (ready_fails frame there.attrs query))
  works_lead laws fit apart clean is (Consolidate from to limits) command listing frame there framed listed = absurd listed
  works_lead laws fit apart clean is Vacuum command listing frame there framed listed = absurd listed
  works_lead laws fit apart clean is (Unlock seed lane) command listing frame there framed listed = absurd listed
  works_lead laws fit apart clean is Fragments command listing frame there framed listed = absurd listed
  works_lead laws fit apart clean is (Delete text) command listing frame there framed listed =
      works_delete codec spelled tracks opening past jobs (seen ++ e ∷ []) m' number job text listing frame there laws fit apart clean listed framed is command

  -- the get of the frame leads a job to its work in the schema there
  pub framed_steps : CodecLaws codec spelled tracks → (listing : Listed) (there : Schema) → ComesHere (Seeks (GetsFrame listing there)) → AdvancesHere (Seeks (GetsFrame listing there))
  framed_steps laws listing there comes =
      let is : e.call ≡ get_frame = sym (same_Some get_frame e.call comes.asked) in
      let look = looked spelled opening past jobs seen e m job get_frame is tt comes.stands comes.replied comes.claims.0 in
      let framed = framed_by_schema h there.key there comes.stands.history (works_of job.command listing there comes.claims.1).declared in
      let held : map.get m name.Domain ≡ Some (frame_object framed.0) = comes.stands.frame ∙ ap (option_map frame_object) framed.1 in
      let short = comes.stands.short_frame (frame_object framed.0) held in
      let on : Frame → State F = λ frame. works codec job job.command listing frame there in
      record {
        leads = look.leads;
        own = whole_lead name.Domain (frame_object framed.0) (λ bytes. on_read name.Domain on (frame_of bytes)) is comes.replied held short look.clean.undone
            (read_lead name.Domain on framed.0 (frame_of (frame_object framed.0)) (frame_again framed.0 (frame_facts h framed.0 comes.stands.history framed.1) short)
            (works_lead laws comes.fit comes.apart look.clean look.history job.command refl listing framed.0 there (ap frame_in look.same_history ∙ framed.1)
            (has_listed_stays spelled opening past jobs seen e m m' job.id look.leads.leaves number job job.command listing there (no_listing name.Domain is) comes.claims.1)));
      }

  -- ---- the `.vac` objects

  -- one more was got
  vacs_more : (r : Reading) (f : FragKey) (names : List FragKey) → slice_get r.counting (length r.vacs) ≡ Some f → (is : GettingVacs spelled opening past jobs (seen ++ e ∷ []) m' number job r)
      → IsCommitted (held_told opening (((is.reads.at).listed).since.commits).before) f × Names (held_told opening (((is.reads.at).listed).since.commits).before) f names
      → GettingVacs spelled opening past jobs (seen ++ e ∷ []) m' number job (with_vac r f names)
  vacs_more r f names next is one =
      let reads = is.reads in
      let then = held_told opening (((is.reads.at).listed).since.commits).before in
      record {
        reads = record { query = reads.query; reads = reads.reads; at = reads.at; framed = reads.framed; is_ready = reads.is_ready };
        are_vacs = record {
          frags = push_next (λ v. v.frag) r.vacs (record { frag = f; names = names }) r.counting is.are_vacs.frags next;
          each = λ v at. elim (Contains-push_cases r.vacs (record { frag = f; names = names }) v at) [
            | inl before ↦ is.are_vacs.each v before
            | inr last ↦ subst (λ (x : VacOf). IsCommitted then x.frag × Names then x.frag x.names) last one
          ];
        };
      }

  -- the get of a `.vac` leads a read to the next one, or to its fragments
  pub vacs_steps : CodecLaws codec spelled tracks → (r : Reading) → ComesHere (Collects (GetsVacs r)) → AdvancesHere (Collects (GetsVacs r))
  vacs_steps laws r comes =
      let next = asked_of get_vac (slice_get r.counting (length r.vacs)) e.call comes.asked in
      let f = next.0 in
      let look = looked spelled opening past jobs seen e m job (get_vac f) next.2 tt comes.stands comes.replied comes.claims.0 in
      let unlisted = no_listing (vac_of f) next.2 in
      let vacs = getting_vacs_stays spelled opening past jobs seen e m m' job.id look.leads.leaves number job r unlisted comes.claims.1 in
      let listed = (vacs.reads.at).listed in
      let then = held_told opening (listed.since.commits).before in
      let counts = counting_held then f (subst (λ fs. Contains fs f) listed.counting_are (Contains-slice_get r.counting (length r.vacs) f next.1)) in
      let bytes = bytes_there then (vac_of f) counts.1 in
      let reads = listed.since.stands.merged.reads f bytes.0 counts.0 bytes.1 in
      let held : map.get m (vac_of f) ≡ Some bytes.0 = ap (λ n. map.get n (vac_of f)) (sym look.same_held) ∙ listed.since.held (vac_of f) bytes.0 tt bytes.1 in
      record {
        leads = look.leads;
        own = subst (λ o. ClaimedAfter (with_item (λ g. on_bytes (get_vac g) (after_vac codec r g) e.reply) o)) (sym next.1)
            (whole_lead (vac_of f) bytes.0 (after_vac codec r f) next.2 comes.replied held reads.0 (inr look.clean.undone)
            (read_lead (vac_of f) (λ names. getting_vacs codec (with_vac r f names)) reads.1.0 (names_of bytes.0) reads.1.1
            (getting_vacs_claims codec spelled tracks opening past jobs (seen ++ e ∷ []) m' number job laws look.clean look.history (with_vac r f reads.1.0) comes.claims.2
            (vacs_more r f reads.1.0 next.1 vacs (counts.0, record { bytes = bytes.0; held = bytes.1; reads = reads.1.1 })))));
      }

  -- ---- the heads

  module _ (laws : CodecLaws codec spelled tracks) (r : Reading) (opened : List Opened) (f : FragKey) (next : slice_get r.fragments (length opened) ≡ Some f)
      (opens : Opening codec spelled opening past jobs (seen ++ e ∷ []) m' number job r opened) (none : r.deletions ≡ []) where
    -- the history at the listing of the commits
    abbrev g : History
    g = history_told jobs past (((opens.reads.at).listed).since.commits).before

    -- what was held then
    abbrev then : Held
    then = held_told opening (((opens.reads.at).listed).since.commits).before

    -- the fragment is committed, and its span meets the interval
    committed : IsCommitted then f × (meets r.from r.to f ≡ true)
    committed = committed_from_looked then r.from r.to f (subst (λ fs. Contains fs f) ((opens.reads.at).listed).fragments_are (Contains-slice_get r.fragments (length opened) f next))

    -- the fragment's piece
    abbrev own : (p : Piece) × HoldsIn spelled g then f p
    own = ((opens.reads.at).listed).since.stands.whole f committed.0

    abbrev piece : Piece
    piece = own.0

    -- it holds writes of that history
    abbrev holds : HoldsIn spelled g then f piece
    holds = own.1

    -- the part that has the head is there, and is read as the head
    abbrev found : (object : List ℕ) × ((holds.spells).look (codec.head_part holds.frame) ≡ Some object) × (codec.head holds.frame piece.head.frag object ≡ Ok piece.head)
    found = laws.head holds.frame holds.schema piece (holds.spells).look (holds.spells).spells

    -- the fragment, open
    abbrev more : Opened
    more = record { frag = f; head = piece.head; object = found.0 }

    -- an array has one frame
    same_frame : holds.frame ≡ r.frame
    same_frame = same_Some holds.frame r.frame
        (sym (frame_at codec spelled tracks opening past jobs (seen ++ e ∷ []) m' number job (((opens.reads.at).listed).since.commits) holds.frame holds.framed)
        ∙ frame_at codec spelled tracks opening past jobs (seen ++ e ∷ []) m' number job (((opens.reads.at).works).schemas) r.frame opens.reads.framed)

    -- the part that has the head is there in the frame that the read knows
    at_part : (holds.spells).look (codec.head_part r.frame) ≡ Some found.0
    at_part = subst (λ frame. (holds.spells).look (codec.head_part frame) ≡ Some found.0) same_frame found.1

    -- and its object is read as the head
    read : codec.head r.frame f found.0 ≡ Ok piece.head
    read = subst (λ frame. codec.head frame f found.0 ≡ Ok piece.head) same_frame
        (subst (λ frag. codec.head holds.frame frag found.0 ≡ Ok piece.head) (holds.spells).named found.2)

    -- one fragment more is open
    opened_more : Opening codec spelled opening past jobs (seen ++ e ∷ []) m' number job r (opened ++ more ∷ [])
    opened_more = record {
      reads = opens.reads;
      are_vacs = opens.are_vacs;
      all_vacs = opens.all_vacs;
      are_open = record {
        frags = push_next (λ o. o.frag) opened more r.fragments opens.are_open.frags next;
        each = λ o at. elim (Contains-push_cases opened more o at) [
          | inl before ↦ opens.are_open.each o before
          | inr last ↦
              subst (IsOpen codec spelled g then r.frame) last (record { piece = piece; holds = holds; same_frame = same_frame; head = refl; object = at_part })
        ];
      };
    }

    -- the part that has the head of the next fragment leads on with one fragment more
    head_lead : e.call ≡ get_head codec r f → IsReplied m e → m' ≡ m → Clean opening past jobs (seen ++ e ∷ []) m' job → IsHistory h' → ClaimedAfter (on_bytes (get_head codec r f) (after_head codec r opened f) e.reply)
    head_lead is replied same_held clean history =
        let on : Head → State F = λ head. opening_on codec r (opened ++ record { frag = f; head = head; object = found.0 } ∷ []) in
        whole_lead (name.Part f (codec.head_part r.frame)) found.0 (after_head codec r opened f) is replied
        (ap (λ n. map.get n (name.Part f (codec.head_part r.frame))) (sym same_held)
        ∙ ((opens.reads.at).listed).since.held (name.Part f (codec.head_part r.frame)) found.0 tt ((holds.spells).held (codec.head_part r.frame) found.0 at_part))
        ((holds.spells).short (codec.head_part r.frame) found.0 at_part) clean.undone
        (read_lead (name.Part f (codec.head_part r.frame)) on piece.head (codec.head r.frame f found.0) read
        (opening_claims codec spelled tracks opening past jobs (seen ++ e ∷ []) m' number job laws clean history r (opened ++ more ∷ []) none opened_more))

  -- the get of a head leads a read to the next one, or on
  pub heads_steps : CodecLaws codec spelled tracks → (r : Reading) (opened : List Opened) → ComesHere (Collects (GetsHeads r opened)) → AdvancesHere (Collects (GetsHeads r opened))
  heads_steps laws r opened comes =
      let next = asked_of (get_head codec r) (slice_get r.fragments (length opened)) e.call comes.asked in
      let look = looked spelled opening past jobs seen e m job (get_head codec r next.0) next.2 tt comes.stands comes.replied comes.claims.0 in
      let unlisted = no_listing (name.Part next.0 (codec.head_part r.frame)) next.2 in
      let opens = opening_stays spelled opening past jobs seen e m m' job.id look.leads.leaves number codec job r opened unlisted comes.claims.1 in
      record {
        leads = look.leads;
        own = subst (λ o. ClaimedAfter (with_item (λ f. on_bytes (get_head codec r f) (after_head codec r opened f) e.reply) o)) (sym next.1)
            (head_lead laws r opened next.0 next.1 opens comes.claims.2 next.2 comes.replied look.same_held look.clean look.history);
      }

  -- ---- the further schemas

  -- the next further schema is a deed
  further_declared : (r : Reading) (opened : List Opened) (schemas : List Schema) → Gathering codec spelled opening past jobs seen m number job r opened schemas → (k : Key) → Contains (keys_named r opened) k
      → (s : Schema) × (schema_with h k ≡ Some s)
  further_declared r opened schemas gathers k at =
      let by = named_by r opened k at in
      let is = gathers.chosen.each by.0 by.1 in
      let keyed : (is.piece).head.schema ≡ k = ap (λ head. head.schema) (sym is.head) ∙ by.2 in (
        (is.holds).schema,
        schema_at_listing codec spelled tracks opening past jobs seen m number job ((((gathers.reads).at).listed).since.commits) k (is.holds).schema
            (subst (λ l. schema_with (history_told jobs past ((((gathers.reads).at).listed).since.commits).before) l ≡ Some (is.holds).schema) keyed (is.holds).declared),
      )

  -- the get of a further schema leads a read to the next one, or to the first fetch
  pub further_steps : CodecLaws codec spelled tracks → (r : Reading) (opened : List Opened) (named : List Key) (schemas : List Schema)
      → ComesHere (Collects (GetsSchemas r opened named schemas)) → AdvancesHere (Collects (GetsSchemas r opened named schemas))
  further_steps laws r opened named schemas comes =
      let next = asked_of get_schema (slice_get named (length schemas)) e.call comes.asked in
      let k = next.0 in
      let look = looked spelled opening past jobs seen e m job (get_schema k) next.2 tt comes.stands comes.replied comes.claims.0 in
      let at : slice_get (keys_named r opened) (length schemas) ≡ Some k = ap (λ ks. slice_get ks (length schemas)) (sym comes.claims.1) ∙ next.1 in
      let declared = further_declared r opened schemas comes.claims.2 k (Contains-slice_get (keys_named r opened) (length schemas) k at) in
      let s = declared.0 in
      let keyed : s.key ≡ k = (schema_with-is h k s declared.1).1 in
      let its_own : schema_with h' s.key ≡ Some s = ap (λ g. schema_with g s.key) look.same_history ∙ subst (λ l. schema_with h l ≡ Some s) (sym keyed) declared.1 in
      let unlisted = no_listing (name.Schema k) next.2 in
      let gathers = gathering_stays spelled opening past jobs seen e m m' job.id look.leads.leaves number codec job r opened schemas unlisted comes.claims.2 in
      record {
        leads = look.leads;
        own = subst (λ o. ClaimedAfter (with_item (λ l. on_bytes (get_schema l) (after_schema codec r opened named schemas l) e.reply) o)) (sym next.1)
            (schema_lead comes.stands k s (λ attrs. gathering codec r opened named (schemas ++ record { key = k; attrs = attrs } ∷ [])) declared.1 next.2 comes.replied look.clean.undone
            (subst (λ l. ClaimedAfter (gathering codec r opened named (schemas ++ record { key = l; attrs = s.attrs } ∷ []))) keyed
            (subst (λ ks. ClaimedAfter (gathering codec r opened ks (schemas ++ s ∷ []))) (sym comes.claims.1)
            (gathering_claims codec spelled tracks opening past jobs (seen ++ e ∷ []) m' number job laws look.clean look.history r opened (schemas ++ s ∷ []) comes.claims.3 (record {
              reads = gathers.reads;
              chosen = gathers.chosen;
              gathered = record {
                keys_are = push_next (λ x. x.key) schemas s (keys_named r opened) gathers.gathered.keys_are (at ∙ ap Some (sym keyed));
                each = λ x in_them. elim (Contains-push_cases schemas s x in_them) [
                  | inl before ↦ gathers.gathered.each x before
                  | inr last ↦ subst (λ y. schema_with h' y.key ≡ Some y) last its_own
                ];
              };
            })))));
      }
