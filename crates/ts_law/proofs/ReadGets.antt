-- A read makes few gets: each get that it makes is one that it may make, by what it found before.
use Rattle.std.proofs.Common.{◌≡◌, ℕ, suc, ◌+◌, ◌-◌, ◌≤◌, ◌^◌, Bool, true, false, cond, inl, inr, List, [], ◌∷◌, ◌++◌, Option, Some, None, Result, Ok, Err, length, take, drop, get_or, refl, sym, ◌∙◌, ap, subst, arith}
use Rattle.std.specs.Prelude.{Contains, filter, find, nat_lt, not, option_map, slice_get, ⊤, map as list_map}
use Rattle.std.specs.List.{sum_by}
use Rattle.std.specs.Option.{option_map_or}
use Rattle.std.specs.FinMap as map
use Rattle.std.proofs.lemmas.Bool.{ltb-false}
use Rattle.std.proofs.lemmas.List.{length_push, take_all}
use Rattle.std.proofs.lemmas.List.Elements.{Contains-push_cases}
use Rattle.std.proofs.lemmas.List.Sums.{sum_by-cons}
use Rattle.std.proofs.lemmas.Option.{none-some, same_Some, slice_get_within}
use Rattle.ts_base.specs.declared.keys.Key.{Key}
use Rattle.ts_base.specs.declared.keys.FragKey.{FragKey}
use Rattle.ts_base.specs.declared.names.Name.{Name}
use Rattle.ts_base.specs.declared.names.Name.TheVariants as name
use Rattle.ts_base.specs.declared.names.CommitKind.TheVariants.{Del}
use Rattle.ts_base.specs.declared.names.Prefix.TheVariants.{Commits, Schemas}
use Rattle.ts_base.specs.declared.heads.Head.{Head}
use Rattle.ts_base.specs.declared.heads.Piece.{Piece}
use Rattle.ts_base.specs.declared.heads.Version.{Version}
use Rattle.ts_base.specs.Held.{Held}
use Rattle.ts_base.specs.Keys.{key_cmp, key_eq, frag_of}
use Rattle.ts_store.specs.declared.call.Call.{Call}
use Rattle.ts_store.specs.declared.call.Reply.{Reply}
use Rattle.ts_store.specs.declared.call.Reply.TheVariants as reply
use Rattle.ts_store.specs.Calls.{names_under}
use Rattle.ts_schema.specs.declared.attrs.Attr.{Attr}
use Rattle.ts_schema.specs.declared.frames.Frame.{Frame}
use Rattle.ts_schema.specs.declared.schemas.Schema.{Schema}
use Rattle.ts_schema.specs.Parts.{IsShort}
use Rattle.ts_schema.specs.FrameTexts.{frame_object, frame_of}
use Rattle.ts_schema.specs.SchemaTexts.{schema_object, schema_of}
use Rattle.ts_schema.specs.Evolutions.{schema_at}
use Rattle.ts_wire.proofs.Laws.{same_ok}
use Rattle.ts_commit.specs.declared.vacs.VacOf.{VacOf}
use Rattle.ts_commit.specs.Selections.{clipped_names, is_among, loaded}
use Rattle.ts_commit.specs.Vacs.{names_of}
use Rattle.ts_cond.specs.declared.query.Query.{Query}
use Rattle.ts_cond.specs.CondTexts.{cond_object, cond_of}
use Rattle.ts_model.specs.declared.answers.Refusal.{Refusal}
use Rattle.ts_model.specs.declared.commands.Command.TheVariants.{Read}
use Rattle.ts_model.specs.declared.commands.Job.{Job}
use Rattle.ts_model.specs.declared.deeds.Deletion.{Deletion}
use Rattle.ts_model.specs.declared.queries.Ready.{Ready}
use Rattle.ts_model.specs.declared.states.Listed.{Listed}
use Rattle.ts_model.specs.declared.states.Opened.{Opened}
use Rattle.ts_model.specs.declared.states.Reading.{Reading}
use Rattle.ts_model.specs.declared.states.State.{State}
use Rattle.ts_model.specs.declared.states.State.TheVariants.{Seeks, Collects, Over}
use Rattle.ts_model.specs.declared.states.Seeking.TheVariants.{ListsCommits, ListsSchemas, GetsSchema, GetsFrame}
use Rattle.ts_model.specs.declared.states.Collecting.TheVariants.{GetsVacs, GetsHeads, GetsSchemas, GetsDeletes, Fetches}
use Rattle.ts_model.specs.Codecs.{Codec, CodecLaws, Spelled, Stepped, Asks, Takes, Breaks, Tracking}
use Rattle.ts_model.specs.Gets.{AsksBounded, MostGets, gets_of}
use Rattle.ts_model.specs.Deeds.{History, deletion_of, deletions, frame_in, current_schema, schema_with}
use Rattle.ts_model.specs.Jobs.{looked_at, looks_at}
use Rattle.ts_model.specs.Queries.{ready_in}
use Rattle.ts_model.specs.States.{after_delete, after_fetched, after_head, after_schema, after_vac, asks, asks_for, deletion_named, fetch_begins, fetch_leads, fetches_one, fetching, gathering, get_all, get_delete, get_frame, get_head, get_schema, get_vac, getting_deletes, getting_vacs, goes, heads_of, keys_named, known_schema, list_commits, list_schemas, loaded_of, loads, looked_into, on_bytes, on_names, on_read, opened_among, opening, reading_of, schemas_in, seeks, vac_of, want_of, with_clipped, with_deletion, with_item, with_vac, works}
use Rattle.ts_model.proofs.HistoryLaws.{deletion_facts, deletion_of_name, frame_facts, framed_by_schema, schema_facts, schema_with-is, current_is_with}
use Rattle.ts_model.proofs.KeyLemmas.{key_same}
use Rattle.ts_model.proofs.ListLemmas.{Contains-here, Contains-nil, Contains-slice_get, Contains-there, filter-Contains, find-Some}
use Rattle.ts_law.specs.Bounds.{ListsOver, FewGets, GetsFew, heads_in, most_for, pieces_loaded, schema_count}
use Rattle.ts_law.specs.Ends.{AreAllVacs}
use Rattle.ts_law.specs.Stands.{HoldsIn, IsNoLease, Names, Stands}
use Rattle.ts_law.proofs.Declaring.{attrs_again, frame_again}
use Rattle.ts_law.proofs.DeleteSteps.{cond_again, deletion_again}
use Rattle.ts_law.proofs.Fetches.{Contains-map}
use Rattle.ts_law.proofs.FetchSteps.{drop_first}
use Rattle.ts_law.proofs.ListSteps.{committed_from_looked, counting_held, erase_from_looked, there_from_listed}
use Rattle.ts_law.proofs.MapValues.{true_from_T}
use Rattle.ts_law.proofs.ReadBounds.{Agrees, asks_there, few_early, few_first, few_listed, goes_on_itself, pieces_there, schemas_enough}
use Rattle.ts_law.proofs.ReadCounts.{fetch_gets, first_gets, gets_begun, picked_less}
use Rattle.ts_law.proofs.ReadSteps.{as_many, asked_of, named_apart, push_next}

-- a schema is that of its key and its attributes
same_schema : (s : Schema) (k : Key) (attrs : List Attr) → s.key ≡ k → s.attrs ≡ attrs → s ≡ record { key = k; attrs = attrs }
same_schema s k attrs key own i = record { key = key i; attrs = own i }

module _ {F : Type 0} (codec : Codec F) (spelled : Spelled) (tracks : Tracking F) (laws : CodecLaws codec spelled tracks) (gets : F → ℕ) (most : MostGets) (bounded : AsksBounded codec spelled gets most)
    (h : History) (m : Held) (stands : Stands spelled m h) (from to : ℕ) (query : Query) where
  -- the gets are few
  abbrev pub Few : ℕ → Type 0
  Few count = FewGets spelled most h m from to query count

  -- what the read asks for and lists
  abbrev pub AsksSo : Reading → Type 0
  AsksSo r = ListsOver h m from to query r

  -- ---- open fragments

  -- an open fragment's object is what is held of the part with the head, and its head is read from it
  pub record IsRead (frame : Frame) (o : Opened) : Type 0 where
    held : map.get m (name.Part o.frag (codec.head_part frame)) ≡ Some o.object
    reads : codec.head frame o.frag o.object ≡ Ok o.head

  -- the object of the part with the head, of a fragment that holds a piece
  pub record HasObject (frame : Frame) (f : FragKey) (p : Piece) (holds : HoldsIn spelled h m f p) : Type 0 where
    object : List ℕ
    looked : (holds.spells).look (codec.head_part frame) ≡ Some object
    reads : codec.head frame f object ≡ Ok p.head
    held : map.get m (name.Part f (codec.head_part frame)) ≡ Some object
    spells : spelled frame holds.schema p (holds.spells).look

  piece_object : (frame : Frame) → frame_in h ≡ Some frame → (f : FragKey) (p : Piece) (holds : HoldsIn spelled h m f p) → HasObject frame f p holds
  piece_object frame framed f p holds =
      let same : holds.frame ≡ frame = same_Some holds.frame frame (sym holds.framed ∙ framed) in
      let here : spelled frame holds.schema p (holds.spells).look = subst (λ x. spelled x holds.schema p (holds.spells).look) same (holds.spells).spells in
      let found = laws.head frame holds.schema p (holds.spells).look here in
      record {
        object = found.0;
        looked = found.1;
        reads = ap (λ g. codec.head frame g found.0) (sym (holds.spells).named) ∙ found.2;
        held = (holds.spells).held (codec.head_part frame) found.0 found.1;
        spells = here;
      }

  -- its head is that of the piece
  same_head : (r : Reading) → frame_in h ≡ Some r.frame → (o : Opened) → IsRead r.frame o → (p : Piece) → HoldsIn spelled h m o.frag p → o.head ≡ p.head
  same_head r framed o read p holds =
      let has = piece_object r.frame framed o.frag p holds in
      let object : has.object ≡ o.object = same_Some has.object o.object (sym has.held ∙ read.held) in
      same_ok (codec.head r.frame o.frag o.object) o.head p.head read.reads (ap (λ b. codec.head r.frame o.frag b) (sym object) ∙ has.reads)

  -- ---- the gets of fetches

  -- each of these schemas is one of the history
  abbrev pub AreDeclared : List Schema → Type 0
  AreDeclared schemas = (s : Schema) → Contains schemas s → schema_with h s.key ≡ Some s

  -- a schema that the read knows is that of the history
  known_is : (r : Reading) → current_schema h to ≡ Some r.current → (schemas : List Schema) → AreDeclared schemas → (k : Key) (s : Schema) → known_schema r schemas k ≡ Some s → schema_with h k ≡ Some s
  known_is r holds schemas each k s is = by_test (key_eq k r.current.key) refl is
    where
      by_test : (b : Bool) → key_eq k r.current.key ≡ b → cond b (Some r.current) (find (λ t. key_eq t.key k) schemas) ≡ Some s → schema_with h k ≡ Some s
      by_test true tie one = ap (schema_with h) (key_same k r.current.key tie) ∙ current_is_with h to r.current stands.history holds ∙ one
      by_test false apart one =
          let found = find-Some (λ t. key_eq t.key k) schemas s one in
          ap (schema_with h) (sym (key_same s.key k found.1)) ∙ each s found.0

  -- no more than the piece of the fragment allows
  fetch_few : (r : Reading) → AsksSo r → (schemas : List Schema) → AreDeclared schemas → (o : Opened) → IsRead r.frame o → (p : Piece) → HoldsIn spelled h m o.frag p → fetch_gets codec gets r schemas o ≤ most_for most h r p
  fetch_few r asks schemas each o read p holds = by_schema (known_schema r schemas o.head.schema) refl
    where
      most_is : most_for most h r p ≡ most r.frame holds.schema p (want_of r (holds.schema).attrs)
      most_is = ap (λ q. option_map_or (λ s. most r.frame s p (want_of r s.attrs)) q 0) holds.declared

      by_open : (s : Schema) → known_schema r schemas o.head.schema ≡ Some s → (b : Result F ℕ) → codec.opens r.frame s o.frag o.object (want_of r s.attrs) ≡ b → gets_begun gets b ≤ most_for most h r p
      by_open s known (Err at) is = omega arith
      by_open s known (Ok f) is =
          let head = same_head r asks.framed o read p holds in
          let has = piece_object r.frame asks.framed o.frag p holds in
          let it : s ≡ holds.schema = same_Some s holds.schema (sym (known_is r asks.holds schemas each o.head.schema s known) ∙ ap (λ x. schema_with h x.schema) head ∙ holds.declared) in
          let object : has.object ≡ o.object = same_Some has.object o.object (sym has.held ∙ read.held) in
          let opens : codec.opens r.frame holds.schema p.head.frag o.object (want_of r (holds.schema).attrs) ≡ Ok f =
          ap (λ g. codec.opens r.frame holds.schema g o.object (want_of r (holds.schema).attrs)) (holds.spells).named ∙ ap (λ x. codec.opens r.frame x o.frag o.object (want_of r x.attrs)) (sym it) ∙ is in
          subst (λ n. gets f ≤ n) (sym most_is)
          (bounded.fair r.frame holds.schema p (holds.spells).look (want_of r (holds.schema).attrs) o.object f has.spells (has.looked ∙ ap Some object) opens)

      by_schema : (q : Option Schema) → known_schema r schemas o.head.schema ≡ q → option_map_or (λ s. gets_begun gets (codec.opens r.frame s o.frag o.object (want_of r s.attrs))) q 0 ≤ most_for most h r p
      by_schema None none = omega arith
      by_schema (Some s) known = by_open s known (codec.opens r.frame s o.frag o.object (want_of r s.attrs)) refl

  -- open fragments and the pieces in them, in the same order: they have the same heads, and of those that are chosen the fetches make no more gets than the pieces allow
  pub record AreAlike (r : Reading) (schemas : List Schema) (all : List Opened) (pieces : List Piece) : Type 0 where
    heads : heads_of all ≡ heads_in pieces
    fewer : (frags : List FragKey) → sum_by (fetch_gets codec gets r schemas) (opened_among frags all) ≤ sum_by (most_for most h r) (filter (λ p. is_among p.head.frag frags) pieces)

  alike : (r : Reading) → AsksSo r → (schemas : List Schema) → AreDeclared schemas → (all : List Opened) (pieces : List Piece) → list_map (λ o. o.frag) all ≡ list_map (λ p. p.head.frag) pieces
      → ((o : Opened) → Contains all o → IsRead r.frame o) → ((p : Piece) → Contains pieces p → HoldsIn spelled h m p.head.frag p) → AreAlike r schemas all pieces
  alike r asks schemas each [] [] named reads holds = record { heads = refl; fewer = λ frags. omega arith }
  alike r asks schemas each [] (p ∷ ps) named reads holds = absurd (let none : 0 ≡ suc (length (list_map (λ (q : Piece). q.head.frag) ps)) = ap length named in omega (arith, none))
  alike r asks schemas each (o ∷ os) [] named reads holds = absurd (let none : suc (length (list_map (λ (q : Opened). q.frag) os)) ≡ 0 = ap length named in omega (arith, none))
  alike r asks schemas each (o ∷ os) (p ∷ ps) named reads holds =
      let same : o.frag ≡ p.head.frag = ap (λ l. get_or l 0 o.frag) named in
      let rest = alike r asks schemas each os ps (ap (drop 1) named) (λ x at. reads x (Contains-there o os x at)) (λ x at. holds x (Contains-there p ps x at)) in
      let read = reads o (Contains-here o os) in
      let held : HoldsIn spelled h m o.frag p = subst (λ f. HoldsIn spelled h m f p) (sym same) (holds p (Contains-here p ps)) in
      let few = fetch_few r asks schemas each o read p held in
      record {
        heads = ap (λ x. x ∷ heads_of os) (same_head r asks.framed o read p held) ∙ ap (λ l. p.head ∷ l) rest.heads;
        fewer = λ frags.
            let others : List Opened = opened_among frags os in
            let left : List Piece = filter (λ q. is_among q.head.frag frags) ps in
            subst (λ b. sum_by (fetch_gets codec gets r schemas) (cond b (o ∷ others) others) ≤ sum_by (most_for most h r) (cond (is_among p.head.frag frags) (p ∷ left) left)) (ap (λ f. is_among f frags) (sym same))
            (picked_less (fetch_gets codec gets r schemas) (most_for most h r) o others p left few (rest.fewer frags) (is_among p.head.frag frags));
      }

  -- ---- what a read knows

  -- it got the first of the `.vac` objects that count
  pub record HasVacs (count : ℕ) (r : Reading) : Type 0 where
    asked : AsksSo r
    frags : list_map (λ v. v.frag) r.vacs ≡ take (length r.vacs) r.counting
    each : (v : VacOf) → Contains r.vacs v → Names m v.frag v.names
    erased : r.deletions ≡ []
    few : count ≤ 2 + length r.vacs

  -- it got all of these, and the first of its fragments are open
  pub record HasHeads (count : ℕ) (r : Reading) (opened : List Opened) : Type 0 where
    asked : AsksSo r
    vacs : AreAllVacs m r.vacs
    frags : list_map (λ o. o.frag) opened ≡ take (length opened) r.fragments
    each : (o : Opened) → Contains opened o → IsRead r.frame o
    erased : r.deletions ≡ []
    few : count ≤ 2 + length r.counting + length opened

  -- it opened all fragments, and chose those that it loads
  pub record Chooses (r : Reading) (opened : List Opened) : Type 0 where
    asked : AsksSo r
    vacs : AreAllVacs m r.vacs
    all : List Opened
    frags : list_map (λ o. o.frag) all ≡ r.fragments
    each : (o : Opened) → Contains all o → IsRead r.frame o
    chosen : opened ≡ opened_among (loaded_of r all) all

  -- it got some of the further schemas
  pub record HasSchemas (count : ℕ) (r : Reading) (opened : List Opened) (schemas : List Schema) : Type 0 where
    chooses : Chooses r opened
    declared : AreDeclared schemas
    erased : r.deletions ≡ []
    some : length schemas ≤ length (keys_named r opened)
    few : count ≤ 2 + length r.counting + length r.fragments + length schemas

  -- it got all of these, and the first of the deletes
  pub record HasDeletes (count : ℕ) (r : Reading) (opened : List Opened) (schemas : List Schema) : Type 0 where
    chooses : Chooses r opened
    declared : AreDeclared schemas
    frags : list_map (λ e. frag_of e.key) r.deletions ≡ take (length r.deletions) r.delete_names
    deeds : (e : Deletion) → Contains r.deletions e → Contains (deletions h) e
    few : count ≤ 2 + length r.counting + length r.fragments + length (keys_named r opened) + length r.deletions

  -- it has all that it needs for its fetches
  pub record HasAll (r : Reading) (opened : List Opened) (schemas : List Schema) : Type 0 where
    chooses : Chooses r opened
    declared : AreDeclared schemas
    deletes : list_map (λ e. frag_of e.key) r.deletions ≡ r.delete_names
    deeds : (e : Deletion) → Contains r.deletions e → Contains (deletions h) e

  -- its fetch waits for the reply to a call: with that call, with those that the fetch may still make and those of the fetches to come, the gets are no more than those before the first fetch and those of all fetches
  pub record IsFetching (count : ℕ) (r : Reading) (opened : List Opened) (schemas : List Schema) (next : ℕ) (f : F) (c : Call) : Type 0 where
    has : HasAll r opened schemas
    few : count + gets_of c + gets f + sum_by (fetch_gets codec gets r schemas) (drop (suc next) opened) ≤ first_gets r opened + sum_by (fetch_gets codec gets r schemas) opened

  -- a read that made so many gets knows this in a state
  abbrev pub Known : ℕ → State F → Type 0
  Known count (Seeks ListsCommits) = count ≡ 0
  Known count (Seeks (ListsSchemas listed)) = (count ≡ 0) × (listed ≡ looked_into (Read from to query) (names_under Commits m))
  Known count (Seeks (GetsSchema listed there)) = (count ≡ 0) × (listed ≡ looked_into (Read from to query) (names_under Commits m)) × ((s : Schema) × (s.key ≡ there) × (current_schema h to ≡ Some s))
  Known count (Seeks (GetsFrame listed there)) = (count ≤ 1) × (listed ≡ looked_into (Read from to query) (names_under Commits m)) × (current_schema h to ≡ Some there)
  Known count (Collects (GetsVacs r)) = HasVacs count r
  Known count (Collects (GetsHeads r opened)) = HasHeads count r opened
  Known count (Collects (GetsSchemas r opened named schemas)) = (named ≡ keys_named r opened) × HasSchemas count r opened schemas
  Known count (Collects (GetsDeletes r opened schemas)) = HasDeletes count r opened schemas
  Known count (Collects (Fetches r opened schemas next frag got f c)) = IsFetching count r opened schemas next f c
  Known count (Over end) = ⊤
  Known count _ = ⊥

  -- ---- its gets are few

  not_true : (b : Bool) → not b ≡ true → b ≡ false
  not_true true is = sym is
  not_true false is = refl

  module _ (r : Reading) (opened : List Opened) (chooses : Chooses r opened) where
    -- what it finds in the fragments
    abbrev found : (pieces : List Piece) × (list_map (λ p. p.head.frag) pieces ≡ r.fragments) × ((p : Piece) → Contains pieces p → HoldsIn spelled h m p.head.frag p)
    found = pieces_there spelled most h h m (goes_on_itself spelled h m stands) from to query r chooses.asked

    abbrev alike_in : (schemas : List Schema) → AreDeclared schemas → AreAlike r schemas chooses.all found.0
    alike_in schemas declared = alike r chooses.asked schemas declared chooses.all found.0 (chooses.frags ∙ sym found.1) chooses.each found.2

    -- the heads of all fragments are those of the pieces
    same_heads : heads_of chooses.all ≡ heads_in found.0
    same_heads = (alike_in [] (λ s at. absurd (Contains-nil s at))).heads

    -- a fragment that it loads is open
    is_open : (o : Opened) → Contains opened o → Contains chooses.all o
    is_open o at = (filter-Contains (λ x. is_among x.frag (loaded_of r chooses.all)) chooses.all o (subst (λ l. Contains l o) chooses.chosen at)).0

    -- a further schema is not the one there, and is named by the head of a piece
    further : (k : Key) → Contains (keys_named r opened) k → (key_eq k r.current.key ≡ false) × Contains (r.current.key ∷ list_map (λ head. head.schema) (heads_in found.0)) k
    further k at =
        let named = named_apart r opened k at in
        let o = named.0 in
        let among : Contains (heads_in found.0) o.head = subst (λ l. Contains l o.head) same_heads (Contains-map (λ x. x.head) chooses.all o (is_open o named.1)) in (
          not_true (key_eq k r.current.key) (ap (λ q. not (key_eq q r.current.key)) (sym named.2) ∙ named.3),
          Contains-there r.current.key (list_map (λ head. head.schema) (heads_in found.0)) k (subst (Contains (list_map (λ head. head.schema) (heads_in found.0))) named.2 (Contains-map (λ head. head.schema) (heads_in found.0) o.head among)),
        )

    -- there are no more of them than count, the one there aside
    abbrev named_map : map.FinMap key_cmp Key
    named_map = map.from_entries {R = key_cmp} (list_map (λ o. (o.head.schema, o.head.schema)) (filter (λ o. not (key_eq o.head.schema r.current.key)) opened))

    enough : suc (length (keys_named r opened)) ≤ schema_count r.current.key (heads_in found.0)
    enough = schemas_enough r.current.key (heads_in found.0) (map.entries named_map) (true_from_T (map.is_sorted key_cmp (map.entries named_map)) (map.entries_sorted named_map)) further

    -- the gets before the first fetch are few
    few_chosen : (count : ℕ) → count ≤ first_gets r opened → Few count
    few_chosen count few = let more = enough in few_listed spelled most h h m (goes_on_itself spelled h m stands) from to query r chooses.asked found.0 found.1 found.2 count (omega (arith, few, more))

    -- those of the fetches too
    few_fetched : (schemas : List Schema) → HasAll r opened schemas → (count : ℕ) → count ≤ first_gets r opened + sum_by (fetch_gets codec gets r schemas) opened → Few count
    few_fetched schemas has count few =
        let more = enough in
        let same = alike_in schemas has.declared in
        let frags_in : List Head → List FragKey = λ heads. list_map (λ head. head.frag) (loaded r.from r.to heads r.vacs) in
        let chosen : sum_by (fetch_gets codec gets r schemas) opened ≤ sum_by (most_for most h r) (pieces_loaded r found.0) =
        subst (λ l. sum_by (fetch_gets codec gets r schemas) l ≤ sum_by (most_for most h r) (pieces_loaded r found.0)) (sym chooses.chosen)
        (subst (λ heads. sum_by (fetch_gets codec gets r schemas) (opened_among (loaded_of r chooses.all) chooses.all) ≤ sum_by (most_for most h r) (filter (λ p. is_among p.head.frag (frags_in heads)) found.0)) same.heads
        (same.fewer (loaded_of r chooses.all))) in
        GetsFew r found.0 (record { asks = chooses.asked; frags = found.1; each = found.2; vacs = chooses.vacs; deletes = has.deletes; deeds = has.deeds }) (omega (arith, few, more, chosen))

  -- ---- where it goes on

  -- a read that asks the same over the same listing
  asks_on : (r : Reading) (vacs : List VacOf) (clipped : List FragKey) (erased : List Deletion) → AsksSo r
      → AsksSo (record { from = r.from; to = r.to; ready = r.ready; frame = r.frame; current = r.current; fragments = r.fragments; counting = r.counting; vacs = vacs; clipped = clipped; delete_names = r.delete_names; deletions = erased })
  asks_on r vacs clipped erased asks = record { begins = asks.begins; ends = asks.ends; framed = asks.framed; holds = asks.holds; is_ready = asks.is_ready; fragments_are = asks.fragments_are; counting_are = asks.counting_are; deletes_are = asks.deletes_are }

  module _ (count : ℕ) (r : Reading) (opened : List Opened) (schemas : List Schema) (has : HasAll r opened schemas) where
    -- the gets of these fetches
    abbrev gets_in : List Opened → ℕ
    gets_in os = sum_by (fetch_gets codec gets r schemas) os

    -- a step of a fetch
    step_known : (next : ℕ) (frag : FragKey) (got : List Version) (on : List Version → State F) (f : F) (said : Reply) → count + gets f + gets_in (drop (suc next) opened) ≤ first_gets r opened + gets_in opened
        → ((vs : List Version) → Known count (on vs)) → (s : Stepped F) → codec.steps f said ≡ s → Known count (fetch_leads r opened schemas next frag got on s)
    step_known next frag got on f said few rest (Asks g c) is = record { has = has; few = let pays = bounded.pays f g said c is in omega (arith, few, pays) }
    step_known next frag got on f said few rest (Takes vs) is = rest vs
    step_known next frag got on f said few rest (Breaks part at) is = tt

    -- the fetch of one fragment
    one_known : (next : ℕ) (o : Opened) (rest : List Opened) (got : List Version) (on : List Version → State F) → drop (suc next) opened ≡ rest → count + gets_in (o ∷ rest) ≤ first_gets r opened + gets_in opened
        → ((vs : List Version) → Known count (on vs)) → (q : Option Schema) → known_schema r schemas o.head.schema ≡ q → Known count (fetches_one codec r opened schemas next o got on q)
    one_known next o rest got on left few later None none = tt
    one_known next o rest got on left few later (Some s) known = by_open (codec.opens r.frame s o.frag o.object (want_of r s.attrs)) refl
      where
        by_open : (b : Result F ℕ) → codec.opens r.frame s o.frag o.object (want_of r s.attrs) ≡ b → Known count (fetch_begins codec r opened schemas next o.frag got on b)
        by_open (Err at) is = tt
        by_open (Ok f) is =
            let own : fetch_gets codec gets r schemas o ≡ gets f = ap (λ q. option_map_or (λ s. gets_begun gets (codec.opens r.frame s o.frag o.object (want_of r s.attrs))) q 0) known ∙ ap (gets_begun gets) is in
            let both = sum_by-cons (fetch_gets codec gets r schemas) o rest in
            let others : gets_in (drop (suc next) opened) ≡ gets_in rest = ap gets_in left in
            step_known next o.frag got on f reply.Start (omega (arith, few, own, both, others)) later (codec.steps f reply.Start) refl

    -- the fetches from a place on
    fetching_known : (rest : List Opened) (next : ℕ) (got : List Version) → drop next opened ≡ rest → count + gets_in rest ≤ first_gets r opened + gets_in opened → Known count (fetching codec r opened schemas next rest got)
    fetching_known [] next got left few = tt
    fetching_known (o ∷ rest) next got left few =
        let parts = drop_first opened next o rest left in
        let both = sum_by-cons (fetch_gets codec gets r schemas) o rest in
        one_known next o rest got _ parts.1 few (λ vs. fetching_known rest (suc next) (got ++ vs) parts.1 (omega (arith, few, both))) (known_schema r schemas o.head.schema) refl

  -- the next delete, or the first fetch
  getting_deletes_known : (count : ℕ) (r : Reading) (opened : List Opened) (schemas : List Schema) → HasDeletes count r opened schemas → Known count (getting_deletes codec r opened schemas)
  getting_deletes_known count r opened schemas has =
      elim (nat_lt (length r.deletions) (length r.delete_names)) as (λ b. nat_lt (length r.deletions) (length r.delete_names) ≡ b → Known count (cond b (Collects (GetsDeletes r opened schemas)) (fetching codec r opened schemas 0 opened []))) [
        | true ↦ λ _. has
        | false ↦ λ end.
            let all = as_many (λ e. frag_of e.key) r.deletions r.delete_names has.frags (ltb-false (length r.deletions) (length r.delete_names) end) in
            let few = has.few in
            fetching_known count r opened schemas
            (record { chooses = has.chooses; declared = has.declared; deletes = has.frags ∙ take_all (length r.deletions) r.delete_names (omega (arith, all)); deeds = has.deeds })
            opened 0 [] refl (omega (arith, few, all))
      ] refl

  -- the next further schema, or the first delete
  gathering_known : (count : ℕ) (r : Reading) (opened : List Opened) (schemas : List Schema) → HasSchemas count r opened schemas → Known count (gathering codec r opened (keys_named r opened) schemas)
  gathering_known count r opened schemas has =
      elim (nat_lt (length schemas) (length (keys_named r opened))) as (λ b. nat_lt (length schemas) (length (keys_named r opened)) ≡ b
      → Known count (cond b (Collects (GetsSchemas r opened (keys_named r opened) schemas)) (getting_deletes codec r opened schemas))) [
        | true ↦ λ _. (refl, has)
        | false ↦ λ end. getting_deletes_known count r opened schemas (record {
          chooses = has.chooses;
          declared = has.declared;
          frags = subst (λ xs. list_map (λ e. frag_of e.key) xs ≡ take (length xs) r.delete_names) (sym has.erased) refl;
          deeds = subst (λ xs. (e : Deletion) → Contains xs e → Contains (deletions h) e) (sym has.erased) (λ e at. absurd (Contains-nil e at));
          few = let few = has.few in let some = has.some in omega (arith, few, some);
        })
      ] refl

  -- the next head, or the first further schema of the fragments that are loaded
  opening_known : (count : ℕ) (r : Reading) (opened : List Opened) → HasHeads count r opened → Known count (opening codec r opened)
  opening_known count r opened has =
      elim (nat_lt (length opened) (length r.fragments)) as (λ b. nat_lt (length opened) (length r.fragments) ≡ b → Known count (cond b (Collects (GetsHeads r opened))
      (loads codec (with_clipped r (clipped_names r.from r.to (heads_of opened))) (opened_among (loaded_of r opened) opened)))) [
        | true ↦ λ _. has
        | false ↦ λ end.
            let all = as_many (λ o. o.frag) opened r.fragments has.frags (ltb-false (length opened) (length r.fragments) end) in
            let few = has.few in
            gathering_known count (with_clipped r (clipped_names r.from r.to (heads_of opened))) (opened_among (loaded_of r opened) opened) [] (record {
              chooses = record {
                asked = asks_on r r.vacs (clipped_names r.from r.to (heads_of opened)) r.deletions has.asked;
                vacs = has.vacs;
                all = opened;
                frags = has.frags ∙ take_all (length opened) r.fragments (omega (arith, all));
                each = has.each;
                chosen = refl;
              };
              declared = λ s at. absurd (Contains-nil s at);
              erased = has.erased;
              some = omega arith;
              few = omega (arith, few, all);
            })
      ] refl

  -- the next `.vac`, or the first head
  getting_vacs_known : (count : ℕ) (r : Reading) → HasVacs count r → Known count (getting_vacs codec r)
  getting_vacs_known count r has =
      elim (nat_lt (length r.vacs) (length r.counting)) as (λ b. nat_lt (length r.vacs) (length r.counting) ≡ b → Known count (cond b (Collects (GetsVacs r)) (opening codec r []))) [
        | true ↦ λ _. has
        | false ↦ λ end.
            let all = as_many (λ v. v.frag) r.vacs r.counting has.frags (ltb-false (length r.vacs) (length r.counting) end) in
            let few = has.few in
            opening_known count r [] (record {
              asked = has.asked;
              vacs = record { frags = has.frags ∙ take_all (length r.vacs) r.counting (omega (arith, all)) ∙ (has.asked).counting_are; each = has.each };
              frags = refl;
              each = λ o at. absurd (Contains-nil o at);
              erased = has.erased;
              few = omega (arith, few, all);
            })
      ] refl

  -- ---- replies

  -- where a listing leads
  names_lead : (count : ℕ) (c : Call) (on : List Name → State F) (r : Reply) → ((names : List Name) → r ≡ reply.Names names → Known count (on names)) → Known count (on_names c on r)
  names_lead count c on (reply.Names names) told = told names refl
  names_lead count c on _ told = tt

  -- where a get leads
  bytes_lead : (count : ℕ) (c : Call) (on : List ℕ → State F) (r : Reply) → ((bytes : List ℕ) → r ≡ reply.Bytes bytes → Known count (on bytes)) → Known count (on_bytes c on r)
  bytes_lead count c on (reply.Bytes bytes) told = told bytes refl
  bytes_lead count c on _ told = tt

  -- where what an object spells leads
  read_lead : {A : Type 0} (count : ℕ) (n : Name) (on : A → State F) (o : Result A ℕ) → ((x : A) → o ≡ Ok x → Known count (on x)) → Known count (on_read n on o)
  read_lead count n on (Ok x) told = told x refl
  read_lead count n on (Err at) told = tt

  -- the bytes that a get of all tells of a short object are held
  told_held : (n : Name) → IsNoLease n → (r : Reply) → Agrees m (get_all n) r → (bytes : List ℕ) → r ≡ reply.Bytes bytes → ((object : List ℕ) → map.get m n ≡ Some object → IsShort object) → map.get m n ≡ Some bytes
  told_held n no_lease r agrees bytes said short =
      let all = agrees.gets n 0 (2 ^ 64 - 1) bytes refl said no_lease in
      let few = short all.0 all.1 in
      all.1 ∙ ap Some (sym (all.2 ∙ take_all (2 ^ 64 - 1) all.0 (omega (arith, few))))

  -- those of a schema of the history spell its attributes
  told_schema : (k : Key) (s : Schema) → schema_with h k ≡ Some s → (r : Reply) → Agrees m (get_schema k) r → (bytes : List ℕ) → r ≡ reply.Bytes bytes → schema_of bytes ≡ Ok s.attrs
  told_schema k s with r agrees bytes said =
      let held : map.get m (name.Schema k) ≡ Some (schema_object s.attrs) = stands.schemas k ∙ ap (option_map (λ x. schema_object x.attrs)) with in
      let short = stands.short_schemas k (schema_object s.attrs) held in
      let same : bytes ≡ schema_object s.attrs = same_Some bytes (schema_object s.attrs) (sym (told_held (name.Schema k) tt r agrees bytes said (stands.short_schemas k)) ∙ held) in
      ap schema_of same ∙ attrs_again s.attrs (schema_facts h k s stands.history with).0 short

  -- those of the frame spell it
  told_frame : (frame : Frame) → frame_in h ≡ Some frame → (r : Reply) → Agrees m get_frame r → (bytes : List ℕ) → r ≡ reply.Bytes bytes → frame_of bytes ≡ Ok frame
  told_frame frame framed r agrees bytes said =
      let held : map.get m name.Domain ≡ Some (frame_object frame) = stands.frame ∙ ap (option_map frame_object) framed in
      let short = stands.short_frame (frame_object frame) held in
      let same : bytes ≡ frame_object frame = same_Some bytes (frame_object frame) (sym (told_held name.Domain tt r agrees bytes said stands.short_frame) ∙ held) in
      ap frame_of same ∙ frame_again frame (frame_facts h frame stands.history framed) short

  -- a near fragment holds a piece
  near_holds : (r : Reading) → AsksSo r → (f : FragKey) → Contains r.fragments f → (p : Piece) × HoldsIn spelled h m f p
  near_holds r asks f at = stands.whole f (committed_from_looked m from to f (subst (λ fs. Contains fs f) asks.fragments_are at)).0

  -- ---- its calls

  -- it makes few gets, and knows what its state says
  abbrev pub Led : ℕ → State F → Type 0
  Led count s = Few count × Known count s

  module _ (job : Job) (is : job.command ≡ Read from to query) where
    -- where a call and its reply lead from a state
    abbrev pub LedBy : ℕ → State F → Call → Reply → Type 0
    LedBy count s c r = Led (count + gets_of c) (goes codec job s r)

    -- the same of the call that the state asks
    called : (count : ℕ) (s : State F) (d c : Call) (r : Reply) → d ≡ c → Agrees m c r → (Agrees m d r → LedBy count s d r) → LedBy count s c r
    called count s d c r same agrees led = subst (λ x. Agrees m x r → LedBy count s x r) same led agrees

    -- ---- what it seeks

    commits_led : (count : ℕ) (r : Reply) → Agrees m list_commits r → Few count → Known count (Seeks ListsCommits) → LedBy count (Seeks ListsCommits) list_commits r
    commits_led count r agrees few none = (
      subst Few (omega arith) few,
      names_lead (count + 0) list_commits (λ names. Seeks (ListsSchemas (looked_into job.command names))) r (λ names said.
          (omega (arith, none), ap (λ c. looked_into c names) is ∙ ap (looked_into (Read from to query)) (agrees.lists Commits names refl said (λ same. cc)))),
    )

    -- where the schemas of a listing lead
    seeks_known : (count : ℕ) (listed : Listed) (at : ℕ) → count ≡ 0 → listed ≡ looked_into (Read from to query) (names_under Commits m) → (o : Option Schema) → current_schema h to ≡ o
        → Known count (seeks listed at (option_map (λ s. s.key) o))
    seeks_known count listed at none same None lacks = tt
    seeks_known count listed at none same (Some s) there = (none, same, (s, refl, there))

    schemas_led : (count : ℕ) (listed : Listed) (r : Reply) → Agrees m list_schemas r → Few count → Known count (Seeks (ListsSchemas listed)) → LedBy count (Seeks (ListsSchemas listed)) list_schemas r
    schemas_led count listed r agrees few (none, same) = (
      subst Few (omega arith) few,
      names_lead (count + 0) list_schemas (λ names. seeks listed (looked_at job) (schema_at (schemas_in names) (looked_at job))) r (λ names said.
          subst (λ o. Known (count + 0) (seeks listed (looked_at job) o))
          (sym (ap (λ ns. schema_at (schemas_in ns) (looked_at job)) (agrees.lists Schemas names refl said (λ same. cc)) ∙ ap (λ c. schema_at (schemas_in (names_under Schemas m)) (looks_at job c)) is ∙ there_from_listed spelled m h stands to))
          (seeks_known (count + 0) listed (looked_at job) (omega (arith, none)) same (current_schema h to) refl)),
    )

    schema_led : (count : ℕ) (listed : Listed) (k : Key) (r : Reply) → Agrees m (get_schema k) r → Known count (Seeks (GetsSchema listed k)) → LedBy count (Seeks (GetsSchema listed k)) (get_schema k) r
    schema_led count listed k r agrees (none, same, (s, named, there)) =
        let with : schema_with h k ≡ Some s = ap (schema_with h) (sym named) ∙ current_is_with h to s stands.history there in (
          few_first spelled most h h m (goes_on_itself spelled h m stands) from to query s there (count + 1) (omega (arith, none)),
          bytes_lead (count + 1) (get_schema k) (λ bytes. on_read (name.Schema k) (λ attrs. Seeks (GetsFrame listed (record { key = k; attrs = attrs }))) (schema_of bytes)) r (λ bytes said.
              read_lead (count + 1) (name.Schema k) (λ attrs. Seeks (GetsFrame listed (record { key = k; attrs = attrs }))) (schema_of bytes) (λ attrs spells.
              let own : s.attrs ≡ attrs = same_ok (schema_of bytes) s.attrs attrs (told_schema k s with r agrees bytes said) spells in
              (omega (arith, none), same, there ∙ ap Some (same_schema s k attrs named own)))),
        )

    -- a read whose query is not refused gets its first `.vac`
    asks_known : (count : ℕ) (frame : Frame) (there : Schema) → count ≤ 2 → frame_in h ≡ Some frame → current_schema h to ≡ Some there → (o : Result Ready Refusal) → ready_in frame there.attrs query ≡ o
        → Known count (asks_for codec from to (looked_into (Read from to query) (names_under Commits m)) frame there o)
    asks_known count frame there few framed holds (Err refused) ready = tt
    asks_known count frame there few framed holds (Ok found) ready =
        getting_vacs_known count (reading_of from to (looked_into (Read from to query) (names_under Commits m)) frame there found) (record {
          asked = asks_there spelled most h h m (goes_on_itself spelled h m stands) from to query frame there found framed holds ready;
          frags = refl;
          each = λ v at. absurd (Contains-nil v at);
          erased = refl;
          few = omega (arith, few);
        })

    frame_led : (count : ℕ) (listed : Listed) (there : Schema) (r : Reply) → Agrees m get_frame r → Known count (Seeks (GetsFrame listed there)) → LedBy count (Seeks (GetsFrame listed there)) get_frame r
    frame_led count listed there r agrees (few, same, holds) =
        let framed = framed_by_schema h there.key there stands.history (current_is_with h to there stands.history holds) in (
          few_first spelled most h h m (goes_on_itself spelled h m stands) from to query there holds (count + 1) (omega (arith, few)),
          bytes_lead (count + 1) get_frame (λ bytes. on_read name.Domain (λ frame. works codec job job.command listed frame there) (frame_of bytes)) r (λ bytes said.
              read_lead (count + 1) name.Domain (λ frame. works codec job job.command listed frame there) (frame_of bytes) (λ frame spells.
              let own : framed.0 ≡ frame = same_ok (frame_of bytes) framed.0 frame (told_frame framed.0 framed.1 r agrees bytes said) spells in
              subst (λ c. Known (count + 1) (works codec job c listed frame there)) (sym is)
              (subst (λ l. Known (count + 1) (asks_for codec from to l frame there (ready_in frame there.attrs query))) (sym same)
              (asks_known (count + 1) frame there (omega (arith, few)) (framed.1 ∙ ap Some own) holds (ready_in frame there.attrs query) refl)))),
        )

    -- ---- what it collects

    vac_led : (count : ℕ) (r : Reading) (f : FragKey) → slice_get r.counting (length r.vacs) ≡ Some f → HasVacs count r → (said : Reply) → Agrees m (get_vac f) said → LedBy count (Collects (GetsVacs r)) (get_vac f) said
    vac_led count r f at has said agrees =
        let few = has.few in
        let within = slice_get_within r.counting (length r.vacs) f at in
        let counts = counting_held m f (subst (λ fs. Contains fs f) (has.asked).counting_are (Contains-slice_get r.counting (length r.vacs) f at)) in
        let short : (object : List ℕ) → map.get m (vac_of f) ≡ Some object → IsShort object = λ object held. ((stands.merged).reads f object counts.0 held).0 in (
          few_early spelled most h h m (goes_on_itself spelled h m stands) from to query r has.asked (count + 1) (omega (arith, few, within)),
          subst (λ o. Known (count + 1) (with_item (λ g. on_bytes (get_vac g) (after_vac codec r g) said) o)) (sym at)
              (bytes_lead (count + 1) (get_vac f) (after_vac codec r f) said (λ bytes is_said.
              read_lead (count + 1) (vac_of f) (λ names. getting_vacs codec (with_vac r f names)) (names_of bytes) (λ names spells.
              let vac : VacOf = record { frag = f; names = names } in
              let longer = length_push r.vacs vac in
              getting_vacs_known (count + 1) (with_vac r f names) (record {
                asked = asks_on r (r.vacs ++ vac ∷ []) r.clipped r.deletions has.asked;
                frags = push_next (λ v. v.frag) r.vacs vac r.counting has.frags at;
                each = λ v among. elim (Contains-push_cases r.vacs vac v among) [
                  | inl before ↦ has.each v before
                  | inr last ↦ subst (λ v. Names m v.frag v.names) last (record { bytes = bytes; held = told_held (vac_of f) tt said agrees bytes is_said short; reads = spells })
                ];
                erased = has.erased;
                few = omega (arith, few, longer);
              })))),
        )

    head_led : (count : ℕ) (r : Reading) (opened : List Opened) (f : FragKey) → slice_get r.fragments (length opened) ≡ Some f → HasHeads count r opened → (said : Reply) → Agrees m (get_head codec r f) said
        → LedBy count (Collects (GetsHeads r opened)) (get_head codec r f) said
    head_led count r opened f at has said agrees =
        let few = has.few in
        let within = slice_get_within r.fragments (length opened) f at in
        let (p, holds) = near_holds r has.asked f (Contains-slice_get r.fragments (length opened) f at) in
        let object = piece_object r.frame (has.asked).framed f p holds in
        let n : Name = name.Part f (codec.head_part r.frame) in
        let short : (bytes : List ℕ) → map.get m n ≡ Some bytes → IsShort bytes = λ bytes held.
        subst IsShort (same_Some object.object bytes (sym object.held ∙ held)) ((holds.spells).short (codec.head_part r.frame) object.object object.looked) in (
          few_early spelled most h h m (goes_on_itself spelled h m stands) from to query r has.asked (count + 1) (omega (arith, few, within)),
          subst (λ o. Known (count + 1) (with_item (λ g. on_bytes (get_head codec r g) (after_head codec r opened g) said) o)) (sym at)
              (bytes_lead (count + 1) (get_head codec r f) (after_head codec r opened f) said (λ bytes is_said.
              read_lead (count + 1) n (λ head. opening codec r (opened ++ record { frag = f; head = head; object = bytes } ∷ [])) (codec.head r.frame f bytes) (λ head reads.
              let o : Opened = record { frag = f; head = head; object = bytes } in
              let longer = length_push opened o in
              opening_known (count + 1) r (opened ++ o ∷ []) (record {
                asked = has.asked;
                vacs = has.vacs;
                frags = push_next (λ x. x.frag) opened o r.fragments has.frags at;
                each = λ x among. elim (Contains-push_cases opened o x among) [
                  | inl before ↦ has.each x before
                  | inr last ↦ subst (IsRead r.frame) last (record { held = told_held n tt said agrees bytes is_said short; reads = reads })
                ];
                erased = has.erased;
                few = omega (arith, few, longer);
              })))),
        )

    -- a further schema is one of the history
    further_there : (r : Reading) (opened : List Opened) → Chooses r opened → (k : Key) → Contains (keys_named r opened) k → (s : Schema) × (schema_with h k ≡ Some s)
    further_there r opened chooses k at =
        let named = named_apart r opened k at in
        let o = named.0 in
        let among = is_open r opened chooses o named.1 in
        let (p, holds) = near_holds r (chooses.asked) o.frag (subst (λ fs. Contains fs o.frag) chooses.frags (Contains-map (λ x. x.frag) chooses.all o among)) in
        let head = same_head r (chooses.asked).framed o (chooses.each o among) p holds in
        (holds.schema, ap (schema_with h) (sym named.2 ∙ ap (λ x. x.schema) head) ∙ holds.declared)

    further_led : (count : ℕ) (r : Reading) (opened : List Opened) (named : List Key) (schemas : List Schema) (k : Key) → slice_get named (length schemas) ≡ Some k → named ≡ keys_named r opened → HasSchemas count r opened schemas
        → (said : Reply) → Agrees m (get_schema k) said → LedBy count (Collects (GetsSchemas r opened named schemas)) (get_schema k) said
    further_led count r opened named schemas k at same has said agrees =
        let few = has.few in
        let there : slice_get (keys_named r opened) (length schemas) ≡ Some k = ap (λ l. slice_get l (length schemas)) (sym same) ∙ at in
        let within = slice_get_within (keys_named r opened) (length schemas) k there in
        let (s, with) = further_there r opened has.chooses k (Contains-slice_get (keys_named r opened) (length schemas) k there) in
        let key : s.key ≡ k = (schema_with-is h k s with).1 in (
          few_chosen r opened has.chooses (count + 1) (omega (arith, few, within)),
          subst (λ o. Known (count + 1) (with_item (λ g. on_bytes (get_schema g) (after_schema codec r opened named schemas g) said) o)) (sym at)
              (bytes_lead (count + 1) (get_schema k) (after_schema codec r opened named schemas k) said (λ bytes is_said.
              read_lead (count + 1) (name.Schema k) (λ attrs. gathering codec r opened named (schemas ++ record { key = k; attrs = attrs } ∷ [])) (schema_of bytes) (λ attrs spells.
              let own : s.attrs ≡ attrs = same_ok (schema_of bytes) s.attrs attrs (told_schema k s with said agrees bytes is_said) spells in
              let it : Schema = record { key = k; attrs = attrs } in
              let again : s ≡ it = same_schema s k attrs key own in
              let longer = length_push schemas it in
              subst (λ l. Known (count + 1) (gathering codec r opened l (schemas ++ it ∷ []))) (sym same)
              (gathering_known (count + 1) r opened (schemas ++ it ∷ []) (record {
                chooses = has.chooses;
                declared = λ t among. elim (Contains-push_cases schemas it t among) [
                  | inl before ↦ has.declared t before
                  | inr last ↦ subst (λ t. schema_with h t.key ≡ Some t) last (with ∙ ap Some again)
                ];
                erased = has.erased;
                some = omega (arith, within, longer);
                few = omega (arith, few, longer);
              }))))),
        )

    delete_led : (count : ℕ) (r : Reading) (opened : List Opened) (schemas : List Schema) (f : FragKey) → slice_get r.delete_names (length r.deletions) ≡ Some f → HasDeletes count r opened schemas
        → (said : Reply) → Agrees m (get_delete f) said → LedBy count (Collects (GetsDeletes r opened schemas)) (get_delete f) said
    delete_led count r opened schemas f at has said agrees =
        let few = has.few in
        let chooses = has.chooses in
        let within = slice_get_within r.delete_names (length r.deletions) f at in
        let n : Name = name.Commit f Del in
        let of = erase_from_looked spelled m h stands from to f (subst (λ fs. Contains fs f) (chooses.asked).deletes_are (Contains-slice_get r.delete_names (length r.deletions) f at)) in
        let x = of.0 in
        let named : frag_of x.key ≡ f = of.2 in
        let held : map.get m n ≡ Some (cond_object x.cond) = stands.deletes f ∙ ap (option_map (λ y. cond_object y.cond)) (subst (λ g. deletion_of h g ≡ Some x) named (deletion_of_name h x stands.history of.1)) in
        let again = cond_again x.cond (deletion_facts h x stands.history of.1).0 (stands.short_deletes f (cond_object x.cond) held) in (
          few_chosen r opened chooses (count + 1) (omega (arith, few, within)),
          subst (λ o. Known (count + 1) (with_item (λ g. on_bytes (get_delete g) (after_delete codec r opened schemas g) said) o)) (sym at)
              (bytes_lead (count + 1) (get_delete f) (after_delete codec r opened schemas f) said (λ bytes is_said.
              read_lead (count + 1) n (λ condition. getting_deletes codec (with_deletion r (deletion_named f condition)) opened schemas) (cond_of bytes) (λ condition spells.
              let same : bytes ≡ cond_object x.cond = same_Some bytes (cond_object x.cond) (sym (told_held n tt said agrees bytes is_said (stands.short_deletes f)) ∙ held) in
              let own : x.cond ≡ condition = same_ok (cond_of bytes) x.cond condition (ap cond_of same ∙ again) spells in
              let it : Deletion = deletion_named f condition in
              let is_it : x ≡ it = sym (deletion_again x f named) ∙ ap (deletion_named f) own in
              let longer = length_push r.deletions it in
              getting_deletes_known (count + 1) (with_deletion r it) opened schemas (record {
                chooses = record { asked = asks_on r r.vacs r.clipped (r.deletions ++ it ∷ []) chooses.asked; vacs = chooses.vacs; all = chooses.all; frags = chooses.frags; each = chooses.each; chosen = chooses.chosen };
                declared = has.declared;
                frags = push_next (λ y. frag_of y.key) r.deletions it r.delete_names has.frags (at ∙ ap Some (sym named ∙ ap (λ y. frag_of y.key) is_it));
                deeds = λ y among. elim (Contains-push_cases r.deletions it y among) [
                  | inl before ↦ has.deeds y before
                  | inr last ↦ subst (Contains (deletions h)) (is_it ∙ last) of.1
                ];
                few = omega (arith, few, longer);
              })))),
        )

    fetched_known : (count : ℕ) (r : Reading) (opened : List Opened) (schemas : List Schema) (next : ℕ) (frag : FragKey) (got : List Version) (f : F) (c : Call) → IsFetching count r opened schemas next f c → (said : Reply)
        → Known (count + gets_of c) (after_fetched codec r opened schemas next frag got f c said)
    fetched_known count r opened schemas next frag got f c fetching_is said = by_reply said
      where
        told : (r' : Reply) → Known (count + gets_of c) (fetch_leads r opened schemas next frag got (λ vs. fetching codec r opened schemas (suc next) (drop (suc next) opened) (got ++ vs)) (codec.steps f r'))
        told r' =
            let few = fetching_is.few in
            step_known (count + gets_of c) r opened schemas fetching_is.has next frag got (λ vs. fetching codec r opened schemas (suc next) (drop (suc next) opened) (got ++ vs)) f r' (omega (arith, few))
            (λ vs. fetching_known (count + gets_of c) r opened schemas fetching_is.has (drop (suc next) opened) (suc next) (got ++ vs) refl (omega (arith, few))) (codec.steps f r') refl

        by_reply : (r' : Reply) → Known (count + gets_of c) (after_fetched codec r opened schemas next frag got f c r')
        by_reply (reply.Bytes bytes) = told (reply.Bytes bytes)
        by_reply (reply.Length n) = told (reply.Length n)
        by_reply _ = tt

    fetch_led : (count : ℕ) (r : Reading) (opened : List Opened) (schemas : List Schema) (next : ℕ) (frag : FragKey) (got : List Version) (f : F) (c : Call) → IsFetching count r opened schemas next f c → (said : Reply)
        → LedBy count (Collects (Fetches r opened schemas next frag got f c)) c said
    fetch_led count r opened schemas next frag got f c fetching_is said =
        let few = fetching_is.few in
        let has = fetching_is.has in
        (few_fetched r opened has.chooses schemas has (count + gets_of c) (omega (arith, few)), fetched_known count r opened schemas next frag got f c fetching_is said)

    -- ---- every call

    pub call_led : (count : ℕ) (s : State F) → Few count → Known count s → (c : Call) → asks codec job s ≡ Some c → (r : Reply) → Agrees m c r → LedBy count s c r
    call_led count (Seeks ListsCommits) few known c asked r agrees = called count (Seeks ListsCommits) list_commits c r (same_Some list_commits c asked) agrees (λ a. commits_led count r a few known)
    call_led count (Seeks (ListsSchemas listed)) few known c asked r agrees = called count (Seeks (ListsSchemas listed)) list_schemas c r (same_Some list_schemas c asked) agrees (λ a. schemas_led count listed r a few known)
    call_led count (Seeks (GetsSchema listed k)) few known c asked r agrees = called count (Seeks (GetsSchema listed k)) (get_schema k) c r (same_Some (get_schema k) c asked) agrees (λ a. schema_led count listed k r a known)
    call_led count (Seeks (GetsFrame listed there)) few known c asked r agrees = called count (Seeks (GetsFrame listed there)) get_frame c r (same_Some get_frame c asked) agrees (λ a. frame_led count listed there r a known)
    call_led count (Collects (GetsVacs q)) few known c asked r agrees =
        let (f, at, is_c) = asked_of get_vac (slice_get q.counting (length q.vacs)) c asked in
        called count (Collects (GetsVacs q)) (get_vac f) c r (sym is_c) agrees (vac_led count q f at known r)
    call_led count (Collects (GetsHeads q opened)) few known c asked r agrees =
        let (f, at, is_c) = asked_of (get_head codec q) (slice_get q.fragments (length opened)) c asked in
        called count (Collects (GetsHeads q opened)) (get_head codec q f) c r (sym is_c) agrees (head_led count q opened f at known r)
    call_led count (Collects (GetsSchemas q opened named schemas)) few known c asked r agrees =
        let (k, at, is_c) = asked_of get_schema (slice_get named (length schemas)) c asked in
        called count (Collects (GetsSchemas q opened named schemas)) (get_schema k) c r (sym is_c) agrees (further_led count q opened named schemas k at known.0 known.1 r)
    call_led count (Collects (GetsDeletes q opened schemas)) few known c asked r agrees =
        let (f, at, is_c) = asked_of get_delete (slice_get q.delete_names (length q.deletions)) c asked in
        called count (Collects (GetsDeletes q opened schemas)) (get_delete f) c r (sym is_c) agrees (delete_led count q opened schemas f at known r)
    call_led count (Collects (Fetches q opened schemas next frag got f d)) few known c asked r agrees =
        called count (Collects (Fetches q opened schemas next frag got f d)) d c r (same_Some d c asked) agrees (λ a. fetch_led count q opened schemas next frag got f d known r)
    call_led count (Over end) few known c asked r agrees = absurd (none-some c asked)
    call_led count _ few known c asked r agrees = absurd known
