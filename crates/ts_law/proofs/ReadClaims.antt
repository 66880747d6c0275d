-- A read among commands of other lanes makes few gets, by what it found so far.
use Rattle.std.proofs.Common.{◌≡◌, ℕ, suc, ◌+◌, ◌≤◌, Bool, true, false, cond, inl, inr, List, [], ◌∷◌, ◌++◌, Option, Some, None, Result, Ok, Err, length, take, refl, sym, ◌∙◌, ap, subst, arith}
use Rattle.std.specs.Prelude.{Contains, filter, find, not, slice_get, map as list_map}
use Rattle.std.specs.List.{sum_by}
use Rattle.std.specs.Option.{option_map_or}
use Rattle.std.specs.FinMap as map
use Rattle.std.proofs.lemmas.List.{take_all}
use Rattle.std.proofs.lemmas.List.Elements.{Contains-append_left}
use Rattle.std.proofs.lemmas.Option.{none-some, same_Some, slice_get_within}
use Rattle.ts_base.specs.Held.{Held}
use Rattle.ts_base.specs.Keys.{key_cmp, key_eq, frag_of}
use Rattle.ts_base.specs.declared.heads.Head.{Head}
use Rattle.ts_base.specs.declared.heads.Piece.{Piece}
use Rattle.ts_base.specs.declared.keys.FragKey.{FragKey}
use Rattle.ts_base.specs.declared.keys.Key.{Key}
use Rattle.ts_base.specs.declared.names.Prefix.TheVariants.{Commits, Schemas}
use Rattle.ts_commit.specs.Selections.{is_among, loaded}
use Rattle.ts_cond.specs.declared.query.Query.{Query}
use Rattle.ts_schema.specs.declared.schemas.Schema.{Schema}
use Rattle.ts_store.specs.declared.call.Call.{Call}
use Rattle.ts_model.specs.declared.commands.Command.TheVariants.{Read}
use Rattle.ts_model.specs.declared.commands.Job.{Job}
use Rattle.ts_model.specs.declared.deeds.Deletion.{Deletion}
use Rattle.ts_model.specs.declared.states.Opened.{Opened}
use Rattle.ts_model.specs.declared.states.Reading.{Reading}
use Rattle.ts_model.specs.declared.states.State.{State}
use Rattle.ts_model.specs.declared.states.State.TheVariants.{Seeks, Collects, Over}
use Rattle.ts_model.specs.declared.states.Seeking.TheVariants.{ListsCommits, ListsSchemas, GetsSchema, GetsFrame}
use Rattle.ts_model.specs.declared.states.Collecting.TheVariants.{GetsVacs, GetsHeads, GetsSchemas, GetsDeletes, Fetches}
use Rattle.ts_model.specs.Codecs.{Codec, CodecLaws, Spelled, Tracking}
use Rattle.ts_model.specs.Deeds.{History, IsHistory, current_schema, deletion_of, deletions, schema_with}
use Rattle.ts_model.specs.Gets.{AsksBounded, MostGets, gets_of}
use Rattle.ts_model.specs.Jobs.{looks_at}
use Rattle.ts_model.specs.States.{asks, get_delete, get_head, get_schema, get_vac, heads_of, keys_named, known_schema, list_commits, list_schemas, loaded_of, opened_among, want_of}
use Rattle.ts_model.specs.Told.{Told, held_told, history_told}
use Rattle.ts_model.proofs.HistoryLaws.{deletion_of_name, deletions-append, schema_with-append}
use Rattle.ts_model.proofs.KeyLemmas.{key_same}
use Rattle.ts_model.proofs.ListLemmas.{Contains-cons, Contains-here, Contains-nil, Contains-there, filter-Contains, find-Some}
use Rattle.ts_law.specs.Bounds.{FewByListings, FewGets, GetsFew, ListsOver, heads_in, most_for, pieces_loaded, schema_count}
use Rattle.ts_law.specs.Ends.{AreAllVacs, ListedAt}
use Rattle.ts_law.specs.Kept.{AreChosen, AreDeletions, Claims, HasListed, IsOpen, ReadsAt, ReadsIn}
use Rattle.ts_law.specs.Stands.{HoldsIn}
use Rattle.ts_law.proofs.Fetches.{Contains-map}
use Rattle.ts_law.proofs.FetchSteps.{begins_now}
use Rattle.ts_law.proofs.Grows.{holds_in_grows}
use Rattle.ts_law.proofs.ListSteps.{erase_from_looked}
use Rattle.ts_law.proofs.MapValues.{true_from_T}
use Rattle.ts_law.proofs.MergeSources.{new_later}
use Rattle.ts_law.proofs.ReadBounds.{GoesOn, few_early, few_first, few_listed, schemas_enough}
use Rattle.ts_law.proofs.ReadCounts.{Counts, fetch_gets, first_gets, gets_begun, picked_less}
use Rattle.ts_law.proofs.ReadSteps.{asked_of, history_at, named_apart, schema_at_listing}

module _ {F : Type 0} (codec : Codec F) (spelled : Spelled) (tracks : Tracking F) (laws : CodecLaws codec spelled tracks) (gets : F → ℕ) (most : MostGets) (bounded : AsksBounded codec spelled gets most)
    (opening : Held) (past : History) (jobs : List Job) (seen : List Told) (m : Held) (number : ℕ) (job : Job) (is_now : IsHistory (history_told jobs past seen)) where
  -- the history now
  abbrev now : History
  now = history_told jobs past seen

  -- so many gets of the read are few by its listings
  abbrev pub Few : ℕ → ℕ → Query → ℕ → Type 0
  Few from to query count = FewByListings spelled most opening jobs past seen number from to query count

  -- ---- its listings

  module _ (from to : ℕ) (fragments counting delete_names : List FragKey) (there : Schema) (at : ReadsAt spelled opening past jobs seen m number job from to fragments counting delete_names there) where
    abbrev commits : ListedAt seen number Commits
    commits = (at.listed).since.commits

    abbrev schemas : ListedAt seen number Schemas
    schemas = (at.works).schemas

    -- the history as it listed the commits, and what was held then
    abbrev g : History
    g = history_told jobs past commits.before

    abbrev then : Held
    then = held_told opening commits.before

    -- the history as it listed the schemas
    abbrev h : History
    h = history_told jobs past schemas.before

    -- which goes on from the other
    later : (more : History) × (h ≡ g ++ more)
    later = begins_now jobs past schemas.before commits.before commits.listing at.between at.order

    is_h : IsHistory h
    is_h = history_at codec spelled tracks opening past jobs seen m number job schemas is_now

    goes : GoesOn spelled g h then
    goes = record {
      stands = (at.listed).since.stands;
      history = is_h;
      holds = λ f p is. subst (λ x. HoldsIn spelled x then f p) (sym later.1) (holds_in_grows g later.0 (new_later g later.0 (subst IsHistory later.1 is_h)) spelled then f p is);
      erased = λ x among. subst (λ y. Contains (deletions y) x) (sym later.1) (rw (deletions-append g later.0) (Contains-append_left (deletions g) (deletions later.0) x among));
    }

    -- a schema of the one is one of the other
    declared_on : (k : Key) (s : Schema) → schema_with g k ≡ Some s → schema_with h k ≡ Some s
    declared_on k s is = ap (λ x. schema_with x k) later.1 ∙ schema_with-append g later.0 k s is

    -- the schema there held then
    held_there : (query : Query) → job.command ≡ Read from to query → current_schema h to ≡ Some there
    held_there query is = ap (current_schema h) (sym (ap (looks_at job) is)) ∙ (at.works).holds

    few_by : (query : Query) (count : ℕ) → FewGets spelled most h then from to query count → Few from to query count
    few_by query count few = record { commits = commits; schemas = schemas; between = at.between; order = at.order; few = few }

    -- two gets are few where it found its schema
    few_two : (query : Query) → job.command ≡ Read from to query → (count : ℕ) → count ≤ 2 → Few from to query count
    few_two query is count few = few_by query count (few_first spelled most g h then goes from to query there (held_there query is) count few)

  -- ---- its work

  module _ (r : Reading) (reads : ReadsIn spelled opening past jobs seen m number job r) where
    -- the history as it listed the commits, what was held then, and the history as it listed the schemas
    abbrev sooner : History
    sooner = g r.from r.to r.fragments r.counting r.delete_names r.current reads.at

    abbrev held : Held
    held = then r.from r.to r.fragments r.counting r.delete_names r.current reads.at

    abbrev shown : History
    shown = h r.from r.to r.fragments r.counting r.delete_names r.current reads.at

    on : GoesOn spelled sooner shown held
    on = goes r.from r.to r.fragments r.counting r.delete_names r.current reads.at

    -- what it asks for and lists
    asked : ListsOver shown held r.from r.to reads.query r
    asked = record {
      begins = refl;
      ends = refl;
      framed = reads.framed;
      holds = held_there r.from r.to r.fragments r.counting r.delete_names r.current reads.at reads.query reads.reads;
      is_ready = reads.is_ready;
      fragments_are = ((reads.at).listed).fragments_are;
      counting_are = ((reads.at).listed).counting_are;
      deletes_are = ((reads.at).listed).deletes_are;
    }

    -- such gets are few by its listings
    few_so : (count : ℕ) → FewGets spelled most shown held r.from r.to reads.query count → Few r.from r.to reads.query count
    few_so = few_by r.from r.to r.fragments r.counting r.delete_names r.current reads.at reads.query

    -- before it knows what it loads
    few_before : (count : ℕ) → count ≤ 2 + length r.counting + length r.fragments → Few r.from r.to reads.query count
    few_before count few = few_so count (few_early spelled most sooner shown held on r.from r.to reads.query r asked count few)

    -- ---- the gets of fetches

    -- each of these schemas is one of the history now
    abbrev AreDeclared : List Schema → Type 0
    AreDeclared schemas = (s : Schema) → Contains schemas s → schema_with now s.key ≡ Some s

    -- a schema that the read knows is that of the history now
    known_is : (schemas : List Schema) → AreDeclared schemas → (k : Key) (s : Schema) → known_schema r schemas k ≡ Some s → schema_with now k ≡ Some s
    known_is schemas each k s is = by_test (key_eq k r.current.key) refl is
      where
        by_test : (b : Bool) → key_eq k r.current.key ≡ b → cond b (Some r.current) (find (λ t. key_eq t.key k) schemas) ≡ Some s → schema_with now k ≡ Some s
        by_test true tie one = ap (schema_with now) (key_same k r.current.key tie) ∙ ((reads.at).works).declared ∙ one
        by_test false apart one =
            let found = find-Some (λ t. key_eq t.key k) schemas s one in
            ap (schema_with now) (sym (key_same s.key k found.1)) ∙ each s found.0

    -- an open fragment
    abbrev IsThere : Opened → Type 0
    IsThere o = IsOpen codec spelled sooner held r.frame o

    -- the fetch of an open fragment makes no more gets than its piece allows
    fetch_few : (schemas : List Schema) → AreDeclared schemas → (o : Opened) (is : IsThere o) → fetch_gets codec gets r schemas o ≤ most_for most shown r is.piece
    fetch_few schemas each o is = by_schema (known_schema r schemas o.head.schema) refl
      where
        own : Schema
        own = (is.holds).schema

        most_is : most_for most shown r is.piece ≡ most r.frame own is.piece (want_of r own.attrs)
        most_is =
            ap (λ q. option_map_or (λ s. most r.frame s is.piece (want_of r s.attrs)) q 0)
            (declared_on r.from r.to r.fragments r.counting r.delete_names r.current reads.at (is.piece).head.schema own (is.holds).declared)

        there_now : schema_with now o.head.schema ≡ Some own
        there_now =
            ap (λ (x : Head). schema_with now x.schema) is.head
            ∙ schema_at_listing codec spelled tracks opening past jobs seen m number job (((reads.at).listed).since.commits) (is.piece).head.schema own (is.holds).declared

        by_open : (s : Schema) → known_schema r schemas o.head.schema ≡ Some s → (b : Result F ℕ) → codec.opens r.frame s o.frag o.object (want_of r s.attrs) ≡ b → gets_begun gets b ≤ most_for most shown r is.piece
        by_open s known (Err at) begins = omega arith
        by_open s known (Ok f) begins =
            let it : s ≡ own = same_Some s own (sym (known_is schemas each o.head.schema s known) ∙ there_now) in
            let spells : spelled r.frame own is.piece ((is.holds).spells).look = subst (λ x. spelled x own is.piece ((is.holds).spells).look) is.same_frame ((is.holds).spells).spells in
            let opens : codec.opens r.frame own (is.piece).head.frag o.object (want_of r own.attrs) ≡ Ok f =
            ap (λ x. codec.opens r.frame own x o.object (want_of r own.attrs)) ((is.holds).spells).named ∙ ap (λ x. codec.opens r.frame x o.frag o.object (want_of r x.attrs)) (sym it) ∙ begins in
            subst (λ n. gets f ≤ n) (sym most_is) (bounded.fair r.frame own is.piece ((is.holds).spells).look (want_of r own.attrs) o.object f spells is.object opens)

        by_schema : (q : Option Schema) → known_schema r schemas o.head.schema ≡ q → option_map_or (λ s. gets_begun gets (codec.opens r.frame s o.frag o.object (want_of r s.attrs))) q 0 ≤ most_for most shown r is.piece
        by_schema None none = omega arith
        by_schema (Some s) known = by_open s known (codec.opens r.frame s o.frag o.object (want_of r s.attrs)) refl

    -- the pieces in open fragments, in the same order: they have the same heads, and of those that are chosen the fetches make no more gets than the pieces allow
    record HavePieces (frags : List FragKey) (schemas : List Schema) (os : List Opened) : Type 0 where
      pieces : List Piece
      named : list_map (λ p. p.head.frag) pieces ≡ list_map (λ o. o.frag) os
      each : (p : Piece) → Contains pieces p → HoldsIn spelled shown held p.head.frag p
      heads : heads_of os ≡ heads_in pieces
      fewer : sum_by (fetch_gets codec gets r schemas) (opened_among frags os) ≤ sum_by (most_for most shown r) (filter (λ p. is_among p.head.frag frags) pieces)

    pieces_of : (frags : List FragKey) (schemas : List Schema) → AreDeclared schemas → (os : List Opened) → ((o : Opened) → Contains os o → IsThere o) → HavePieces frags schemas os
    pieces_of frags schemas declared [] open_ones = record { pieces = []; named = refl; each = λ p at. absurd (Contains-nil p at); heads = refl; fewer = omega arith }
    pieces_of frags schemas declared (o ∷ os) open_ones =
        let rest = pieces_of frags schemas declared os (λ x at. open_ones x (Contains-there o os x at)) in
        let is = open_ones o (Contains-here o os) in
        let p : Piece = is.piece in
        let same : p.head.frag ≡ o.frag = ((is.holds).spells).named in
        let others : List Opened = opened_among frags os in
        let left : List Piece = filter (λ q. is_among q.head.frag frags) rest.pieces in
        record {
          pieces = p ∷ rest.pieces;
          named = ap (λ x. x ∷ list_map (λ (q : Piece). q.head.frag) rest.pieces) same ∙ ap (λ l. o.frag ∷ l) rest.named;
          each = λ q at. elim (Contains-cons p rest.pieces q at) [
            | inl first ↦ subst (λ x. HoldsIn spelled shown held x.head.frag x) first (subst (λ f. HoldsIn spelled shown held f p) (sym same) (on.holds o.frag p is.holds))
            | inr later ↦ rest.each q later
          ];
          heads = ap (λ x. x ∷ heads_of os) is.head ∙ ap (λ l. p.head ∷ l) rest.heads;
          fewer =
              subst (λ b. sum_by (fetch_gets codec gets r schemas) (cond b (o ∷ others) others) ≤ sum_by (most_for most shown r) (cond (is_among p.head.frag frags) (p ∷ left) left)) (ap (λ f. is_among f frags) same)
              (picked_less (fetch_gets codec gets r schemas) (most_for most shown r) o others p left (fetch_few schemas declared o is) rest.fewer (is_among p.head.frag frags));
        }

    -- ---- once it knows what it loads

    not_true : (b : Bool) → not b ≡ true → b ≡ false
    not_true true is = sym is
    not_true false is = refl

    module _ (opened : List Opened) (chosen : AreChosen codec spelled sooner held r opened) (schemas : List Schema) (declared : AreDeclared schemas) where
      found : HavePieces (loaded_of r chosen.all) schemas chosen.all
      found = pieces_of (loaded_of r chosen.all) schemas declared chosen.all (chosen.are_open).each

      -- they are those in all fragments that it looks into
      frags_are : list_map (λ p. p.head.frag) found.pieces ≡ r.fragments
      frags_are = found.named ∙ (chosen.are_open).frags ∙ ap (λ n. take n r.fragments) chosen.all_open ∙ take_all (length r.fragments) r.fragments (omega arith)

      -- a fragment that it loads is open
      is_open : (o : Opened) → Contains opened o → Contains chosen.all o
      is_open o at = (filter-Contains (λ x. is_among x.frag (loaded_of r chosen.all)) chosen.all o (subst (λ l. Contains l o) chosen.loads at)).0

      -- a further schema is not the one there, and is named by the head of a piece
      further : (k : Key) → Contains (keys_named r opened) k → (key_eq k r.current.key ≡ false) × Contains (r.current.key ∷ list_map (λ head. head.schema) (heads_in found.pieces)) k
      further k at =
          let named = named_apart r opened k at in
          let o = named.0 in
          let among : Contains (heads_in found.pieces) o.head = subst (λ l. Contains l o.head) found.heads (Contains-map (λ x. x.head) chosen.all o (is_open o named.1)) in (
            not_true (key_eq k r.current.key) (ap (λ q. not (key_eq q r.current.key)) (sym named.2) ∙ named.3),
            Contains-there r.current.key (list_map (λ head. head.schema) (heads_in found.pieces)) k (subst (Contains (list_map (λ head. head.schema) (heads_in found.pieces))) named.2 (Contains-map (λ head. head.schema) (heads_in found.pieces) o.head among)),
          )

      -- there are no more of them than count, the one there aside
      abbrev named_map : map.FinMap key_cmp Key
      named_map = map.from_entries {R = key_cmp} (list_map (λ o. (o.head.schema, o.head.schema)) (filter (λ o. not (key_eq o.head.schema r.current.key)) opened))

      enough : suc (length (keys_named r opened)) ≤ schema_count r.current.key (heads_in found.pieces)
      enough = schemas_enough r.current.key (heads_in found.pieces) (map.entries named_map) (true_from_T (map.is_sorted key_cmp (map.entries named_map)) (map.entries_sorted named_map)) further

      -- the gets before the first fetch are few
      few_chosen : (count : ℕ) → count ≤ first_gets r opened → Few r.from r.to reads.query count
      few_chosen count few =
          let more = enough in few_so count (few_listed spelled most sooner shown held on r.from r.to reads.query r asked found.pieces frags_are found.each count (omega (arith, few, more)))

      -- it got all `.vac` objects that count
      all_vacs : AreAllVacs held r.vacs
      all_vacs = record {
        frags = (chosen.are_vacs).frags ∙ ap (λ n. take n r.counting) chosen.all_vacs ∙ take_all (length r.counting) r.counting (omega arith) ∙ ((reads.at).listed).counting_are;
        each = λ v at. ((chosen.are_vacs).each v at).1;
      }

      -- its deletes were those of the history as it listed them
      deeds : AreDeletions now r.delete_names r.deletions → length r.deletions ≡ length r.delete_names → (e : Deletion) → Contains r.deletions e → Contains (deletions shown) e
      deeds is all e at =
          let f = frag_of e.key in
          let names : list_map (λ x. frag_of x.key) r.deletions ≡ r.delete_names = is.names_are ∙ ap (λ n. take n r.delete_names) all ∙ take_all (length r.delete_names) r.delete_names (omega arith) in
          let among : Contains r.delete_names f = subst (λ l. Contains l f) names (Contains-map (λ (x : Deletion). frag_of x.key) r.deletions e at) in
          let listed = (reads.at).listed in
          let (x, deed, named, within) = erase_from_looked spelled held sooner listed.since.stands r.from r.to f (subst (λ fs. Contains fs f) listed.deletes_are among) in
          let grown = begins_now jobs past seen (listed.since.commits).before (listed.since.commits).listing (listed.since.commits).later (listed.since.commits).place in
          let deed_now : Contains (deletions now) x = subst (λ y. Contains (deletions y) x) (sym grown.1) (rw (deletions-append sooner grown.0) (Contains-append_left (deletions sooner) (deletions grown.0) x deed)) in
          let same : x ≡ e = same_Some x e (sym (deletion_of_name now x is_now deed_now) ∙ ap (deletion_of now) named ∙ deletion_of_name now e is_now (is.each e at)) in
          on.erased e (subst (Contains (deletions sooner)) same deed)

      -- with those of its fetches the gets are few too
      few_fetched : AreDeletions now r.delete_names r.deletions → length r.deletions ≡ length r.delete_names → (count : ℕ) → count ≤ first_gets r opened + sum_by (fetch_gets codec gets r schemas) opened → Few r.from r.to reads.query count
      few_fetched is all count few =
          let more = enough in
          let frags_in : List Head → List FragKey = λ heads. list_map (λ head. head.frag) (loaded r.from r.to heads r.vacs) in
          let fetched : sum_by (fetch_gets codec gets r schemas) opened ≤ sum_by (most_for most shown r) (pieces_loaded r found.pieces) =
          subst (λ l. sum_by (fetch_gets codec gets r schemas) l ≤ sum_by (most_for most shown r) (pieces_loaded r found.pieces)) (sym chosen.loads)
          (subst (λ heads. sum_by (fetch_gets codec gets r schemas) (opened_among (loaded_of r chosen.all) chosen.all) ≤ sum_by (most_for most shown r) (filter (λ p. is_among p.head.frag (frags_in heads)) found.pieces)) found.heads
          found.fewer) in
          few_so count (GetsFew r found.pieces
          (record {
            asks = asked;
            frags = frags_are;
            each = found.each;
            vacs = all_vacs;
            deletes = is.names_are ∙ ap (λ n. take n r.delete_names) all ∙ take_all (length r.delete_names) r.delete_names (omega arith);
            deeds = deeds is all;
          })
          (omega (arith, few, more, fetched)))

  -- ---- every get

  module _ (from to : ℕ) (query : Query) (is : job.command ≡ Read from to query) where
    -- what the command reads is this
    as_asked : (a b : ℕ) (q : Query) → job.command ≡ Read a b q → (count : ℕ) → Few a b q count → Few from to query count
    as_asked a b q reads count few =
        let same : Read a b q ≡ Read from to query = sym reads ∙ is in
        let begins : a ≡ from = cc in
        let ends : b ≡ to = cc in
        let asks_it : q ≡ query = cc in
        subst (λ x. Few x to query count) begins (subst (λ x. Few a x query count) ends (subst (λ x. Few a b x count) asks_it few))

    -- a listing is no get
    no_get : (c d : Call) → d ≡ c → gets_of d ≡ 0 → gets_of c ≡ 1 → ⊥
    no_get c d same none one = let clash : 0 ≡ 1 = sym none ∙ ap gets_of same ∙ one in omega (arith, clash)

    -- a read that makes a get in a state makes few, with those that it made before
    pub few_with : (s : State F) → Claims codec spelled tracks opening past jobs seen m number job s → (count : ℕ) → Counts codec gets bounded.pays count s
        → (c : Call) → asks codec job s ≡ Some c → gets_of c ≡ 1 → Few from to query (count + 1)
    few_with (Seeks ListsCommits) claims count none c asks_it one = absurd (no_get c list_commits (same_Some list_commits c asks_it) refl one)
    few_with (Seeks (ListsSchemas listed)) claims count none c asks_it one = absurd (no_get c list_schemas (same_Some list_schemas c asks_it) refl one)
    few_with (Seeks (GetsSchema listed k)) claims count none c asks_it one =
        let (s, named, has) = claims.1 in
        let at : HasListed spelled opening past jobs seen m number job (Read from to query) listed s = subst (λ x. HasListed spelled opening past jobs seen m number job x listed s) is has in
        few_two from to listed.fragments listed.counting listed.delete_names s at query is (count + 1) (omega (arith, none))
    few_with (Seeks (GetsFrame listed there)) claims count few c asks_it one =
        let at : HasListed spelled opening past jobs seen m number job (Read from to query) listed there = subst (λ x. HasListed spelled opening past jobs seen m number job x listed there) is claims.1 in
        few_two from to listed.fragments listed.counting listed.delete_names there at query is (count + 1) (omega (arith, few))
    few_with (Collects (GetsVacs r)) claims count has c asks_it one =
        let reads = (claims.1).reads in
        let (f, at, is_c) = asked_of get_vac (slice_get r.counting (length r.vacs)) c asks_it in
        let few = has.few in
        let within = slice_get_within r.counting (length r.vacs) f at in
        as_asked r.from r.to reads.query reads.reads (count + 1) (few_before r reads (count + 1) (omega (arith, few, within)))
    few_with (Collects (GetsHeads r opened)) claims count has c asks_it one =
        let reads = (claims.1).reads in
        let (f, at, is_c) = asked_of (get_head codec r) (slice_get r.fragments (length opened)) c asks_it in
        let few = has.few in
        let within = slice_get_within r.fragments (length opened) f at in
        as_asked r.from r.to reads.query reads.reads (count + 1) (few_before r reads (count + 1) (omega (arith, few, within)))
    few_with (Collects (GetsSchemas r opened named schemas)) claims count has c asks_it one =
        let gathers = claims.2 in
        let reads = gathers.reads in
        let (k, at, is_c) = asked_of get_schema (slice_get named (length schemas)) c asks_it in
        let few = (has.1).few in
        let there : slice_get (keys_named r opened) (length schemas) ≡ Some k = ap (λ l. slice_get l (length schemas)) (sym has.0) ∙ at in
        let within = slice_get_within (keys_named r opened) (length schemas) k there in
        as_asked r.from r.to reads.query reads.reads (count + 1) (few_chosen r reads opened gathers.chosen schemas (gathers.gathered).each (count + 1) (omega (arith, few, within)))
    few_with (Collects (GetsDeletes r opened schemas)) claims count has c asks_it one =
        let gathers = (claims.1).gathers in
        let reads = gathers.reads in
        let (f, at, is_c) = asked_of get_delete (slice_get r.delete_names (length r.deletions)) c asks_it in
        let few = has.few in
        let within = slice_get_within r.delete_names (length r.deletions) f at in
        as_asked r.from r.to reads.query reads.reads (count + 1) (few_chosen r reads opened gathers.chosen schemas (gathers.gathered).each (count + 1) (omega (arith, few, within)))
    few_with (Collects (Fetches r opened schemas next frag got f d)) claims count few c asks_it one =
        let fetching = claims.2.0 in
        let gathers = (fetching.deletes_found).gathers in
        let reads = gathers.reads in
        let own : gets_of d ≡ 1 = ap gets_of (same_Some d c asks_it) ∙ one in
        as_asked r.from r.to reads.query reads.reads (count + 1)
        (few_fetched r reads opened gathers.chosen schemas (gathers.gathered).each (fetching.deletes_found).deletions fetching.all_deletes (count + 1) (omega (arith, few, own)))
    few_with (Over end) claims count has c asks_it one = absurd (none-some c asks_it)
    few_with _ claims count has c asks_it one = absurd has
