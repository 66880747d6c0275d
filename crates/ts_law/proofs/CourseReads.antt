-- The gets and sizes of a read, once it has the schema there and the frame.
use Rattle.std.proofs.Common.{length, ◌≡◌, ℕ, suc, Bool, true, false, cond, ◌⊎◌, List, [], ◌∷◌, ◌++◌, drop, Option, Some, None, Result, Ok, Err, IsTrue, refl, sym, ◌∙◌, ap, inl, inr, subst, slice_get}
use Rattle.std.specs.Prelude.{Contains, filter, find, not, option_map, nat_lt, take}
use Rattle.std.proofs.lemmas.Bool.{true≢false, ltb-false}
use Rattle.std.proofs.lemmas.List.{length_push, take_all}
use Rattle.std.specs.Result.{result_err}
use Rattle.std.proofs.lemmas.Option.{same_Some, none-some}
use Rattle.std.proofs.lemmas.List.Elements.{Contains-push, Contains-push_cases}
use Rattle.ts_base.specs.declared.keys.Key.{Key}
use Rattle.ts_base.specs.Keys.{key_eq}
use Rattle.ts_base.specs.declared.keys.FragKey.{FragKey}
use Rattle.ts_base.specs.declared.names.Name.{Name}
use Rattle.ts_base.specs.declared.names.Part.{Part}
use Rattle.ts_base.specs.declared.heads.Head.{Head}
use Rattle.ts_base.specs.declared.heads.Version.{Version}
use Rattle.ts_schema.specs.declared.schemas.Schema.{Schema}
use Rattle.ts_schema.specs.declared.attrs.Attr.{Attr}
use Rattle.ts_schema.specs.SchemaTexts.{schema_of}
use Rattle.ts_store.specs.declared.call.Call.{Call}
use Rattle.ts_store.specs.declared.call.Reply.{Reply}
use Rattle.ts_model.specs.declared.commands.Job.{Job}
use Rattle.ts_model.specs.declared.answers.Outcome.{Outcome}
use Rattle.ts_model.specs.declared.states.State.{State}
use Rattle.ts_model.specs.declared.states.Opened.{Opened}
use Rattle.ts_model.specs.declared.states.Reading.{Reading}
use Rattle.ts_model.specs.declared.states.State.TheVariants.{Collects}
use Rattle.ts_model.specs.declared.states.Collecting.TheVariants.{GetsVacs, GetsHeads, GetsSchemas, GetsDeletes, Fetches}
use Rattle.ts_model.specs.declared.commands.Command.TheVariants.{Read}
use Rattle.ts_model.specs.Codecs.{Codec, Stepped, Asks, Takes, Breaks, is_look, AsksLooks}
use Rattle.ts_model.specs.States.{Exchange, get_all, get_head, get_schema, on_bytes, after_fetched, opening, gathering, fetching, fetches_one, fetch_leads, fetch_begins, after_head, after_schema, known_schema, keys_named, want_of, answer_of, on_read, getting_deletes, with_deletion, deletion_named, get_delete, after_delete, get_vac, after_vac, getting_vacs, heads_of, loaded_of, loads, opened_among, vac_of, with_clipped, with_vac, committed_in, deletes_in, list_commits, meets}
use Rattle.ts_law.specs.Courses.{Found, SaysFound, GotSchema, IsGot, IsOpened, IsFetched, IsUnderWay, IsListedIn, IsCountingIn, IsLookedInto, LooksInside, MayFetch, AtVac, AtHead, AtSchema, AtDelete, InFetch, IsLookBy, IsLookOf, IsNamedFor, AreDeletesOf, GotDelete, IsWantOf, BreaksPart, lets_on, refused_in}
use Rattle.ts_model.proofs.KeyLemmas.{key_same, key_itself}
use Rattle.ts_model.proofs.ListLemmas.{Contains-here, Contains-there, filter-Contains, find-Some, take_next}
use Rattle.ts_model.specs.declared.deeds.Deletion.{Deletion}
use Rattle.ts_model.specs.declared.queries.Ready.{Ready}
use Rattle.ts_cond.specs.declared.query.Query.{Query}
use Rattle.ts_cond.specs.CondTexts.{cond_of}
use Rattle.ts_commit.specs.declared.vacs.VacOf.{VacOf}
use Rattle.ts_commit.specs.Selections.{clipped_names, is_among}
use Rattle.ts_commit.specs.Vacs.{names_of}
use Rattle.ts_cond.specs.Tests.{Condition}
use Rattle.ts_base.specs.declared.names.CommitKind.TheVariants.{Del}
use Rattle.ts_model.specs.Queries.{ready_in}
use Rattle.ts_law.proofs.CourseCalls.{lets_bytes, lets_length, look_leaves, dropped, item_in, Goes, Follows, Next, next_is, follows_on, follows_over, follows_none, follows_refused, follows_ended, goes_none, goes_by}
use Rattle.ts_law.proofs.CourseGrows.{counting_stays, deletes_more, deletes_stay, among_more, schema_stays, got_stays, listed_stays, way_stays}
use Rattle.ts_law.proofs.ReadSteps.{named_apart}
use Rattle.ts_base.specs.declared.names.Name.TheVariants as name
use Rattle.ts_store.specs.declared.call.Reply.TheVariants as reply
use Rattle.ts_model.specs.declared.answers.Outcome.TheVariants as outcome
use Rattle.ts_model.specs.declared.answers.Refusal.TheVariants as refusal

-- a fetch that came to wait for a call comes by the reply to it to wait for another
pub fetched_on : {F : Type 0} (codec : Codec F) (trace : List Exchange) (f : F) (c : Call) (replies : List Reply) (g : F) (d : Call) (r : Reply) (h : F) (b : Call)
    → IsFetched codec trace f c replies g d → Contains trace (record { call = d; reply = r }) → codec.steps g r ≡ Asks h b → IsFetched codec trace f c (replies ++ r ∷ []) h b
fetched_on codec trace f c [] g d r h b (same_f, same_c) told steps =
    (subst (λ k. Contains trace (record { call = k; reply = r })) (sym same_c) told, h, b, ap (λ k. codec.steps k r) same_f ∙ steps, (refl, refl))
fetched_on codec trace f c (s ∷ replies) g d r h b (told_s, k, e, asks_e, more) told steps = (told_s, k, e, asks_e, fetched_on codec trace k e replies g d r h b more told steps)

module _ {F : Type 0} (codec : Codec F) (job : Job) where
  -- ---- reads

  module _ (looks : AsksLooks codec) (from to : ℕ) (query : Query) (is : job.command ≡ Read from to query) (found : Found) (ready : Ready) (is_ready : ready_in found.frame (found.current).attrs query ≡ Ok ready) where
    -- no reply to a read says what it found
    silent : (c : Call) (r : Reply) → SaysFound found job.command c r
    silent c r = subst (λ k. SaysFound found k c r) (sym is) tt

    -- nothing stands against the read
    unrefused : refused_in found job.command ≡ None
    unrefused = subst (λ k. refused_in found k ≡ None) (sym is) (ap result_err is_ready)

    -- what the read asks of the interval in what it found
    abbrev reading : List FragKey → List FragKey → List VacOf → List FragKey → List FragKey → List Deletion → Reading
    reading fragments counting vacs clipped delete_names erased = record { from = from; to = to; ready = ready; frame = found.frame; current = found.current; fragments = fragments; counting = counting; vacs = vacs; clipped = clipped; delete_names = delete_names; deletions = erased }

    -- the fragment is near, and the object of its part with the head was got, and has this head
    abbrev WasOpened : List Exchange → Reading → Opened → Type 0
    WasOpened seen r o = IsLookedInto seen from to o.frag × Contains seen (record { call = get_all (name.Part o.frag (codec.head_part r.frame)); reply = reply.Bytes o.object }) × (codec.head r.frame o.frag o.object ≡ Ok o.head)

    -- a read got what it found, the objects that it opened and its further schemas, and it listed what it looks into
    pub record HasGot (seen : List Exchange) (r : Reading) (opened : List Opened) (schemas : List Schema) : Type 0 where
      pub finds : r ≡ reading r.fragments r.counting r.vacs r.clipped r.delete_names r.deletions
      pub got : IsGot job found seen
      pub fragments : (f : FragKey) → Contains r.fragments f → IsLookedInto seen from to f
      pub merged : (f : FragKey) → Contains r.counting f → IsCountingIn seen f
      -- its deletes are the first of those that it listed in the interval
      pub names : List Name
      pub listed : Contains seen (record { call = list_commits; reply = reply.Names names })
      pub dead : r.delete_names ≡ filter (meets from to) (deletes_in names)
      pub told : AreDeletesOf seen (take (length r.deletions) r.delete_names) r.deletions
      pub objects : (o : Opened) → Contains opened o → WasOpened seen r o
      pub further : (s : Schema) → Contains schemas s → GotSchema seen s

    -- a name of a delete was listed
    dead_listed : (seen : List Exchange) (r : Reading) (opened : List Opened) (schemas : List Schema) → HasGot seen r opened schemas → (f : FragKey) → Contains r.delete_names f → IsListedIn deletes_in seen from to f
    dead_listed seen r opened schemas has f at =
        let kept = filter-Contains (meets from to) (deletes_in has.names) f (subst (λ l. Contains l f) has.dead at) in
        (has.names, has.listed, kept.0, kept.1)

    -- so it has after a call more
    has_more : (seen : List Exchange) (x : Exchange) (r : Reading) (opened : List Opened) (schemas : List Schema) → HasGot seen r opened schemas → HasGot (seen ++ x ∷ []) r opened schemas
    has_more seen x r opened schemas has = record {
      finds = has.finds;
      got = got_stays job found seen (seen ++ x ∷ []) (among_more seen x) has.got;
      fragments = λ f at. listed_stays committed_in seen (seen ++ x ∷ []) from to f (among_more seen x) (has.fragments f at);
      merged = λ f at. counting_stays seen (seen ++ x ∷ []) f (among_more seen x) (has.merged f at);
      names = has.names;
      listed = among_more seen x _ has.listed;
      dead = has.dead;
      told = deletes_stay seen (seen ++ x ∷ []) (take (length r.deletions) r.delete_names) r.deletions (among_more seen x) has.told;
      objects = λ o at. let was = has.objects o at in (listed_stays committed_in seen (seen ++ x ∷ []) from to o.frag (among_more seen x) was.0, among_more seen x _ was.1, was.2);
      further = λ s at. schema_stays seen (seen ++ x ∷ []) s (among_more seen x) (has.further s at);
    }

    -- a look inside is one of a read
    looks_inside : (seen : List Exchange) (c : Call) → IsGot job found seen → LooksInside codec job found seen from to c → IsLookOf codec job found seen c
    looks_inside seen c got inside = subst (λ k. IsLookBy codec job found seen k c) (sym is) (inr (got, inside))

    -- a read that got the schema there and the frame may fetch
    may_fetch : (seen : List Exchange) (f : FragKey) → IsGot job found seen → MayFetch codec job found seen job.command f
    may_fetch seen f got = subst (λ k. MayFetch codec job found seen k f) (sym is) got

    -- it got each schema that it knows
    known_got : (seen : List Exchange) (r : Reading) (opened : List Opened) (schemas : List Schema) (k : Key) (s : Schema) → HasGot seen r opened schemas → known_schema r schemas k ≡ Some s → GotSchema seen s × (s.key ≡ k)
    known_got seen r opened schemas k s has is = by_test (key_eq k (r.current).key) refl is
      where
        by_test : (b : Bool) → key_eq k (r.current).key ≡ b → cond b (Some r.current) (find (λ t. key_eq t.key k) schemas) ≡ Some s → GotSchema seen s × (s.key ≡ k)
        by_test true test one =
            let same : r.current ≡ s = same_Some r.current s one in
            (subst (GotSchema seen) (sym (ap (λ q. q.current) has.finds) ∙ same) has.got.schema, sym (ap (λ t. t.key) same) ∙ sym (key_same k (r.current).key test))
        by_test false test one =
            let (there, test_s) = find-Some (λ t. key_eq t.key k) schemas s one in
            (has.further s there, key_same s.key k test_s)

    -- it was told all deletes that it listed in the interval
    abbrev HasAll : List Exchange → Reading → Type 0
    HasAll seen r = AreDeletesOf seen r.delete_names r.deletions

    -- how the fetch of a fragment began that the read opened in a schema that it knows
    opens_so : (seen : List Exchange) (r : Reading) (opened : List Opened) (schemas : List Schema) (o : Opened) (s : Schema) (begun : Result F ℕ) → HasGot seen r opened schemas → HasAll seen r → Contains opened o → known_schema r schemas (o.head).schema ≡ Some s
        → codec.opens r.frame s o.frag o.object (want_of r s.attrs) ≡ begun → IsOpened codec job found seen o.frag begun
    opens_so seen r opened schemas o s begun has all among knows is_begun =
        let was = has.objects o among in
        let known = known_got seen r opened schemas (o.head).schema s has knows in
        let Got : Reading → Type 0 = λ q. Contains seen (record { call = get_all (name.Part o.frag (codec.head_part q.frame)); reply = reply.Bytes o.object }) in
        let Heads : Reading → Type 0 = λ q. codec.head q.frame o.frag o.object ≡ Ok o.head in
        record {
          object = o.object;
          got = subst Got has.finds was.1;
          head = o.head;
          reads = subst Heads has.finds was.2;
          schema = s;
          schema_got = known.0;
          named = subst (λ k. IsNamedFor codec found seen k o.head s) (sym is) known.1;
          want = want_of r s.attrs;
          wants = subst (λ k. IsWantOf found seen k s (want_of r s.attrs)) (sym is) (
            r,
            record {
              from_is = ap (λ q. q.from) has.finds;
              to_is = ap (λ q. q.to) has.finds;
              frame_is = ap (λ q. q.frame) has.finds;
              there_is = ap (λ q. q.current) has.finds;
              is_ready = is_ready ∙ ap (λ q. Ok q.ready) (sym has.finds);
              names = has.names;
              listed = has.listed;
              deletes = subst (λ l. AreDeletesOf seen l r.deletions) has.dead all;
            },
            refl,
          );
          opens = ap (λ q. codec.opens q.frame s o.frag o.object (want_of r s.attrs)) (sym has.finds) ∙ is_begun;
        }

    -- each of the keys is named by the head of one of these fragments
    abbrev AreNamed : Reading → List Opened → List Key → Type 0
    AreNamed r opened named = (k : Key) → Contains named k → (o : Opened) × Contains opened o × (o.head.schema ≡ k) × (not (key_eq o.head.schema r.current.key) ≡ true)

    -- the calls of a read, from any of its states on, are looks, and end by it
    pub record ReadsOn (seen xs : List Exchange) (end : Outcome) : Type 0 where
      vacs : (r : Reading) → HasGot seen r [] [] → Goes codec job seen found [] xs end (Collects (GetsVacs r))
      heads : (r : Reading) (opened : List Opened) → HasGot seen r opened [] → Goes codec job seen found [] xs end (Collects (GetsHeads r opened))
      gets : (r : Reading) (opened : List Opened) (named : List Key) (schemas : List Schema) → AreNamed r opened named → HasGot seen r opened schemas → Goes codec job seen found [] xs end (Collects (GetsSchemas r opened named schemas))
      deletes : (r : Reading) (opened : List Opened) (schemas : List Schema) → HasGot seen r opened schemas → Goes codec job seen found [] xs end (Collects (GetsDeletes r opened schemas))
      fetches : (r : Reading) (opened : List Opened) (schemas : List Schema) (next : ℕ) (frag : FragKey) (got : List Version) (f : F) (c : Call) → HasGot seen r opened schemas → HasAll seen r → IsLookedInto seen from to frag → IsUnderWay codec job found seen frag f c → IsTrue (is_look c)
          → Goes codec job seen found [] xs end (Collects (Fetches r opened schemas next frag got f c))

    -- after a call that lets the read go on
    module _ (seen : List Exchange) (course : List Call) (x : Exchange) (xs : List Exchange) (end : Outcome) (on : IsTrue (lets_on x.call x.reply)) (following : Next codec job seen found course x.call []) (later : ReadsOn (seen ++ x ∷ []) xs end) where
      -- the calls with this one
      abbrev now : List Exchange
      now = seen ++ x ∷ []

      -- a step of a fetch
      follows_step : (r : Reading) (opened : List Opened) (schemas : List Schema) (next : ℕ) (frag : FragKey) (got : List Version) (then : List Version → State F) (f : F) (said : Reply) (step : Stepped F)
          → HasGot now r opened schemas → HasAll now r → IsLookedInto now from to frag → ((g : F) (c : Call) → codec.steps f said ≡ Asks g c → IsUnderWay codec job found now frag g c)
          → ((part : Part) (at : ℕ) → codec.steps f said ≡ Breaks part at → BreaksPart codec job found now x frag part at)
          → codec.steps f said ≡ step → ((vs : List Version) → Follows codec job seen found course x xs end (then vs)) → Follows codec job seen found course x xs end (fetch_leads r opened schemas next frag got then step)
      follows_step r opened schemas next frag got then f said (Asks g c) objects all fragments waits breaks steps each =
          follows_on codec job seen found course [] x xs end (Collects (Fetches r opened schemas next frag got g c)) (silent x.call x.reply) on following (later.fetches r opened schemas next frag got g c objects all fragments (waits g c steps) (looks f said g c steps))
      follows_step r opened schemas next frag got then f said (Takes vs) objects all fragments waits breaks steps each = each vs
      follows_step r opened schemas next frag got then f said (Breaks part at) objects all fragments waits breaks steps each =
          follows_refused codec job seen found course [] x xs end (refusal.Damaged (name.Part frag part) at) (silent x.call x.reply) following (inr (frag, part, refl, may_fetch now frag objects.got, breaks part at steps))

      -- the fetch of one fragment
      follows_one : (r : Reading) (opened : List Opened) (schemas : List Schema) (next : ℕ) (o : Opened) (got : List Version) (then : List Version → State F) (s : Option Schema) → known_schema r schemas (o.head).schema ≡ s
          → HasGot now r opened schemas → HasAll now r → Contains opened o → ((vs : List Version) → Follows codec job seen found course x xs end (then vs)) → Follows codec job seen found course x xs end (fetches_one codec r opened schemas next o got then s)
      follows_one r opened schemas next o got then None knows objects all among each = follows_none codec job seen found course [] x xs end (silent x.call x.reply) following
      follows_one r opened schemas next o got then (Some s) knows objects all among each = by_opening (codec.opens r.frame s o.frag o.object (want_of r s.attrs)) refl
        where
          by_opening : (b : Result F ℕ) → codec.opens r.frame s o.frag o.object (want_of r s.attrs) ≡ b → Follows codec job seen found course x xs end (fetch_begins codec r opened schemas next o.frag got then b)
          by_opening (Ok f) is_begun =
              let start = opens_so now r opened schemas o s (Ok f) objects all among knows is_begun in
              follows_step r opened schemas next o.frag got then f reply.Start (codec.steps f reply.Start) objects all (objects.objects o among).0
              (λ g c steps. record { first = f; opened = start; begun = g; asked = c; begins = steps; replies = []; fetched = (refl, refl) }) (λ part at steps. inr (f, inl (start, steps))) refl each
          by_opening (Err at) is_begun =
              follows_refused codec job seen found course [] x xs end (refusal.Damaged (name.Part o.frag (codec.head_part r.frame)) at) (silent x.call x.reply) following
              (inr (o.frag, codec.head_part r.frame, refl, may_fetch now o.frag objects.got, inl (ap (λ q. codec.head_part q.frame) objects.finds, opens_so now r opened schemas o s (Err at) objects all among knows is_begun)))

      -- the fetches of the fragments that are left
      follows_fetching : (r : Reading) (opened : List Opened) (schemas : List Schema) (next : ℕ) (rest : List Opened) (got : List Version)
          → HasGot now r opened schemas → HasAll now r → ((o : Opened) → Contains rest o → Contains opened o) → Follows codec job seen found course x xs end (fetching codec r opened schemas next rest got)
      follows_fetching r opened schemas next [] got objects all among =
          follows_over codec job seen found course [] x xs end (outcome.Read (answer_of r schemas got)) (silent x.call x.reply) following ((on, ([], next_is codec job seen found course x.call [] following, refl)), (from, to, query, is), objects.got, unrefused)
      follows_fetching r opened schemas next (o ∷ rest) got objects all among =
          follows_one r opened schemas next o got (λ vs. fetching codec r opened schemas (suc next) rest (got ++ vs)) (known_schema r schemas o.head.schema) refl objects all (among o (Contains-here o rest))
          (λ vs. follows_fetching r opened schemas (suc next) rest (got ++ vs) objects all (λ p at. among p (Contains-there o rest p at)))

      -- the gets of the deletes that are left
      follows_getting_deletes : (r : Reading) (opened : List Opened) (schemas : List Schema) → HasGot now r opened schemas → Follows codec job seen found course x xs end (getting_deletes codec r opened schemas)
      follows_getting_deletes r opened schemas objects = by_count (nat_lt (length r.deletions) (length r.delete_names)) refl
        where
          by_count : (b : Bool) → nat_lt (length r.deletions) (length r.delete_names) ≡ b → Follows codec job seen found course x xs end (cond b (Collects (GetsDeletes r opened schemas)) (fetching codec r opened schemas 0 opened []))
          by_count true more = follows_on codec job seen found course [] x xs end (Collects (GetsDeletes r opened schemas)) (silent x.call x.reply) on following (later.deletes r opened schemas objects)
          by_count false done =
              follows_fetching r opened schemas 0 opened [] objects (subst (λ l. AreDeletesOf now l r.deletions) (take_all (length r.deletions) r.delete_names (ltb-false (length r.deletions) (length r.delete_names) done)) objects.told) (λ o at. at)

      -- the gets of the further schemas that are left
      follows_gathering : (r : Reading) (opened : List Opened) (named : List Key) (schemas : List Schema) → AreNamed r opened named → HasGot now r opened schemas → Follows codec job seen found course x xs end (gathering codec r opened named schemas)
      follows_gathering r opened named schemas names objects = by_count (nat_lt (length schemas) (length named))
        where
          by_count : (b : Bool) → Follows codec job seen found course x xs end (cond b (Collects (GetsSchemas r opened named schemas)) (getting_deletes codec r opened schemas))
          by_count true = follows_on codec job seen found course [] x xs end (Collects (GetsSchemas r opened named schemas)) (silent x.call x.reply) on following (later.gets r opened named schemas names objects)
          by_count false = follows_getting_deletes r opened schemas objects

      -- the fragments that are loaded
      chosen_has : (r : Reading) (opened : List Opened) (frags clipped : List FragKey) → HasGot now r opened [] → HasGot now (with_clipped r clipped) (opened_among frags opened) []
      chosen_has r opened frags clipped has = record {
        finds = ap (λ q. with_clipped q clipped) has.finds;
        got = has.got;
        fragments = has.fragments;
        merged = has.merged;
        names = has.names;
        listed = has.listed;
        dead = has.dead;
        told = has.told;
        objects = λ o at. has.objects o (filter-Contains (λ x. is_among x.frag frags) opened o at).0;
        further = has.further;
      }

      -- the gets of the heads that are left
      pub follows_opening : (r : Reading) (opened : List Opened) → HasGot now r opened [] → Follows codec job seen found course x xs end (opening codec r opened)
      follows_opening r opened objects = by_count (nat_lt (length opened) (length r.fragments))
        where
          clipped : List FragKey
          clipped = clipped_names r.from r.to (heads_of opened)

          chosen : List Opened
          chosen = opened_among (loaded_of r opened) opened

          by_count : (b : Bool) → Follows codec job seen found course x xs end (cond b (Collects (GetsHeads r opened)) (loads codec (with_clipped r clipped) chosen))
          by_count true = follows_on codec job seen found course [] x xs end (Collects (GetsHeads r opened)) (silent x.call x.reply) on following (later.heads r opened objects)
          by_count false = follows_gathering (with_clipped r clipped) chosen (keys_named (with_clipped r clipped) chosen) [] (named_apart (with_clipped r clipped) chosen) (chosen_has r opened (loaded_of r opened) clipped objects)

      -- the gets of the `.vac` objects that are left
      pub follows_getting_vacs : (r : Reading) → HasGot now r [] [] → Follows codec job seen found course x xs end (getting_vacs codec r)
      follows_getting_vacs r objects = by_count (nat_lt (length r.vacs) (length r.counting))
        where
          by_count : (b : Bool) → Follows codec job seen found course x xs end (cond b (Collects (GetsVacs r)) (opening codec r []))
          by_count true = follows_on codec job seen found course [] x xs end (Collects (GetsVacs r)) (silent x.call x.reply) on following (later.vacs r objects)
          by_count false = follows_opening r [] objects

    -- one object more
    object_pushed : (seen : List Exchange) (r : Reading) (opened : List Opened) (o : Opened) → HasGot seen r opened [] → WasOpened seen r o → HasGot seen r (opened ++ o ∷ []) []
    object_pushed seen r opened o has was = record { finds = has.finds; got = has.got; fragments = has.fragments; merged = has.merged; names = has.names; listed = has.listed; dead = has.dead; told = has.told; objects = λ p at. by_case p (Contains-push_cases opened o p at); further = has.further }
      where
        by_case : (p : Opened) → Contains opened p ⊎ (o ≡ p) → WasOpened seen r p
        by_case p (inl old) = has.objects p old
        by_case p (inr new) = subst (WasOpened seen r) new was

    -- one schema more
    schema_pushed : (seen : List Exchange) (r : Reading) (opened : List Opened) (schemas : List Schema) (s : Schema) → HasGot seen r opened schemas → GotSchema seen s → HasGot seen r opened (schemas ++ s ∷ [])
    schema_pushed seen r opened schemas s has got = record { finds = has.finds; got = has.got; fragments = has.fragments; merged = has.merged; names = has.names; listed = has.listed; dead = has.dead; told = has.told; objects = has.objects; further = λ t at. by_case t (Contains-push_cases schemas s t at) }
      where
        by_case : (t : Schema) → Contains schemas t ⊎ (s ≡ t) → GotSchema seen t
        by_case t (inl old) = has.further t old
        by_case t (inr new) = subst (GotSchema seen) new got

    -- one delete more
    delete_pushed : (seen : List Exchange) (r : Reading) (opened : List Opened) (schemas : List Schema) (f : FragKey) (e : Deletion) → slice_get r.delete_names (length r.deletions) ≡ Some f → GotDelete seen f e → HasGot seen r opened schemas
        → HasGot seen (with_deletion r e) opened schemas
    delete_pushed seen r opened schemas f e next got has = record {
      finds = ap (λ q. with_deletion q e) has.finds;
      got = has.got;
      fragments = has.fragments;
      merged = has.merged;
      names = has.names;
      listed = has.listed;
      dead = has.dead;
      told = subst (λ l. AreDeletesOf seen l (r.deletions ++ e ∷ [])) (sym (take_next r.delete_names (length r.deletions) f next) ∙ ap (λ n. take n r.delete_names) (sym (length_push r.deletions e)))
          (deletes_more seen (take (length r.deletions) r.delete_names) r.deletions f e has.told got);
      objects = has.objects;
      further = has.further;
    }

    -- one `.vac` more
    vac_pushed : (seen : List Exchange) (r : Reading) (f : FragKey) (names : List FragKey) → HasGot seen r [] [] → HasGot seen (with_vac r f names) [] []
    vac_pushed seen r f names has = record { finds = ap (λ q. with_vac q f names) has.finds; got = has.got; fragments = has.fragments; merged = has.merged; names = has.names; listed = has.listed; dead = has.dead; told = has.told; objects = has.objects; further = has.further }

    -- a `.vac`
    vacs_go : (seen : List Exchange) (x : Exchange) (xs : List Exchange) (end : Outcome) → ((y : Exchange) → ReadsOn (seen ++ y ∷ []) xs end) → (r : Reading) → HasGot seen r [] [] → Goes codec job seen found [] (x ∷ xs) end (Collects (GetsVacs r))
    vacs_go seen x xs end later r objects = by_item (slice_get r.counting (length r.vacs)) refl
      where
        by_item : (i : Option FragKey) → slice_get r.counting (length r.vacs) ≡ i → Goes codec job seen found [] (x ∷ xs) end (Collects (GetsVacs r))
        by_item None none = λ a e. absurd (none-some x.call (sym (ap (option_map get_vac) none) ∙ a.0))
        by_item (Some f) there = goes_by codec job seen found [] x xs end (Collects (GetsVacs r)) (get_vac f) (ap (option_map get_vac) there) (λ same. rw there (by_reply x.reply))
          where
            look : IsLookOf codec job found seen (get_vac f)
            look = looks_inside seen (get_vac f) objects.got (AtVac f (objects.merged f (item_in r.counting (length r.vacs) f there)) refl)

            by_names : (bytes : List ℕ) (c : Result (List FragKey) ℕ) → names_of bytes ≡ c
                → Follows codec job seen found [] (record { call = get_vac f; reply = reply.Bytes bytes }) xs end (on_read (vac_of f) (λ names. getting_vacs codec (with_vac r f names)) c)
            by_names bytes (Ok names) reads =
                let y : Exchange = record { call = get_vac f; reply = reply.Bytes bytes } in
                follows_getting_vacs seen [] y xs end refl (inl (look, refl)) (later y) (with_vac r f names) (vac_pushed (seen ++ y ∷ []) r f names (has_more seen y r [] [] objects))
            by_names bytes (Err at) reads =
                let y : Exchange = record { call = get_vac f; reply = reply.Bytes bytes } in
                follows_refused codec job seen found [] [] y xs end (refusal.Damaged (vac_of f) at) (silent (get_vac f) (reply.Bytes bytes)) (inl (look, refl)) (inl (bytes, Contains-push seen y, reads))

            by_reply : (r' : Reply) → Follows codec job seen found [] (record { call = get_vac f; reply = r' }) xs end (on_bytes (get_vac f) (after_vac codec r f) r')
            by_reply (reply.Bytes bytes) = by_names bytes (names_of bytes) refl
            by_reply r' = follows_ended codec job seen found [] [] (get_vac f) r' xs end tt (silent (get_vac f) r') (inl (look, refl))

    -- the head of a fragment
    heads_go : (seen : List Exchange) (x : Exchange) (xs : List Exchange) (end : Outcome) → ((y : Exchange) → ReadsOn (seen ++ y ∷ []) xs end) → (r : Reading) (opened : List Opened) → HasGot seen r opened [] → Goes codec job seen found [] (x ∷ xs) end (Collects (GetsHeads r opened))
    heads_go seen x xs end later r opened objects = by_item (slice_get r.fragments (length opened)) refl
      where
        by_item : (i : Option FragKey) → slice_get r.fragments (length opened) ≡ i → Goes codec job seen found [] (x ∷ xs) end (Collects (GetsHeads r opened))
        by_item None none = λ a e. absurd (none-some x.call (sym (ap (option_map (get_head codec r)) none) ∙ a.0))
        by_item (Some f) there = goes_by codec job seen found [] x xs end (Collects (GetsHeads r opened)) (get_head codec r f) (ap (option_map (get_head codec r)) there) (λ same. rw there (by_reply x.reply))
          where
            fragments : IsLookedInto seen from to f
            fragments = objects.fragments f (item_in r.fragments (length opened) f there)

            look : IsLookOf codec job found seen (get_head codec r f)
            look = looks_inside seen (get_head codec r f) objects.got (AtHead f fragments (ap (λ q. get_head codec q f) objects.finds))

            by_head : (bytes : List ℕ) (h : Result Head ℕ) → codec.head r.frame f bytes ≡ h
                → Follows codec job seen found [] (record { call = get_head codec r f; reply = reply.Bytes bytes }) xs end (on_read (name.Part f (codec.head_part r.frame)) (λ head. opening codec r (opened ++ record { frag = f; head = head; object = bytes } ∷ [])) h)
            by_head bytes (Ok head) reads =
                let y : Exchange = record { call = get_head codec r f; reply = reply.Bytes bytes } in
                follows_opening seen [] y xs end refl (inl (look, refl)) (later y) r (opened ++ record { frag = f; head = head; object = bytes } ∷ [])
                (object_pushed (seen ++ y ∷ []) r opened (record { frag = f; head = head; object = bytes }) (has_more seen y r opened [] objects)
                (listed_stays committed_in seen (seen ++ y ∷ []) from to f (among_more seen y) fragments, Contains-push seen y, reads))
            by_head bytes (Err at) reads =
                let y : Exchange = record { call = get_head codec r f; reply = reply.Bytes bytes } in
                let Broken : Reading → Type 0 = λ q. codec.head q.frame f bytes ≡ Err at in
                follows_refused codec job seen found [] [] y xs end (refusal.Damaged (name.Part f (codec.head_part r.frame)) at) (silent (get_head codec r f) (reply.Bytes bytes)) (inl (look, refl))
                (inl (bytes, Contains-push seen y, (inl (got_stays job found seen (seen ++ y ∷ []) (among_more seen y) objects.got), ap (λ q. codec.head_part q.frame) objects.finds, subst Broken objects.finds reads)))

            by_reply : (r' : Reply) → Follows codec job seen found [] (record { call = get_head codec r f; reply = r' }) xs end (on_bytes (get_head codec r f) (after_head codec r opened f) r')
            by_reply (reply.Bytes bytes) = by_head bytes (codec.head r.frame f bytes) refl
            by_reply r' = follows_ended codec job seen found [] [] (get_head codec r f) r' xs end tt (silent (get_head codec r f) r') (inl (look, refl))

    -- a further schema
    gets_go : (seen : List Exchange) (x : Exchange) (xs : List Exchange) (end : Outcome) → ((y : Exchange) → ReadsOn (seen ++ y ∷ []) xs end) → (r : Reading) (opened : List Opened) (named : List Key) (schemas : List Schema) → AreNamed r opened named → HasGot seen r opened schemas
        → Goes codec job seen found [] (x ∷ xs) end (Collects (GetsSchemas r opened named schemas))
    gets_go seen x xs end later r opened named schemas names objects = by_item (slice_get named (length schemas)) refl
      where
        by_item : (i : Option Key) → slice_get named (length schemas) ≡ i → Goes codec job seen found [] (x ∷ xs) end (Collects (GetsSchemas r opened named schemas))
        by_item None none = λ a e. absurd (none-some x.call (sym (ap (option_map get_schema) none) ∙ a.0))
        by_item (Some k) there = goes_by codec job seen found [] x xs end (Collects (GetsSchemas r opened named schemas)) (get_schema k) (ap (option_map get_schema) there) (λ same. rw there (by_reply x.reply))
          where
            look : IsLookOf codec job found seen (get_schema k)
            look =
                let (o, among, names_it, further) = names k (item_in named (length schemas) k there) in
                let was = objects.objects o among in
                let Got : Reading → Type 0 = λ q. Contains seen (record { call = get_all (name.Part o.frag (codec.head_part q.frame)); reply = reply.Bytes o.object }) in
                let Heads : Reading → Type 0 = λ q. codec.head q.frame o.frag o.object ≡ Ok o.head in
                let apart : o.head.schema ≡ r.current.key → ⊥ = λ same. true≢false (sym further ∙ ap not (subst (λ z. key_eq o.head.schema z ≡ true) same (key_itself o.head.schema))) in
                looks_inside seen (get_schema k) objects.got (AtSchema o.frag o.head (o.object, subst Got objects.finds was.1, subst Heads objects.finds was.2)
                (λ same. apart (same ∙ sym (ap (λ q. q.current.key) objects.finds))) (ap get_schema (sym names_it)))

            by_attrs : (bytes : List ℕ) (a : Result (List Attr) ℕ) → schema_of bytes ≡ a
                → Follows codec job seen found [] (record { call = get_schema k; reply = reply.Bytes bytes }) xs end (on_read (name.Schema k) (λ attrs. gathering codec r opened named (schemas ++ record { key = k; attrs = attrs } ∷ [])) a)
            by_attrs bytes (Ok attrs) reads =
                let y : Exchange = record { call = get_schema k; reply = reply.Bytes bytes } in
                follows_gathering seen [] y xs end refl (inl (look, refl)) (later y) r opened named (schemas ++ record { key = k; attrs = attrs } ∷ []) names
                (schema_pushed (seen ++ y ∷ []) r opened schemas (record { key = k; attrs = attrs }) (has_more seen y r opened schemas objects) (bytes, Contains-push seen y, reads))
            by_attrs bytes (Err at) reads =
                let y : Exchange = record { call = get_schema k; reply = reply.Bytes bytes } in
                follows_refused codec job seen found [] [] y xs end (refusal.Damaged (name.Schema k) at) (silent (get_schema k) (reply.Bytes bytes)) (inl (look, refl)) (inl (bytes, Contains-push seen y, reads))

            by_reply : (r' : Reply) → Follows codec job seen found [] (record { call = get_schema k; reply = r' }) xs end (on_bytes (get_schema k) (after_schema codec r opened named schemas k) r')
            by_reply (reply.Bytes bytes) = by_attrs bytes (schema_of bytes) refl
            by_reply r' = follows_ended codec job seen found [] [] (get_schema k) r' xs end tt (silent (get_schema k) r') (inl (look, refl))

    -- a delete
    deletes_go : (seen : List Exchange) (x : Exchange) (xs : List Exchange) (end : Outcome) → ((y : Exchange) → ReadsOn (seen ++ y ∷ []) xs end) → (r : Reading) (opened : List Opened) (schemas : List Schema) → HasGot seen r opened schemas
        → Goes codec job seen found [] (x ∷ xs) end (Collects (GetsDeletes r opened schemas))
    deletes_go seen x xs end later r opened schemas objects = by_item (slice_get r.delete_names (length r.deletions)) refl
      where
        by_item : (i : Option FragKey) → slice_get r.delete_names (length r.deletions) ≡ i → Goes codec job seen found [] (x ∷ xs) end (Collects (GetsDeletes r opened schemas))
        by_item None none = λ a e. absurd (none-some x.call (sym (ap (option_map get_delete) none) ∙ a.0))
        by_item (Some f) there = goes_by codec job seen found [] x xs end (Collects (GetsDeletes r opened schemas)) (get_delete f) (ap (option_map get_delete) there) (λ same. rw there (by_reply x.reply))
          where
            look : IsLookOf codec job found seen (get_delete f)
            look = looks_inside seen (get_delete f) objects.got (AtDelete f (dead_listed seen r opened schemas objects f (item_in r.delete_names (length r.deletions) f there)) refl)

            by_condition : (bytes : List ℕ) (c : Result Condition ℕ) → cond_of bytes ≡ c
                → Follows codec job seen found [] (record { call = get_delete f; reply = reply.Bytes bytes }) xs end (on_read (name.Commit f Del) (λ condition. getting_deletes codec (with_deletion r (deletion_named f condition)) opened schemas) c)
            by_condition bytes (Ok condition) reads =
                let y : Exchange = record { call = get_delete f; reply = reply.Bytes bytes } in
                follows_getting_deletes seen [] y xs end refl (inl (look, refl)) (later y) (with_deletion r (deletion_named f condition)) opened schemas
                (delete_pushed (seen ++ y ∷ []) r opened schemas f (deletion_named f condition) there (bytes, condition, Contains-push seen y, reads, refl) (has_more seen y r opened schemas objects))
            by_condition bytes (Err at) reads =
                let y : Exchange = record { call = get_delete f; reply = reply.Bytes bytes } in
                follows_refused codec job seen found [] [] y xs end (refusal.Damaged (name.Commit f Del) at) (silent (get_delete f) (reply.Bytes bytes)) (inl (look, refl)) (inl (bytes, Contains-push seen y, reads))

            by_reply : (r' : Reply) → Follows codec job seen found [] (record { call = get_delete f; reply = r' }) xs end (on_bytes (get_delete f) (after_delete codec r opened schemas f) r')
            by_reply (reply.Bytes bytes) = by_condition bytes (cond_of bytes) refl
            by_reply r' = follows_ended codec job seen found [] [] (get_delete f) r' xs end tt (silent (get_delete f) r') (inl (look, refl))

    -- a call of a fetch
    fetches_go : (seen : List Exchange) (x : Exchange) (xs : List Exchange) (end : Outcome) → ((y : Exchange) → ReadsOn (seen ++ y ∷ []) xs end) → (r : Reading) (opened : List Opened) (schemas : List Schema) (next : ℕ) (frag : FragKey) (got : List Version) (f : F) (c : Call)
        → HasGot seen r opened schemas → HasAll seen r → IsLookedInto seen from to frag → IsUnderWay codec job found seen frag f c → IsTrue (is_look c) → Goes codec job seen found [] (x ∷ xs) end (Collects (Fetches r opened schemas next frag got f c))
    fetches_go seen x xs end later r opened schemas next frag got f c objects all fragments way looking = goes_by codec job seen found [] x xs end (Collects (Fetches r opened schemas next frag got f c)) c refl (λ same. by_reply x.reply)
      where
        look : IsLookOf codec job found seen c
        look = looks_inside seen c objects.got (InFetch frag f fragments way looking)

        goes_on : List Version → State F
        goes_on vs = fetching codec r opened schemas (suc next) (drop (suc next) opened) (got ++ vs)

        told : (r' : Reply) → IsTrue (lets_on c r') → Follows codec job seen found [] (record { call = c; reply = r' }) xs end (fetch_leads r opened schemas next frag got goes_on (codec.steps f r'))
        told r' on =
            let y : Exchange = record { call = c; reply = r' } in
            let gone = way_stays codec job found seen (seen ++ y ∷ []) frag f c (among_more seen y) way in
            let has = has_more seen y r opened schemas objects in
            let has_all = deletes_stay seen (seen ++ y ∷ []) r.delete_names r.deletions (among_more seen y) all in
            follows_step seen [] y xs end on (inl (look, refl)) (later y) r opened schemas next frag got goes_on f r' (codec.steps f r') has has_all (listed_stays committed_in seen (seen ++ y ∷ []) from to frag (among_more seen y) fragments)
            (λ g b steps. record {
              first = gone.first;
              opened = gone.opened;
              begun = gone.begun;
              asked = gone.asked;
              begins = gone.begins;
              replies = gone.replies ++ r' ∷ [];
              fetched = fetched_on codec (seen ++ y ∷ []) gone.begun gone.asked gone.replies f c r' g b gone.fetched (Contains-push seen y) steps;
            })
            (λ part at steps. inr (f, inr (gone, steps))) refl
            (λ vs. follows_fetching seen [] y xs end on (inl (look, refl)) (later y) r opened schemas (suc next) (drop (suc next) opened) (got ++ vs) has has_all (λ o at. dropped opened (suc next) o at))

        by_reply : (r' : Reply) → Follows codec job seen found [] (record { call = c; reply = r' }) xs end (after_fetched codec r opened schemas next frag got f c r')
        by_reply (reply.Bytes bytes) = told (reply.Bytes bytes) (lets_bytes c bytes looking)
        by_reply (reply.Length n) = told (reply.Length n) (lets_length c n looking)
        by_reply r' = follows_ended codec job seen found [] [] c r' xs end (look_leaves c r' looking) (silent c r') (inl (look, refl))

    -- a read that has the frame and the schema there makes looks, and ends by them
    pub reads_on : (seen xs : List Exchange) (end : Outcome) → ReadsOn seen xs end
    reads_on seen [] end = record {
      vacs = λ r objects. goes_none codec job seen found [] end (Collects (GetsVacs r)) (λ e q. cc);
      heads = λ r opened objects. goes_none codec job seen found [] end (Collects (GetsHeads r opened)) (λ e q. cc);
      gets = λ r opened named schemas names objects. goes_none codec job seen found [] end (Collects (GetsSchemas r opened named schemas)) (λ e q. cc);
      deletes = λ r opened schemas objects. goes_none codec job seen found [] end (Collects (GetsDeletes r opened schemas)) (λ e q. cc);
      fetches = λ r opened schemas next frag got f c objects all fragments way look. goes_none codec job seen found [] end (Collects (Fetches r opened schemas next frag got f c)) (λ e q. cc);
    }
    reads_on seen (x ∷ xs) end =
        let later : (y : Exchange) → ReadsOn (seen ++ y ∷ []) xs end = λ y. reads_on (seen ++ y ∷ []) xs end in
        record {
          vacs = vacs_go seen x xs end later;
          heads = heads_go seen x xs end later;
          gets = gets_go seen x xs end later;
          deletes = deletes_go seen x xs end later;
          fetches = fetches_go seen x xs end later;
        }
