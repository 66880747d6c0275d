-- The calls of fetches: each leads to another call, to the next fragment, or to the answer of the read.
use Rattle.std.proofs.Common.{◌≡◌, ℕ, suc, zero, ◌+◌, ◌-◌, ◌≤◌, Bool, true, false, not, ◌&&◌, ◌⊎◌, inl, inr, List, [], ◌∷◌, ◌++◌, Option, Some, None, Ok, length, length-drop, take, drop, arith, refl, sym, ◌∙◌, ap, subst}
use Rattle.std.specs.Prelude.{Contains, slice_get, option_map, map as list_map}
use Rattle.std.specs.Cmp.{both_ways}
use Rattle.std.specs.List.{list_any}
use Rattle.std.specs.Option.{option_map_or}
use Rattle.std.specs.FinMap as map
use Rattle.std.proofs.lemmas.Bool.{true≢false}
use Rattle.std.proofs.lemmas.Option.{none-some, same_Some, slice_get-map}
use Rattle.std.proofs.lemmas.List.{take_all, map-append}
use Rattle.std.proofs.lemmas.List.Elements.{Contains-append_left}
use Rattle.ts_base.specs.declared.keys.FragKey.{FragKey}
use Rattle.ts_base.specs.declared.keys.Key.{Key}
use Rattle.ts_base.specs.declared.names.Name.{Name}
use Rattle.ts_base.specs.declared.names.Name.TheVariants as name
use Rattle.ts_base.specs.declared.names.Part.{Part}
use Rattle.ts_base.specs.declared.names.Place.TheVariants as place
use Rattle.ts_base.specs.declared.heads.Head.{Head}
use Rattle.ts_base.specs.declared.heads.Version.{Version}
use Rattle.ts_base.specs.declared.heads.Piece.{Piece}
use Rattle.ts_base.specs.Keys.{is_within}
use Rattle.ts_base.specs.Held.{Held}
use Rattle.ts_schema.specs.declared.schemas.Schema.{Schema}
use Rattle.ts_schema.specs.Wants.{taken}
use Rattle.ts_store.specs.declared.fate.Fate.{Fate}
use Rattle.ts_store.specs.declared.fate.Fate.TheVariants as fate
use Rattle.ts_store.specs.declared.call.Call.{Call}
use Rattle.ts_store.specs.declared.call.Call.TheVariants as call
use Rattle.ts_store.specs.declared.call.Reply.{Reply}
use Rattle.ts_store.specs.declared.call.Reply.TheVariants as reply
use Rattle.ts_store.specs.Calls.{answer, reply_of, is_no_memory, part_of, part_reply, length_reply}
use Rattle.ts_model.specs.declared.commands.Job.{Job}
use Rattle.ts_model.specs.declared.deeds.Deletion.{Deletion}
use Rattle.ts_model.specs.declared.deeds.Written.{Written}
use Rattle.ts_model.specs.declared.answers.Answer.{Answer}
use Rattle.ts_model.specs.declared.answers.Refusal.TheVariants as refusal
use Rattle.ts_model.specs.declared.states.Opened.{Opened}
use Rattle.ts_model.specs.declared.states.Reading.{Reading}
use Rattle.ts_model.specs.declared.states.State.{State}
use Rattle.ts_model.specs.declared.states.State.TheVariants.{Collects}
use Rattle.ts_model.specs.declared.states.Collecting.TheVariants.{Fetches}
use Rattle.ts_model.specs.Deeds.{History, IsHistory, deletions, writes, schema_with, current_schema, attrs_with}
use Rattle.ts_model.specs.Answers.{IsAnswer}
use Rattle.ts_model.specs.Codecs.{Codec, Spelled, Tracking, CodecLaws, OpensWell, GoesWell, Stepped, IsToldOf, SpeaksOf}
use Rattle.ts_model.specs.Codecs.Stepped.{Asks, Takes, Breaks}
use Rattle.ts_model.specs.Jobs.{looks_at}
use Rattle.ts_commit.specs.Selections.{has_origin, is_clipped, is_usable, usable}
use Rattle.ts_law.specs.Stands.{HoldsIn}
use Rattle.ts_model.specs.States.{answer_of, heads_of, known_schema, known_attrs, want_of, wanted, ended, fetch_leads, fetch_begins, fetches_one, fetching, after_fetched}
use Rattle.ts_law.specs.Kept.{Clean, GettingDeletes, Gathering, GotUsed, Fetching, Claims}
use Rattle.ts_model.specs.Told.{Told, IsReplied, after_told, held_told, history_told}
use Rattle.ts_law.specs.Origins.{newest_at}
use Rattle.ts_law.specs.Ends.{IsAnswerOver, IsTrueRefusal, without_clipped}
use Rattle.ts_law.specs.Steps.{Comes, Advances}
use Rattle.ts_model.proofs.ListLemmas.{Contains-slice_get, filter-Contains, take_next}
use Rattle.ts_model.proofs.HistoryLaws.{IsHistory-front, deletions-append, schema_with-append}
use Rattle.ts_law.proofs.DeletesGot.{all_deletions, deleted_in}
use Rattle.ts_model.proofs.Traces.{history_told_grows}
use Rattle.ts_law.proofs.Effects.{IsLook, look_stays, look_history, look_leads}
use Rattle.ts_law.proofs.Stays.{clean_look, fetching_stays}
use Rattle.ts_law.proofs.Clipped.{unclipped_same}
use Rattle.ts_law.proofs.Unclipped.{own_unclipped, sparse_unclipped}
use Rattle.ts_law.proofs.Fetches.{Contains-map, got_more, knows, knows_attrs, map-Contains, one_head, used_more}
use Rattle.ts_law.proofs.OriginLaws.{any_member, member_any}
use Rattle.ts_law.proofs.TakenLaws.{newest_taken, newest_used, none_taken}
use Rattle.ts_law.proofs.ReadingLaw.{answer_left}

-- ---- where a list is dropped up to a place

-- the first item that is left stands at the place, and the others are left from the next place on
pub drop_first : {X : Type 0} (xs : List X) (i : ℕ) (x : X) (rest : List X) → drop i xs ≡ x ∷ rest → (slice_get xs i ≡ Some x) × (drop (suc i) xs ≡ rest)
drop_first [] zero x rest is = absurd (none-some x (ap (λ l. slice_get l 0) is))
drop_first [] (suc i) x rest is = absurd (none-some x (ap (λ l. slice_get l 0) is))
drop_first (y ∷ xs) zero x rest is = (ap (λ l. slice_get l 0) is, ap (λ l. drop 1 l) is)
drop_first (y ∷ xs) (suc i) x rest is = drop_first xs i x rest is

-- a place from which on nothing is left is at the end
pub drop_none : {X : Type 0} (xs : List X) (i : ℕ) → drop i xs ≡ [] → length xs ≤ i
drop_none xs i is = let none : length xs - i ≡ 0 = sym (length-drop i xs) ∙ ap length is in omega arith

-- ---- histories at listings

-- the history at a listing is the beginning of the history now
pub begins_now : (jobs : List Job) (past : History) (seen before : List Told) (listing : Told) (later : List Told) → seen ≡ before ++ listing ∷ later
    → (more : History) × (history_told jobs past seen ≡ history_told jobs past before ++ more)
begins_now jobs past seen before listing later place = let grown = history_told_grows jobs past before (listing ∷ later) in (grown.0, ap (history_told jobs past) place ∙ grown.1)

-- ---- what a read claims while it fetches

module _ {F : Type 0} (codec : Codec F) (spelled : Spelled) (tracks : Tracking F) (laws : CodecLaws codec spelled tracks)
    (opening : Held) (past : History) (jobs : List Job) (seen : List Told) (m : Held) (number : ℕ) (job : Job) (clean : Clean opening past jobs seen m job)
    (r : Reading) (opened : List Opened) (schemas : List Schema) (deletes_found : GettingDeletes codec spelled opening past jobs seen m number job r opened schemas) (all_deletes : length r.deletions ≡ length r.delete_names) where
  -- what the read gathered
  abbrev gathers : Gathering codec spelled opening past jobs seen m number job r opened schemas
  gathers = deletes_found.gathers

  -- the state's claims hold
  abbrev Holds : State F → Type 0
  Holds s = Claims codec spelled tracks opening past jobs seen m number job s

  -- the history at the listing of the commits
  abbrev g : History
  g = history_told jobs past (((((gathers).reads).at).listed).since.commits).before

  -- what was held then
  abbrev then : Held
  then = held_told opening (((((gathers).reads).at).listed).since.commits).before

  -- the history now
  abbrev h : History
  h = history_told jobs past seen

  -- the fragments that are loaded
  abbrev frags : List FragKey
  frags = list_map (λ o. o.frag) opened

  -- what the read uses of the versions in the fragments before the next one was got
  abbrev IsFound : ℕ → List Version → Type 0
  IsFound next got = GotUsed g r schemas (heads_of (take next opened)) got

  -- the fragment's parts spell a piece, which the read can use
  pub record IsUsed (frag : FragKey) : Type 0 where
    piece : Piece
    holds : HoldsIn spelled g then frag piece
    same_frame : holds.frame ≡ r.frame
    usable : is_usable r.from r.to piece.head ≡ true

  -- what is wanted of it
  abbrev wanted_of : (frag : FragKey) → IsUsed frag → List Version
  wanted_of frag one = taken (want_of r ((one.holds).schema).attrs) (one.piece).versions

  -- how a fetch of it is tracked
  abbrev tracked : (frag : FragKey) → IsUsed frag → F → Call → Type 0
  tracked frag one = tracks r.frame (one.holds).schema one.piece ((one.holds).spells).look (want_of r ((one.holds).schema).attrs)

  -- a step of a fetch leads to a call, or on with the versions that are wanted
  step_claims : (next : ℕ) (frag : FragKey) (got : List Version) (on : List Version → State F) → slice_get frags next ≡ Some frag → (one : IsUsed frag) → IsFound next got
      → ((vs : List Version) → vs ≡ wanted_of frag one → Holds (on vs))
      → (s : Stepped F) → GoesWell (tracked frag one) (wanted_of frag one) s → Holds (fetch_leads r opened schemas next frag got on s)
  step_claims next frag got on at one found rest (Asks f c) well = (
    clean,
    at,
    (
      record { deletes_found = deletes_found; all_deletes = all_deletes; found = found },
      record { piece = one.piece; holds = one.holds; same_frame = one.same_frame; usable = one.usable; way = well },
    ),
  )
  step_claims next frag got on at one found rest (Takes vs) well = rest vs well
  step_claims next frag got on at one found rest (Breaks part at_offset) well = absurd well

  -- the fragment of the open one at a place is the one there
  frag_at : (next : ℕ) (o : Opened) → slice_get opened next ≡ Some o → slice_get frags next ≡ Some o.frag
  frag_at next o at = slice_get-map (λ o. o.frag) opened next ∙ ap (option_map (λ o. o.frag)) at

  -- the fragment at a place is that of the open one there
  open_there : (next : ℕ) (frag : FragKey) → slice_get frags next ≡ Some frag → (o : Opened) × (slice_get opened next ≡ Some o) × (o.frag ≡ frag)
  open_there next frag at = by (slice_get opened next) refl (sym (slice_get-map (λ o. o.frag) opened next) ∙ at)
    where
      by : (q : Option Opened) → slice_get opened next ≡ q → option_map (λ o. o.frag) q ≡ Some frag → (o : Opened) × (slice_get opened next ≡ Some o) × (o.frag ≡ frag)
      by None none e = absurd (none-some frag e)
      by (Some o) there e = (o, there, same_Some o.frag frag e)

  -- an open fragment is one that the read can use
  abbrev used_open : (o : Opened) → Contains opened o → IsUsed o.frag
  used_open o at =
      let opens = (gathers.chosen).each o at in
      let can = (filter-Contains (is_usable r.from r.to) (gathers.chosen).heads o.head ((gathers.chosen).usable o at)).1 in
      record { piece = opens.piece; holds = opens.holds; same_frame = opens.same_frame; usable = subst (λ head. is_usable r.from r.to head ≡ true) opens.head can }

  -- just the writes in the interval that are not clipped went into one of the open fragments
  headed : (k : Key) → is_within r.from r.to k ≡ true → list_any (has_origin k) (heads_of opened) ≡ not (is_clipped r.from r.to (gathers.chosen).heads k)
  headed k within = both_ways (list_any (has_origin k) (heads_of opened)) (not (is_clipped r.from r.to (gathers.chosen).heads k))
      (λ some.
      let head = member_any (has_origin k) (heads_of opened) some in
      let o = map-Contains (λ x. x.head) opened head.0 head.1 in
      let can = (gathers.chosen).usable o.0 o.1 in
      let origin = any_member (has_origin k) (usable r.from r.to (gathers.chosen).heads) (o.0).head can (subst (λ x. has_origin k x ≡ true) (sym o.2) head.2) in
      ap (λ t. not (is_within r.from r.to k && not t)) origin ∙ none (is_within r.from r.to k))
      (λ left.
      let o = (gathers.chosen).covered k within (not_false (is_clipped r.from r.to (gathers.chosen).heads k) left) in
      any_member (has_origin k) (heads_of opened) (o.0).head (Contains-map (λ x. x.head) opened o.0 o.1) o.2)
    where
      none : (t : Bool) → not (t && false) ≡ true
      none true = refl
      none false = refl

      not_false : (t : Bool) → not t ≡ true → t ≡ false
      not_false false e = refl
      not_false true e = sym e

  module _ (is_g : IsHistory g) (is_h : IsHistory h) where
    -- the history now begins with that at the listing of the commits
    from_g : (more : History) × (h ≡ g ++ more)
    from_g = begins_now jobs past seen _ _ _ (((((gathers).reads).at).listed).since.commits).place

    -- a schema of that history is one of this
    grows : (k : Key) (s : Schema) → schema_with g k ≡ Some s → schema_with h k ≡ Some s
    grows k s is = ap (λ x. schema_with x k) from_g.1 ∙ schema_with-append g from_g.0 k s is

    -- a delete of that history is one of this
    deletions_grow : (x : Deletion) → Contains (deletions g) x → Contains (deletions h) x
    deletions_grow x at = subst (λ y. Contains (deletions y) x) (sym from_g.1) (rw (deletions-append g from_g.0) (Contains-append_left (deletions g) (deletions from_g.0) x at))

    -- what the read knows of schemas
    known_to : (w : Written) → Contains (writes g) w → is_within r.from r.to w.key ≡ true → is_clipped r.from r.to (gathers.chosen).heads w.key ≡ false → known_attrs r schemas w.schema ≡ attrs_with g w.schema
    known_to w at within left =
        let o = (gathers.chosen).covered w.key within left in
        knows_attrs codec spelled g h then r opened schemas grows ((((gathers).reads).at).works).declared (gathers.chosen).each gathers.gathered deletes_found.all_schemas w is_g at o.0 o.1 o.2

    -- the heads of the fragments that were listed
    abbrev heads : List Head
    heads = (gathers.chosen).heads

    -- the answer of a read that got these versions
    abbrev answered : List Version → Answer
    answered got = answer_of r schemas got

    -- the history at the listing of the schemas
    abbrev later : History
    later = history_told jobs past (((((gathers).reads).at).works).schemas).before

    -- what was got of all fragments is the answer over the objects at the listing
    answer_over : (got : List Version) → GotUsed g r schemas (heads_of opened) got → IsAnswerOver spelled g then later r.from r.to ((gathers).reads).query (answered got)
    answer_over got found =
        let reads = (gathers).reads in
        let one = one_head codec spelled tracks laws g then in
        let stands = (((reads.at).listed).since).stands in
        let are_heads = (gathers.chosen).are_heads in
        let clipped_is = (gathers.chosen).clipped_is in
        let is : IsAnswer (without_clipped r.from r.to heads g) later r.from r.to reads.query (answered got) =
        answer_left g r.from r.to heads (heads_of opened) headed (r.ready).sub found.whole found.are r schemas got found.uses refl known_to
        (deleted_in spelled opening past jobs seen m number r.from r.to r.fragments r.counting r.delete_names (reads.at).listed is_h deletions_grow r.deletions deletes_found.deletions all_deletes)
        (all_deletions spelled opening past jobs seen m number r.from r.to r.fragments r.counting r.delete_names (reads.at).listed is_h deletions_grow r.deletions deletes_found.deletions all_deletes)
        later reads.query reads.framed
        (subst (λ command. current_schema later (looks_at job command) ≡ Some r.current) reads.reads ((reads.at).works).holds)
        reads.is_ready in
        record {
          heads = heads;
          are_heads = are_heads;
          clipped_is = clipped_is;
          is = is;
          whole = λ none. subst (λ x. IsAnswer x later r.from r.to reads.query (answered got)) (unclipped_same spelled then g r.from r.to heads are_heads one stands (sym clipped_is ∙ none)) is;
          unclipped = λ own. clipped_is ∙ own_unclipped spelled then g r.from r.to heads are_heads one own;
          sparse = λ frame framed sparse. clipped_is ∙ sparse_unclipped spelled then g r.from r.to heads are_heads frame framed sparse;
        }

    -- after the last fragment the answer is that of the history
    end_claims : (next : ℕ) (got : List Version) → drop next opened ≡ [] → IsFound next got → Holds (fetching codec r opened schemas next [] got)
    end_claims next got none found =
        let reads = (gathers).reads in
        let past_end = drop_none opened next none in
        let whole : take next opened ≡ opened = take_all next opened past_end in
        let all : GotUsed g r schemas (heads_of opened) got = subst (λ os. GotUsed g r schemas (heads_of os) got) whole found in (
          r.from,
          r.to,
          reads.query,
          reads.reads,
          record { commits = ((reads.at).listed).since.commits; schemas = ((reads.at).works).schemas; between = (reads.at).between; order = (reads.at).order; answers = answer_over got all },
        )

    -- a fragment in its schema, which the read knows, is opened
    one_claims : (next : ℕ) (o : Opened) (got : List Version) (on : List Version → State F) → slice_get opened next ≡ Some o → (there : Contains opened o) → IsFound next got
        → ((vs : List Version) → vs ≡ wanted_of o.frag (used_open o there) → Holds (on vs))
        → Holds (fetches_one codec r opened schemas next o got on (known_schema r schemas (o.head).schema))
    one_claims next o got on at there found rest =
        let opens = (gathers.chosen).each o there in
        let schema = (opens.holds).schema in
        let spells = (opens.holds).spells in
        let want = want_of r schema.attrs in
        let well : OpensWell codec (tracks r.frame schema opens.piece spells.look want) r.frame schema opens.piece o.object want =
        laws.opens r.frame schema opens.piece spells.look want o.object (subst (λ frame. spelled frame schema opens.piece spells.look) opens.same_frame spells.spells) opens.object in
        let begins : codec.opens r.frame schema o.frag o.object want ≡ Ok well.fetch = ap (λ f. codec.opens r.frame schema f o.object want) (sym spells.named) ∙ well.opens in
        let known = knows codec spelled g h then r opened schemas grows ((((gathers).reads).at).works).declared (gathers.chosen).each gathers.gathered deletes_found.all_schemas o there in
        subst (λ s. Holds (fetches_one codec r opened schemas next o got on s)) (sym known)
        (subst (λ x. Holds (fetch_begins codec r opened schemas next o.frag got on x)) (sym begins)
        (step_claims next o.frag got on (frag_at next o at) (used_open o there) found rest (codec.steps well.fetch reply.Start) well.starts))

    -- with one fragment more, what is used of it was got
    found_more : (next : ℕ) (o : Opened) (got : List Version) → slice_get opened next ≡ Some o → (one : IsUsed o.frag) → IsFound next got → (vs : List Version) → vs ≡ wanted_of o.frag one → IsFound (suc next) (got ++ vs)
    found_more next o got at one found vs all =
        let one_more : next + 1 ≡ suc next = omega arith in
        let opens = (gathers.chosen).each o (Contains-slice_get opened next o at) in
        let same : (one.piece).head ≡ o.head = one_head codec spelled tracks laws g then o.frag one.piece opens.piece one.holds opens.holds ∙ sym opens.head in
        let heads : heads_of (take (suc next) opened) ≡ heads_of (take next opened) ++ (one.piece).head ∷ [] =
        ap (λ n. heads_of (take n opened)) (sym one_more) ∙ ap heads_of (take_next opened next o at) ∙ map-append (λ x. x.head) (take next opened) (o ∷ [])
        ∙ ap (λ x. heads_of (take next opened) ++ x ∷ []) (sym same) in
        let framed = (one.holds).framed ∙ ap Some one.same_frame in
        let schema : known_attrs r schemas (one.piece).head.schema ≡ ((one.holds).schema).attrs =
        ap (λ (x : Head). known_attrs r schemas x.schema) same ∙ ap (λ t. option_map_or (λ t. t.attrs) t []) (knows codec spelled g h then r opened schemas grows ((((gathers).reads).at).works).declared (gathers.chosen).each gathers.gathered deletes_found.all_schemas o (Contains-slice_get opened next o at))
        ∙ ap (λ (t : Schema). t.attrs) (same_Some (opens.holds).schema (one.holds).schema (sym (opens.holds).declared ∙ ap (λ (x : Head). schema_with g x.schema) (sym opens.head ∙ sym same) ∙ (one.holds).declared)) in
        let ws = taken (wanted (r.ready).sub r.from r.to ((one.holds).schema).attrs) (one.piece).versions in
        subst (λ hs. GotUsed g r schemas hs (got ++ vs)) (sym heads)
        (record {
          whole = found.whole ++ ws;
          are = got_more g r.from r.to (r.ready).sub is_g (heads_of (take next opened)) (one.piece).head found.whole ws found.are
              (newest_taken g is_g r.frame framed (one.holds).schema one.piece (one.holds).declared (one.holds).holds (r.ready).sub r.from r.to one.usable)
              (none_taken g is_g r.frame framed (one.holds).schema one.piece (one.holds).declared (one.holds).holds (r.ready).sub r.from r.to);
          uses = used_more r schemas got vs found.whole ws found.uses
              (λ c. ap (λ us. newest_at us c) all ∙ newest_used g is_g r.frame framed (one.holds).schema one.piece (one.holds).declared (one.holds).holds r schemas schema c);
        })

    -- the fragments from a place on are fetched
    rest_claims : (rest : List Opened) (next : ℕ) (got : List Version) → drop next opened ≡ rest → IsFound next got → Holds (fetching codec r opened schemas next rest got)
    rest_claims [] next got left found = end_claims next got left found
    rest_claims (o ∷ rest) next got left found =
        let parts = drop_first opened next o rest left in
        let there = Contains-slice_get opened next o parts.0 in
        one_claims next o got _ parts.0 there found (λ vs all. rest_claims rest (suc next) (got ++ vs) parts.1 (found_more next o got parts.0 (used_open o there) found vs all))

    -- ---- replies

    -- a call on a part that finds no memory ends the read
    no_memory_claims : (c : Call) (n : Name) → SpeaksOf c n → Holds (ended c reply.NoMemory)
    no_memory_claims (call.Get q from len) n speaks = tt
    no_memory_claims (call.Size q) n speaks = tt
    no_memory_claims (call.Put q bytes) n speaks = absurd speaks
    no_memory_claims (call.Remove q) n speaks = absurd speaks
    no_memory_claims (call.List p) n speaks = absurd speaks

    -- a call on a part that fails ends the read, which has no deed
    failed_claims : (c : Call) (f : FragKey) (part : Part) → SpeaksOf c (name.Part f part) → Holds (ended c reply.Failed)
    failed_claims (call.Get q from len) f part speaks = subst (λ n. IsTrueRefusal spelled opening jobs past seen number job (refusal.StoreFault (place.Name n))) (sym speaks) clean.undone
    failed_claims (call.Size q) f part speaks = subst (λ n. IsTrueRefusal spelled opening jobs past seen number job (refusal.StoreFault (place.Name n))) (sym speaks) clean.undone
    failed_claims (call.Put q bytes) f part speaks = absurd speaks
    failed_claims (call.Remove q) f part speaks = absurd speaks
    failed_claims (call.List p) f part speaks = absurd speaks

    module _ (next : ℕ) (frag : FragKey) (got : List Version) (at : slice_get frags next ≡ Some frag) (found : IsFound next got) (fetch : F) where
      -- where the read goes on with the versions of the fragment
      abbrev goes_on : List Version → State F
      goes_on vs = fetching codec r opened schemas (suc next) (drop (suc next) opened) (got ++ vs)

      module _ (one : IsUsed frag) where
        -- with the versions of the fragment, what is wanted of it was got
        found_there : (vs : List Version) → vs ≡ wanted_of frag one → IsFound (suc next) (got ++ vs)
        found_there vs all =
            let o = open_there next frag at in
            subst (λ f. (used : IsUsed f) → vs ≡ wanted_of f used → IsFound (suc next) (got ++ vs)) o.2 (λ used same. found_more next o.0 got o.1 used found vs same) one all

        -- a step that goes well leads the read on
        on_claims : (s : Stepped F) → GoesWell (tracked frag one) (wanted_of frag one) s
            → Holds (fetch_leads r opened schemas next frag got goes_on s)
        on_claims s well = step_claims next frag got goes_on at one found
            (λ vs all. rest_claims (drop (suc next) opened) (suc next) (got ++ vs) refl (found_there vs all)) s well

        -- what a part tells leads the read on
        told_claims : (c : Call) (part : Part) (bytes : List ℕ) (said : Reply) → tracked frag one fetch c → ((one.holds).spells).look part ≡ Some bytes
            → SpeaksOf c (name.Part ((one.piece).head).frag part) → IsToldOf c bytes said → Holds (after_fetched codec r opened schemas next frag got fetch c said)
        told_claims (call.Get q from len) part bytes said way held speaks told =
            subst (λ x. Holds (after_fetched codec r opened schemas next frag got fetch (call.Get q from len) x)) (sym told)
            (on_claims (codec.steps fetch (reply.Bytes (part_of from len bytes)))
            (laws.goes r.frame (one.holds).schema one.piece ((one.holds).spells).look (want_of r ((one.holds).schema).attrs) fetch (call.Get q from len) part bytes (reply.Bytes (part_of from len bytes)) way held speaks refl))
        told_claims (call.Size q) part bytes said way held speaks told =
            subst (λ x. Holds (after_fetched codec r opened schemas next frag got fetch (call.Size q) x)) (sym told)
            (on_claims (codec.steps fetch (reply.Length (length bytes)))
            (laws.goes r.frame (one.holds).schema one.piece ((one.holds).spells).look (want_of r ((one.holds).schema).attrs) fetch (call.Size q) part bytes (reply.Length (length bytes)) way held speaks refl))
        told_claims (call.Put q more) part bytes said way held speaks told = absurd speaks
        told_claims (call.Remove q) part bytes said way held speaks told = absurd speaks
        told_claims (call.List p) part bytes said way held speaks told = absurd speaks

        -- where a reply leads the read
        reply_claims : (c : Call) (part : Part) (bytes : List ℕ) (said : Reply) → tracked frag one fetch c → ((one.holds).spells).look part ≡ Some bytes
            → SpeaksOf c (name.Part ((one.piece).head).frag part) → (said ≡ reply.NoMemory) ⊎ ((said ≡ reply.Failed) ⊎ IsToldOf c bytes said) → Holds (after_fetched codec r opened schemas next frag got fetch c said)
        reply_claims c part bytes said way held speaks (inl none) =
            subst (λ x. Holds (after_fetched codec r opened schemas next frag got fetch c x)) (sym none) (no_memory_claims c (name.Part ((one.piece).head).frag part) speaks)
        reply_claims c part bytes said way held speaks (inr (inl failed)) =
            subst (λ x. Holds (after_fetched codec r opened schemas next frag got fetch c x)) (sym failed) (failed_claims c ((one.piece).head).frag part speaks)
        reply_claims c part bytes said way held speaks (inr (inr told)) = told_claims c part bytes said way held speaks told

-- a read that fetches the fragments from a place on claims what is true
pub fetching_claims : {F : Type 0} (codec : Codec F) (spelled : Spelled) (tracks : Tracking F) (opening : Held) (past : History) (jobs : List Job) (seen : List Told) (m : Held) (number : ℕ) (job : Job)
    (r : Reading) (opened : List Opened) (schemas : List Schema) (next : ℕ) (got : List Version) → CodecLaws codec spelled tracks → Clean opening past jobs seen m job
    → (fetches : Fetching codec spelled opening past jobs seen m number job r opened schemas next got)
    → IsHistory (history_told jobs past (((((((fetches.deletes_found).gathers)).reads).at).listed).since.commits).before) → IsHistory (history_told jobs past seen)
    → Claims codec spelled tracks opening past jobs seen m number job (fetching codec r opened schemas next (drop next opened) got)
fetching_claims codec spelled tracks opening past jobs seen m number job r opened schemas next got laws clean fetches is_g is_h =
    rest_claims codec spelled tracks laws opening past jobs seen m number job clean r opened schemas fetches.deletes_found fetches.all_deletes is_g is_h (drop next opened) next got refl fetches.found

-- ---- what a call on a part tells

-- the reply for want of memory is the one
no_memory_is : (said : Reply) → is_no_memory said ≡ true → said ≡ reply.NoMemory
no_memory_is reply.NoMemory is = refl
no_memory_is _ is = absurd (true≢false (sym is))

module _ (m : Held) (n : Name) (bytes : List ℕ) (held : map.get m n ≡ Some bytes) where
  -- a call that is served tells of what is held
  told_done : (c : Call) → SpeaksOf c n → IsToldOf c bytes (answer m c)
  told_done (call.Get q from len) speaks = ap (λ o. part_reply (option_map (part_of from len) o)) (ap (map.get m) speaks ∙ held)
  told_done (call.Size q) speaks = ap (λ o. length_reply (option_map length o)) (ap (map.get m) speaks ∙ held)
  told_done (call.Put q more) speaks = absurd speaks
  told_done (call.Remove q) speaks = absurd speaks
  told_done (call.List p) speaks = absurd speaks

  -- a call tells of what is held, or fails
  told_or_failed : (c : Call) → SpeaksOf c n → (f : Fate) → (reply_of m c f ≡ reply.Failed) ⊎ IsToldOf c bytes (reply_of m c f)
  told_or_failed c speaks fate.Done = inr (told_done c speaks)
  told_or_failed c speaks _ = inl refl

  -- a call on an object that is held finds no memory, or fails, or tells of it
  pub tells_of : (e : Told) (c : Call) → e.call ≡ c → SpeaksOf c n → IsReplied m e → (e.reply ≡ reply.NoMemory) ⊎ ((e.reply ≡ reply.Failed) ⊎ IsToldOf c bytes e.reply)
  tells_of e c is speaks (inl none) = inl (no_memory_is e.reply none.0)
  tells_of e c is speaks (inr replied) =
      let said : e.reply ≡ reply_of m c e.fate = replied.0 ∙ ap (λ x. reply_of m x e.fate) is in
      inr (subst (λ x. (x ≡ reply.Failed) ⊎ IsToldOf c bytes x) (sym said) (told_or_failed c speaks e.fate))

-- a call on an object only looks
pub speaks_look : (c : Call) (n : Name) → SpeaksOf c n → IsLook c
speaks_look (call.Get q from len) n speaks = tt
speaks_look (call.Size q) n speaks = tt
speaks_look (call.Put q bytes) n speaks = absurd speaks
speaks_look (call.Remove q) n speaks = absurd speaks
speaks_look (call.List p) n speaks = absurd speaks

-- ---- the call of a fetch

module _ {F : Type 0} (codec : Codec F) (spelled : Spelled) (tracks : Tracking F) (opening : Held) (past : History) (jobs : List Job) (seen : List Told) (e : Told) (m : Held) (number : ℕ) (job : Job)
    (r : Reading) (opened : List Opened) (schemas : List Schema) (next : ℕ) (frag : FragKey) (got : List Version) (fetch : F) (c : Call) where
  -- the call of a fetch leads its read on
  pub fetch_steps : CodecLaws codec spelled tracks → Comes codec spelled tracks opening past jobs seen e m number job (Collects (Fetches r opened schemas next frag got fetch c))
      → Advances codec spelled tracks opening past jobs seen e m number job (Collects (Fetches r opened schemas next frag got fetch c))
  fetch_steps laws comes =
      let fetches = comes.claims.2.0 in
      let way = comes.claims.2.1 in
      let asks = laws.asks r.frame (way.holds).schema way.piece ((way.holds).spells).look (want_of r ((way.holds).schema).attrs) fetch c way.way in
      let is : e.call ≡ c = sym (same_Some c e.call comes.asked) in
      let look : IsLook e.call = subst IsLook (sym is) (speaks_look c (name.Part ((way.piece).head).frag asks.part) asks.named) in
      let leads = look_leads spelled past jobs seen e m job.id comes.stands look comes.replied in
      let (same_held, still) = look_stays m e look comes.replied in
      let same_history = look_history jobs past seen e m look comes.replied in
      let clean = clean_look opening past jobs seen e m (after_told m e) job same_held still comes.claims.0 in
      let later = fetching_stays spelled opening past jobs seen e m (after_told m e) job.id leads.leaves number codec job r opened schemas next got
      (λ own lists. subst (λ x. SpeaksOf x (name.Part ((way.piece).head).frag asks.part)) (sym is ∙ lists) asks.named) fetches in
      let spells = (way.holds).spells in
      let since = ((((((fetches.deletes_found).gathers)).reads).at).listed).since in
      let held : map.get m (name.Part frag asks.part) ≡ Some asks.bytes = since.held (name.Part frag asks.part) asks.bytes tt (spells.held asks.part asks.bytes asks.held) in
      let speaks : SpeaksOf c (name.Part frag asks.part) = subst (λ f. SpeaksOf c (name.Part f asks.part)) spells.named asks.named in
      let is_h : IsHistory (history_told jobs past seen) = (comes.stands).history in
      let commits = since.commits in
      let from_g = begins_now jobs past seen commits.before commits.listing commits.later commits.place in
      let is_g = IsHistory-front (history_told jobs past commits.before) from_g.0 (subst IsHistory from_g.1 is_h) in
      record {
        leads = leads;
        own = reply_claims codec spelled tracks laws opening past jobs (seen ++ e ∷ []) (after_told m e) number job clean r opened schemas later.deletes_found later.all_deletes is_g (subst IsHistory (sym same_history) is_h)
            next frag got comes.claims.1 later.found fetch (record { piece = way.piece; holds = way.holds; same_frame = way.same_frame; usable = way.usable }) c asks.part asks.bytes e.reply way.way asks.held asks.named
            (tells_of m (name.Part frag asks.part) asks.bytes held e c is speaks comes.replied);
      }
