-- The calls of the fetches of a consolidation: each leads to another call, to the next source, or to the puts of what the sources are merged into.
use Rattle.std.proofs.Common.{◌≡◌, ℕ, suc, zero, ◌+◌, ◌<◌, Bool, true, false, cond, ◌⊎◌, inl, inr, List, [], ◌∷◌, ◌++◌, Some, Ok, length, length-append, take, drop, arith, refl, sym, ◌∙◌, ap, subst}
use Rattle.std.specs.Prelude.{slice_get, option_map}
use Rattle.std.specs.FinMap as map
use Rattle.std.proofs.lemmas.Bool.{cond-true, lt-ltb}
use Rattle.std.proofs.lemmas.Option.{none-some, same_Some, slice_get-map}
use Rattle.std.proofs.lemmas.List.{take_all, map-append}
use Rattle.ts_base.specs.declared.keys.FragKey.{FragKey}
use Rattle.ts_base.specs.declared.names.Name.{Name}
use Rattle.ts_base.specs.declared.names.Name.TheVariants as name
use Rattle.ts_base.specs.declared.names.Part.{Part}
use Rattle.ts_base.specs.declared.names.Place.TheVariants as place
use Rattle.ts_base.specs.declared.heads.Version.{Version}
use Rattle.ts_base.specs.declared.heads.Piece.{Piece}
use Rattle.ts_base.specs.Held.{Held}
use Rattle.ts_commit.specs.Selections.{names_merged}
use Rattle.ts_schema.specs.declared.schemas.Schema.{Schema}
use Rattle.ts_schema.specs.declared.frames.Frame.{Frame}
use Rattle.ts_schema.specs.declared.wants.Want.{Want}
use Rattle.ts_schema.specs.Wants.{taken}
use Rattle.ts_store.specs.declared.call.Call.{Call}
use Rattle.ts_store.specs.declared.call.Call.TheVariants as call
use Rattle.ts_store.specs.declared.call.Reply.{Reply}
use Rattle.ts_store.specs.declared.call.Reply.TheVariants as reply
use Rattle.ts_store.specs.Calls.{part_of}
use Rattle.ts_model.specs.declared.answers.Outcome.TheVariants as outcome
use Rattle.ts_model.specs.declared.answers.Refusal.TheVariants as refusal
use Rattle.ts_model.specs.declared.commands.Job.{Job}
use Rattle.ts_model.specs.declared.states.Merging.TheVariants as merging
use Rattle.ts_model.specs.declared.states.NewObject.{NewObject}
use Rattle.ts_model.specs.declared.states.Opened.{Opened}
use Rattle.ts_model.specs.declared.states.State.{State}
use Rattle.ts_model.specs.declared.states.State.TheVariants.{Over}
use Rattle.ts_model.specs.declared.states.State.TheVariants as states
use Rattle.ts_model.specs.declared.states.Survey.{Survey}
use Rattle.ts_model.specs.Deeds.{History}
use Rattle.ts_model.specs.Codecs.{Codec, Spelled, Tracking, CodecLaws, OpensWell, GoesWell, Stepped, IsToldOf, SpeaksOf}
use Rattle.ts_model.specs.Codecs.Stepped.{Asks, Takes, Breaks}
use Rattle.ts_model.specs.States.{after_source, all_of, can_be_named, ended, frags_of, merge_objects, merging_from, part_objects, piece_merged, puts_merged, putting, source_begins, source_leads}
use Rattle.ts_model.specs.Told.{Told, after_told, held_told, history_told}
use Rattle.ts_model.proofs.ListLemmas.{take_next}
use Rattle.ts_law.specs.Ends.{IsTrueRefusal}
use Rattle.ts_law.specs.Kept.{all_taken_of, AreSourcesIn, Claims, Clean, HasSources, IsSource, Merges}
use Rattle.ts_law.specs.Steps.{Advances, Comes}
use Rattle.ts_law.proofs.FetchSteps.{drop_first, drop_none, speaks_look, tells_of}
use Rattle.ts_law.proofs.ListSteps.{looked}
use Rattle.ts_law.proofs.MergeStays.{merge_carries, merges_stays}
use Rattle.ts_law.proofs.Objects.{begins_putting}

-- ---- sources and their pieces

module _ {F : Type 0} (codec : Codec F) (spelled : Spelled) (g : History) (m : Held) (frame : Frame) (schema : Schema) where
  -- each source has its piece at its place
  pub source_at : (sources : List Opened) (ps : List Piece) → AreSourcesIn codec spelled g m frame schema sources ps → (i : ℕ) (o : Opened) → slice_get sources i ≡ Some o
      → (p : Piece) × (slice_get ps i ≡ Some p) × IsSource codec spelled g m frame schema o p
  source_at [] ps are i o at = absurd (none-some o at)
  source_at (x ∷ sources) [] are i o at = absurd are
  source_at (x ∷ sources) (p ∷ ps) are zero o at = (p, refl, subst (λ y. IsSource codec spelled g m frame schema y p) (same_Some x o at) are.0)
  source_at (x ∷ sources) (p ∷ ps) are (suc i) o at = source_at sources ps are.1 i o at

  -- there are as many pieces
  pub as_many_pieces : (sources : List Opened) (ps : List Piece) → AreSourcesIn codec spelled g m frame schema sources ps → length ps ≡ length sources
  as_many_pieces [] [] are = refl
  as_many_pieces [] (p ∷ ps) are = absurd are
  as_many_pieces (o ∷ sources) [] are = absurd are
  as_many_pieces (o ∷ sources) (p ∷ ps) are = ap suc (as_many_pieces sources ps are.1)

-- ---- what is put once all was fetched

-- a consolidation puts some object
some_objects : {F : Type 0} (codec : Codec F) (frame : Frame) (schema : Schema) (p : Piece) (names : List FragKey) → 0 < length (merge_objects codec frame schema p names)
some_objects codec frame schema p names =
    let all : length (merge_objects codec frame schema p names) ≡ length (part_objects p.head.frag (codec.parts frame schema p)) + 2 = length-append (part_objects p.head.frag (codec.parts frame schema p)) _ in
    omega (arith, all)

module _ {F : Type 0} (codec : Codec F) (spelled : Spelled) (tracks : Tracking F) (opening : Held) (past : History) (jobs : List Job) (seen : List Told) (m : Held) (number : ℕ) (job : Job) (clean : Clean opening past jobs seen m job) where
  -- a consolidation that fetched all its sources goes to its puts
  puts_claims : (s : Survey) (sources : List Opened) (schema : Schema) (got : List (List Version)) → Merges codec spelled opening past jobs seen m number job s sources schema (length sources) got
      → Claims codec spelled tracks opening past jobs seen m number job (puts_merged codec job s schema got sources)
  puts_claims s [] schema got merges = tt
  puts_claims s (o ∷ others) schema got merges = by (can_be_named p) refl
    where
      p : Piece
      p = piece_merged job s.frame o others got

      names : List FragKey
      names = names_merged s.vacs (frags_of (o ∷ others))

      objects : List NewObject
      objects = merge_objects codec s.frame schema p names

      by : (t : Bool) → can_be_named p ≡ t → Claims codec spelled tracks opening past jobs seen m number job (cond t (putting objects 0 (outcome.Consolidated p.head.frag (length (o ∷ others)))) (Over outcome.OutOfMemory))
      by true can =
          let some = some_objects codec s.frame schema p names in
          subst (Claims codec spelled tracks opening past jobs seen m number job) (sym (cond-true _ _ _ (lt-ltb 0 (length objects) some)))
          (begins_putting codec spelled opening past jobs seen m number job objects (outcome.Consolidated p.head.frag (length (o ∷ others))) clean (merge_carries p.head.frag (codec.parts s.frame schema p) names) some (record {
            survey = s;
            first = o;
            others = others;
            schema = schema;
            got = got;
            merges = merges;
            named = refl;
            counted = refl;
            can = can;
            are = refl;
          }))
      by false none = tt

-- ---- what a consolidation claims while it fetches

module _ {F : Type 0} (codec : Codec F) (spelled : Spelled) (tracks : Tracking F) (laws : CodecLaws codec spelled tracks)
    (opening : Held) (past : History) (jobs : List Job) (seen : List Told) (m : Held) (number : ℕ) (job : Job) (clean : Clean opening past jobs seen m job)
    (s : Survey) (sources : List Opened) (schema : Schema) (has : HasSources codec spelled opening past jobs seen m number job s sources schema) where
  -- the state's claims hold
  abbrev Holds : State F → Type 0
  Holds x = Claims codec spelled tracks opening past jobs seen m number job x

  -- the history at the listing of the commits
  abbrev g : History
  g = history_told jobs past (((has.surveys).chooses).since.commits).before

  -- what was held then
  abbrev then : Held
  then = held_told opening (((has.surveys).chooses).since.commits).before

  -- all of a source is wanted
  abbrev want : Want
  want = all_of s.frame schema.attrs

  -- all of the sources before the next one was got
  abbrev IsFound : ℕ → List (List Version) → Type 0
  IsFound next got = got ≡ all_taken_of s.frame schema.attrs (take next has.pieces)

  -- the source at a place, and its piece
  pub record IsAt (next : ℕ) (frag : FragKey) : Type 0 where
    source : Opened
    piece : Piece
    at : slice_get has.pieces next ≡ Some piece
    is : IsSource codec spelled g then s.frame schema source piece
    named : source.frag ≡ frag

  -- what is wanted of it
  abbrev wanted_of : (next : ℕ) (frag : FragKey) → IsAt next frag → List Version
  wanted_of next frag one = taken want (one.piece).versions

  -- how a fetch of it is tracked
  abbrev tracked : (next : ℕ) (frag : FragKey) → IsAt next frag → F → Call → Type 0
  tracked next frag one = tracks s.frame schema one.piece (((one.is).holds).spells).look want

  -- a source spells its piece in the frame and the schema that the consolidation knows
  spells_here : (o : Opened) (p : Piece) (is : IsSource codec spelled g then s.frame schema o p) → spelled s.frame schema p ((is.holds).spells).look
  spells_here o p is =
      subst (λ x. spelled s.frame x p ((is.holds).spells).look) is.same_schema (subst (λ frame. spelled frame (is.holds).schema p ((is.holds).spells).look) is.same_frame ((is.holds).spells).spells)

  -- a step of a fetch leads to a call, or on with the versions that are wanted
  step_claims : (next : ℕ) (frag : FragKey) (got : List (List Version)) (on : List Version → State F) → slice_get (frags_of sources) next ≡ Some frag → (one : IsAt next frag) → IsFound next got
      → ((vs : List Version) → vs ≡ wanted_of next frag one → Holds (on vs))
      → (x : Stepped F) → GoesWell (tracked next frag one) (wanted_of next frag one) x → Holds (source_leads s sources schema next frag got on x)
  step_claims next frag got on at one found rest (Asks f c) well = (
    clean,
    at,
    (
      record { has = has; got_are = found },
      record { source = one.source; piece = one.piece; at = one.at; is = one.is; named = one.named; way = well },
    ),
  )
  step_claims next frag got on at one found rest (Takes vs) well = rest vs well
  step_claims next frag got on at one found rest (Breaks part at_offset) well = absurd well

  -- the fragment of the source at a place is the one there
  frag_at : (next : ℕ) (o : Opened) → slice_get sources next ≡ Some o → slice_get (frags_of sources) next ≡ Some o.frag
  frag_at next o at = slice_get-map (λ x. x.frag) sources next ∙ ap (option_map (λ x. x.frag)) at

  -- with one source more, all of it was got
  found_more : (next : ℕ) (p : Piece) (got : List (List Version)) → slice_get has.pieces next ≡ Some p → IsFound next got → (vs : List Version) → vs ≡ taken want p.versions → IsFound (suc next) (got ++ vs ∷ [])
  found_more next p got at found vs all =
      let one_more : next + 1 ≡ suc next = omega arith in
      ap (λ x. x ++ vs ∷ []) found ∙ ap (λ x. all_taken_of s.frame schema.attrs (take next has.pieces) ++ x ∷ []) all
      ∙ sym (map-append (λ (q : Piece). taken want q.versions) (take next has.pieces) (p ∷ [])) ∙ ap (all_taken_of s.frame schema.attrs) (sym (take_next has.pieces next p at))
      ∙ ap (λ n. all_taken_of s.frame schema.attrs (take n has.pieces)) one_more

  -- after the last source the consolidation goes to its puts
  end_claims : (next : ℕ) (got : List (List Version)) → drop next sources ≡ [] → IsFound next got → Holds (puts_merged codec job s schema got sources)
  end_claims next got none found =
      let past_end = drop_none sources next none in
      let many = as_many_pieces codec spelled g then s.frame schema sources has.pieces has.are_sources in
      let all : take next has.pieces ≡ take (length sources) has.pieces = take_all next has.pieces (omega (arith, past_end, many)) ∙ sym (take_all (length sources) has.pieces (omega (arith, many))) in
      puts_claims codec spelled tracks opening past jobs seen m number job clean s sources schema got (record { has = has; got_are = found ∙ ap (all_taken_of s.frame schema.attrs) all })

  -- a source is opened
  one_claims : (next : ℕ) (o : Opened) (got : List (List Version)) (on : List Version → State F) → slice_get sources next ≡ Some o → (one : IsAt next o.frag) → one.source ≡ o → IsFound next got
      → ((vs : List Version) → vs ≡ wanted_of next o.frag one → Holds (on vs))
      → Holds (source_begins codec s sources schema next o.frag got on (codec.opens s.frame schema o.frag o.object want))
  one_claims next o got on at one same found rest =
      let p = one.piece in
      let spells = ((one.is).holds).spells in
      let object : spells.look (codec.head_part s.frame) ≡ Some o.object = (one.is).object ∙ ap (λ (x : Opened). Some x.object) same in
      let well : OpensWell codec (tracks s.frame schema p spells.look want) s.frame schema p o.object want = laws.opens s.frame schema p spells.look want o.object (spells_here one.source p one.is) object in
      let begins : codec.opens s.frame schema o.frag o.object want ≡ Ok well.fetch = ap (λ f. codec.opens s.frame schema f o.object want) (sym one.named ∙ sym spells.named) ∙ well.opens in
      subst (λ x. Holds (source_begins codec s sources schema next o.frag got on x)) (sym begins)
      (step_claims next o.frag got on (frag_at next o at) one found rest (codec.steps well.fetch reply.Start) well.starts)

  -- the sources from a place on are fetched
  pub rest_claims : (rest : List Opened) (next : ℕ) (got : List (List Version)) → drop next sources ≡ rest → IsFound next got → Holds (merging_from codec job s sources schema next rest got)
  rest_claims [] next got left found = end_claims next got left found
  rest_claims (o ∷ rest) next got left found =
      let parts = drop_first sources next o rest left in
      let its = source_at codec spelled g then s.frame schema sources has.pieces has.are_sources next o parts.0 in
      one_claims next o got _ parts.0 (record { source = o; piece = its.0; at = its.1; is = its.2; named = refl }) refl found
      (λ vs all. rest_claims rest (suc next) (got ++ vs ∷ []) parts.1 (found_more next its.0 got its.1 found vs all))

  -- ---- replies

  -- a call on a part that finds no memory ends the consolidation
  no_memory_claims : (c : Call) (n : Name) → SpeaksOf c n → Holds (ended c reply.NoMemory)
  no_memory_claims (call.Get q from len) n speaks = tt
  no_memory_claims (call.Size q) n speaks = tt
  no_memory_claims (call.Put q bytes) n speaks = absurd speaks
  no_memory_claims (call.Remove q) n speaks = absurd speaks
  no_memory_claims (call.List p) n speaks = absurd speaks

  -- a call on a part that fails ends it too, and it has no deed
  failed_claims : (c : Call) (f : FragKey) (part : Part) → SpeaksOf c (name.Part f part) → Holds (ended c reply.Failed)
  failed_claims (call.Get q from len) f part speaks = subst (λ n. IsTrueRefusal spelled opening jobs past seen number job (refusal.StoreFault (place.Name n))) (sym speaks) clean.undone
  failed_claims (call.Size q) f part speaks = subst (λ n. IsTrueRefusal spelled opening jobs past seen number job (refusal.StoreFault (place.Name n))) (sym speaks) clean.undone
  failed_claims (call.Put q bytes) f part speaks = absurd speaks
  failed_claims (call.Remove q) f part speaks = absurd speaks
  failed_claims (call.List p) f part speaks = absurd speaks

  module _ (next : ℕ) (frag : FragKey) (got : List (List Version)) (at : slice_get (frags_of sources) next ≡ Some frag) (found : IsFound next got) (fetch : F) (one : IsAt next frag) where
    -- where the consolidation goes on with the versions of the source
    abbrev goes_on : List Version → State F
    goes_on vs = merging_from codec job s sources schema (suc next) (drop (suc next) sources) (got ++ vs ∷ [])

    -- a step that goes well leads it on
    on_claims : (x : Stepped F) → GoesWell (tracked next frag one) (wanted_of next frag one) x → Holds (source_leads s sources schema next frag got goes_on x)
    on_claims x well = step_claims next frag got goes_on at one found
        (λ vs all. rest_claims (drop (suc next) sources) (suc next) (got ++ vs ∷ []) refl (found_more next one.piece got one.at found vs all)) x well

    -- what a part tells leads it on
    told_claims : (c : Call) (part : Part) (bytes : List ℕ) (said : Reply) → tracked next frag one fetch c → (((one.is).holds).spells).look part ≡ Some bytes
        → SpeaksOf c (name.Part ((one.piece).head).frag part) → IsToldOf c bytes said → Holds (after_source codec job s sources schema next frag got fetch c said)
    told_claims (call.Get q from len) part bytes said way held speaks told =
        subst (λ x. Holds (after_source codec job s sources schema next frag got fetch (call.Get q from len) x)) (sym told)
        (on_claims (codec.steps fetch (reply.Bytes (part_of from len bytes)))
        (laws.goes s.frame schema one.piece (((one.is).holds).spells).look want fetch (call.Get q from len) part bytes (reply.Bytes (part_of from len bytes)) way held speaks refl))
    told_claims (call.Size q) part bytes said way held speaks told =
        subst (λ x. Holds (after_source codec job s sources schema next frag got fetch (call.Size q) x)) (sym told)
        (on_claims (codec.steps fetch (reply.Length (length bytes)))
        (laws.goes s.frame schema one.piece (((one.is).holds).spells).look want fetch (call.Size q) part bytes (reply.Length (length bytes)) way held speaks refl))
    told_claims (call.Put q more) part bytes said way held speaks told = absurd speaks
    told_claims (call.Remove q) part bytes said way held speaks told = absurd speaks
    told_claims (call.List p) part bytes said way held speaks told = absurd speaks

    -- where a reply leads it
    reply_claims : (c : Call) (part : Part) (bytes : List ℕ) (said : Reply) → tracked next frag one fetch c → (((one.is).holds).spells).look part ≡ Some bytes
        → SpeaksOf c (name.Part ((one.piece).head).frag part) → (said ≡ reply.NoMemory) ⊎ ((said ≡ reply.Failed) ⊎ IsToldOf c bytes said)
        → Holds (after_source codec job s sources schema next frag got fetch c said)
    reply_claims c part bytes said way held speaks (inl none) =
        subst (λ x. Holds (after_source codec job s sources schema next frag got fetch c x)) (sym none) (no_memory_claims c (name.Part ((one.piece).head).frag part) speaks)
    reply_claims c part bytes said way held speaks (inr (inl failed)) =
        subst (λ x. Holds (after_source codec job s sources schema next frag got fetch c x)) (sym failed) (failed_claims c ((one.piece).head).frag part speaks)
    reply_claims c part bytes said way held speaks (inr (inr told)) = told_claims c part bytes said way held speaks told

-- ---- the call of a fetch

module _ {F : Type 0} (codec : Codec F) (spelled : Spelled) (tracks : Tracking F) (opening : Held) (past : History) (jobs : List Job) (seen : List Told) (e : Told) (m : Held) (number : ℕ) (job : Job)
    (s : Survey) (sources : List Opened) (schema : Schema) (next : ℕ) (frag : FragKey) (got : List (List Version)) (fetch : F) (c : Call) where
  -- the call of the fetch of a source leads its consolidation on
  pub merge_fetch_steps : CodecLaws codec spelled tracks → Comes codec spelled tracks opening past jobs seen e m number job (states.Merges (merging.Fetches s sources schema next frag got fetch c))
      → Advances codec spelled tracks opening past jobs seen e m number job (states.Merges (merging.Fetches s sources schema next frag got fetch c))
  merge_fetch_steps laws comes =
      let merges = comes.claims.2.0 in
      let way = comes.claims.2.1 in
      let holds = (way.is).holds in
      let asks = laws.asks s.frame schema way.piece (holds.spells).look (all_of s.frame schema.attrs) fetch c way.way in
      let is : e.call ≡ c = sym (same_Some c e.call comes.asked) in
      let look = looked spelled opening past jobs seen e m job c is (speaks_look c (name.Part ((way.piece).head).frag asks.part) asks.named) comes.stands comes.replied comes.claims.0 in
      let later = merges_stays spelled opening past jobs seen e m (after_told m e) job.id look.leads.leaves number codec job s sources schema next got merges in
      let spells = holds.spells in
      let since = ((((merges.has).surveys).chooses).since) in
      let here : ((way.piece).head).frag ≡ frag = spells.named ∙ way.named in
      let held : map.get m (name.Part frag asks.part) ≡ Some asks.bytes =
      since.held (name.Part frag asks.part) asks.bytes tt (subst (λ f. map.get (held_told opening (since.commits).before) (name.Part f asks.part) ≡ Some asks.bytes) way.named (spells.held asks.part asks.bytes asks.held)) in
      let speaks : SpeaksOf c (name.Part frag asks.part) = subst (λ f. SpeaksOf c (name.Part f asks.part)) here asks.named in
      record {
        leads = look.leads;
        own = reply_claims codec spelled tracks laws opening past jobs (seen ++ e ∷ []) (after_told m e) number job look.clean s sources schema later.has
            next frag got comes.claims.1 later.got_are fetch (record { source = way.source; piece = way.piece; at = way.at; is = way.is; named = way.named }) c asks.part asks.bytes e.reply way.way asks.held asks.named
            (tells_of m (name.Part frag asks.part) asks.bytes held e c is speaks comes.replied);
      }
