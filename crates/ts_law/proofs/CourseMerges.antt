-- The calls of a consolidation at its work: it looks for its sources, and puts what they are merged into.
use Rattle.std.proofs.Common.{length, ◌≡◌, ℕ, suc, Bool, true, false, cond, List, [], ◌∷◌, ◌++◌, drop, take, Option, Some, None, Result, Ok, Err, IsTrue, refl, sym, ◌∙◌, ap, inl, inr, subst, slice_get, append_assoc}
use Rattle.std.specs.Prelude.{Contains, filter, option_map, nat_lt, map as list_map}
use Rattle.std.specs.Option.{option_map_or}
use Rattle.std.proofs.lemmas.Bool.{ltb-false}
use Rattle.std.proofs.lemmas.List.{append-nil, take_all}
use Rattle.std.proofs.lemmas.List.Elements.{Contains-push, Contains-push_cases}
use Rattle.std.proofs.lemmas.Option.{none-some, same_Some}
use Rattle.ts_base.specs.declared.heads.Head.{Head}
use Rattle.ts_base.specs.declared.heads.Piece.{Piece}
use Rattle.ts_base.specs.declared.heads.Version.{Version}
use Rattle.ts_base.specs.declared.keys.FragKey.{FragKey}
use Rattle.ts_base.specs.declared.keys.Key.{Key}
use Rattle.ts_base.specs.declared.names.Name.{Name}
use Rattle.ts_base.specs.declared.names.Part.{Part}
use Rattle.ts_base.specs.Keys.{key_eq}
use Rattle.ts_base.specs.Names.{wrt_of}
use Rattle.ts_commit.specs.declared.vacs.Limits.{Limits}
use Rattle.ts_commit.specs.declared.vacs.Planned.{Planned}
use Rattle.ts_commit.specs.declared.vacs.VacOf.{VacOf}
use Rattle.ts_commit.specs.Plans.{is_inside, plan_of}
use Rattle.ts_commit.specs.Selections.{is_among, names_merged}
use Rattle.ts_commit.specs.Vacs.{names_of}
use Rattle.ts_schema.specs.declared.attrs.Attr.{Attr}
use Rattle.ts_schema.specs.declared.frames.Frame.{Frame}
use Rattle.ts_schema.specs.declared.schemas.Schema.{Schema}
use Rattle.ts_schema.specs.Evolutions.{schema_at}
use Rattle.ts_schema.specs.FrameTexts.{frame_of}
use Rattle.ts_schema.specs.SchemaTexts.{schema_of}
use Rattle.ts_store.specs.declared.call.Call.{Call}
use Rattle.ts_store.specs.declared.call.Reply.{Reply}
use Rattle.ts_model.specs.declared.answers.Outcome.{Outcome}
use Rattle.ts_model.specs.declared.answers.Refusal.{Refusal}
use Rattle.ts_model.specs.declared.commands.Command.TheVariants.{Consolidate}
use Rattle.ts_model.specs.declared.commands.Job.{Job}
use Rattle.ts_model.specs.declared.states.NewObject.{NewObject}
use Rattle.ts_model.specs.declared.states.Opened.{Opened}
use Rattle.ts_model.specs.declared.states.State.{State}
use Rattle.ts_model.specs.declared.states.State.TheVariants.{Merges, Over}
use Rattle.ts_model.specs.declared.states.Survey.{Survey}
use Rattle.ts_model.specs.Codecs.{Codec, Stepped, Asks, Takes, Breaks, is_look, AsksLooks}
use Rattle.ts_model.specs.Jobs.{looked_at}
use Rattle.ts_model.specs.States.{Exchange, asks, after_names, after_opened, after_source, after_surveyed, all_of, attributes_among, can_be_named, candidates_in, committed_in, counting_in, ended, frags_of, get_frame, get_head_in, get_schema, get_vac, getting_names, goes, heads_of, list_commits, list_schemas, merge_objects, merges_all, merges_in, merging_from, on_bytes, on_plan, on_read, opened_among, opening_next, piece_merged, plan_for, put_of, puts_piece, putting, refuse, schema_among, schemas_in, schemas_named, source_begins, source_leads, survey_with, surveying, vac_object_of, vac_of, takes_memory}
use Rattle.ts_model.proofs.KeyLemmas.{key_itself, key_same}
use Rattle.ts_model.proofs.ListLemmas.{Contains-cons, Contains-here, Contains-nil, Contains-only, Contains-there, filter-Contains, find-Some, find_member}
use Rattle.ts_law.specs.Courses.{AreFound, AtFrame, AtNamed, AtNames, AtOpened, BreaksPart, EachTaken, Found, GotNames, GotSchema, HasOpened, HasTaken, InSource, IsCause, IsConsolidate, IsFramed, IsCurrentKey, IsListedInside, IsLookBy, IsLookOf, IsMergeBy, IsNamedFor, IsOpened, IsUnderWay, LooksForSources, MayFetch, Merge, MergesFound, PlansBy, SaysFound, lets_on, merge_puts, IsWantOf}
use Rattle.ts_law.proofs.CourseCalls.{Ends, Follows, Goes, Well, WorkAsks, WorkEnds, follows_anyhow, follows_ended, follows_none, follows_on, follows_putting, follows_refused, goes_by, goes_none, item_in, lets_bytes, lets_length, lets_memory, look_leaves, parts_apart, puts_go}
use Rattle.ts_law.proofs.CourseBacked.{AreBacked}
use Rattle.ts_law.proofs.CourseGrows.{AreAmong, among_more, each_stays, merged_nothing, names_stay, schema_stays, way_stays}
use Rattle.ts_law.proofs.CourseReads.{fetched_on}
use Rattle.ts_law.proofs.CourseSeeks.{no_frame, no_schema}
use Rattle.ts_law.proofs.Fetches.{map-Contains}
use Rattle.ts_law.proofs.MergeKnows.{schema_named_by, schemas_named_has}
use Rattle.ts_law.proofs.MergePlans.{contains_from}
use Rattle.ts_law.proofs.ReadSteps.{push_next}
use Rattle.ts_base.specs.declared.names.Name.TheVariants as name
use Rattle.ts_commit.specs.declared.vacs.Planned.TheVariants as planned
use Rattle.ts_store.specs.declared.call.Reply.TheVariants as reply
use Rattle.ts_model.specs.declared.answers.Outcome.TheVariants as outcome
use Rattle.ts_model.specs.declared.answers.Refusal.TheVariants as refusal
use Rattle.ts_model.specs.declared.states.Merging.TheVariants as merging

-- ---- lists

-- the first so many of all are all of them
pub all_of_them : {X Y : Type 0} (f : X → Y) (xs : List X) (ys : List Y) → list_map f xs ≡ take (length xs) ys → nat_lt (length xs) (length ys) ≡ false → list_map f xs ≡ ys
all_of_them f xs ys are enough = are ∙ take_all (length xs) ys (ltb-false (length xs) (length ys) enough)

-- the items behind one
behind : {X : Type 0} (before : List X) (x : X) (rest : List X) → drop (suc (length before)) (before ++ x ∷ rest) ≡ rest
behind [] x rest = refl
behind (y ∷ before) x rest = behind before x rest

-- with an item more there is one more
pub one_longer : {X : Type 0} (xs : List X) (x : X) → length (xs ++ x ∷ []) ≡ suc (length xs)
one_longer [] x = refl
one_longer (y ∷ xs) x = ap suc (one_longer xs x)

-- an item between others is one of all
between : {X : Type 0} (before : List X) (x : X) (rest : List X) → Contains (before ++ x ∷ rest) x
between [] x rest = Contains-here x rest
between (y ∷ before) x rest = Contains-there y (before ++ x ∷ rest) x (between before x rest)

-- what was merged where a state asks for a call
merged_by : {F : Type 0} (codec : Codec F) (job : Job) (found : Found) (seen : List Exchange) (x : Exchange) (xs : List Exchange) (s : State F) (c : Call) → asks codec job s ≡ Some c
    → (WorkAsks codec job (goes codec job s x.reply) xs → MergesFound codec job found (seen ++ record { call = c; reply = x.reply } ∷ xs)) → WorkAsks codec job s (x ∷ xs) → MergesFound codec job found (seen ++ x ∷ xs)
merged_by codec job found seen x xs s c asked merges a =
    subst (λ k. MergesFound codec job found (seen ++ record { call = k; reply = x.reply } ∷ xs)) (same_Some c x.call (sym asked ∙ a.0)) (merges a.1)

module _ {F : Type 0} (codec : Codec F) (job : Job) (looks : AsksLooks codec) (from to : ℕ) (limits : Limits) (is : job.command ≡ Consolidate from to limits) where
  -- no reply to a consolidation says what it found
  silent : (found : Found) (c : Call) (r : Reply) → SaysFound found job.command c r
  silent found c r = subst (λ k. SaysFound found k c r) (sym is) tt

  -- the command is one
  consolidates : IsConsolidate job.command
  consolidates = subst IsConsolidate (sym is) tt

  -- what a consolidation found in an array of a frame: what it merged is what it came to put
  abbrev found_in : Frame → Option Merge → Found
  found_in frame merged = record { taken = false; current = no_schema; frame = frame; merged = merged; leases = []; swept = []; removed = [] }

  -- a look for sources is one of the job
  for_sources : (found : Found) (seen : List Exchange) (c : Call) → LooksForSources codec job found seen from to c → IsLookOf codec job found seen c
  for_sources found seen c look = subst (λ k. IsLookBy codec job found seen k c) (sym is) look

  -- ---- in an array whose frame it got, where it listed these commits

  module _ (names : List Name) (frame : Frame) where
    -- what it found, by what it merged
    abbrev found : Option Merge → Found
    found merged = found_in frame merged

    -- the fragments in its interval
    abbrev fragments : List FragKey
    fragments = filter (is_inside from to) (committed_in names)

    -- what it knows of the array
    abbrev survey : List VacOf → Survey
    survey vacs = record { from = from; to = to; limits = limits; frame = frame; fragments = fragments; counting = counting_in names; vacs = vacs }

    -- it listed the commits and got the frame, the first of the `.vac` objects, the first of the fragments, and some schemas
    pub record HasSurveyed (seen : List Exchange) (vacs : List VacOf) (opened : List Opened) (schemas : List Schema) : Type 0 where
      pub listed : Contains seen (record { call = list_commits; reply = reply.Names names })
      pub frame_bytes : List ℕ
      pub frame_got : Contains seen (record { call = get_frame; reply = reply.Bytes frame_bytes })
      pub frame_is : frame_of frame_bytes ≡ Ok frame
      pub vacs_are : list_map (λ v. v.frag) vacs ≡ take (length vacs) (counting_in names)
      pub each_vac : (v : VacOf) → Contains vacs v → GotNames seen v.frag v.names
      pub opened_are : frags_of opened ≡ take (length opened) fragments
      pub each_opened : (o : Opened) → Contains opened o → HasOpened codec (found None) seen o
      pub each_schema : (s : Schema) → Contains schemas s → GotSchema seen s

    -- it has all of them: each head's schema is among the schemas
    pub record HasAll (seen : List Exchange) (vacs : List VacOf) (opened : List Opened) (schemas : List Schema) : Type 0 where
      pub so_far : HasSurveyed seen vacs opened schemas
      pub all_vacs : list_map (λ v. v.frag) vacs ≡ counting_in names
      pub all_opened : frags_of opened ≡ fragments
      pub counted : (o : Opened) → Contains opened o → (s : Schema) × (s.key ≡ o.head.schema) × GotSchema seen s × (attributes_among schemas o.head.schema ≡ length s.attrs)

    -- it has its sources, those of its plan, in the schema that the first of them names
    pub record HasSources (seen : List Exchange) (vacs : List VacOf) (opened : List Opened) (schemas : List Schema) (chosen : List FragKey) (first : Opened) (others : List Opened) (schema : Schema) : Type 0 where
      pub all : HasAll seen vacs opened schemas
      pub plan : plan_of (heads_of opened) vacs (attributes_among schemas) from to limits ≡ planned.Take chosen
      pub sources : opened_among chosen opened ≡ first ∷ others
      pub schema_got : GotSchema seen schema
      pub schema_named : schema.key ≡ first.head.schema

    -- so it has after more calls
    surveyed_stays : (a b : List Exchange) (vacs : List VacOf) (opened : List Opened) (schemas : List Schema) → AreAmong a b → HasSurveyed a vacs opened schemas → HasSurveyed b vacs opened schemas
    surveyed_stays a b vacs opened schemas among has = record {
      listed = among _ has.listed;
      frame_bytes = has.frame_bytes;
      frame_got = among _ has.frame_got;
      frame_is = has.frame_is;
      vacs_are = has.vacs_are;
      each_vac = λ v at. names_stay a b v.frag v.names among (has.each_vac v at);
      opened_are = has.opened_are;
      each_opened = λ o at. let was = has.each_opened o at in (among _ was.0, was.1);
      each_schema = λ s at. schema_stays a b s among (has.each_schema s at);
    }

    sources_stay : (a b : List Exchange) (vacs : List VacOf) (opened : List Opened) (schemas : List Schema) (chosen : List FragKey) (first : Opened) (others : List Opened) (schema : Schema) → AreAmong a b
        → HasSources a vacs opened schemas chosen first others schema → HasSources b vacs opened schemas chosen first others schema
    sources_stay a b vacs opened schemas chosen first others schema among has = record {
      all = record {
        so_far = surveyed_stays a b vacs opened schemas among has.all.so_far;
        all_vacs = has.all.all_vacs;
        all_opened = has.all.all_opened;
        counted = λ o at. let (s, named, got, count) = has.all.counted o at in (s, named, schema_stays a b s among got, count);
      };
      plan = has.plan;
      sources = has.sources;
      schema_got = schema_stays a b schema among has.schema_got;
      schema_named = has.schema_named;
    }

    -- it got the frame
    framed : (seen : List Exchange) (vacs : List VacOf) (opened : List Opened) (schemas : List Schema) (merged : Option Merge) → HasSurveyed seen vacs opened schemas → IsFramed (found merged) seen
    framed seen vacs opened schemas merged has = record { frame_bytes = has.frame_bytes; frame_got = has.frame_got; frame_is = has.frame_is }

    -- a fragment in its interval was listed
    inside : (seen : List Exchange) (vacs : List VacOf) (opened : List Opened) (schemas : List Schema) (f : FragKey) → HasSurveyed seen vacs opened schemas → Contains fragments f → IsListedInside seen from to f
    inside seen vacs opened schemas f has at = let kept = filter-Contains (is_inside from to) (committed_in names) f at in (names, has.listed, kept.0, kept.1)

    -- it plans so
    abbrev plans_by : (seen : List Exchange) (vacs : List VacOf) (opened : List Opened) (schemas : List Schema) (merged : Option Merge) (plan : Planned) → HasAll seen vacs opened schemas
        → plan_of (heads_of opened) vacs (attributes_among schemas) from to limits ≡ plan → PlansBy codec job (found merged) seen plan
    plans_by seen vacs opened schemas merged plan has planned_so = record {
      from = from;
      to = to;
      limits = limits;
      merges = is;
      framed = framed seen vacs opened schemas merged has.so_far;
      names = names;
      listed = has.so_far.listed;
      opened = opened;
      all_opened = has.all_opened;
      each_opened = has.so_far.each_opened;
      vacs = vacs;
      all_vacs = has.all_vacs;
      each_vac = has.so_far.each_vac;
      attributes = attributes_among schemas;
      counted = has.counted;
      is = planned_so;
    }

    -- ---- its fetches

    -- the fetches of sources have these versions, whatever it merges
    abbrev pub HaveTaken : List Exchange → List Opened → List (List Version) → Type 0
    HaveTaken seen sources got = (merged : Option Merge) → EachTaken codec job (found merged) seen sources got

    -- with one source more
    taken_push : (seen : List Exchange) (merged : Option Merge) (before : List Opened) (got : List (List Version)) (o : Opened) (vs : List Version)
        → EachTaken codec job (found merged) seen before got → HasTaken codec job (found merged) seen o.frag vs → EachTaken codec job (found merged) seen (before ++ o ∷ []) (got ++ vs ∷ [])
    taken_push seen merged [] [] o vs each one = (one, tt)
    taken_push seen merged (p ∷ before) (us ∷ got) o vs each one = (each.0, taken_push seen merged before got o vs each.1 one)
    taken_push seen merged [] (us ∷ got) o vs each one = absurd each
    taken_push seen merged (p ∷ before) [] o vs each one = absurd each

    -- a fetch is under way, whatever it merges
    abbrev pub IsOnWay : List Exchange → FragKey → F → Call → Type 0
    IsOnWay seen frag f c = (merged : Option Merge) → IsUnderWay codec job (found merged) seen frag f c

    -- a source is open, and the plan takes it
    source_open : (seen : List Exchange) (vacs : List VacOf) (opened : List Opened) (schemas : List Schema) (chosen : List FragKey) (first : Opened) (others : List Opened) (schema : Schema) (o : Opened)
        → HasSources seen vacs opened schemas chosen first others schema → Contains (first ∷ others) o → HasOpened codec (found None) seen o × Contains chosen o.frag
    source_open seen vacs opened schemas chosen first others schema o has at =
        let (among, takes) = filter-Contains (λ p. is_among p.frag chosen) opened o (subst (λ ps. Contains ps o) (sym has.sources) at) in
        (has.all.so_far.each_opened o among, contains_from o.frag chosen takes)

    -- a consolidation may fetch its sources
    may_fetch : (seen : List Exchange) (vacs : List VacOf) (opened : List Opened) (schemas : List Schema) (chosen : List FragKey) (first : Opened) (others : List Opened) (schema : Schema) (o : Opened)
        → HasSources seen vacs opened schemas chosen first others schema → Contains (first ∷ others) o → MayFetch codec job (found None) seen job.command o.frag
    may_fetch seen vacs opened schemas chosen first others schema o has at =
        subst (λ k. MayFetch codec job (found None) seen k o.frag) (sym is) (chosen, plans_by seen vacs opened schemas None (planned.Take chosen) has.all has.plan, (source_open seen vacs opened schemas chosen first others schema o has at).1)

    -- how the fetch of a source began
    opens_so : (seen : List Exchange) (vacs : List VacOf) (opened : List Opened) (schemas : List Schema) (chosen : List FragKey) (first : Opened) (others : List Opened) (schema : Schema) (o : Opened) (begun : Result F ℕ) (merged : Option Merge)
        → HasSources seen vacs opened schemas chosen first others schema → Contains (first ∷ others) o → codec.opens frame schema o.frag o.object (all_of frame schema.attrs) ≡ begun → IsOpened codec job (found merged) seen o.frag begun
    opens_so seen vacs opened schemas chosen first others schema o begun merged has at is_begun =
        let was = (source_open seen vacs opened schemas chosen first others schema o has at).0 in
        let one = (source_open seen vacs opened schemas chosen first others schema first has (Contains-here first others)).0 in
        record {
          object = o.object;
          got = was.0;
          head = o.head;
          reads = was.1;
          schema = schema;
          schema_got = has.schema_got;
          named = subst (λ k. IsNamedFor codec (found merged) seen k o.head schema) (sym is) (first.frag, first.head, (first.object, one.0, one.1), has.schema_named);
          want = all_of frame schema.attrs;
          wants = subst (λ k. IsWantOf (found merged) seen k schema (all_of frame schema.attrs)) (sym is) refl;
          opens = is_begun;
        }

    -- ---- where its states lead

    -- the calls from a state on go along the course to what it merges
    abbrev pub GoesOn : List Exchange → List Exchange → Outcome → State F → Type 0
    GoesOn seen xs end s = (merged : Option Merge) × Goes codec job seen (found merged) (merge_puts codec frame merged) xs end s × (WorkAsks codec job s xs → MergesFound codec job (found merged) (seen ++ xs))

    -- so do the calls after one more
    abbrev pub FollowsOn : List Exchange → Exchange → List Exchange → Outcome → State F → Type 0
    FollowsOn seen x xs end s = (merged : Option Merge) × Follows codec job seen (found merged) (merge_puts codec frame merged) x xs end s × (WorkAsks codec job s xs → MergesFound codec job (found merged) (seen ++ x ∷ xs))

    -- a call that a state asks, and where it leads
    asks_on : (seen : List Exchange) (x : Exchange) (xs : List Exchange) (end : Outcome) (s : State F) (c : Call) → asks codec job s ≡ Some c → FollowsOn seen (record { call = c; reply = x.reply }) xs end (goes codec job s x.reply) → GoesOn seen (x ∷ xs) end s
    asks_on seen x xs end s c asked (merged, follows, merges) =
        let y : Exchange = record { call = c; reply = x.reply } in
        let leads = follows_anyhow codec job (takes_memory s) seen (found merged) (merge_puts codec frame merged) y xs end (goes codec job s x.reply) follows in
        (merged, goes_by codec job seen (found merged) (merge_puts codec frame merged) x xs end s c asked (λ same. leads), merged_by codec job (found merged) seen x xs s c asked merges)

    -- where it came to no puts it merged nothing
    nothing_merged : (trace : List Exchange) → MergesFound codec job (found None) trace
    nothing_merged trace = merged_nothing codec job (found None) trace refl

    -- the calls of a consolidation, from any of its states on, go along the course
    pub record MergesOn (seen xs : List Exchange) (end : Outcome) : Type 0 where
      vacs_go : (vacs : List VacOf) → HasSurveyed seen vacs [] [] → GoesOn seen xs end (Merges (merging.GetsVacs (survey vacs)))
      heads_go : (vacs : List VacOf) (opened : List Opened) → list_map (λ v. v.frag) vacs ≡ counting_in names → HasSurveyed seen vacs opened [] → GoesOn seen xs end (Merges (merging.GetsHeads (survey vacs) opened))
      schemas_go : (vacs : List VacOf) (opened : List Opened) (schemas : List Schema) → list_map (λ v. v.frag) vacs ≡ counting_in names → frags_of opened ≡ fragments → list_map (λ s. s.key) schemas ≡ take (length schemas) (schemas_named opened)
          → HasSurveyed seen vacs opened schemas → GoesOn seen xs end (Merges (merging.GetsSchemas (survey vacs) opened (schemas_named opened) schemas))
      fetches_go : (vacs : List VacOf) (opened : List Opened) (schemas : List Schema) (chosen : List FragKey) (first : Opened) (others : List Opened) (schema : Schema) (next : ℕ) (before : List Opened) (o : Opened) (rest : List Opened) (got : List (List Version)) (f : F) (c : Call)
          → HasSources seen vacs opened schemas chosen first others schema → first ∷ others ≡ before ++ o ∷ rest → next ≡ length before → HaveTaken seen before got → IsOnWay seen o.frag f c → IsTrue (is_look c)
          → GoesOn seen xs end (Merges (merging.Fetches (survey vacs) (first ∷ others) schema next o.frag got f c))

    -- after a look that lets it go on
    module _ (seen : List Exchange) (x : Exchange) (xs : List Exchange) (end : Outcome) (on : IsTrue (lets_on x.call x.reply)) (look : (merged : Option Merge) → IsLookOf codec job (found merged) seen x.call) (later : MergesOn (seen ++ x ∷ []) xs end) where
      -- the calls with this one
      abbrev now : List Exchange
      now = seen ++ x ∷ []

      -- it goes on in a state
      on_to : (s : State F) → GoesOn now xs end s → FollowsOn seen x xs end s
      on_to s (merged, goes_so, merges) = (merged, follows_on codec job seen (found merged) (merge_puts codec frame merged) (merge_puts codec frame merged) x xs end s (silent (found merged) x.call x.reply) on (inl (look merged, refl)) goes_so, λ a. subst (MergesFound codec job (found merged)) (append_assoc seen (x ∷ []) xs) (merges a))

      -- it is refused
      over_by : (r : Refusal) → IsCause codec job (found None) now x r → FollowsOn seen x xs end (refuse r)
      over_by r cause = (None, follows_refused codec job seen (found None) [] [] x xs end r (silent (found None) x.call x.reply) (inl (look None, refl)) cause, λ a. nothing_merged (seen ++ x ∷ xs))

      -- it ends for want of memory
      over_short : FollowsOn seen x xs end (Over outcome.OutOfMemory)
      over_short = (None, follows_none codec job seen (found None) [] [] x xs end (silent (found None) x.call x.reply) (inl (look None, refl)), λ a. nothing_merged (seen ++ x ∷ xs))

      -- it puts what its sources are merged into
      follows_puts : (vacs : List VacOf) (opened : List Opened) (schemas : List Schema) (chosen : List FragKey) (first : Opened) (others : List Opened) (schema : Schema) (got : List (List Version))
          → HasSources now vacs opened schemas chosen first others schema → HaveTaken now (first ∷ others) got
          → FollowsOn seen x xs end (puts_piece codec frame schema (names_merged vacs (frags_of (first ∷ others))) (length (first ∷ others)) (piece_merged job frame first others got))
      follows_puts vacs opened schemas chosen first others schema got has each = by_bound (can_be_named piece)
        where
          piece : Piece
          piece = piece_merged job frame first others got

          merge : Merge
          merge = record { schema = schema; piece = piece; names = names_merged vacs (frags_of (first ∷ others)) }

          objects : List NewObject
          objects = merge_objects codec frame schema piece (names_merged vacs (frags_of (first ∷ others)))

          merges_so : IsMergeBy codec job (found (Some merge)) now merge (length (first ∷ others))
          merges_so = record {
            chosen = chosen;
            by_plan = plans_by now vacs opened schemas (Some merge) (planned.Take chosen) has.all has.plan;
            first = first;
            others = others;
            sources = sym has.sources;
            counted = refl;
            schema_got = has.schema_got;
            schema_named = has.schema_named;
            got = got;
            each_taken = each (Some merge);
            piece = refl;
            names = refl;
          }

          commit_apart : (ob : NewObject) → Contains (vac_object_of piece.head.frag merge.names ∷ record { name = wrt_of piece.head.frag; bytes = [] } ∷ []) ob → ob.name ≡ name.Domain → ⊥
          commit_apart ob at same = elim (Contains-cons (vac_object_of piece.head.frag merge.names) (record { name = wrt_of piece.head.frag; bytes = [] } ∷ []) ob at) [
            | inl vac ↦ not_vac (ap (λ (b : NewObject). b.name) vac ∙ same)
            | inr wrt ↦ not_wrt (ap (λ (b : NewObject). b.name) (Contains-only (record { name = wrt_of piece.head.frag; bytes = [] }) ob wrt) ∙ same)
          ]
            where
              not_vac : vac_of piece.head.frag ≡ name.Domain → ⊥
              not_vac e = cc

              not_wrt : wrt_of piece.head.frag ≡ name.Domain → ⊥
              not_wrt e = cc

          merged_so : MergesFound codec job (found (Some merge)) (seen ++ x ∷ xs)
          merged_so other same = record {
            front = seen;
            last = x;
            later = xs;
            parts = refl;
            was_told = lets_memory x.call x.reply on;
            count = length (first ∷ others);
            by_told = subst (λ m. IsMergeBy codec job (found (Some merge)) now m (length (first ∷ others))) (same_Some merge other same) merges_so;
          }

          by_bound : (b : Bool) → FollowsOn seen x xs end (cond b (putting objects 0 (outcome.Consolidated piece.head.frag (length (first ∷ others)))) (Over outcome.OutOfMemory))
          by_bound false = over_short
          by_bound true =
              let o = outcome.Consolidated piece.head.frag (length (first ∷ others)) in
              let well : Well codec job now (found (Some merge)) o = (merge, refl, refl, merges_so) in (
                Some merge,
                follows_putting codec job seen (found (Some merge)) (list_map put_of objects) x xs end objects 0 o well (silent (found (Some merge)) x.call x.reply) on (inl (look (Some merge), refl))
                    (puts_go codec job now (found (Some merge)) objects o well (parts_apart piece.head.frag (codec.parts frame schema piece) (vac_object_of piece.head.frag merge.names ∷ record { name = wrt_of piece.head.frag; bytes = [] } ∷ []) commit_apart)
                    (λ ob at r. silent (found (Some merge)) (put_of ob) r) xs end 0),
                λ a. merged_so,
              )

      -- a step of the fetch of a source
      follows_step : (vacs : List VacOf) (opened : List Opened) (schemas : List Schema) (chosen : List FragKey) (first : Opened) (others : List Opened) (schema : Schema) (next : ℕ) (before : List Opened) (o : Opened) (rest : List Opened) (got : List (List Version)) (then : List Version → State F) (f : F) (said : Reply) (step : Stepped F)
          → HasSources now vacs opened schemas chosen first others schema → first ∷ others ≡ before ++ o ∷ rest → next ≡ length before → HaveTaken now before got
          → ((g : F) (c : Call) → codec.steps f said ≡ Asks g c → IsOnWay now o.frag g c) → ((part : Part) (at : ℕ) → codec.steps f said ≡ Breaks part at → BreaksPart codec job (found None) now x o.frag part at)
          → codec.steps f said ≡ step → ((vs : List Version) → codec.steps f said ≡ Takes vs → FollowsOn seen x xs end (then vs)) → FollowsOn seen x xs end (source_leads (survey vacs) (first ∷ others) schema next o.frag got then step)
      follows_step vacs opened schemas chosen first others schema next before o rest got then f said (Asks g c) has parts count each waits breaks steps goes_so =
          on_to (Merges (merging.Fetches (survey vacs) (first ∷ others) schema next o.frag got g c)) (later.fetches_go vacs opened schemas chosen first others schema next before o rest got g c has parts count each (waits g c steps) (looks f said g c steps))
      follows_step vacs opened schemas chosen first others schema next before o rest got then f said (Takes vs) has parts count each waits breaks steps goes_so = goes_so vs steps
      follows_step vacs opened schemas chosen first others schema next before o rest got then f said (Breaks part at) has parts count each waits breaks steps goes_so =
          over_by (refusal.Damaged (name.Part o.frag part) at) (inr (o.frag, part, refl, may_fetch now vacs opened schemas chosen first others schema o has (subst (λ os. Contains os o) (sym parts) (between before o rest)), breaks part at steps))

      -- the sources from a place on
      follows_merging : (vacs : List VacOf) (opened : List Opened) (schemas : List Schema) (chosen : List FragKey) (first : Opened) (others : List Opened) (schema : Schema) (next : ℕ) (before rest : List Opened) (got : List (List Version))
          → HasSources now vacs opened schemas chosen first others schema → first ∷ others ≡ before ++ rest → next ≡ length before → HaveTaken now before got
          → FollowsOn seen x xs end (merging_from codec job (survey vacs) (first ∷ others) schema next rest got)
      follows_merging vacs opened schemas chosen first others schema next before [] got has parts count each =
          follows_puts vacs opened schemas chosen first others schema got has (λ merged. subst (λ os. EachTaken codec job (found merged) now os got) (sym (parts ∙ append-nil before)) (each merged))
      follows_merging vacs opened schemas chosen first others schema next before (o ∷ rest) got has parts count each =
          by_opening (codec.opens frame schema o.frag o.object (all_of frame schema.attrs)) refl
          (λ vs taken. follows_merging vacs opened schemas chosen first others schema (suc next) (before ++ o ∷ []) rest (got ++ vs ∷ []) has (parts ∙ sym (append_assoc before (o ∷ []) rest)) (ap suc count ∙ sym (one_longer before o))
          (λ merged. taken_push now merged before got o vs (each merged) (taken merged)))
        where
          goes_so : List Version → State F
          goes_so vs = merging_from codec job (survey vacs) (first ∷ others) schema (suc next) rest (got ++ vs ∷ [])

          among : Contains (first ∷ others) o
          among = subst (λ os. Contains os o) (sym parts) (between before o rest)

          by_opening : (b : Result F ℕ) → codec.opens frame schema o.frag o.object (all_of frame schema.attrs) ≡ b → ((vs : List Version) → ((merged : Option Merge) → HasTaken codec job (found merged) now o.frag vs) → FollowsOn seen x xs end (goes_so vs))
              → FollowsOn seen x xs end (source_begins codec (survey vacs) (first ∷ others) schema next o.frag got goes_so b)
          by_opening (Ok f) is_begun on_with =
              let start : (merged : Option Merge) → IsOpened codec job (found merged) now o.frag (Ok f) = λ merged. opens_so now vacs opened schemas chosen first others schema o (Ok f) merged has among is_begun in
              follows_step vacs opened schemas chosen first others schema next before o rest got goes_so f reply.Start (codec.steps f reply.Start) has parts count each
              (λ g c steps merged. record { first = f; opened = start merged; begun = g; asked = c; begins = steps; replies = []; fetched = (refl, refl) }) (λ part at steps. inr (f, inl (start None, steps))) refl
              (λ vs steps. on_with vs (λ merged. (f, inl (start merged, steps))))
          by_opening (Err at) is_begun on_with =
              over_by (refusal.Damaged (name.Part o.frag (codec.head_part frame)) at)
              (inr (o.frag, codec.head_part frame, refl, may_fetch now vacs opened schemas chosen first others schema o has among, inl (refl, opens_so now vacs opened schemas chosen first others schema o (Err at) None has among is_begun)))

      -- the plan
      follows_plan : (vacs : List VacOf) (opened : List Opened) (schemas : List Schema) → HasAll now vacs opened schemas → FollowsOn seen x xs end (on_plan codec job (survey vacs) opened schemas (plan_for (survey vacs) opened schemas))
      follows_plan vacs opened schemas has = by_plan (plan_for (survey vacs) opened schemas) refl
        where
          by_schema : (chosen : List FragKey) (first : Opened) (others : List Opened) (s : Option Schema) → plan_for (survey vacs) opened schemas ≡ planned.Take chosen → opened_among chosen opened ≡ first ∷ others → schema_among schemas first.head.schema ≡ s
              → FollowsOn seen x xs end (merges_in codec job (survey vacs) (first ∷ others) s)
          by_schema chosen first others None plan sources knows = over_short
          by_schema chosen first others (Some schema) plan sources knows =
              let (at, same) = find-Some (λ t. key_eq t.key first.head.schema) schemas schema knows in
              follows_merging vacs opened schemas chosen first others schema 0 [] (first ∷ others) [] (record { all = has; plan = plan; sources = sources; schema_got = has.so_far.each_schema schema at; schema_named = key_same schema.key first.head.schema same }) refl refl (λ merged. tt)

          by_sources : (chosen : List FragKey) (sources : List Opened) → plan_for (survey vacs) opened schemas ≡ planned.Take chosen → opened_among chosen opened ≡ sources → FollowsOn seen x xs end (merges_all codec job (survey vacs) schemas sources)
          by_sources chosen [] plan sources = over_short
          by_sources chosen (first ∷ others) plan sources = by_schema chosen first others (schema_among schemas first.head.schema) plan sources refl

          by_plan : (p : Planned) → plan_for (survey vacs) opened schemas ≡ p → FollowsOn seen x xs end (on_plan codec job (survey vacs) opened schemas p)
          by_plan (planned.Take chosen) plan = by_sources chosen (opened_among chosen opened) plan refl
          by_plan (planned.Nothing count) plan = over_by (refusal.NothingToDo count) (refl, plans_by now vacs opened schemas None (planned.Nothing count) has plan)

      -- the gets of the schemas that are left
      follows_surveying : (vacs : List VacOf) (opened : List Opened) (schemas : List Schema) → list_map (λ v. v.frag) vacs ≡ counting_in names → frags_of opened ≡ fragments → list_map (λ s. s.key) schemas ≡ take (length schemas) (schemas_named opened)
          → HasSurveyed now vacs opened schemas → FollowsOn seen x xs end (surveying codec job (survey vacs) opened (schemas_named opened) schemas)
      follows_surveying vacs opened schemas all_vacs all_opened keys has = by_count (nat_lt (length schemas) (length (schemas_named opened))) refl
        where
          counted : list_map (λ s. s.key) schemas ≡ schemas_named opened → (o : Opened) → Contains opened o → (s : Schema) × (s.key ≡ o.head.schema) × GotSchema now s × (attributes_among schemas o.head.schema ≡ length s.attrs)
          counted all_keys o at =
              let k : Key = o.head.schema in
              let one = map-Contains (λ (t : Schema). t.key) schemas k (subst (λ ks. Contains ks k) (sym all_keys) (schemas_named_has opened o at)) in
              let (s, finds) = find_member (λ t. key_eq t.key k) schemas one.0 one.1 (ap (λ l. key_eq l k) one.2 ∙ key_itself k) in
              let (there, same) = find-Some (λ t. key_eq t.key k) schemas s finds in
              (s, key_same s.key k same, has.each_schema s there, ap (λ t. option_map_or (λ u. length u.attrs) t 0) finds)

          by_count : (b : Bool) → nat_lt (length schemas) (length (schemas_named opened)) ≡ b → FollowsOn seen x xs end (cond b (Merges (merging.GetsSchemas (survey vacs) opened (schemas_named opened) schemas)) (on_plan codec job (survey vacs) opened schemas (plan_for (survey vacs) opened schemas)))
          by_count true more = on_to (Merges (merging.GetsSchemas (survey vacs) opened (schemas_named opened) schemas)) (later.schemas_go vacs opened schemas all_vacs all_opened keys has)
          by_count false enough = follows_plan vacs opened schemas (record { so_far = has; all_vacs = all_vacs; all_opened = all_opened; counted = counted (all_of_them (λ (s : Schema). s.key) schemas (schemas_named opened) keys enough) })

      -- the gets of the heads that are left
      follows_opening : (vacs : List VacOf) (opened : List Opened) → list_map (λ v. v.frag) vacs ≡ counting_in names → HasSurveyed now vacs opened [] → FollowsOn seen x xs end (opening_next codec job (survey vacs) opened)
      follows_opening vacs opened all_vacs has = by_count (nat_lt (length opened) (length fragments)) refl
        where
          by_count : (b : Bool) → nat_lt (length opened) (length fragments) ≡ b → FollowsOn seen x xs end (cond b (Merges (merging.GetsHeads (survey vacs) opened)) (surveying codec job (survey vacs) opened (schemas_named opened) []))
          by_count true more = on_to (Merges (merging.GetsHeads (survey vacs) opened)) (later.heads_go vacs opened all_vacs has)
          by_count false enough = follows_surveying vacs opened [] all_vacs (all_of_them (λ (o : Opened). o.frag) opened fragments has.opened_are enough) refl has

      -- the gets of the `.vac` objects that are left
      pub follows_getting : (vacs : List VacOf) → HasSurveyed now vacs [] [] → FollowsOn seen x xs end (getting_names codec job (survey vacs))
      follows_getting vacs has = by_count (nat_lt (length vacs) (length (counting_in names))) refl
        where
          by_count : (b : Bool) → nat_lt (length vacs) (length (counting_in names)) ≡ b → FollowsOn seen x xs end (cond b (Merges (merging.GetsVacs (survey vacs))) (opening_next codec job (survey vacs) []))
          by_count true more = on_to (Merges (merging.GetsVacs (survey vacs))) (later.vacs_go vacs has)
          by_count false enough = follows_opening vacs [] (all_of_them (λ (v : VacOf). v.frag) vacs (counting_in names) has.vacs_are enough) has

    -- a get that is not told bytes ends the job
    get_ended : (seen xs : List Exchange) (end : Outcome) (c : Call) (r : Reply) → IsTrue (is_look c) → IsLookOf codec job (found None) seen c → FollowsOn seen (record { call = c; reply = r }) xs end (ended c r)
    get_ended seen xs end c r looking look = (None, follows_ended codec job seen (found None) [] [] c r xs end (look_leaves c r looking) (silent (found None) c r) (inl (look, refl)), λ a. nothing_merged (seen ++ record { call = c; reply = r } ∷ xs))

    -- a `.vac`
    vacs_from : (seen : List Exchange) (x : Exchange) (xs : List Exchange) (end : Outcome) → ((y : Exchange) → MergesOn (seen ++ y ∷ []) xs end) → (vacs : List VacOf) → HasSurveyed seen vacs [] [] → GoesOn seen (x ∷ xs) end (Merges (merging.GetsVacs (survey vacs)))
    vacs_from seen x xs end later vacs has = by_item (slice_get (counting_in names) (length vacs)) refl
      where
        by_item : (i : Option FragKey) → slice_get (counting_in names) (length vacs) ≡ i → GoesOn seen (x ∷ xs) end (Merges (merging.GetsVacs (survey vacs)))
        by_item None none = (None, λ a e. absurd (none-some x.call (sym (ap (option_map get_vac) none) ∙ a.0)), λ a. nothing_merged (seen ++ x ∷ xs))
        by_item (Some f) there = asks_on seen x xs end (Merges (merging.GetsVacs (survey vacs))) (get_vac f) (ap (option_map get_vac) there) (rw there (by_reply x.reply))
          where
            look : (merged : Option Merge) → IsLookOf codec job (found merged) seen (get_vac f)
            look merged = for_sources (found merged) seen (get_vac f) (AtNames f (framed seen vacs [] [] merged has) (names, has.listed, item_in (counting_in names) (length vacs) f there) refl)

            by_names : (bytes : List ℕ) (c : Result (List FragKey) ℕ) → names_of bytes ≡ c
                → FollowsOn seen (record { call = get_vac f; reply = reply.Bytes bytes }) xs end (on_read (vac_of f) (λ ns. getting_names codec job (survey_with (survey vacs) f ns)) c)
            by_names bytes (Ok ns) reads =
                let y : Exchange = record { call = get_vac f; reply = reply.Bytes bytes } in
                let v : VacOf = record { frag = f; names = ns } in
                let was = surveyed_stays seen (seen ++ y ∷ []) vacs [] [] (among_more seen y) has in
                follows_getting seen y xs end refl look (later y) (vacs ++ v ∷ []) (record {
                  listed = was.listed;
                  frame_bytes = was.frame_bytes;
                  frame_got = was.frame_got;
                  frame_is = was.frame_is;
                  vacs_are = push_next (λ (u : VacOf). u.frag) vacs v (counting_in names) was.vacs_are there;
                  each_vac = λ u at. elim (Contains-push_cases vacs v u at) [
                    | inl old ↦ was.each_vac u old
                    | inr new ↦ subst (λ (w : VacOf). GotNames (seen ++ y ∷ []) w.frag w.names) new (bytes, Contains-push seen y, reads)
                  ];
                  opened_are = was.opened_are;
                  each_opened = was.each_opened;
                  each_schema = was.each_schema;
                })
            by_names bytes (Err at) reads =
                let y : Exchange = record { call = get_vac f; reply = reply.Bytes bytes } in
                over_by seen y xs end refl look (later y) (refusal.Damaged (vac_of f) at) (inl (bytes, Contains-push seen y, reads))

            by_reply : (r : Reply) → FollowsOn seen (record { call = get_vac f; reply = r }) xs end (on_bytes (get_vac f) (after_names codec job (survey vacs) f) r)
            by_reply (reply.Bytes bytes) = by_names bytes (names_of bytes) refl
            by_reply r = get_ended seen xs end (get_vac f) r refl (look None)

    -- the head of a fragment
    heads_from : (seen : List Exchange) (x : Exchange) (xs : List Exchange) (end : Outcome) → ((y : Exchange) → MergesOn (seen ++ y ∷ []) xs end) → (vacs : List VacOf) (opened : List Opened) → list_map (λ v. v.frag) vacs ≡ counting_in names → HasSurveyed seen vacs opened []
        → GoesOn seen (x ∷ xs) end (Merges (merging.GetsHeads (survey vacs) opened))
    heads_from seen x xs end later vacs opened all_vacs has = by_item (slice_get fragments (length opened)) refl
      where
        by_item : (i : Option FragKey) → slice_get fragments (length opened) ≡ i → GoesOn seen (x ∷ xs) end (Merges (merging.GetsHeads (survey vacs) opened))
        by_item None none = (None, λ a e. absurd (none-some x.call (sym (ap (option_map (get_head_in codec frame)) none) ∙ a.0)), λ a. nothing_merged (seen ++ x ∷ xs))
        by_item (Some f) there = asks_on seen x xs end (Merges (merging.GetsHeads (survey vacs) opened)) (get_head_in codec frame f) (ap (option_map (get_head_in codec frame)) there) (rw there (by_reply x.reply))
          where
            look : (merged : Option Merge) → IsLookOf codec job (found merged) seen (get_head_in codec frame f)
            look merged =
                for_sources (found merged) seen (get_head_in codec frame f) (AtOpened f (framed seen vacs opened [] merged has) (inside seen vacs opened [] f has (item_in fragments (length opened) f there)) refl)

            by_head : (bytes : List ℕ) (h : Result Head ℕ) → codec.head frame f bytes ≡ h
                → FollowsOn seen (record { call = get_head_in codec frame f; reply = reply.Bytes bytes }) xs end (on_read (name.Part f (codec.head_part frame)) (λ head. opening_next codec job (survey vacs) (opened ++ record { frag = f; head = head; object = bytes } ∷ [])) h)
            by_head bytes (Ok head) reads =
                let y : Exchange = record { call = get_head_in codec frame f; reply = reply.Bytes bytes } in
                let o : Opened = record { frag = f; head = head; object = bytes } in
                let was = surveyed_stays seen (seen ++ y ∷ []) vacs opened [] (among_more seen y) has in
                follows_opening seen y xs end refl look (later y) vacs (opened ++ o ∷ []) all_vacs (record {
                  listed = was.listed;
                  frame_bytes = was.frame_bytes;
                  frame_got = was.frame_got;
                  frame_is = was.frame_is;
                  vacs_are = was.vacs_are;
                  each_vac = was.each_vac;
                  opened_are = push_next (λ (p : Opened). p.frag) opened o fragments was.opened_are there;
                  each_opened = λ p at. elim (Contains-push_cases opened o p at) [
                    | inl old ↦ was.each_opened p old
                    | inr new ↦ subst (HasOpened codec (found None) (seen ++ y ∷ [])) new (Contains-push seen y, reads)
                  ];
                  each_schema = was.each_schema;
                })
            by_head bytes (Err at) reads =
                let y : Exchange = record { call = get_head_in codec frame f; reply = reply.Bytes bytes } in
                let was = surveyed_stays seen (seen ++ y ∷ []) vacs opened [] (among_more seen y) has in
                over_by seen y xs end refl look (later y) (refusal.Damaged (name.Part f (codec.head_part frame)) at) (inl (bytes, Contains-push seen y, (inr (consolidates, framed (seen ++ y ∷ []) vacs opened [] None was), refl, reads)))

            by_reply : (r : Reply) → FollowsOn seen (record { call = get_head_in codec frame f; reply = r }) xs end (on_bytes (get_head_in codec frame f) (after_opened codec job (survey vacs) opened f) r)
            by_reply (reply.Bytes bytes) = by_head bytes (codec.head frame f bytes) refl
            by_reply r = get_ended seen xs end (get_head_in codec frame f) r refl (look None)

    -- a schema
    schemas_from : (seen : List Exchange) (x : Exchange) (xs : List Exchange) (end : Outcome) → ((y : Exchange) → MergesOn (seen ++ y ∷ []) xs end) → (vacs : List VacOf) (opened : List Opened) (schemas : List Schema)
        → list_map (λ v. v.frag) vacs ≡ counting_in names → frags_of opened ≡ fragments → list_map (λ s. s.key) schemas ≡ take (length schemas) (schemas_named opened) → HasSurveyed seen vacs opened schemas
        → GoesOn seen (x ∷ xs) end (Merges (merging.GetsSchemas (survey vacs) opened (schemas_named opened) schemas))
    schemas_from seen x xs end later vacs opened schemas all_vacs all_opened keys has = by_item (slice_get (schemas_named opened) (length schemas)) refl
      where
        by_item : (i : Option Key) → slice_get (schemas_named opened) (length schemas) ≡ i → GoesOn seen (x ∷ xs) end (Merges (merging.GetsSchemas (survey vacs) opened (schemas_named opened) schemas))
        by_item None none = (None, λ a e. absurd (none-some x.call (sym (ap (option_map get_schema) none) ∙ a.0)), λ a. nothing_merged (seen ++ x ∷ xs))
        by_item (Some k) there = asks_on seen x xs end (Merges (merging.GetsSchemas (survey vacs) opened (schemas_named opened) schemas)) (get_schema k) (ap (option_map get_schema) there) (rw there (by_reply x.reply))
          where
            look : (merged : Option Merge) → IsLookOf codec job (found merged) seen (get_schema k)
            look merged =
                let (o, among, names_it) = schema_named_by opened k (item_in (schemas_named opened) (length schemas) k there) in
                let was = has.each_opened o among in
                for_sources (found merged) seen (get_schema k) (AtNamed o.frag o.head (framed seen vacs opened schemas merged has) (o.object, was.0, was.1) (ap get_schema (sym names_it)))

            by_attrs : (bytes : List ℕ) (a : Result (List Attr) ℕ) → schema_of bytes ≡ a
                → FollowsOn seen (record { call = get_schema k; reply = reply.Bytes bytes }) xs end (on_read (name.Schema k) (λ attrs. surveying codec job (survey vacs) opened (schemas_named opened) (schemas ++ record { key = k; attrs = attrs } ∷ [])) a)
            by_attrs bytes (Ok attrs) reads =
                let y : Exchange = record { call = get_schema k; reply = reply.Bytes bytes } in
                let s : Schema = record { key = k; attrs = attrs } in
                let was = surveyed_stays seen (seen ++ y ∷ []) vacs opened schemas (among_more seen y) has in
                follows_surveying seen y xs end refl look (later y) vacs opened (schemas ++ s ∷ []) all_vacs all_opened (push_next (λ (t : Schema). t.key) schemas s (schemas_named opened) keys there) (record {
                  listed = was.listed;
                  frame_bytes = was.frame_bytes;
                  frame_got = was.frame_got;
                  frame_is = was.frame_is;
                  vacs_are = was.vacs_are;
                  each_vac = was.each_vac;
                  opened_are = was.opened_are;
                  each_opened = was.each_opened;
                  each_schema = λ t at. elim (Contains-push_cases schemas s t at) [
                    | inl old ↦ was.each_schema t old
                    | inr new ↦ subst (GotSchema (seen ++ y ∷ [])) new (bytes, Contains-push seen y, reads)
                  ];
                })
            by_attrs bytes (Err at) reads =
                let y : Exchange = record { call = get_schema k; reply = reply.Bytes bytes } in
                over_by seen y xs end refl look (later y) (refusal.Damaged (name.Schema k) at) (inl (bytes, Contains-push seen y, reads))

            by_reply : (r : Reply) → FollowsOn seen (record { call = get_schema k; reply = r }) xs end (on_bytes (get_schema k) (after_surveyed codec job (survey vacs) opened (schemas_named opened) schemas k) r)
            by_reply (reply.Bytes bytes) = by_attrs bytes (schema_of bytes) refl
            by_reply r = get_ended seen xs end (get_schema k) r refl (look None)

    -- a call of the fetch of a source
    fetches_from : (seen : List Exchange) (x : Exchange) (xs : List Exchange) (end : Outcome) → ((y : Exchange) → MergesOn (seen ++ y ∷ []) xs end)
        → (vacs : List VacOf) (opened : List Opened) (schemas : List Schema) (chosen : List FragKey) (first : Opened) (others : List Opened) (schema : Schema) (next : ℕ) (before : List Opened) (o : Opened) (rest : List Opened) (got : List (List Version)) (f : F) (c : Call)
        → HasSources seen vacs opened schemas chosen first others schema → first ∷ others ≡ before ++ o ∷ rest → next ≡ length before → HaveTaken seen before got → IsOnWay seen o.frag f c → IsTrue (is_look c)
        → GoesOn seen (x ∷ xs) end (Merges (merging.Fetches (survey vacs) (first ∷ others) schema next o.frag got f c))
    fetches_from seen x xs end later vacs opened schemas chosen first others schema next before o rest got f c has parts count each way looking =
        asks_on seen x xs end (Merges (merging.Fetches (survey vacs) (first ∷ others) schema next o.frag got f c)) c refl (by_reply x.reply)
      where
        among : Contains (first ∷ others) o
        among = subst (λ os. Contains os o) (sym parts) (between before o rest)

        look : (merged : Option Merge) → IsLookOf codec job (found merged) seen c
        look merged =
            for_sources (found merged) seen c (InSource chosen o.frag f (plans_by seen vacs opened schemas merged (planned.Take chosen) has.all has.plan) (source_open seen vacs opened schemas chosen first others schema o has among).1 (way merged) looking)

        goes_so : List Version → State F
        goes_so vs = merging_from codec job (survey vacs) (first ∷ others) schema (suc next) (drop (suc next) (first ∷ others)) (got ++ vs ∷ [])

        left : drop (suc next) (first ∷ others) ≡ rest
        left = ap (λ n. drop (suc n) (first ∷ others)) count ∙ ap (drop (suc (length before))) parts ∙ behind before o rest

        told : (r : Reply) → IsTrue (lets_on c r) → FollowsOn seen (record { call = c; reply = r }) xs end (source_leads (survey vacs) (first ∷ others) schema next o.frag got goes_so (codec.steps f r))
        told r on =
            let y : Exchange = record { call = c; reply = r } in
            let gone : IsOnWay (seen ++ y ∷ []) o.frag f c = λ merged. way_stays codec job (found merged) seen (seen ++ y ∷ []) o.frag f c (among_more seen y) (way merged) in
            let had = sources_stay seen (seen ++ y ∷ []) vacs opened schemas chosen first others schema (among_more seen y) has in
            let took : HaveTaken (seen ++ y ∷ []) before got = λ merged. each_stays codec job (found merged) seen (seen ++ y ∷ []) before got (among_more seen y) (each merged) in
            follows_step seen y xs end on look (later y) vacs opened schemas chosen first others schema next before o rest got goes_so f r (codec.steps f r) had parts count took
            (λ g b steps merged. let at = gone merged in record {
              first = at.first;
              opened = at.opened;
              begun = at.begun;
              asked = at.asked;
              begins = at.begins;
              replies = at.replies ++ r ∷ [];
              fetched = fetched_on codec (seen ++ y ∷ []) at.begun at.asked at.replies f c r g b at.fetched (Contains-push seen y) steps;
            })
            (λ part at steps. inr (f, inr (gone None, steps))) refl
            (λ vs steps. subst (λ os. FollowsOn seen y xs end (merging_from codec job (survey vacs) (first ∷ others) schema (suc next) os (got ++ vs ∷ []))) (sym left)
            (follows_merging seen y xs end on look (later y) vacs opened schemas chosen first others schema (suc next) (before ++ o ∷ []) rest (got ++ vs ∷ []) had (parts ∙ sym (append_assoc before (o ∷ []) rest)) (ap suc count ∙ sym (one_longer before o))
            (λ merged. taken_push (seen ++ y ∷ []) merged before got o vs (took merged) (f, inr (y, gone merged, Contains-push seen y, steps)))))

        by_reply : (r : Reply) → FollowsOn seen (record { call = c; reply = r }) xs end (after_source codec job (survey vacs) (first ∷ others) schema next o.frag got f c r)
        by_reply (reply.Bytes bytes) = told (reply.Bytes bytes) (lets_bytes c bytes looking)
        by_reply (reply.Length n) = told (reply.Length n) (lets_length c n looking)
        by_reply r = get_ended seen xs end c r looking (look None)

    -- a consolidation that has the frame goes along its course
    pub merges_on : (seen xs : List Exchange) (end : Outcome) → MergesOn seen xs end
    merges_on seen [] end = record {
      vacs_go = λ vacs has. none_left (Merges (merging.GetsVacs (survey vacs))) (λ o q. cc);
      heads_go = λ vacs opened all_vacs has. none_left (Merges (merging.GetsHeads (survey vacs) opened)) (λ o q. cc);
      schemas_go = λ vacs opened schemas all_vacs all_opened keys has. none_left (Merges (merging.GetsSchemas (survey vacs) opened (schemas_named opened) schemas)) (λ o q. cc);
      fetches_go = λ vacs opened schemas chosen first others schema next before o rest got f c has parts count each way looking. none_left (Merges (merging.Fetches (survey vacs) (first ∷ others) schema next o.frag got f c)) (λ e q. cc);
    }
      where
        none_left : (s : State F) → ((o : Outcome) → s ≡ Over o → ⊥) → GoesOn seen [] end s
        none_left s not_over = (None, goes_none codec job seen (found None) [] end s not_over, λ a. nothing_merged (seen ++ []))
    merges_on seen (x ∷ xs) end =
        let later : (y : Exchange) → MergesOn (seen ++ y ∷ []) xs end = λ y. merges_on (seen ++ y ∷ []) xs end in
        record {
          vacs_go = vacs_from seen x xs end later;
          heads_go = heads_from seen x xs end later;
          schemas_go = schemas_from seen x xs end later;
          fetches_go = fetches_from seen x xs end later;
        }

-- ---- from its first call on

module _ {F : Type 0} (codec : Codec F) (any : Job) (looks : AsksLooks codec) (from to : ℕ) (limits : Limits) where
  -- a job that consolidates
  abbrev merging_job : Job
  merging_job = record any { command = Consolidate from to limits }

  -- what it found
  abbrev found_so : Frame → Option Merge → Found
  found_so frame merged = record { taken = false; current = no_schema; frame = frame; merged = merged; leases = []; swept = []; removed = [] }

  -- where it came to no puts it merged nothing
  nothing_so : (trace : List Exchange) → MergesFound codec merging_job (found_so no_frame None) trace
  nothing_so trace = merged_nothing codec merging_job (found_so no_frame None) trace refl

  -- the get of the frame
  frame_from : (names : List Name) (k : Key) (seen xs : List Exchange) (end : Outcome) → Contains seen (record { call = list_commits; reply = reply.Names names }) → IsCurrentKey merging_job seen k
      → (frame : Frame) × (merged : Option Merge) × Goes codec merging_job seen (found_so frame merged) (merge_puts codec frame merged) xs end (Merges (merging.GetsFrame (candidates_in from to names))) × (WorkAsks codec merging_job (Merges (merging.GetsFrame (candidates_in from to names))) xs → MergesFound codec merging_job (found_so frame merged) (seen ++ xs))
  frame_from names k seen [] end listed there = (no_frame, None, goes_none codec merging_job seen (found_so no_frame None) [] end (Merges (merging.GetsFrame (candidates_in from to names))) (λ o q. cc), λ a. nothing_so (seen ++ []))
  frame_from names k seen (x ∷ xs) end listed there =
      let (frame, merged, follows, merges) = by_reply x.reply in
      (frame, merged, goes_by codec merging_job seen (found_so frame merged) (merge_puts codec frame merged) x xs end (Merges (merging.GetsFrame (candidates_in from to names))) get_frame refl (λ same. follows), merged_by codec merging_job (found_so frame merged) seen x xs (Merges (merging.GetsFrame (candidates_in from to names))) get_frame refl merges)
    where
      look : (frame : Frame) (merged : Option Merge) → IsLookOf codec merging_job (found_so frame merged) seen get_frame
      look frame merged = AtFrame k there refl

      FrameFor : Reply → Type 0
      FrameFor r = (frame : Frame) × (merged : Option Merge)
          × Follows codec merging_job seen (found_so frame merged) (merge_puts codec frame merged) (record { call = get_frame; reply = r }) xs end (goes codec merging_job (Merges (merging.GetsFrame (candidates_in from to names))) r)
          × (WorkAsks codec merging_job (goes codec merging_job (Merges (merging.GetsFrame (candidates_in from to names))) r) xs → MergesFound codec merging_job (found_so frame merged) (seen ++ record { call = get_frame; reply = r } ∷ xs))

      by_frame : (bytes : List ℕ) (f : Result Frame ℕ) → frame_of bytes ≡ f → FrameFor (reply.Bytes bytes)
      by_frame bytes (Ok frame) reads =
          let y : Exchange = record { call = get_frame; reply = reply.Bytes bytes } in
          let (merged, follows, merges) =
          follows_getting codec merging_job looks from to limits refl names frame seen y xs end refl (look frame) (merges_on codec merging_job looks from to limits refl names frame (seen ++ y ∷ []) xs end) [] (record {
            listed = among_more seen y _ listed;
            frame_bytes = bytes;
            frame_got = Contains-push seen y;
            frame_is = reads;
            vacs_are = refl;
            each_vac = λ v at. absurd (Contains-nil v at);
            opened_are = refl;
            each_opened = λ o at. absurd (Contains-nil o at);
            each_schema = λ s at. absurd (Contains-nil s at);
          }) in
          (frame, merged, rw reads follows, rw reads merges)
      by_frame bytes (Err at) reads =
          let y : Exchange = record { call = get_frame; reply = reply.Bytes bytes } in
          (no_frame, None, rw reads (follows_refused codec merging_job seen (found_so no_frame None) [] [] y xs end (refusal.Damaged name.Domain at) tt (inl (look no_frame None, refl)) (inl (bytes, Contains-push seen y, reads))), rw reads (λ a. nothing_so (seen ++ y ∷ xs)))

      by_reply : (r : Reply) → FrameFor r
      by_reply (reply.Bytes bytes) = by_frame bytes (frame_of bytes) refl
      by_reply r = (no_frame, None, follows_ended codec merging_job seen (found_so no_frame None) [] [] get_frame r xs end tt tt (inl (look no_frame None, refl)), λ a. nothing_so (seen ++ record { call = get_frame; reply = r } ∷ xs))

  -- the listing of the schemas
  listed_from : (names : List Name) (seen xs : List Exchange) (end : Outcome) → Contains seen (record { call = list_commits; reply = reply.Names names })
      → (frame : Frame) × (merged : Option Merge) × Goes codec merging_job seen (found_so frame merged) (list_schemas ∷ merge_puts codec frame merged) xs end (Merges (merging.ListsSchemas (candidates_in from to names))) × (WorkAsks codec merging_job (Merges (merging.ListsSchemas (candidates_in from to names))) xs → MergesFound codec merging_job (found_so frame merged) (seen ++ xs))
  listed_from names seen [] end listed = (no_frame, None, goes_none codec merging_job seen (found_so no_frame None) (list_schemas ∷ []) end (Merges (merging.ListsSchemas (candidates_in from to names))) (λ o q. cc), λ a. nothing_so (seen ++ []))
  listed_from names seen (x ∷ xs) end listed =
      let (frame, merged, follows, merges) = by_reply x.reply in
      (frame, merged, goes_by codec merging_job seen (found_so frame merged) (list_schemas ∷ merge_puts codec frame merged) x xs end (Merges (merging.ListsSchemas (candidates_in from to names))) list_schemas refl (λ same. follows), merged_by codec merging_job (found_so frame merged) seen x xs (Merges (merging.ListsSchemas (candidates_in from to names))) list_schemas refl merges)
    where
      SchemasFor : Reply → Type 0
      SchemasFor r = (frame : Frame) × (merged : Option Merge)
          × Follows codec merging_job seen (found_so frame merged) (list_schemas ∷ merge_puts codec frame merged) (record { call = list_schemas; reply = r }) xs end (goes codec merging_job (Merges (merging.ListsSchemas (candidates_in from to names))) r)
          × (WorkAsks codec merging_job (goes codec merging_job (Merges (merging.ListsSchemas (candidates_in from to names))) r) xs → MergesFound codec merging_job (found_so frame merged) (seen ++ record { call = list_schemas; reply = r } ∷ xs))

      by_key : (declared : List Name) (k : Option Key) → schema_at (schemas_in declared) (looked_at merging_job) ≡ k → SchemasFor (reply.Names declared)
      by_key declared (Some k) holds =
          let y : Exchange = record { call = list_schemas; reply = reply.Names declared } in
          let (frame, merged, later, merges) = frame_from names k (seen ++ y ∷ []) xs end (among_more seen y _ listed) (record { names = declared; listed = Contains-push seen y; newest = holds }) in (
            frame,
            merged,
            rw holds (follows_on codec merging_job seen (found_so frame merged) (list_schemas ∷ merge_puts codec frame merged) (merge_puts codec frame merged) y xs end (Merges (merging.GetsFrame (candidates_in from to names))) tt refl (inr (refl, tt)) later),
            rw holds (λ a. subst (MergesFound codec merging_job (found_so frame merged)) (append_assoc seen (y ∷ []) xs) (merges a)),
          )
      by_key declared None holds = (
        no_frame,
        None,
        rw holds (follows_refused codec merging_job seen (found_so no_frame None) (list_schemas ∷ []) [] (record { call = list_schemas; reply = reply.Names declared }) xs end (refusal.NoSchema (looked_at merging_job)) tt (inr (refl, tt)) (tt, declared, refl, refl, holds)),
        rw holds (λ a. nothing_so (seen ++ record { call = list_schemas; reply = reply.Names declared } ∷ xs)),
      )

      by_reply : (r : Reply) → SchemasFor r
      by_reply (reply.Names declared) = by_key declared (schema_at (schemas_in declared) (looked_at merging_job)) refl
      by_reply r = (no_frame, None, follows_ended codec merging_job seen (found_so no_frame None) (list_schemas ∷ []) [] list_schemas r xs end tt tt (inr (refl, tt)), λ a. nothing_so (seen ++ record { call = list_schemas; reply = r } ∷ xs))

  -- a consolidation goes along its course, and ends by it
  pub merge_finds : (before xs : List Exchange) (end : Outcome) → WorkAsks codec merging_job (Merges merging.ListsCommits) xs → WorkEnds codec merging_job (Merges merging.ListsCommits) xs end
      → (found : Found) × (AreFound merging_job found xs × Ends codec merging_job before found (list_commits ∷ list_schemas ∷ merge_puts codec found.frame found.merged) xs end) × AreBacked codec merging_job found (before ++ xs)
  merge_finds before [] end a e = (found_so no_frame None, goes_none codec merging_job before (found_so no_frame None) (list_commits ∷ list_schemas ∷ []) end (Merges merging.ListsCommits) (λ o q. cc) a e, (nothing_so (before ++ []), (inl refl, inl refl)))
  merge_finds before (x ∷ xs) end a e =
      let (frame, merged, follows, merges) = by_reply x.reply in
      (found_so frame merged, goes_by codec merging_job before (found_so frame merged) (list_commits ∷ list_schemas ∷ merge_puts codec frame merged) x xs end (Merges merging.ListsCommits) list_commits refl (λ same. follows) a e, (merged_by codec merging_job (found_so frame merged) before x xs (Merges merging.ListsCommits) list_commits refl merges a, (inl refl, inl refl)))
    where
      CommitsFor : Reply → Type 0
      CommitsFor r = (frame : Frame) × (merged : Option Merge)
          × Follows codec merging_job before (found_so frame merged) (list_commits ∷ list_schemas ∷ merge_puts codec frame merged) (record { call = list_commits; reply = r }) xs end (goes codec merging_job (Merges merging.ListsCommits) r)
          × (WorkAsks codec merging_job (goes codec merging_job (Merges merging.ListsCommits) r) xs → MergesFound codec merging_job (found_so frame merged) (before ++ record { call = list_commits; reply = r } ∷ xs))

      by_reply : (r : Reply) → CommitsFor r
      by_reply (reply.Names names) =
          let y : Exchange = record { call = list_commits; reply = reply.Names names } in
          let (frame, merged, later, merges) = listed_from names (before ++ y ∷ []) xs end (Contains-push before y) in (
            frame,
            merged,
            follows_on codec merging_job before (found_so frame merged) (list_commits ∷ list_schemas ∷ merge_puts codec frame merged) (list_schemas ∷ merge_puts codec frame merged) y xs end (Merges (merging.ListsSchemas (candidates_in from to names))) tt refl (inr (refl, tt)) later,
            λ a. subst (MergesFound codec merging_job (found_so frame merged)) (append_assoc before (y ∷ []) xs) (merges a),
          )
      by_reply r = (no_frame, None, follows_ended codec merging_job before (found_so no_frame None) (list_commits ∷ list_schemas ∷ []) (list_schemas ∷ []) list_commits r xs end tt tt (inr (refl, tt)), λ a. nothing_so (before ++ record { call = list_commits; reply = r } ∷ xs))
