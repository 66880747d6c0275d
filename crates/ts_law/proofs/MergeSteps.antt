-- The listings and the gets of a consolidation: each leads to the next one, to its first fetch, or to its end.
use Rattle.std.proofs.Common.{◌≡◌, ℕ, false, inl, inr, List, [], ◌∷◌, ◌++◌, Some, None, Ok, refl, sym, ◌∙◌, ap, subst, length}
use Rattle.std.specs.Prelude.{Contains, filter, option_map, slice_get}
use Rattle.std.specs.FinMap as map
use Rattle.std.proofs.lemmas.Option.{same_Some}
use Rattle.std.proofs.lemmas.List.Elements.{Contains-push_cases}
use Rattle.ts_base.specs.declared.keys.Key.{Key}
use Rattle.ts_base.specs.declared.keys.FragKey.{FragKey}
use Rattle.ts_base.specs.declared.heads.Head.{Head}
use Rattle.ts_base.specs.declared.heads.Piece.{Piece}
use Rattle.ts_base.specs.declared.names.Name.TheVariants as name
use Rattle.ts_base.specs.declared.names.Prefix.TheVariants.{Commits, Schemas}
use Rattle.ts_base.specs.Held.{Held}
use Rattle.ts_store.specs.Calls.{is_no_memory, names_under}
use Rattle.ts_schema.specs.declared.frames.Frame.{Frame}
use Rattle.ts_schema.specs.declared.schemas.Schema.{Schema}
use Rattle.ts_schema.specs.Evolutions.{schema_at}
use Rattle.ts_schema.specs.FrameTexts.{frame_object, frame_of}
use Rattle.ts_commit.specs.declared.vacs.Limits.{Limits}
use Rattle.ts_commit.specs.declared.vacs.VacOf.{VacOf}
use Rattle.ts_commit.specs.Plans.{is_inside}
use Rattle.ts_commit.specs.Vacs.{names_of}
use Rattle.ts_model.specs.declared.commands.Command.TheVariants.{Consolidate}
use Rattle.ts_model.specs.declared.commands.Job.{Job}
use Rattle.ts_model.specs.declared.states.Candidates.{Candidates}
use Rattle.ts_model.specs.declared.states.Merging.{Merging}
use Rattle.ts_model.specs.declared.states.Merging.TheVariants as merging
use Rattle.ts_model.specs.declared.states.Opened.{Opened}
use Rattle.ts_model.specs.declared.states.State.{State}
use Rattle.ts_model.specs.declared.states.State.TheVariants as states
use Rattle.ts_model.specs.declared.states.Survey.{Survey}
use Rattle.ts_model.specs.Codecs.{Codec, CodecLaws, Spelled, Tracking}
use Rattle.ts_model.specs.Deeds.{History, frame_in, current_schema, schema_with}
use Rattle.ts_model.specs.Jobs.{looked_at}
use Rattle.ts_model.specs.States.{after_names, after_opened, after_surveyed, candidates_of, committed_in, counting_in, get_frame, get_head_in, get_schema, get_vac, getting_names, list_commits, list_schemas, on_bytes, on_read, opening_next, schemas_in, schemas_named, survey_of, survey_with, surveying, surveys, vac_of, where_schema, with_item}
use Rattle.ts_model.specs.Told.{Told, after_told, IsReplied, held_told, history_told}
use Rattle.ts_model.proofs.HistoryLaws.{frame_facts, framed_by_schema, schema_with-is, current_is_with}
use Rattle.ts_model.proofs.ListLemmas.{Contains-nil, Contains-slice_get}
use Rattle.ts_law.specs.Kept.{Chooses, Claims, IsOpen, Learns, Opens, Surveys}
use Rattle.ts_law.specs.Stands.{HoldsIn, IsCommitted, Names, Stands}
use Rattle.ts_law.specs.Steps.{Advances, Comes}
use Rattle.ts_law.proofs.Declaring.{frame_again}
use Rattle.ts_law.proofs.Effects.{listed}
use Rattle.ts_law.proofs.HeldLemmas.{bytes_there}
use Rattle.ts_law.proofs.ListSteps.{counting_held, looked, Looked, names_lead, there_from_listed}
use Rattle.ts_law.proofs.MergeKnows.{committed_from_inside, getting_names_claims, opening_claims, schema_named_by, surveying_claims}
use Rattle.ts_law.proofs.MergeStays.{chooses_stays, learns_stays, opens_stays, surveys_stays}
use Rattle.ts_law.proofs.ReadSteps.{asked_of, frame_at, push_next, read_lead, schema_at_listing, schema_lead, whole_lead}
use Rattle.ts_law.proofs.Stays.{finds_schema_stays, listed_now}

module _ {F : Type 0} (codec : Codec F) (spelled : Spelled) (tracks : Tracking F) (opening : Held) (past : History) (jobs : List Job) (seen : List Told) (e : Told) (m : Held) (number : ℕ) (job : Job) where
  -- the history before the call
  abbrev h : History
  h = history_told jobs past seen

  -- the history after the call
  abbrev h' : History
  h' = history_told jobs past (seen ++ e ∷ [])

  -- what is held after the call
  abbrev m' : Held
  m' = after_told m e

  -- what a state claims after the call
  abbrev ClaimedAfter : State F → Type 0
  ClaimedAfter s = Claims codec spelled tracks opening past jobs (seen ++ e ∷ []) m' number job s

  -- a call of the job comes in a state
  abbrev ComesHere : Merging F → Type 0
  ComesHere s = Comes codec spelled tracks opening past jobs seen e m number job (states.Merges s)

  -- a call leads the job on from a state
  abbrev AdvancesHere : Merging F → Type 0
  AdvancesHere s = Advances codec spelled tracks opening past jobs seen e m number job (states.Merges s)

  -- ---- the listings

  -- a consolidation knows the fragments that it listed
  chooses_listed : Stands spelled m h → m ≡ held_told opening seen → e.job ≡ Some number → e.call ≡ list_commits → is_no_memory e.reply ≡ false → m' ≡ m → (from to : ℕ) (limits : Limits) → job.command ≡ Consolidate from to limits
      → Chooses spelled opening past jobs (seen ++ e ∷ []) m' number job (candidates_of (Consolidate from to limits) (names_under Commits m))
  chooses_listed stands now own is memory same_held from to limits merges = record {
    from = from;
    to = to;
    limits = limits;
    merges = merges;
    chooses = record {
      since = record {
        commits = listed_now seen e number Commits own is memory;
        stands = subst (λ n. Stands spelled n h) now stands;
        held = λ n bytes no_lease was. ap (λ x. map.get x n) (same_held ∙ now) ∙ was;
      };
      fragments_are = ap (λ x. filter (is_inside from to) (committed_in (names_under Commits x))) now;
      counting_are = ap (λ x. counting_in (names_under Commits x)) now;
    };
  }

  -- the listing of the commits leads to the listing of the schemas
  pub merge_commits_steps : CodecLaws codec spelled tracks → ComesHere merging.ListsCommits → AdvancesHere merging.ListsCommits
  merge_commits_steps laws comes =
      let is : e.call ≡ list_commits = sym (same_Some list_commits e.call comes.asked) in
      let look = looked spelled opening past jobs seen e m job list_commits is tt comes.stands comes.replied comes.claims.0 in
      let merges = comes.claims.1 in
      record {
        leads = look.leads;
        own = names_lead codec spelled tracks opening past jobs seen e m number job Commits (λ names. states.Merges (merging.ListsSchemas (candidates_of job.command names))) e.reply
            (λ names said. (
              look.clean,
              subst (λ c. Chooses spelled opening past jobs (seen ++ e ∷ []) m' number job (candidates_of c names)) (sym merges.3)
                  (subst (λ ns. Chooses spelled opening past jobs (seen ++ e ∷ []) m' number job (candidates_of (Consolidate merges.0 merges.1 merges.2) ns)) (sym (listed m e Commits names is comes.replied said))
                  (chooses_listed comes.stands comes.is_held comes.own is (ap is_no_memory said) look.same_held merges.0 merges.1 merges.2 merges.3)),
            ))
            look.clean.undone;
      }

  -- the listing of the schemas leads to the get of the frame, or to the end
  pub merge_schemas_steps : CodecLaws codec spelled tracks → (c : Candidates) → ComesHere (merging.ListsSchemas c) → AdvancesHere (merging.ListsSchemas c)
  merge_schemas_steps laws c comes =
      let is : e.call ≡ list_schemas = sym (same_Some list_schemas e.call comes.asked) in
      let look = looked spelled opening past jobs seen e m job list_schemas is tt comes.stands comes.replied comes.claims.0 in
      let chooses = chooses_stays spelled opening past jobs seen e m m' job.id look.leads.leaves number job c comes.claims.1 in
      record {
        leads = look.leads;
        own = names_lead codec spelled tracks opening past jobs seen e m number job Schemas (λ names. where_schema c (looked_at job) (schema_at (schemas_in names) (looked_at job))) e.reply
            (λ names said.
            subst (λ o. ClaimedAfter (where_schema c (looked_at job) o))
            (sym (ap (λ ns. schema_at (schemas_in ns) (looked_at job)) (listed m e Schemas names is comes.replied said) ∙ there_from_listed spelled m h comes.stands (looked_at job)))
            (elim (current_schema h (looked_at job)) as (λ o. current_schema h (looked_at job) ≡ o → ClaimedAfter (where_schema c (looked_at job) (option_map (λ s. s.key) o))) [
              | None ↦ λ _. look.clean.undone
              | Some s ↦ λ there.
                  let framed = framed_by_schema h s.key s comes.stands.history (current_is_with h (looked_at job) s comes.stands.history there) in
                  (look.clean, chooses, (framed.0, ap frame_in look.same_history ∙ framed.1), record { schemas = listed_now seen e number Schemas comes.own is (ap is_no_memory said); current = s; holds = there })
            ] refl))
            look.clean.undone;
      }

  -- ---- the frame

  -- the get of the frame leads to the first `.vac`, or to the fragments
  pub merge_frame_steps : CodecLaws codec spelled tracks → (c : Candidates) → ComesHere (merging.GetsFrame c) → AdvancesHere (merging.GetsFrame c)
  merge_frame_steps laws c comes =
      let is : e.call ≡ get_frame = sym (same_Some get_frame e.call comes.asked) in
      let look = looked spelled opening past jobs seen e m job get_frame is tt comes.stands comes.replied comes.claims.0 in
      let chooses = chooses_stays spelled opening past jobs seen e m m' job.id look.leads.leaves number job c comes.claims.1 in
      let frame = comes.claims.2.0 in
      let framed = comes.claims.2.1 in
      let held : map.get m name.Domain ≡ Some (frame_object frame) = comes.stands.frame ∙ ap (option_map frame_object) framed in
      let short = comes.stands.short_frame (frame_object frame) held in
      let on : Frame → State F = surveys codec job job.command c in
      record {
        leads = look.leads;
        own = whole_lead codec spelled tracks opening past jobs seen e m number job name.Domain (frame_object frame) (λ bytes. on_read name.Domain on (frame_of bytes)) is comes.replied held short look.clean.undone
            (read_lead codec spelled tracks opening past jobs seen e m number job name.Domain on frame (frame_of (frame_object frame)) (frame_again frame (frame_facts h frame comes.stands.history framed) short)
            (subst (λ command. ClaimedAfter (surveys codec job command c frame)) (sym chooses.merges)
            (getting_names_claims codec spelled tracks laws opening past jobs (seen ++ e ∷ []) m' number job look.clean (survey_of chooses.from chooses.to chooses.limits c frame) (record {
              merges = chooses.merges;
              chooses = chooses.chooses;
              found = finds_schema_stays past jobs seen e number job comes.claims.3;
              framed = ap frame_in look.same_history ∙ framed;
              are_vacs = record { frags = refl; each = λ v at. absurd (Contains-nil v at) };
            }))));
      }

  -- ---- the `.vac` objects

  -- one more was got
  surveys_more : (s : Survey) (f : FragKey) (names : List FragKey) → slice_get s.counting (length s.vacs) ≡ Some f → (is : Surveys spelled opening past jobs (seen ++ e ∷ []) m' number job s)
      → IsCommitted (held_told opening ((is.chooses).since.commits).before) f × Names (held_told opening ((is.chooses).since.commits).before) f names
      → Surveys spelled opening past jobs (seen ++ e ∷ []) m' number job (survey_with s f names)
  surveys_more s f names next is one =
      let then = held_told opening ((is.chooses).since.commits).before in
      record {
        merges = is.merges;
        chooses = record { since = is.chooses.since; fragments_are = is.chooses.fragments_are; counting_are = is.chooses.counting_are };
        found = is.found;
        framed = is.framed;
        are_vacs = record {
          frags = push_next (λ v. v.frag) s.vacs (record { frag = f; names = names }) s.counting is.are_vacs.frags next;
          each = λ v at. elim (Contains-push_cases s.vacs (record { frag = f; names = names }) v at) [
            | inl before ↦ is.are_vacs.each v before
            | inr last ↦ subst (λ (x : VacOf). IsCommitted then x.frag × Names then x.frag x.names) last one
          ];
        };
      }

  -- the get of a `.vac` leads to the next one, or to the fragments
  pub merge_vacs_steps : CodecLaws codec spelled tracks → (s : Survey) → ComesHere (merging.GetsVacs s) → AdvancesHere (merging.GetsVacs s)
  merge_vacs_steps laws s comes =
      let next = asked_of get_vac (slice_get s.counting (length s.vacs)) e.call comes.asked in
      let f = next.0 in
      let look = looked spelled opening past jobs seen e m job (get_vac f) next.2 tt comes.stands comes.replied comes.claims.0 in
      let knows = surveys_stays spelled opening past jobs seen e m m' job.id look.leads.leaves number job s comes.claims.1 in
      let since = (knows.chooses).since in
      let then = held_told opening (since.commits).before in
      let counts = counting_held then f (subst (λ fs. Contains fs f) (knows.chooses).counting_are (Contains-slice_get s.counting (length s.vacs) f next.1)) in
      let bytes = bytes_there then (vac_of f) counts.1 in
      let reads = since.stands.merged.reads f bytes.0 counts.0 bytes.1 in
      let held : map.get m (vac_of f) ≡ Some bytes.0 = ap (λ n. map.get n (vac_of f)) (sym look.same_held) ∙ since.held (vac_of f) bytes.0 tt bytes.1 in
      record {
        leads = look.leads;
        own = subst (λ o. ClaimedAfter (with_item (λ g. on_bytes (get_vac g) (after_names codec job s g) e.reply) o)) (sym next.1)
            (whole_lead codec spelled tracks opening past jobs seen e m number job (vac_of f) bytes.0 (after_names codec job s f) next.2 comes.replied held reads.0 (inr look.clean.undone)
            (read_lead codec spelled tracks opening past jobs seen e m number job (vac_of f) (λ names. getting_names codec job (survey_with s f names)) reads.1.0 (names_of bytes.0) reads.1.1
            (getting_names_claims codec spelled tracks laws opening past jobs (seen ++ e ∷ []) m' number job look.clean (survey_with s f reads.1.0)
            (surveys_more s f reads.1.0 next.1 knows (counts.0, record { bytes = bytes.0; held = bytes.1; reads = reads.1.1 })))));
      }

  -- ---- the heads

  module _ (laws : CodecLaws codec spelled tracks) (s : Survey) (opened : List Opened) (f : FragKey) (next : slice_get s.fragments (length opened) ≡ Some f)
      (opens : Opens codec spelled opening past jobs (seen ++ e ∷ []) m' number job s opened) where
    -- the history at the listing of the commits
    abbrev g : History
    g = history_told jobs past (((opens.surveys.chooses).since).commits).before

    -- what was held then
    abbrev then : Held
    then = held_told opening (((opens.surveys.chooses).since).commits).before

    -- the fragment is committed
    committed : IsCommitted then f
    committed = committed_from_inside then s.from s.to f (subst (λ fs. Contains fs f) (opens.surveys.chooses).fragments_are (Contains-slice_get s.fragments (length opened) f next))

    -- the fragment's piece
    abbrev own : (p : Piece) × HoldsIn spelled g then f p
    own = ((opens.surveys.chooses).since).stands.whole f committed

    abbrev piece : Piece
    piece = own.0

    -- it holds writes of that history
    abbrev holds : HoldsIn spelled g then f piece
    holds = own.1

    -- the part that has the head is there, and is read as the head
    abbrev found : (object : List ℕ) × ((holds.spells).look (codec.head_part holds.frame) ≡ Some object) × (codec.head holds.frame piece.head.frag object ≡ Ok piece.head)
    found = laws.head holds.frame holds.schema piece (holds.spells).look (holds.spells).spells

    -- the fragment, open
    abbrev more : Opened
    more = record { frag = f; head = piece.head; object = found.0 }

    -- an array has one frame
    same_frame : holds.frame ≡ s.frame
    same_frame = same_Some holds.frame s.frame
        (sym (frame_at codec spelled tracks opening past jobs (seen ++ e ∷ []) m' number job (((opens.surveys.chooses).since).commits) holds.frame holds.framed) ∙ opens.surveys.framed)

    -- the part that has the head is there in the frame that the consolidation knows
    at_part : (holds.spells).look (codec.head_part s.frame) ≡ Some found.0
    at_part = subst (λ frame. (holds.spells).look (codec.head_part frame) ≡ Some found.0) same_frame found.1

    -- and its object is read as the head
    read : codec.head s.frame f found.0 ≡ Ok piece.head
    read = subst (λ frame. codec.head frame f found.0 ≡ Ok piece.head) same_frame
        (subst (λ frag. codec.head holds.frame frag found.0 ≡ Ok piece.head) (holds.spells).named found.2)

    -- one fragment more is open
    opens_more : Opens codec spelled opening past jobs (seen ++ e ∷ []) m' number job s (opened ++ more ∷ [])
    opens_more = record {
      surveys = opens.surveys;
      all_vacs = opens.all_vacs;
      are_open = record {
        frags = push_next (λ o. o.frag) opened more s.fragments opens.are_open.frags next;
        each = λ o at. elim (Contains-push_cases opened more o at) [
          | inl before ↦ opens.are_open.each o before
          | inr last ↦ subst (IsOpen codec spelled g then s.frame) last (record { piece = piece; holds = holds; same_frame = same_frame; head = refl; object = at_part })
        ];
      };
    }

    -- the part that has the head of the next fragment leads on with one fragment more
    opened_lead : e.call ≡ get_head_in codec s.frame f → IsReplied m e → (look : Looked spelled opening past jobs seen e m job) → ClaimedAfter (on_bytes (get_head_in codec s.frame f) (after_opened codec job s opened f) e.reply)
    opened_lead is replied look =
        let on : Head → State F = λ head. opening_next codec job s (opened ++ record { frag = f; head = head; object = found.0 } ∷ []) in
        whole_lead codec spelled tracks opening past jobs seen e m number job (name.Part f (codec.head_part s.frame)) found.0 (after_opened codec job s opened f) is replied
        (ap (λ n. map.get n (name.Part f (codec.head_part s.frame))) (sym look.same_held)
        ∙ ((opens.surveys.chooses).since).held (name.Part f (codec.head_part s.frame)) found.0 tt ((holds.spells).held (codec.head_part s.frame) found.0 at_part))
        ((holds.spells).short (codec.head_part s.frame) found.0 at_part) look.clean.undone
        (read_lead codec spelled tracks opening past jobs seen e m number job (name.Part f (codec.head_part s.frame)) on piece.head (codec.head s.frame f found.0) read
        (opening_claims codec spelled tracks laws opening past jobs (seen ++ e ∷ []) m' number job look.clean s (opened ++ more ∷ []) opens_more))

  -- the get of a head leads to the next one, or to the schemas
  pub merge_heads_steps : CodecLaws codec spelled tracks → (s : Survey) (opened : List Opened) → ComesHere (merging.GetsHeads s opened) → AdvancesHere (merging.GetsHeads s opened)
  merge_heads_steps laws s opened comes =
      let next = asked_of (get_head_in codec s.frame) (slice_get s.fragments (length opened)) e.call comes.asked in
      let look = looked spelled opening past jobs seen e m job (get_head_in codec s.frame next.0) next.2 tt comes.stands comes.replied comes.claims.0 in
      let opens = opens_stays spelled opening past jobs seen e m m' job.id look.leads.leaves number codec job s opened comes.claims.1 in
      record {
        leads = look.leads;
        own = subst (λ o. ClaimedAfter (with_item (λ f. on_bytes (get_head_in codec s.frame f) (after_opened codec job s opened f) e.reply) o)) (sym next.1)
            (opened_lead laws s opened next.0 next.1 opens next.2 comes.replied look);
      }

  -- ---- the schemas that the heads name

  -- the next one is a deed
  named_declared : (s : Survey) (opened : List Opened) (schemas : List Schema) → Learns codec spelled opening past jobs seen m number job s opened schemas → (k : Key) → Contains (schemas_named opened) k
      → (x : Schema) × (schema_with h k ≡ Some x)
  named_declared s opened schemas learns k at =
      let by = schema_named_by opened k at in
      let opens = learns.opens in
      let is = (opens.are_open).each by.0 by.1 in
      let keyed : (is.piece).head.schema ≡ k = ap (λ head. head.schema) (sym is.head) ∙ by.2 in (
        (is.holds).schema,
        schema_at_listing codec spelled tracks opening past jobs seen m number job (((opens.surveys.chooses).since).commits) k (is.holds).schema
            (subst (λ l. schema_with (history_told jobs past (((opens.surveys.chooses).since).commits).before) l ≡ Some (is.holds).schema) keyed (is.holds).declared),
      )

  -- the get of a schema leads to the next one, or by the plan to the first fetch or to the end
  pub merge_learn_steps : CodecLaws codec spelled tracks → (s : Survey) (opened : List Opened) (named : List Key) (schemas : List Schema)
      → ComesHere (merging.GetsSchemas s opened named schemas) → AdvancesHere (merging.GetsSchemas s opened named schemas)
  merge_learn_steps laws s opened named schemas comes =
      let next = asked_of get_schema (slice_get named (length schemas)) e.call comes.asked in
      let k = next.0 in
      let look = looked spelled opening past jobs seen e m job (get_schema k) next.2 tt comes.stands comes.replied comes.claims.0 in
      let at : slice_get (schemas_named opened) (length schemas) ≡ Some k = ap (λ ks. slice_get ks (length schemas)) (sym comes.claims.1) ∙ next.1 in
      let declared = named_declared s opened schemas comes.claims.2 k (Contains-slice_get (schemas_named opened) (length schemas) k at) in
      let x = declared.0 in
      let keyed : x.key ≡ k = (schema_with-is h k x declared.1).1 in
      let its_own : schema_with h' x.key ≡ Some x = ap (λ g. schema_with g x.key) look.same_history ∙ subst (λ l. schema_with h l ≡ Some x) (sym keyed) declared.1 in
      let learns = learns_stays spelled opening past jobs seen e m m' job.id look.leads.leaves number codec job s opened schemas comes.claims.2 in
      record {
        leads = look.leads;
        own = subst (λ o. ClaimedAfter (with_item (λ l. on_bytes (get_schema l) (after_surveyed codec job s opened named schemas l) e.reply) o)) (sym next.1)
            (schema_lead codec spelled tracks opening past jobs seen e m number job comes.stands k x (λ attrs. surveying codec job s opened named (schemas ++ record { key = k; attrs = attrs } ∷ [])) declared.1 next.2 comes.replied look.clean.undone
            (subst (λ l. ClaimedAfter (surveying codec job s opened named (schemas ++ record { key = l; attrs = x.attrs } ∷ []))) keyed
            (subst (λ ks. ClaimedAfter (surveying codec job s opened ks (schemas ++ x ∷ []))) (sym comes.claims.1)
            (surveying_claims codec spelled tracks laws opening past jobs (seen ++ e ∷ []) m' number job look.clean s opened (schemas ++ x ∷ []) (record {
              opens = learns.opens;
              all_open = learns.all_open;
              gathered = record {
                keys_are = push_next (λ y. y.key) schemas x (schemas_named opened) learns.gathered.keys_are (at ∙ ap Some (sym keyed));
                each = λ y in_them. elim (Contains-push_cases schemas x y in_them) [
                  | inl before ↦ learns.gathered.each y before
                  | inr last ↦ subst (λ z. schema_with h' z.key ≡ Some z) last its_own
                ];
              };
            })))));
      }
