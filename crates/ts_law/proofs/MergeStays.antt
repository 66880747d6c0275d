-- What a consolidation found stays true: what a call leaves of it, and what it puts.
use Rattle.std.proofs.Common.{List, [], length, refl, subst, suc, zero, ℕ, ◌++◌, ◌∷◌}
use Rattle.std.proofs.lemmas.Option.{none-some, same_Some}
use Rattle.ts_base.specs.Held.{Held}
use Rattle.ts_base.specs.declared.heads.Version.{Version}
use Rattle.ts_base.specs.Names.{wrt_of}
use Rattle.ts_base.specs.declared.keys.FragKey.{FragKey}
use Rattle.ts_base.specs.declared.names.PartBytes.{PartBytes}
use Rattle.ts_law.proofs.Objects.{CarryAll, Carries, part_object}
use Rattle.ts_law.proofs.Stays.{are_schemas_stays, frame_stays, schema_stays, since_stays, finds_schema_stays}
use Rattle.ts_law.specs.Kept.{AimsToMerge, ChoosesFrom, Chooses, Clean, HasSources, Learns, MergeClaims, Merges, Opens, Surveys}
use Rattle.ts_law.specs.Steps.{Keeps}
use Rattle.ts_model.specs.Codecs.{Codec, Spelled, Tracking}
use Rattle.ts_model.specs.Deeds.{History}
use Rattle.ts_model.specs.States.{part_objects, schemas_named, vac_object_of}
use Rattle.ts_model.specs.Told.{Told, history_told}
use Rattle.ts_model.specs.declared.commands.Job.{Job}
use Rattle.ts_model.specs.declared.states.Candidates.{Candidates}
use Rattle.ts_model.specs.declared.states.Merging.{Merging}
use Rattle.ts_model.specs.declared.states.Merging.TheVariants as merging
use Rattle.ts_model.specs.declared.states.NewObject.{NewObject}
use Rattle.ts_model.specs.declared.states.Opened.{Opened}
use Rattle.ts_model.specs.declared.states.Survey.{Survey}
use Rattle.ts_schema.specs.declared.schemas.Schema.{Schema}

-- the objects of a consolidation carry the identifier of its fragment
pub merge_carries : (frag : FragKey) (parts : List PartBytes) (names : List FragKey) → CarryAll frag.id (part_objects frag parts ++ vac_object_of frag names ∷ record { name = wrt_of frag; bytes = [] } ∷ [])
merge_carries frag [] names zero o at = subst (λ x. Carries frag.id x.name) (same_Some (vac_object_of frag names) o at) (refl, tt)
merge_carries frag [] names (suc zero) o at = subst (λ x. Carries frag.id x.name) (same_Some (record { name = wrt_of frag; bytes = [] }) o at) (refl, tt)
merge_carries frag [] names (suc (suc i)) o at = absurd (none-some o at)
merge_carries frag (x ∷ parts) names zero o at = subst (λ y. Carries frag.id y.name) (same_Some (part_object frag x) o at) (refl, tt)
merge_carries frag (x ∷ parts) names (suc i) o at = merge_carries frag parts names i o at

module _ (spelled : Spelled) (opening : Held) (past : History) (jobs : List Job) (seen : List Told) (e : Told) (m m' : Held) (id : ℕ)
    (keeps : Keeps m m' (history_told jobs past seen) (history_told jobs past (seen ++ e ∷ [])) id) (number : ℕ) where
  -- what a consolidation chooses from stays
  abbrev pub chooses_from_stays : (from to : ℕ) (fragments counting : List FragKey) → ChoosesFrom spelled opening past jobs seen m number from to fragments counting → ChoosesFrom spelled opening past jobs (seen ++ e ∷ []) m' number from to fragments counting
  chooses_from_stays from to fragments counting is = record {
    since = since_stays spelled opening past jobs seen e m m' id keeps number is.since;
    fragments_are = is.fragments_are;
    counting_are = is.counting_are;
  }

  -- a consolidation that listed the commits goes on as it was
  abbrev pub chooses_stays : (job : Job) (c : Candidates) → Chooses spelled opening past jobs seen m number job c → Chooses spelled opening past jobs (seen ++ e ∷ []) m' number job c
  chooses_stays job c is = record {
    from = is.from;
    to = is.to;
    limits = is.limits;
    merges = is.merges;
    chooses = chooses_from_stays is.from is.to c.fragments c.counting is.chooses;
  }

  -- so does one that gets `.vac` objects
  abbrev pub surveys_stays : (job : Job) (s : Survey) → Surveys spelled opening past jobs seen m number job s → Surveys spelled opening past jobs (seen ++ e ∷ []) m' number job s
  surveys_stays job s is = record {
    merges = is.merges;
    chooses = chooses_from_stays s.from s.to s.fragments s.counting is.chooses;
    found = finds_schema_stays past jobs seen e number job is.found;
    framed = frame_stays m m' (history_told jobs past seen) (history_told jobs past (seen ++ e ∷ [])) id keeps s.frame is.framed;
    are_vacs = is.are_vacs;
  }

  module _ {F : Type 0} (codec : Codec F) where
    -- one that opens fragments
    abbrev pub opens_stays : (job : Job) (s : Survey) (opened : List Opened) → Opens codec spelled opening past jobs seen m number job s opened → Opens codec spelled opening past jobs (seen ++ e ∷ []) m' number job s opened
    opens_stays job s opened is = record {
      surveys = surveys_stays job s is.surveys;
      all_vacs = is.all_vacs;
      are_open = is.are_open;
    }

    -- one that gets schemas
    abbrev pub learns_stays : (job : Job) (s : Survey) (opened : List Opened) (schemas : List Schema)
        → Learns codec spelled opening past jobs seen m number job s opened schemas → Learns codec spelled opening past jobs (seen ++ e ∷ []) m' number job s opened schemas
    learns_stays job s opened schemas is = record {
      opens = opens_stays job s opened is.opens;
      all_open = is.all_open;
      gathered = are_schemas_stays spelled opening past jobs seen e m m' id keeps number codec (schemas_named opened) schemas is.gathered;
    }

    -- one that knows its sources
    abbrev pub has_sources_stays : (job : Job) (s : Survey) (sources : List Opened) (schema : Schema)
        → HasSources codec spelled opening past jobs seen m number job s sources schema → HasSources codec spelled opening past jobs (seen ++ e ∷ []) m' number job s sources schema
    has_sources_stays job s sources schema is = record {
      surveys = surveys_stays job s is.surveys;
      by_plan = is.by_plan;
      same_vacs = is.same_vacs;
      heads = is.heads;
      pieces = is.pieces;
      are_sources = is.are_sources;
      declared = schema_stays m m' (history_told jobs past seen) (history_told jobs past (seen ++ e ∷ [])) id keeps schema.key schema is.declared;
    }

    -- one that fetches them
    abbrev pub merges_stays : (job : Job) (s : Survey) (sources : List Opened) (schema : Schema) (next : ℕ) (got : List (List Version))
        → Merges codec spelled opening past jobs seen m number job s sources schema next got → Merges codec spelled opening past jobs (seen ++ e ∷ []) m' number job s sources schema next got
    merges_stays job s sources schema next got is = record { has = has_sources_stays job s sources schema is.has; got_are = is.got_are }

    -- one that puts what they are merged into
    abbrev pub aims_to_merge_stays : (job : Job) (objects : List NewObject) (f : FragKey) (count : ℕ)
        → AimsToMerge codec spelled opening past jobs seen m number job objects f count → AimsToMerge codec spelled opening past jobs (seen ++ e ∷ []) m' number job objects f count
    aims_to_merge_stays job objects f count is = record {
      survey = is.survey;
      first = is.first;
      others = is.others;
      schema = is.schema;
      got = is.got;
      merges = merges_stays job is.survey (is.first ∷ is.others) is.schema (length (is.first ∷ is.others)) is.got is.merges;
      named = is.named;
      counted = is.counted;
      can = is.can;
      are = is.are;
    }

    -- what the state of a consolidation says stays true, where the job stays clean
    pub merge_claims_stay : (tracks : Tracking F) (job : Job) → (Clean opening past jobs seen m job → Clean opening past jobs (seen ++ e ∷ []) m' job) → (s : Merging F)
        → MergeClaims codec spelled tracks opening past jobs seen m number job s → MergeClaims codec spelled tracks opening past jobs (seen ++ e ∷ []) m' number job s
    merge_claims_stay tracks job cleans merging.ListsCommits is = (cleans is.0, is.1)
    merge_claims_stay tracks job cleans (merging.ListsSchemas c) is = (cleans is.0, chooses_stays job c is.1)
    merge_claims_stay tracks job cleans (merging.GetsFrame c) is =
        (cleans is.0, chooses_stays job c is.1, (is.2.0, frame_stays m m' (history_told jobs past seen) (history_told jobs past (seen ++ e ∷ [])) id keeps is.2.0 is.2.1), finds_schema_stays past jobs seen e number job is.3)
    merge_claims_stay tracks job cleans (merging.GetsVacs s) is = (cleans is.0, surveys_stays job s is.1)
    merge_claims_stay tracks job cleans (merging.GetsHeads s opened) is = (cleans is.0, opens_stays job s opened is.1)
    merge_claims_stay tracks job cleans (merging.GetsSchemas s opened named schemas) is = (cleans is.0, is.1, learns_stays job s opened schemas is.2)
    merge_claims_stay tracks job cleans (merging.Fetches s sources schema next frag got fetch c) is = (cleans is.0, is.1, (merges_stays job s sources schema next got is.2.0, is.2.1))
