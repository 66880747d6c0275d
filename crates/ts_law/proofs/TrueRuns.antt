-- Jobs that are driven by their automata over a store which stands for a history make a true run.
use Rattle.std.proofs.Common.{◌≡◌, ℕ, ◌^◌, ◌<◌, Bool, ◌⊎◌, inl, inr, List, [], ◌∷◌, ◌++◌, None, Some, length, refl, sym, ◌∙◌, ap, subst, append_assoc, arith}
use Rattle.std.specs.Prelude.{All, Contains, option_and_then, slice_get}
use Rattle.std.proofs.lemmas.Option.{same_Some, slice_get_within}
use Rattle.std.proofs.lemmas.List.{append-nil}
use Rattle.std.proofs.lemmas.List.Elements.{All-head, All-tail}
use Rattle.ts_base.specs.Held.{Held}
use Rattle.ts_store.specs.declared.journal.Entry.{Entry}
use Rattle.ts_store.specs.Journals.{held_after}
use Rattle.ts_model.specs.declared.commands.Job.{Job}
use Rattle.ts_model.specs.declared.answers.Driven.{Driven}
use Rattle.ts_model.specs.declared.answers.Driven.TheVariants.{Done}
use Rattle.ts_model.specs.declared.answers.Outcome.{Outcome}
use Rattle.ts_model.specs.Deeds.{History, schema_with}
use Rattle.ts_model.specs.Codecs.{Codec, Spelled, Tracking, CodecLaws}
use Rattle.ts_model.specs.Jobs.{IsFit, AreFit, AreApart, looked_at}
use Rattle.ts_law.specs.Stands.{IsNoLease, Stands}
use Rattle.ts_model.specs.Stages.{stage_of}
use Rattle.ts_law.specs.Fresh.{IsCarried, IsNewId, IsFreshSeed, Numbered, AreJobsOf, lanes_of}
use Rattle.ts_law.specs.Lanes.{lane_by, IsOwned, IsWithin, InTurn}
use Rattle.ts_model.specs.Told.{Told, Suits, trace_of, held_told, history_told, Replied, entries_of, schema_used, schemas_found}
use Rattle.ts_law.specs.Ends.{FindsNoArray, IsTrueEnd, IsTrueOver}
use Rattle.ts_law.specs.Refusals.{WorksInSchema}
use Rattle.ts_model.specs.Commands.{create_refusal}
use Rattle.ts_base.specs.declared.names.Name.TheVariants as name
use Rattle.ts_model.specs.Driven.{EndsBy, MayAsk}
use Rattle.ts_model.specs.declared.commands.Command.TheVariants.{Create, Consolidate}
use Rattle.ts_commit.specs.declared.vacs.Limits.{Limits}
use Rattle.ts_model.specs.declared.commands.FrameIn.{FrameIn}
use Rattle.ts_model.specs.declared.states.Stage.{Stage}
use Rattle.ts_schema.specs.declared.schemas.Schema.{Schema}
use Rattle.ts_schema.specs.Evolutions.{schema_at}
use Rattle.ts_base.specs.declared.names.Name.{Name}
use Rattle.ts_store.specs.declared.call.Call.TheVariants as call
use Rattle.ts_law.specs.Runs.{AreDriven, IsTrueRun}
use Rattle.ts_law.specs.Histories.{history_of}
use Rattle.ts_law.specs.Kept.{Kept, AreAllowed, Works}
use Rattle.ts_model.proofs.ListLemmas.{Contains-here, Contains-there, slice_get-Contains, slice_get_left}
use Rattle.ts_model.proofs.Traces.{trace_of-append}
use Rattle.ts_law.proofs.TrueOver.{true_over}
use Rattle.ts_law.proofs.KeptLaws.{AreAllowed-parts, Replied-front, all_kept, calling, coming, dropped_stay, end_is_true, every_prefix, held_from}
use Rattle.ts_law.proofs.LineJobs.{AreInOrder, ids_apart, id_has_seed, jobs_fit}
use Rattle.ts_law.proofs.LineLanes.{lines_take}
use Rattle.ts_law.proofs.Idle.{refused_idle}
use Rattle.ts_law.proofs.SweepsAlone.{sweeps_alone}
use Rattle.ts_law.proofs.LeftAlone.{looks_alone, puts_alone, unlocks_alone}
use Rattle.ts_law.proofs.OwnFragments.{stays_own}
use Rattle.ts_law.proofs.Turns.{TakeTheirLane, done_apart, stopped_before, turns_allowed}
use Rattle.ts_law.proofs.Segments.{segment_of}
use Rattle.ts_law.proofs.Short.{short_undone}
use Rattle.ts_law.proofs.Refused.{refused_for}
use Rattle.ts_model.specs.declared.answers.Outcome.TheVariants as outcome
use Rattle.ts_law.proofs.Spawns.{starts_kept, spawn_kept}
use Rattle.ts_law.proofs.Journals.{journal_held}
use Rattle.ts_law.proofs.JournalHistories.{FitsIn, IsALease, Made, Merged, PutsAFrame, PutsItsOwn, Worked, front_history, front_told, lanes_turn, put_staged}

-- a put of no lease is one of a frame or of an own object
not_leased : {A : Type 0} (n : Name) → IsNoLease n → A ⊎ IsALease n → A
not_leased n none (inl puts) = puts
not_leased n none (inr lease) = absurd (subst IsNoLease lease.2 none)

-- ---- the run

module _ {F : Type 0} (codec : Codec F) (spelled : Spelled) (tracks : Tracking F) (laws : CodecLaws codec spelled tracks) (lanes : ℕ → ℕ) (jobs : List Job) (h : History) (m : Held) (told : List Told) (results : List (Driven Outcome))
    (takes : TakeTheirLane lanes jobs)
    (begins : Kept codec spelled tracks m h jobs [] [] m) (replied : Replied m told) (suit : All Suits told) (owned : All IsOwned told) (within : All (IsWithin jobs) told) (in_turn : InTurn lanes told) (driven : AreDriven codec jobs results told) where
  -- the jobs that are dropped in the end: those that were stopped
  abbrev last : List ℕ
  last = stopped_before results (length jobs)

  -- each of the calls may come
  may : AreAllowed codec jobs [] last [] told
  may = turns_allowed codec spelled tracks laws m h lanes jobs takes results told begins replied owned within suit in_turn driven

  -- each first part of the calls leaves objects that stand for its history
  prefix_stands : (front back : List Told) → told ≡ front ++ back → Stands spelled (held_after m (entries_of (lane_by lanes) front)) (history_told jobs h front)
  prefix_stands front back parts =
      subst (λ n. Stands spelled n (history_told jobs h front)) (journal_held (lane_by lanes) m front)
      ((every_prefix codec spelled tracks laws m h jobs [] last [] m told front back begins may replied parts).kept).stands

  -- each first part of the journal leaves objects that stand for its history
  journal_stands : (front back : List Entry) → entries_of (lane_by lanes) told ≡ front ++ back → Stands spelled (held_after m front) (history_of h m jobs front)
  journal_stands front back parts =
      let (a, b, whole, same) = front_told (lane_by lanes) told front back parts in
      subst (λ es. Stands spelled (held_after m es) (history_of h m jobs es)) same
      (subst (Stands spelled (held_after m (entries_of (lane_by lanes) a)))
      (front_history codec spelled tracks laws jobs h m told (lane_by lanes) last begins may replied (lanes_turn lanes told owned in_turn) a b whole) (prefix_stands a b whole))

  -- a first part of the calls
  module _ (front back : List Told) (parts : told ≡ front ++ back) where
    -- of the calls that may come these may come first
    abbrev first : (now : List ℕ) × AreAllowed codec jobs [] now [] front × AreAllowed codec jobs now last front back
    first = AreAllowed-parts codec jobs [] last [] front back (subst (AreAllowed codec jobs [] last []) parts may)

    replied_first : Replied m front
    replied_first = Replied-front m front back (subst (Replied m) parts replied)

    module _ (number : ℕ) (job : Job) (end : Outcome) (at : slice_get jobs number ≡ Some job) (end_at : slice_get results number ≡ Some (Done end)) (none : trace_of number back ≡ []) where
      -- a job that has made its calls ended by them
      ends_first : EndsBy codec job (trace_of number front) end
      ends_first =
          let traced : trace_of number told ≡ trace_of number front = ap (trace_of number) parts ∙ trace_of-append number front back ∙ ap (λ t. trace_of number front ++ t) none ∙ append-nil (trace_of number front) in
          subst (λ t. EndsBy codec job t end) traced (driven.driven number job (Done end) at end_at).ends

      -- and was not dropped
      stays_up : Contains first.0 number → ⊥
      stays_up there = done_apart results (length jobs) number end end_at (dropped_stay codec jobs first.0 last front back first.2 number there)

      -- what its end tells of the history is true
      true_end : IsTrueEnd spelled m jobs h front number job end
      true_end =
          let kept = all_kept codec spelled tracks laws m h jobs [] first.0 [] m front begins first.1 replied_first in
          elim ends_first [
            | inl over ↦ end_is_true codec spelled tracks m h jobs first.0 front (held_told m front) kept number job end at stays_up over
            | inr none ↦ subst (IsTrueEnd spelled m jobs h front number job) (sym none.0) tt
          ]

      -- so it is of a job that ran short of memory
      true_over_first : IsTrueOver spelled m jobs h front number job end
      true_over_first =
          true_over spelled m jobs h front number job end
          (λ short. short_undone codec spelled tracks laws h jobs m front first.0 begins first.1 replied_first number job at stays_up (subst (EndsBy codec job (trace_of number front)) short ends_first))
          true_end

  -- a put of no lease is one of a frame or of an own object
  put_behind : (seen back : List Told) (e : Told) → told ≡ seen ++ e ∷ back → (number : ℕ) (job : Job) → e.job ≡ Some number → slice_get jobs number ≡ Some job
      → (n : Name) (bytes : List ℕ) → e.call ≡ call.Put n bytes → IsNoLease n → PutsAFrame job n bytes ⊎ PutsItsOwn h jobs seen number job n
  put_behind seen back e parts number job mine is_job n bytes puts no_lease =
      let comes = coming codec spelled tracks laws m h jobs [] last [] m told seen back e begins may replied parts in
      let calls = calling codec spelled tracks laws m h jobs seen (held_told m seen) e number job comes mine is_job in
      let state : Stage F = stage_of codec job (trace_of number seen) in
      not_leased n no_lease (put_staged codec spelled tracks laws m h jobs seen (held_told m seen) number job state n bytes calls.claims (subst (MayAsk codec job state) puts calls.asked))

  -- a create that puts an object is a right one, and found no array once it puts its schema
  pub right_where_put : (seen back : List Told) (e : Told) → told ≡ seen ++ e ∷ back → (number : ℕ) (job : Job) → e.job ≡ Some number → slice_get jobs number ≡ Some job
      → (f : FrameIn) → job.command ≡ Create f → (n : Name) (bytes : List ℕ) → e.call ≡ call.Put n bytes → IsNoLease n
      → (create_refusal f ≡ None) × ((n ≡ name.Domain → ⊥) → FindsNoArray jobs h seen number f)
  right_where_put seen back e parts number job mine is_job f creates n bytes puts no_lease = elim (put_behind seen back e parts number job mine is_job n bytes puts no_lease) [
    | inl frame ↦ (subst (λ g. create_refusal g ≡ None) (one_create frame.made f (sym frame.creates ∙ creates)) frame.sound, λ other. absurd (other frame.named))
    | inr own ↦ elim own.finds [
      | Made made also sound new ↦
          let same = one_create made f (sym also ∙ creates) in
          (subst (λ g. create_refusal g ≡ None) same sound, λ _. subst (FindsNoArray jobs h seen number) same new)
      | Merged from to limits merges ↦ absurd (no_merge from to limits (sym merges ∙ creates))
      | Worked there works unrefused ↦ absurd (subst WorksInSchema creates unrefused.0)
    ]
  ]
    where
      one_create : (a b : FrameIn) → Create a ≡ Create b → a ≡ b
      one_create a b same = cc

      no_merge : (from to : ℕ) (limits : Limits) → Consolidate from to limits ≡ Create f → ⊥
      no_merge from to limits same = cc

  -- a job that puts an object and is no create and no consolidation works in the schema that it uses, and is not refused there
  pub works_where_used : (seen back : List Told) (e : Told) → told ≡ seen ++ e ∷ back → (number : ℕ) (job : Job) → e.job ≡ Some number → slice_get jobs number ≡ Some job
      → ((f : FrameIn) → job.command ≡ Create f → ⊥) → ((from to : ℕ) (limits : Limits) → job.command ≡ Consolidate from to limits → ⊥) → looked_at job ≡ job.at → (n : Name) (bytes : List ℕ) → e.call ≡ call.Put n bytes → IsNoLease n
      → (there : Schema) → schema_used (history_told jobs h seen) job (schemas_found (trace_of number seen)) ≡ Some there
      → Works h jobs seen number job there × FitsIn (history_told jobs h seen) job.command there
  works_where_used seen back e parts number job mine is_job no_create no_merge looks n bytes puts no_lease there uses =
      elim (put_behind seen back e parts number job mine is_job n bytes puts no_lease) [
        | inl frame ↦ absurd (no_create frame.made frame.creates)
        | inr own ↦ elim own.finds [
          | Made f creates sound new ↦ absurd (no_create f creates)
          | Merged from to limits merges ↦ absurd (no_merge from to limits merges)
          | Worked found works unrefused ↦
              let used : schema_used (history_told jobs h seen) job (schemas_found (trace_of number seen)) ≡ Some found =
              ap (schema_used (history_told jobs h seen) job) works.is_found
              ∙ ap (option_and_then (schema_with (history_told jobs h seen))) (ap (schema_at works.found) (sym looks) ∙ works.at)
              ∙ works.declared in
              subst (λ s. Works h jobs seen number job s × FitsIn (history_told jobs h seen) job.command s) (same_Some found there (sym used ∙ uses)) (works, unrefused)
        ]
      ]

  -- jobs that are driven in lanes, from where what is kept holds, make a true run
  pub jobs_true_run : IsTrueRun spelled lanes jobs h m told results
  jobs_true_run = record {
    stands = prefix_stands;
    journal = journal_stands;
    own = stays_own codec spelled tracks laws m h jobs last told begins may replied;
    stays = λ front mid back parts others. held_from codec spelled tracks laws m h jobs [] last [] m told front mid back begins may replied parts others;
    answers = true_over_first;
    causes = λ number job r at end_at.
        refused_for spelled m jobs h told replied (λ front back parts. ((every_prefix codec spelled tracks laws m h jobs [] last [] m told front back begins may replied parts).kept).stands) number codec job r
        (true_end told [] (sym (append-nil told)) number job (outcome.Refused r) at end_at refl)
        (segment_of codec laws.looks job (trace_of number told) (Done (outcome.Refused r)) (driven.driven number job (Done (outcome.Refused r)) at end_at));
    sweeps = λ number job at vacuums. sweeps_alone codec spelled tracks laws m h jobs last told begins may replied number job at vacuums;
    unlocks = λ number job seed lane at unlocks. unlocks_alone codec spelled tracks laws m h jobs last told begins may replied number job at seed lane unlocks;
    looks = λ number job at looks. looks_alone codec spelled tracks laws m h jobs last told begins may replied number job at looks;
    puts = λ number job at none. puts_alone codec spelled tracks laws m h jobs last told begins may replied number job at none;
    idle = λ number job r at end_at. refused_idle codec spelled tracks laws m h jobs last told begins may replied number job r at (driven.driven number job (Done (outcome.Refused r)) at end_at).ends;
  }

-- ---- the start

-- the item behind a list
item_behind : {X : Type 0} (xs : List X) (x : X) (ys : List X) → slice_get (xs ++ x ∷ ys) (length xs) ≡ Some x
item_behind [] x ys = refl
item_behind (y ∷ xs) x ys = item_behind xs x ys

-- what is kept stays where jobs come one after the other, which have new identifiers
pub spawn_all : {F : Type 0} (codec : Codec F) (spelled : Spelled) (tracks : Tracking F) (past : History) (m : Held) (jobs more : List Job)
    → Kept codec spelled tracks m past jobs [] [] m → AreFit more → AreApart (jobs ++ more) → ((job : Job) → Contains more job → IsCarried m past job.id → ⊥)
    → Kept codec spelled tracks m past (jobs ++ more) [] [] m
spawn_all codec spelled tracks past m jobs [] kept fit apart fresh = subst (λ js. Kept codec spelled tracks m past js [] [] m) (sym (append-nil jobs)) kept
spawn_all codec spelled tracks past m jobs (job ∷ more) kept fit apart fresh =
    subst (λ js. Kept codec spelled tracks m past js [] [] m) (append_assoc jobs (job ∷ []) more)
    (spawn_all codec spelled tracks past m (jobs ++ job ∷ []) more (spawn_kept codec spelled tracks m past jobs [] [] m job kept (All-head IsFit job more fit) new) (All-tail IsFit job more fit)
    (subst AreApart (sym (append_assoc jobs (job ∷ []) more)) apart) (λ j at. fresh j (Contains-there job more j at)))
  where
    new : IsNewId m past m jobs job.id
    new = record {
      uncarried = fresh job (Contains-here job more);
      free = λ held. fresh job (Contains-here job more) (inr (inl held));
      other = λ number j at same.
          let within = slice_get_within jobs number j at in
          let equal = apart number (length jobs) j job (slice_get_left jobs (job ∷ more) number j at) (item_behind jobs job more) same in
          absurd (omega arith);
    }

-- what is kept before the first call of the jobs of lines in order, over objects that stand for a history which the seed is fresh over
pub kept_first : {F : Type 0} (codec : Codec F) (spelled : Spelled) (tracks : Tracking F) (gives : ℕ → Bool) (seed : ℕ) (items : List Numbered) (jobs : List Job) (h : History) (m : Held)
    → AreJobsOf gives seed items jobs → AreInOrder items → Stands spelled m h → IsFreshSeed m h seed → seed < 2 ^ 64 → Kept codec spelled tracks m h jobs [] [] m
kept_first codec spelled tracks gives seed items jobs h m are order stands fresh seed_fits =
    spawn_all codec spelled tracks h m [] jobs (starts_kept codec spelled tracks h m stands) (jobs_fit gives seed items jobs are order seed_fits) (ids_apart gives seed items jobs are order) fresh_job
  where
    fresh_job : (job : Job) → Contains jobs job → IsCarried m h job.id → ⊥
    fresh_job job at carried =
        let (number, is) = slice_get-Contains jobs job at in
        fresh job.id (id_has_seed gives seed items jobs are order number job is) carried

-- the jobs of lines in order that are driven in the lanes of the lines, over objects that stand for a history which the seed is fresh over, make a true run
pub true_run : {F : Type 0} (codec : Codec F) (spelled : Spelled) (tracks : Tracking F) → CodecLaws codec spelled tracks
    → (gives : ℕ → Bool) (seed : ℕ) (items : List Numbered) (jobs : List Job) (h : History) (m : Held) (told : List Told) (results : List (Driven Outcome))
    → AreJobsOf gives seed items jobs → AreInOrder items → Stands spelled m h → IsFreshSeed m h seed → seed < 2 ^ 64
    → Replied m told → All Suits told → All IsOwned told → All (IsWithin jobs) told → InTurn (lanes_of items) told → AreDriven codec jobs results told → IsTrueRun spelled (lanes_of items) jobs h m told results
true_run codec spelled tracks laws gives seed items jobs h m told results are order stands fresh seed_fits replied suit owned within in_turn driven =
    jobs_true_run codec spelled tracks laws (lanes_of items) jobs h m told results (lines_take gives seed items jobs are order) (kept_first codec spelled tracks gives seed items jobs h m are order stands fresh seed_fits) replied suit owned within in_turn driven
