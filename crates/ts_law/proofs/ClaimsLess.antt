-- The claims of other jobs stay by the removals of a vacuum, since no other job is granted a lease then.
use Rattle.std.proofs.Common.{◌≡◌, ◌≢◌, ℕ, ◌+◌, Bool, true, false, not, inl, inr, List, [], ◌∷◌, ◌++◌, Option, Some, None, refl, sym, ◌∙◌, ap, subst, arith}
use Rattle.std.specs.Prelude.{Contains, option_map, slice_get}
use Rattle.std.proofs.lemmas.Bool.{true≢false}
use Rattle.std.proofs.lemmas.Option.{none-some, same_Some}
use Rattle.ts_base.specs.Held.{Held}
use Rattle.ts_base.specs.Names.{wrt_of}
use Rattle.ts_base.specs.declared.names.LeaseMode.{LeaseMode}
use Rattle.ts_base.specs.declared.names.LeaseMode.TheVariants.{Exc}
use Rattle.ts_base.specs.declared.names.Name.{Name}
use Rattle.ts_store.specs.declared.call.Call.TheVariants as call
use Rattle.ts_schema.specs.declared.frames.Frame.{Frame}
use Rattle.ts_schema.specs.declared.schemas.Schema.{Schema}
use Rattle.ts_model.specs.declared.answers.Outcome.{Outcome}
use Rattle.ts_model.specs.declared.answers.Outcome.TheVariants as outcome
use Rattle.ts_model.specs.declared.commands.Command.{Command}
use Rattle.ts_model.specs.declared.commands.Command.TheVariants.{Create, Evolve, Write, Read, Delete, Consolidate, Vacuum, Unlock, Fragments}
use Rattle.ts_model.specs.declared.commands.Job.{Job}
use Rattle.ts_model.specs.declared.states.Listed.{Listed}
use Rattle.ts_model.specs.declared.states.NewObject.{NewObject}
use Rattle.ts_model.specs.declared.states.State.{State}
use Rattle.ts_model.specs.declared.states.State.TheVariants.{Creates, Seeks, Puts, Collects, Merges, Lists, Sweeps, Removes, Over}
use Rattle.ts_model.specs.declared.states.Creating.TheVariants.{PutsFrame, ComparesFrame, ListsDeclared}
use Rattle.ts_model.specs.declared.states.Seeking.TheVariants.{ListsCommits, ListsSchemas, GetsSchema, GetsFrame}
use Rattle.ts_model.specs.declared.states.Collecting.{Collecting}
use Rattle.ts_model.specs.declared.states.Collecting.TheVariants.{GetsVacs, GetsHeads, GetsSchemas, GetsDeletes, Fetches}
use Rattle.ts_model.specs.declared.states.Merging.{Merging}
use Rattle.ts_model.specs.declared.states.Merging.TheVariants as merging
use Rattle.ts_model.specs.declared.states.Sweeping.{Sweeping}
use Rattle.ts_model.specs.declared.states.Sweeping.TheVariants as sweeping
use Rattle.ts_model.specs.declared.states.Stage.{Stage}
use Rattle.ts_model.specs.declared.states.Stage.TheVariants.{ListsLeases, PutsLease, Releases}
use Rattle.ts_model.specs.declared.states.Stage.TheVariants as stages
use Rattle.ts_model.specs.Codecs.{Codec, Spelled, Tracking}
use Rattle.ts_model.specs.Deeds.{History, frame_in}
use Rattle.ts_model.specs.Jobs.{AreApart, key_of}
use Rattle.ts_model.specs.Stages.{lease_of, mode_of, stage_of}
use Rattle.ts_model.specs.States.{is_over}
use Rattle.ts_model.specs.Told.{Told, after_told, history_told, trace_of}
use Rattle.ts_law.specs.Ends.{IsTrueEnd, IsUndone}
use Rattle.ts_law.specs.Fresh.{DoesCommit, IsSpent, id_in}
use Rattle.ts_law.specs.Kept.{Aims, Claims, Clean, CollectClaims, HasListed, HasLooked, MergeClaims, Putting, StageClaims, SweepClaims, Works}
use Rattle.ts_law.specs.Leases.{AreLeased, IsGranted, is_granted}
use Rattle.ts_law.specs.Removals.{Remains}
use Rattle.ts_law.specs.Steps.{Clears, Keeps, StageClears}
use Rattle.ts_law.proofs.Effects.{keeps_still}
use Rattle.ts_law.proofs.Frames.{aims-carry}
use Rattle.ts_law.proofs.LeaseSteps.{before_clean, begun_on}
use Rattle.ts_law.proofs.Leasing.{alone}
use Rattle.ts_law.proofs.Removals.{remains_told}
use Rattle.ts_law.proofs.Spent.{unspent_on}
use Rattle.ts_law.proofs.Stays.{end_stays, no_array_stays, works_stays}
use Rattle.ts_law.proofs.UnlockSteps.{unlocking_stays}
use Rattle.std.specs.FinMap as map
use Rattle.ts_base.specs.declared.names.Name.TheVariants as name

-- what was not there is not left by a removal
pub none_left : (m : Held) (n : Name) (later : Held) → Remains m n later → (q : Name) → map.get m q ≡ None → map.get later q ≡ None
none_left m n later left q none = from_got (map.get later q) refl
  where
    from_got : (o : Option (List ℕ)) → map.get later q ≡ o → o ≡ None
    from_got None is = refl
    from_got (Some bytes) is = absurd (none-some bytes (sym none ∙ left.before q bytes is))

-- a removal commits nothing
pub removal_commits : (e : Told) (n : Name) (id : ℕ) → e.call ≡ call.Remove n → DoesCommit e id → ⊥
removal_commits e n id is commits = no_put n (wrt_of commits.frag) commits.bytes (sym is ∙ commits.puts)
  where
    no_put : (n q : Name) (bytes : List ℕ) → call.Remove n ≡ call.Put q bytes → ⊥
    no_put n q bytes same = cc

module _ {F : Type 0} (codec : Codec F) (spelled : Spelled) (tracks : Tracking F) (opening : Held) (past : History) (jobs : List Job) (seen : List Told) (e : Told) (m : Held) (by : Job)
    (clears : Clears spelled opening past jobs seen e m by) (number : ℕ) (job : Job) (apart : e.job ≡ Some number → ⊥) where
  -- the history before the call
  abbrev h : History
  h = history_told jobs past seen

  -- the history after the call
  abbrev h' : History
  h' = history_told jobs past (seen ++ e ∷ [])

  -- what is held after the call
  abbrev m' : Held
  m' = after_told m e

  -- what is left
  left : Remains m clears.removed m'
  left = remains_told m clears.removed e clears.removes

  -- what was not there does not come
  none_comes : (n : Name) → map.get m n ≡ None → map.get m' n ≡ None
  none_comes = none_left m clears.removed m' left

  -- what carries an identifier that is unspent stays
  own_stays : (n : Name) (id : ℕ) → id_in n ≡ Some id → (IsSpent opening past seen id → ⊥) → map.get m' n ≡ map.get m n
  own_stays n id carries unspent = left.others n (λ same. unspent (subst (IsSpent opening past seen) (same_Some clears.id id (sym clears.carries ∙ ap id_in (sym same) ∙ carries)) clears.spent))

  -- what is unspent stays so
  unspent_stays : (id : ℕ) → (IsSpent opening past seen id → ⊥) → IsSpent opening past (seen ++ e ∷ []) id → ⊥
  unspent_stays id = unspent_on opening past seen e id (removal_commits e clears.removed id clears.removes)

  -- no deed comes
  undone_stays : IsUndone h job → IsUndone h' job
  undone_stays = subst (λ g. IsUndone g job) (sym clears.same_history)

  framed_stays : (frame : Frame) → frame_in h ≡ Some frame → frame_in h' ≡ Some frame
  framed_stays frame = subst (λ g. frame_in g ≡ Some frame) (sym clears.same_history)

  -- for what is said of the history alone the call is one that leaves all as it was
  still : Keeps m m h h' by.id
  still = keeps_still m m h h' by.id refl clears.same_history

  -- what an end tells stays true
  ended_stays : (end : Outcome) → IsTrueEnd spelled opening jobs past seen number job end → IsTrueEnd spelled opening jobs past (seen ++ e ∷ []) number job end
  ended_stays end = end_stays spelled opening past jobs seen e m m (job.id + 1) (keeps_still m m h h' (job.id + 1) refl clears.same_history) number job end (λ same. omega (arith, same))

  -- a clean job stays clean
  cleans : Clean opening past jobs seen m job → Clean opening past jobs (seen ++ e ∷ []) m' job
  cleans clean = record {
    free = λ n carries no_lease. none_comes n (clean.free n carries no_lease);
    undone = undone_stays clean.undone;
    unspent = unspent_stays job.id clean.unspent;
  }

  -- ---- a job without a lease

  module _ (unleased : lease_of job ≡ None) where
    -- its command has none
    has_none : (mode : LeaseMode) (c : Command) → job.command ≡ c → mode_of c ≡ Some mode → ⊥
    has_none mode c is has = none-some (name.Lease (key_of job) mode) (sym unleased ∙ ap (λ x. option_map (name.Lease (key_of job)) (mode_of x)) is ∙ ap (option_map (name.Lease (key_of job))) has)

    -- the schema that it works in stays
    works_on : (there : Schema) → Works past jobs seen number job there → Works past jobs (seen ++ e ∷ []) number job there
    works_on there is = works_stays spelled opening past jobs seen e m m by.id still number job there (λ own lists. apart own) is

    -- what it listed before the schemas is nothing
    looked_on : (c : Command) (listed : Listed) → job.command ≡ c → HasLooked spelled opening past jobs seen m number c listed → HasLooked spelled opening past jobs (seen ++ e ∷ []) m' number c listed
    looked_on (Create f) listed named is = is
    looked_on (Evolve change) listed named is = is
    looked_on (Write w) listed named is = is
    looked_on (Read from to query) listed named is = absurd (has_none _ (Read from to query) named refl)
    looked_on (Delete text) listed named is = is
    looked_on (Consolidate from to limits) listed named is = elim is [ ]
    looked_on Vacuum listed named is = elim is [ ]
    looked_on (Unlock seed lane) listed named is = elim is [ ]
    looked_on Fragments listed named is = elim is [ ]

    -- nor is it more before it gets the schema there
    listed_on : (c : Command) (listed : Listed) (there : Schema) → job.command ≡ c → HasListed spelled opening past jobs seen m number job c listed there → HasListed spelled opening past jobs (seen ++ e ∷ []) m' number job c listed there
    listed_on (Create f) listed there named is = is
    listed_on (Evolve change) listed there named is = works_on there is
    listed_on (Write w) listed there named is = works_on there is
    listed_on (Read from to query) listed there named is = absurd (has_none _ (Read from to query) named refl)
    listed_on (Delete text) listed there named is = works_on there is
    listed_on (Consolidate from to limits) listed there named is = elim is [ ]
    listed_on Vacuum listed there named is = elim is [ ]
    listed_on (Unlock seed lane) listed there named is = elim is [ ]
    listed_on Fragments listed there named is = elim is [ ]

    -- what its last put makes of it stays
    aims_on : (objects : List NewObject) (end : Outcome) → Aims codec spelled opening past jobs seen m number job objects end → Aims codec spelled opening past jobs (seen ++ e ∷ []) m' number job objects end
    aims_on objects outcome.Created (f, creates, is, none, framed, new) = (f, creates, is, none, framed_stays _ framed, no_array_stays past jobs seen e number f new)
    aims_on objects (outcome.Evolved k) (change, frame, there, evolves, same, is, framed, sound, works) = (change, frame, there, evolves, same, is, framed_stays frame framed, sound, works_on there works)
    aims_on objects (outcome.Written f) (w, frame, there, cells, writes_them, same, is, no_vac, framed, lays, works) =
        (w, frame, there, cells, writes_them, same, is, none_comes _ no_vac, framed_stays frame framed, lays, works_on there works)
    aims_on objects (outcome.Deleted f) (text, frame, there, condition, deletes, same, is, framed, says, works) = (text, frame, there, condition, deletes, same, is, framed_stays frame framed, says, works_on there works)
    aims_on objects (outcome.Consolidated f count) aims =
        let survey = aims.survey in
        absurd (has_none _ (Consolidate survey.from survey.to survey.limits) (((aims.merges).has).surveys).merges refl)
    aims_on objects (outcome.Read answer) is = is
    aims_on objects (outcome.Vacuumed count) is = is
    aims_on objects (outcome.Unlocked count) is = is
    aims_on objects (outcome.Listed names) is = is
    aims_on objects (outcome.Refused r) is = is
    aims_on objects outcome.OutOfMemory is = is

    -- a job that puts goes on as it was
    putting_on : (objects : List NewObject) (next : ℕ) (end : Outcome) → Putting codec spelled opening past jobs seen m number job objects next end → Putting codec spelled opening past jobs (seen ++ e ∷ []) m' number job objects next end
    putting_on objects next end is = record {
      held = λ i o before at. own_stays o.name job.id (aims-carry codec spelled opening past jobs seen m number job objects end is.aims i o at).0 is.unspent ∙ is.held i o before at;
      short = is.short;
      free = λ i o from at. none_comes o.name (is.free i o from at);
      some = is.some;
      undone = undone_stays is.undone;
      unspent = unspent_stays job.id is.unspent;
      aims = aims_on objects end is.aims;
    }

    -- it is no read that collects
    no_read : (s : Collecting F) → CollectClaims codec spelled tracks opening past jobs seen m number job s → ⊥
    no_read (GetsVacs r) is = has_none _ _ ((is.1).reads).reads refl
    no_read (GetsHeads r opened) is = has_none _ _ ((is.1).reads).reads refl
    no_read (GetsSchemas r opened named schemas) is = has_none _ _ ((is.2).reads).reads refl
    no_read (GetsDeletes r opened schemas) is = has_none _ _ (((is.1).gathers).reads).reads refl
    no_read (Fetches r opened schemas next frag got fetch c) is = has_none _ _ ((((is.2.0).deletes_found).gathers).reads).reads refl

    -- no consolidation
    no_merge : (s : Merging F) → MergeClaims codec spelled tracks opening past jobs seen m number job s → ⊥
    no_merge merging.ListsCommits is = has_none _ _ is.1.3 refl
    no_merge (merging.ListsSchemas c) is = has_none _ _ (is.1).merges refl
    no_merge (merging.GetsFrame c) is = has_none _ _ (is.1).merges refl
    no_merge (merging.GetsVacs s) is = has_none _ _ (is.1).merges refl
    no_merge (merging.GetsHeads s opened) is = has_none _ _ ((is.1).surveys).merges refl
    no_merge (merging.GetsSchemas s opened named schemas) is = has_none _ _ (((is.2).opens).surveys).merges refl
    no_merge (merging.Fetches s sources schema next frag got fetch c) is = has_none _ _ (((is.2.0).has).surveys).merges refl

    -- and no vacuum
    no_sweep : (s : Sweeping) → SweepClaims spelled opening past jobs seen m number job s → ⊥
    no_sweep sweeping.ListsCommits is = has_none _ Vacuum is.1 refl
    no_sweep (sweeping.ListsSchemas s) is = has_none _ Vacuum (is.1).vacuums refl
    no_sweep (sweeping.GetsVacs s) is = has_none _ Vacuum ((is.1).from).vacuums refl
    no_sweep (sweeping.ListsParts s set listed) is = has_none _ Vacuum (((is.1).gets).from).vacuums refl

    -- what its state says stays true
    claims_less : (s : State F) → Claims codec spelled tracks opening past jobs seen m number job s → Claims codec spelled tracks opening past jobs (seen ++ e ∷ []) m' number job s
    claims_less (Creates PutsFrame) is = (cleans is.0, is.1)
    claims_less (Creates ComparesFrame) is = (cleans is.0, is.1, (is.2.0, framed_stays is.2.0 is.2.1))
    claims_less (Creates ListsDeclared) is = (cleans is.0, (is.1.0, is.1.1, is.1.2, framed_stays _ is.1.3))
    claims_less (Puts objects next end) is = putting_on objects next end is
    claims_less (Seeks ListsCommits) is = (cleans is.0, is.1)
    claims_less (Seeks (ListsSchemas listing)) is = (cleans is.0, looked_on job.command listing refl is.1)
    claims_less (Seeks (GetsSchema listing there)) is = (cleans is.0, (is.1.0, is.1.1, listed_on job.command listing is.1.0 refl is.1.2))
    claims_less (Seeks (GetsFrame listing there)) is = (cleans is.0, listed_on job.command listing there refl is.1)
    claims_less (Collects s) is = absurd (no_read s is)
    claims_less (Merges s) is = absurd (no_merge s is)
    claims_less Lists is = (cleans is.0, is.1)
    claims_less (Sweeps s) is = absurd (no_sweep s is)
    claims_less (Removes names next end) is = elim is [
      | inl unlocking ↦ inl (unlocking_stays opening past jobs seen e m m' number job names next end cleans unlocking)
      | inr vacuuming ↦ absurd (has_none _ Vacuum vacuuming.vacuums refl)
    ]
    claims_less (Over end) is = ended_stays end is

  -- ---- any stage

  -- what a state says that is over stays true
  over_less : (s : State F) → is_over s ≡ true → Claims codec spelled tracks opening past jobs seen m number job s → Claims codec spelled tracks opening past jobs (seen ++ e ∷ []) m' number job s
  over_less (Over end) over is = ended_stays end is
  over_less _ over is = absurd (true≢false (sym over))

  -- what a stage says stays true where the job was granted no lease
  pub stage_less : (stage : Stage F) → ((lease : Name) → lease_of job ≡ Some lease → is_granted stage ≡ false) → StageClaims codec spelled tracks opening past jobs seen m number job stage
      → StageClaims codec spelled tracks opening past jobs (seen ++ e ∷ []) m' number job stage
  stage_less (PutsLease lease) idle is = (
    (is.0.0, begun_on codec spelled tracks opening past jobs seen (seen ++ e ∷ []) m m' number job lease is.0.0 (cleans (before_clean codec spelled tracks opening past jobs seen m number job lease is.0.0 is.0.1)) is.0.1),
    none_comes lease is.1,
  )
  stage_less (ListsLeases lease) idle is =
      (is.0, begun_on codec spelled tracks opening past jobs seen (seen ++ e ∷ []) m m' number job lease is.0 (cleans (before_clean codec spelled tracks opening past jobs seen m number job lease is.0 is.1)) is.1)
  stage_less (stages.Works s) idle is = by_lease (lease_of job) refl
    where
      by_over : (b : Bool) → is_over s ≡ b → not b ≡ false → Claims codec spelled tracks opening past jobs (seen ++ e ∷ []) m' number job s
      by_over true over none = over_less s over is
      by_over false over none = absurd (true≢false none)

      by_lease : (o : Option Name) → lease_of job ≡ o → Claims codec spelled tracks opening past jobs (seen ++ e ∷ []) m' number job s
      by_lease None unleased = claims_less unleased s is
      by_lease (Some lease) some = by_over (is_over s) refl (idle lease some)
  stage_less (Releases lease end) idle is = (is.0, ended_stays end is.1, undone_stays is.2)

-- ---- the other jobs

-- while a vacuum removes no other job is granted a lease
pub others_idle : {F : Type 0} (codec : Codec F) (spelled : Spelled) (opening : Held) (past : History) (jobs : List Job) (dead : List ℕ) (seen : List Told) (e : Told) (m : Held) → AreApart jobs → AreLeased codec jobs dead seen m
    → (i j : ℕ) (by job : Job) → slice_get jobs i ≡ Some by → (Contains dead i → ⊥) → StageClears spelled opening past jobs seen e m by (stage_of codec by (trace_of i seen))
    → slice_get jobs j ≡ Some job → (Contains dead j → ⊥) → i ≢ j → (lease : Name) → lease_of job ≡ Some lease → is_granted (stage_of codec job (trace_of j seen)) ≡ false
others_idle codec spelled opening past jobs dead seen e m one_id leased i j by job at_i alive_i clears at_j alive_j apart lease some = by_test (is_granted (stage_of codec job (trace_of j seen))) refl
  where
    first : IsGranted codec jobs dead seen i by (name.Lease (key_of by) Exc)
    first = record { is_job = at_i; alive = alive_i; has = ap (λ c. option_map (name.Lease (key_of by)) (mode_of c)) (clears.clears).vacuums; stage = clears.granted }

    by_test : (b : Bool) → is_granted (stage_of codec job (trace_of j seen)) ≡ b → b ≡ false
    by_test false is = refl
    by_test true is = absurd (apart (alone codec jobs dead seen m one_id leased i j by job (key_of by) lease first (record { is_job = at_j; alive = alive_j; has = some; stage = is })))
