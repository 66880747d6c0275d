-- The claims of a job stay by the calls of others.
use Rattle.std.proofs.Common.{List, Some, ap, [], inl, inr, subst, sym, ℕ, ◌++◌, ◌∷◌, ◌≡◌}
use Rattle.ts_base.specs.Held.{Held}
use Rattle.ts_law.proofs.Objects.{CarryAll, delete_carries, schema_carries, write_carries}
use Rattle.ts_law.proofs.Stays.{absent_stays, clean_stays, end_stays, getting_deletes_stays, fetching_stays, frame_stays, getting_vacs_stays, gathering_stays, has_listed_stays, has_near_stays, new_stays, no_array_stays, opening_stays, works_stays}
use Rattle.ts_model.specs.Commands.{frame_made, piece_of}
use Rattle.ts_model.specs.Deeds.{History, IsHistory, frame_in}
use Rattle.ts_model.specs.Codecs.{Codec, Spelled, Tracking}
use Rattle.ts_model.specs.Jobs.{frag_of_job, key_of, written_as}
use Rattle.ts_law.specs.Kept.{Aims, Claims, Clean, Putting, StageClaims}
use Rattle.ts_law.specs.Fresh.{id_in, DoesCommit, IsSpent}
use Rattle.ts_law.specs.Stands.{IsCommitted}
use Rattle.ts_base.specs.declared.keys.FragKey.{FragKey}
use Rattle.ts_law.proofs.SweepStays.{sweep_claims_stay, vacuuming_stays}
use Rattle.ts_law.proofs.LeaseSteps.{lease_is}
use Rattle.ts_law.proofs.MergeStays.{aims_to_merge_stays, merge_carries, merge_claims_stay}
use Rattle.ts_model.specs.declared.states.Stage.{Stage}
use Rattle.ts_model.specs.declared.states.Stage.TheVariants.{ListsLeases, PutsLease, Releases}
use Rattle.ts_model.specs.declared.states.Stage.TheVariants as stages
use Rattle.ts_model.specs.States.{begun, list_schemas, piece_merged, frags_of, vac_of}
use Rattle.ts_commit.specs.Selections.{names_merged}
use Rattle.ts_law.specs.Steps.{Keeps}
use Rattle.ts_law.proofs.UnlockSteps.{unlocking_stays}
use Rattle.ts_law.proofs.Spent.{unspent_on}
use Rattle.ts_model.specs.Told.{Told, after_told, history_told}
use Rattle.ts_model.specs.declared.answers.Outcome.{Outcome}
use Rattle.ts_model.specs.declared.commands.Job.{Job}
use Rattle.ts_model.specs.declared.states.NewObject.{NewObject}
use Rattle.ts_model.specs.declared.states.State.{State}
use Rattle.ts_model.specs.declared.states.State.TheVariants.{Creates, Seeks, Puts, Collects, Merges, Lists, Sweeps, Removes, Over}
use Rattle.ts_model.specs.declared.states.Creating.TheVariants.{PutsFrame, ComparesFrame, ListsDeclared}
use Rattle.ts_model.specs.declared.states.Seeking.TheVariants.{ListsCommits, ListsSchemas, GetsSchema, GetsFrame}
use Rattle.ts_model.specs.declared.states.Collecting.TheVariants.{GetsVacs, GetsHeads, GetsSchemas, GetsDeletes, Fetches}
use Rattle.ts_schema.specs.Evolutions.{evolved_attrs}
use Rattle.ts_schema.specs.declared.frames.Frame.{Frame}
use Rattle.ts_model.specs.declared.answers.Outcome.TheVariants as outcome

-- ---- what a job puts carries its identifier

-- what a job puts carries its identifier
pub aims-carry : {F : Type 0} (codec : Codec F) (spelled : Spelled) (opening : Held) (past : History) (jobs : List Job) (seen : List Told) (m : Held) (number : ℕ) (job : Job) (objects : List NewObject) (end : Outcome)
    → Aims codec spelled opening past jobs seen m number job objects end → CarryAll job.id objects
aims-carry codec spelled opening past jobs seen m number job objects outcome.Created (f, creates, is, none, framed, new) =
    subst (CarryAll job.id) (sym is) (schema_carries job f.attrs)
aims-carry codec spelled opening past jobs seen m number job objects (outcome.Evolved k) (change, frame, there, evolves, same, is, framed, sound, works) =
    subst (CarryAll job.id) (sym is) (schema_carries job (evolved_attrs there.attrs change))
aims-carry codec spelled opening past jobs seen m number job objects (outcome.Written f) (w, frame, there, cells, writes_them, same, is, no_vac, framed, lays, works) =
    subst (CarryAll job.id) (sym is) (write_carries (frag_of_job job) (codec.parts frame there (piece_of frame (written_as job there.key cells))))
aims-carry codec spelled opening past jobs seen m number job objects (outcome.Deleted f) (text, frame, there, condition, deletes, same, is, framed, says, works) =
    subst (CarryAll job.id) (sym is) (delete_carries job condition)
aims-carry codec spelled opening past jobs seen m number job objects (outcome.Consolidated f count) aims =
    let piece = piece_merged job (aims.survey).frame aims.first aims.others aims.got in
    subst (CarryAll job.id) (sym aims.are) (merge_carries piece.head.frag (codec.parts (aims.survey).frame aims.schema piece) (names_merged (aims.survey).vacs (frags_of (aims.first ∷ aims.others))))
aims-carry codec spelled opening past jobs seen m number job objects (outcome.Read answer) none = absurd none
aims-carry codec spelled opening past jobs seen m number job objects (outcome.Vacuumed count) none = absurd none
aims-carry codec spelled opening past jobs seen m number job objects (outcome.Unlocked count) none = absurd none
aims-carry codec spelled opening past jobs seen m number job objects (outcome.Listed names) none = absurd none
aims-carry codec spelled opening past jobs seen m number job objects (outcome.Refused r) none = absurd none
aims-carry codec spelled opening past jobs seen m number job objects outcome.OutOfMemory none = absurd none

-- ---- claims that stay

module _ {F : Type 0} (codec : Codec F) (spelled : Spelled) (tracks : Tracking F) (opening : Held) (past : History) (jobs : List Job) (seen : List Told) (e : Told) (m : Held) (id : ℕ)
    (keeps : Keeps m (after_told m e) (history_told jobs past seen) (history_told jobs past (seen ++ e ∷ [])) id)
    (number : ℕ) (job : Job) where
  -- what the frame is, it stays
  framed_stays : (frame : Frame) → frame_in (history_told jobs past seen) ≡ Some frame → frame_in (history_told jobs past (seen ++ e ∷ [])) ≡ Some frame
  framed_stays = frame_stays m (after_told m e) (history_told jobs past seen) (history_told jobs past (seen ++ e ∷ [])) id keeps

  module _ (other : job.id ≡ id → ⊥) (apart : e.job ≡ Some number → ⊥) (not_spent : DoesCommit e job.id → ⊥)
      (none_back : (f : FragKey) → IsSpent opening past seen f.id → IsCommitted (after_told m e) f → IsCommitted m f) (history : IsHistory (history_told jobs past (seen ++ e ∷ []))) where
    -- the call lists nothing for the job
    unlisted : e.job ≡ Some number → e.call ≡ list_schemas → ⊥
    unlisted own lists = apart own

    -- the job stays clean
    cleans : Clean opening past jobs seen m job → Clean opening past jobs (seen ++ e ∷ []) (after_told m e) job
    cleans = clean_stays opening past jobs seen e m (after_told m e) id keeps job other not_spent

    -- what the last put of a job makes of it stays
    aims_stays : (objects : List NewObject) (end : Outcome) → Aims codec spelled opening past jobs seen m number job objects end → Aims codec spelled opening past jobs (seen ++ e ∷ []) (after_told m e) number job objects end
    aims_stays objects outcome.Created (f, creates, is, none, framed, new) = (f, creates, is, none, framed_stays (frame_made f) framed, no_array_stays past jobs seen e number f new)
    aims_stays objects (outcome.Evolved k) (change, frame, there, evolves, same, is, framed, sound, works) =
        (change, frame, there, evolves, same, is, framed_stays frame framed, sound, works_stays spelled opening past jobs seen e m (after_told m e) id keeps number job there unlisted works)
    aims_stays objects (outcome.Written f) (w, frame, there, cells, writes_them, same, is, no_vac, framed, lays, works) = (
      w,
      frame,
      there,
      cells,
      writes_them,
      same,
      is,
      absent_stays m (after_told m e) (history_told jobs past seen) (history_told jobs past (seen ++ e ∷ [])) id keeps (vac_of f) job.id (ap (λ g. id_in (vac_of g)) same) other no_vac,
      framed_stays frame framed,
      lays,
      works_stays spelled opening past jobs seen e m (after_told m e) id keeps number job there unlisted works,
    )
    aims_stays objects (outcome.Deleted f) (text, frame, there, condition, deletes, same, is, framed, says, works) =
        (text, frame, there, condition, deletes, same, is, framed_stays frame framed, says, works_stays spelled opening past jobs seen e m (after_told m e) id keeps number job there unlisted works)
    aims_stays objects (outcome.Consolidated f count) is = aims_to_merge_stays spelled opening past jobs seen e m (after_told m e) id keeps number codec job objects f count is
    aims_stays objects (outcome.Read answer) is = is
    aims_stays objects (outcome.Vacuumed count) is = is
    aims_stays objects (outcome.Unlocked count) is = is
    aims_stays objects (outcome.Listed names) is = is
    aims_stays objects (outcome.Refused r) is = is
    aims_stays objects outcome.OutOfMemory is = is

    -- a job that puts goes on as it was
    putting_stays : (objects : List NewObject) (next : ℕ) (end : Outcome)
        → Putting codec spelled opening past jobs seen m number job objects next end → Putting codec spelled opening past jobs (seen ++ e ∷ []) (after_told m e) number job objects next end
    putting_stays objects next end is = record {
      held = λ i o before at. keeps.keeps o.name o.bytes (aims-carry codec spelled opening past jobs seen m number job objects end is.aims i o at).1 (is.held i o before at);
      short = is.short;
      free = λ i o from at. absent_stays m (after_told m e) (history_told jobs past seen) (history_told jobs past (seen ++ e ∷ [])) id keeps o.name job.id
          (aims-carry codec spelled opening past jobs seen m number job objects end is.aims i o at).0 other (is.free i o from at);
      some = is.some;
      undone = new_stays m (after_told m e) (history_told jobs past seen) (history_told jobs past (seen ++ e ∷ [])) id keeps (key_of job) other is.undone;
      unspent = unspent_on opening past seen e job.id not_spent is.unspent;
      aims = aims_stays objects end is.aims;
    }

    -- the claims of a state stay
    pub claims_stay_at : (s : State F) → Claims codec spelled tracks opening past jobs seen m number job s → Claims codec spelled tracks opening past jobs (seen ++ e ∷ []) (after_told m e) number job s
    claims_stay_at (Creates PutsFrame) is = (cleans is.0, is.1)
    claims_stay_at (Creates ComparesFrame) is = (cleans is.0, is.1, (is.2.0, framed_stays is.2.0 is.2.1))
    claims_stay_at (Creates ListsDeclared) is = (cleans is.0, (is.1.0, is.1.1, is.1.2, framed_stays (frame_made is.1.0) is.1.3))
    claims_stay_at (Puts objects next end) is = putting_stays objects next end is
    claims_stay_at (Seeks ListsCommits) is = (cleans is.0, is.1)
    claims_stay_at (Seeks (ListsSchemas listing)) is = (cleans is.0, has_near_stays spelled opening past jobs seen e m (after_told m e) id keeps number job.command listing is.1)
    claims_stay_at (Seeks (GetsSchema listing there)) is =
        (cleans is.0, (is.1.0, is.1.1, has_listed_stays spelled opening past jobs seen e m (after_told m e) id keeps number job job.command listing is.1.0 unlisted is.1.2))
    claims_stay_at (Seeks (GetsFrame listing there)) is = (cleans is.0, has_listed_stays spelled opening past jobs seen e m (after_told m e) id keeps number job job.command listing there unlisted is.1)
    claims_stay_at (Collects (GetsVacs r)) is = (cleans is.0, getting_vacs_stays spelled opening past jobs seen e m (after_told m e) id keeps number job r unlisted is.1, is.2)
    claims_stay_at (Collects (GetsHeads r opened)) is = (cleans is.0, opening_stays spelled opening past jobs seen e m (after_told m e) id keeps number codec job r opened unlisted is.1, is.2)
    claims_stay_at (Collects (GetsSchemas r opened named schemas)) is =
        (cleans is.0, is.1, gathering_stays spelled opening past jobs seen e m (after_told m e) id keeps number codec job r opened schemas unlisted is.2, is.3)
    claims_stay_at (Collects (GetsDeletes r opened schemas)) is = (cleans is.0, getting_deletes_stays spelled opening past jobs seen e m (after_told m e) id keeps number codec job r opened schemas unlisted is.1)
    claims_stay_at (Collects (Fetches r opened schemas next frag got fetch c)) is = (
      cleans is.0,
      is.1,
      (
        fetching_stays spelled opening past jobs seen e m (after_told m e) id keeps number codec job r opened schemas next got unlisted is.2.0,
        is.2.1,
      ),
    )
    claims_stay_at (Merges s) is = merge_claims_stay spelled opening past jobs seen e m (after_told m e) id keeps number codec tracks job cleans s is
    claims_stay_at Lists is = (cleans is.0, is.1)
    claims_stay_at (Sweeps s) is = sweep_claims_stay spelled opening past jobs seen e m (after_told m e) id keeps none_back number job cleans s is
    claims_stay_at (Removes names next end) is = elim is [
      | inl unlocking ↦ inl (unlocking_stays opening past jobs seen e m (after_told m e) number job names next end cleans unlocking)
      | inr vacuuming ↦ inr (vacuuming_stays spelled opening past jobs seen e m (after_told m e) id keeps none_back number job history names next end vacuuming (cleans vacuuming.clean))
    ]
    claims_stay_at (Over end) is = end_stays spelled opening past jobs seen e m (after_told m e) id keeps number job end other is

-- the claims of a job stay by a call of another
pub claims_stay : {F : Type 0} (codec : Codec F) (spelled : Spelled) (tracks : Tracking F) (opening : Held) (past : History) (jobs : List Job) (seen : List Told) (e : Told) (m : Held) (id : ℕ)
    → Keeps m (after_told m e) (history_told jobs past seen) (history_told jobs past (seen ++ e ∷ [])) id → (number : ℕ) (job : Job) (s : State F)
    → (job.id ≡ id → ⊥) → (e.job ≡ Some number → ⊥) → (DoesCommit e job.id → ⊥)
    → ((f : FragKey) → IsSpent opening past seen f.id → IsCommitted (after_told m e) f → IsCommitted m f) → IsHistory (history_told jobs past (seen ++ e ∷ []))
    → Claims codec spelled tracks opening past jobs seen m number job s
    → Claims codec spelled tracks opening past jobs (seen ++ e ∷ []) (after_told m e) number job s
claims_stay codec spelled tracks opening past jobs seen e m id keeps number job s other apart not_spent none_back history is = claims_stay_at codec spelled tracks opening past jobs seen e m id keeps number job other apart not_spent none_back history s is

-- so do the claims of its stage
pub stage_stays : {F : Type 0} (codec : Codec F) (spelled : Spelled) (tracks : Tracking F) (opening : Held) (past : History) (jobs : List Job) (seen : List Told) (e : Told) (m : Held) (id : ℕ)
    → Keeps m (after_told m e) (history_told jobs past seen) (history_told jobs past (seen ++ e ∷ [])) id → (number : ℕ) (job : Job) (stage : Stage F)
    → (job.id ≡ id → ⊥) → (e.job ≡ Some number → ⊥) → (DoesCommit e job.id → ⊥)
    → ((f : FragKey) → IsSpent opening past seen f.id → IsCommitted (after_told m e) f → IsCommitted m f) → IsHistory (history_told jobs past (seen ++ e ∷ []))
    → StageClaims codec spelled tracks opening past jobs seen m number job stage
    → StageClaims codec spelled tracks opening past jobs (seen ++ e ∷ []) (after_told m e) number job stage
stage_stays codec spelled tracks opening past jobs seen e m id keeps number job (PutsLease lease) other apart not_spent none_back history is =
    let (mode, named) = lease_is job lease is.0.0 in (
      (is.0.0, claims_stay codec spelled tracks opening past jobs seen e m id keeps number job (begun job.command) other apart not_spent none_back history is.0.1),
      absent_stays m (after_told m e) (history_told jobs past seen) (history_told jobs past (seen ++ e ∷ [])) id keeps lease job.id (ap id_in named) other is.1,
    )
stage_stays codec spelled tracks opening past jobs seen e m id keeps number job (ListsLeases lease) other apart not_spent none_back history is = (is.0, claims_stay codec spelled tracks opening past jobs seen e m id keeps number job (begun job.command) other apart not_spent none_back history is.1)
stage_stays codec spelled tracks opening past jobs seen e m id keeps number job (stages.Works s) other apart not_spent none_back history is = claims_stay codec spelled tracks opening past jobs seen e m id keeps number job s other apart not_spent none_back history is
stage_stays codec spelled tracks opening past jobs seen e m id keeps number job (Releases lease end) other apart not_spent none_back history is = (
  is.0,
  end_stays spelled opening past jobs seen e m (after_told m e) id keeps number job end other is.1,
  new_stays m (after_told m e) (history_told jobs past seen) (history_told jobs past (seen ++ e ∷ [])) id keeps (key_of job) other is.2,
)
