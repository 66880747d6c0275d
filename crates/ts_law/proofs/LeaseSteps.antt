-- The calls of a job with a lease beside its work: the put of the lease, the listing of the leases, and the removal.
use Rattle.std.proofs.Common.{◌≡◌, ℕ, Bool, true, false, cond, not, ◌&&◌, ◌⊎◌, inl, inr, List, [], ◌∷◌, ◌++◌, Option, Some, None, refl, sym, ◌∙◌, ap, subst, arith, ◌+◌}
use Rattle.std.specs.Prelude.{option_map, slice_get}
use Rattle.std.specs.Option.{is_some, option_map_or}
use Rattle.std.proofs.lemmas.Bool.{true≢false}
use Rattle.std.proofs.lemmas.List.{append-nil}
use Rattle.std.proofs.lemmas.Option.{none-some, same_Some}
use Rattle.ts_base.specs.Held.{Held}
use Rattle.ts_base.specs.Exact.{name_decides}
use Rattle.ts_base.specs.Names.{wrt_of}
use Rattle.ts_base.specs.declared.keys.Key.{Key}
use Rattle.ts_base.specs.declared.keys.FragKey.{FragKey}
use Rattle.ts_base.specs.declared.names.Name.{Name}
use Rattle.ts_base.specs.declared.names.LeaseMode.{LeaseMode}
use Rattle.ts_base.specs.declared.names.CommitKind.TheVariants.{Del}
use Rattle.ts_lease.specs.Leases.{verdict_in}
use Rattle.ts_lease.specs.declared.verdicts.Verdict.{Verdict}
use Rattle.ts_lease.specs.declared.verdicts.Verdict.TheVariants as verdict
use Rattle.ts_store.specs.Calls.{after, is_no_memory}
use Rattle.ts_store.specs.declared.call.Call.{Call}
use Rattle.ts_store.specs.declared.call.Reply.{Reply}
use Rattle.ts_model.specs.declared.answers.Outcome.{Outcome}
use Rattle.ts_model.specs.declared.commands.Command.{Command}
use Rattle.ts_model.specs.declared.commands.Command.TheVariants.{Create, Evolve, Write, Read, Delete, Consolidate, Vacuum, Unlock, Fragments}
use Rattle.ts_model.specs.declared.commands.Job.{Job}
use Rattle.ts_model.specs.declared.deeds.Deed.TheVariants.{Framed, Declared, Wrote, Erased}
use Rattle.ts_model.specs.Commands.{frame_made}
use Rattle.ts_model.specs.declared.states.State.{State}
use Rattle.ts_model.specs.declared.states.State.TheVariants.{Creates, Seeks, Puts, Collects, Merges, Lists, Sweeps, Removes, Over}
use Rattle.ts_model.specs.declared.states.Merging.{Merging}
use Rattle.ts_model.specs.declared.states.Merging.TheVariants as merging
use Rattle.ts_model.specs.declared.states.Sweeping.{Sweeping}
use Rattle.ts_model.specs.declared.states.Sweeping.TheVariants as sweeping
use Rattle.ts_model.specs.declared.states.Creating.TheVariants.{PutsFrame, ComparesFrame, ListsDeclared}
use Rattle.ts_model.specs.declared.states.Seeking.TheVariants.{ListsCommits, ListsSchemas, GetsSchema, GetsFrame}
use Rattle.ts_model.specs.declared.states.Collecting.TheVariants.{GetsVacs, GetsHeads, GetsSchemas, GetsDeletes, Fetches}
use Rattle.ts_model.specs.declared.states.Stage.{Stage}
use Rattle.ts_model.specs.declared.states.Stage.TheVariants.{PutsLease, ListsLeases, Releases}
use Rattle.ts_model.specs.declared.states.Stage.TheVariants as stages
use Rattle.ts_model.specs.Codecs.{Codec, Spelled, Tracking}
use Rattle.ts_model.specs.Deeds.{History}
use Rattle.ts_model.specs.Driven.{MayAsk}
use Rattle.ts_model.specs.Jobs.{key_of}
use Rattle.ts_law.proofs.Objects.{apart_from_lease}
use Rattle.ts_law.proofs.VacLaws.{MarksNone, merged_beside, named_beside}
use Rattle.ts_model.specs.States.{Exchange, asks, begun, goes, is_over, list_leases, made_by}
use Rattle.ts_model.specs.Stages.{after_lease, after_leases, end_at, is_release, is_removal, lease_of, mode_of, on_verdict, put_lease, released, settled, stage_asks, stage_goes}
use Rattle.ts_model.specs.Told.{IsReplied, Told, after_told, declared_by, deed_in, deed_of, deleted_by, history_told, schemas_found, trace_of, written_by}
use Rattle.ts_model.proofs.Asked.{gives_up_held}
use Rattle.ts_model.proofs.Lacks.{other_goes, release_ends}
use Rattle.ts_model.proofs.ListLemmas.{Contains-nil}
use Rattle.ts_model.proofs.Traces.{deed_told_own, later_no_deed}
use Rattle.ts_law.specs.Ends.{IsTrueEnd, IsUndone}
use Rattle.ts_law.specs.Fresh.{id_in, IsSpent}
use Rattle.ts_law.specs.Kept.{Claims, Clean, MergeClaims, IsBefore, StageClaims, SweepClaims}
use Rattle.ts_law.specs.Stands.{HoldsIn, IsNoLease, Stands}
use Rattle.ts_law.specs.Steps.{Clears, Comes, Keeps, Leads, Moves, StageAdvances, StageClears, StageComes}
use Rattle.ts_law.proofs.Effects.{Added, IsLook, PutWent, Still, keeps_still, look_leads, look_stays, put_went}
use Rattle.ts_law.proofs.Grows.{holds_on_in}
use Rattle.ts_law.proofs.HeldLemmas.{agree, get_apart, removal_apart, removal_before}
use Rattle.ts_law.proofs.StandsLaws.{free_from_get, keeps_put}
use Rattle.ts_law.proofs.Spent.{put_commits, unspent_on}
use Rattle.ts_law.proofs.Stays.{clean_look, end_stays}
use Rattle.std.specs.FinMap as map
use Rattle.ts_base.specs.declared.names.Name.TheVariants as name
use Rattle.ts_base.specs.declared.names.CommitKind.TheVariants as kind
use Rattle.ts_store.specs.declared.call.Call.TheVariants as call
use Rattle.ts_store.specs.declared.call.Reply.TheVariants as reply
use Rattle.ts_model.specs.declared.answers.Outcome.TheVariants as outcome

-- ---- leases of jobs

-- the lease of a job has its key
pub lease_is : (job : Job) (lease : Name) → lease_of job ≡ Some lease → (mode : LeaseMode) × (lease ≡ name.Lease (key_of job) mode)
lease_is job lease is = by_mode (mode_of job.command) is
  where
    by_mode : (o : Option LeaseMode) → option_map (name.Lease (key_of job)) o ≡ Some lease → (mode : LeaseMode) × (lease ≡ name.Lease (key_of job) mode)
    by_mode None e = absurd (none-some lease e)
    by_mode (Some mode) e = (mode, sym (same_Some (name.Lease (key_of job) mode) lease e))

-- the call that removes the lease of a job
pub release_is : (job : Job) (c : Call) → is_release job c ≡ true → (lease : Name) × (lease_of job ≡ Some lease) × (c ≡ call.Remove lease)
release_is job c is = by_lease (lease_of job) refl is
  where
    removes : (d : Call) (lease : Name) → is_removal d lease ≡ true → d ≡ call.Remove lease
    removes (call.Remove n) lease e = ap call.Remove ((name_decides n lease).0 e)
    removes (call.Put n bytes) lease e = absurd (true≢false (sym e))
    removes (call.List p) lease e = absurd (true≢false (sym e))
    removes (call.Get n from len) lease e = absurd (true≢false (sym e))
    removes (call.Size n) lease e = absurd (true≢false (sym e))

    by_lease : (o : Option Name) → lease_of job ≡ o → option_map_or (is_removal c) o false ≡ true → (lease : Name) × (lease_of job ≡ Some lease) × (c ≡ call.Remove lease)
    by_lease None none e = absurd (true≢false (sym e))
    by_lease (Some lease) some e = (lease, some, removes c lease e)

-- what is no lease is another object than the lease of a key
no_lease_apart : (k : Key) (mode : LeaseMode) (n : Name) → IsNoLease n → n ≡ name.Lease k mode → ⊥
no_lease_apart k mode n none same = subst IsNoLease same none

-- ---- objects that stand beside leases

-- the put of a lease commits nothing
marks_lease : (m : Held) (k : Key) (mode : LeaseMode) → MarksNone m (name.Lease k mode)
marks_lease m k mode = record { no_vac = λ g _ e. cc; bare = λ f e. absurd (no_wrt f e) }
  where
    no_wrt : (f : _) → wrt_of f ≡ name.Lease k mode → ⊥
    no_wrt f e = cc

module _ (spelled : Spelled) (m m' : Held) (same : (n : Name) → IsNoLease n → map.get m' n ≡ map.get m n) where
  -- what a fragment holds it holds where only leases differ
  beside : (h : History) (f : FragKey) {p : _} → HoldsIn spelled h m f p → HoldsIn spelled h m' f p
  beside h f {p} is = holds_on_in spelled h m m' f p (λ part bytes held. same (name.Part f part) tt ∙ held) is

  -- what stands for a history stands for it where only leases differ
  pub stands_beside : (h : History) → Stands spelled m h → Stands spelled m' h
  stands_beside h stands = record {
    history = stands.history;
    frame = same name.Domain tt ∙ stands.frame;
    schemas = λ k. same (name.Schema k) tt ∙ stands.schemas k;
    deletes = λ f. same (name.Commit f Del) tt ∙ stands.deletes f;
    short_frame = λ bytes is. stands.short_frame bytes (sym (same name.Domain tt) ∙ is);
    short_schemas = λ k bytes is. stands.short_schemas k bytes (sym (same (name.Schema k) tt) ∙ is);
    short_deletes = λ f bytes is. stands.short_deletes f bytes (sym (same (name.Commit f Del) tt) ∙ is);
    whole = λ f committed. let own = stands.whole f (ap is_some (sym (same (wrt_of f) tt)) ∙ committed) in (own.0, beside h f own.1);
    merged = merged_beside m m' same spelled h stands.merged;
    covered = λ w at.
        let own = stands.covered w at in
        record {
          frag = own.frag;
          committed = ap is_some (same (wrt_of own.frag) tt) ∙ own.committed;
          went = record { piece = own.went.piece; holds = beside h own.frag own.went.holds; origin = own.went.origin };
        };
  }

-- ---- the calls of a lease

module _ (spelled : Spelled) (past : History) (jobs : List Job) (seen : List Told) (e : Told) (m : Held) (number : ℕ) (job : Job) (own : e.job ≡ Some number) (is_job : slice_get jobs number ≡ Some job)
    (stands : Stands spelled m (history_told jobs past seen)) where
  -- the history before the call
  abbrev h : History
  h = history_told jobs past seen

  -- the history after the call
  abbrev h' : History
  h' = history_told jobs past (seen ++ e ∷ [])

  -- what is held after the call
  abbrev m' : Held
  m' = after_told m e

  -- a call of no deed leaves the history as it was
  deedless : (c : Call) → e.call ≡ c → deed_in h job (schemas_found (trace_of number seen)) c ≡ None → h' ≡ h
  deedless c is none = later_no_deed jobs past seen e (deed_told_own jobs h seen e number job c own is_job is ∙ none)

  -- the put of a lease that is not held leads to objects that stand for the same history
  put_leads : (lease : Name) → lease_of job ≡ Some lease → e.call ≡ put_lease lease → IsReplied m e → map.get m lease ≡ None → (h' ≡ h) × Leads spelled past jobs seen e m job.id
  put_leads lease some is replied free =
      let (mode, named) = lease_is job lease some in
      let l = name.Lease (key_of job) mode in
      let called : e.call ≡ put_lease l = is ∙ ap put_lease named in
      let same_history = deedless (put_lease l) called refl in
      let none : map.get m l ≡ None = ap (map.get m) (sym named) ∙ free in
      (same_history, by_way l refl (marks_lease m (key_of job) mode) (λ n no_lease. no_lease_apart (key_of job) mode n no_lease) same_history (put_went m l [] e called replied))
    where
      Carries : Name → Type 0
      Carries l = id_in l ≡ Some job.id

      by_way : (l : Name) → Carries l → MarksNone m l → ((n : Name) → IsNoLease n → n ≡ l → ⊥) → h' ≡ h → PutWent m l [] m' e.changed e.reply → Leads spelled past jobs seen e m job.id
      by_way l carries marks apart same_history (Added free' later changed said) =
          let same : (n : Name) → IsNoLease n → map.get m' n ≡ map.get m n = λ n no_lease. ap (λ x. map.get x n) later ∙ get_apart m l [] n (apart n no_lease) in
          record {
            stands = subst (Stands spelled m') (sym same_history) (stands_beside spelled m m' same h stands);
            leaves = subst (λ x. Keeps m x h h' job.id) (sym later) (subst (λ g. Keeps m (map.insert m l []) h g job.id) (append-nil h ∙ sym same_history) (keeps_put m h l [] job.id [] free' marks (inl carries) (λ k at. absurd (Contains-nil k at))));
          }
      by_way l carries marks apart same_history (Still later changed made taken) = record {
        stands = subst (Stands spelled m') (sym same_history) (subst (λ x. Stands spelled x h) (sym later) stands);
        leaves = keeps_still m m' h h' job.id later same_history;
      }

module _ (spelled : Spelled) (past : History) (jobs : List Job) (seen : List Told) (e : Told) (m : Held) (stands : Stands spelled m (history_told jobs past seen)) where
  -- the removal of a lease, which is no deed, leads to objects that stand for the same history
  pub removal_leads : (id : ℕ) (key : Key) (mode : LeaseMode) → e.call ≡ call.Remove (name.Lease key mode) → history_told jobs past (seen ++ e ∷ []) ≡ history_told jobs past seen → Leads spelled past jobs seen e m id
  removal_leads id key mode called same_history =
      let lease = name.Lease key mode in
      let m' = after_told m e in
      let h = history_told jobs past seen in
      let same : (n : Name) → IsNoLease n → map.get m' n ≡ map.get m n = λ n none. agree (is_no_memory e.reply) m (after m e.call e.fate) m n refl
      (ap (λ c. map.get (after m c e.fate) n) called ∙ removal_apart m lease e.fate n (no_lease_apart key mode n none)) in
      record {
        stands = subst (Stands spelled m') (sym same_history) (stands_beside spelled m m' same h stands);
        leaves = record {
          keeps = λ n bytes stays held. same n stays ∙ held;
          adds = λ n bytes held. inl (was_held lease called n bytes (is_no_memory e.reply) held);
          names = named_beside m m' same;
          more = [];
          grows = same_history ∙ sym (append-nil h);
          come = λ k at. absurd (Contains-nil k at);
        };
      }
    where
      was_held : (l : Name) → e.call ≡ call.Remove l → (n : Name) (bytes : List ℕ) (b : Bool) → map.get (cond b m (after m e.call e.fate)) n ≡ Some bytes → map.get m n ≡ Some bytes
      was_held l called n bytes true held = held
      was_held l called n bytes false held = removal_before m l e.fate n bytes (sym (ap (λ c. map.get (after m c e.fate) n) called) ∙ held)

module _ (spelled : Spelled) (past : History) (jobs : List Job) (seen : List Told) (e : Told) (m : Held) (number : ℕ) (job : Job) (own : e.job ≡ Some number) (is_job : slice_get jobs number ≡ Some job)
    (stands : Stands spelled m (history_told jobs past seen)) where
  -- a job that removes any lease does no deed
  pub removal_of_lease : (id : ℕ) (k : Key) (mode : LeaseMode) → e.call ≡ call.Remove (name.Lease k mode)
      → (history_told jobs past (seen ++ e ∷ []) ≡ history_told jobs past seen) × Leads spelled past jobs seen e m id
  removal_of_lease id k mode called =
      let same_history = deedless spelled past jobs seen e m number job own is_job stands (call.Remove (name.Lease k mode)) called refl in
      (same_history, removal_leads spelled past jobs seen e m stands id k mode called same_history)

-- ---- what a job says that is not over

module _ {F : Type 0} (codec : Codec F) (spelled : Spelled) (tracks : Tracking F) (opening : Held) (past : History) (jobs : List Job) (seen : List Told) (m : Held) (number : ℕ) (job : Job) where
  -- what a state says here
  abbrev Says : State F → Type 0
  Says s = Claims codec spelled tracks opening past jobs seen m number job s

  -- a job that did nothing yet: no deed has its key, and its identifier is unspent
  abbrev IsIdle : Type 0
  IsIdle = IsUndone (history_told jobs past seen) job × (IsSpent opening past seen job.id → ⊥)

  -- a clean job did nothing yet
  of_clean : Clean opening past jobs seen m job → IsIdle
  of_clean clean = (clean.undone, clean.unspent)

  -- so it is of a consolidation that has not come to its puts
  merging_idle : (s : Merging F) → MergeClaims codec spelled tracks opening past jobs seen m number job s → IsIdle
  merging_idle merging.ListsCommits is = of_clean is.0
  merging_idle (merging.ListsSchemas c) is = of_clean is.0
  merging_idle (merging.GetsFrame c) is = of_clean is.0
  merging_idle (merging.GetsVacs s) is = of_clean is.0
  merging_idle (merging.GetsHeads s opened) is = of_clean is.0
  merging_idle (merging.GetsSchemas s opened named schemas) is = of_clean is.0
  merging_idle (merging.Fetches s sources schema next frag got fetch c) is = of_clean is.0

  -- and of a vacuum
  sweeping_idle : (s : Sweeping) → SweepClaims spelled opening past jobs seen m number job s → IsIdle
  sweeping_idle sweeping.ListsCommits is = of_clean is.0
  sweeping_idle (sweeping.ListsSchemas s) is = of_clean is.0
  sweeping_idle (sweeping.GetsVacs s) is = of_clean is.0
  sweeping_idle (sweeping.ListsParts s set listed) is = of_clean is.0

  -- a job that is not over did nothing yet
  going_idle : (s : State F) → is_over s ≡ false → Says s → IsIdle
  going_idle (Puts objects next end) going is = (is.undone, is.unspent)
  going_idle (Over end) going is = absurd (true≢false going)
  going_idle (Merges s) going is = merging_idle s is
  going_idle Lists going is = of_clean is.0
  going_idle (Sweeps s) going is = sweeping_idle s is
  going_idle (Removes names next end) going is = elim is [ inl unlocking ↦ of_clean unlocking.clean | inr vacuuming ↦ of_clean vacuuming.clean ]
  going_idle (Creates PutsFrame) going is = of_clean is.0
  going_idle (Creates ComparesFrame) going is = of_clean is.0
  going_idle (Creates ListsDeclared) going is = of_clean is.0
  going_idle (Seeks ListsCommits) going is = of_clean is.0
  going_idle (Seeks (ListsSchemas listing)) going is = of_clean is.0
  going_idle (Seeks (GetsSchema listing there)) going is = of_clean is.0
  going_idle (Seeks (GetsFrame listing there)) going is = of_clean is.0
  going_idle (Collects (GetsVacs r)) going is = of_clean is.0
  going_idle (Collects (GetsHeads r opened)) going is = of_clean is.0
  going_idle (Collects (GetsSchemas r opened named schemas)) going is = of_clean is.0
  going_idle (Collects (GetsDeletes r opened schemas)) going is = of_clean is.0
  going_idle (Collects (Fetches r opened schemas next frag got fetch c)) going is = of_clean is.0

  -- no deed has its key
  pub going_undone : (s : State F) → is_over s ≡ false → Says s → IsUndone (history_told jobs past seen) job
  going_undone s going is = (going_idle s going is).0

  -- and its identifier is unspent
  pub going_unspent : (s : State F) → is_over s ≡ false → Says s → IsSpent opening past seen job.id → ⊥
  going_unspent s going is = (going_idle s going is).1

  -- a job that asks for a call is not over
  pub asks_going : (s : State F) (c : Call) → asks codec job s ≡ Some c → is_over s ≡ false
  asks_going (Over end) c asked = absurd (none-some c asked)
  asks_going _ c asked = refl

  -- a job that has a lease begins clean
  pub before_clean : (lease : Name) → lease_of job ≡ Some lease → Says (begun job.command) → Clean opening past jobs seen m job
  before_clean lease some is = by_command job.command some is
    where
      by_command : (c : Command) → option_map (name.Lease (key_of job)) (mode_of c) ≡ Some lease → Says (begun c) → Clean opening past jobs seen m job
      by_command (Read from to query) e says = says.0
      by_command (Consolidate from to limits) e says = says.0
      by_command (Create f) e says = absurd (none-some lease e)
      by_command (Evolve change) e says = absurd (none-some lease e)
      by_command (Write w) e says = absurd (none-some lease e)
      by_command (Delete text) e says = absurd (none-some lease e)
      by_command Vacuum e says = says.0
      by_command (Unlock seed lane) e says = absurd (none-some lease e)
      by_command Fragments e says = absurd (none-some lease e)

module _ {F : Type 0} (codec : Codec F) (spelled : Spelled) (tracks : Tracking F) (opening : Held) (past : History) (jobs : List Job) (seen : List Told) (m : Held) (number : ℕ) (job : Job) where
  -- a job that may make a call did nothing yet
  pub stage_undone : (stage : Stage F) (c : Call) → MayAsk codec job stage c → StageClaims codec spelled tracks opening past jobs seen m number job stage → IsUndone (history_told jobs past seen) job
  stage_undone (PutsLease lease) c asked claims = (before_clean codec spelled tracks opening past jobs seen m number job lease claims.0.0 claims.0.1).undone
  stage_undone (ListsLeases lease) c asked claims = (before_clean codec spelled tracks opening past jobs seen m number job lease claims.0 claims.1).undone
  stage_undone (stages.Works s) c (inl asked) claims = going_undone codec spelled tracks opening past jobs seen m number job s (asks_going codec spelled tracks opening past jobs seen m number job s c asked) claims
  stage_undone (stages.Works s) c (inr gives_up) claims = going_undone codec spelled tracks opening past jobs seen m number job s (not_over (is_some (lease_of job)) (is_over s) (gives_up_held job (stages.Works s) gives_up.1)) claims
    where
      not_over : (a b : Bool) → (a && not b) ≡ true → b ≡ false
      not_over true false is = refl
      not_over true true is = absurd (true≢false (sym is))
      not_over false b is = absurd (true≢false (sym is))
  stage_undone (Releases lease end) c asked claims = claims.2

-- what a job with a lease claims where it begins it claims where it is clean
pub begun_on : {F : Type 0} (codec : Codec F) (spelled : Spelled) (tracks : Tracking F) (opening : Held) (past : History) (jobs : List Job) (seen later : List Told) (m m' : Held) (number : ℕ) (job : Job) (lease : Name) → lease_of job ≡ Some lease
    → Clean opening past jobs later m' job → Claims codec spelled tracks opening past jobs seen m number job (begun job.command) → Claims codec spelled tracks opening past jobs later m' number job (begun job.command)
begun_on codec spelled tracks opening past jobs seen later m m' number job lease some clean is = by_command job.command some is
  where
    by_command : (c : Command) → option_map (name.Lease (key_of job)) (mode_of c) ≡ Some lease
        → Claims codec spelled tracks opening past jobs seen m number job (begun c) → Claims codec spelled tracks opening past jobs later m' number job (begun c)
    by_command (Read from to query) e says = (clean, says.1)
    by_command (Consolidate from to limits) e says = (clean, says.1)
    by_command (Create f) e says = absurd (none-some lease e)
    by_command (Evolve change) e says = absurd (none-some lease e)
    by_command (Write w) e says = absurd (none-some lease e)
    by_command (Delete text) e says = absurd (none-some lease e)
    by_command Vacuum e says = (clean, says.1)
    by_command (Unlock seed lane) e says = absurd (none-some lease e)
    by_command Fragments e says = absurd (none-some lease e)

-- a job with a lease does no deed
leased_deedless : (h : History) (job : Job) (found : Option (List Key)) (c : Call) (lease : Name) → lease_of job ≡ Some lease → deed_in h job found c ≡ None
leased_deedless h job found c lease some = by_call c
  where
    by_made : (c : Command) → option_map (name.Lease (key_of job)) (mode_of c) ≡ Some lease → option_map (λ f. Framed (frame_made f)) (made_by c) ≡ None
    by_made (Read from to query) e = refl
    by_made (Consolidate from to limits) e = refl
    by_made (Create f) e = absurd (none-some lease e)
    by_made (Evolve change) e = absurd (none-some lease e)
    by_made (Write w) e = absurd (none-some lease e)
    by_made (Delete text) e = absurd (none-some lease e)
    by_made Vacuum e = refl
    by_made (Unlock seed lane) e = refl
    by_made Fragments e = refl

    by_declared : (c : Command) → option_map (name.Lease (key_of job)) (mode_of c) ≡ Some lease → option_map Declared (declared_by h job found c) ≡ None
    by_declared (Read from to query) e = refl
    by_declared (Consolidate from to limits) e = refl
    by_declared (Create f) e = absurd (none-some lease e)
    by_declared (Evolve change) e = absurd (none-some lease e)
    by_declared (Write w) e = refl
    by_declared (Delete text) e = refl
    by_declared Vacuum e = refl
    by_declared (Unlock seed lane) e = refl
    by_declared Fragments e = refl

    by_written : (c : Command) → option_map (name.Lease (key_of job)) (mode_of c) ≡ Some lease → option_map Wrote (written_by h job found c) ≡ None
    by_written (Read from to query) e = refl
    by_written (Consolidate from to limits) e = refl
    by_written (Create f) e = refl
    by_written (Evolve change) e = refl
    by_written (Write w) e = absurd (none-some lease e)
    by_written (Delete text) e = refl
    by_written Vacuum e = refl
    by_written (Unlock seed lane) e = refl
    by_written Fragments e = refl

    by_deleted : (c : Command) → option_map (name.Lease (key_of job)) (mode_of c) ≡ Some lease → option_map Erased (deleted_by h job found c) ≡ None
    by_deleted (Read from to query) e = refl
    by_deleted (Consolidate from to limits) e = refl
    by_deleted (Create f) e = refl
    by_deleted (Evolve change) e = refl
    by_deleted (Write w) e = refl
    by_deleted (Delete text) e = absurd (none-some lease e)
    by_deleted Vacuum e = refl
    by_deleted (Unlock seed lane) e = refl
    by_deleted Fragments e = refl

    by_name : (n : Name) → deed_of h job found n ≡ None
    by_name name.Domain = by_made job.command some
    by_name (name.Schema k) = by_declared job.command some
    by_name (name.Commit f kind.Wrt) = by_written job.command some
    by_name (name.Commit f kind.Del) = by_deleted job.command some
    by_name _ = refl

    by_call : (c : Call) → deed_in h job found c ≡ None
    by_call (call.Put n bytes) = by_name n
    by_call _ = refl

-- so its calls append none
pub leased_history : (past : History) (jobs : List Job) (seen : List Told) (e : Told) (number : ℕ) (job : Job) (lease : Name) → e.job ≡ Some number → slice_get jobs number ≡ Some job → lease_of job ≡ Some lease
    → history_told jobs past (seen ++ e ∷ []) ≡ history_told jobs past seen
leased_history past jobs seen e number job lease own is_job some =
    later_no_deed jobs past seen e
    (deed_told_own jobs (history_told jobs past seen) seen e number job e.call own is_job refl ∙ leased_deedless (history_told jobs past seen) job (schemas_found (trace_of number seen)) e.call lease some)

-- the end of a job is true by whatever reply to the removal of its lease
released_true : (spelled : Spelled) (opening : Held) (jobs : List Job) (past : History) (told : List Told) (number : ℕ) (job : Job) (k : Key) (mode : LeaseMode) (end : Outcome) (r : Reply)
    → IsTrueEnd spelled opening jobs past told number job end → IsUndone (history_told jobs past told) job → IsTrueEnd spelled opening jobs past told number job (released (name.Lease k mode) end r)
released_true spelled opening jobs past told number job k mode (outcome.Refused cause) r is undone = is
released_true spelled opening jobs past told number job k mode outcome.OutOfMemory r is undone = is
released_true spelled opening jobs past told number job k mode end reply.Removed is undone = is
released_true spelled opening jobs past told number job k mode end reply.Failed is undone = undone
released_true spelled opening jobs past told number job k mode end _ is undone = tt

-- ---- one call of a stage

module _ {F : Type 0} (codec : Codec F) (spelled : Spelled) (tracks : Tracking F) (opening : Held) (past : History) (jobs : List Job) (seen : List Told) (e : Told) (m : Held) (number : ℕ) (job : Job) where
  -- what a stage of the job claims after the call
  abbrev ClaimsLater : Stage F → Type 0
  ClaimsLater stage = StageClaims codec spelled tracks opening past jobs (seen ++ e ∷ []) (after_told m e) number job stage

  -- what its work claims where it is over it claims where it removes its lease
  settled_claims : (lease : Name) (s : State F) → lease_of job ≡ Some lease → IsUndone (history_told jobs past (seen ++ e ∷ [])) job
      → Claims codec spelled tracks opening past jobs (seen ++ e ∷ []) (after_told m e) number job s → ClaimsLater (settled (Some lease) s)
  settled_claims lease (Over end) some undone is = (some, is, undone)
  settled_claims lease _ some undone is = is

  -- where the reply to the put of its lease leads
  after_put : (k : Key) (mode : LeaseMode) (r : Reply) → lease_of job ≡ Some (name.Lease k mode) → (r ≡ reply.Taken → ⊥) → IsUndone (history_told jobs past (seen ++ e ∷ [])) job
      → IsBefore codec spelled tracks opening past jobs (seen ++ e ∷ []) (after_told m e) number job (name.Lease k mode) → ClaimsLater (after_lease (name.Lease k mode) r)
  after_put k mode reply.Made some taken undone before = before
  after_put k mode reply.Taken some taken undone before = absurd (taken refl)
  after_put k mode reply.Failed some taken undone before = (some, undone, undone)
  after_put k mode _ some taken undone before = (some, tt, undone)

  -- where the verdict on the leases leads
  after_verdict : (lease : Name) (v : Verdict) → lease_of job ≡ Some lease → IsUndone (history_told jobs past (seen ++ e ∷ [])) job
      → IsBefore codec spelled tracks opening past jobs (seen ++ e ∷ []) (after_told m e) number job lease → ClaimsLater (on_verdict lease (begun job.command) v)
  after_verdict lease verdict.Granted some undone before = settled_claims lease (begun job.command) some undone before.1
  after_verdict lease (verdict.Held other) some undone before = (some, undone, undone)

  -- where the reply to the listing of the leases leads
  after_listing : (lease : Name) (r : Reply) → lease_of job ≡ Some lease → IsUndone (history_told jobs past (seen ++ e ∷ [])) job
      → IsBefore codec spelled tracks opening past jobs (seen ++ e ∷ []) (after_told m e) number job lease → ClaimsLater (after_leases lease (begun job.command) r)
  after_listing lease (reply.Names names) some undone before = after_verdict lease (verdict_in names lease) some undone before
  after_listing lease reply.Failed some undone before = (some, undone, undone)
  after_listing lease _ some undone before = (some, tt, undone)

  -- what a stage claims that removes its lease here, by whatever reply
  closing : (k : Key) (mode : LeaseMode) (stage : Stage F) → ((end : Outcome) → IsTrueEnd spelled opening jobs past seen number job end → IsTrueEnd spelled opening jobs past (seen ++ e ∷ []) number job end)
      → (IsUndone (history_told jobs past seen) job → IsUndone (history_told jobs past (seen ++ e ∷ [])) job)
      → StageClaims codec spelled tracks opening past jobs seen m number job stage → IsTrueEnd spelled opening jobs past (seen ++ e ∷ []) number job (released (name.Lease k mode) (end_at stage) e.reply)
  closing k mode (Releases lease end) ends undone claims = released_true spelled opening jobs past (seen ++ e ∷ []) number job k mode end e.reply (ends end claims.1) (undone claims.2)
  closing k mode _ ends undone claims = tt

  -- the reply to the put of a lease that is not held is not Taken
  not_taken : (lease : Name) → map.get m lease ≡ None → PutWent m lease [] (after_told m e) e.changed e.reply → e.reply ≡ reply.Taken → ⊥
  not_taken lease free (Added free' later changed (inl made)) taken = let same : reply.Made ≡ reply.Taken = sym made ∙ taken in cc
  not_taken lease free (Added free' later changed (inr failed)) taken = let same : reply.Failed ≡ reply.Taken = sym failed ∙ taken in cc
  not_taken lease free (Still later changed made holds) taken = free_from_get m lease free (holds taken)

  -- the put of a lease leaves the other objects as they were
  put_apart : (lease : Name) → PutWent m lease [] (after_told m e) e.changed e.reply → (n : Name) → (n ≡ lease → ⊥) → map.get (after_told m e) n ≡ map.get m n
  put_apart lease (Added free later changed said) n apart = ap (λ x. map.get x n) later ∙ get_apart m lease [] n apart
  put_apart lease (Still later changed made holds) n apart = ap (λ x. map.get x n) later

  -- where a call leads that comes in a stage of the job
  abbrev LeadsOn : Stage F → Type 0
  LeadsOn stage = Leads spelled past jobs seen e m job.id ⊎ StageClears spelled opening past jobs seen e m job stage

  module _ (work : (s : State F) → Comes codec spelled tracks opening past jobs seen e m number job s → Moves codec spelled tracks opening past jobs seen e m number job s) where
    -- a call leads its job on by the stage that it is in
    pub stage_step : (stage : Stage F) → StageComes codec spelled tracks opening past jobs seen e m number job stage → StageAdvances codec spelled tracks opening past jobs seen e m number job stage
    stage_step stage c = by_kind (is_release job e.call) refl
      where
        x : Exchange
        x = record { call = e.call; reply = e.reply }

        by_removal : (lease : Name) → lease_of job ≡ Some lease → e.call ≡ call.Remove lease → is_release job e.call ≡ true → StageAdvances codec spelled tracks opening past jobs seen e m number job stage
        by_removal lease some removes is =
            let (mode, named) = lease_is job lease some in
            let called = removes ∙ ap call.Remove named in
            let same_history = leased_history past jobs seen e number job lease c.own c.is_job some in
            let leads = removal_leads spelled past jobs seen e m c.stands job.id (key_of job) mode called same_history in
            let others = removal_leads spelled past jobs seen e m c.stands (job.id + 1) (key_of job) mode called same_history in
            let ends : (end : Outcome) → IsTrueEnd spelled opening jobs past seen number job end → IsTrueEnd spelled opening jobs past (seen ++ e ∷ []) number job end =
            λ end. end_stays spelled opening past jobs seen e m (after_told m e) (job.id + 1) others.leaves number job end (λ same. omega (arith, same)) in
            record {
              leads = inl leads;
              own = subst ClaimsLater (sym (release_ends codec job stage x lease some is))
                  (subst (λ l. IsTrueEnd spelled opening jobs past (seen ++ e ∷ []) number job (released l (end_at stage) e.reply)) (sym named)
                  (closing (key_of job) mode stage ends (λ undone. subst (λ g. IsUndone g job) (sym same_history) undone) c.claims));
            }

        by_put : (lease : Name) → e.call ≡ put_lease lease → StageClaims codec spelled tracks opening past jobs seen m number job (PutsLease lease)
            → LeadsOn (PutsLease lease) × ClaimsLater (after_lease lease e.reply)
        by_put lease called ((some, before), free) =
            let (mode, named) = lease_is job lease some in
            let leads = put_leads spelled past jobs seen e m number job c.own c.is_job c.stands lease some called c.replied free in
            let went = put_went m lease [] e called c.replied in
            let clean = before_clean codec spelled tracks opening past jobs seen m number job lease some before in
            let undone = subst (λ g. IsUndone g job) (sym leads.0) clean.undone in
            let clean_later : Clean opening past jobs (seen ++ e ∷ []) (after_told m e) job = record {
              free = λ n carries apart. put_apart lease went n (λ same. apart (some ∙ ap Some (sym same))) ∙ clean.free n carries apart;
              undone = undone;
              unspent = unspent_on opening past seen e job.id (put_commits e job.id lease [] called (λ f same. apart_from_lease job (wrt_of f) tt (some ∙ ap Some (sym same)))) clean.unspent;
            } in
            let before_later = begun_on codec spelled tracks opening past jobs seen (seen ++ e ∷ []) m (after_told m e) number job lease some clean_later before in (
              inl leads.1,
              subst (λ l. ClaimsLater (after_lease l e.reply)) (sym named)
                  (after_put (key_of job) mode e.reply (some ∙ ap Some named) (not_taken lease free went) undone (some ∙ ap Some named, before_later)),
            )

        by_list : (lease : Name) → e.call ≡ list_leases → StageClaims codec spelled tracks opening past jobs seen m number job (ListsLeases lease)
            → LeadsOn (ListsLeases lease) × ClaimsLater (after_leases lease (begun job.command) e.reply)
        by_list lease called (some, before) =
            let look : IsLook e.call = subst IsLook (sym called) tt in
            let same = look_stays m e look c.replied in
            let clean = clean_look opening past jobs seen e m (after_told m e) job same.0 same.1 (before_clean codec spelled tracks opening past jobs seen m number job lease some before) in
            let before_later = begun_on codec spelled tracks opening past jobs seen (seen ++ e ∷ []) m (after_told m e) number job lease some clean before in
            (inl (look_leads spelled past jobs seen e m job.id c.stands look c.replied), after_listing lease e.reply some clean.undone (some, before_later))

        by_work : (s : State F) → asks codec job s ≡ Some e.call → Claims codec spelled tracks opening past jobs seen m number job s → LeadsOn (stages.Works s) × ClaimsLater (settled (lease_of job) (goes codec job s e.reply))
        by_work s asked claims = (by_kind step.leads, by_lease (lease_of job) refl)
          where
            step : Moves codec spelled tracks opening past jobs seen e m number job s
            step = work s (record { stands = c.stands; is_held = c.is_held; spent = c.spent; apart = c.apart; fit = c.fit; own = c.own; is_job = c.is_job; replied = c.replied; short = c.short; asked = asked; claims = claims })

            by_kind : Leads spelled past jobs seen e m job.id ⊎ Clears spelled opening past jobs seen e m job → LeadsOn (stages.Works s)
            by_kind (inl leads) = inl leads
            by_kind (inr clears) = inr (record { clears = clears; granted = ap not (asks_going codec spelled tracks opening past jobs seen m number job s e.call asked) })

            by_lease : (o : Option Name) → lease_of job ≡ o → ClaimsLater (settled o (goes codec job s e.reply))
            by_lease None none = step.own
            by_lease (Some lease) some =
                let same_history = leased_history past jobs seen e number job lease c.own c.is_job some in
                settled_claims lease (goes codec job s e.reply) some
                (subst (λ g. IsUndone g job) (sym same_history) (going_undone codec spelled tracks opening past jobs seen m number job s (asks_going codec spelled tracks opening past jobs seen m number job s e.call asked) claims)) step.own

        by_stage : (g : Stage F) → stage_asks codec job g ≡ Some e.call → is_release job e.call ≡ false → StageClaims codec spelled tracks opening past jobs seen m number job g → LeadsOn g × ClaimsLater (stage_goes codec job g e.reply)
        by_stage (PutsLease lease) asked other claims = by_put lease (sym (same_Some (put_lease lease) e.call asked)) claims
        by_stage (ListsLeases lease) asked other claims = by_list lease (sym (same_Some list_leases e.call asked)) claims
        by_stage (stages.Works s) asked other claims = by_work s asked claims
        by_stage (Releases lease end) asked other claims =
            let removes : e.call ≡ call.Remove lease = sym (same_Some (call.Remove lease) e.call asked) in
            let is : is_release job e.call ≡ true = ap (is_release job) removes ∙ ap (λ o. option_map_or (is_removal (call.Remove lease)) o false) claims.0 ∙ (name_decides lease lease).1 refl in
            absurd (true≢false (sym is ∙ other))

        by_kind : (b : Bool) → is_release job e.call ≡ b → StageAdvances codec spelled tracks opening past jobs seen e m number job stage
        by_kind true is = let (lease, some, removes) = release_is job e.call is in by_removal lease some removes is
        by_kind false other = elim c.asked [
          | inl asked ↦
              let (leads, own) = by_stage stage asked other c.claims in
              record { leads = leads; own = subst ClaimsLater (sym (other_goes codec job stage x other)) own }
          | inr gives_up ↦ absurd (true≢false (sym gives_up.0 ∙ other))
        ]
