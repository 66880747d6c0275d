-- What the refusal of a command tells where commands of other lanes are at work beside it: its cause, at times of the command.
use Rattle.std.proofs.Common.{◌≡◌, inl, inr, ℕ, Bool, List, [], ◌++◌, Some, None, refl, sym, ◌∙◌, ap, subst}
use Rattle.std.specs.Prelude.{Contains, option_map, slice_get}
use Rattle.std.proofs.lemmas.Option.{none-some}
use Rattle.std.proofs.lemmas.List.{append-nil}
use Rattle.ts_base.specs.Held.{Held}
use Rattle.ts_base.specs.declared.names.Name.{Name}
use Rattle.ts_base.specs.declared.names.Name.TheVariants as name
use Rattle.ts_base.specs.declared.names.Place.{Place}
use Rattle.ts_base.specs.declared.names.Prefix.TheVariants.{Commits, Leases, Schemas}
use Rattle.ts_commit.specs.declared.vacs.Planned.TheVariants.{Nothing}
use Rattle.ts_commit.specs.declared.vacs.Planned.{Planned}
use Rattle.ts_commit.specs.declared.vacs.Limits.{Limits}
use Rattle.ts_lease.specs.Leases.{verdict_in}
use Rattle.ts_lease.specs.declared.verdicts.Verdict.TheVariants.{Held as Opposed}
use Rattle.ts_schema.specs.declared.frames.Frame.{Frame}
use Rattle.ts_schema.specs.declared.schemas.Schema.{Schema}
use Rattle.ts_store.specs.Calls.{names_under}
use Rattle.ts_model.specs.declared.commands.Command.{Command}
use Rattle.ts_model.specs.declared.commands.Command.TheVariants.{Create, Unlock, Fragments}
use Rattle.ts_model.specs.declared.commands.FrameIn.{FrameIn}
use Rattle.ts_model.specs.declared.commands.Job.{Job}
use Rattle.ts_model.specs.declared.answers.Refusal.{Refusal}
use Rattle.ts_model.specs.declared.answers.Refusal.TheVariants as refusal
use Rattle.ts_model.specs.Deeds.{History, IsNewKey, frame_in, current_schema, schemas}
use Rattle.ts_model.specs.Jobs.{key_of, looked_at, looks_at}
use Rattle.ts_model.specs.Stages.{mode_of}
use Rattle.ts_model.specs.States.{get_frame, place_of}
use Rattle.ts_model.specs.Told.{Told, held_told, history_told}
use Rattle.ts_law.specs.Ends.{FindsSchema, IsPlanned, IsTrueRefusal, ListedAt}
use Rattle.ts_law.specs.Refusals.{FindsArray, FindsFault, FindsLease, FindsNoSchema, HasFailed, IsRefusedAs, IsRefusedFor, WorksInSchema, refusal_in}
use Rattle.ts_top.specs.Causes.{looks_for}
use Rattle.ts_top.specs.Runners.{run_spelled}
use Rattle.ts_top.proofs.MergesTold.{same_plan}
use Rattle.ts_base.specs.declared.names.Prefix.{Prefix}
use Rattle.ts_law.specs.Changes.{ChangedNothing}
use Rattle.ts_law.specs.Refusals.{IsNoFault}
use Rattle.ts_law.specs.Fresh.{Numbered}
use Rattle.ts_model.specs.declared.answers.Driven.{Driven}
use Rattle.ts_model.specs.declared.answers.Outcome.{Outcome}
use Rattle.ts_top.specs.Times.{Lists, Span, held_at}
use Rattle.ts_top.specs.Together.{FoundSchema, HadCause, OwnFailed, PlannedSo, ToldRefusal, WasOpposed}
use Rattle.ts_top.proofs.LanesTold.{idle_so, lane_here, listed_held, listed_history, listed_so, made_history, made_so, new_now, span, time_of}
use Rattle.ts_top.proofs.RefusalsTold.{DoesNone, IsQuiet, fault_tells, looks_same, own_lease}
use Rattle.ts_top.proofs.RunTimes.{InLanes}
use Rattle.ts_top.proofs.TimesTold.{call_at, call_made}

module _ (gives : ℕ → Bool) (seed : ℕ) (items : List Numbered) (jobs : List Job) (past : History) (m : Held) (told : List Told) (results : List (Driven Outcome)) (w : InLanes gives seed items jobs past m told results)
    (i : ℕ) (job : Job) (is_job : slice_get jobs i ≡ Some job) where
  -- the command by its times
  abbrev s : Span
  s = span gives seed items jobs past m told results w i job is_job

  -- the time of calls
  abbrev at_time : List Told → ℕ
  at_time = time_of gives seed items jobs past m told results w i job is_job

  pub whole : told ≡ told ++ []
  whole = sym (append-nil told)

  -- a listing of the job, by its time
  abbrev listed : (prefix : Prefix) (at : ListedAt told i prefix) → Lists s (at_time at.before) prefix
  listed prefix at = listed_so gives seed items jobs past m told results w i job is_job told [] whole prefix at

  pub history_is : (prefix : Prefix) (at : ListedAt told i prefix) → history_told jobs past at.before ≡ s.run.history (at_time at.before)
  history_is prefix at = listed_history gives seed items jobs past m told results w i job is_job told [] whole prefix at

  pub held_is : (prefix : Prefix) (at : ListedAt told i prefix) → held_told m at.before ≡ held_at s.run (at_time at.before)
  held_is prefix at = listed_held gives seed items jobs past m told results w i job is_job told [] whole prefix at

  -- a plan over the commits that were listed is that of the command
  abbrev pub plan_so : (from to : ℕ) (limits : Limits) (plan : Planned) (commits : ListedAt told i Commits) → IsPlanned run_spelled (history_told jobs past commits.before) (held_told m commits.before) from to limits plan → PlannedSo s from to limits plan
  plan_so from to limits plan commits is = record {
    listed = at_time commits.before;
    lists = listed Commits commits;
    by_plan = same_plan (history_told jobs past commits.before) (s.run.history (at_time commits.before)) (held_told m commits.before) (held_at s.run (at_time commits.before)) from to limits plan (history_is Commits commits) (held_is Commits commits) is;
  }

  -- a schema that a job found at its stamp held there as the command listed the schemas
  pub schema_so : looked_at job ≡ job.at → FindsSchema jobs past told i job → FoundSchema s job.at
  schema_so looks is = (
    at_time is.schemas.before,
    listed Schemas is.schemas,
    is.current,
    ap (current_schema (s.run.history (at_time is.schemas.before))) (sym looks) ∙ ap (λ h. current_schema h (looked_at job)) (sym (history_is Schemas is.schemas)) ∙ is.holds,
  )

  -- ---- refusals

  -- a call of the job that failed is one of the command
  failed_so : (p : Place) → HasFailed told i p → OwnFailed s p
  failed_so p is =
      let made = made_so gives seed items jobs past m told results w i job is_job is.call is.at in
      let e = (is.at).made in (
        at_time (is.at).before,
        call_made (lane_here gives seed items jobs past m told results w i job is_job) e i,
        call_at (lane_here gives seed items jobs past m told results w i job is_job) told (is.at).before (is.at).later e i (is.at).place (is.at).own (is.at).memory,
        refl,
        is.speaks ∙ ap place_of (sym (is.at).makes),
        is.undone,
      )

  -- a lease that was in the way of the job was so of the command
  opposed_so : (other : Name) → FindsLease m told i job other → WasOpposed s (key_of job) job.command other
  opposed_so other is =
      let (mode, has, named) = own_lease job (mode_of job.command) is.own is.has in (
        at_time is.leases.before,
        listed Leases is.leases,
        mode,
        has,
        subst (λ h. verdict_in (names_under Leases h) (name.Lease (key_of job) mode) ≡ Opposed other) (held_is Leases is.leases)
            (subst (λ n. verdict_in (names_under Leases (held_told m is.leases.before)) n ≡ Opposed other) (sym named) is.first),
      )

  -- the command was refused in the frame and the schema there
  abbrev WasRefusedIn : Refusal → Command → Type 0
  WasRefusedIn r command =
      (n : ℕ) × Lists s n Schemas × (current : Schema) × (current_schema (s.run.history n) (looks_for (key_of job) command) ≡ Some current)
      × (frame : Frame) × (frame_in (s.run.history n) ≡ Some frame) × (refusal_in frame current.attrs command ≡ Some r)

  fault_so : (r : Refusal) → FindsFault jobs past told i job r → WasRefusedIn r job.command
  fault_so r is = (
    at_time is.schemas.before,
    listed Schemas is.schemas,
    is.current,
    ap (current_schema (s.run.history (at_time is.schemas.before))) (sym (looks_same job job.command)) ∙ ap (λ h. current_schema h (looked_at job)) (sym (history_is Schemas is.schemas)) ∙ is.holds,
    is.frame,
    ap frame_in (sym (history_is Schemas is.schemas)) ∙ is.framed,
    is.refused,
  )

  no_schema_so : (at : ℕ) (command : Command) → job.command ≡ command → FindsNoSchema jobs past told i job at → HadCause s (key_of job) (refusal.NoSchema at) command
  no_schema_so at (Create made) is found = absurd (subst WorksInSchema is found.works)
  no_schema_so at (Unlock by under) is found = absurd (subst WorksInSchema is found.works)
  no_schema_so at Fragments is found = absurd (subst WorksInSchema is found.works)
  no_schema_so at command is found = (
    found.looks ∙ looks_same job job.command ∙ ap (looks_for (key_of job)) is,
    (at_time found.schemas.before, listed Schemas found.schemas, ap (λ h. current_schema h at) (sym (history_is Schemas found.schemas)) ∙ found.none),
  )

  -- a command without a lease finds none in its way
  unleased_so : (command : Command) (other : Name) → job.command ≡ command → mode_of command ≡ None → FindsLease m told i job other → ⊥
  unleased_so command other is none found = none-some found.own (ap (option_map (name.Lease (key_of job))) (sym (ap mode_of is ∙ none)) ∙ found.has)

  leased_so : (other : Name) (command : Command) → job.command ≡ command → FindsLease m told i job other → HadCause s (key_of job) (refusal.Leased other) command
  leased_so other (Create made) is found = absurd (unleased_so (Create made) other is refl found)
  leased_so other (Unlock by under) is found = absurd (unleased_so (Unlock by under) other is refl found)
  leased_so other Fragments is found = absurd (unleased_so Fragments other is refl found)
  leased_so other command is found = subst (λ q. WasOpposed s (key_of job) q other) is (opposed_so other found)

  array_so : (made : FrameIn) → FindsArray jobs past told i made → HadCause s (key_of job) refusal.ArrayExists (Create made)
  array_so made (inl (at, frame, framed, other)) =
      inl (at_time at.before, made_so gives seed items jobs past m told results w i job is_job get_frame at, frame, ap frame_in (sym (made_history gives seed items jobs past m told results w i job is_job get_frame at)) ∙ framed, other)
  array_so made (inr (at, declared, among)) = inr (at_time at.before, listed Schemas at, declared, subst (λ h. Contains (schemas h) declared) (history_is Schemas at) among)

  -- a refusal has its cause at a time of the command
  cause_so : (r : Refusal) → IsQuiet r → IsRefusedFor run_spelled m jobs past told i job r → HadCause s (key_of job) r job.command
  cause_so refusal.ArrayExists quiet (made, creates, found) = subst (HadCause s (key_of job) refusal.ArrayExists) (sym creates) (array_so made found)
  cause_so (refusal.NoSchema at) quiet is = no_schema_so at job.command refl is
  cause_so (refusal.Leased other) quiet is = leased_so other job.command refl is
  cause_so (refusal.NothingToDo count) quiet is =
      subst (HadCause s (key_of job) (refusal.NothingToDo count)) (sym is.merges) (schema_so (ap (looks_at job) is.merges) is.found, plan_so is.from is.to is.limits (Nothing count) is.commits is.by_plan)
  cause_so (refusal.StoreFault p) quiet is = absurd quiet
  cause_so (refusal.Taken n) quiet is = absurd is
  cause_so (refusal.Missing n) quiet is = absurd is
  cause_so (refusal.Damaged n at) quiet is = absurd is
  cause_so r quiet is = by_command job.command refl is
    where
      by_command : (command : Command) → job.command ≡ command → IsRefusedAs jobs past told i job r command → HadCause s (key_of job) r command
      by_command (Create made) same refused = refused.0
      by_command (Unlock by under) same refused = absurd (none-some r (subst (λ q. refusal_in refused.frame (refused.current).attrs q ≡ Some r) same refused.refused))
      by_command Fragments same refused = absurd (none-some r (subst (λ q. refusal_in refused.frame (refused.current).attrs q ≡ Some r) same refused.refused))
      by_command command same refused = subst (WasRefusedIn r) same (fault_so r refused)

  -- a refusal that is true of a job tells so of its command
  pub refusal_so : (r : Refusal) → (DoesNone job.command → IsNewKey (history_told jobs past told) (key_of job)) → IsTrueRefusal run_spelled m jobs past told i job r → IsRefusedFor run_spelled m jobs past told i job r
      → (IsNoFault r → ChangedNothing m told i job) → ToldRefusal s (key_of job) job.command r
  refusal_so (refusal.Missing n) none is cause idle = is
  refusal_so (refusal.Damaged n at) none is cause idle = is
  refusal_so (refusal.Taken n) none is cause idle = is
  refusal_so (refusal.StoreFault p) none is cause idle = (
    failed_so p cause,
    elim (fault_tells m jobs past told i job p none is) [
      | inl new ↦ inl (new_now gives seed items jobs past m told results w i job is_job (key_of job) new)
      | inr own ↦ inr own
    ],
  )
  refusal_so (refusal.NothingToDo count) none is cause idle =
      (idle_so gives seed items jobs past m told results w i job is_job (idle tt), new_now gives seed items jobs past m told results w i job is_job (key_of job) is.0, cause_so (refusal.NothingToDo count) tt cause)
  refusal_so r none is cause idle =
      (idle_so gives seed items jobs past m told results w i job is_job (idle tt), new_now gives seed items jobs past m told results w i job is_job (key_of job) is, cause_so r tt cause)
