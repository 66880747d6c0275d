-- A command among those of other lanes was done: what its end tells, at times of its own.
use Rattle.std.proofs.Common.{◌≡◌, ◌⊎◌, inl, inr, ℕ, ◌+◌, ◌<◌, ◌≤◌, Bool, true, List, [], ◌∷◌, ◌++◌, Option, Some, None, length, refl, sym, ◌∙◌, ap, subst, append_assoc, append-nil, arith}
use Rattle.std.specs.Prelude.{Contains, slice_get}
use Rattle.std.specs.FinMap as map
use Rattle.std.proofs.lemmas.Bool.{true≢false}
use Rattle.std.proofs.lemmas.List.Elements.{All-cons, All-nil}
use Rattle.std.proofs.lemmas.Option.{same_Some}
use Rattle.ts_base.specs.Held.{Held}
use Rattle.ts_base.specs.Exact.{frag_decides}
use Rattle.ts_base.specs.Names.{is_under, wrt_of}
use Rattle.ts_base.specs.declared.keys.FragKey.{FragKey}
use Rattle.ts_base.specs.declared.keys.Key.{Key}
use Rattle.ts_base.specs.declared.names.Name.{Name}
use Rattle.ts_base.specs.declared.names.Name.TheVariants as name
use Rattle.ts_base.specs.declared.names.Part.{Part}
use Rattle.ts_base.specs.declared.names.Prefix.{Prefix}
use Rattle.ts_base.specs.declared.names.Prefix.TheVariants.{Commits, Fragment, Leases, Schemas}
use Rattle.ts_commit.specs.Selections.{names_merged, removal_set}
use Rattle.ts_commit.specs.declared.vacs.Planned.TheVariants.{Take}
use Rattle.ts_cond.specs.declared.query.Query.{Query}
use Rattle.ts_schema.specs.declared.attrs.Attr.{Attr}
use Rattle.ts_schema.specs.declared.frames.Frame.{Frame}
use Rattle.ts_schema.specs.declared.schemas.Schema.{Schema}
use Rattle.ts_schema.specs.Evolutions.{evolved_attrs}
use Rattle.ts_store.specs.declared.call.Call.TheVariants as call
use Rattle.ts_store.specs.Calls.{names_under}
use Rattle.ts_model.specs.declared.answers.Answer.{Answer}
use Rattle.ts_model.specs.declared.answers.Driven.{Driven}
use Rattle.ts_model.specs.declared.answers.Driven.TheVariants.{Done, Stopped}
use Rattle.ts_model.specs.declared.answers.Outcome.{Outcome}
use Rattle.ts_model.specs.declared.answers.Outcome.TheVariants as outcome
use Rattle.ts_model.specs.declared.commands.Command.{Command}
use Rattle.ts_model.specs.declared.commands.Command.TheVariants.{Read, Consolidate, Vacuum, Unlock, Fragments}
use Rattle.ts_model.specs.declared.commands.FrameIn.{FrameIn}
use Rattle.ts_model.specs.declared.commands.Job.{Job}
use Rattle.ts_model.specs.Commands.{frame_made}
use Rattle.ts_model.specs.Deeds.{History, IsNewKey, current_schema, deletions, frame_in, writes}
use Rattle.ts_model.specs.Jobs.{deletion_as, frag_of_job, key_of, looks_at, written_as}
use Rattle.ts_model.specs.States.{leases_unlocked, vac_of}
use Rattle.ts_model.specs.Stops.{cuts}
use Rattle.ts_model.specs.Told.{Told, held_told, history_told, trace_of}
use Rattle.ts_law.specs.Changes.{IsOwn, IsToSweep, IsToUnlock}
use Rattle.ts_law.specs.Courses.{IsSegment}
use Rattle.ts_law.specs.Ends.{AnswersAt, AreAllVacs, FindsNoArray, HasDeclared, IsAnswerOver, IsCreated, IsDeleted, IsEvolved, IsGone, IsMerged, IsSweptAway, IsTrueOver, IsUndone, IsUnlocked, IsVacuumed, IsWritten, ListedAt}
use Rattle.ts_law.specs.Fresh.{Numbered, lanes_of}
use Rattle.ts_law.specs.Runs.{AreSegments, IsTrueRun}
use Rattle.ts_law.specs.Stands.{HoldsIn, IsCommitted, Names}
use Rattle.ts_law.specs.Sweeps.{IsNoSweep, OfCommit, OfOther, OfPart, OfVac}
use Rattle.ts_law.specs.Sweeps.{IsSwept as IsToRemove}
use Rattle.ts_law.proofs.HeldLemmas.{Holds-from_get, listed_from_Holds}
use Rattle.ts_top.specs.Runners.{run_codec, run_spelled}
use Rattle.ts_top.specs.Sweeps.{IsObjectOf, IsSwept}
use Rattle.ts_top.specs.Times.{Span, held_at, now}
use Rattle.ts_top.specs.Together.{Answered, CameOutSo, DidNone, FoundNoArray, HasDoneSo, HeldAsListed, IsToSweepAt, IsToUnlockAt, LeftNoLease, MergedSo, ToldSo, UnlockedSo, VacuumedSo, WasDone, WasGone}
use Rattle.ts_top.proofs.LanesGets.{gets_so}
use Rattle.ts_top.proofs.LanesRefused.{plan_so, refusal_so, schema_so}
use Rattle.ts_top.proofs.LanesTold.{after_held, after_history, deeds_so, gone_so, held_as_listed, held_so, is_span, later_time, left_all, left_so, listed_held, listed_history, listed_so, listed_time, made_so, new_now, no_lease_so, none_found, none_so, now_is, quiet_undone, span, time_of, until}
use Rattle.ts_top.proofs.LeasesTold.{EndsWell}
use Rattle.ts_top.proofs.RefusalsTold.{DoesNone}
use Rattle.ts_top.proofs.RunTimes.{InLanes, is_true}

module _ (gives : ℕ → Bool) (seed : ℕ) (items : List Numbered) (jobs : List Job) (past : History) (m : Held) (told : List Told) (results : List (Driven Outcome)) (w : InLanes gives seed items jobs past m told results)
    (i : ℕ) (job : Job) (is_job : slice_get jobs i ≡ Some job) where
  -- the command by its times
  abbrev s : Span
  s = span gives seed items jobs past m told results w i job is_job

  abbrev at_time : List Told → ℕ
  at_time = time_of gives seed items jobs past m told results w i job is_job

  all : told ≡ told ++ []
  all = sym (append-nil told)

  abbrev true_run : IsTrueRun run_spelled (lanes_of items) jobs past m told results
  true_run = is_true gives seed items jobs past m told results w

  -- a place after a listing has a later time
  after_listing : (prefix : Prefix) (at : ListedAt told i prefix) (before later between : List Told) → before ≡ at.before ++ at.listing ∷ between → told ≡ before ++ later → at_time at.before < at_time before
  after_listing prefix at before later between order place = later_time gives seed items jobs past m told results w i job is_job at.before at.later at.listing at.place at.own at.memory before between later order place

  -- ---- reads

  answered : (from to : ℕ) (query : Query) (answer : Answer) → AnswersAt run_spelled m jobs past told i from to query answer → Answered s from to query answer
  answered from to query answer is =
      let commits = is.commits in
      let schemas = is.schemas in
      record {
        listed = at_time commits.before;
        lists = listed_so gives seed items jobs past m told results w i job is_job told [] all Commits commits;
        shown = at_time schemas.before;
        shows = listed_so gives seed items jobs past m told results w i job is_job told [] all Schemas schemas;
        order = after_listing Commits commits schemas.before (schemas.listing ∷ schemas.later) is.between is.order schemas.place;
        over =
            subst (λ h. IsAnswerOver run_spelled h (held_at s.run (at_time commits.before)) (s.run.history (at_time schemas.before)) from to query answer) (listed_history gives seed items jobs past m told results w i job is_job told [] all Commits commits)
            (subst (λ n. IsAnswerOver run_spelled (history_told jobs past commits.before) n (s.run.history (at_time schemas.before)) from to query answer) (listed_held gives seed items jobs past m told results w i job is_job told [] all Commits commits)
            (subst (λ h. IsAnswerOver run_spelled (history_told jobs past commits.before) (held_told m commits.before) h from to query answer) (listed_history gives seed items jobs past m told results w i job is_job told [] all Schemas schemas) is.answers));
      }

  -- ---- consolidations

  merged : (f : FragKey) (count : ℕ) (is : IsMerged run_spelled m jobs past told i job f count) → MergedSo s (key_of job) is.from is.to is.limits f count
  merged f count is =
      let put = at_time (is.put).before in
      let then = after_held gives seed items jobs past m told results w i job is_job (call.Put (wrt_of f) []) is.put in
      record {
        sources = is.sources;
        plans = plan_so gives seed items jobs past m told results w i job is_job is.from is.to is.limits (Take is.sources) is.commits is.by_plan;
        counted = is.counted;
        own = is.own;
        put = put;
        puts = made_so gives seed items jobs past m told results w i job is_job (call.Put (wrt_of f) []) is.put;
        order = after_listing Commits is.commits (is.put).before ((is.put).made ∷ (is.put).later) is.later is.order (is.put).place;
        committed = subst (λ h. IsCommitted h f) then is.committed;
        piece = is.piece;
        holds =
            subst (λ h. HoldsIn run_spelled h (held_at s.run (put + 1)) f is.piece) (after_history gives seed items jobs past m told results w i job is_job (call.Put (wrt_of f) []) is.put)
            (subst (λ n. HoldsIn run_spelled (history_told jobs past ((is.put).before ++ (is.put).made ∷ [])) n f is.piece) then is.holds);
        origins = is.origins;
        vac = subst (λ h. Names h f (names_merged (is.by_plan).vacs is.sources)) then is.merged;
      }

  -- ---- vacuums

  -- an object is held, or not
  held_or_not : (h : Held) (n : Name) → (map.get h n ≡ None) ⊎ ((bytes : List ℕ) × (map.get h n ≡ Some bytes))
  held_or_not h n = by (map.get h n) refl
    where
      by : (o : Option (List ℕ)) → map.get h n ≡ o → (map.get h n ≡ None) ⊎ ((bytes : List ℕ) × (map.get h n ≡ Some bytes))
      by None none = inl none
      by (Some bytes) is = inr (bytes, is)

  -- an object that was held at a listing was removed, or it was gone then
  gone_from : (first : ℕ) (prefix : Prefix) (at : ListedAt told i prefix) → first ≤ at_time at.before → (n : Name) → ((bytes : List ℕ) → map.get (held_told m at.before) n ≡ Some bytes → IsGone m told i n) → WasGone s first n
  gone_from first prefix at from_first n removed = elim (held_or_not (held_told m at.before) n) [
    | inl none ↦
        let within = listed_time gives seed items jobs past m told results w i job is_job told [] all prefix at in
        inr (at_time at.before, from_first, omega (arith, within.1), ap (λ h. map.get h n) (sym (listed_held gives seed items jobs past m told results w i job is_job told [] all prefix at)) ∙ none)
    | inr (bytes, held) ↦ inl (gone_so gives seed items jobs past m told results w i job is_job n (removed bytes held))
  ]

  vacuumed : (count : ℕ) → IsVacuumed m jobs past told i job count → VacuumedSo s count
  vacuumed count is = record {
    listed = at_time (is.commits).before;
    vacs = is.vacs;
    found = (
      listed_so gives seed items jobs past m told results w i job is_job told [] all Commits is.commits,
      subst (λ h. AreAllVacs h is.vacs) (listed_held gives seed items jobs past m told results w i job is_job told [] all Commits is.commits) is.are_vacs,
    );
    counted = is.counted;
    gone = gone_one;
  }
    where
      first : ℕ
      first = at_time (is.commits).before

      gone_object : (f : FragKey) → IsSweptAway m told i (is.commits).before (is.commits).listing f → (x : Name) → IsObjectOf f x → WasGone s first x
      gone_object f swept x (inl commit) =
          subst (WasGone s first) (sym commit)
          (gone_from first Commits is.commits (omega arith) (wrt_of f) (λ bytes held. swept.commit (Holds-from_get (held_told m (is.commits).before) (wrt_of f) bytes held)))
      gone_object f swept x (inr (inl vac)) =
          subst (WasGone s first) (sym vac)
          (gone_from first Commits is.commits (omega arith) (vac_of f) (λ bytes held. swept.own_vac (Holds-from_get (held_told m (is.commits).before) (vac_of f) bytes held)))
      gone_object f swept x (inr (inr (part, of_part))) =
          let parts = (swept.lists).parts in
          let later = after_listing Commits is.commits parts.before (parts.listing ∷ parts.later) (swept.lists).between (swept.lists).order parts.place in
          subst (WasGone s first) (sym of_part)
          (gone_from first (Fragment f) parts (omega (arith, later)) (name.Part f part)
          (λ bytes held. swept.each_part (name.Part f part) (listed_from_Holds (Fragment f) (held_told m parts.before) (name.Part f part) (Holds-from_get (held_told m parts.before) (name.Part f part) bytes held) (part_under f part))))
        where
          part_under : (f : FragKey) (part : Part) → is_under (Fragment f) (name.Part f part) ≡ true
          part_under f part = (frag_decides f f).1 refl

      gone_one : (x : Name) → IsSwept is.vacs x → WasGone s first x
      gone_one x (inl (f, among, object)) = gone_object f (is.swept f among) x object
      gone_one x (inr (v, among, vac)) = subst (WasGone s first) (sym vac) (inl (gone_so gives seed items jobs past m told results w i job is_job (vac_of v.frag) (is.vacs_gone v among)))

  -- ---- unlocks

  unlocked : (count : ℕ) (is : IsUnlocked m told i job count) → UnlockedSo s is.seed is.lane count
  unlocked count is =
      let then = listed_held gives seed items jobs past m told results w i job is_job told [] all Leases is.leases in
      record {
        listed = at_time (is.leases).before;
        lists = listed_so gives seed items jobs past m told results w i job is_job told [] all Leases is.leases;
        counted = is.counted ∙ ap (λ h. length (leases_unlocked is.seed is.lane (names_under Leases h))) then;
        removed = λ x among. gone_so gives seed items jobs past m told results w i job is_job x (is.gone x (subst (λ h. Contains (leases_unlocked is.seed is.lane (names_under Leases h)) x) (sym then) among));
      }

  -- ---- all ends

  abbrev ToldOf : Outcome → Command → Type 0
  ToldOf end command = ToldSo s (key_of job) end command

  module _ (segments : AreSegments run_codec jobs results told) where
    module _ (end : Outcome) (end_at : slice_get results i ≡ Some (Done end)) where
      segment : IsSegment run_codec job (trace_of i told) (Done end)
      segment = segments i job (Done end) is_job end_at

      -- its end is true of all calls
      over : IsTrueOver run_spelled m jobs past told i job end
      over = true_run.answers told [] all i job end is_job end_at refl

      -- and of those until it ended, where it did well
      module _ (well : EndsWell end) where
        abbrev here : List Told
        here = (until gives seed items jobs past m told results w i job is_job end well segment).till

        over_here : IsTrueOver run_spelled m jobs past here i job end
        over_here = let u = until gives seed items jobs past m told results w i job is_job end well segment in true_run.answers u.till u.rest u.whole i job end is_job end_at u.silent

        at_end : history_told jobs past here ≡ now s
        at_end = now_is gives seed items jobs past m told results w i job is_job end well segment

        -- the frame there then
        frame_then : (frame : Frame) → frame_in (history_told jobs past here) ≡ Some frame → frame_in (now s) ≡ Some frame
        frame_then frame framed = ap frame_in (sym at_end) ∙ framed

        -- the attributes that it declared then
        declared_then : (attrs : List Attr) → HasDeclared (history_told jobs past here) job attrs → HasDeclared (now s) job attrs
        declared_then attrs declared = subst (λ h. HasDeclared h job attrs) at_end declared

        listed_here : (at : ListedAt here i Schemas) (there : Schema) → IsUndone (history_told jobs past at.before) job → current_schema (history_told jobs past at.before) job.at ≡ Some there → HeldAsListed s s.to (key_of job) there
        listed_here at there undone holds =
            let u = until gives seed items jobs past m told results w i job is_job end well segment in
            subst (λ n. HeldAsListed s n (key_of job) there) u.time_is (held_as_listed gives seed items jobs past m told results w i job is_job u.till u.rest u.whole at there undone holds)

        none_here : (made : FrameIn) → FindsNoArray jobs past here i made → FoundNoArray s s.to made
        none_here made finds =
            let u = until gives seed items jobs past m told results w i job is_job end well segment in
            subst (λ n. FoundNoArray s n made) u.time_is (none_found gives seed items jobs past m told results w i job is_job u.till u.rest u.whole made finds)

        -- what an end tells of the deed of the command
        abbrev DoneSo : Outcome → Command → Type 0
        DoneSo told_end command = HasDoneSo s (key_of job) told_end command

        created : IsCreated jobs past here i job → DoneSo outcome.Created job.command
        created is = subst (DoneSo outcome.Created) (sym is.creates) (none_here is.made is.found_none, is.sound, frame_then (frame_made is.made) is.framed, declared_then (is.made).attrs is.declared)

        evolved : (k : Key) → k ≡ key_of job → IsEvolved jobs past here i job → DoneSo (outcome.Evolved k) job.command
        evolved k same is =
            subst (DoneSo (outcome.Evolved k)) (sym is.evolves)
            (same, is.current, listed_here is.schemas is.current is.undone is.holds, is.frame, frame_then is.frame is.framed, is.sound, declared_then (evolved_attrs (is.current).attrs is.change) is.declared)

        written : (f : FragKey) → f ≡ frag_of_job job → IsWritten jobs past here i job → DoneSo (outcome.Written f) job.command
        written f same is =
            subst (DoneSo (outcome.Written f)) (sym is.writes_them)
            (same, is.current, listed_here is.schemas is.current is.undone is.holds, is.frame, frame_then is.frame is.framed, is.cells, is.lays, subst (λ h. Contains (writes h) (written_as job (is.current).key is.cells)) at_end is.written)

        deleted : (f : FragKey) → f ≡ frag_of_job job → IsDeleted jobs past here i job → DoneSo (outcome.Deleted f) job.command
        deleted f same is =
            subst (DoneSo (outcome.Deleted f)) (sym is.deletes)
            (same, is.current, listed_here is.schemas is.current is.undone is.holds, is.frame, frame_then is.frame is.framed, is.condition, is.says, subst (λ h. Contains (deletions h) (deletion_as job is.condition)) at_end is.erased)

        no_lease : LeftNoLease s (key_of job) job.command
        no_lease = no_lease_so gives seed items jobs past m told results w i job is_job end well segment

    none_of : (command : Command) → job.command ≡ command → DoesNone command → DidNone s
    none_of command is quiet = none_so gives seed items jobs past m told results w i job is_job (subst DoesNone (sym is) quiet)

    new : IsUndone (history_told jobs past told) job → IsNewKey (now s) (key_of job)
    new undone = new_now gives seed items jobs past m told results w i job is_job (key_of job) undone

    -- what an end tells of the command
    ends_so : (end : Outcome) → slice_get results i ≡ Some (Done end) → ToldOf end job.command
    ends_so outcome.Created end_at = created outcome.Created end_at tt (over_here outcome.Created end_at tt)
    ends_so (outcome.Evolved k) end_at = let (same, is) = over_here (outcome.Evolved k) end_at tt in evolved (outcome.Evolved k) end_at tt k same is
    ends_so (outcome.Written f) end_at = let (same, is) = over_here (outcome.Written f) end_at tt in written (outcome.Written f) end_at tt f same is
    ends_so (outcome.Deleted f) end_at = let (same, is) = over_here (outcome.Deleted f) end_at tt in deleted (outcome.Deleted f) end_at tt f same is
    ends_so (outcome.Read answer) end_at =
        let (from, to, query, reads, is) = over (outcome.Read answer) end_at in
        subst (ToldOf (outcome.Read answer)) (sym reads)
        (none_of (Read from to query) reads tt, answered from to query answer is, subst (LeftNoLease s (key_of job)) reads (no_lease (outcome.Read answer) end_at tt))
    ends_so (outcome.Consolidated f count) end_at =
        let (undone, is) = over (outcome.Consolidated f count) end_at in
        let command : Command = Consolidate is.from is.to is.limits in
        subst (ToldOf (outcome.Consolidated f count)) (sym is.merges) (
          none_of command is.merges tt,
          new undone,
          schema_so gives seed items jobs past m told results w i job is_job (ap (looks_at job) is.merges) is.found,
          merged f count is,
          subst (LeftNoLease s (key_of job)) is.merges (no_lease (outcome.Consolidated f count) end_at tt),
        )
    ends_so (outcome.Vacuumed count) end_at =
        let (undone, is) = over (outcome.Vacuumed count) end_at in
        subst (ToldOf (outcome.Vacuumed count)) (sym is.vacuums) (
          none_of Vacuum is.vacuums tt,
          new undone,
          schema_so gives seed items jobs past m told results w i job is_job (ap (looks_at job) is.vacuums) is.found,
          vacuumed count is,
          subst (LeftNoLease s (key_of job)) is.vacuums (no_lease (outcome.Vacuumed count) end_at tt),
        )
    ends_so (outcome.Unlocked count) end_at =
        let (undone, is) = over (outcome.Unlocked count) end_at in
        subst (ToldOf (outcome.Unlocked count)) (sym is.unlocks) (none_of (Unlock is.seed is.lane) is.unlocks tt, new undone, unlocked count is)
    ends_so (outcome.Listed names) end_at =
        let (undone, is) = over (outcome.Listed names) end_at in
        subst (ToldOf (outcome.Listed names)) (sym is.lists) (
          none_of Fragments is.lists tt,
          new undone,
          (
            at_time (is.commits).before,
            listed_so gives seed items jobs past m told results w i job is_job told [] all Commits is.commits,
            is.names_are ∙ ap (names_under Commits) (listed_held gives seed items jobs past m told results w i job is_job told [] all Commits is.commits),
          ),
        )
    ends_so (outcome.Refused r) end_at =
        refusal_so gives seed items jobs past m told results w i job is_job r
        (quiet_undone gives seed items jobs past m told results w i job is_job)
        (over (outcome.Refused r) end_at) (true_run.causes i job r is_job end_at) (true_run.idle i job r is_job end_at)
    ends_so outcome.OutOfMemory end_at = new (over outcome.OutOfMemory end_at)

    -- ---- all that was done

    came_so : (result : Driven Outcome) → slice_get results i ≡ Some result → CameOutSo s (key_of job) job.stop result job.command
    came_so (Done end) at = ends_so end at
    came_so Stopped at = λ never.
        let (call, may, cut_off) = (w.driven.driven i job Stopped is_job at).ends in
        true≢false (sym cut_off ∙ ap (λ stops. cuts stops (length (trace_of i told)) call) never)

    -- what a job may remove it found before
    to_sweep : (d r : List Told) (e : Told) → told ≡ d ++ e ∷ r → (x : Name) → IsToSweep m d i job x → IsToSweepAt s (at_time d) x
    to_sweep d r e parts x is =
        let at = is.commits in
        let place : told ≡ at.before ++ at.listing ∷ (at.later ++ e ∷ r) = parts ∙ ap (λ l. l ++ e ∷ r) at.place ∙ append_assoc at.before (at.listing ∷ at.later) (e ∷ r) in (
          at_time at.before,
          later_time gives seed items jobs past m told results w i job is_job at.before (at.later ++ e ∷ r) at.listing place at.own at.memory d at.later (e ∷ r) at.place parts,
          is.vacs,
          (
            listed_so gives seed items jobs past m told results w i job is_job d (e ∷ r) parts Commits at,
            subst (λ h. AreAllVacs h is.vacs) (listed_held gives seed items jobs past m told results w i job is_job d (e ∷ r) parts Commits at) is.are_vacs,
          ),
          of_kind is.swept,
        )
      where
        of_kind : IsToRemove (removal_set is.vacs) is.vacs x → IsSwept is.vacs x
        of_kind (OfCommit f at same) = inl (f, at, inl same)
        of_kind (OfPart f part at same) = inl (f, at, inr (inr (part, same)))
        of_kind (OfVac f at same) = inl (f, at, inr (inl same))
        of_kind (OfOther v at same) = inr (v, at, same)

    to_unlock : (by under : ℕ) → job.command ≡ Unlock by under → (d r : List Told) (e : Told) → told ≡ d ++ e ∷ r → (x : Name) → IsToUnlock m d i job x → IsToUnlockAt s by under (at_time d) x
    to_unlock by under unlocks d r e parts x is =
        let at = is.leases in
        let place : told ≡ at.before ++ at.listing ∷ (at.later ++ e ∷ r) = parts ∙ ap (λ l. l ++ e ∷ r) at.place ∙ append_assoc at.before (at.listing ∷ at.later) (e ∷ r) in
        let same : Unlock is.seed is.lane ≡ Unlock by under = sym is.unlocks ∙ unlocks in
        let seeds : is.seed ≡ by = cc in
        let lanes : is.lane ≡ under = cc in (
          at_time at.before,
          later_time gives seed items jobs past m told results w i job is_job at.before (at.later ++ e ∷ r) at.listing place at.own at.memory d at.later (e ∷ r) at.place parts,
          listed_so gives seed items jobs past m told results w i job is_job d (e ∷ r) parts Leases at,
          subst (λ h. Contains (leases_unlocked by under (names_under Leases h)) x) (listed_held gives seed items jobs past m told results w i job is_job d (e ∷ r) parts Leases at)
              (subst (λ k. Contains (leases_unlocked by k (names_under Leases (held_told m at.before))) x) lanes (subst (λ k. Contains (leases_unlocked k is.lane (names_under Leases (held_told m at.before))) x) seeds is.dead)),
        )

    -- the command was done
    pub done_so : (result : Driven Outcome) → slice_get results i ≡ Some result → WasDone s (key_of job) job.stop result job.command
    done_so result at = record {
      span = is_span gives seed items jobs past m told results w i job is_job;
      deeds = deeds_so gives seed items jobs past m told results w i job is_job;
      tells = came_so result at;
      stays = λ other. held_so gives seed items jobs past m told results w i job is_job (λ d r e parts mine. true_run.stays d (e ∷ []) r parts (All-cons (IsNoSweep jobs) e [] (no_sweep other e mine) (All-nil (IsNoSweep jobs))));
      sweeps = λ vacuums. left_so gives seed items jobs past m told results w i job is_job (IsToSweepAt s) (λ d r e parts mine memory n other. elim (true_run.sweeps i job is_job vacuums d r e parts mine n other) [
        | inl same ↦ inl same
        | inr swept ↦ inr (to_sweep d r e parts n swept)
      ]);
      unlocks = λ by under unlocks. left_so gives seed items jobs past m told results w i job is_job (IsToUnlockAt s by under) (λ d r e parts mine memory n other. elim (true_run.unlocks i job by under is_job unlocks d r e parts mine n) [
        | inl same ↦ inl same
        | inr dead ↦ inr (to_unlock by under unlocks d r e parts n dead)
      ]);
      puts = λ none. left_so gives seed items jobs past m told results w i job is_job (λ n. IsOwn (key_of job) job.command) (λ d r e parts mine memory n other. true_run.puts i job is_job none d r e parts mine n other);
      looks = λ only. left_all gives seed items jobs past m told results w i job is_job (true_run.looks i job is_job only);
      gets = λ from to query reads. gets_so gives seed items jobs past m told results w i job is_job (w.driven.driven i job result is_job at).asked from to query reads;
      idle = λ r is none. left_all gives seed items jobs past m told results w i job is_job (true_run.idle i job r is_job (at ∙ ap Some is) none);
    }
      where
        no_sweep : (job.command ≡ Vacuum → ⊥) → (e : Told) → e.job ≡ Some i → IsNoSweep jobs e
        no_sweep other e mine number vacuum by_it is_vacuum vacuums =
            let at_i : number ≡ i = same_Some number i (sym by_it ∙ mine) in
            let it : vacuum ≡ job = same_Some vacuum job (sym is_vacuum ∙ ap (slice_get jobs) at_i ∙ is_job) in
            other (ap (λ (j : Job). j.command) (sym it) ∙ vacuums)
