-- How many gets a read makes among the calls of other lanes: few, by its listings.
use Rattle.std.proofs.Common.{◌≡◌, inl, inr, ℕ, ◌≤◌, Bool, List, [], ◌∷◌, ◌++◌, Some, length, sym, subst, append-nil, arith}
use Rattle.std.specs.Prelude.{slice_get, map as list_map}
use Rattle.ts_base.specs.Held.{Held}
use Rattle.ts_base.specs.declared.names.Prefix.TheVariants.{Commits, Schemas}
use Rattle.ts_cond.specs.declared.query.Query.{Query}
use Rattle.ts_store.specs.declared.journal.Entry.{Entry}
use Rattle.ts_model.specs.declared.answers.Driven.{Driven}
use Rattle.ts_model.specs.declared.answers.Outcome.{Outcome}
use Rattle.ts_model.specs.declared.commands.Command.TheVariants.{Read}
use Rattle.ts_model.specs.declared.commands.Job.{Job}
use Rattle.ts_model.specs.Deeds.{History}
use Rattle.ts_model.specs.Driven.{AskedFrom}
use Rattle.ts_model.specs.Stages.{first_stage}
use Rattle.ts_model.specs.States.{Exchange}
use Rattle.ts_model.specs.Told.{Told, entries_of, held_told, history_told, trace_of}
use Rattle.ts_law.specs.Bounds.{FewByListings, FewGets, gets_among}
use Rattle.ts_law.specs.Fresh.{Numbered, lanes_of}
use Rattle.ts_law.specs.Lanes.{lane_by}
use Rattle.ts_law.proofs.ReadListings.{few_by_listings}
use Rattle.ts_law.proofs.Turns.{stopped_before}
use Rattle.ts_top.specs.Runners.{run_codec, run_most, run_spelled, run_tracks}
use Rattle.ts_top.specs.Times.{Span}
use Rattle.ts_top.specs.Together.{FewSo, MadeFewGets, gets_by}
use Rattle.ts_top.proofs.GetsTold.{entered_fewer, fewer_still}
use Rattle.ts_top.proofs.LanesTold.{later_time, listed_held, listed_history, listed_so, span, time_of}
use Rattle.ts_top.proofs.OwnCalls.{own_are, own_calls, own_entries, own_trace}
use Rattle.ts_top.proofs.RunCodec.{run_bounded, run_gets, run_laws}
use Rattle.ts_top.proofs.RunTimes.{InLanes, begins, may}

module _ (gives : ℕ → Bool) (seed : ℕ) (items : List Numbered) (jobs : List Job) (past : History) (m : Held) (told : List Told) (results : List (Driven Outcome)) (w : InLanes gives seed items jobs past m told results)
    (i : ℕ) (job : Job) (is_job : slice_get jobs i ≡ Some job) where
  -- the command by its times
  abbrev s : Span
  s = span gives seed items jobs past m told results w i job is_job

  abbrev at_time : List Told → ℕ
  at_time = time_of gives seed items jobs past m told results w i job is_job

  all : told ≡ told ++ []
  all = sym (append-nil told)

  -- how many gets it made, those counted too that found no memory
  abbrev made : ℕ
  made = gets_among (list_map (λ (x : Exchange). x.call) (trace_of i told))

  -- the journal has no more of them
  entered : gets_by s ≤ made
  entered =
      let own : List Told = own_calls i told in
      subst (λ es. gets_among (list_map (λ (e : Entry). e.call) es) ≤ made) (sym (own_entries (lane_by (lanes_of items)) i told w.owned))
      (subst (λ t. gets_among (list_map (λ (e : Entry). e.call) (entries_of (lane_by (lanes_of items)) own)) ≤ gets_among (list_map (λ (x : Exchange). x.call) t)) (own_trace i told)
      (entered_fewer (lane_by (lanes_of items)) i own (own_are i told)))

  -- what is few by the listings of the job is so at the times of the command
  few_so : (from to : ℕ) (query : Query) → FewByListings run_spelled run_most m jobs past told i from to query made → FewSo s from to query
  few_so from to query is =
      let commits = is.commits in
      let schemas = is.schemas in
      record {
        listed = at_time commits.before;
        lists = listed_so gives seed items jobs past m told results w i job is_job told [] all Commits commits;
        shown = at_time schemas.before;
        shows = listed_so gives seed items jobs past m told results w i job is_job told [] all Schemas schemas;
        order =
            later_time gives seed items jobs past m told results w i job is_job commits.before commits.later commits.listing commits.place commits.own commits.memory schemas.before is.between (schemas.listing ∷ schemas.later) is.order
            schemas.place;
        few =
            subst (λ n. FewGets run_spelled run_most (s.run.history (at_time schemas.before)) n from to query (gets_by s)) (listed_held gives seed items jobs past m told results w i job is_job told [] all Commits commits)
            (subst (λ h. FewGets run_spelled run_most h (held_told m commits.before) from to query (gets_by s)) (listed_history gives seed items jobs past m told results w i job is_job told [] all Schemas schemas)
            (fewer_still run_spelled run_most (history_told jobs past schemas.before) (held_told m commits.before) from to query (gets_by s) made entered is.few));
      }

  -- a read made few gets
  pub gets_so : AskedFrom run_codec job (first_stage job) (trace_of i told) → (from to : ℕ) (query : Query) → job.command ≡ Read from to query → MadeFewGets s from to query
  gets_so asked from to query reads =
      elim (few_by_listings run_codec run_spelled run_tracks run_laws run_gets run_most run_bounded m past jobs i job from to query reads (stopped_before results (length jobs)) told
      (begins gives seed items jobs past m told results w) (may gives seed items jobs past m told results w) w.replied is_job asked) [
        | inl none ↦ inl (let fewer = entered in omega (arith, fewer, none))
        | inr few ↦ inr (few_so from to query few)
      ]
