-- The calls of an unlock, and of a list of the commits, along their courses.
use Rattle.std.proofs.Common.{length, ℕ, false, List, [], ◌∷◌, None, refl, inr}
use Rattle.std.specs.Prelude.{map as list_map}
use Rattle.std.proofs.lemmas.List.Elements.{Contains-push}
use Rattle.ts_base.specs.declared.names.Name.{Name}
use Rattle.ts_store.specs.declared.call.Call.{Call}
use Rattle.ts_store.specs.declared.call.Reply.{Reply}
use Rattle.ts_model.specs.declared.answers.Outcome.{Outcome}
use Rattle.ts_model.specs.declared.commands.Command.TheVariants.{Unlock, Fragments}
use Rattle.ts_model.specs.declared.commands.Job.{Job}
use Rattle.ts_model.specs.declared.states.State.{State}
use Rattle.ts_model.specs.declared.states.State.TheVariants.{Lists}
use Rattle.ts_model.specs.Codecs.{Codec}
use Rattle.ts_model.specs.States.{Exchange, goes, leases_unlocked, list_commits, list_leases}
use Rattle.ts_law.specs.Courses.{AreFound, Found}
use Rattle.ts_law.proofs.CourseCalls.{Ends, Follows, Well, WorkAsks, WorkEnds, follows_ended, follows_over, goes_by, goes_none, well_ended}
use Rattle.ts_law.proofs.CourseBacked.{IsIdle}
use Rattle.ts_law.proofs.CourseRemoves.{follows_removing, removes_go}
use Rattle.ts_law.proofs.CourseSeeks.{no_frame, no_schema}
use Rattle.ts_store.specs.declared.call.Call.TheVariants as call
use Rattle.ts_store.specs.declared.call.Reply.TheVariants as reply
use Rattle.ts_model.specs.declared.answers.Outcome.TheVariants as outcome

-- what a job found that makes a listing of its own: an unlock these leases
abbrev pub found_leases : List Name → Found
found_leases leases = record { taken = false; current = no_schema; frame = no_frame; merged = None; leases = leases; swept = []; removed = [] }

module _ {F : Type 0} (codec : Codec F) (any : Job) where
  -- a job found something, and its calls from a state on say so and go along the course; it merged nothing
  abbrev FindsSo : Job → (Found → List Call) → List Exchange → Outcome → State F → Type 0
  FindsSo job course xs end s = WorkAsks codec job s xs → WorkEnds codec job s xs end → (found : Found) × (AreFound job found xs × Ends codec job [] found (course found) xs end) × IsIdle found

  -- ---- an unlock

  module _ (seed lane : ℕ) where
    -- a job that unlocks
    abbrev unlocking_job : Job
    unlocking_job = record any { command = Unlock seed lane }

    -- it can end well
    well : (whole : List Exchange) (names : List Name) → Well codec unlocking_job whole (found_leases names) (outcome.Unlocked (length names))
    well whole names = ((seed, lane, refl), refl)

    -- an unlock
    pub unlock_finds : (xs : List Exchange) (end : Outcome) → FindsSo unlocking_job (λ found. list_leases ∷ list_map call.Remove found.leases) xs end Lists
    unlock_finds [] end a e = (found_leases [], goes_none codec unlocking_job [] (found_leases []) (list_leases ∷ []) end Lists (λ o q. cc) a e, (refl, refl, refl))
    unlock_finds (x ∷ xs) end a e =
        let (leases, follows) = by_reply x.reply in
        (found_leases leases, goes_by codec unlocking_job [] (found_leases leases) (list_leases ∷ list_map call.Remove leases) x xs end Lists list_leases refl (λ same. follows) a e, (refl, refl, refl))
      where
        LeasesFor : Reply → Type 0
        LeasesFor r = (leases : List Name) × Follows codec unlocking_job [] (found_leases leases) (list_leases ∷ list_map call.Remove leases) (record { call = list_leases; reply = r }) xs end (goes codec unlocking_job Lists r)

        by_reply : (r : Reply) → LeasesFor r
        by_reply (reply.Names names) =
            let leases = leases_unlocked seed lane names in
            let y : Exchange = record { call = list_leases; reply = reply.Names names } in (
              leases,
              follows_removing codec unlocking_job [] (found_leases leases) (list_leases ∷ list_map call.Remove leases) y xs end leases 0 (outcome.Unlocked (length leases)) (well (y ∷ []) leases) refl refl (inr (refl, tt))
                  (removes_go codec unlocking_job (y ∷ []) (found_leases leases) leases (outcome.Unlocked (length leases)) (well (y ∷ []) leases) (λ n r. tt) xs end 0),
            )
        by_reply r = ([], follows_ended codec unlocking_job [] (found_leases []) (list_leases ∷ []) [] list_leases r xs end tt tt (inr (refl, tt)))

  -- ---- a list of the commits

  -- a job that lists the commits
  abbrev listing_job : Job
  listing_job = record any { command = Fragments }

  -- it
  pub commits_finds : (xs : List Exchange) (end : Outcome) → FindsSo listing_job (λ found. list_commits ∷ []) xs end Lists
  commits_finds [] end a e = (found_leases [], goes_none codec listing_job [] (found_leases []) (list_commits ∷ []) end Lists (λ o q. cc) a e, (refl, refl, refl))
  commits_finds (x ∷ xs) end a e = (found_leases [], goes_by codec listing_job [] (found_leases []) (list_commits ∷ []) x xs end Lists list_commits refl (λ same. by_reply x.reply) a e, (refl, refl, refl))
    where
      by_reply : (r : Reply) → Follows codec listing_job [] (found_leases []) (list_commits ∷ []) (record { call = list_commits; reply = r }) xs end (goes codec listing_job Lists r)
      by_reply (reply.Names names) =
          let y : Exchange = record { call = list_commits; reply = reply.Names names } in
          follows_over codec listing_job [] (found_leases []) (list_commits ∷ []) [] y xs end (outcome.Listed names) tt (inr (refl, tt))
          (well_ended codec listing_job [] (found_leases []) (list_commits ∷ []) (y ∷ []) (outcome.Listed names) (refl, Contains-push [] y) (refl, ([], inr refl, refl)))
      by_reply r = follows_ended codec listing_job [] (found_leases []) (list_commits ∷ []) [] list_commits r xs end tt tt (inr (refl, tt))
