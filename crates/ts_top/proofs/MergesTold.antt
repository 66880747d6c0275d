-- What a consolidation tells: its plan, and what it merged.
use Rattle.std.proofs.Common.{◌≡◌, ℕ, List, [], ◌∷◌, ◌++◌, Option, Some, append_assoc, sym, ◌∙◌, ap, subst}
use Rattle.std.specs.Prelude.{All, Contains, slice_get}
use Rattle.std.proofs.lemmas.List.Elements.{All-contains_itself, All-weaker, Contains-append_right, filter_map-append}
use Rattle.std.proofs.lemmas.Option.{same_Some}
use Rattle.ts_base.specs.Held.{Held}
use Rattle.ts_base.specs.declared.keys.FragKey.{FragKey}
use Rattle.std.specs.FinMap as map
use Rattle.ts_base.specs.Names.{wrt_of}
use Rattle.ts_base.specs.declared.names.Name.TheVariants as name
use Rattle.ts_base.specs.declared.names.Prefix.TheVariants.{Commits, Schemas}
use Rattle.ts_commit.specs.declared.vacs.Limits.{Limits}
use Rattle.ts_commit.specs.declared.vacs.Planned.{Planned}
use Rattle.ts_commit.specs.declared.vacs.Planned.TheVariants.{Take}
use Rattle.ts_store.specs.Journals.{held_after}
use Rattle.ts_schema.specs.declared.schemas.Schema.{Schema}
use Rattle.ts_model.specs.declared.commands.Command.TheVariants.{Consolidate, Vacuum}
use Rattle.ts_model.specs.declared.commands.Job.{Job}
use Rattle.ts_model.specs.Deeds.{History, current_schema}
use Rattle.ts_model.specs.Jobs.{key_of, looked_at}
use Rattle.ts_model.specs.States.{vac_of}
use Rattle.ts_model.specs.Told.{Told, entries_of, entry_of, held_told, history_told}
use Rattle.ts_model.proofs.ListLemmas.{Contains-there}
use Rattle.ts_model.proofs.Traces.{held_told-append}
use Rattle.ts_law.specs.Ends.{AreAllVacs, AreInside, FindsSchema, IsMerged, IsPlanned, ListedAt, attributes_with, up_to}
use Rattle.ts_law.specs.Kept.{HeldSince}
use Rattle.ts_law.specs.Sweeps.{IsNoSweep}
use Rattle.ts_law.specs.Stands.{HoldsIn}
use Rattle.ts_law.proofs.Grows.{holds_on_in}
use Rattle.ts_law.proofs.HeldLemmas.{Holds-from_get, bytes_there}
use Rattle.ts_law.proofs.Journals.{journal_held}
use Rattle.ts_commit.specs.Plans.{plan_of}
use Rattle.ts_top.specs.Merges.{Calls, Merged, Plans, held_by}
use Rattle.ts_top.specs.Runners.{run_spelled}
use Rattle.ts_top.proofs.Places.{Early, between_now, cancelled, listed_now, stands_after}

-- the calls of a command, after those of the commands before it
abbrev pub calls_in : Held → (Option ℕ → ℕ) → List Told → List Told → Calls
calls_in m lane a c = record { opening = held_after m (entries_of lane a); entries = entries_of lane c }

-- what was held after calls, and then others, is what the journal of the others leaves of what that of the first ones left
pub held_entered : (m : Held) (lane : Option ℕ → ℕ) (a x : List Told) → held_told m (a ++ x) ≡ held_after (held_after m (entries_of lane a)) (entries_of lane x)
held_entered m lane a x = held_told-append m a x ∙ journal_held lane (held_told m a) x ∙ ap (λ h. held_after h (entries_of lane x)) (journal_held lane m a)

-- a plan over a history and objects is that over others, where they are the same
abbrev pub same_plan : (h g : History) (m n : Held) (from to : ℕ) (limits : Limits) (plan : Planned) → h ≡ g → m ≡ n → IsPlanned run_spelled h m from to limits plan → IsPlanned run_spelled g n from to limits plan
same_plan h g m n from to limits plan same_h same_m is = record {
  heads = is.heads;
  are_heads = subst (λ x. AreInside run_spelled g x from to is.heads) same_m (subst (λ x. AreInside run_spelled x m from to is.heads) same_h is.are_heads);
  vacs = is.vacs;
  are_vacs = subst (λ x. AreAllVacs x is.vacs) same_m is.are_vacs;
  is = subst (λ x. plan_of is.heads is.vacs (attributes_with x) from to limits ≡ plan) same_h is.is;
}

module _ (m : Held) (jobs : List Job) (past : History) (lane : Option ℕ → ℕ) (a c told : List Told) (parts : told ≡ a ++ c) (number : ℕ) (early : Early number a) where
  -- the calls of the command
  abbrev calls_of : Calls
  calls_of = calls_in m lane a c

  -- a call of the job divides those of its command
  pub divided : (before : List Told) (e : Told) (later : List Told) → told ≡ before ++ e ∷ later → e.job ≡ Some number → (d : List Told) × (before ≡ a ++ d) × (c ≡ d ++ e ∷ later)
  divided before e later place own =
      let (d, behind) = stands_after jobs past a c told parts number early before e later place own in
      (d, behind, cancelled a c (d ++ e ∷ later) (sym parts ∙ place ∙ ap (λ l. l ++ e ∷ later) behind ∙ append_assoc a d (e ∷ later)))

  module _ (still : history_told jobs past told ≡ history_told jobs past a) where
    -- a plan over the commits that were listed is that of the command
    abbrev pub plans : (from to : ℕ) (limits : Limits) (plan : Planned) (commits : ListedAt told number Commits)
        → IsPlanned run_spelled (history_told jobs past commits.before) (held_told m commits.before) from to limits plan → Plans calls_of (history_told jobs past told) from to limits plan
    plans from to limits plan commits is =
        let at = divided commits.before commits.listing commits.later commits.place commits.own in
        let d : List Told = at.0 in
        record {
          front = entries_of lane d;
          back = entries_of lane (commits.listing ∷ commits.later);
          parts = ap (entries_of lane) at.2 ∙ filter_map-append (entry_of lane) d (commits.listing ∷ commits.later);
          by_plan =
              same_plan (history_told jobs past commits.before) (history_told jobs past told) (held_told m commits.before) (held_by calls_of (entries_of lane d)) from to limits plan
              (listed_now jobs past a c told parts number early Commits commits still) (ap (held_told m) at.1 ∙ held_entered m lane a d) is;
        }

    -- a schema that a job found at its stamp holds there in the history after it
    pub schema_found : (job : Job) → looked_at job ≡ job.at → FindsSchema jobs past told number job → (there : Schema) × (current_schema (history_told jobs past told) job.at ≡ Some there)
    schema_found job looks is = (
      is.current,
      ap (current_schema (history_told jobs past told)) (sym looks) ∙ ap (λ h. current_schema h (looked_at job)) (sym (listed_now jobs past a c told parts number early Schemas is.schemas still)) ∙ is.holds,
    )

    module _ (stays : (front mid : List Told) → told ≡ front ++ mid → All (IsNoSweep jobs) mid → HeldSince (held_told m front) (held_told m told)) (job : Job) (is_job : slice_get jobs number ≡ Some job) (mine : (e : Told) → Contains c e → e.job ≡ Some number)
        (f : FragKey) (count : ℕ) (is : IsMerged run_spelled m jobs past told number job f count) where
      -- what was told up to the put of the `.wrt`
      abbrev seen : List Told
      seen = up_to (is.put).before (is.put).made

      seen_is : told ≡ seen ++ (is.put).later
      seen_is = (is.put).place ∙ sym (append_assoc (is.put).before ((is.put).made ∷ []) (is.put).later)

      -- the calls since then are the job's own, so none is a vacuum's
      no_sweep : (e : Told) → Contains (is.put).later e → IsNoSweep jobs e
      no_sweep e among other vacuum by is_vacuum vacuums =
          let (d, behind, split) = divided (is.put).before (is.put).made (is.put).later (is.put).place (is.put).own in
          let here : Contains c e = subst (λ l. Contains l e) (sym split) (Contains-append_right d ((is.put).made ∷ (is.put).later) e (Contains-there (is.put).made (is.put).later e among)) in
          let at : other ≡ number = same_Some other number (sym by ∙ mine e here) in
          let it : vacuum ≡ job = same_Some vacuum job (sym is_vacuum ∙ ap (slice_get jobs) at ∙ is_job) in
          let clash : Vacuum ≡ Consolidate is.from is.to is.limits = sym vacuums ∙ ap (λ (j : Job). j.command) it ∙ is.merges in
          cc

      -- what was held then is held at the end of the calls
      since : HeldSince (held_told m seen) (held_by calls_of calls_of.entries)
      since =
          subst (HeldSince (held_told m seen)) (ap (held_told m) parts ∙ held_entered m lane a c)
          (stays seen (is.put).later seen_is (All-weaker (Contains (is.put).later) (IsNoSweep jobs) no_sweep (is.put).later (All-contains_itself (is.put).later)))

      then_now : history_told jobs past seen ≡ history_told jobs past told
      then_now =
          let (d, behind) = stands_after jobs past a c told parts number early (is.put).before (is.put).made (is.put).later (is.put).place (is.put).own in
          let own : seen ≡ a ++ (d ++ (is.put).made ∷ []) = ap (λ l. l ++ (is.put).made ∷ []) behind ∙ append_assoc a d ((is.put).made ∷ []) in
          ap (history_told jobs past) own ∙ between_now jobs past a c told parts number early (d ++ (is.put).made ∷ []) (is.put).later (seen_is ∙ ap (λ l. l ++ (is.put).later) own) still

      -- what a job merged its command merged
      pub merged_tells : Merged calls_of (history_told jobs past told) (key_of job) is.from is.to is.limits f count
      merged_tells =
          let there : (bytes : List ℕ) × (map.get (held_told m seen) (wrt_of f) ≡ Some bytes) = bytes_there (held_told m seen) (wrt_of f) is.committed in
          record {
            sources = is.sources;
            plans = plans is.from is.to is.limits (Take is.sources) is.commits is.by_plan;
            counted = is.counted;
            own = is.own;
            committed = Holds-from_get (held_by calls_of calls_of.entries) (wrt_of f) there.0 (since (wrt_of f) there.0 tt there.1);
            piece = is.piece;
            holds =
                holds_on_in run_spelled (history_told jobs past told) (held_told m seen) (held_by calls_of calls_of.entries) f is.piece (λ part bytes. since (name.Part f part) bytes tt)
                (subst (λ h. HoldsIn run_spelled h (held_told m seen) f is.piece) then_now is.holds);
            origins = is.origins;
            vac = record { bytes = (is.merged).bytes; held = since (vac_of f) (is.merged).bytes tt (is.merged).held; reads = (is.merged).reads };
          }
