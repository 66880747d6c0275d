-- What is kept stays where a lease is broken, and where jobs are dropped.
use Rattle.std.proofs.Common.{◌≡◌, ℕ, ◌+◌, inl, inr, List, [], ◌∷◌, ◌++◌, Some, sym, ◌∙◌, ap, subst, arith}
use Rattle.std.specs.Prelude.{option_and_then, slice_get}
use Rattle.std.proofs.lemmas.List.Elements.{All-push}
use Rattle.std.proofs.lemmas.Option.{none-some, same_Some}
use Rattle.ts_base.specs.declared.names.Name.{Name}
use Rattle.ts_base.specs.Held.{Held}
use Rattle.ts_model.specs.declared.commands.Job.{Job}
use Rattle.ts_model.specs.declared.states.Stage.{Stage}
use Rattle.ts_model.specs.declared.states.Stage.TheVariants.{PutsLease, ListsLeases}
use Rattle.ts_model.specs.Codecs.{Codec, Spelled, Tracking}
use Rattle.ts_model.specs.Deeds.{History}
use Rattle.ts_model.specs.Stages.{lease_of, stage_of}
use Rattle.ts_model.specs.Told.{IsReplied, Told, after_told, deed_in, history_told, schemas_found, trace_of}
use Rattle.ts_model.proofs.Traces.{held_told-append, later_no_deed, stage_of-other}
use Rattle.ts_law.specs.Kept.{AreAmong, IsOfJobs, Kept, StageClaims}
use Rattle.ts_law.specs.Leases.{IsBroken}
use Rattle.ts_law.specs.Steps.{Leads}
use Rattle.ts_law.proofs.Frames.{stage_stays}
use Rattle.ts_law.proofs.LeaseSteps.{removal_leads}
use Rattle.ts_law.proofs.Spent.{are_spent_on, committed_by}
use Rattle.ts_law.specs.Fresh.{DoesCommit}
use Rattle.ts_base.specs.Names.{wrt_of}
use Rattle.ts_law.proofs.Leasing.{IsUnder, leased_drop, leased_step}
use Rattle.ts_base.specs.declared.names.Name.TheVariants as name
use Rattle.ts_store.specs.declared.call.Call.TheVariants as call

-- the lease that a job is to put, or beside which it goes by a listing, is its own
pub goes_under : {F : Type 0} (codec : Codec F) (spelled : Spelled) (tracks : Tracking F) (opening : Held) (past : History) (jobs : List Job) (seen : List Told) (m : Held) (number : ℕ) (job : Job) (lease : Name) (stage : Stage F)
    → lease_of job ≡ Some lease → StageClaims codec spelled tracks opening past jobs seen m number job stage → IsUnder lease stage
goes_under codec spelled tracks opening past jobs seen m number job lease (PutsLease own) has claims = same_Some own lease (sym claims.0.0 ∙ has)
goes_under codec spelled tracks opening past jobs seen m number job lease (ListsLeases own) has claims = same_Some own lease (sym claims.0 ∙ has)
goes_under codec spelled tracks opening past jobs seen m number job lease _ has claims = tt

-- ---- a drop

-- what is kept stays where more jobs were dropped
pub drop_kept : {F : Type 0} (codec : Codec F) (spelled : Spelled) (tracks : Tracking F) (opening : Held) (past : History) (jobs : List Job) (dead more : List ℕ) (seen : List Told) (m : Held)
    → AreAmong dead more → Kept codec spelled tracks opening past jobs dead seen m → Kept codec spelled tracks opening past jobs more seen m
drop_kept codec spelled tracks opening past jobs dead more seen m among kept = record {
  stands = kept.stands;
  is_held = kept.is_held;
  apart = kept.apart;
  fit = kept.fit;
  known = kept.known;
  spent = kept.spent;
  leased = leased_drop codec jobs dead more seen m among kept.leased;
  claims = λ number job at alive. kept.claims number job at (λ there. alive (among number there));
}

-- ---- a broken lease

-- a removal is no put
no_put : (lease n : Name) (bytes : List ℕ) → call.Remove lease ≡ call.Put n bytes → ⊥
no_put lease n bytes same = cc

module _ {F : Type 0} (codec : Codec F) (spelled : Spelled) (tracks : Tracking F) (opening : Held) (past : History) (jobs : List Job) (dead : List ℕ) (seen : List Told) (m : Held) (e : Told)
    (kept : Kept codec spelled tracks opening past jobs dead seen m) (broken : IsBroken codec jobs dead seen e) where
  -- no job made the call
  no_job : (number : ℕ) → e.job ≡ Some number → ⊥
  no_job number own = none-some number (sym broken.nobodys ∙ own)

  -- so it appends no deed
  same_history : history_told jobs past (seen ++ e ∷ []) ≡ history_told jobs past seen
  same_history =
      later_no_deed jobs past seen e
      (ap (option_and_then (λ number. option_and_then (λ job. deed_in (history_told jobs past seen) job (schemas_found (trace_of number seen)) e.call) (slice_get jobs number))) broken.nobodys)

  -- and leads to objects that stand for the same history
  pub broken_leads : (id : ℕ) → Leads spelled past jobs seen e m id
  broken_leads id = removal_leads spelled past jobs seen e m kept.stands id broken.key broken.mode broken.removes same_history

  -- it commits nothing
  commits_none : (id : ℕ) → DoesCommit e id → ⊥
  commits_none id is = no_put (name.Lease broken.key broken.mode) (wrt_of is.frag) is.bytes (sym broken.removes ∙ is.puts)

  of_jobs : IsOfJobs jobs e
  of_jobs = record {
    numbered = λ number own. absurd (no_job number own);
    puts = λ n bytes id is carried. absurd (no_put (name.Lease broken.key broken.mode) n bytes (sym broken.removes ∙ is));
  }

  -- what is kept stays where a lease is broken
  pub broken_kept : IsReplied m e → Kept codec spelled tracks opening past jobs dead (seen ++ e ∷ []) (after_told m e)
  broken_kept replied = record {
    stands = (broken_leads 0).stands;
    is_held = ap (λ n. after_told n e) kept.is_held ∙ sym (held_told-append opening seen (e ∷ []));
    apart = kept.apart;
    fit = kept.fit;
    known = All-push (IsOfJobs jobs) seen e kept.known of_jobs;
    spent = are_spent_on opening past seen e m replied ((broken_leads 0).leaves).names kept.spent;
    leased = leased_step codec jobs dead seen m e kept.apart replied (inr broken) kept.leased
        (λ number job lease at alive has. goes_under codec spelled tracks opening past jobs seen m number job lease (stage_of codec job (trace_of number seen)) has (kept.claims number job at alive));
    claims = λ number job at alive.
        subst (StageClaims codec spelled tracks opening past jobs (seen ++ e ∷ []) (after_told m e) number job) (sym (stage_of-other codec job number seen e (no_job number)))
        (stage_stays codec spelled tracks opening past jobs seen e m (job.id + 1) (broken_leads (job.id + 1)).leaves number job (stage_of codec job (trace_of number seen))
        (λ same. omega (arith, same)) (no_job number) (commits_none job.id) (λ f spent committed. elim (committed_by m e f replied committed) [ inl before ↦ before | inr commits ↦ absurd (commits_none f.id commits) ])
        ((broken_leads (job.id + 1)).stands).history (kept.claims number job at alive));
  }
