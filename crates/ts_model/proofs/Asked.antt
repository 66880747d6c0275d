-- Calls that a job may make, one after the other.
use Rattle.std.proofs.Common.{◌≡◌, Bool, true, false, not, ◌&&◌, Option, refl, List, [], ◌∷◌, ◌++◌, Some, None, inl, inr, sym, ap, ◌∙◌}
use Rattle.std.proofs.lemmas.Bool.{true≢false}
use Rattle.std.specs.Option.{option_map_or, is_some}
use Rattle.ts_base.specs.declared.names.Name.{Name}
use Rattle.ts_store.specs.declared.call.Call.{Call}
use Rattle.ts_model.specs.declared.commands.Job.{Job}
use Rattle.ts_model.specs.declared.states.Stage.{Stage}
use Rattle.ts_model.specs.Codecs.{Codec}
use Rattle.ts_model.specs.States.{Exchange, begun}
use Rattle.ts_model.specs.Stages.{begins_at, first_stage, stage_asks, goes_on, holds_lease, is_leased, is_release, is_removal, is_removing, lease_of, may_give_up, stage_from}
use Rattle.ts_model.specs.Driven.{MayAsk, AskedFrom}

-- a job without a lease removes none
pub no_release : (job : Job) (c : Call) → lease_of job ≡ None → is_release job c ≡ false
no_release job c none = ap (λ o. option_map_or (is_removal c) o false) none

-- a job without a lease makes the call that it asks next
pub next_call : {F : Type 0} (codec : Codec F) (job : Job) (stage : Stage F) (c : Call) → lease_of job ≡ None → MayAsk codec job stage c → stage_asks codec job stage ≡ Some c
next_call codec job stage c none (inl asked) = asked
next_call codec job stage c none (inr gives_up) = absurd (true≢false (sym gives_up.0 ∙ no_release job c none))

-- a job that may give up its lease holds it
pub gives_up_held : {F : Type 0} (job : Job) (stage : Stage F) → may_give_up job stage ≡ true → holds_lease job stage ≡ true
gives_up_held job stage may = by_both (holds_lease job stage) (not (is_removing stage)) may
  where
    by_both : (a b : Bool) → (a && b) ≡ true → a ≡ true
    by_both true b is = refl
    by_both false b is = absurd (true≢false (sym is))

-- a job that made no call holds no lease
pub starts_unleased : (F : Type 0) (job : Job) → holds_lease {F = F} job (first_stage job) ≡ false
starts_unleased F job = by_lease (lease_of job)
  where
    by_lease : (o : Option Name) → (is_some o && is_leased {F = F} (begins_at o (begun job.command))) ≡ false
    by_lease None = refl
    by_lease (Some lease) = refl

-- one more call, which the job may make where those before it have led
pub asked-push : {F : Type 0} (codec : Codec F) (job : Job) (stage : Stage F) (xs : List Exchange) (x : Exchange)
    → AskedFrom codec job stage xs → MayAsk codec job (stage_from codec job stage xs) x.call → AskedFrom codec job stage (xs ++ x ∷ [])
asked-push codec job stage [] x a q = (q, tt)
asked-push codec job stage (y ∷ xs) x a q = (a.0, asked-push codec job (goes_on codec job stage y) xs x a.1 q)
