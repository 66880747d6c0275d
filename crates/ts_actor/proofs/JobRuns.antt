-- A machine of a job that was driven over a store is the job that ran over it.
use Rattle.std.proofs.Common.{◌≡◌, List, [], ◌∷◌, ◌++◌, subst}
use Rattle.ts_store.specs.declared.call.Call.{Call}
use Rattle.ts_model.specs.declared.commands.Job.{Job}
use Rattle.ts_model.specs.declared.answers.Driven.{Driven}
use Rattle.ts_model.specs.declared.answers.Driven.TheVariants as driven
use Rattle.ts_model.specs.declared.answers.Outcome.{Outcome}
use Rattle.ts_model.specs.declared.states.Stage.{Stage}
use Rattle.ts_model.specs.Codecs.{Codec}
use Rattle.ts_model.specs.States.{Exchange}
use Rattle.ts_model.specs.Stages.{first_stage, stage_of}
use Rattle.ts_model.specs.Driven.{MayAsk, AskedFrom, EndsBy, ComesOut}
use Rattle.ts_model.proofs.Traces.{stage_from-append}
use Rattle.ts_actor.specs.Traces.{Trace, asking}
use Rattle.ts_actor.specs.Drives.{AreAsked, EndsAs}

-- the ends that the calls of a job may have
abbrev pub job_ends : {F : Type 0} → Codec F → Job → List Exchange → Outcome → Type 0
job_ends codec job past out = EndsBy codec job past out

module _ {F A : Type 0} (codec : Codec F) (task : A → Job) (follows : A → Trace → Type 0)
    (asks_next : (a : A) (past : List Exchange) (c : Call) → follows a (asking past c) → MayAsk codec (task a) (stage_of codec (task a) past) c) where
  -- calls that machines of a job asked for are such as the job may make
  pub asked_by : (job : Job) (past xs : List Exchange) → AreAsked task follows job past xs → AskedFrom codec job (stage_of codec job past) xs
  asked_by job past [] asked = tt
  asked_by job past (x ∷ xs) ((a, is, follows_it), more) =
      let P : Job → Type 0 = λ j. MayAsk codec j (stage_of codec j past) x.call in
      let Q : Stage F → Type 0 = λ s. AskedFrom codec job s xs in
      (subst P is (asks_next a past x.call follows_it), subst Q (stage_from-append codec job (first_stage job) past (x ∷ [])) (asked_by job (past ++ x ∷ []) xs more))

  -- how the machine came out is how the job came out
  pub comes_out : (job : Job) (last : A) (trace : List Exchange) (result : Driven Outcome) → task last ≡ job → EndsAs (job_ends codec job) (follows last) job.stop trace result → ComesOut codec job trace result
  comes_out job last trace (driven.Done end) is ends = ends
  comes_out job last trace driven.Stopped is (c, follows_it, cut) =
      let P : Job → Type 0 = λ j. MayAsk codec j (stage_of codec j trace) c in
      (c, subst P is (asks_next last trace c follows_it), cut)
