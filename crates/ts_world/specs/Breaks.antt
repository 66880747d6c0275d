-- Leases in a world: which of them running actors have, which calls would take them away, and what a broken one leaves.
use Rattle.std.specs.Prelude.{◌≡◌, ℕ, suc, List, [], ◌∷◌, ◌++◌, Option, Some, None, Result, Ok, Err, slice_get, ⊤}
use Rattle.std.specs.FinMap as finite
use Rattle.ts_base.specs.declared.names.Name.{Name}
use Rattle.ts_base.specs.declared.names.Name.TheVariants as name
use Rattle.ts_store.specs.declared.call.Call.{Call}
use Rattle.ts_store.specs.declared.call.Call.TheVariants as call
use Rattle.ts_store.specs.declared.call.Reply.TheVariants as reply
use Rattle.ts_store.specs.declared.fate.Fate.TheVariants as fate
use Rattle.ts_store.specs.Journals.{entry}
use Rattle.ts_model.specs.declared.commands.Job.{Job}
use Rattle.ts_model.specs.Codecs.{Codec}
use Rattle.ts_model.specs.Driven.{MayAsk}
use Rattle.ts_model.specs.Stages.{stage_of}
use Rattle.ts_model.specs.Told.{changes, trace_of}
use Rattle.ts_law.specs.Fresh.{id_in}
use Rattle.ts_law.specs.Lanes.{nobodys_lane}
use Rattle.ts_world.specs.declared.events.WorldFault.{WorldFault}
use Rattle.ts_world.specs.declared.events.WorldFault.TheVariants.{IdTaken, NoActor, LeaseLive, OutOfMemory}
use Rattle.ts_world.specs.Views.{Standing, Runs, Dropped, WorldView}

-- ---- whose a lease is

-- the name is one of a lease
abbrev pub IsLease : Name → Type 0
IsLease (name.Lease k mode) = ⊤
IsLease n = ⊥

-- an actor that runs, other than the one by which a call is made, has the identifier of the lease
pub record IsLive (jobs : List Job) (actors : List Standing) (by : Option ℕ) (lease : Name) : Type 0 where
  pub number : ℕ
  pub job : Job
  pub is_job : slice_get jobs number ≡ Some job
  pub runs : slice_get actors number ≡ Some Runs
  pub other : by ≡ Some number → ⊥
  pub carries : id_in lease ≡ Some job.id

-- of actors, the first of which has this number, the numbers of those that were dropped
abbrev pub dropped_from : ℕ → List Standing → List ℕ
dropped_from number [] = []
dropped_from number (Dropped ∷ actors) = number ∷ dropped_from (suc number) actors
dropped_from number (s ∷ actors) = dropped_from (suc number) actors

-- the numbers of the actors that were dropped
abbrev pub dropped_in : List Standing → List ℕ
dropped_in actors = dropped_from 0 actors

-- ---- calls that would take leases away

-- the lease that a call removes, if it removes one
abbrev pub lease_removed : Call → Option Name
lease_removed (call.Remove (name.Lease k mode)) = Some (name.Lease k mode)
lease_removed _ = None

-- the call, made by an actor or by nobody, would take a lease from another actor, which runs
pub record TakesLive (jobs : List Job) (actors : List Standing) (by : Option ℕ) (c : Call) (lease : Name) : Type 0 where
  pub removes : lease_removed c ≡ Some lease
  pub live : IsLive jobs actors by lease

-- a call takes no lease from a running actor, or this is one that it would take
abbrev pub DoesSpare : List Job → List Standing → Option ℕ → Call → Result (Unit {0}) WorldFault → Type 0
DoesSpare jobs actors by c (Ok done) = (lease : Name) → TakesLive jobs actors by c lease → ⊥
DoesSpare jobs actors by c (Err (LeaseLive lease)) = TakesLive jobs actors by c lease
DoesSpare jobs actors by c (Err (IdTaken id)) = ⊥
DoesSpare jobs actors by c (Err (NoActor number)) = ⊥
DoesSpare jobs actors by c (Err OutOfMemory) = ⊥

-- the actor with a number runs, and the call that it is to make would take the lease from another one
pub record WouldTake {F : Type 0} (codec : Codec F) (w : WorldView) (number : ℕ) (lease : Name) : Type 0 where
  pub job : Job
  pub is_job : slice_get w.jobs number ≡ Some job
  pub runs : slice_get w.actors number ≡ Some Runs
  pub call : Call
  pub asked : MayAsk codec job (stage_of codec job (trace_of number w.told)) call
  pub takes : TakesLive w.jobs w.actors (Some number) call lease

-- ---- a broken lease

-- the world after nobody removed the lease: that is told and entered, in a lane that no actor has
abbrev pub without_lease : Name → WorldView → WorldView
without_lease lease w = record w {
  told = w.told ++ record { job = None; call = call.Remove lease; fate = fate.Done; reply = reply.Removed; changed = changes w.held (call.Remove lease) fate.Done } ∷ [];
  held = finite.remove w.held lease;
  journal = w.journal ++ entry nobodys_lane (call.Remove lease) fate.Done ∷ [];
}
