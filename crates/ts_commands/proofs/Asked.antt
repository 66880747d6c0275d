-- An actor asks what its job asks, whichever command it does.
use Rattle.std.proofs.Common.{List}
use Rattle.ts_store.specs.declared.call.Call.{Call}
use Rattle.ts_model.specs.Codecs.{Codec}
use Rattle.ts_model.specs.Driven.{MayAsk}
use Rattle.ts_model.specs.States.{Exchange}
use Rattle.ts_model.specs.Stages.{stage_of}
use Rattle.ts_actor.specs.Traces.{asking}
use Rattle.ts_actor.proofs.MachineLaws.{asks_next}
use Rattle.ts_writer.specs.Writing.{IsCreateJob, IsCreateState, IsDeleteJob, IsEvolveJob, IsWriteJob, IsLaterState}
use Rattle.ts_reader.specs.Reading.{IsReadJob, MayRead}
use Rattle.ts_consolidate.specs.Merges.{IsMergeJob, MayMerge}
use Rattle.ts_vacuum.specs.Listing.{IsListJob, IsListState}
use Rattle.ts_vacuum.specs.Sweeping.{IsSweepState, IsVacuumJob}
use Rattle.ts_commands.specs.declared.actors.AnyActor.{AnyActor}
use Rattle.ts_commands.specs.declared.actors.AnyActor.TheVariants.{Creator, Evolver, Writer, Deleter, Reader, Consolidator, Vacuum, Unlocker, Lister}
use Rattle.ts_commands.specs.Actors.{job_of, Follows}

-- the call that an actor waits for is one that its job may make where the calls before it have led
pub asks_it : {P F : Type 0} (codec : Codec F) (a : AnyActor P F) (past : List Exchange) (c : Call) → Follows codec a (asking past c) → MayAsk codec (job_of a) (stage_of codec (job_of a) past) c
asks_it codec (Creator a) past c follows = asks_next codec IsCreateJob IsCreateState a.machine.job a.machine.phase past c follows
asks_it codec (Evolver a) past c follows = asks_next codec IsEvolveJob (λ job s. IsLaterState s) a.machine.job a.machine.phase past c follows
asks_it codec (Writer a) past c follows = asks_next codec IsWriteJob (λ job s. IsLaterState s) a.machine.job a.machine.phase past c follows
asks_it codec (Deleter a) past c follows = asks_next codec IsDeleteJob (λ job s. IsLaterState s) a.machine.job a.machine.phase past c follows
asks_it codec (Reader a) past c follows = asks_next codec IsReadJob (MayRead codec) a.machine.job a.machine.phase past c follows
asks_it codec (Consolidator a) past c follows = asks_next codec IsMergeJob (MayMerge codec) a.machine.job a.machine.phase past c follows
asks_it codec (Vacuum a) past c follows = asks_next codec IsVacuumJob (λ job s. IsSweepState s) a.machine.job a.machine.phase past c follows
asks_it codec (Unlocker a) past c follows = asks_next codec IsListJob (λ job s. IsListState s) a.machine.job a.machine.phase past c follows
asks_it codec (Lister a) past c follows = asks_next codec IsListJob (λ job s. IsListState s) a.machine.job a.machine.phase past c follows
