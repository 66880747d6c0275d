-- How a job goes with its lease: it puts it, lists the leases, works, and removes it as its last call.
use Rattle.std.specs.Prelude.{Bool, true, false, cond, not, ◌&&◌, List, [], ◌∷◌, Option, Some, None, option_map}
use Rattle.std.specs.Option.{option_map_or, is_some}
use Rattle.ts_base.specs.declared.names.Name.{Name}
use Rattle.ts_base.specs.declared.names.LeaseMode.{LeaseMode}
use Rattle.ts_base.specs.declared.names.LeaseMode.TheVariants.{Exc, Shr}
use Rattle.ts_base.specs.Names.{name_eq}
use Rattle.ts_lease.specs.declared.verdicts.Verdict.{Verdict}
use Rattle.ts_lease.specs.declared.verdicts.Verdict.TheVariants.{Granted, Held}
use Rattle.ts_lease.specs.Leases.{verdict_in}
use Rattle.ts_store.specs.declared.call.Call.{Call}
use Rattle.ts_store.specs.declared.call.Reply.{Reply}
use Rattle.ts_model.specs.declared.commands.Command.{Command}
use Rattle.ts_model.specs.declared.commands.Command.TheVariants.{Read, Consolidate, Vacuum}
use Rattle.ts_model.specs.declared.commands.Job.{Job}
use Rattle.ts_model.specs.declared.answers.Outcome.{Outcome}
use Rattle.ts_model.specs.declared.states.State.{State}
use Rattle.ts_model.specs.declared.states.State.TheVariants.{Over}
use Rattle.ts_model.specs.declared.states.Stage.{Stage}
use Rattle.ts_model.specs.declared.states.Stage.TheVariants.{PutsLease, ListsLeases, Works, Releases}
use Rattle.ts_model.specs.Codecs.{Codec}
use Rattle.ts_model.specs.Jobs.{key_of}
use Rattle.ts_model.specs.States.{begun, asks, goes, is_over, list_leases, takes_memory, asks_memory, is_amid_removals, end_by, place_of, Exchange}
use Rattle.ts_base.specs.declared.names.Name.TheVariants as name
use Rattle.ts_store.specs.declared.call.Call.TheVariants as call
use Rattle.ts_store.specs.declared.call.Reply.TheVariants as reply
use Rattle.ts_model.specs.declared.answers.Outcome.TheVariants as outcome
use Rattle.ts_model.specs.declared.answers.Refusal.TheVariants as refusal

-- ---- leases

-- how the lease of a command lets other leases stand beside it, if the command has one: reads and consolidations share the store with one another, and a vacuum with nobody who has one
abbrev pub mode_of : Command → Option LeaseMode
mode_of (Read from to query) = Some Shr
mode_of (Consolidate from to limits) = Some Shr
mode_of Vacuum = Some Exc
mode_of command = None

-- the lease of a job, if it has one
abbrev pub lease_of : Job → Option Name
lease_of job = option_map (name.Lease (key_of job)) (mode_of job.command)

-- the put of a lease, which is empty
abbrev pub put_lease : Name → Call
put_lease lease = call.Put lease []

-- the call removes the object
abbrev pub is_removal : Call → Name → Bool
is_removal (call.Remove n) lease = name_eq n lease
is_removal c lease = false

-- the call removes the job's own lease
abbrev pub is_release : Job → Call → Bool
is_release job c = option_map_or (is_removal c) (lease_of job) false

-- ---- how a job ends whose lease is removed

-- by the reply to the removal of its lease: a failure and want of memory take the place of an answer, and not of a refusal
abbrev pub released : Name → Outcome → Reply → Outcome
released lease (outcome.Refused r) reply = outcome.Refused r
released lease outcome.OutOfMemory reply = outcome.OutOfMemory
released lease end reply.Removed = end
released lease end reply.Failed = outcome.Refused (refusal.StoreFault (place_of (call.Remove lease)))
released lease end reply = outcome.OutOfMemory

-- ---- the automaton

-- where a state of the work leads: a job that has a lease removes it before it is over
abbrev pub settled : {F : Type 0} → Option Name → State F → Stage F
settled (Some lease) (Over end) = Releases lease end
settled lease s = Works s

-- where a job begins: one that has a lease puts it
abbrev pub begins_at : {F : Type 0} → Option Name → State F → Stage F
begins_at (Some lease) s = PutsLease lease
begins_at None s = Works s

-- the first stage of a job
abbrev pub first_stage : {F : Type 0} → Job → Stage F
first_stage job = begins_at (lease_of job) (begun job.command)

-- the next call of a job, if it is not over
abbrev pub stage_asks : {F : Type 0} → Codec F → Job → Stage F → Option Call
stage_asks codec job (PutsLease lease) = Some (put_lease lease)
stage_asks codec job (ListsLeases lease) = Some list_leases
stage_asks codec job (Works s) = asks codec job s
stage_asks codec job (Releases lease end) = Some (call.Remove lease)

-- where the reply to the put of a lease leads: one whose name was taken is not the job's own, and any other is removed
abbrev pub after_lease : {F : Type 0} → Name → Reply → Stage F
after_lease lease reply.Made = ListsLeases lease
after_lease lease reply.Taken = Works (Over (outcome.Refused (refusal.Taken lease)))
after_lease lease r = Releases lease (end_by (put_lease lease) r)

-- where the verdict on the leases leads: the job works, unless a lease opposes its own one
abbrev pub on_verdict : {F : Type 0} → Name → State F → Verdict → Stage F
on_verdict lease s Granted = settled (Some lease) s
on_verdict lease s (Held other) = Releases lease (outcome.Refused (refusal.Leased other))

-- where the reply to the listing of the leases leads
abbrev pub after_leases : {F : Type 0} → Name → State F → Reply → Stage F
after_leases lease s (reply.Names names) = on_verdict lease s (verdict_in names lease)
after_leases lease s r = Releases lease (end_by list_leases r)

-- where a reply leads a job
abbrev pub stage_goes : {F : Type 0} → Codec F → Job → Stage F → Reply → Stage F
stage_goes codec job (PutsLease lease) r = after_lease lease r
stage_goes codec job (ListsLeases lease) r = after_leases lease (begun job.command) r
stage_goes codec job (Works s) r = settled (lease_of job) (goes codec job s r)
stage_goes codec job (Releases lease end) r = Works (Over (released lease end r))

-- the lease of a job that has one is put, and not yet removed
abbrev pub is_leased : {F : Type 0} → Stage F → Bool
is_leased (PutsLease lease) = false
is_leased (Works s) = not (is_over s)
is_leased stage = true

-- the job holds its lease: it has one, which is put and not yet removed
abbrev pub holds_lease : {F : Type 0} → Job → Stage F → Bool
holds_lease job stage = is_some (lease_of job) && is_leased stage

-- ---- want of memory

-- memory can be wanting for what a reply leads to: for what the work does with it; the verdict on the leases takes none
abbrev pub stage_takes_memory : {F : Type 0} → Stage F → Bool
stage_takes_memory (Works s) = takes_memory s
stage_takes_memory stage = false

-- memory can be wanting for the next call: for what the work asks; what the job does with its lease takes none
abbrev pub stage_asks_memory : {F : Type 0} → Stage F → Bool
stage_asks_memory (Works s) = asks_memory s
stage_asks_memory stage = false

-- the job is at its removals: it has removed an object, and has more to remove
abbrev pub is_removing : {F : Type 0} → Stage F → Bool
is_removing (Works s) = is_amid_removals s
is_removing stage = false

-- for want of memory the job may give up its lease: it holds it, and is not at its removals
abbrev pub may_give_up : {F : Type 0} → Job → Stage F → Bool
may_give_up job stage = holds_lease job stage && not (is_removing stage)

-- ---- traces

-- the end of a job that removes its lease here: the one that it came to, else want of memory
abbrev pub end_at : {F : Type 0} → Stage F → Outcome
end_at (Releases lease end) = end
end_at stage = outcome.OutOfMemory

-- where the removal of a lease leads: the job is over
abbrev pub releases : {F : Type 0} → Stage F → Option Name → Reply → Stage F
releases stage (Some lease) r = Works (Over (released lease (end_at stage) r))
releases stage None r = stage

-- where a call and its reply lead a job: the removal of its lease is its last call
abbrev pub goes_on : {F : Type 0} → Codec F → Job → Stage F → Exchange → Stage F
goes_on codec job stage x = cond (is_release job x.call) (releases stage (lease_of job) x.reply) (stage_goes codec job stage x.reply)

-- how far a job has come by these calls, from a stage on
abbrev pub stage_from : {F : Type 0} → Codec F → Job → Stage F → List Exchange → Stage F
stage_from codec job stage [] = stage
stage_from codec job stage (x ∷ xs) = stage_from codec job (goes_on codec job stage x) xs

-- how far a job has come by all its calls
abbrev pub stage_of : {F : Type 0} → Codec F → Job → List Exchange → Stage F
stage_of codec job trace = stage_from codec job (first_stage job) trace
