-- The store in memory: its plan of faults, and a fresh one.
use Rattle.std.specs.Prelude.{◌≡◌, ◌≢◌, false, [], if◌then◌else◌}
use Rattle.std.specs.FinMap as map
use Rattle.ts_base.specs.Held.{Held}
use Rattle.ts_store.specs.declared.fate.Fate.{Fate}
use Rattle.ts_store.specs.declared.fate.Fate.TheVariants as fate
use Rattle.ts_store.specs.declared.memory.MemStore.{MemStore}
use Rattle.ts_store.specs.declared.memory.Next.{Next}
use Rattle.ts_store.specs.declared.memory.Next.TheVariants.{AsPlanned, Works, Fails}
use Rattle.ts_store.specs.declared.call.Reply.{Reply}
use Rattle.ts_store.specs.declared.call.Reply.TheVariants as reply
use Rattle.ts_store.specs.Calls.{is_no_memory}
use Rattle.ts_store.specs.Counts.{one_more}
use Rattle.ts_store.specs.Faults.{planned_fate}

-- what the store holds
abbrev pub held_in : MemStore → Held
held_in store = store.objects

-- the fate of a call that a plan gives this fate
abbrev pub fate_by : Next → Fate → Fate
fate_by AsPlanned planned = planned
fate_by Works planned = fate.Done
fate_by (Fails whole) planned = if whole then fate.FailedDone else fate.FailedSkipped

-- the fate of the next call: the one that was forced, and else the one that is planned for its number
abbrev pub next_fate : MemStore → Fate
next_fate store = fate_by store.next (planned_fate store.plan store.calls)

-- a store that holds nothing and fails no call
pub record IsFresh (store : MemStore) : Type 0 where
  pub held : held_in store ≡ map.empty
  pub plan : store.plan ≡ []
  pub next : store.next ≡ AsPlanned

-- a call took its fate from the plan, unless there was no memory, and the plan goes on with the next number
pub record GoesByPlan (before now : MemStore) (said : Reply) : Type 0 where
  pub fate : is_no_memory said ≡ false → now.last ≡ next_fate before
  pub plan : now.plan ≡ before.plan
  pub calls : now.calls ≡ one_more before.calls
  pub next : now.next ≡ AsPlanned
  -- its count of faults goes up by one with each failed call, and stays with any other
  pub failed : said ≡ reply.Failed → now.faults ≡ one_more before.faults
  pub served : said ≢ reply.Failed → now.faults ≡ before.faults
