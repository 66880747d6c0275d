-- What is kept of the actors of a world, beside what every call keeps.
use Rattle.std.specs.Prelude.{◌≡◌, ◌≢◌, ◌<◌, ◌≤◌, ℕ, suc, Bool, true, false, not, ◌&&◌, ◌||◌, nat_eq, List, [], ◌∷◌, ◌++◌, Option, Some, None, Result, Ok, Err, map, length, slice_get, slice_set, ⊤}
use Rattle.std.specs.List.{list_any}
use Rattle.std.specs.Option.{option_map_or}
use Rattle.std.specs.FinMap as finite
use Rattle.ts_base.specs.declared.names.Name.{Name}
use Rattle.ts_base.specs.declared.heads.Stop.TheVariants.{Never}
use Rattle.ts_base.specs.Held.{Held}
use Rattle.ts_store.specs.declared.call.Call.{Call}
use Rattle.ts_store.specs.declared.call.Reply.{Reply}
use Rattle.ts_store.specs.declared.fate.Fate.{Fate}
use Rattle.ts_store.specs.declared.journal.Entry.{Entry}
use Rattle.ts_store.specs.Calls.{FitsCall, IsSpelledCall, IsSpelledReply, is_no_memory, reply_of, after}
use Rattle.ts_store.specs.Journals.{entry}
use Rattle.ts_store.specs.Memory.{held_in}
use Rattle.ts_model.specs.declared.commands.Job.{Job}
use Rattle.ts_model.specs.Deeds.{History}
use Rattle.ts_model.specs.States.{Exchange}
use Rattle.ts_model.specs.Told.{Told, IsShortCall, Replied, trace_of, entries_of, changes}
use Rattle.ts_model.specs.Codecs.{Codec, Spelled, Tracking}
use Rattle.ts_law.specs.Fresh.{id_in}
use Rattle.ts_law.specs.Lanes.{nobodys_lane, own_lane, AreInLanes}
use Rattle.ts_model.specs.Driven.{EndsBy}
use Rattle.ts_law.specs.Kept.{AreAllowed, Kept}
use Rattle.ts_actor.specs.Traces.{asking}
use Rattle.ts_world.specs.declared.events.WorldFault.{WorldFault}
use Rattle.ts_world.specs.declared.events.WorldFault.TheVariants.{IdTaken, NoActor, LeaseLive, OutOfMemory}
use Rattle.ts_world.specs.declared.slots.Running.{Running}
use Rattle.ts_world.specs.declared.slots.Slot.{Slot}
use Rattle.ts_world.specs.declared.slots.Slot.TheVariants as slot
use Rattle.ts_world.specs.declared.parts.Parts.{Parts}
use Rattle.ts_commands.specs.Actors.{job_of, Follows}
use Rattle.ts_world.specs.Views.{Standing, WorldView, Runs, Ended, Dropped, lane_of}
use Rattle.ts_world.specs.Breaks.{TakesLive, dropped_in}

-- where the actor of a slot stands
abbrev pub standing_of : {P F : Type 0} → Slot P F → Standing
standing_of (slot.Runs r) = Runs
standing_of (slot.Ended end) = Ended end
standing_of slot.Dropped = Dropped

-- where all actors stand
abbrev pub standings : {P F : Type 0} → List (Slot P F) → List Standing
standings slots = map standing_of slots

-- a running actor does its job, and waits for the reply to the call that it asked for after the others
pub record IsRunning {P F : Type 0} (codec : Codec F) (job : Job) (trace : List Exchange) (r : Running P F) : Type 0 where
  pub task : job_of r.actor ≡ job
  pub follows : Follows codec r.actor (asking trace r.asked)
  pub spelled : IsSpelledCall r.asked

-- the slot of an actor with this job, after these calls of its own
abbrev pub IsSlot : {P F : Type 0} → Codec F → Job → List Exchange → Slot P F → Type 0
IsSlot codec job trace (slot.Runs r) = IsRunning codec job trace r
IsSlot codec job trace (slot.Ended end) = EndsBy codec job trace end
IsSlot codec job trace slot.Dropped = ⊤

-- what is kept of the actor with a number: its job has no stop of its own, and its slot is one after the calls that it made
pub record IsActor {P F : Type 0} (codec : Codec F) (told : List Told) (number : ℕ) (job : Job) (s : Slot P F) : Type 0 where
  pub free : job.stop ≡ Never
  pub slot_is : IsSlot codec job (trace_of number told) s

-- what a world keeps whose store held `opening` when it began: what every call keeps from the beginning on, the journal of the calls, whose they are, and its actors
pub record IsKept {P F : Type 0} (codec : Codec F) (spelled : Spelled) (tracks : Tracking F) (opening : Held) (past : History) (jobs : List Job) (told : List Told) (held : Held) (journal : List Entry) (slots : List (Slot P F)) : Type 0 where
  -- what every call keeps at the beginning, and that each call could come, where actors were dropped between calls, and was replied to
  pub begins : Kept codec spelled tracks opening past jobs [] [] opening
  pub may : AreAllowed codec jobs [] (dropped_in (standings slots)) [] told
  pub replied : Replied opening told
  -- and what every call keeps now
  pub kept : Kept codec spelled tracks opening past jobs (dropped_in (standings slots)) told held
  pub entries : journal ≡ entries_of lane_of told
  pub in_lanes : AreInLanes codec own_lane jobs told
  pub one_each : length slots ≡ length jobs
  -- no actor has the lane of nobody's calls
  pub few : length jobs ≤ nobodys_lane
  pub actors : (number : ℕ) (job : Job) (s : Slot P F) → slice_get jobs number ≡ Some job → slice_get slots number ≡ Some s → IsActor codec told number job s

-- the actor of the slot runs, and this reply can come to its call
pub record IsDue {P F : Type 0} (codec : Codec F) (s : Slot P F) (reply : Reply) : Type 0 where
  pub running : Running P F
  pub runs : s ≡ slot.Runs running
  pub trace : List Exchange
  pub follows : Follows codec running.actor (asking trace running.asked)
  pub fits : FitsCall running.asked reply
  pub spelled : IsSpelledReply reply

-- what comes of a slot: after any calls that its actor followed and this reply it is the slot of the same job, and not dropped
pub record IsNextSlot {P F : Type 0} (codec : Codec F) (running : Running P F) (reply : Reply) (later : Slot P F) : Type 0 where
  pub is_slot : (trace : List Exchange) → Follows codec running.actor (asking trace running.asked) → IsSlot codec (job_of running.actor) (trace ++ record { call = running.asked; reply = reply } ∷ []) later
  pub up : standing_of later ≢ Dropped

-- the call that the actor with a number waits to make, or that no such actor runs
abbrev pub AsksFor : {P F : Type 0} → List (Slot P F) → ℕ → Result Call WorldFault → Type 0
AsksFor {P} {F} slots number (Ok c) = (r : Running P F) × (slice_get slots number ≡ Some (slot.Runs r)) × (c ≡ r.asked)
AsksFor {P} {F} slots number (Err (NoActor none)) = (none ≡ number) × ((r : Running P F) → slice_get slots number ≡ Some (slot.Runs r) → ⊥)
AsksFor slots number (Err (IdTaken id)) = ⊥
AsksFor slots number (Err (LeaseLive live)) = ⊥
AsksFor slots number (Err OutOfMemory) = ⊤

-- a restart drops an actor that runs
abbrev pub dropped_slot : {P F : Type 0} → Slot P F → Slot P F
dropped_slot (slot.Runs r) = slot.Dropped
dropped_slot s = s

-- ---- the whole

-- what contracts see of the parts of a world
abbrev pub view_of : {P F : Type 0} → Parts P F → WorldView
view_of p = record { opening = held_in p.opening.value; past = p.past; jobs = p.jobs; told = p.told.items; held = held_in p.store; journal = p.journal; actors = standings p.slots.items }

-- the parts of a world keep what a world keeps
abbrev pub ArePartsOk : {P F : Type 0} → Codec F → Spelled → Tracking F → Parts P F → Type 0
ArePartsOk codec spelled tracks p = IsKept codec spelled tracks (held_in p.opening.value) p.past p.jobs p.told.items (held_in p.store) p.journal p.slots.items

-- ---- what each step of the code does to the parts

-- the same for contracts: only what they do not see may differ
pub record AreSame {P F : Type 0} (before later : Parts P F) : Type 0 where
  pub view : view_of later ≡ view_of before
  pub slots : later.slots.items ≡ before.slots.items

-- an actor was added, with its job and its slot
pub record IsAdded {P F : Type 0} (job : Job) (s : Slot P F) (before later : Parts P F) : Type 0 where
  pub jobs : later.jobs ≡ before.jobs ++ job ∷ []
  pub slots : later.slots.items ≡ before.slots.items ++ s ∷ []
  pub told : later.told ≡ before.told
  pub journal : later.journal ≡ before.journal
  pub store : later.store ≡ before.store
  pub past : later.past ≡ before.past
  pub opening : later.opening ≡ before.opening

-- the identifier is that of a job
abbrev pub is_job_id : ℕ → Job → Bool
is_job_id id job = nat_eq job.id id

-- the name carries the identifier
abbrev pub carries : ℕ → Name → Bool
carries id n = option_map_or (λ own. nat_eq own id) (id_in n) false

-- a job or a held name has the identifier
abbrev pub is_taken : List Job → Held → ℕ → Bool
is_taken jobs m id = list_any (is_job_id id) jobs || list_any (carries id) (finite.keys m)

-- a slot in which an actor runs
abbrev pub is_up : {P F : Type 0} → Option (Slot P F) → Bool
is_up (Some (slot.Runs r)) = true
is_up _ = false

-- the number is not that of the actor which makes a call, if one does
abbrev pub is_other : Option ℕ → ℕ → Bool
is_other (Some own) number = not (nat_eq own number)
is_other None number = true

-- the job with a number has the identifier of the lease, and its actor runs and is not the one that makes a call
abbrev pub is_live_at : {P F : Type 0} → List (Slot P F) → Option ℕ → Name → ℕ → Job → Bool
is_live_at slots by lease number job = carries job.id lease && (is_up (slice_get slots number) && is_other by number)

-- so has one of these jobs, the first of which has this number
abbrev pub is_live_from : {P F : Type 0} → ℕ → List Job → List (Slot P F) → Option ℕ → Name → Bool
is_live_from number [] slots by lease = false
is_live_from number (job ∷ jobs) slots by lease = is_live_at slots by lease number job || is_live_from (suc number) jobs slots by lease

-- a store that held m was asked this call with this fate, replied so, and holds n
pub record IsAnswer (m : Held) (c : Call) (fate : Fate) (r : Reply) (n : Held) : Type 0 where
  pub fits : FitsCall c r
  pub spelled : IsSpelledReply r
  pub memory : is_no_memory r ≡ false
  pub reply : r ≡ reply_of m c fate
  pub held : n ≡ after m c fate

-- a call was made by an actor or by nobody, with this fate, and entered with all that is known of it
pub record IsMade {P F : Type 0} (by : Option ℕ) (c : Call) (fate : Fate) (before later : Parts P F) (r : Reply) : Type 0 where
  pub short : IsShortCall c
  pub answer : IsAnswer (held_in before.store) c fate r (held_in later.store)
  pub told : later.told.items ≡ before.told.items ++ record { job = by; call = c; fate = fate; reply = r; changed = changes (held_in before.store) c fate } ∷ []
  pub entered : later.journal ≡ before.journal ++ entry (lane_of by) c fate ∷ []
  pub slots : later.slots.items ≡ before.slots.items
  pub jobs : later.jobs ≡ before.jobs
  pub past : later.past ≡ before.past
  pub opening : later.opening ≡ before.opening

-- why a call of an actor was not made: it would take a lease from another actor which runs, or there was no memory
abbrev pub IsOwnFault : {P F : Type 0} → Parts P F → ℕ → Call → Result Reply WorldFault → Type 0
IsOwnFault before number c (Ok reply) = (lease : Name) → TakesLive before.jobs (standings before.slots.items) (Some number) c lease → ⊥
IsOwnFault before number c (Err (LeaseLive lease)) = TakesLive before.jobs (standings before.slots.items) (Some number) c lease
IsOwnFault before number c (Err (IdTaken id)) = ⊥
IsOwnFault before number c (Err (NoActor none)) = ⊥
IsOwnFault before number c (Err OutOfMemory) = ⊤

-- the call that a running actor waits for was made, and took no lease from another one
pub record IsCalled {P F : Type 0} (number : ℕ) (fate : Fate) (before later : Parts P F) (r : Reply) : Type 0 where
  pub running : Running P F
  pub runs : slice_get before.slots.items number ≡ Some (slot.Runs running)
  pub spares : (lease : Name) → TakesLive before.jobs (standings before.slots.items) (Some number) running.asked lease → ⊥
  pub made : IsMade (Some number) running.asked fate before later r

-- the actor with a number takes a reply that can come
pub record IsDueAt {P F : Type 0} (codec : Codec F) (slots : List (Slot P F)) (number : ℕ) (reply : Reply) : Type 0 where
  pub slot_is : Slot P F
  pub within : number < length slots
  pub there : slice_get slots number ≡ Some slot_is
  pub due : IsDue codec slot_is reply

-- it took the reply
pub record IsAdvanced {P F : Type 0} (codec : Codec F) (before : List (Slot P F)) (number : ℕ) (reply : Reply) (later : List (Slot P F)) : Type 0 where
  pub running : Running P F
  pub runs : slice_get before number ≡ Some (slot.Runs running)
  pub next : Slot P F
  pub next_is : IsNextSlot codec running reply next
  pub is : later ≡ slice_set before number next
