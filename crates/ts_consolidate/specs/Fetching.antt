-- Fetches of sources: where one step of a fetch leads.
use Rattle.std.specs.Prelude.{ℕ, ◌<◌, List, Result, Ok, Err, ⊤}
use Rattle.ts_base.specs.declared.keys.FragKey.{FragKey}
use Rattle.ts_base.specs.declared.heads.Version.{Version}
use Rattle.ts_base.specs.declared.names.Name.TheVariants as name
use Rattle.ts_store.specs.declared.call.Reply.TheVariants as reply
use Rattle.ts_schema.specs.declared.frames.Frame.{Frame}
use Rattle.ts_schema.specs.declared.schemas.Schema.{Schema}
use Rattle.ts_model.specs.declared.answers.Outcome.TheVariants as outcome
use Rattle.ts_model.specs.declared.answers.Refusal.TheVariants as refusal
use Rattle.ts_model.specs.declared.states.Opened.{Opened}
use Rattle.ts_model.specs.declared.states.State.{State}
use Rattle.ts_model.specs.declared.states.State.TheVariants.{Merges, Over}
use Rattle.ts_model.specs.declared.states.Merging.TheVariants.{Fetches}
use Rattle.ts_model.specs.declared.states.Survey.{Survey}
use Rattle.ts_model.specs.Codecs.{Stepped, Codec, Asks, Takes, Breaks}
use Rattle.ts_model.specs.States.{all_of}
use Rattle.ts_actor.specs.Fetches.{IsWorkCall}
use Rattle.ts_consolidate.specs.Merges.{IsGoing, IsGot}
use Rattle.ts_consolidate.specs.declared.fetching.SourceStep.{SourceStep}
use Rattle.ts_consolidate.specs.declared.fetching.SourceStep.TheVariants as source_step

-- where a step of a fetch of a fragment leads
abbrev pub step_by : {F : Type 0} → FragKey → Stepped F → SourceStep F
step_by frag (Asks f c) = source_step.Asks f c
step_by frag (Takes vs) = source_step.Takes vs
step_by frag (Breaks part at) = source_step.Ends (outcome.Refused (refusal.Damaged (name.Part frag part) at))

-- where the beginning of a fetch leads
abbrev pub first_step : {F : Type 0} → Codec F → Frame → FragKey → Result F ℕ → SourceStep F
first_step codec frame frag (Ok f) = step_by frag (codec.steps f reply.Start)
first_step codec frame frag (Err at) = source_step.Ends (outcome.Refused (refusal.Damaged (name.Part frag (codec.head_part frame)) at))

-- where the beginning of the fetch of all of a source leads
abbrev pub step_of : {F : Type 0} → Codec F → Frame → Schema → Opened → SourceStep F
step_of codec frame schema o = first_step codec frame o.frag (codec.opens frame schema o.frag o.object (all_of frame schema.attrs))

-- the state of a consolidation after such a step: it waits for a call, goes on with the versions, or is over
abbrev pub state_after : {F : Type 0} → Survey → List Opened → Schema → ℕ → FragKey → List (List Version) → (List Version → State F) → SourceStep F → State F
state_after s sources schema next frag got on (source_step.Asks f c) = Merges (Fetches s sources schema next frag got f c)
state_after s sources schema next frag got on (source_step.Takes vs) = on vs
state_after s sources schema next frag got on (source_step.Ends end) = Over end

-- a call that is asked for has a spelling
abbrev pub AsksSpelled : {F : Type 0} → SourceStep F → Type 0
AsksSpelled (source_step.Asks f c) = IsWorkCall c
AsksSpelled _ = ⊤

-- a fetch that asks for a call has fewer left than this
abbrev pub HasFewer : {F : Type 0} → (F → ℕ) → ℕ → SourceStep F → Type 0
HasFewer left most (source_step.Asks f c) = left f < most
HasFewer left most _ = ⊤

-- a fetch that asks for a call is one of all of the source, and what one takes of it can be written
abbrev pub LeadsOn : {F : Type 0} → Codec F → Frame → Schema → Opened → SourceStep F → Type 0
LeadsOn codec frame schema o (source_step.Asks f c) = IsGoing codec frame schema o f c
LeadsOn codec frame schema o (source_step.Takes vs) = IsGot codec frame schema.attrs o vs
LeadsOn codec frame schema o (source_step.Ends end) = ⊤
