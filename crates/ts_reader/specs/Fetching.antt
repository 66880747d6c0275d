-- Fetches of fragments: where one step of a fetch leads.
use Rattle.std.specs.Prelude.{ℕ, ◌<◌, List, Option, Some, None, Result, Ok, Err, ⊤}
use Rattle.ts_base.specs.declared.keys.FragKey.{FragKey}
use Rattle.ts_base.specs.declared.heads.Version.{Version}
use Rattle.ts_base.specs.declared.names.Name.TheVariants as name
use Rattle.ts_actor.specs.Fetches.{IsWorkCall}
use Rattle.ts_store.specs.declared.call.Reply.TheVariants as reply
use Rattle.ts_schema.specs.declared.schemas.Schema.{Schema}
use Rattle.ts_model.specs.declared.answers.Outcome.TheVariants as outcome
use Rattle.ts_model.specs.declared.answers.Refusal.TheVariants as refusal
use Rattle.ts_model.specs.declared.states.Opened.{Opened}
use Rattle.ts_model.specs.declared.states.Reading.{Reading}
use Rattle.ts_model.specs.declared.states.State.{State}
use Rattle.ts_model.specs.declared.states.State.TheVariants.{Collects, Over}
use Rattle.ts_model.specs.declared.states.Collecting.TheVariants.{Fetches}
use Rattle.ts_model.specs.Codecs.{Stepped, Codec, Asks, Takes, Breaks}
use Rattle.ts_model.specs.States.{want_of}
use Rattle.ts_domain.specs.declared.boxes.SubBox.{SubBox}
use Rattle.ts_actor.specs.PieceLaws.{AreInBox, IsFetchIn}
use Rattle.ts_reader.specs.declared.fetching.FetchStep.{FetchStep}
use Rattle.ts_reader.specs.declared.fetching.FetchStep.TheVariants as fetch_step

-- where a step of a fetch of a fragment leads
abbrev pub step_by : {F : Type 0} → FragKey → Stepped F → FetchStep F
step_by frag (Asks f c) = fetch_step.Asks f c
step_by frag (Takes vs) = fetch_step.Takes vs
step_by frag (Breaks part at) = fetch_step.Ends (outcome.Refused (refusal.Damaged (name.Part frag part) at))

-- where the beginning of a fetch leads
abbrev pub first_step : {F : Type 0} → Codec F → Reading → FragKey → Result F ℕ → FetchStep F
first_step codec r frag (Ok f) = step_by frag (codec.steps f reply.Start)
first_step codec r frag (Err at) = fetch_step.Ends (outcome.Refused (refusal.Damaged (name.Part frag (codec.head_part r.frame)) at))

-- where the beginning of a fetch leads that is in a schema, if that is known
abbrev pub step_in : {F : Type 0} → Codec F → Reading → Opened → Option Schema → FetchStep F
step_in codec r o None = fetch_step.Ends outcome.OutOfMemory
step_in codec r o (Some s) = first_step codec r o.frag (codec.opens r.frame s o.frag o.object (want_of r s.attrs))

-- the state of a read after such a step: it waits for a call, goes on with the versions, or is over
abbrev pub state_after_step : {F : Type 0} → Reading → List Opened → List Schema → ℕ → FragKey → List Version → (List Version → State F) → FetchStep F → State F
state_after_step r opened schemas next frag got on (fetch_step.Asks f c) = Collects (Fetches r opened schemas next frag got f c)
state_after_step r opened schemas next frag got on (fetch_step.Takes vs) = on vs
state_after_step r opened schemas next frag got on (fetch_step.Ends end) = Over end

-- a call that is asked for has a spelling
abbrev pub AsksSpelled : {F : Type 0} → FetchStep F → Type 0
AsksSpelled (fetch_step.Asks f c) = IsWorkCall c
AsksSpelled _ = ⊤

-- a fetch that asks for a call has fewer left than this
abbrev pub HasFewer : {F : Type 0} → (F → ℕ) → ℕ → FetchStep F → Type 0
HasFewer left most (fetch_step.Asks f c) = left f < most
HasFewer left most _ = ⊤

-- what the fetch asks for or takes lies in the box
abbrev pub LeadsInside : {F : Type 0} → Codec F → SubBox → FetchStep F → Type 0
LeadsInside codec sub (fetch_step.Asks f c) = IsFetchIn codec sub f
LeadsInside codec sub (fetch_step.Takes vs) = AreInBox sub vs
LeadsInside codec sub (fetch_step.Ends end) = ⊤
