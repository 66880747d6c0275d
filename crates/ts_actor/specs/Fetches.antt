-- Fetches: what each step of one does.
use Rattle.std.specs.Prelude.{◌≡◌, ℕ, ◌<◌, ⊤}
use Rattle.ts_store.specs.Calls.{IsSpelledCall}
use Rattle.ts_model.specs.Codecs.{Stepped, Asks, Takes, Breaks}
use Rattle.ts_store.specs.declared.call.Call.{Call}
use Rattle.ts_actor.specs.declared.pieces.Fetched.{Fetched}
use Rattle.ts_actor.specs.declared.pieces.Fetched.TheVariants as fetched
use Rattle.ts_store.specs.declared.call.Call.TheVariants as call

-- the fetch did what was computed, unless there was no memory
abbrev pub IsStep : {F : Type 0} → Stepped F → F → Fetched → Type 0
IsStep step now (fetched.Ask c) = step ≡ Asks now c
IsStep step now (fetched.Got vs) = step ≡ Takes vs
IsStep step now (fetched.Damaged part at) = step ≡ Breaks part at
IsStep step now fetched.OutOfMemory = ⊤

-- a fetch that asks for a call has fewer left than before
abbrev pub FallsAtAsk : ℕ → ℕ → Fetched → Type 0
FallsAtAsk before now (fetched.Ask c) = now < before
FallsAtAsk before now _ = ⊤

-- the call removes nothing
abbrev pub RemovesNothing : Call → Type 0
RemovesNothing (call.Remove n) = ⊥
RemovesNothing c = ⊤

-- the call has a spelling, and removes nothing
abbrev pub IsWorkCall : Call → Type 0
IsWorkCall c = IsSpelledCall c × RemovesNothing c

-- a call that is asked for has a spelling, and removes nothing
abbrev pub AsksSpelled : Fetched → Type 0
AsksSpelled (fetched.Ask c) = IsWorkCall c
AsksSpelled _ = ⊤
