-- Plans of faults: which calls of a store or a stream in memory are to fail.
use Rattle.std.specs.Prelude.{ℕ, ◌==◌, List, Option, find, if◌then◌else◌}
use Rattle.std.specs.Option.{option_map_or}
use Rattle.ts_store.specs.declared.fate.Fate.{Fate}
use Rattle.ts_store.specs.declared.fate.Fate.TheVariants as fate
use Rattle.ts_store.specs.declared.fate.Fault.{Fault}

-- the fault that a plan has for a call
abbrev pub fault_at : List Fault → ℕ → Option Fault
fault_at plan call = find (λ fault. fault.call == call) plan

-- the fate of a call with this fault
abbrev pub fate_of : Fault → Fate
fate_of fault = if fault.whole then fate.FailedDone else fate.FailedSkipped

-- the fate that a plan has for a call
abbrev pub planned_fate : List Fault → ℕ → Fate
planned_fate plan call = option_map_or fate_of (fault_at plan call) fate.Done
