-- Jobs that remove objects, one after the other.
use Rattle.std.specs.Prelude.{◌≡◌, ℕ, ◌-◌, List, length, ⊤}
use Rattle.ts_base.specs.declared.names.Name.{Name}
use Rattle.ts_model.specs.declared.states.State.{State}
use Rattle.ts_model.specs.declared.states.State.TheVariants.{Over, Removes}

-- the job removes these objects, or it is over
abbrev pub IsRemoving : {F : Type 0} → List Name → State F → Type 0
IsRemoving names (Removes others next end) = others ≡ names
IsRemoving names (Over end) = ⊤
IsRemoving names _ = ⊥

-- the most removals that it makes from a state on
abbrev pub removals_left : {F : Type 0} → State F → ℕ
removals_left (Removes names next end) = length names - next
removals_left _ = 0
