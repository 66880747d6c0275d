-- What an unlock and a vacuum tell of the objects: which of them they removed.
use Rattle.std.specs.Prelude.{◌≡◌, ℕ, List, None, Contains, length, ◌⊎◌}
use Rattle.std.specs.FinMap as map
use Rattle.ts_base.specs.declared.keys.FragKey.{FragKey}
use Rattle.ts_base.specs.declared.names.Name.{Name}
use Rattle.ts_base.specs.declared.names.Name.TheVariants as name
use Rattle.ts_base.specs.declared.names.Part.{Part}
use Rattle.ts_base.specs.declared.names.Prefix.TheVariants.{Leases}
use Rattle.ts_base.specs.Names.{wrt_of}
use Rattle.ts_commit.specs.Selections.{removal_set}
use Rattle.ts_commit.specs.declared.vacs.VacOf.{VacOf}
use Rattle.ts_store.specs.Calls.{names_under}
use Rattle.ts_model.specs.States.{leases_unlocked, vac_of}
use Rattle.ts_law.specs.Ends.{AreAllVacs}
use Rattle.ts_top.specs.Merges.{Calls, held_by}

-- the calls removed just the objects of a kind: after them none of that kind is held, and every other object is as it was before them
pub record RemovesJust (calls : Calls) (kind : Name → Type 0) : Type 0 where
  pub gone : (n : Name) → kind n → map.get (held_by calls calls.entries) n ≡ None
  pub others : (n : Name) → (kind n → ⊥) → map.get (held_by calls calls.entries) n ≡ map.get calls.opening n

-- the leases that an unlock of a seed and a lane takes for dead, of those that were held before its calls
abbrev pub dead_leases : Calls → ℕ → ℕ → List Name
dead_leases calls seed lane = leases_unlocked seed lane (names_under Leases calls.opening)

-- an unlock of a seed and a lane removed so many leases: just those that it takes for dead
pub record Unlocked (calls : Calls) (seed lane count : ℕ) : Type 0 where
  pub counted : count ≡ length (dead_leases calls seed lane)
  pub removes : RemovesJust calls (Contains (dead_leases calls seed lane))

-- the name is that of an object of the fragment: of its `.wrt`, of its `.vac` or of a part
abbrev pub IsObjectOf : FragKey → Name → Type 0
IsObjectOf f n = (n ≡ wrt_of f) ⊎ ((n ≡ vac_of f) ⊎ ((part : Part) × (n ≡ name.Part f part)))

-- a vacuum that finds these `.vac` objects removes the object: it is one of a fragment that they name, or one of them
abbrev pub IsSwept : List VacOf → Name → Type 0
IsSwept vacs n = ((f : FragKey) × Contains (removal_set vacs) f × IsObjectOf f n) ⊎ ((v : VacOf) × Contains vacs v × (n ≡ vac_of v.frag))

-- a vacuum may remove the object: it is one that it sweeps where it finds the `.vac` objects of the fragments that were committed before its calls
abbrev pub MaySweep : Calls → Name → Type 0
MaySweep calls n = (vacs : List VacOf) × AreAllVacs calls.opening vacs × IsSwept vacs n

-- the removal set of a vacuum has so many fragments: all that the `.vac` objects of fragments name that were committed before its calls, also those that were gone already.
-- It removed just their objects and these `.vac` objects.
pub record Vacuumed (calls : Calls) (count : ℕ) : Type 0 where
  pub vacs : List VacOf
  pub are_vacs : AreAllVacs calls.opening vacs
  pub counted : count ≡ length (removal_set vacs)
  pub removes : RemovesJust calls (IsSwept vacs)
