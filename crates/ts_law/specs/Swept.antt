-- What a vacuum found, by the names that it removes.
use Rattle.std.specs.Prelude.{◌≡◌, ℕ, List, [], ◌∷◌, ⊤}
use Rattle.ts_base.specs.declared.keys.FragKey.{FragKey}
use Rattle.ts_base.specs.declared.names.Name.{Name}
use Rattle.ts_base.specs.declared.names.Prefix.TheVariants.{Fragment}
use Rattle.ts_base.specs.Held.{Held}
use Rattle.ts_store.specs.Calls.{names_under}
use Rattle.ts_commit.specs.declared.vacs.VacOf.{VacOf}
use Rattle.ts_model.specs.declared.states.Sweep.{Sweep}
use Rattle.ts_model.specs.States.{committed_in, counting_in, with_vac_in}
use Rattle.ts_model.specs.Told.{Told, held_told}
use Rattle.ts_law.specs.Ends.{ListsPartsAfter}

-- what a vacuum found of a listing of the commits with these names, once it has these `.vac` objects
abbrev pub sweep_over : List Name → List VacOf → Sweep
sweep_over names vacs = record { committed = committed_in names; with_vac = with_vac_in names; counting = counting_in names; vacs = vacs }

-- a job listed these objects of a fragment after a listing of its own
pub record ListsPartsOf (opening : Held) (told : List Told) (number : ℕ) (before : List Told) (listing : Told) (f : FragKey) (names : List Name) : Type 0 where
  pub lists : ListsPartsAfter told number before listing f
  pub names_are : names ≡ names_under (Fragment f) (held_told opening lists.parts.before)

-- the same of each of these fragments in turn
abbrev pub EachParts : Held → List Told → ℕ → List Told → Told → List FragKey → List (List Name) → Type 0
EachParts opening told number before listing [] [] = ⊤
EachParts opening told number before listing (f ∷ set) (names ∷ listed) = ListsPartsOf opening told number before listing f names × EachParts opening told number before listing set listed
EachParts opening told number before listing _ _ = ⊥
