-- Which objects the calls of a job change: of a refused one, of a read and of a list of the commits none but its lease, of a vacuum and of an unlock no others than it is to remove, of any other its own and the frame.
use Rattle.std.specs.Prelude.{◌≡◌, ℕ, List, [], ◌∷◌, ◌++◌, Some, Contains, ⊤, ◌⊎◌}
use Rattle.std.specs.FinMap as map
use Rattle.ts_base.specs.declared.keys.Key.{Key}
use Rattle.ts_base.specs.declared.names.Name.{Name}
use Rattle.ts_base.specs.declared.names.Name.TheVariants as name
use Rattle.ts_base.specs.declared.names.Prefix.TheVariants.{Commits, Leases}
use Rattle.ts_base.specs.Held.{Held}
use Rattle.ts_commit.specs.Selections.{removal_set}
use Rattle.ts_commit.specs.declared.vacs.VacOf.{VacOf}
use Rattle.ts_model.specs.declared.commands.Command.{Command}
use Rattle.ts_model.specs.declared.commands.Command.TheVariants.{Create, Read, Vacuum, Unlock, Fragments}
use Rattle.ts_model.specs.declared.commands.Job.{Job}
use Rattle.ts_model.specs.Jobs.{key_of}
use Rattle.ts_model.specs.Stages.{lease_of}
use Rattle.ts_model.specs.Told.{Told, held_told}
use Rattle.ts_law.specs.Ends.{AreAllVacs, ListedAt, dead_leases}
use Rattle.ts_law.specs.Fresh.{id_in}
use Rattle.ts_law.specs.Sweeps.{IsSwept}

-- no call of a job changed an object, but for the job's lease
abbrev pub ChangedNothing : Held → List Told → ℕ → Job → Type 0
ChangedNothing opening told number job =
    (front back : List Told) (e : Told) → told ≡ front ++ e ∷ back → e.job ≡ Some number → (n : Name) → (lease_of job ≡ Some n → ⊥) → map.get (held_told opening (front ++ e ∷ [])) n ≡ map.get (held_told opening front) n

-- an object is one that a vacuum removes: of a fragment that the `.vac` objects name which counted as it listed the commits, or one of these. Until then it changed nothing
pub record IsToSweep (opening : Held) (told : List Told) (number : ℕ) (job : Job) (n : Name) : Type 0 where
  pub commits : ListedAt told number Commits
  pub idle : ChangedNothing opening commits.before number job
  pub vacs : List VacOf
  pub are_vacs : AreAllVacs (held_told opening commits.before) vacs
  pub swept : IsSwept (removal_set vacs) vacs n

-- each call of a vacuum leaves an object as it was, but for its lease and those that it is to remove
abbrev pub SweepsAlone : Held → List Told → ℕ → Job → Type 0
SweepsAlone opening told number job =
    (front back : List Told) (e : Told) → told ≡ front ++ e ∷ back → e.job ≡ Some number → (n : Name) → (lease_of job ≡ Some n → ⊥)
    → (map.get (held_told opening (front ++ e ∷ [])) n ≡ map.get (held_told opening front) n) ⊎ IsToSweep opening front number job n

-- an object is one that an unlock removes: a lease that it takes for dead, of those that were held as it listed them. Until then it changed nothing
pub record IsToUnlock (opening : Held) (told : List Told) (number : ℕ) (job : Job) (n : Name) : Type 0 where
  pub seed : ℕ
  pub lane : ℕ
  pub unlocks : job.command ≡ Unlock seed lane
  pub leases : ListedAt told number Leases
  pub idle : ChangedNothing opening leases.before number job
  pub dead : Contains (dead_leases seed lane opening leases.before) n

-- each call of an unlock leaves an object as it was, but for the leases that it is to remove
abbrev pub UnlocksAlone : Held → List Told → ℕ → Job → Type 0
UnlocksAlone opening told number job =
    (front back : List Told) (e : Told) → told ≡ front ++ e ∷ back → e.job ≡ Some number → (n : Name) → (map.get (held_told opening (front ++ e ∷ [])) n ≡ map.get (held_told opening front) n) ⊎ IsToUnlock opening front number job n

-- the command only looks: it is a read, or a list of the commits
abbrev pub OnlyLooks : Command → Type 0
OnlyLooks (Read from to query) = ⊤
OnlyLooks Fragments = ⊤
OnlyLooks _ = ⊥

-- the command removes no object but perhaps its lease: it is no vacuum and no unlock
abbrev pub RemovesNone : Command → Type 0
RemovesNone Vacuum = ⊥
RemovesNone (Unlock seed lane) = ⊥
RemovesNone _ = ⊤

-- the object is one that a command with the key may put: it carries the key's identifier, or it is the frame that a create puts
abbrev pub IsOwn : Key → Command → Name → Type 0
IsOwn k (Create made) n = (id_in n ≡ Some k.id) ⊎ (n ≡ name.Domain)
IsOwn k _ n = id_in n ≡ Some k.id

-- each call of a job leaves an object as it was, but for its lease and those that it may put
abbrev pub PutsAlone : Held → List Told → ℕ → Job → Type 0
PutsAlone opening told number job =
    (front back : List Told) (e : Told) → told ≡ front ++ e ∷ back → e.job ≡ Some number → (n : Name) → (lease_of job ≡ Some n → ⊥)
    → (map.get (held_told opening (front ++ e ∷ [])) n ≡ map.get (held_told opening front) n) ⊎ IsOwn (key_of job) job.command n
