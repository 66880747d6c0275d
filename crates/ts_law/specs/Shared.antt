-- What stays held for jobs that work under shared leases.
use Rattle.std.specs.Prelude.{◌≡◌, ℕ, List, ◌++◌}
use Rattle.ts_base.specs.declared.names.LeaseMode.TheVariants.{Shr}
use Rattle.ts_base.specs.declared.names.Name.TheVariants as name
use Rattle.ts_base.specs.declared.names.Prefix.TheVariants.{Commits}
use Rattle.ts_base.specs.Held.{Held}
use Rattle.ts_model.specs.declared.commands.Job.{Job}
use Rattle.ts_model.specs.Codecs.{Codec}
use Rattle.ts_model.specs.Jobs.{key_of}
use Rattle.ts_model.specs.Told.{Told, held_told}
use Rattle.ts_law.specs.Ends.{ListedAt}
use Rattle.ts_law.specs.Leases.{IsGranted}
use Rattle.ts_law.specs.Since.{HeldSince}

-- a job works under a shared lease that it was granted, as reads and consolidations do
abbrev pub IsSharing : {F : Type 0} → Codec F → List Job → List ℕ → List Told → ℕ → Job → Type 0
IsSharing codec jobs dead seen number job = IsGranted codec jobs dead seen number job (name.Lease (key_of job) Shr)

-- what stays held for the jobs that work under shared leases: all but leases
pub record StaysShared {F : Type 0} (codec : Codec F) (opening : Held) (jobs : List Job) (dead : List ℕ) (seen : List Told) (m : Held) : Type 0 where
  -- all that was held at any time since the lease was granted
  pub granted : (number : ℕ) (job : Job) (front back : List Told) → seen ≡ front ++ back → IsSharing codec jobs dead front number job → IsSharing codec jobs dead seen number job → HeldSince (held_told opening front) m
  -- all that was held as the job listed the commits
  pub listed : (number : ℕ) (job : Job) (commits : ListedAt seen number Commits) → IsSharing codec jobs dead seen number job → HeldSince (held_told opening commits.before) m
