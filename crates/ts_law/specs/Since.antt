-- What a job knows of the objects while it works: that they are free of it, and what it found in them since its listing of the commits.
use Rattle.std.specs.Prelude.{◌≡◌, ℕ, List, Some, None, length, take, Contains, map as list_map}
use Rattle.ts_base.specs.declared.keys.FragKey.{FragKey}
use Rattle.ts_base.specs.declared.names.Name.{Name}
use Rattle.ts_base.specs.declared.names.Prefix.TheVariants.{Commits}
use Rattle.ts_base.specs.Held.{Held}
use Rattle.ts_commit.specs.declared.vacs.VacOf.{VacOf}
use Rattle.ts_model.specs.declared.commands.Job.{Job}
use Rattle.ts_model.specs.Codecs.{Spelled}
use Rattle.ts_model.specs.Deeds.{History}
use Rattle.ts_model.specs.Stages.{lease_of}
use Rattle.ts_model.specs.Told.{Told, held_told, history_told}
use Rattle.ts_law.specs.Ends.{IsUndone, ListedAt}
use Rattle.ts_law.specs.Fresh.{id_in, IsSpent}
use Rattle.ts_law.specs.Stands.{IsCommitted, IsNoLease, Names, Stands}
use Rattle.std.specs.FinMap as map

-- no object that is held carries the identifier of a job, its own lease aside, no deed has its key, and its identifier is unspent
pub record Clean (opening : Held) (past : History) (jobs : List Job) (seen : List Told) (m : Held) (job : Job) : Type 0 where
  pub free : (n : Name) → id_in n ≡ Some job.id → (lease_of job ≡ Some n → ⊥) → map.get m n ≡ None
  pub undone : IsUndone (history_told jobs past seen) job
  pub unspent : IsSpent opening past seen job.id → ⊥

-- all that was held is held still, but for leases
abbrev pub HeldSince : Held → Held → Type 0
HeldSince before m = (n : Name) (bytes : List ℕ) → IsNoLease n → map.get before n ≡ Some bytes → map.get m n ≡ Some bytes

-- what a job knows since its listing of the commits, where `opening` was held at the beginning: the objects stood for the history then, and are held still
pub record Since (spelled : Spelled) (opening : Held) (past : History) (jobs : List Job) (seen : List Told) (m : Held) (number : ℕ) : Type 0 where
  pub commits : ListedAt seen number Commits
  pub stands : Stands spelled (held_told opening commits.before) (history_told jobs past commits.before)
  pub held : HeldSince (held_told opening commits.before) m

-- a job got the first of the `.vac` objects of these committed fragments
pub record AreVacs (m : Held) (counting : List FragKey) (vacs : List VacOf) : Type 0 where
  pub frags : list_map (λ v. v.frag) vacs ≡ take (length vacs) counting
  pub each : (v : VacOf) → Contains vacs v → IsCommitted m v.frag × Names m v.frag v.names
