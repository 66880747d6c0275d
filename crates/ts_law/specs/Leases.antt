-- Leases on which jobs rely: which those are, what is true of them, and which calls spare them.
use Rattle.std.specs.Prelude.{◌≡◌, ◌≢◌, ℕ, Bool, true, false, not, List, Some, None, slice_get, Contains, IsTrue}
use Rattle.ts_base.specs.declared.keys.Key.{Key}
use Rattle.ts_base.specs.declared.names.Name.{Name}
use Rattle.ts_base.specs.declared.names.LeaseMode.{LeaseMode}
use Rattle.ts_base.specs.Held.{Held}
use Rattle.ts_lease.specs.Leases.{opposes}
use Rattle.ts_store.specs.declared.call.Call.{Call}
use Rattle.ts_model.specs.declared.commands.Job.{Job}
use Rattle.ts_model.specs.declared.states.Stage.{Stage}
use Rattle.ts_model.specs.declared.states.Stage.TheVariants.{ListsLeases, Works}
use Rattle.ts_model.specs.States.{is_over}
use Rattle.ts_model.specs.Stages.{lease_of, stage_of}
use Rattle.ts_model.specs.Told.{Told, trace_of}
use Rattle.ts_model.specs.Codecs.{Codec}
use Rattle.ts_base.specs.declared.names.Name.TheVariants as name
use Rattle.ts_store.specs.declared.call.Call.TheVariants as call
use Rattle.std.specs.FinMap as map

-- ---- jobs and their leases

-- a job with a lease relies on it in this stage: once its put was made, until the job comes to remove it
abbrev pub is_relying : {F : Type 0} → Stage F → Bool
is_relying (ListsLeases lease) = true
is_relying (Works s) = not (is_over s)
is_relying stage = false

-- it was granted the lease: it works
abbrev pub is_granted : {F : Type 0} → Stage F → Bool
is_granted (Works s) = not (is_over s)
is_granted stage = false

-- a job of these, which was not dropped, has this lease, and has come to a stage that passes the test
pub record HasLease {F : Type 0} (codec : Codec F) (test : Stage F → Bool) (jobs : List Job) (dead : List ℕ) (seen : List Told) (number : ℕ) (job : Job) (lease : Name) : Type 0 where
  pub is_job : slice_get jobs number ≡ Some job
  pub alive : Contains dead number → ⊥
  pub has : lease_of job ≡ Some lease
  pub stage : test (stage_of codec job (trace_of number seen)) ≡ true

-- the job relies on this lease
abbrev pub Relies : {F : Type 0} → Codec F → List Job → List ℕ → List Told → ℕ → Job → Name → Type 0
Relies codec jobs dead seen number job lease = HasLease codec is_relying jobs dead seen number job lease

-- the job was granted this lease
abbrev pub IsGranted : {F : Type 0} → Codec F → List Job → List ℕ → List Told → ℕ → Job → Name → Type 0
IsGranted codec jobs dead seen number job lease = HasLease codec is_granted jobs dead seen number job lease

-- ---- what is kept

-- each lease on which a job relies is held, and no two that jobs were granted oppose one another
pub record AreLeased {F : Type 0} (codec : Codec F) (jobs : List Job) (dead : List ℕ) (seen : List Told) (m : Held) : Type 0 where
  pub held : (number : ℕ) (job : Job) (lease : Name) → Relies codec jobs dead seen number job lease → IsTrue (map.contains_key m lease)
  pub apart : (i j : ℕ) (a b : Job) (first second : Name) → i ≢ j → IsGranted codec jobs dead seen i a first → IsGranted codec jobs dead seen j b second → opposes first second ≡ false

-- ---- which calls spare them

-- no job relies on the lease
abbrev pub IsNobodys : {F : Type 0} → Codec F → List Job → List ℕ → List Told → Name → Type 0
IsNobodys codec jobs dead seen lease = (number : ℕ) (job : Job) → Relies codec jobs dead seen number job lease → ⊥

-- a call of a job removes no lease on which a job relies, its own aside
abbrev pub Spares : {F : Type 0} → Codec F → List Job → List ℕ → List Told → Job → Call → Type 0
Spares codec jobs dead seen job c = (lease : Name) → c ≡ call.Remove lease → (lease_of job ≡ Some lease → ⊥) → IsNobodys codec jobs dead seen lease

-- a lease is broken: nobody removes one on which no job relies
pub record IsBroken {F : Type 0} (codec : Codec F) (jobs : List Job) (dead : List ℕ) (seen : List Told) (e : Told) : Type 0 where
  pub nobodys : e.job ≡ None
  pub key : Key
  pub mode : LeaseMode
  pub removes : e.call ≡ call.Remove (name.Lease key mode)
  pub free : IsNobodys codec jobs dead seen (name.Lease key mode)
