-- What a vacuum finds before its first removal, and what is kept while it removes.
use Rattle.std.specs.Prelude.{◌≡◌, ℕ, ◌<◌, ◌≤◌, List, ◌++◌, Some, length, slice_get, All, Contains}
use Rattle.ts_base.specs.declared.keys.FragKey.{FragKey}
use Rattle.ts_base.specs.declared.names.Name.{Name}
use Rattle.ts_base.specs.declared.names.Part.{Part}
use Rattle.ts_base.specs.declared.names.Prefix.TheVariants.{Commits}
use Rattle.ts_base.specs.Held.{Held}
use Rattle.ts_base.specs.Names.{wrt_of}
use Rattle.ts_store.specs.Calls.{names_under}
use Rattle.ts_commit.specs.declared.vacs.VacOf.{VacOf}
use Rattle.ts_commit.specs.Selections.{removal_set}
use Rattle.ts_model.specs.declared.answers.Outcome.{Outcome}
use Rattle.ts_model.specs.declared.commands.Job.{Job}
use Rattle.ts_model.specs.declared.commands.Line.{Line}
use Rattle.ts_model.specs.declared.commands.Command.TheVariants.{Vacuum}
use Rattle.ts_model.specs.declared.states.Sweep.{Sweep}
use Rattle.ts_model.specs.Codecs.{Spelled}
use Rattle.ts_model.specs.Deeds.{History}
use Rattle.ts_model.specs.States.{committed_in, counting_in, names_removed, vac_of, with_vac_in}
use Rattle.ts_model.specs.Told.{Told, held_told, history_told}
use Rattle.ts_law.specs.Ends.{FindsSchema, IsGone, ListedAt}
use Rattle.ts_law.specs.Fresh.{AreSpent, IsSpent}
use Rattle.ts_law.specs.Removals.{AreCoveredOutside}
use Rattle.ts_law.specs.Since.{AreVacs, Clean, Since}
use Rattle.ts_law.specs.Stands.{EachInItsOwn, IsCommitted}
use Rattle.ts_law.specs.Swept.{ListsPartsOf}
use Rattle.ts_base.specs.declared.names.Name.TheVariants as name
use Rattle.ts_model.specs.declared.answers.Outcome.TheVariants as outcome

-- ---- what a vacuum finds

-- what a vacuum finds in a map as it lists the commits, and in the first of the `.vac` objects that count there
pub record IsFoundIn (m : Held) (s : Sweep) : Type 0 where
  pub committed_are : s.committed ≡ committed_in (names_under Commits m)
  pub with_vac_are : s.with_vac ≡ with_vac_in (names_under Commits m)
  pub counting_are : s.counting ≡ counting_in (names_under Commits m)
  pub are_vacs : AreVacs m s.counting s.vacs

-- a vacuum that listed the commits
pub record SweepsFrom (spelled : Spelled) (opening : Held) (past : History) (jobs : List Job) (seen : List Told) (m : Held) (number : ℕ) (job : Job) (s : Sweep) : Type 0 where
  pub vacuums : job.command ≡ Vacuum
  pub since : Since spelled opening past jobs seen m number
  pub is_found : IsFoundIn (held_told opening since.commits.before) s
  -- what was committed then, and what its `.vac` objects named, had identifiers that were spent
  pub spent : AreSpent opening past since.commits.before (held_told opening since.commits.before)
  -- no fragment was committed since whose identifier was spent then
  pub old : (f : FragKey) → IsSpent opening past since.commits.before f.id → IsCommitted m f → IsCommitted (held_told opening since.commits.before) f

-- a vacuum that found a schema at its stamp, and has the first of the `.vac` objects
pub record GetsNames (spelled : Spelled) (opening : Held) (past : History) (jobs : List Job) (seen : List Told) (m : Held) (number : ℕ) (job : Job) (s : Sweep) : Type 0 where
  pub from : SweepsFrom spelled opening past jobs seen m number job s
  pub found : FindsSchema jobs past seen number job

-- after a listing of its own a job listed the objects of the first of these fragments
abbrev pub AreParts : Held → List Told → ℕ → List Told → Told → List FragKey → List (List Name) → Type 0
AreParts opening seen number before listing set listed =
    (i : ℕ) (f : FragKey) (names : List Name) → slice_get set i ≡ Some f → slice_get listed i ≡ Some names → ListsPartsOf opening seen number before listing f names

-- a vacuum that has all `.vac` objects, and lists the objects of the fragments that it is to remove
pub record ListsAll (spelled : Spelled) (opening : Held) (past : History) (jobs : List Job) (seen : List Told) (m : Held) (number : ℕ) (job : Job) (s : Sweep) (set : List FragKey) (listed : List (List Name)) : Type 0 where
  pub gets : GetsNames spelled opening past jobs seen m number job s
  pub all_vacs : length s.vacs ≡ length s.counting
  pub set_is : set ≡ removal_set s.vacs
  pub so_many : length listed ≤ length set
  pub parts : AreParts opening seen number gets.from.since.commits.before gets.from.since.commits.listing set listed

-- ---- what it removes

-- what a vacuum removes that got these `.vac` objects, for a set of fragments: the `.wrt`, a part or the `.vac` of one of the set, or one that it got
pub data IsSwept (set : List FragKey) (vacs : List VacOf) (n : Name) : Type 0 where
  OfCommit : (f : FragKey) → Contains set f → n ≡ wrt_of f → IsSwept set vacs n
  OfPart : (f : FragKey) (part : Part) → Contains set f → n ≡ name.Part f part → IsSwept set vacs n
  OfVac : (f : FragKey) → Contains set f → n ≡ vac_of f → IsSwept set vacs n
  OfOther : (v : VacOf) → Contains vacs v → n ≡ vac_of v.frag → IsSwept set vacs n

-- a part of a fragment that is still committed stands behind its `.wrt`, which is left to remove
abbrev pub AreLed : Held → List Name → ℕ → Type 0
AreLed m names next = (i : ℕ) (f : FragKey) (part : Part) → next ≤ i → slice_get names i ≡ Some (name.Part f part) → IsCommitted m f → (j : ℕ) × (next ≤ j) × (j < i) × (slice_get names j ≡ Some (wrt_of f))

-- of each fragment of the set that is still committed the `.wrt` is left to remove
abbrev pub AreLeft : Held → List FragKey → List Name → ℕ → Type 0
AreLeft m set names next = (f : FragKey) → Contains set f → IsCommitted m f → (j : ℕ) × (next ≤ j) × (slice_get names j ≡ Some (wrt_of f))

-- the names that a vacuum removes, of which those from a place on are left
pub record Sweeping (m : Held) (set : List FragKey) (vacs : List VacOf) (names : List Name) (next : ℕ) : Type 0 where
  pub each : (i : ℕ) (n : Name) → slice_get names i ≡ Some n → IsSwept set vacs n
  pub led : AreLed m names next
  pub left : AreLeft m set names next

-- a vacuum that removes these objects, one after the other: those before a place are gone
pub record Vacuuming (spelled : Spelled) (opening : Held) (past : History) (jobs : List Job) (seen : List Told) (m : Held) (number : ℕ) (job : Job) (names : List Name) (next : ℕ) (end : Outcome) : Type 0 where
  pub clean : Clean opening past jobs seen m job
  pub vacuums : job.command ≡ Vacuum
  pub commits : ListedAt seen number Commits
  pub sweep : Sweep
  pub is_found : IsFoundIn (held_told opening commits.before) sweep
  pub all_vacs : length sweep.vacs ≡ length sweep.counting
  pub found : FindsSchema jobs past seen number job
  pub listed : List (List Name)
  pub all_listed : length listed ≡ length (removal_set sweep.vacs)
  pub parts : AreParts opening seen number commits.before commits.listing (removal_set sweep.vacs) listed
  pub names_are : names ≡ names_removed sweep (removal_set sweep.vacs) listed
  pub ends : end ≡ outcome.Vacuumed (length (removal_set sweep.vacs))
  -- what was committed at the listing of the commits, and what its `.vac` objects named, had identifiers that were spent
  pub spent : AreSpent opening past commits.before (held_told opening commits.before)
  -- the fragments to remove are covered by others
  pub covered : AreCoveredOutside spelled (history_told jobs past seen) m (removal_set sweep.vacs)
  pub sweeping : Sweeping m (removal_set sweep.vacs) sweep.vacs names next
  pub gone : (i : ℕ) (n : Name) → i < next → slice_get names i ≡ Some n → IsGone opening seen number n

-- ---- whose calls remove nothing but leases

-- no vacuum made the call
abbrev pub IsNoSweep : List Job → Told → Type 0
IsNoSweep jobs e = (number : ℕ) (job : Job) → e.job ≡ Some number → slice_get jobs number ≡ Some job → job.command ≡ Vacuum → ⊥

-- the line asks for no vacuum
abbrev pub IsNoVacuum : Line → Type 0
IsNoVacuum line = line.command ≡ Vacuum → ⊥

-- as long as no vacuum makes a call each write stays in its own fragment
abbrev pub StayInTheirOwn : Spelled → List Job → History → Held → List Told → Type 0
StayInTheirOwn spelled jobs past opening told =
    EachInItsOwn spelled opening past → (front back : List Told) → told ≡ front ++ back → All (IsNoSweep jobs) front → EachInItsOwn spelled (held_told opening front) (history_told jobs past front)
