-- Vacuums: the states in which one can be, and the calls that it makes.
use Rattle.std.specs.Prelude.{◌≡◌, ℕ, ◌+◌, ◌-◌, ◌^◌, false, length, List, Option, None, Some, All, option_map, ⊤}
use Rattle.std.proofs.Common.{refl}
use Rattle.std.specs.Option.{option_map_or}
use Rattle.ts_base.specs.declared.heads.Stop.TheVariants.{Never}
use Rattle.ts_base.specs.declared.names.CommitKind.TheVariants.{Wrt}
use Rattle.ts_base.specs.declared.names.LeaseMode.{LeaseMode}
use Rattle.ts_base.specs.declared.names.Name.{Name}
use Rattle.ts_base.specs.declared.names.Name.TheVariants as name
use Rattle.ts_base.specs.Names.{IsSpelled}
use Rattle.ts_commit.specs.declared.vacs.VacOf.{VacOf}
use Rattle.ts_store.specs.Calls.{IsSpelledCall}
use Rattle.ts_store.specs.declared.call.Call.{Call}
use Rattle.ts_store.specs.declared.call.Call.TheVariants as call
use Rattle.ts_model.specs.declared.commands.Command.{Command}
use Rattle.ts_model.specs.declared.commands.Command.TheVariants.{Vacuum}
use Rattle.ts_model.specs.declared.commands.Job.{Job}
use Rattle.ts_model.specs.declared.states.State.{State}
use Rattle.ts_model.specs.declared.states.State.TheVariants.{Over, Removes, Sweeps}
use Rattle.ts_model.specs.declared.states.Sweep.{Sweep}
use Rattle.ts_model.specs.declared.states.Sweeping.{Sweeping}
use Rattle.ts_model.specs.declared.states.Sweeping.TheVariants.{ListsCommits, ListsSchemas, GetsVacs, ListsParts}
use Rattle.ts_model.specs.Jobs.{key_of}
use Rattle.ts_model.specs.Stages.{is_removal, mode_of}
use Rattle.ts_actor.specs.Listings.{IsSpelledAs, IsSpelledVac}
use Rattle.ts_actor.specs.Machines.{SparesLease}

-- the command is a vacuum
abbrev pub IsVacuum : Command → Type 0
IsVacuum Vacuum = ⊤
IsVacuum _ = ⊥

-- the job has such a command
abbrev pub IsVacuumJob : Job → Type 0
IsVacuumJob job = IsVacuum job.command

-- the job of a vacuum with a stamp and an identifier; it is stopped nowhere
abbrev pub vacuum_job : ℕ → ℕ → Job
vacuum_job at id = record { command = Vacuum; at = at; id = id; stop = Never }

-- ---- what it removes

-- a vacuum may remove the object: its name has a spelling, and it is no lease
abbrev pub IsRemovable : Name → Type 0
IsRemovable (name.Lease k mode) = ⊥
IsRemovable n = IsSpelled n

-- it may remove each of these
abbrev pub AreRemovable : List Name → Type 0
AreRemovable names = All IsRemovable names

-- the call has a spelling, and it removes no lease
abbrev pub IsSweepCall : Call → Type 0
IsSweepCall (call.Remove n) = IsRemovable n
IsSweepCall c = IsSpelledCall c

-- so it does not remove the lease of the job
pub vacuum_spares : SparesLease IsVacuumJob (λ job c. IsSweepCall c)
vacuum_spares job c serves calls = (spelled c calls, by_mode (mode_of job.command))
  where
    spelled : (d : Call) → IsSweepCall d → IsSpelledCall d
    spelled (call.Remove (name.Lease k mode)) is = absurd is
    spelled (call.Remove n) is = is
    spelled (call.Put n bytes) is = is
    spelled (call.List p) is = is
    spelled (call.Get n from len) is = is
    spelled (call.Size n) is = is

    by_call : (d : Call) (mode : LeaseMode) → IsSweepCall d → is_removal d (name.Lease (key_of job) mode) ≡ false
    by_call (call.Remove name.Domain) mode is = refl
    by_call (call.Remove (name.Schema k)) mode is = refl
    by_call (call.Remove (name.Commit f kind)) mode is = refl
    by_call (call.Remove (name.Part f part)) mode is = refl
    by_call (call.Remove (name.Lease k other)) mode is = absurd is
    by_call (call.Put n bytes) mode is = refl
    by_call (call.List p) mode is = refl
    by_call (call.Get n from len) mode is = refl
    by_call (call.Size n) mode is = refl

    by_mode : (o : Option LeaseMode) → option_map_or (is_removal c) (option_map (name.Lease (key_of job)) o) false ≡ false
    by_mode None = refl
    by_mode (Some mode) = by_call c mode calls

-- ---- its states

-- what a vacuum found has spellings
pub record IsSweep (s : Sweep) : Type 0 where
  pub committed : All (IsSpelledAs Wrt) s.committed
  pub with_vac : All IsSpelledVac s.with_vac
  pub counting : All IsSpelledVac s.counting
  pub vacs : All (λ (v : VacOf). IsSpelledVac v.frag) s.vacs

-- it may remove each object of these listings
abbrev pub AreListed : List (List Name) → Type 0
AreListed listed = All AreRemovable listed

-- a vacuum can seek so what it is to remove
abbrev pub IsSweeping : Sweeping → Type 0
IsSweeping ListsCommits = ⊤
IsSweeping (ListsSchemas s) = IsSweep s
IsSweeping (GetsVacs s) = IsSweep s
IsSweeping (ListsParts s set listed) = IsSweep s × AreListed listed

-- a vacuum can be in the state: it seeks what it is to remove, it removes what it may, or it is over
abbrev pub IsSweepState : {F : Type 0} → State F → Type 0
IsSweepState (Sweeps s) = IsSweeping s
IsSweepState (Removes names next end) = AreRemovable names
IsSweepState (Over end) = ⊤
IsSweepState _ = ⊥

-- the most calls of a vacuum that has not come to its removals
abbrev pub sweep_left : Sweeping → ℕ
sweep_left ListsCommits = 2 ^ 66 + 2
sweep_left (ListsSchemas s) = 2 ^ 66 + 1
sweep_left (GetsVacs s) = 2 ^ 65 + (length s.counting - length s.vacs)
sweep_left (ListsParts s set listed) = 2 ^ 64 + (length set - length listed)

-- the most calls that a vacuum makes from a state on
abbrev pub sweeps_left : {F : Type 0} → State F → ℕ
sweeps_left (Sweeps s) = sweep_left s
sweeps_left (Removes names next end) = length names - next
sweeps_left _ = 0
