-- Jobs that begin with a listing of their own, and the states that they can be in.
use Rattle.std.specs.Prelude.{◌≡◌, ℕ, ◌-◌, ◌^◌, false, length, None, All, ⊤}
use Rattle.std.proofs.Common.{ap, refl}
use Rattle.std.specs.Option.{option_map_or}
use Rattle.ts_base.specs.Names.{IsSpelled}
use Rattle.ts_base.specs.declared.heads.Stop.TheVariants.{Never}
use Rattle.ts_store.specs.Calls.{IsSpelledCall}
use Rattle.ts_model.specs.declared.commands.Command.{Command}
use Rattle.ts_model.specs.declared.commands.Command.TheVariants.{Create, Evolve, Write, Read, Delete, Consolidate, Vacuum, Unlock, Fragments}
use Rattle.ts_model.specs.declared.commands.Job.{Job}
use Rattle.ts_model.specs.declared.states.State.{State}
use Rattle.ts_model.specs.declared.states.State.TheVariants.{Lists, Over, Removes}
use Rattle.ts_model.specs.Stages.{is_removal, lease_of}
use Rattle.ts_actor.specs.Machines.{SparesLease}

-- the command is an unlock
abbrev pub IsUnlock : Command → Type 0
IsUnlock (Unlock seed lane) = ⊤
IsUnlock _ = ⊥

-- the command is `fragments`
abbrev pub IsFragments : Command → Type 0
IsFragments Fragments = ⊤
IsFragments _ = ⊥

-- the command begins with a listing of its own
abbrev pub IsListCommand : Command → Type 0
IsListCommand (Unlock seed lane) = ⊤
IsListCommand Fragments = ⊤
IsListCommand _ = ⊥

-- the job has such a command
abbrev pub IsListJob : Job → Type 0
IsListJob job = IsListCommand job.command

-- such a job can be in the state: it lists, it removes objects whose names have spellings, or it is over
abbrev pub IsListState : {F : Type 0} → State F → Type 0
IsListState Lists = ⊤
IsListState (Removes names next end) = All IsSpelled names
IsListState (Over end) = ⊤
IsListState _ = ⊥

-- the most calls that it makes from a state on
abbrev pub lists_left : {F : Type 0} → State F → ℕ
lists_left Lists = 2 ^ 64
lists_left (Removes names next end) = length names - next
lists_left _ = 0

-- the job of such a command that carries nothing; it is stopped nowhere
abbrev pub list_job : Command → Job
list_job command = record { command = command; at = 0; id = 0; stop = Never }

-- such a job has no lease, so no call of its work removes it
pub no_lease : SparesLease IsListJob (λ job c. IsSpelledCall c)
no_lease job c serves spelled = (spelled, ap (λ o. option_map_or (is_removal c) o false) (by_command job.command serves))
  where
    by_command : (command : Command) → IsListCommand command → lease_of (record job { command = command }) ≡ None
    by_command (Unlock seed lane) is = refl
    by_command Fragments is = refl
    by_command (Create f) is = absurd is
    by_command (Evolve change) is = absurd is
    by_command (Write w) is = absurd is
    by_command (Read from to query) is = absurd is
    by_command (Delete text) is = absurd is
    by_command (Consolidate from to limits) is = absurd is
    by_command Vacuum is = absurd is
