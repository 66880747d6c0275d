-- Verdicts computed.
use Rattle.std.specs.Prelude.{◌≡◌, ℕ, List, [], ◌∷◌, refl}
use Rattle.ts_base.specs.declared.names.LeaseMode.{LeaseMode}
use Rattle.ts_base.specs.declared.names.LeaseMode.TheVariants.{Shr, Exc}
use Rattle.ts_base.specs.declared.names.Name.{Name}
use Rattle.ts_base.specs.declared.names.Name.TheVariants as name
use Rattle.ts_lease.specs.declared.verdicts.Verdict.TheVariants as verdict
use Rattle.ts_lease.specs.Leases.{verdict_in}

-- the lease of a job stamped at t, whose identifier is t too
abbrev lease : ℕ → LeaseMode → Name
lease t mode = name.Lease (record { t = t; id = t }) mode

-- shared leases stand beside one another
shared_beside_shared : verdict_in (lease 1 Shr ∷ lease 2 Shr ∷ []) (lease 2 Shr) ≡ verdict.Granted
shared_beside_shared = refl

-- an exclusive one opposes a shared one, also of a later stamp
exclusive_against_shared : verdict_in (lease 1 Shr ∷ lease 3 Exc ∷ []) (lease 1 Shr) ≡ verdict.Held (lease 3 Exc)
exclusive_against_shared = refl

-- every other lease opposes an exclusive one, and the first is named
any_against_exclusive : verdict_in (lease 1 Shr ∷ lease 2 Exc ∷ lease 3 Exc ∷ []) (lease 3 Exc) ≡ verdict.Held (lease 1 Shr)
any_against_exclusive = refl

-- the own lease opposes nothing, and a name that is no lease neither
alone : verdict_in (name.Domain ∷ lease 3 Exc ∷ []) (lease 3 Exc) ≡ verdict.Granted
alone = refl
