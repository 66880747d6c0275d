-- Any thread may share it.
use denote.RattleType.{RattleType}
use denote.Param.Send.{IsSync, part_keyless}
use Rattle.ts_turnstile.specs.contracts.told.Told.{the_row}
use Rattle.ts_turnstile.proofs.told.Told.TheSendSync.Send.{send}

pub sync : (Y : RattleType) → IsSync (the_row Y)
sync Y = record { shared = λ d b o κ q. part_keyless (the_row Y) (send Y) q d b o }
