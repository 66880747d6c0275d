use Rattle.std.proofs.Common.{◌≡◌, take}
use Rattle.std.specs.Option.{option_copied}
use Rattle.ts_model.specs.Deeds.{last_write}
use Rattle.ts_model.proofs.finding.latest.Given as goal

-- the last write of the deeds so far
abbrev pub invariant-loop-deed : goal.invariant-loop-deed
invariant-loop-deed l = option_copied l.last ≡ last_write (take l.deed-index l.deeds) l.from l.to l.at
