-- The names so far are those of parts.
use Rattle.std.proofs.Common.{take}
use Rattle.ts_vacuum.specs.Sweeping.{AreRemovable}
use Rattle.ts_vacuum.proofs.sweeping.are_parts.Given as goal

abbrev pub invariant-loop-name : goal.invariant-loop-name
invariant-loop-name l = AreRemovable (take l.name-index l.names)
