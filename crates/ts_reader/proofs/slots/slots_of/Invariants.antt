use Rattle.std.proofs.Common.{◌≡◌, take}
use Rattle.std.specs.FinMap as map
use Rattle.ts_model.specs.Pieces.{newest_after}
use Rattle.ts_reader.specs.Newest.{slots_in}
use Rattle.ts_reader.proofs.slots.slots_of.Given as goal

-- the newest of the versions so far
abbrev pub invariant-loop-version : goal.invariant-loop-version
invariant-loop-version l = l.slots ≡ slots_in l.sub (newest_after map.empty (take l.version-index l.got))
