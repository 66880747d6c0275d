-- The ranks of the versions so far.
use Rattle.std.proofs.Common.{◌≡◌, map, take}
use Rattle.ts_consolidate.specs.Placing.{spot_of}
use Rattle.ts_consolidate.proofs.ranks.ranks_of.Given as goal

abbrev pub invariant-loop-spot : goal.invariant-loop-spot
invariant-loop-spot l = map spot_of l.ranks.items ≡ take l.spot-index l.spots
