-- The spots of the ranks so far.
use Rattle.std.proofs.Common.{◌≡◌, map, take}
use Rattle.ts_consolidate.specs.Placing.{spot_of}
use Rattle.ts_consolidate.proofs.ranks.spots_of.Given as goal

abbrev pub invariant-loop-ranked : goal.invariant-loop-ranked
invariant-loop-ranked l = l.spots.items ≡ map spot_of (take l.ranked-index l.ranks)
