use Rattle.std.proofs.Common.{◌≡◌, take}
use Rattle.ts_piece.specs.Spots.{spotted}
use Rattle.ts_piece.proofs.spots.cells_at.Given as goal

-- the versions so far
abbrev pub invariant-loop-spot : goal.invariant-loop-spot
invariant-loop-spot l = l.list ≡ spotted l.batches (take l.spot-index l.spots)
