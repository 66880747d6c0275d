use Rattle.std.proofs.Common.{◌≡◌, take, All}
use Rattle.ts_batch.specs.Batches.{versions_of}
use Rattle.ts_piece.specs.Spots.{spotted, IsSpot}
use Rattle.ts_piece.proofs.spots.all_spots.Given as goal

-- the spots of the batches so far
abbrev pub invariant-loop-batch : goal.invariant-loop-batch
invariant-loop-batch l = All (IsSpot l.batches) l.spots.items × (spotted l.batches l.spots.items ≡ versions_of (take l.batch l.batches))
