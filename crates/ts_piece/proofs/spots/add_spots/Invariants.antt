use Rattle.std.proofs.Common.{◌≡◌, ◌++◌, [], take, All}
use Rattle.std.specs.List.{slice_index_or}
use Rattle.ts_piece.specs.Spots.{spotted, IsSpot}
use Rattle.ts_piece.proofs.spots.add_spots.Given as goal

abbrev pub invariant-loop-place : goal.invariant-loop-place
invariant-loop-place l = All (IsSpot l.batches) l.spots.items × (spotted l.batches l.spots.items ≡ spotted l.batches l.initial.spots.items ++ take l.place (slice_index_or l.batches l.batch []))
