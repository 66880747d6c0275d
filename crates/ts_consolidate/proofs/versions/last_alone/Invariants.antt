-- What was kept, and what is left to be kept, make the whole.
use Rattle.std.proofs.Common.{◌≡◌, ◌++◌, drop, All}
use Rattle.ts_piece.specs.Spots.{IsSpot, spotted}
use Rattle.ts_consolidate.specs.Placing.{last_alone}
use Rattle.ts_consolidate.proofs.versions.last_alone.Given as goal

abbrev pub invariant-loop-place : goal.invariant-loop-place
invariant-loop-place l = record {
  there : All (IsSpot l.batches) l.list.items;
  last : spotted l.batches l.list.items ++ last_alone (drop l.place (spotted l.batches l.spots)) ≡ last_alone (spotted l.batches l.spots);
}
