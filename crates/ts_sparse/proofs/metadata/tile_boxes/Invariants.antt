-- The leaves so far, the one that is being made and those of the other cells make all.
use Rattle.ts_piece.specs.Spots.{spotted}
use Rattle.ts_rtree.proofs.HullLaws.{Making}
use Rattle.ts_sparse.specs.Laying.{boxes_of}
use Rattle.ts_sparse.proofs.metadata.tile_boxes.Given as goal

abbrev pub invariant-loop-place : goal.invariant-loop-place
invariant-loop-place l = Making l.tile (boxes_of (spotted l.batches l.spots)) l.leaves l.left l.hull l.place
