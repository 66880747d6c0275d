-- How many bytes are counted, and how many are left.
use Rattle.ts_dense.proofs.TileStarts.{Counting}
use Rattle.ts_dense.proofs.starts.tile_size.Given as goal

abbrev pub invariant-loop-place : goal.invariant-loop-place
invariant-loop-place l = Counting l.texts l.first l.end l.size l.place
