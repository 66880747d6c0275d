-- What is written of the tile, and what is left to write.
use Rattle.ts_dense.proofs.TileStarts.{InTile}
use Rattle.ts_dense.proofs.starts.write_tile.Given as goal

abbrev pub invariant-loop-place : goal.invariant-loop-place
invariant-loop-place l = InTile l.fn.scribe l.texts l.first l.end l.scribe l.at l.place
