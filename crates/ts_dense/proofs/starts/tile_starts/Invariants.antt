-- What is found, and what is left to find.
use Rattle.ts_dense.proofs.TileStarts.{Finding}
use Rattle.ts_dense.proofs.starts.tile_starts.Given as goal

abbrev pub invariant-loop-count : goal.invariant-loop-count
invariant-loop-count l = Finding l.counts l.texts l.starts l.first l.at l.count-index
