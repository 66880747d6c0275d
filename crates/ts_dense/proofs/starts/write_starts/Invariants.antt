-- What is written, and what is left to write.
use Rattle.ts_dense.proofs.TileStarts.{Writing}
use Rattle.ts_dense.proofs.starts.write_starts.Given as goal

abbrev pub invariant-loop-count : goal.invariant-loop-count
invariant-loop-count l = Writing l.fn.scribe l.counts l.texts l.scribe l.first l.count-index
