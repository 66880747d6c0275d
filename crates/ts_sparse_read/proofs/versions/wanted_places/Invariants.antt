-- So far what is wanted is at these places.
use Rattle.ts_sparse_read.proofs.PickLaws.{AreTaken}
use Rattle.ts_sparse_read.proofs.versions.wanted_places.Given as goal

abbrev pub invariant-loop-place : goal.invariant-loop-place
invariant-loop-place l = AreTaken l.opened l.columns l.place l.places.items
