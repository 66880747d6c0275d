-- What is laid, and what is left to lay.
use Rattle.ts_sparse.proofs.LayLaws.{LayingAttrs}
use Rattle.ts_sparse.proofs.building.lay_attrs.Given as goal

abbrev pub invariant-loop-place : goal.invariant-loop-place
invariant-loop-place l = LayingAttrs l.tile l.fn.laid l.attrs l.piece l.laid l.place
