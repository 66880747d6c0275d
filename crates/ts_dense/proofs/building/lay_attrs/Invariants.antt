-- What is laid, and what is left to lay.
use Rattle.ts_dense.proofs.SlotLays.{LayingAttrs}
use Rattle.ts_dense.proofs.building.lay_attrs.Given as goal

abbrev pub invariant-loop-place : goal.invariant-loop-place
invariant-loop-place l = LayingAttrs l.slots l.fn.laid l.attrs l.laid l.place
