-- What is named, and what is left to name.
use Rattle.ts_sparse_read.proofs.UsedLaws.{NamingAttrs}
use Rattle.ts_sparse_read.proofs.used.push_attrs.Given as goal

abbrev pub invariant-loop-place : goal.invariant-loop-place
invariant-loop-place l = NamingAttrs l.fn.parts l.attrs l.parts l.place
