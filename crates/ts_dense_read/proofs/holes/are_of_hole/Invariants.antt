-- The attributes that are left say of all.
use Rattle.ts_dense_read.proofs.HoleLaws.{Holing}
use Rattle.ts_dense_read.proofs.holes.are_of_hole.Given as goal

abbrev pub invariant-loop-attr : goal.invariant-loop-attr
invariant-loop-attr l = Holing l.places l.attrs l.vals l.place l.attr
