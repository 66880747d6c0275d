-- What is taken, and what is left to take.
use Rattle.ts_sparse_read.proofs.UsedLaws.{Taking}
use Rattle.ts_sparse_read.proofs.used.used_among.Given as goal

abbrev pub invariant-loop-place : goal.invariant-loop-place
invariant-loop-place l = Taking l.places l.parts l.forms l.sizes l.used l.place
