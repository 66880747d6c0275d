-- The origins that were read, and those that are left.
use Rattle.ts_dense_read.proofs.OriginSteps.{Reading}
use Rattle.ts_dense_read.proofs.origins.read_each.Given as goal

abbrev pub invariant-loop-place : goal.invariant-loop-place
invariant-loop-place l = Reading l.entries ((l.opened).want).attrs (l.opened).attrs l.vals l.count l.fn.cursor l.origins l.cursor l.place
