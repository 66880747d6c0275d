use Rattle.ts_rtree.proofs.HullLaws.{Making}
use Rattle.ts_rtree.proofs.hulls.hulls_of.Given as goal

-- the hulls so far, the one that is being made and those of the other boxes make all
abbrev pub invariant-loop-place : goal.invariant-loop-place
invariant-loop-place l = Making l.fn.fan l.boxes l.hulls l.left l.hull l.place
