use Rattle.ts_wire.specs.Place.{each_at}
use Rattle.ts_footer.specs.TreeTexts.{same_at}
use Rattle.ts_footer.proofs.Sames.{Same, pairs}
use Rattle.ts_footer.proofs.trees.read_same.Given as goal

-- the fields so far, and those that are left
abbrev pub invariant-loop-place : goal.invariant-loop-place
invariant-loop-place l = Same l.count l.first l.second l.place l.cursor (each_at same_at (pairs l.count l.first l.second) l.fn.cursor)
