use Rattle.std.proofs.Common.{[], length}
use Rattle.ts_wire.specs.Place.{items_at}
use Rattle.ts_footer.specs.TreeTexts.{leaf_at}
use Rattle.ts_footer.proofs.LeafReads.{Leaves}
use Rattle.ts_footer.proofs.leaves.read_leaves.Given as goal

-- the boxes that were read, and those that are still to be read, are all of them
abbrev pub invariant-loop-place : goal.invariant-loop-place
invariant-loop-place l = Leaves l.hull l.count l.place l.leaves l.cursor (items_at (λ _. leaf_at (length l.hull.low)) l.count [] l.fn.cursor)
