use Rattle.std.proofs.Common.{◌≡◌, length, []}
use Rattle.ts_wire.specs.Place.{items_at}
use Rattle.ts_footer.specs.TreeTexts.{bounds_at}
use Rattle.ts_footer.proofs.LeafReads.{Corners}
use Rattle.ts_footer.proofs.leaves.read_corners.Given as goal

abbrev pub invariant-loop-dim : goal.invariant-loop-dim
invariant-loop-dim l = Corners l.dims l.dim l.low.items l.high.items l.cursor (items_at (λ _. bounds_at) l.dims [] l.fn.cursor) × (length l.high.items ≡ l.dim)
