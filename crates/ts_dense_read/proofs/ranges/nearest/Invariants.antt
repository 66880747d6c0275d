-- The numbers so far.
use Rattle.std.proofs.Common.{◌≡◌, length, take}
use Rattle.ts_dense_read.specs.TileRanges.{nearest}
use Rattle.ts_dense_read.proofs.ranges.nearest.Given as goal

abbrev pub invariant-loop-dim : goal.invariant-loop-dim
invariant-loop-dim l = (length l.numbers ≡ 8) × (take l.dim l.numbers ≡ take l.dim (nearest l.hull.low l.hull.high l.at))
