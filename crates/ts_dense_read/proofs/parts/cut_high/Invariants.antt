use Rattle.std.proofs.Common.{◌≡◌, length, take}
use Rattle.ts_order.specs.Tiles.{cut_high}
use Rattle.ts_dense_read.proofs.parts.cut_high.Given as goal

abbrev pub invariant-loop-dim : goal.invariant-loop-dim
invariant-loop-dim l = (length l.numbers ≡ 8) × (take l.dim l.numbers ≡ take l.dim (cut_high l.dims l.tile l.sub.high))
