-- The coordinates of the sides so far.
use Rattle.std.proofs.Common.{◌≡◌, length, map, take}
use Rattle.ts_plain.proofs.pieces.highs.Given as goal

abbrev pub invariant-loop-side : goal.invariant-loop-side
invariant-loop-side l = (length l.numbers.items ≡ l.side-index) × (l.numbers.items ≡ map (λ side. side.high) (take l.side-index l.hull))
