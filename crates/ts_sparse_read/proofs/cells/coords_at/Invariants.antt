-- The coordinates so far.
use Rattle.std.proofs.Common.{◌≡◌, pos, get_or, map, take}
use Rattle.ts_sparse_read.proofs.cells.coords_at.Given as goal

abbrev pub invariant-loop-column : goal.invariant-loop-column
invariant-loop-column l = l.numbers.items ≡ map (λ column. get_or column l.place (pos 0)) (take l.column-index l.coords)
