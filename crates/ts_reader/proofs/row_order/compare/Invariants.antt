-- The numbers along the dimensions so far tie.
use Rattle.std.proofs.Common.{◌≡◌, drop, int_cmp}
use Rattle.std.specs.Cmp.Lexicographic.{slice_cmp}
use Rattle.ts_reader.proofs.row_order.compare.Given as goal

abbrev pub invariant-loop-dim : goal.invariant-loop-dim
invariant-loop-dim l = slice_cmp int_cmp (drop l.dim l.version.coords) (drop l.dim l.other.coords) ≡ slice_cmp int_cmp l.version.coords l.other.coords
