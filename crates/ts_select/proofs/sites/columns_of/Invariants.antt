-- The columns of the dimensions so far.
use Rattle.std.proofs.Common.{◌≡◌, map}
use Rattle.std.specs.List.{range_with_len}
use Rattle.ts_select.specs.Sites.{numbers_at}
use Rattle.ts_select.proofs.sites.columns_of.Given as goal

abbrev pub invariant-loop-dim : goal.invariant-loop-dim
invariant-loop-dim l = l.columns.items ≡ map (numbers_at l.cells l.places) (range_with_len 0 l.dim)
