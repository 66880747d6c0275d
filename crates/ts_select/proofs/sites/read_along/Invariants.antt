-- The coordinates so far.
use Rattle.std.proofs.Common.{◌≡◌, take}
use Rattle.ts_select.specs.Sites.{numbers_at}
use Rattle.ts_select.proofs.sites.read_along.Given as goal

abbrev pub invariant-loop-place : goal.invariant-loop-place
invariant-loop-place l = l.column ≡ numbers_at l.cells (take l.place-index l.places) l.dim
