-- The places so far.
use Rattle.std.proofs.Common.{◌≡◌, map, take, get_or}
use Rattle.ts_select.proofs.sorted.gathered.Given as goal

abbrev pub invariant-loop-index : goal.invariant-loop-index
invariant-loop-index l = l.list ≡ map (λ index. get_or l.places index 0) (take l.index-index l.order)
