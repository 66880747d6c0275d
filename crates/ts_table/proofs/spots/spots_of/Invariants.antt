-- The spots so far.
use Rattle.std.proofs.Common.{◌≡◌, map}
use Rattle.std.specs.List.{range_with_len}
use Rattle.ts_table.specs.Spots.{spot_at}
use Rattle.ts_table.proofs.spots.spots_of.Given as goal

abbrev pub invariant-loop-place : goal.invariant-loop-place
invariant-loop-place l = l.spots ≡ map (spot_at l.domain l.order l.table) (range_with_len 0 l.place)
