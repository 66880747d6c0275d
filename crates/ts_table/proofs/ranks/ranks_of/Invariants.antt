-- The ranks so far.
use Rattle.std.proofs.Common.{◌≡◌, map}
use Rattle.std.specs.List.{range_with_len}
use Rattle.ts_table.specs.Ranks.{rank_at}
use Rattle.ts_table.proofs.ranks.ranks_of.Given as goal

abbrev pub invariant-loop-place : goal.invariant-loop-place
invariant-loop-place l = l.ranks ≡ map (rank_at l.domain l.fn.order l.table) (range_with_len 0 l.place)
