-- The columns so far, and how many cells the ranks that are left have.
use Rattle.ts_order.specs.Orders.{turned}
use Rattle.ts_gather.proofs.SideLaws.{Ranking}
use Rattle.ts_gather.proofs.sides.ranked_columns.Given as goal

abbrev pub invariant-loop-rank : goal.invariant-loop-rank
invariant-loop-rank l = Ranking (turned l.order l.low) (turned l.order l.high) l.columns.items l.rest l.times l.rank
