-- What is left to compare decides.
use Rattle.ts_order.specs.Orders.{order_cmp}
use Rattle.ts_sparse_read.specs.Picks.{coords_there}
use Rattle.ts_sparse_read.proofs.NearLaws.{Compared}
use Rattle.ts_sparse_read.proofs.near.cmp_cells.Given as goal

abbrev pub invariant-loop-rank : goal.invariant-loop-rank
invariant-loop-rank l = Compared l.order l.columns l.first l.second l.rank (order_cmp l.order (coords_there l.coords l.first) (coords_there l.coords l.second))
