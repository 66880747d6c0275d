use Rattle.std.proofs.Common.{◌≡◌, drop}
use Rattle.std.specs.Ordering.{int_cmp}
use Rattle.std.specs.Cmp.Lexicographic.{slice_cmp}
use Rattle.ts_order.specs.Orders.{turned, order_cmp}
use Rattle.ts_order.proofs.compare.cmp_by_rank.Given as goal

abbrev pub invariant-loop-rank : goal.invariant-loop-rank
invariant-loop-rank l = slice_cmp int_cmp (drop l.rank (turned l.order l.a)) (drop l.rank (turned l.order l.b)) ≡ order_cmp l.order l.a l.b
