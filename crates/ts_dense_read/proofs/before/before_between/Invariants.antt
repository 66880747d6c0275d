-- What was counted so far.
use Rattle.std.proofs.Common.{◌-◌, length}
use Rattle.ts_order.specs.Orders.{turned}
use Rattle.ts_dense_read.proofs.BeforeLaws.{Counting}
use Rattle.ts_dense_read.proofs.before.before_between.Given as goal

abbrev pub invariant-loop-done : goal.invariant-loop-done
invariant-loop-done l = Counting (turned l.order l.low) (turned l.order l.high) (turned l.order l.from) (turned l.order l.to) l.before l.rest (length l.low - l.done)
