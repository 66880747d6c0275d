use Rattle.std.proofs.Common.{◌-◌, length}
use Rattle.ts_order.proofs.PlaceInvariants.{AreWritten}
use Rattle.ts_order.proofs.places.numbers_at.Given as goal

abbrev pub invariant-loop-done : goal.invariant-loop-done
invariant-loop-done l = AreWritten l.order l.low l.high l.position (length l.low - l.done) l.numbers l.rest
