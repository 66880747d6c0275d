-- The side so many times so far.
use Rattle.std.proofs.Common.{◌≡◌, get_or, pos}
use Rattle.ts_domain.specs.Bounds.{count_between, numbers_from}
use Rattle.ts_gather.specs.Sides.{stretched, repeated}
use Rattle.ts_gather.proofs.sides.column_along.Given as goal

abbrev pub invariant-loop-time : goal.invariant-loop-time
invariant-loop-time l =
    l.column ≡ repeated l.time (stretched l.each (numbers_from (get_or l.low l.dim (pos 0)) (count_between (get_or l.low l.dim (pos 0)) (get_or l.high l.dim (pos 0)))))
