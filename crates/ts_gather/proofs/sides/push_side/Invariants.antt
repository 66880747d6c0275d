-- The numbers so far, each so many times.
use Rattle.std.proofs.Common.{◌≡◌, ◌++◌, get_or, pos}
use Rattle.ts_domain.specs.Bounds.{numbers_from}
use Rattle.ts_gather.specs.Sides.{stretched}
use Rattle.ts_gather.proofs.sides.push_side.Given as goal

abbrev pub invariant-loop-steps : goal.invariant-loop-steps
invariant-loop-steps l = l.column ≡ l.initial.column ++ stretched l.each (numbers_from (get_or l.low l.dim (pos 0)) l.steps)
