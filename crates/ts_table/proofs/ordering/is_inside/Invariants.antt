-- Each cell so far lies in the domain.
use Rattle.std.proofs.Common.{take}
use Rattle.std.specs.Prelude.{All}
use Rattle.ts_table.specs.Orders.{LiesInside}
use Rattle.ts_table.proofs.ordering.is_inside.Given as goal

abbrev pub invariant-loop-place : goal.invariant-loop-place
invariant-loop-place l = All (LiesInside l.domain) (take l.place l.table)
