-- What is broken first is so from this place on.
use Rattle.std.specs.Option.{option_copied}
use Rattle.ts_sparse_read.specs.Sifts.{bare_if}
use Rattle.ts_sparse_read.proofs.PickStepLaws.{Clear}
use Rattle.ts_sparse_read.proofs.ordering.check_order.Given as goal

abbrev pub invariant-loop-place : goal.invariant-loop-place
invariant-loop-place l = Clear l.frame l.consolidated l.ranges (bare_if (option_copied l.last)) l.columns l.place
