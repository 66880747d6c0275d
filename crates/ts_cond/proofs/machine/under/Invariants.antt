use Rattle.std.proofs.Common.{◌≡◌}
use Rattle.ts_cond.specs.Machine.{under}
use Rattle.ts_cond.specs.Views.{test_of}
use Rattle.ts_cond.proofs.machine.under.Given as goal

abbrev pub invariant-loop : goal.invariant-loop
invariant-loop l = test_of l.found ≡ under l.counter (test_of l.fn.node)
