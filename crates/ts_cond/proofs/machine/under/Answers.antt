use Rattle.std.proofs.Common.{sym, ap, ◌∙◌}
use Rattle.ts_cond.specs.Tests as tree
use Rattle.ts_cond.specs.Views.{test_of}
use Rattle.ts_cond.proofs.Children.{denied_test, under_more}
use Rattle.ts_cond.proofs.machine.under.Goals as goal

pub loop-preserved : goal.loop-preserved
loop-preserved c =
    denied_test _ ∙ ap tree.Not (ap test_of c.in_ok-new.ensures ∙ c.loop.invariant) ∙ sym (under_more c.loop.counter (test_of c.args.node))
