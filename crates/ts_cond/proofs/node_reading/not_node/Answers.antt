use Rattle.std.proofs.Common.{ap, ◌∙◌}
use Rattle.ts_cond.specs.Tests as tree
use Rattle.ts_cond.specs.Views.{test_of}
use Rattle.ts_cond.proofs.Children.{denied_test}
use Rattle.ts_cond.proofs.node_reading.not_node.Goals as goal

pub returns : goal.returns
returns c = denied_test _ ∙ ap (λ node. tree.Not (test_of node)) c.in_ok-new.ensures
