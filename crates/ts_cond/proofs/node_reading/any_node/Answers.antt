use Rattle.ts_cond.proofs.Children.{any_tests}
use Rattle.ts_cond.proofs.node_reading.any_node.Goals as goal

pub returns : goal.returns
returns c = any_tests c.args.nodes
