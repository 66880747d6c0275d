use Rattle.ts_cond.proofs.Children.{all_tests}
use Rattle.ts_cond.proofs.node_reading.all_node.Goals as goal

pub returns : goal.returns
returns c = all_tests c.args.nodes
