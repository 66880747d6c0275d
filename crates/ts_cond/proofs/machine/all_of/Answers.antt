use Rattle.std.proofs.Common.{sym, ◌∙◌, length, ◌≢◌, arith}
use Rattle.ts_cond.specs.Tests as tree
use Rattle.ts_cond.proofs.Children.{all_tests, more_than_one}
use Rattle.ts_cond.proofs.machine.all_of.Goals as goal

pub returns-else-len-eq1 : goal.returns-else-len-eq1
returns-else-len-eq1 c =
    let nodes = c.args.nodes in
    let more : length nodes ≢ 1 = λ one. omega arith in
    all_tests nodes ∙ sym (more_than_one tree.All nodes more)
