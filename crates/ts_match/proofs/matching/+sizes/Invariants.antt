use Rattle.std.proofs.Common.{◌≡◌, drop}
use Rattle.std.specs.List.{list_all, list_any}
use Rattle.ts_cond.specs.Holds.{holds}
use Rattle.ts_match.specs.Sights.{value_in}
use Rattle.ts_cond.specs.Views.{test_of}
use Rattle.ts_match.proofs.matching.+sizes.Given as goal

abbrev pub invariant-all_hold-loop-node : goal.invariant-all_hold-loop-node
invariant-all_hold-loop-node l =
    list_all (λ node. holds (value_in l.sight) (test_of node)) (drop l.node-index l.nodes)
    ≡ list_all (λ node. holds (value_in l.sight) (test_of node)) l.nodes

abbrev pub invariant-any_holds-loop-node : goal.invariant-any_holds-loop-node
invariant-any_holds-loop-node l =
    list_any (λ node. holds (value_in l.sight) (test_of node)) (drop l.node-index l.nodes)
    ≡ list_any (λ node. holds (value_in l.sight) (test_of node)) l.nodes
