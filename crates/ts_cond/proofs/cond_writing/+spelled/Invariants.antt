-- The tag, the count, and the nodes so far.
use Rattle.std.proofs.Common.{◌≡◌, ◌++◌, length, take}
use Rattle.std.specs.List.{flat_map}
use Rattle.ts_wire.specs.Numbers.{number_bytes}
use Rattle.ts_cond.specs.CondTexts.{tag_bytes, node_bytes}
use Rattle.ts_cond.specs.Views.{test_of}
use Rattle.ts_cond.proofs.cond_writing.+spelled.Given as goal

abbrev pub invariant-write_list-loop-node : goal.invariant-write_list-loop-node
invariant-write_list-loop-node l =
    l.scribe ≡ l.fn.scribe ++ (tag_bytes l.fn.tag ++ (number_bytes 2 (length l.nodes) ++ flat_map (λ node. node_bytes (test_of node)) (take l.node-index l.nodes)))
