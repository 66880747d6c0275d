-- Each call has a lesser height, or comes later in the reading of one node.
use Rattle.std.proofs.Common.{◌≡◌, ◌≤◌, ◌+◌, ◌-◌, ◌*◌, [], length, map}
use Rattle.ts_wire.specs.Place.{items_at}
use Rattle.ts_wire.proofs.Loop.{with_front}
use Rattle.ts_cond.specs.CondTexts.{all_indexes, all_nodes, last_of, named_by, node_at, nodes_bytes, walk, past_all}
use Rattle.ts_cond.specs.Machine.{tests_from}
use Rattle.ts_cond.specs.Views.{test_of}
use Rattle.ts_cond.proofs.node_reading.+walking.Given as goal

abbrev pub decreases-read_node : goal.decreases-read_node
decreases-read_node l = 4 * l.most

abbrev pub decreases-read_untagged : goal.decreases-read_untagged
decreases-read_untagged l = 4 * l.most + 3

abbrev pub decreases-read_list : goal.decreases-read_list
decreases-read_list l = 4 * l.most + 2

abbrev pub decreases-read_counted_nodes : goal.decreases-read_counted_nodes
decreases-read_counted_nodes l = 4 * l.most + 1

-- the nodes that were read, and those that are still to be read, are all of them
abbrev pub invariant-read_counted_nodes-loop-place : goal.invariant-read_counted_nodes-loop-place
invariant-read_counted_nodes-loop-place l =
    (with_front (map test_of l.nodes) (items_at (λ front. node_at l.fields l.most (past_all (walk l.fn.walked.named l.fn.walked.nodes) front)) (l.count - l.place) (map test_of l.nodes) l.cursor)
    ≡ items_at (λ front. node_at l.fields l.most (past_all (walk l.fn.walked.named l.fn.walked.nodes) front)) l.count [] l.fn.cursor)
    × (l.walked.named ≡ named_by l.fn.walked.named (all_indexes (tests_from (map test_of l.nodes))))
    × (l.walked.nodes ≡ l.fn.walked.nodes + all_nodes (tests_from (map test_of l.nodes)))
    × (l.walked.last ≡ l.fn.cursor.at + last_of (tests_from (map test_of l.nodes)))
    × (l.cursor.at ≡ l.fn.cursor.at + length (nodes_bytes (tests_from (map test_of l.nodes))))
    × (l.walked.nodes ≤ 1024)
