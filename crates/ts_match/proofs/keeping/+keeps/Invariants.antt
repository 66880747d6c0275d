-- What the nodes so far leave, and what those from here on will.
use Rattle.std.proofs.Common.{◌≡◌, ℕ, ◌<◌, ◌&&◌, false, not, drop, get_or, length}
use Rattle.std.specs.List.{list_all, list_any}
use Rattle.ts_cond.specs.Views.{test_of}
use Rattle.ts_match.specs.Keeping.{holds_at}
use Rattle.ts_match.proofs.keeping.+keeps.Given as goal

abbrev pub invariant-keep_all-loop-node : goal.invariant-keep_all-loop-node
invariant-keep_all-loop-node l =
    (i : ℕ) → i < length l.fn.kept → (get_or l.kept i false && list_all (λ node. holds_at l.view (test_of node) i) (drop l.node-index l.nodes))
    ≡ (get_or l.fn.kept i false && list_all (λ node. holds_at l.view (test_of node) i) l.nodes)

abbrev pub invariant-keep_any-loop-node : goal.invariant-keep_any-loop-node
invariant-keep_any-loop-node l = record {
  long : length l.left.items ≡ length l.fn.kept;
  left : (i : ℕ) → i < length l.fn.kept → (get_or l.left.items i false && not (list_any (λ node. holds_at l.view (test_of node) i) (drop l.node-index l.nodes)))
      ≡ (get_or l.fn.kept i false && not (list_any (λ node. holds_at l.view (test_of node) i) l.nodes));
}
