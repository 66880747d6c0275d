-- Reading goes on step by step, and so do the nodes of a list.
use Rattle.std.proofs.Common.{◌≡◌, ℕ, Ok, Err, refl, ◌+◌, ◌-◌, ◌<◌, ◌≤◌, List, [], ◌∷◌, length, map, sym, subst, ap, ◌∙◌, arith, rules}
use Rattle.std.proofs.lemmas.List.{map-append}
use Rattle.ts_wire.specs.Place.{Place, Read, items_at}
use Rattle.ts_wire.specs.Exact.{IsBytes}
use Rattle.ts_wire.proofs.Loop.{with_front, items_start, items_on}
use Rattle.ts_cond.specs.declared.fields.CondField.{CondField}
use Rattle.ts_cond.specs.declared.tree_reading.Walked.{Walked}
use Rattle.ts_cond.specs.CondTexts.{Walk, walk, past_tag, untagged_at, past_all, node_at, nodes_at, indexes, all_indexes, all_nodes, last_of, named_by, nodes_bytes}
use Rattle.ts_cond.specs.Machine.{tests_from}
use Rattle.ts_cond.specs.Tests.{Test}
use Rattle.ts_cond.specs.Views.{test_of}
use Rattle.ts_cond.proofs.NodeSteps.{node_stop, node_on, all_stop, any_stop, all_on, any_on, reads_as, stops_as, bytes_more, last_more}
use Rattle.ts_cond.proofs.TreeLaws.{past_more, node_exact}
use Rattle.ts_cond.proofs.Trees.{nodes_more}
use Rattle.ts_cond.proofs.node_reading.+walking.Goals as goal

pub read_node-returns-in_err-tag-clause-reads : goal.read_node-returns-in_err-tag-clause-reads
read_node-returns-in_err-tag-clause-reads t c =
    let some : 1 ≤ c.args.most = omega (arith, c.if-most-eq0.false) in
    let stop = node_stop c.args.fields.now c.args.most (walk c.args.walked.now.named c.args.walked.now.nodes) c.args.cursor.now c.in_err-tag.field-0.0.at some c.in_err-tag.ensures.reads in
    search rules

pub read_node-returns-clause-reads : goal.read_node-returns-clause-reads
read_node-returns-clause-reads t c =
    let w : Walk = walk c.args.walked.now.named c.args.walked.now.nodes in
    let most : c.args.most ≡ c.args.most - 1 + 1 = omega (arith, c.if-most-eq0.false) in
    let read = untagged_at c.args.fields.now (λ v. node_at c.args.fields.now (c.args.most - 1) v) (past_tag w) c.in_ok-tag.tag in
    reads_as test_of read (node_at c.args.fields.now c.args.most w) c.read_tag.new.cursor c.args.cursor.now c.read_untagged.new.cursor c.read_untagged.result
    (node_on c.args.fields.now c.args.most (c.args.most - 1) w c.args.cursor.now c.read_tag.new.cursor c.in_ok-tag.tag _ most c.in_ok-tag.ensures.reads refl) c.read_untagged.ensures.reads

pub read_untagged-returns-in_err-nodes-in-AllOf-clause-reads : goal.read_untagged-returns-in_err-nodes-in-AllOf-clause-reads
read_untagged-returns-in_err-nodes-in-AllOf-clause-reads t c =
    let w : Walk = walk c.args.walked.now.named c.args.walked.now.nodes in
    let node : Walk → Place → Read Test = λ v. node_at c.args.fields.now c.args.most v in
    let is : c.from_residual.result ≡ Err c.in_err-nodes-in-AllOf.field-0.0 = search rules in
    stops_as (map test_of) test_of (nodes_at node w) (untagged_at c.args.fields.now node w c.args.tag) c.args.cursor.now c.read_list.new.cursor c.in_err-nodes-in-AllOf.field-0.0 c.from_residual.result
    (λ at h. all_stop c.args.fields.now node w c.args.tag c.args.cursor.now at c.in-AllOf.is h) c.in_err-nodes-in-AllOf.ensures.reads is

pub read_untagged-returns-in_err-nodes-in-AnyOf-clause-reads : goal.read_untagged-returns-in_err-nodes-in-AnyOf-clause-reads
read_untagged-returns-in_err-nodes-in-AnyOf-clause-reads t c =
    let w : Walk = walk c.args.walked.now.named c.args.walked.now.nodes in
    let node : Walk → Place → Read Test = λ v. node_at c.args.fields.now c.args.most v in
    let is : c.from_residual-in_err-nodes-in-AnyOf.result ≡ Err c.in_err-nodes-in-AnyOf.field-0.0 = search rules in
    stops_as (map test_of) test_of (nodes_at node w) (untagged_at c.args.fields.now node w c.args.tag) c.args.cursor.now c.read_list-in-AnyOf.new.cursor c.in_err-nodes-in-AnyOf.field-0.0 c.from_residual-in_err-nodes-in-AnyOf.result
    (λ at h. any_stop c.args.fields.now node w c.args.tag c.args.cursor.now at c.in-AnyOf.is h) c.in_err-nodes-in-AnyOf.ensures.reads is

pub read_untagged-returns-in_ok-nodes-in-AllOf-clause-reads : goal.read_untagged-returns-in_ok-nodes-in-AllOf-clause-reads
read_untagged-returns-in_ok-nodes-in-AllOf-clause-reads t c =
    all_on c.args.fields.now (λ w. node_at c.args.fields.now c.args.most w) (walk c.args.walked.now.named c.args.walked.now.nodes) c.args.tag c.args.cursor.now c.read_list.new.cursor _ _ c.in-AllOf.is c.in_ok-nodes-in-AllOf.ensures.reads c.all_node.ensures

pub read_untagged-returns-in_ok-nodes-in-AnyOf-clause-reads : goal.read_untagged-returns-in_ok-nodes-in-AnyOf-clause-reads
read_untagged-returns-in_ok-nodes-in-AnyOf-clause-reads t c =
    any_on c.args.fields.now (λ w. node_at c.args.fields.now c.args.most w) (walk c.args.walked.now.named c.args.walked.now.nodes) c.args.tag c.args.cursor.now c.read_list-in-AnyOf.new.cursor _ _ c.in-AnyOf.is c.in_ok-nodes-in-AnyOf.ensures.reads c.any_node.ensures

-- what the loop keeps, where these nodes were read
abbrev Kept : List CondField → ℕ → ℕ → ℕ → Walk → Place → Walked → Place → List Test → Type 0
Kept fields most count left w p walked q ts =
    (with_front ts (items_at (λ front. node_at fields most (past_all w front)) left ts q) ≡ items_at (λ front. node_at fields most (past_all w front)) count [] p)
    × (walked.named ≡ named_by w.named (all_indexes (tests_from ts)))
    × (walked.nodes ≡ w.nodes + all_nodes (tests_from ts))
    × (walked.last ≡ p.at + last_of (tests_from ts))
    × (q.at ≡ p.at + length (nodes_bytes (tests_from ts)))
    × (walked.nodes ≤ 1024)

pub read_counted_nodes-loop-place-init : goal.read_counted_nodes-loop-place-init
unfolding nodes_bytes
read_counted_nodes-loop-place-init t c =
    let w : Walk = walk c.args.walked.now.named c.args.walked.now.nodes in
    let walked : Walked = record { named = c.args.walked.now.named; nodes = c.args.walked.now.nodes; last = c.at-walked.result } in
    subst (λ nodes. Kept c.args.fields.now c.args.most c.args.count (c.args.count - 0) w c.args.cursor.now walked c.args.cursor.now (map test_of nodes)) (sym c.new-nodes.ensures) (
      items_start (λ front. node_at c.args.fields.now c.args.most (past_all w front)) c.args.count c.args.cursor.now,
      refl,
      omega arith,
      omega (arith, c.at-walked.ensures.offset),
      omega arith,
      c.requires.nodes,
    )

pub read_counted_nodes-loop-place-preserved : goal.read_counted_nodes-loop-place-preserved
read_counted_nodes-loop-place-preserved t c =
    let w : Walk = walk c.args.walked.now.named c.args.walked.now.nodes in
    let fields = c.args.fields.now in
    let most = c.args.most in
    let read : List Test → Place → Read Test = λ front. node_at fields most (past_all w front) in
    let ts : List Test = map test_of c.loop-place.nodes in
    let one : Test = test_of c.in_ok-node.node in
    let kept = c.loop-place.invariant in
    let was : walk c.loop-place.walked.named c.loop-place.walked.nodes ≡ past_all w ts =
    ap (λ n. walk n c.loop-place.walked.nodes) kept.1 ∙ ap (walk (named_by w.named (all_indexes (tests_from ts)))) kept.2 in
    let reads = subst (λ v. node_at fields most v c.loop-place.cursor ≡ Ok (one, c.read_node.new.cursor)) was c.in_ok-node.ensures.reads in
    let bytes : IsBytes c.loop-place.cursor.rest = subst IsBytes c.rest.ensures c.has_bytes.ensures in
    let moved = ((node_exact fields c.requires.fields most (past_all w ts)).takes c.loop-place.cursor (one, c.read_node.new.cursor) bytes reads).0.count in
    let more : c.loop-place.place < c.args.count = omega (arith, c.loop-place-test.true) in
    let same = ap (map test_of) c.in_ok-push.ensures.ok ∙ map-append test_of c.loop-place.nodes (c.in_ok-node.node ∷ []) in
    subst (Kept fields most c.args.count (c.args.count - (c.loop-place.place + 1)) w c.args.cursor.now c.read_node.new.walked c.read_node.new.cursor) (sym same) (
      items_on read c.args.count c.loop-place.place ts c.loop-place.cursor c.read_node.new.cursor one _ more reads kept.0,
      c.in_ok-node.ensures.named ∙ ap (λ n. named_by n (indexes one)) kept.1 ∙ sym (ap (λ v. v.named) (past_more w ts one)),
      omega (arith, c.in_ok-node.ensures.nodes, kept.2, nodes_more ts one),
      omega (arith, c.in_ok-node.ensures.last, kept.4, last_more ts one),
      omega (arith, moved, kept.4, bytes_more ts one),
      c.in_ok-node.ensures.few,
    )
