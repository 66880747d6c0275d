-- Lists of tests as the tests of one node: what they name and hold, and how they are spelled.
use Rattle.std.proofs.Common.{◌≡◌, ℕ, suc, ◌+◌, List, [], ◌∷◌, ◌++◌, length, map, refl, sym, ap, ◌∙◌, arith, append_assoc}
use Rattle.std.specs.List.{flat_map}
use Rattle.std.proofs.lemmas.List.{append-nil, length-map}
use Rattle.std.proofs.lemmas.List.Folds.{flat_map-map}
use Rattle.ts_wire.specs.Numbers.{number_bytes}
use Rattle.ts_cond.specs.declared.nodes.CondNode.{CondNode, All, Any, Not}
use Rattle.ts_cond.specs.declared.tags.Tag.{Tag}
use Rattle.ts_cond.specs.declared.tags.Tag.TheVariants.{AllOf, AnyOf, NotOf}
use Rattle.ts_cond.specs.CondTexts.{indexes, all_indexes, nodes_of, all_nodes, count_of, tag_bytes, node_bytes, nodes_bytes}
use Rattle.ts_cond.specs.Machine.{tests_from}
use Rattle.ts_cond.specs.Tests.{Test}
use Rattle.ts_cond.specs.Views.{test_of}
use Rattle.ts_cond.proofs.Children.{all_tests, any_tests, denied_test}

pub tests_count : (ts : List Test) → count_of (tests_from ts) ≡ length ts
tests_count [] = refl
tests_count (t ∷ ts) = ap suc (tests_count ts)

-- what stands behind some tests, with one test more
pub indexes_more : (ts : List Test) (t : Test) → all_indexes (tests_from (ts ++ t ∷ [])) ≡ all_indexes (tests_from ts) ++ indexes t
indexes_more [] t = append-nil (indexes t)
indexes_more (u ∷ us) t = ap (λ more. indexes u ++ more) (indexes_more us t) ∙ sym (append_assoc (indexes u) (all_indexes (tests_from us)) (indexes t))

pub nodes_more : (ts : List Test) (t : Test) → all_nodes (tests_from (ts ++ t ∷ [])) ≡ all_nodes (tests_from ts) + nodes_of t
nodes_more [] t = omega arith
nodes_more (u ∷ us) t = omega (arith, nodes_more us t)

pub tests_bytes : (ts : List Test) → nodes_bytes (tests_from ts) ≡ flat_map node_bytes ts
unfolding node_bytes nodes_bytes
tests_bytes [] = refl
tests_bytes (t ∷ ts) = ap (λ more. node_bytes t ++ more) (tests_bytes ts)

-- the number of some nodes, and the nodes
list_spelled : (nodes : List CondNode) → number_bytes 2 (count_of (tests_from (map test_of nodes))) ++ nodes_bytes (tests_from (map test_of nodes))
    ≡ number_bytes 2 (length nodes) ++ flat_map (λ node. node_bytes (test_of node)) nodes
list_spelled nodes =
    ap (λ count. number_bytes 2 count ++ nodes_bytes (tests_from (map test_of nodes))) (tests_count (map test_of nodes) ∙ length-map nodes test_of)
    ∙ ap (λ bytes. number_bytes 2 (length nodes) ++ bytes) (tests_bytes (map test_of nodes) ∙ flat_map-map node_bytes test_of nodes)

-- a tag, the number of some nodes, and the nodes
abbrev pub list_bytes : Tag → List CondNode → List ℕ
list_bytes tag nodes = tag_bytes tag ++ (number_bytes 2 (length nodes) ++ flat_map (λ node. node_bytes (test_of node)) nodes)

pub all_spelled : (nodes : List CondNode) → list_bytes AllOf nodes ≡ node_bytes (test_of (All nodes))
unfolding node_bytes
all_spelled nodes = sym (ap node_bytes (all_tests nodes) ∙ ap (λ bytes. tag_bytes AllOf ++ bytes) (list_spelled nodes))

pub any_spelled : (nodes : List CondNode) → list_bytes AnyOf nodes ≡ node_bytes (test_of (Any nodes))
unfolding node_bytes
any_spelled nodes = sym (ap node_bytes (any_tests nodes) ∙ ap (λ bytes. tag_bytes AnyOf ++ bytes) (list_spelled nodes))

pub not_spelled : (node : CondNode) → tag_bytes NotOf ++ node_bytes (test_of node) ≡ node_bytes (test_of (Not node))
unfolding node_bytes
not_spelled node = sym (ap node_bytes (denied_test node))
