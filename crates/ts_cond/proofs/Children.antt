-- The children of a node, as a list.
use Rattle.std.proofs.Common.{suc, ◌+◌, arith, ◌∷◌, [], map, length, ◌≢◌, ◌≡◌, refl, ap, ◌∙◌, ℕ, not, ◌&&◌, ◌||◌, List}
use Rattle.std.specs.List.{list_all, list_any}
use mathlib.Core.Former.{Count}
use Rattle.ts_base.specs.declared.values.Val.{Val}
use Rattle.ts_cond.specs.Holds.{holds, all_hold, any_holds}
use denote.Hole.Carrier.{hidden}
use Rattle.ts_cond.specs.declared.nodes.CondNode.TheBlock.{hidden-the_row-CondNode-1}
use Rattle.ts_cond.specs.Machine.{tests_from, gathered, under}
use Rattle.ts_cond.specs.Tests.{Test, Tests, test}
use Rattle.ts_cond.specs.Tests as plain
use Rattle.ts_cond.specs.Views.{test_of, tests_of}
use Rattle.ts_cond.specs.declared.nodes.CondNode.{CondNode, All, Any, Not, All', Any', Not', Row_of-CondNode, end_of-CondNode, more_of-CondNode, items-the_row-CondNode, items_hidden-the_row-CondNode-0}

abbrev row_of : CondNode → (n : Count) × Row_of-CondNode n
row_of (All' _ row) = (_, row)
row_of (Any' _ row) = (_, row)
row_of (Not' _ row) = (_, row)
row_of _ = (_, end_of-CondNode)

module _ (value : ℕ → Val) where
  all_of_row : (n : _) (row : Row_of-CondNode n) → all_hold value (tests_of row) ≡ list_all (λ node. holds value (test_of node)) (items-the_row-CondNode n row)
  all_of_row n end_of-CondNode = refl
  all_of_row n (more_of-CondNode node rest) = ap (λ b. holds value (test_of node) && b) (all_of_row _ rest)

  any_of_row : (n : _) (row : Row_of-CondNode n) → any_holds value (tests_of row) ≡ list_any (λ node. holds value (test_of node)) (items-the_row-CondNode n row)
  any_of_row n end_of-CondNode = refl
  any_of_row n (more_of-CondNode node rest) = ap (λ b. holds value (test_of node) || b) (any_of_row _ rest)

  pub all_children : (nodes : List CondNode) → holds value (test_of (All nodes)) ≡ list_all (λ node. holds value (test_of node)) nodes
  all_children nodes =
      let row = row_of (All nodes) in
      all_of_row row.0 row.1 ∙ ap (list_all (λ node. holds value (test_of node))) (items_hidden-the_row-CondNode-0 nodes)

  pub any_children : (nodes : List CondNode) → holds value (test_of (Any nodes)) ≡ list_any (λ node. holds value (test_of node)) nodes
  any_children nodes =
      let row = row_of (Any nodes) in
      any_of_row row.0 row.1 ∙ ap (list_any (λ node. holds value (test_of node))) (items_hidden-the_row-CondNode-0 nodes)

pub not_child : (value : ℕ → Val) (node : CondNode) → holds value (test_of (Not node)) ≡ not (holds value (test_of node))
unfolding hidden-the_row-CondNode-1 hidden
not_child value node = refl

tests_of_row : (n : _) (row : Row_of-CondNode n) → tests_of row ≡ tests_from (map test_of (items-the_row-CondNode n row))
tests_of_row n end_of-CondNode = refl
tests_of_row n (more_of-CondNode node rest) = ap (test (test_of node)) (tests_of_row _ rest)

pub all_tests : (nodes : List CondNode) → test_of (All nodes) ≡ plain.All (tests_from (map test_of nodes))
all_tests nodes =
    let row = row_of (All nodes) in
    ap plain.All (tests_of_row row.0 row.1 ∙ ap (λ items. tests_from (map test_of items)) (items_hidden-the_row-CondNode-0 nodes))

pub any_tests : (nodes : List CondNode) → test_of (Any nodes) ≡ plain.Any (tests_from (map test_of nodes))
any_tests nodes =
    let row = row_of (Any nodes) in
    ap plain.Any (tests_of_row row.0 row.1 ∙ ap (λ items. tests_from (map test_of items)) (items_hidden-the_row-CondNode-0 nodes))

-- a list that has not one node alone
pub more_than_one : (make : Tests → Test) (nodes : List CondNode) → length nodes ≢ 1 → gathered make (map test_of nodes) ≡ make (tests_from (map test_of nodes))
more_than_one make [] none = refl
more_than_one make (node ∷ []) none = absurd (none refl)
more_than_one make (node ∷ next ∷ nodes) none = refl

pub denied_test : (node : CondNode) → test_of (Not node) ≡ plain.Not (test_of node)
unfolding hidden-the_row-CondNode-1 hidden
denied_test node = refl

pub under_more : (n : ℕ) (t : Test) → under (n + 1) t ≡ plain.Not (under n t)
under_more n t =
    let next : n + 1 ≡ suc n = omega arith in
    ap (λ k. under k t) next
