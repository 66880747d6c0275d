-- How a condition's tree is stored: as the list of its nodes, children first.
use Rattle.std.proofs.Common.{◌≡◌, refl, ◌∙◌, ap}
use Rattle.std.specs.Prelude.{ℕ, ◌==◌, true, false, cond, List, [], ◌∷◌, ◌++◌}
use Rattle.std.specs.Coded.{Coded, coded_list, coded_ℕ, coded×, code_by}
use Rattle.ts_base.specs.declared.values.Val.{Val}
use Rattle.ts_base.specs.contracts.values.Val as val
use Rattle.ts_cond.specs.declared.nodes.CondOp.{CondOp}
use Rattle.ts_cond.specs.Tests.{Test, Tests, All, Any, Not, Compare, Member, IsNull, no_test, test}

-- a node without its children: what it is, its operator, its field and its values
pub record Node : Type 0 where
  pub kind : ℕ
  pub op : ℕ
  pub field : ℕ
  pub values : List Val

abbrev node : ℕ → ℕ → ℕ → List Val → Node
node kind op field values = record { kind = kind; op = op; field = field; values = values }

abbrev op_number : CondOp → ℕ
op_number CondOp.Less = 0
op_number CondOp.AtMost = 1
op_number CondOp.Greater = 2
op_number CondOp.AtLeast = 3
op_number CondOp.Equal = 4
op_number CondOp.Unequal = 5

abbrev op_from : ℕ → CondOp
op_from n = cond (n == 0) CondOp.Less (cond (n == 1) CondOp.AtMost (cond (n == 2) CondOp.Greater (cond (n == 3) CondOp.AtLeast (cond (n == 4) CondOp.Equal CondOp.Unequal))))

abbrev mutual
  pub nodes : Test → List Node
  nodes (All ts) = nodes_all ts ++ node 0 0 0 [] ∷ []
  nodes (Any ts) = nodes_all ts ++ node 1 0 0 [] ∷ []
  nodes (Not t) = nodes t ++ node 2 0 0 [] ∷ []
  nodes (Compare op field v) = node 3 (op_number op) field (v ∷ []) ∷ []
  nodes (Member true field vs) = node 4 0 field vs ∷ []
  nodes (Member false field vs) = node 5 0 field vs ∷ []
  nodes (IsNull field) = node 6 0 field [] ∷ []

  pub nodes_all : Tests → List Node
  nodes_all no_test = node 7 0 0 [] ∷ []
  nodes_all (test t ts) = nodes t ++ nodes_all ts ++ node 8 0 0 [] ∷ []

-- what was built so far: tests and lists of tests, the newest first
pub record Built : Type 0 where
  pub tests : List Test
  pub lists : List Tests

abbrev with_test : Test → Built → Built
with_test t b = record { tests = t ∷ b.tests; lists = b.lists }

abbrev with_list : Tests → Built → Built
with_list ts b = record { tests = b.tests; lists = ts ∷ b.lists }

abbrev list_made : (Tests → Test) → List Test → List Tests → Built
list_made make tests [] = record { tests = tests; lists = [] }
list_made make tests (ts ∷ lists) = record { tests = make ts ∷ tests; lists = lists }

abbrev test_made : (Test → Test) → List Test → List Tests → Built
test_made make [] lists = record { tests = []; lists = lists }
test_made make (t ∷ tests) lists = record { tests = make t ∷ tests; lists = lists }

abbrev put_before : List Test → List Tests → Built
put_before (t ∷ tests) (ts ∷ lists) = record { tests = tests; lists = test t ts ∷ lists }
put_before tests lists = record { tests = tests; lists = lists }

abbrev compare_made : ℕ → ℕ → List Val → Built → Built
compare_made op field [] b = b
compare_made op field (v ∷ vs) b = with_test (Compare (op_from op) field v) b

abbrev build : Node → Built → Built
build n b =
    cond (n.kind == 0) (list_made All b.tests b.lists)
    (cond (n.kind == 1) (list_made Any b.tests b.lists)
    (cond (n.kind == 2) (test_made Not b.tests b.lists)
    (cond (n.kind == 3) (compare_made n.op n.field n.values b)
    (cond (n.kind == 4) (with_test (Member true n.field n.values) b)
    (cond (n.kind == 5) (with_test (Member false n.field n.values) b)
    (cond (n.kind == 6) (with_test (IsNull n.field) b)
    (cond (n.kind == 7) (with_list no_test b) (put_before b.tests b.lists))))))))

abbrev build_all : List Node → Built → Built
build_all [] b = b
build_all (n ∷ ns) b = build_all ns (build n b)

abbrev first_test : List Test → Test
first_test [] = IsNull 0
first_test (t ∷ ts) = t

abbrev pub test_from : List Node → Test
test_from ns = first_test (build_all ns (record { tests = []; lists = [] })).tests

op_back : (op : CondOp) → op_from (op_number op) ≡ op
op_back CondOp.Less = refl
op_back CondOp.AtMost = refl
op_back CondOp.Greater = refl
op_back CondOp.AtLeast = refl
op_back CondOp.Equal = refl
op_back CondOp.Unequal = refl

build-append : (xs ys : List Node) (b : Built) → build_all (xs ++ ys) b ≡ build_all ys (build_all xs b)
build-append [] ys b = refl
build-append (x ∷ xs) ys b = build-append xs ys (build x b)

mutual
  build-nodes : (t : Test) (b : Built) → build_all (nodes t) b ≡ with_test t b
  build-nodes (All ts) b = build-append (nodes_all ts) (node 0 0 0 [] ∷ []) b ∙ ap (build (node 0 0 0 [])) (build-nodes_all ts b)
  build-nodes (Any ts) b = build-append (nodes_all ts) (node 1 0 0 [] ∷ []) b ∙ ap (build (node 1 0 0 [])) (build-nodes_all ts b)
  build-nodes (Not t) b = build-append (nodes t) (node 2 0 0 [] ∷ []) b ∙ ap (build (node 2 0 0 [])) (build-nodes t b)
  build-nodes (Compare op field v) b = ap (λ o. with_test (Compare o field v) b) (op_back op)
  build-nodes (Member true field vs) b = refl
  build-nodes (Member false field vs) b = refl
  build-nodes (IsNull field) b = refl

  build-nodes_all : (ts : Tests) (b : Built) → build_all (nodes_all ts) b ≡ with_list ts b
  build-nodes_all no_test b = refl
  build-nodes_all (test t ts) b =
      build-append (nodes t ++ nodes_all ts) (node 8 0 0 [] ∷ []) b
      ∙ ap (build (node 8 0 0 [])) (build-append (nodes t) (nodes_all ts) b ∙ ap (build_all (nodes_all ts)) (build-nodes t b) ∙ build-nodes_all ts (with_test t b))

pub test_back : (t : Test) → test_from (nodes t) ≡ t
test_back t = ap (λ b. first_test b.tests) (build-nodes t (record { tests = []; lists = [] }))

-- a node is stored as the tuple of its fields
abbrev pub node_code : Coded Node
node_code =
    code_by (ℕ × (ℕ × (ℕ × List Val))) (coded× coded_ℕ (coded× coded_ℕ (coded× coded_ℕ (coded_list (val.the_row).coded))))
    (λ n. (n.kind, (n.op, (n.field, n.values))))
    (λ p. record { kind = p.0; op = p.1.0; field = p.1.1.0; values = p.1.1.1 })
    (λ _. refl)

-- a test is stored as its nodes
abbrev pub test_code : Coded Test
test_code = code_by (List Node) (coded_list node_code) nodes test_from test_back
