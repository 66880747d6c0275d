-- A condition's tree as plain data.
use Rattle.ts_cond.specs.declared.nodes.CondNode.{CondNode, All', Any', Not', Compare, Member, IsNull, Row_of-CondNode, end_of-CondNode, more_of-CondNode}
use Rattle.ts_cond.specs.Tests.{Test, Tests, no_test, test}
use Rattle.ts_cond.specs.Tests as plain

abbrev mutual
  pub test_of : CondNode → Test
  test_of (All' shape all) = plain.All (tests_of all)
  test_of (Any' shape all) = plain.Any (tests_of all)
  test_of (Not' shape inner) = plain.Not (inner_test inner)
  test_of (Compare op field val) = plain.Compare op field val
  test_of (Member negated field vals) = plain.Member negated field vals
  test_of (IsNull field) = plain.IsNull field

  -- the test of a row of one node
  pub inner_test : {m : _} → Row_of-CondNode m → Test
  inner_test end_of-CondNode = plain.Any no_test
  inner_test (more_of-CondNode n rest) = test_of n

  pub tests_of : {m : _} → Row_of-CondNode m → Tests
  tests_of end_of-CondNode = no_test
  tests_of (more_of-CondNode n rest) = test (test_of n) (tests_of rest)
