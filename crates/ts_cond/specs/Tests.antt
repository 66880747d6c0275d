-- A condition as plain data.
use Rattle.std.specs.Prelude.{ℕ, Bool, List}
use Rattle.ts_base.specs.declared.values.Val.{Val}
use Rattle.ts_cond.specs.declared.fields.CondField.{CondField}
use Rattle.ts_cond.specs.declared.nodes.CondOp.{CondOp}

-- a tree of tests: all of, any of, not, a comparison, a membership, and `is null`; a field is named by its place in the table
mutual
  pub data Test : Type 0 where
    All : Tests → Test
    Any : Tests → Test
    Not : Test → Test
    Compare : CondOp → ℕ → Val → Test
    Member : Bool → ℕ → List Val → Test
    IsNull : ℕ → Test

  pub data Tests : Type 0 where
    no_test : Tests
    test : Test → Tests → Tests

-- the table of fields and the tree
pub record Condition : Type 0 where
  pub fields : List CondField
  pub root : Test
