-- What a condition says of a cell.
use Rattle.std.specs.Prelude.{ℕ, Bool, true, false, ◌&&◌, ◌||◌, not, List}
use Rattle.std.specs.List.{list_any}
use Rattle.std.specs.declared.cmp.Ordering.{Ordering}
use Rattle.std.specs.Ordering.{is_lt, is_le, is_gt, is_ge, is_eq, is_ne}
use Rattle.ts_base.specs.declared.values.Val.{Val}
use Rattle.ts_base.specs.declared.values.Val.TheVariants.{Null}
use Rattle.ts_value.specs.Order.{val_cmp}
use Rattle.ts_cond.specs.declared.nodes.CondOp.{CondOp}
use Rattle.ts_cond.specs.declared.nodes.CondOp.TheVariants.{Less, AtMost, Greater, AtLeast, Equal, Unequal}
use Rattle.ts_cond.specs.Tests.{Test, Tests, All, Any, Not, Compare, Member, IsNull, no_test, test}

abbrev pub is_null : Val → Bool
is_null Null = true
is_null _ = false

-- whether two values that stand so to each other pass the comparison
abbrev pub passes : CondOp → Ordering → Bool
passes Less o = is_lt o
passes AtMost o = is_le o
passes Greater o = is_gt o
passes AtLeast o = is_ge o
passes Equal o = is_eq o
passes Unequal o = is_ne o

-- a comparison with a null is false
abbrev pub compares : CondOp → Val → Val → Bool
compares op seen val = not (is_null seen) && passes op (val_cmp seen val)

-- the value is one of these
abbrev pub is_one_of : Val → List Val → Bool
is_one_of seen vals = list_any (λ val. is_eq (val_cmp seen val)) vals

-- `in`, or `not in` where it is negated; of a null both are false
abbrev pub is_member : Bool → Val → List Val → Bool
is_member false seen vals = not (is_null seen) && is_one_of seen vals
is_member true seen vals = not (is_null seen) && not (is_one_of seen vals)

-- whether a test holds, where `value` gives the value of each field
abbrev mutual
  pub holds : (ℕ → Val) → Test → Bool
  holds value (All ts) = all_hold value ts
  holds value (Any ts) = any_holds value ts
  holds value (Not t) = not (holds value t)
  holds value (Compare op field val) = compares op (value field) val
  holds value (Member negated field vals) = is_member negated (value field) vals
  holds value (IsNull field) = is_null (value field)

  pub all_hold : (ℕ → Val) → Tests → Bool
  all_hold value no_test = true
  all_hold value (test t ts) = holds value t && all_hold value ts

  pub any_holds : (ℕ → Val) → Tests → Bool
  any_holds value no_test = false
  any_holds value (test t ts) = holds value t || any_holds value ts
