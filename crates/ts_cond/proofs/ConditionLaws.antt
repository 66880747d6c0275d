-- A condition is read exactly: the fields, and the tree over them.
use Rattle.std.proofs.Common.{◌≡◌, ℕ, ◌+◌, ◌≤◌, Bool, true, false, nat_eq, if◌then◌else◌, List, [], ◌++◌, length, Some, None, refl, ◌∙◌, arith, length-append}
use Rattle.std.proofs.lemmas.Bool.{eqb-true, eq-eqb}
use Rattle.std.specs.List.{flat_map}
use Rattle.ts_wire.specs.Exact.{Exact}
use Rattle.ts_wire.specs.Numbers.{number_bytes}
use Rattle.ts_wire.specs.Fields.{bool_bytes, val_bytes}
use Rattle.ts_wire.proofs.Laws.{restated, mapped_exact, both_exact, judged_exact}
use Rattle.ts_wire.proofs.Numbers.{length-number_bytes}
use Rattle.ts_cond.specs.declared.fields.CondField.{CondField}
use Rattle.ts_cond.specs.declared.nodes.CondOp.{CondOp}
use Rattle.ts_cond.specs.declared.tags.Tag.{Tag}
use Rattle.ts_cond.specs.declared.tags.Tag.TheVariants.{AllOf, AnyOf, NotOf, Comparing, Membership, Nullness}
use Rattle.ts_cond.specs.CondTexts.{indexes, named_by, tag_code, tag_bytes, op_code, op_bytes, walk, node_bytes, nodes_bytes, last_index, last_of, unnamed_at, tree_at, count_of, cond_at, cond_bytes, IsCond}
use Rattle.ts_cond.specs.Tests.{Test, Tests, All, Any, Not, Compare, Member, IsNull, no_test, test}
use Rattle.ts_cond.proofs.CondLaws.{few_fields, fields_exact}
use Rattle.ts_cond.proofs.TreeLaws.{FitsTest, node_exact}

pub length-tag_bytes : (tag : Tag) → length (tag_bytes tag) ≡ 1
unfolding tag_bytes
length-tag_bytes tag = length-number_bytes 1 (tag_code tag)

pub length-op_bytes : (o : CondOp) → length (op_bytes o) ≡ 1
unfolding op_bytes
length-op_bytes o = length-number_bytes 1 (op_code o)

pub length-bool_bytes : (b : Bool) → length (bool_bytes b) ≡ 1
unfolding bool_bytes
length-bool_bytes b = length-number_bytes 1 (if b then 1 else 0)

-- behind a tag, a number of two bytes, and some bytes
behind_count : (tag : Tag) (count : ℕ) (bytes : List ℕ) → length (tag_bytes tag ++ (number_bytes 2 count ++ bytes)) ≡ 3 + length bytes
behind_count tag count bytes =
    length-append (tag_bytes tag) (number_bytes 2 count ++ bytes) ∙ omega (arith, length-tag_bytes tag, length-append (number_bytes 2 count) bytes, length-number_bytes 2 count)

-- the last index of a tree stands within it
mutual
  unfolding node_bytes nodes_bytes

  pub last_within : (t : Test) → last_index t ≤ length (node_bytes t)
  last_within (All ts) = omega (arith, behind_count AllOf (count_of ts) (nodes_bytes ts), last_of_within ts)
  last_within (Any ts) = omega (arith, behind_count AnyOf (count_of ts) (nodes_bytes ts), last_of_within ts)
  last_within (Not t) = omega (arith, length-append (tag_bytes NotOf) (node_bytes t), length-tag_bytes NotOf, last_within t)
  last_within (Compare o field val) =
      omega (arith, length-append (tag_bytes Comparing) (op_bytes o ++ (number_bytes 1 field ++ val_bytes val)), length-tag_bytes Comparing, length-append (op_bytes o) (number_bytes 1 field ++ val_bytes val), length-op_bytes o)
  last_within (Member negated field vals) =
      let rest : List ℕ = number_bytes 1 field ++ (number_bytes 2 (length vals) ++ flat_map val_bytes vals) in
      omega (arith, length-append (tag_bytes Membership) (bool_bytes negated ++ rest), length-tag_bytes Membership, length-append (bool_bytes negated) rest, length-bool_bytes negated)
  last_within (IsNull field) = omega (arith, length-append (tag_bytes Nullness) (number_bytes 1 field), length-tag_bytes Nullness)

  pub last_of_within : (ts : Tests) → last_of ts ≤ length (nodes_bytes ts)
  last_of_within no_test = omega arith
  last_of_within (test t no_test) = omega (arith, last_within t, length-append (node_bytes t) [])
  last_of_within (test t (test u us)) = omega (arith, last_of_within (test u us), length-append (node_bytes t) (nodes_bytes (test u us)))

near_case : (b : Bool) (last far : ℕ) → (if b then None else Some last) ≡ Some far → far ≡ last
near_case true last far h = absurd (let none : None ≡ Some far = h in cc)
near_case false last far h = cc

near : (fields : List CondField) (t : Test) (far : ℕ) → FitsTest fields 67 (walk 0 0) t → unnamed_at fields t ≡ Some far → far ≤ length (node_bytes t)
near fields t far fits h = omega (arith, near_case (nat_eq (named_by 0 (indexes t)) (length fields)) (last_index t) far h, last_within t)

all_named_case : (named count last : ℕ) (b : Bool) → nat_eq named count ≡ b → (if b then None else Some last) ≡ None → named ≡ count
all_named_case named count last true e h = eqb-true named count e
all_named_case named count last false e h = absurd (let some : Some last ≡ None = h in cc)

-- a tree over these fields, each of which it names
pub IsTree : List CondField → Test → Type 0
IsTree fields t = FitsTest fields 67 (walk 0 0) t × (named_by 0 (indexes t) ≡ length fields)

pub tree_exact : (fields : List CondField) → length fields ≤ 72 → Exact (IsTree fields) node_bytes (tree_at fields)
unfolding tree_at IsTree
tree_exact fields few = restated (judged_exact (unnamed_at fields) (near fields) (node_exact fields few 67 (walk 0 0)))
    (λ t fits. ((fits.0, all_named_case (named_by 0 (indexes t)) (length fields) (last_index t) (nat_eq (named_by 0 (indexes t)) (length fields)) refl fits.1), refl))
    (λ t fits. (fits.0, rw (eq-eqb (named_by 0 (indexes t)) (length fields) fits.1) refl))

pub cond_exact : Exact IsCond cond_bytes cond_at
unfolding cond_at cond_bytes IsTree
cond_exact = mapped_exact (both_exact fields_exact (λ fields are. tree_exact fields (few_fields (length fields) are.count))) (record {
  there = λ x fits. (
    record {
      count = fits.0.count;
      each = fits.0.each;
      in_turn = fits.1.0.in_turn;
      named = fits.1.1;
      vals = fits.1.0.vals;
      wide = fits.1.0.wide;
      height = fits.1.0.height;
      nodes = let nodes = fits.1.0.nodes in omega (arith, nodes);
    },
    refl,
  );
  back = λ c is. (
    (c.fields, c.root),
    (
      record { count = is.count; each = is.each },
      (record { in_turn = is.in_turn; vals = is.vals; wide = is.wide; height = is.height; nodes = let nodes = is.nodes in omega (arith, nodes) }, is.named),
    ),
    refl,
    refl,
  );
})
