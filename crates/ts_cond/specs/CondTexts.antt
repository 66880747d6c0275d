-- The object of a condition: how its fields and its tree are spelled, and how they are read.
use Rattle.std.specs.Prelude.{◌≡◌, ℕ, zero, suc, ◌+◌, ◌-◌, ◌≤◌, ◌<◌, max, Bool, true, false, not, ◌&&◌, ◌||◌, nat_eq, nat_le, nat_lt, if◌then◌else◌, List, [], ◌∷◌, ◌++◌, length, map, get_or, slice_get, Option, Some, None, IsTrue, Result, Err}
use Rattle.std.specs.List.{flat_map, list_any}
use Rattle.std.specs.Ordering.{is_eq}
use Rattle.std.specs.Str.{is_utf8}
use Rattle.std.specs.Cmp.Lexicographic.{pointwise}
use Rattle.ts_base.specs.declared.values.Val.{Val}
use Rattle.ts_base.specs.declared.values.Val.TheVariants.{Int, Bytes}
use Rattle.ts_base.specs.declared.values.ValType.{ValType}
use Rattle.ts_base.specs.declared.values.ValType.TheVariants as ty
use Rattle.ts_base.specs.Labels.{is_label}
use Rattle.ts_base.specs.Values.{is_integer}
use Rattle.ts_value.specs.Fill.{fill_of}
use Rattle.ts_value.specs.Fits.{fits_of}
use Rattle.ts_value.specs.Order.{val_cmp}
use Rattle.ts_wire.specs.declared.kinds.Kind.TheVariants as kind
use Rattle.ts_wire.specs.Place.{Place, Read, mapped, both, ruled, judged, counted_at}
use Rattle.ts_wire.specs.Exact.{InTurn}
use Rattle.ts_wire.specs.Numbers.{number_bytes, number_at}
use Rattle.ts_wire.specs.Fields.{bool_bytes, bool_at, label_bytes, label_at, val_bytes, val_at, FitsVal}
use Rattle.ts_wire.specs.Envelope.{wrapped, object_at}
use Rattle.ts_schema.specs.SchemaTexts.{type_bytes, type_at}
use Rattle.ts_cond.specs.declared.fields.CondField.{CondField}
use Rattle.ts_cond.specs.declared.nodes.CondOp.{CondOp}
use Rattle.ts_cond.specs.declared.nodes.CondOp.TheVariants as op
use Rattle.ts_cond.specs.declared.tags.Tag.{Tag}
use Rattle.ts_cond.specs.declared.tags.Tag.TheVariants.{AllOf, AnyOf, NotOf, Comparing, Membership, Nullness}
use Rattle.ts_cond.specs.Machine.{tests_from}
use Rattle.ts_cond.specs.Tests.{Test, Tests, All, Any, Not, Compare, Member, IsNull, no_test, test, Condition}

-- ---- fields

-- the byte of a dimension is its index, and the byte of an attribute is 255
abbrev pub dim_code : Option ℕ → ℕ
dim_code None = 255
dim_code (Some dim) = dim

-- a dimension's index is from 0 to 7
abbrev pub is_dim_code : ℕ → Bool
is_dim_code code = nat_le code 7 || nat_eq code 255

-- the dimension of a byte, or none where it is an attribute's
abbrev pub dim_of : ℕ → Option ℕ
dim_of code = if nat_eq code 255 then None else Some code

-- the dimension's index, or none, in one byte
unfoldable pub dim_bytes : Option ℕ → List ℕ
dim_bytes dim = number_bytes 1 (dim_code dim)

-- the dimension's index, or none
unfoldable pub dim_at : Place → Read (Option ℕ)
dim_at = mapped dim_of (ruled is_dim_code (number_at 1))

-- one of the fields has the name
abbrev pub has_field : List CondField → List ℕ → Bool
has_field fields name = list_any (λ field. pointwise nat_eq field.name name) fields

-- a dimension has an integer type
abbrev pub may_be_of : Option ℕ → ValType → Bool
may_be_of None t = true
may_be_of (Some dim) t = is_integer t

-- a dimension is not nullable
abbrev pub may_be_null : Option ℕ → Bool → Bool
may_be_null None nullable = true
may_be_null (Some dim) nullable = not nullable

-- the fill of an attribute fits, and that of a dimension is the default fill
abbrev pub may_fill : Option ℕ → ValType → Bool → Val → Bool
may_fill None t nullable fill = fits_of t nullable fill
may_fill (Some dim) t nullable fill = is_eq (val_cmp fill (fill_of t nullable))

-- the name of a field behind others: none of them has it
unfoldable pub field_name_at : List CondField → Place → Read (List ℕ)
field_name_at front = ruled (λ name. not (has_field front name)) label_at

-- the type of a field
unfoldable pub field_type_at : Option ℕ → Place → Read ValType
field_type_at dim = ruled (may_be_of dim) type_at

-- whether the values of a field may be null
unfoldable pub field_null_at : Option ℕ → Place → Read Bool
field_null_at dim = ruled (may_be_null dim) bool_at

-- the fill of a field
unfoldable pub field_fill_at : Option ℕ → ValType → Bool → Place → Read Val
field_fill_at dim t nullable = ruled (may_fill dim t nullable) val_at

-- a field behind others
unfoldable pub field_at : List CondField → Place → Read CondField
field_at front =
    mapped (λ x. record { name = x.0; dim = x.1.0; ty = x.1.1.0; nullable = x.1.1.1.0; fill = x.1.1.1.1 })
    (both (field_name_at front) (λ _. both dim_at (λ dim. both (field_type_at dim) (λ t. both (field_null_at dim) (λ nullable. field_fill_at dim t nullable)))))

-- a condition has from 1 to 72 fields
abbrev pub is_field_count : ℕ → Bool
is_field_count count = nat_le 1 count && nat_le count 72

-- the number of fields
unfoldable pub field_count_at : Place → Read ℕ
field_count_at = ruled is_field_count (number_at 1)

-- the number of fields, and then the fields
unfoldable pub fields_at : Place → Read (List CondField)
fields_at = counted_at field_count_at field_at

-- a field is its name, its dimension or none, its type, whether it is nullable, and its fill
unfoldable pub field_bytes : CondField → List ℕ
field_bytes f = label_bytes f.name ++ (dim_bytes f.dim ++ (type_bytes f.ty ++ (bool_bytes f.nullable ++ val_bytes f.fill)))

-- the number of fields, and then the fields
unfoldable pub fields_bytes : List CondField → List ℕ
fields_bytes fields = number_bytes 1 (length fields) ++ flat_map field_bytes fields

-- the dimension's index, if it is one, is from 0 to 7
abbrev pub is_dim : Option ℕ → Bool
is_dim None = true
is_dim (Some dim) = nat_le dim 7

-- A field fits behind others: none of them has its name.
-- An attribute's fill fits its type. A dimension has an index from 0 to 7 and an integer type, is not nullable, and has the default fill.
pub record FitsField (front : List CondField) (f : CondField) : Type 0 where
  pub label : IsTrue (is_label f.name)
  pub new_name : IsTrue (not (has_field front f.name))
  pub index : IsTrue (is_dim f.dim)
  pub type : IsTrue (may_be_of f.dim f.ty)
  pub null : IsTrue (may_be_null f.dim f.nullable)
  pub value : FitsVal f.fill
  pub default : IsTrue (may_fill f.dim f.ty f.nullable f.fill)

-- ---- what a tree names and holds

-- the fields that a tree names, from left to right
abbrev mutual
  pub indexes : Test → List ℕ
  indexes (All ts) = all_indexes ts
  indexes (Any ts) = all_indexes ts
  indexes (Not t) = indexes t
  indexes (Compare o field val) = field ∷ []
  indexes (Member negated field vals) = field ∷ []
  indexes (IsNull field) = field ∷ []

  pub all_indexes : Tests → List ℕ
  all_indexes no_test = []
  all_indexes (test t ts) = indexes t ++ all_indexes ts

-- the values that a tree holds, each with its field
abbrev mutual
  pub compared : Test → List (ℕ × Val)
  compared (All ts) = all_compared ts
  compared (Any ts) = all_compared ts
  compared (Not t) = compared t
  compared (Compare o field val) = (field, val) ∷ []
  compared (Member negated field vals) = map (λ val. (field, val)) vals
  compared (IsNull field) = []

  pub all_compared : Tests → List (ℕ × Val)
  all_compared no_test = []
  all_compared (test t ts) = compared t ++ all_compared ts

-- how many nodes a tree has, and values of memberships
abbrev mutual
  pub nodes_of : Test → ℕ
  nodes_of (All ts) = 1 + all_nodes ts
  nodes_of (Any ts) = 1 + all_nodes ts
  nodes_of (Not t) = 1 + nodes_of t
  nodes_of (Compare o field val) = 1
  nodes_of (Member negated field vals) = 1 + length vals
  nodes_of (IsNull field) = 1

  pub all_nodes : Tests → ℕ
  all_nodes no_test = 0
  all_nodes (test t ts) = nodes_of t + all_nodes ts

-- how many nodes stand one below the other: a test alone is 1 high
abbrev mutual
  pub height_of : Test → ℕ
  height_of (All ts) = suc (highest ts)
  height_of (Any ts) = suc (highest ts)
  height_of (Not t) = suc (height_of t)
  height_of (Compare o field val) = 1
  height_of (Member negated field vals) = 1
  height_of (IsNull field) = 1

  pub highest : Tests → ℕ
  highest no_test = 0
  highest (test t ts) = max (height_of t) (highest ts)

-- how many tests a list has
abbrev pub count_of : Tests → ℕ
count_of no_test = 0
count_of (test t ts) = suc (count_of ts)

-- each list has two tests or more, and each membership a value or more
abbrev mutual
  pub IsWide : Test → Type 0
  IsWide (All ts) = (2 ≤ count_of ts) × AreWide ts
  IsWide (Any ts) = (2 ≤ count_of ts) × AreWide ts
  IsWide (Not t) = IsWide t
  IsWide (Compare o field val) = Unit {0}
  IsWide (Member negated field vals) = 1 ≤ length vals
  IsWide (IsNull field) = Unit {0}

  pub AreWide : Tests → Type 0
  AreWide no_test = Unit {0}
  AreWide (test t ts) = IsWide t × AreWide ts

-- so many fields are named once this one is, where so many were
abbrev pub more_named : ℕ → ℕ → ℕ
more_named named field = if nat_eq field named then named + 1 else named

-- so many fields are named once these are, where so many were
abbrev pub named_by : ℕ → List ℕ → ℕ
named_by named [] = named
named_by named (field ∷ fields) = named_by (more_named named field) fields

-- each is one of so many fields, and was named before or is the next, where so many were named
abbrev pub AreInTurn : ℕ → ℕ → List ℕ → Type 0
AreInTurn count named [] = Unit {0}
AreInTurn count named (field ∷ fields) = (field < count) × (field ≤ named) × AreInTurn count (more_named named field) fields

-- a value is of a type's kind: an integer, in the range of the type or not, a text in UTF-8, or a blob
abbrev pub is_of_kind : ValType → Val → Bool
is_of_kind t (Int z) = is_integer t
is_of_kind ty.Text (Bytes bytes) = is_utf8 bytes
is_of_kind ty.Blob (Bytes bytes) = true
is_of_kind _ _ = false

-- a value is of the field's kind, if there is the field
abbrev pub suits_field : Option CondField → Val → Bool
suits_field None val = false
suits_field (Some field) val = is_of_kind field.ty val

-- a value is of the kind of its field, and there is room for it
pub record FitsCompared (fields : List CondField) (x : ℕ × Val) : Type 0 where
  pub value : FitsVal x.1
  pub suits : IsTrue (suits_field (slice_get fields x.0) x.1)

-- each value is of the kind of its field
abbrev pub AreCompared : List CondField → List (ℕ × Val) → Type 0
AreCompared fields [] = Unit {0}
AreCompared fields (x ∷ xs) = FitsCompared fields x × AreCompared fields xs

-- ---- trees

-- the number of each tag
abbrev pub tag_code : Tag → ℕ
tag_code AllOf = 1
tag_code AnyOf = 2
tag_code NotOf = 3
tag_code Comparing = 4
tag_code Membership = 5
tag_code Nullness = 6

-- the tags in the order of their numbers, which count from 1
abbrev pub tags : List Tag
tags = AllOf ∷ AnyOf ∷ NotOf ∷ Comparing ∷ Membership ∷ Nullness ∷ []

-- the number is one of a tag
abbrev pub is_tag_code : ℕ → Bool
is_tag_code code = nat_le 1 code && nat_le code 6

-- the tag of a number
abbrev pub tag_of : ℕ → Tag
tag_of code = get_or tags (code - 1) AllOf

-- a tag is its number in one byte
unfoldable pub tag_bytes : Tag → List ℕ
tag_bytes tag = number_bytes 1 (tag_code tag)

-- the tag of a node behind so many nodes and values: there are 1,024 at most
unfoldable pub tag_at : ℕ → Place → Read Tag
tag_at nodes = mapped tag_of (ruled (λ code. is_tag_code code && nat_lt nodes 1024) (number_at 1))

-- the number of each comparison
abbrev pub op_code : CondOp → ℕ
op_code op.Less = 0
op_code op.AtMost = 1
op_code op.Greater = 2
op_code op.AtLeast = 3
op_code op.Equal = 4
op_code op.Unequal = 5

-- the comparisons in the order of their numbers
abbrev pub ops : List CondOp
ops = op.Less ∷ op.AtMost ∷ op.Greater ∷ op.AtLeast ∷ op.Equal ∷ op.Unequal ∷ []

-- the number is one of a comparison
abbrev pub is_op_code : ℕ → Bool
is_op_code code = nat_le code 5

-- the comparison of a number
abbrev pub op_of : ℕ → CondOp
op_of code = get_or ops code op.Less

-- a comparison is its number in one byte
unfoldable pub op_bytes : CondOp → List ℕ
op_bytes o = number_bytes 1 (op_code o)

-- a comparison
unfoldable pub op_at : Place → Read CondOp
op_at = mapped op_of (ruled is_op_code (number_at 1))

-- the index of a field, which was named before or is the next
unfoldable pub index_at : List CondField → ℕ → Place → Read ℕ
index_at fields named = ruled (λ field. nat_lt field (length fields) && nat_le field named) (number_at 1)

-- the value that a field is compared with
unfoldable pub operand_at : Option CondField → Place → Read Val
operand_at field = ruled (suits_field field) val_at

-- a value of a membership behind others, where so many nodes and values stand before them
unfoldable pub member_at : Option CondField → ℕ → List Val → Place → Read Val
member_at field nodes front = ruled (λ val. suits_field field val && nat_lt (nodes + length front) 1024) val_at

-- how many values a membership has: one or more
unfoldable pub member_count_at : Place → Read ℕ
member_count_at = ruled (λ count. nat_le 1 count) (number_at 2)

-- the values of a membership, where so many nodes and values stand before them
unfoldable pub members_at : Option CondField → ℕ → Place → Read (List Val)
members_at field nodes = counted_at member_count_at (member_at field nodes)

-- how many nodes a list has: two or more
unfoldable pub list_count_at : Place → Read ℕ
list_count_at = ruled (λ count. nat_le 2 count) (number_at 2)

-- what was read of a tree: so many fields were named, and there are so many nodes and values of memberships
pub record Walk : Type 0 where
  pub named : ℕ
  pub nodes : ℕ

abbrev pub walk : ℕ → ℕ → Walk
walk named nodes = record { named = named; nodes = nodes }

-- behind the tag of a node
abbrev pub past_tag : Walk → Walk
past_tag w = walk w.named (w.nodes + 1)

-- behind a node
abbrev pub past : Walk → Test → Walk
past w t = walk (named_by w.named (indexes t)) (w.nodes + nodes_of t)

-- behind some nodes
abbrev pub past_all : Walk → List Test → Walk
past_all w front = walk (named_by w.named (all_indexes (tests_from front))) (w.nodes + all_nodes (tests_from front))

-- the nodes of a list, each read by what was read before it
unfoldable pub nodes_at : (Walk → Place → Read Test) → Walk → Place → Read (List Test)
nodes_at node w = counted_at list_count_at (λ front. node (past_all w front))

-- what stands behind the tag of a comparison: how it compares, its field and its value
unfoldable pub compare_at : List CondField → ℕ → Place → Read Test
compare_at fields named =
    mapped (λ x. Compare x.0 x.1.0 x.1.1) (both op_at (λ _. both (index_at fields named) (λ field. operand_at (slice_get fields field))))

-- what stands behind the tag of a membership: whether it is `not in`, its field and its values
unfoldable pub membership_at : List CondField → Walk → Place → Read Test
membership_at fields w =
    mapped (λ x. Member x.0 x.1.0 x.1.1) (both bool_at (λ _. both (index_at fields w.named) (λ field. members_at (slice_get fields field) w.nodes)))

-- what stands behind the tag of a test for null: its field
unfoldable pub null_at : List CondField → ℕ → Place → Read Test
null_at fields named = mapped IsNull (index_at fields named)

-- what stands behind the tag of a node, whose children are read so
unfoldable pub untagged_at : List CondField → (Walk → Place → Read Test) → Walk → Tag → Place → Read Test
untagged_at fields node w AllOf = mapped (λ ts. All (tests_from ts)) (nodes_at node w)
untagged_at fields node w AnyOf = mapped (λ ts. Any (tests_from ts)) (nodes_at node w)
untagged_at fields node w NotOf = mapped Not (node w)
untagged_at fields node w Comparing = compare_at fields w.named
untagged_at fields node w Membership = membership_at fields w
untagged_at fields node w Nullness = null_at fields w.named

-- a node that is so high at most; one that may have no height is broken at its tag
unfoldable pub node_at : List CondField → ℕ → Walk → Place → Read Test
node_at fields zero w p = Err p.at
node_at fields (suc most) w p =
    mapped (λ x. x.1) (both (tag_at w.nodes) (untagged_at fields (λ v. node_at fields most v) (past_tag w))) p

-- a node is its tag, and then: the number of its nodes and the nodes; its node; its comparison, its field and its value; whether it is `not in`, its field, the number of its values and the values; or its field
unfoldable mutual
  pub node_bytes : Test → List ℕ
  node_bytes (All ts) = tag_bytes AllOf ++ (number_bytes 2 (count_of ts) ++ nodes_bytes ts)
  node_bytes (Any ts) = tag_bytes AnyOf ++ (number_bytes 2 (count_of ts) ++ nodes_bytes ts)
  node_bytes (Not t) = tag_bytes NotOf ++ node_bytes t
  node_bytes (Compare o field val) = tag_bytes Comparing ++ (op_bytes o ++ (number_bytes 1 field ++ val_bytes val))
  node_bytes (Member negated field vals) =
      tag_bytes Membership ++ (bool_bytes negated ++ (number_bytes 1 field ++ (number_bytes 2 (length vals) ++ flat_map val_bytes vals)))
  node_bytes (IsNull field) = tag_bytes Nullness ++ number_bytes 1 field

  -- the nodes one after the other
  pub nodes_bytes : Tests → List ℕ
  nodes_bytes no_test = []
  nodes_bytes (test t ts) = node_bytes t ++ nodes_bytes ts

-- how far behind the start of a node its last index stands
abbrev mutual
  pub last_index : Test → ℕ
  last_index (All ts) = 3 + last_of ts
  last_index (Any ts) = 3 + last_of ts
  last_index (Not t) = 1 + last_index t
  last_index (Compare o field val) = 2
  last_index (Member negated field vals) = 2
  last_index (IsNull field) = 1

  -- the same of some nodes, one after the other
  pub last_of : Tests → ℕ
  last_of no_test = 0
  last_of (test t no_test) = last_index t
  last_of (test t (test u us)) = length (node_bytes t) + last_of (test u us)

-- how far behind the start of a tree it is broken where it leaves a field unnamed: at its last index
abbrev pub unnamed_at : List CondField → Test → Option ℕ
unnamed_at fields t = if nat_eq (named_by 0 (indexes t)) (length fields) then None else Some (last_index t)

-- a tree over the fields: it is 67 high at most, and names each of them
unfoldable pub tree_at : List CondField → Place → Read Test
tree_at fields = judged (unnamed_at fields) (node_at fields 67 (walk 0 0))

-- ---- conditions

-- the fields, and then the tree
unfoldable pub cond_at : Place → Read Condition
cond_at = mapped (λ x. record { fields = x.0; root = x.1 }) (both fields_at tree_at)

-- the condition that an object spells, or the offset of its first broken field
unfoldable pub cond_of : List ℕ → Result Condition ℕ
cond_of object = object_at kind.Delete cond_at object

-- the fields, and then the tree
unfoldable pub cond_bytes : Condition → List ℕ
cond_bytes c = fields_bytes c.fields ++ node_bytes c.root

-- the object of a condition
unfoldable pub cond_object : Condition → List ℕ
cond_object c = wrapped kind.Delete (cond_bytes c)

-- A condition that has an object: from 1 to 72 fields, each of which fits behind those before it; and a tree that names them in turn,
-- and all of them, whose values are of the kinds of their fields, whose lists have two nodes or more and whose memberships have a value
-- or more, and that is at most 67 high and has at most 1,024 nodes and values of memberships.
pub record IsCond (c : Condition) : Type 0 where
  pub count : IsTrue (is_field_count (length c.fields))
  pub each : InTurn FitsField [] c.fields
  pub in_turn : AreInTurn (length c.fields) 0 (indexes c.root)
  pub named : named_by 0 (indexes c.root) ≡ length c.fields
  pub vals : AreCompared c.fields (compared c.root)
  pub wide : IsWide c.root
  pub height : height_of c.root ≤ 67
  pub nodes : nodes_of c.root ≤ 1024

-- the fields of an array, as conditions name them: 72 at most, each of which fits behind those before it
pub record AreFields (fields : List CondField) : Type 0 where
  pub count : length fields ≤ 72
  pub each : InTurn FitsField [] fields
