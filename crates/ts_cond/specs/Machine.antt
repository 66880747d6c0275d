-- How a condition is read token by token: what may stand where, how deep and how large it is, and the tree that it spells.
use Rattle.std.specs.Prelude.{ℕ, not, zero, suc, ◌+◌, Bool, true, false, nat_eq, nat_lt, if◌then◌else◌, List, [], ◌∷◌, ◌++◌, length, take, drop, Option, Some, None, Result, Ok, Err, slice_get}
use Rattle.std.specs.Cmp.Lexicographic.{pointwise}
use Rattle.ts_base.specs.declared.values.Val.{Val}
use Rattle.ts_base.specs.declared.values.Val.TheVariants as val
use Rattle.ts_base.specs.declared.values.ValType.{ValType}
use Rattle.ts_base.specs.declared.values.ValType.TheVariants as ty
use Rattle.ts_base.specs.Values.{is_integer}
use Rattle.ts_cond.specs.declared.faults.CondFault.{CondFault}
use Rattle.ts_cond.specs.declared.faults.CondFault.TheVariants as fault
use Rattle.ts_cond.specs.declared.fields.CondField.{CondField}
use Rattle.ts_cond.specs.declared.machine.Expect.{Expect}
use Rattle.ts_cond.specs.declared.machine.Expect.TheVariants as expect
use Rattle.ts_cond.specs.declared.naming.Naming.{Naming}
use Rattle.ts_cond.specs.declared.machine.Wrong.{Wrong}
use Rattle.ts_cond.specs.declared.machine.Wrong.TheVariants as wrong
use Rattle.ts_cond.specs.declared.nodes.CondOp.{CondOp}
use Rattle.ts_cond.specs.declared.nodes.CondOp.TheVariants as op
use Rattle.ts_cond.specs.Tests.{Test, Tests, no_test, test, Condition}
use Rattle.ts_cond.specs.Tests as tree
use Rattle.ts_cond.specs.Tokens.{Kind, Open, Close, Comma, And, Or, Not, In, Is, Null, Compares, Label, Number, Text, Blob, Scan, End, Bad, Then, tokens_of, unquoted, unhexed}

-- the fault that came first stays
abbrev pub first : Option CondFault → CondFault → Option CondFault
first None fault = Some fault
first (Some before) fault = Some before

-- the place of the field with this name; `place` fields stand before these
abbrev pub named_from : ℕ → List ℕ → List CondField → Option ℕ
named_from place name [] = None
named_from place name (field ∷ fields) = if pointwise nat_eq field.name name then Some place else named_from (place + 1) name fields

-- the field at this place is taken out of those that were not named
abbrev pub newly_named : ℕ → Option CondField → Naming → Naming
newly_named place (Some field) naming = record { used = naming.used ++ field ∷ []; unused = take place naming.unused ++ drop (place + 1) naming.unused; clash = naming.clash }
newly_named place None naming = naming

-- a field that was not named before: its place is behind those that were
abbrev pub newly : Option ℕ → List ℕ → Naming → ℕ × Naming
newly (Some place) name naming = (length naming.used, newly_named place (slice_get naming.unused place) naming)
newly None name naming = (0, record { used = naming.used; unused = naming.unused; clash = first naming.clash (fault.UnknownField name) })

abbrev pub meets_by : Option ℕ → List ℕ → Naming → ℕ × Naming
meets_by (Some place) name naming = (place, naming)
meets_by None name naming = newly (named_from 0 name naming.unused) name naming

-- a field is named: its place among the fields that were named
abbrev pub meets : List ℕ → Naming → ℕ × Naming
meets name naming = meets_by (named_from 0 name naming.used) name naming

-- whether a value that is spelled so is of a type's kind
abbrev pub suits : ValType → Kind → Bool
suits ty.Text (Text raw) = true
suits ty.Blob (Blob digits) = true
suits t (Number z) = is_integer t
suits _ _ = false

abbrev pub judged : Option CondField → Kind → Naming → Naming
judged None kind naming = naming
judged (Some field) kind naming =
    if suits field.ty kind then naming else record { used = naming.used; unused = naming.unused; clash = first naming.clash (fault.TypeClash field.name) }

-- a value is compared with the field at this place
abbrev pub judges : ℕ → Kind → Naming → Naming
judges field kind naming = judged (slice_get naming.used field) kind naming

-- a list of tests as the tests of one node
abbrev pub tests_from : List Test → Tests
tests_from [] = no_test
tests_from (t ∷ ts) = test t (tests_from ts)

-- one test is itself, more are a list
abbrev pub gathered : (Tests → Test) → List Test → Test
gathered make (t ∷ []) = t
gathered make ts = make (tests_from ts)

-- a test under so many `not`
abbrev pub under : ℕ → Test → Test
under zero t = t
under (suc n) t = tree.Not (under n t)

-- a pair of parentheses that is open, or the whole text: the terms that are whole, the facts of the term that is not, the `not` before the next fact, and how many parentheses and `not` are open around
pub record Group : Type 0 where
  pub terms : List Test
  pub facts : List Test
  pub nots : ℕ
  pub depth : ℕ

abbrev pub group_at : ℕ → Group
group_at depth = record { terms = []; facts = []; nots = 0; depth = depth }

-- how deep the next fact stands
abbrev pub depth_in : Group → ℕ
depth_in l = l.depth + l.nots

-- the tree of a group whose text is whole
abbrev pub closed : Group → Test
closed l = gathered tree.Any (l.terms ++ gathered tree.All l.facts ∷ [])

-- a fact is whole
abbrev pub with_fact : Test → Group → Group
with_fact t l = record { terms = l.terms; facts = l.facts ++ under l.nots t ∷ []; nots = 0; depth = l.depth }

-- a term is whole
abbrev pub with_term : Group → Group
with_term l = record { terms = l.terms ++ gathered tree.All l.facts ∷ []; facts = []; nots = 0; depth = l.depth }

abbrev pub with_not : Group → Group
with_not l = record { terms = l.terms; facts = l.facts; nots = suc l.nots; depth = l.depth }

-- what was read: what is expected next; the innermost group and those around it; the nodes; the fields that were named; and of the test that is not whole its field, operator, negation and values
pub record Reading : Type 0 where
  pub expects : Expect
  pub group : Group
  pub outer : List Group
  pub nodes : ℕ
  pub naming : Naming
  pub field : ℕ
  pub op : CondOp
  pub negated : Bool
  pub vals : List Val

-- whether the token may stand there
abbrev pub stands : Expect → Bool → Kind → Bool
stands expect.Fact within Not = true
stands expect.Fact within Open = true
stands expect.Fact within (Label name) = true
stands expect.Verb within (Compares op) = true
stands expect.Verb within Not = true
stands expect.Verb within In = true
stands expect.Verb within Is = true
stands expect.Operand within (Number z) = true
stands expect.Operand within (Text raw) = true
stands expect.Operand within (Blob digits) = true
stands expect.Within within In = true
stands expect.Members within Open = true
stands expect.Member within (Number z) = true
stands expect.Member within (Text raw) = true
stands expect.Member within (Blob digits) = true
stands expect.MoreMembers within Comma = true
stands expect.MoreMembers within Close = true
stands expect.Nothing within Null = true
stands expect.Joint within And = true
stands expect.Joint within Or = true
stands expect.Joint within Close = within
stands _ _ _ = false

-- the same reading, where another token is expected
abbrev pub expecting : Expect → Reading → Reading
expecting e r = record r { expects = e }

-- a fact is whole
abbrev pub fact_ends : Test → Reading → Reading
fact_ends t r = record r { expects = expect.Joint; group = with_fact t r.group }

-- `and` counts a list where its term has one fact so far
abbrev pub list_begins : List Test → ℕ
list_begins (t ∷ []) = 1
list_begins _ = 0

-- `or` counts a list where there is no whole term yet
abbrev pub choice_begins : List Test → ℕ
choice_begins [] = 1
choice_begins _ = 0

abbrev pub opened : Expect → Reading → Reading
opened expect.Fact r = record r { group = group_at (depth_in r.group + 1); outer = r.group ∷ r.outer }
opened _ r = expecting expect.Member r

abbrev pub left : List Group → Test → Reading → Reading
left [] t r = r
left (l ∷ outer) t r = record r { expects = expect.Joint; group = with_fact t l; outer = outer }

abbrev pub shut : Expect → Reading → Reading
shut expect.MoreMembers r = fact_ends (tree.Member r.negated r.field r.vals) r
shut _ r = left r.outer (closed r.group) r

abbrev pub denied : Expect → Reading → Reading
denied expect.Fact r = record r { group = with_not r.group; nodes = r.nodes + 1 }
denied _ r = record r { expects = expect.Within; negated = true }

abbrev pub named : List ℕ → Reading → Reading
named name r = record r {
  expects = expect.Verb;
  nodes = r.nodes + 1;
  naming = (meets name r.naming).1;
  field = (meets name r.naming).0;
  negated = false;
  vals = [];
}

abbrev pub valued : Expect → Kind → Val → Reading → Reading
valued expect.Operand kind v r = fact_ends (tree.Compare r.op r.field v) (record r { naming = judges r.field kind r.naming })
valued _ kind v r = record r { expects = expect.MoreMembers; nodes = r.nodes + 1; naming = judges r.field kind r.naming; vals = r.vals ++ v ∷ [] }

-- what was read, with one token more that may stand there
abbrev pub moved : Kind → Reading → Reading
moved Open r = opened r.expects r
moved Close r = shut r.expects r
moved Comma r = expecting expect.Member r
moved Not r = denied r.expects r
moved And r = record r { expects = expect.Fact; nodes = r.nodes + list_begins r.group.facts }
moved Or r = record r { expects = expect.Fact; nodes = r.nodes + choice_begins r.group.terms; group = with_term r.group }
moved In r = expecting expect.Members r
moved Is r = expecting expect.Nothing r
moved Null r = fact_ends (tree.IsNull r.field) r
moved (Compares op) r = record r { expects = expect.Operand; op = op }
moved (Label name) r = named name r
moved (Number z) r = valued r.expects (Number z) (val.Int z) r
moved (Text raw) r = valued r.expects (Text raw) (val.Bytes (unquoted false raw)) r
moved (Blob digits) r = valued r.expects (Blob digits) (val.Bytes (unhexed digits)) r

-- at most 32 parentheses and `not` are open, and there are at most 1,024 nodes
abbrev pub within : Reading → Result Reading Wrong
within r = if nat_lt 32 (depth_in r.group) then Err wrong.TooDeep else (if nat_lt 1024 r.nodes then Err wrong.TooLarge else Ok r)

abbrev pub is_inside : List Group → Bool
is_inside [] = false
is_inside (l ∷ outer) = true

-- one token more: it may not stand there, or it is too deep, or there are too many nodes, in this order
abbrev pub step : Kind → Reading → Result Reading Wrong
step kind r = if stands r.expects (is_inside r.outer) kind then within (moved kind r) else Err wrong.Syntax

-- the fault, at the token with this offset
abbrev pub at_token : ℕ → Wrong → CondFault
at_token at wrong.Syntax = fault.Syntax at
at_token at wrong.TooDeep = fault.TooDeep
at_token at wrong.TooLarge = fault.TooLarge
at_token at wrong.OutOfMemory = fault.OutOfMemory

-- what comes after a step
abbrev pub after : Result Reading Wrong → ℕ → (Reading → Result Reading CondFault) → Result Reading CondFault
after (Ok r) at next = next r
after (Err wrong) at next = Err (at_token at wrong)

-- what stands at the front, if it is a token
abbrev pub front_step : Option Kind → ℕ → Reading → Result Reading CondFault
front_step None at r = Ok r
front_step (Some kind) at r = after (step kind r) at Ok

-- the text may end here
abbrev pub may_end : Expect → List Group → Bool
may_end expect.Joint outer = not (is_inside outer)
may_end _ outer = false

-- what the tokens say, or the first fault among them
unfoldable pub reads : Reading → Scan → Result Reading CondFault
reads r (End at) = if may_end r.expects r.outer then Ok r else Err (fault.Syntax at)
reads r (Bad at) = Err (fault.Syntax at)
reads r (Then kind at rest) = after (step kind r) at (λ s. reads s rest)

-- before the first token
abbrev pub start : List CondField → Reading
start fields = record {
  expects = expect.Fact;
  group = group_at 0;
  outer = [];
  nodes = 0;
  naming = record { used = []; unused = fields; clash = None };
  field = 0;
  op = op.Equal;
  negated = false;
  vals = [];
}

-- the condition whose text was read whole, unless its tests clash with the fields
abbrev pub settled_by : Option CondFault → Reading → Result Condition CondFault
settled_by (Some fault) r = Err fault
settled_by None r = Ok (record { fields = r.naming.used; root = closed r.group })

abbrev pub settled : Result Reading CondFault → Result Condition CondFault
settled (Ok r) = settled_by r.naming.clash r
settled (Err fault) = Err fault

-- the condition that a text spells over these fields, or the fault
abbrev pub parsed : List ℕ → List CondField → Result Condition CondFault
parsed text fields = settled (reads (start fields) (tokens_of text))
