-- The grammar of conditions, apart from how they are read: a syntax tree, its tokens, and what it means.
use Rattle.std.specs.Prelude.{◌≡◌, ℕ, ℤ, Bool, true, false, List, [], ◌∷◌, map, Result, Ok, Err, Option, Some, None}
use Rattle.ts_base.specs.declared.values.Val.{Val}
use Rattle.ts_base.specs.declared.values.Val.TheVariants as val
use Rattle.ts_cond.specs.declared.faults.CondFault.{CondFault}
use Rattle.ts_cond.specs.declared.fields.CondField.{CondField}
use Rattle.ts_cond.specs.declared.naming.Naming.{Naming}
use Rattle.ts_cond.specs.declared.nodes.CondOp.{CondOp}
use Rattle.ts_cond.specs.Machine.{meets, judges, gathered}
use Rattle.ts_cond.specs.Tests.{Test, Condition}
use Rattle.ts_cond.specs.Tests as tree
use Rattle.ts_cond.specs.Tokens.{Kind, Open, Close, Comma, And, Or, Not, In, Is, Null, Compares, Label, Number, Text, Blob, Scan, End, Then, tokens_of, unquoted, unhexed}

-- a value as it is written
pub data Value : Type 0 where
  number : ℤ → Value
  text : List ℕ → Value
  blob : List ℕ → Value

abbrev pub kind_of : Value → Kind
kind_of (number z) = Number z
kind_of (text raw) = Text raw
kind_of (blob digits) = Blob digits

abbrev pub val_of : Value → Val
val_of (number z) = val.Int z
val_of (text raw) = val.Bytes (unquoted false raw)
val_of (blob digits) = val.Bytes (unhexed digits)

-- cond = term { "or" term }, term = fact { "and" fact }, fact = "not" fact | "(" cond ")" | test
mutual
  pub data Cond : Type 0 where
    term : Term → Cond
    or : Term → Cond → Cond

  pub data Term : Type 0 where
    fact : Fact → Term
    and : Fact → Term → Term

  pub data Fact : Type 0 where
    not_of : Fact → Fact
    paren : Cond → Fact
    compare : List ℕ → CondOp → Value → Fact
    member : List ℕ → Bool → Value → List Value → Fact
    is_null : List ℕ → Fact

-- more values of a membership, each behind a comma, and then others
abbrev pub values_then : List Value → List Kind → List Kind
values_then [] rest = Close ∷ rest
values_then (v ∷ vs) rest = Comma ∷ kind_of v ∷ values_then vs rest

-- `in`, or `not in`
abbrev pub in_then : Bool → List Kind → List Kind
in_then false rest = In ∷ rest
in_then true rest = Not ∷ In ∷ rest

-- the tokens of a tree, and then others
abbrev mutual
  pub cond_then : Cond → List Kind → List Kind
  cond_then (term t) rest = term_then t rest
  cond_then (or t c) rest = term_then t (Or ∷ cond_then c rest)

  pub term_then : Term → List Kind → List Kind
  term_then (fact f) rest = fact_then f rest
  term_then (and f t) rest = fact_then f (And ∷ term_then t rest)

  pub fact_then : Fact → List Kind → List Kind
  fact_then (not_of f) rest = Not ∷ fact_then f rest
  fact_then (paren c) rest = Open ∷ cond_then c (Close ∷ rest)
  fact_then (compare name op v) rest = Label name ∷ Compares op ∷ kind_of v ∷ rest
  fact_then (member name negated v vs) rest = Label name ∷ in_then negated (Open ∷ kind_of v ∷ values_then vs rest)
  fact_then (is_null name) rest = Label name ∷ Is ∷ Null ∷ rest

-- the values of a membership are compared with its field
abbrev pub all_judged : ℕ → List Value → Naming → Naming
all_judged field [] naming = naming
all_judged field (v ∷ vs) naming = all_judged field vs (judges field (kind_of v) naming)

-- what a tree means, where these fields were named before: a test, or a list of them, and the fields that are named by then
abbrev mutual
  pub terms_of : Cond → Naming → List Test × Naming
  terms_of (term t) naming = (gathered tree.All (facts_of t naming).0 ∷ [], (facts_of t naming).1)
  terms_of (or t c) naming = (gathered tree.All (facts_of t naming).0 ∷ (terms_of c (facts_of t naming).1).0, (terms_of c (facts_of t naming).1).1)

  pub facts_of : Term → Naming → List Test × Naming
  facts_of (fact f) naming = ((test_in f naming).0 ∷ [], (test_in f naming).1)
  facts_of (and f t) naming = ((test_in f naming).0 ∷ (facts_of t (test_in f naming).1).0, (facts_of t (test_in f naming).1).1)

  pub test_in : Fact → Naming → Test × Naming
  test_in (not_of f) naming = (tree.Not (test_in f naming).0, (test_in f naming).1)
  test_in (paren c) naming = (gathered tree.Any (terms_of c naming).0, (terms_of c naming).1)
  test_in (compare name op v) naming = (tree.Compare op (meets name naming).0 (val_of v), judges (meets name naming).0 (kind_of v) (meets name naming).1)
  test_in (member name negated v vs) naming = (tree.Member negated (meets name naming).0 (map val_of (v ∷ vs)), all_judged (meets name naming).0 (v ∷ vs) (meets name naming).1)
  test_in (is_null name) naming = (tree.IsNull (meets name naming).0, (meets name naming).1)

-- the text's tokens are these, and each byte of it belongs to one, or is a blank
abbrev pub AreKinds : Scan → List Kind → Type 0
AreKinds (End at) [] = Unit {0}
AreKinds (Then kind at rest) (k ∷ ks) = (kind ≡ k) × AreKinds rest ks
AreKinds _ _ = ⊥

-- the text spells the tree
abbrev pub IsSpelled : List ℕ → Cond → Type 0
IsSpelled bytes c = AreKinds (tokens_of bytes) (cond_then c [])

abbrev pub concluded : Option CondFault → Test → List CondField → Result Condition CondFault
concluded (Some fault) t fields = Err fault
concluded None t fields = Ok (record { fields = fields; root = t })

-- what a tree means over these fields: a condition, or the fault of the first test that has one
abbrev pub meant : List CondField → Cond → Result Condition CondFault
meant fields c =
    let found = terms_of c (record { used = []; unused = fields; clash = None }) in
    concluded found.1.clash (gathered tree.Any found.0) found.1.used
