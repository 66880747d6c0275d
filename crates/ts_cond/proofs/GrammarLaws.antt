-- What is in the grammar is read, with no limits, as what it means; as deep and as large as its tree is.
use Rattle.std.proofs.Common.{◌≡◌, ◌≤◌, refl, sym, subst, ap, ◌∙◌, ℕ, zero, suc, ◌+◌, max, Bool, true, false, if◌then◌else◌, List, [], ◌∷◌, ◌++◌, map, length, Option, Some, None, arith}
use Rattle.ts_base.specs.declared.values.Val.{Val}
use Rattle.ts_cond.specs.declared.fields.CondField.{CondField}
use Rattle.ts_cond.specs.declared.machine.Expect.{Expect}
use Rattle.ts_cond.specs.declared.machine.Expect.TheVariants as expect
use Rattle.ts_cond.specs.declared.naming.Naming.{Naming}
use Rattle.ts_cond.specs.declared.nodes.CondOp.{CondOp}
use Rattle.ts_cond.specs.Grammar.{Value, number, text, blob, kind_of, val_of, Cond, term, or, Term, fact, and, Fact, not_of, paren, compare, member, is_null, values_then, cond_then, term_then, fact_then, all_judged, terms_of, facts_of, test_in}
use Rattle.ts_cond.specs.Limits.{depth_of, term_depth, fact_depth, nodes_of, terms_nodes, term_nodes, facts_nodes, fact_nodes}
use Rattle.ts_cond.specs.Machine.{Group, Reading, stands, moved, valued, is_inside, judges, meets, with_fact, with_not, gathered, depth_in, under, may_end, list_begins, choice_begins, start}
use Rattle.ts_cond.specs.Tests.{Test}
use Rattle.ts_cond.specs.Tests as tree
use Rattle.ts_cond.specs.Tokens.{Kind, Open, Close, Comma, And, Or, Not, In, Is, Null, Compares, Label}

-- what was read, where what is left of a test that is whole does not matter
pub record Rest : Type 0 where
  pub nodes : ℕ
  pub field : ℕ
  pub op : CondOp
  pub negated : Bool
  pub vals : List Val

abbrev pub reading : Expect → Group → List Group → Naming → Rest → Reading
reading e l o m x = record { expects = e; group = l; outer = o; nodes = x.nodes; naming = m; field = x.field; op = x.op; negated = x.negated; vals = x.vals }

-- the tokens read one after another, with no limits
unfoldable pub goes : Reading → List Kind → Option Reading
goes r [] = if may_end r.expects r.outer then Some r else None
goes r (k ∷ ks) = if stands r.expects (is_inside r.outer) k then goes (moved k r) ks else None

-- how deep it is on the way, where it is deepest
unfoldable pub deepest : Reading → List Kind → ℕ
deepest r [] = depth_in r.group
deepest r (k ∷ ks) = max (depth_in r.group) (deepest (moved k r) ks)

-- how many nodes there are on the way, where they are most
unfoldable pub largest : Reading → List Kind → ℕ
largest r [] = r.nodes
largest r (k ∷ ks) = max r.nodes (largest (moved k r) ks)

-- from one reading to a whole fact, whatever follows: with so many nodes, and so deep on the way
pub record Lands (front : List Kind → List Kind) (r : Reading) (l : Group) (o : List Group) (m : Naming) (n d : ℕ) : Type 0 where
  pub left : Rest
  pub count : left.nodes ≡ n
  pub lands : (rest : List Kind) → goes r (front rest) ≡ goes (reading expect.Joint l o m left) rest
  pub deep : (rest : List Kind) → deepest r (front rest) ≡ max d (deepest (reading expect.Joint l o m left) rest)
  pub large : (rest : List Kind) → largest r (front rest) ≡ max n (largest (reading expect.Joint l o m left) rest)

abbrev rest_of : ℕ → ℕ → CondOp → Bool → List Val → Rest
rest_of nodes field op negated vals = record { nodes = nodes; field = field; op = op; negated = negated; vals = vals }

-- a group with no `not` before the next fact
abbrev lv : List Test → List Test → ℕ → Group
lv ts fs d = record { terms = ts; facts = fs; nots = 0; depth = d }

pub one_more : {A : Type 0} (xs : List A) (y : A) (ys : List A) → (xs ++ y ∷ []) ++ ys ≡ xs ++ y ∷ ys
one_more [] y ys = refl
one_more (x ∷ xs) y ys = ap (λ zs. x ∷ zs) (one_more xs y ys)

pub no_more : {A : Type 0} (xs : List A) → xs ++ [] ≡ xs
no_more [] = refl
no_more (x ∷ xs) = ap (λ zs. x ∷ zs) (no_more xs)

under_swap : (n : ℕ) (t : Test) → tree.Not (under n t) ≡ under n (tree.Not t)
under_swap zero t = refl
under_swap (suc n) t = ap tree.Not (under_swap n t)

as_deep : (front : List Kind → List Kind) (r : Reading) (l : Group) (o : List Group) (m : Naming) (n d p : ℕ) → d ≡ p → Lands front r l o m n d → Lands front r l o m n p
as_deep front r l o m n d p e x = subst (λ k. Lands front r l o m n k) e x

-- one token, and then the others
begun : (k : Kind) (front : List Kind → List Kind) (r next : Reading) (l : Group) (o : List Group) (m : Naming) (n d : ℕ)
    → stands r.expects (is_inside r.outer) k ≡ true → moved k r ≡ next → r.nodes ≤ n → depth_in r.group ≤ d
    → Lands front next l o m n d → Lands (λ rest. k ∷ front rest) r l o m n d
unfolding goes deepest largest
begun k front r next l o m n d may moves fewer higher x = record {
  left = x.left;
  count = x.count;
  lands = λ rest. ap (λ b. if b then goes (moved k r) (front rest) else None) may ∙ ap (λ s. goes s (front rest)) moves ∙ x.lands rest;
  deep = λ rest.
      let e : deepest (moved k r) (front rest) ≡ max d (deepest (reading expect.Joint l o m x.left) rest) = ap (λ s. deepest s (front rest)) moves ∙ x.deep rest in
      omega arith;
  large = λ rest.
      let e : largest (moved k r) (front rest) ≡ max n (largest (reading expect.Joint l o m x.left) rest) = ap (λ s. largest s (front rest)) moves ∙ x.large rest in
      omega arith;
}

-- the last token of a test
last : (k : Kind) (r : Reading) (l : Group) (o : List Group) (m : Naming) (x : Rest) (n d : ℕ)
    → stands r.expects (is_inside r.outer) k ≡ true → moved k r ≡ reading expect.Joint l o m x → x.nodes ≡ n → n ≡ r.nodes → d ≡ depth_in r.group
    → Lands (λ rest. k ∷ rest) r l o m n d
unfolding goes deepest largest
last k r l o m x n d may moves count same group = record {
  left = x;
  count = count;
  lands = λ rest. ap (λ b. if b then goes (moved k r) rest else None) may ∙ ap (λ s. goes s rest) moves;
  deep = λ rest.
      let e : deepest (moved k r) rest ≡ deepest (reading expect.Joint l o m x) rest = ap (λ s. deepest s rest) moves in
      omega arith;
  large = λ rest.
      let e : largest (moved k r) rest ≡ largest (reading expect.Joint l o m x) rest = ap (λ s. largest s rest) moves in
      omega arith;
}

-- a whole fact, and one token that ends the fact around it
shuts : (k : Kind) (front : List Kind → List Kind) (r : Reading) (l next : Group) (o outer : List Group) (m : Naming) (n d : ℕ) (x : Lands front r l o m n d)
    → stands expect.Joint (is_inside o) k ≡ true → moved k (reading expect.Joint l o m x.left) ≡ reading expect.Joint next outer m x.left → depth_in l ≤ d
    → Lands (λ rest. front (k ∷ rest)) r next outer m n d
unfolding goes deepest largest
shuts k front r l next o outer m n d x may moves higher =
    let s = reading expect.Joint l o m x.left in
    let t = reading expect.Joint next outer m x.left in
    record {
      left = x.left;
      count = x.count;
      lands = λ rest. x.lands (k ∷ rest) ∙ ap (λ b. if b then goes (moved k s) rest else None) may ∙ ap (λ u. goes u rest) moves;
      deep = λ rest.
          let e : deepest (moved k s) rest ≡ deepest t rest = ap (λ u. deepest u rest) moves in
          omega (arith, x.deep (k ∷ rest));
      large = λ rest.
          let e : largest (moved k s) rest ≡ largest t rest = ap (λ u. largest u rest) moves in
          omega (arith, x.large (k ∷ rest), x.count);
    }

-- a whole fact, what joins it to the next, and the next
both : (k : Kind) (first second : List Kind → List Kind) (r next : Reading) (l after : Group) (o : List Group) (m naming : Naming) (n total d inner higher : ℕ)
    (x : Lands first r l o m n d) → stands expect.Joint (is_inside o) k ≡ true → moved k (reading expect.Joint l o m x.left) ≡ next
    → n ≤ total → depth_in l ≤ inner → higher ≡ max d inner
    → Lands second next after o naming total inner → Lands (λ rest. first (k ∷ second rest)) r after o naming total higher
unfolding goes deepest largest
both k first second r next l after o m naming n total d inner higher x may moves fewer flat high y =
    let s = reading expect.Joint l o m x.left in
    record {
      left = y.left;
      count = y.count;
      lands = λ rest. x.lands (k ∷ second rest) ∙ ap (λ b. if b then goes (moved k s) (second rest) else None) may ∙ ap (λ u. goes u (second rest)) moves ∙ y.lands rest;
      deep = λ rest.
          let e : deepest (moved k s) (second rest) ≡ max inner (deepest (reading expect.Joint after o naming y.left) rest) = ap (λ u. deepest u (second rest)) moves ∙ y.deep rest in
          omega (arith, x.deep (k ∷ second rest));
      large = λ rest.
          let e : largest (moved k s) (second rest) ≡ max total (largest (reading expect.Joint after o naming y.left) rest) = ap (λ u. largest u (second rest)) moves ∙ y.large rest in
          omega (arith, x.large (k ∷ second rest), x.count);
    }

-- a value is read as such
operand_stands : (v : Value) (inside : Bool) → stands expect.Operand inside (kind_of v) ≡ true
operand_stands (number z) inside = refl
operand_stands (text raw) inside = refl
operand_stands (blob digits) inside = refl

member_stands : (v : Value) (inside : Bool) → stands expect.Member inside (kind_of v) ≡ true
member_stands (number z) inside = refl
member_stands (text raw) inside = refl
member_stands (blob digits) inside = refl

value_moves : (v : Value) (r : Reading) → moved (kind_of v) r ≡ valued r.expects (kind_of v) (val_of v) r
value_moves (number z) r = refl
value_moves (text raw) r = refl
value_moves (blob digits) r = refl

-- more values
values_land : (vs : List Value) (l : Group) (o : List Group) (m : Naming) (x : Rest) (n : ℕ) → n ≡ x.nodes + length vs
    → Lands (values_then vs) (reading expect.MoreMembers l o m x) (with_fact (tree.Member x.negated x.field (x.vals ++ map val_of vs)) l) o (all_judged x.field vs m) n (depth_in l)
values_land [] l o m x n count =
    subst (λ vals. Lands (values_then []) (reading expect.MoreMembers l o m x) (with_fact (tree.Member x.negated x.field vals) l) o m n (depth_in l)) (sym (no_more x.vals))
    (last Close (reading expect.MoreMembers l o m x) (with_fact (tree.Member x.negated x.field x.vals) l) o m x n (depth_in l) refl refl (omega arith) (omega arith) refl)
values_land (v ∷ vs) l o m x n count =
    let naming = judges x.field (kind_of v) m in
    let y = rest_of (x.nodes + 1) x.field x.op x.negated (x.vals ++ val_of v ∷ []) in
    let end : Group = with_fact (tree.Member x.negated x.field ((x.vals ++ val_of v ∷ []) ++ map val_of vs)) l in
    subst (λ vals. Lands (values_then (v ∷ vs)) (reading expect.MoreMembers l o m x) (with_fact (tree.Member x.negated x.field vals) l) o (all_judged x.field (v ∷ vs) m) n (depth_in l)) (one_more x.vals (val_of v) (map val_of vs))
    (begun Comma (λ rest. kind_of v ∷ values_then vs rest) (reading expect.MoreMembers l o m x) (reading expect.Member l o m x) end o (all_judged x.field vs naming) n (depth_in l) refl refl (omega arith) (omega arith)
    (begun (kind_of v) (values_then vs) (reading expect.Member l o m x) (reading expect.MoreMembers l o naming y) end o (all_judged x.field vs naming) n (depth_in l) (member_stands v (is_inside o)) (value_moves v (reading expect.Member l o m x)) (omega arith) (omega arith)
    (values_land vs l o naming y n (omega arith))))

-- the values of a membership
listed_land : (v : Value) (vs : List Value) (l : Group) (o : List Group) (m : Naming) (x : Rest) (n : ℕ) → n ≡ x.nodes + (1 + length vs) → x.vals ≡ []
    → Lands (λ rest. Open ∷ kind_of v ∷ values_then vs rest) (reading expect.Members l o m x) (with_fact (tree.Member x.negated x.field (map val_of (v ∷ vs))) l) o (all_judged x.field (v ∷ vs) m) n (depth_in l)
listed_land v vs l o m x n count none =
    let naming = judges x.field (kind_of v) m in
    let y = rest_of (x.nodes + 1) x.field x.op x.negated (val_of v ∷ []) in
    let end : Group = with_fact (tree.Member x.negated x.field (map val_of (v ∷ vs))) l in
    let known : moved (kind_of v) (reading expect.Member l o m x) ≡ reading expect.MoreMembers l o naming y =
    value_moves v (reading expect.Member l o m x) ∙ ap (λ vals. reading expect.MoreMembers l o naming (rest_of (x.nodes + 1) x.field x.op x.negated (vals ++ val_of v ∷ []))) none
    in
    begun Open (λ rest. kind_of v ∷ values_then vs rest) (reading expect.Members l o m x) (reading expect.Member l o m x) end o (all_judged x.field (v ∷ vs) m) n (depth_in l) refl refl (omega arith) (omega arith)
    (begun (kind_of v) (values_then vs) (reading expect.Member l o m x) (reading expect.MoreMembers l o naming y) end o (all_judged x.field vs naming) n (depth_in l) (member_stands v (is_inside o)) known (omega arith) (omega arith)
    (values_land vs l o naming y n (omega arith)))

member_lands : (name : List ℕ) (negated : Bool) (v : Value) (vs : List Value) (l : Group) (o : List Group) (m : Naming) (x : Rest) (n : ℕ) → n ≡ x.nodes + (1 + (1 + length vs))
    → Lands (fact_then (member name negated v vs)) (reading expect.Fact l o m x) (with_fact (test_in (member name negated v vs) m).0 l) o (test_in (member name negated v vs) m).1 n (depth_in l)
member_lands name false v vs l o m x n count =
    let field = (meets name m).0 in
    let naming = (meets name m).1 in
    let y = rest_of (x.nodes + 1) field x.op false [] in
    let end : Group = with_fact (tree.Member false field (map val_of (v ∷ vs))) l in
    let whole : Naming = all_judged field (v ∷ vs) naming in
    begun (Label name) (λ rest. In ∷ Open ∷ kind_of v ∷ values_then vs rest) (reading expect.Fact l o m x) (reading expect.Verb l o naming y) end o whole n (depth_in l) refl refl (omega arith) (omega arith)
    (begun In (λ rest. Open ∷ kind_of v ∷ values_then vs rest) (reading expect.Verb l o naming y) (reading expect.Members l o naming y) end o whole n (depth_in l) refl refl (omega arith) (omega arith)
    (listed_land v vs l o naming y n (omega arith) refl))
member_lands name true v vs l o m x n count =
    let field = (meets name m).0 in
    let naming = (meets name m).1 in
    let y = rest_of (x.nodes + 1) field x.op false [] in
    let z = rest_of (x.nodes + 1) field x.op true [] in
    let end : Group = with_fact (tree.Member true field (map val_of (v ∷ vs))) l in
    let whole : Naming = all_judged field (v ∷ vs) naming in
    begun (Label name) (λ rest. Not ∷ In ∷ Open ∷ kind_of v ∷ values_then vs rest) (reading expect.Fact l o m x) (reading expect.Verb l o naming y) end o whole n (depth_in l) refl refl (omega arith) (omega arith)
    (begun Not (λ rest. In ∷ Open ∷ kind_of v ∷ values_then vs rest) (reading expect.Verb l o naming y) (reading expect.Within l o naming z) end o whole n (depth_in l) refl refl (omega arith) (omega arith)
    (begun In (λ rest. Open ∷ kind_of v ∷ values_then vs rest) (reading expect.Within l o naming z) (reading expect.Members l o naming z) end o whole n (depth_in l) refl refl (omega arith) (omega arith)
    (listed_land v vs l o naming z n (omega arith) refl)))

compare_lands : (name : List ℕ) (op : CondOp) (v : Value) (l : Group) (o : List Group) (m : Naming) (x : Rest) (n : ℕ) → n ≡ x.nodes + 1
    → Lands (fact_then (compare name op v)) (reading expect.Fact l o m x) (with_fact (test_in (compare name op v) m).0 l) o (test_in (compare name op v) m).1 n (depth_in l)
compare_lands name op v l o m x n count =
    let field = (meets name m).0 in
    let naming = (meets name m).1 in
    let y = rest_of (x.nodes + 1) field x.op false [] in
    let z = rest_of (x.nodes + 1) field op false [] in
    let end : Group = with_fact (tree.Compare op field (val_of v)) l in
    let whole : Naming = judges field (kind_of v) naming in
    begun (Label name) (λ rest. Compares op ∷ kind_of v ∷ rest) (reading expect.Fact l o m x) (reading expect.Verb l o naming y) end o whole n (depth_in l) refl refl (omega arith) (omega arith)
    (begun (Compares op) (λ rest. kind_of v ∷ rest) (reading expect.Verb l o naming y) (reading expect.Operand l o naming z) end o whole n (depth_in l) refl refl (omega arith) (omega arith)
    (last (kind_of v) (reading expect.Operand l o naming z) end o whole z n (depth_in l) (operand_stands v (is_inside o)) (value_moves v (reading expect.Operand l o naming z)) (omega arith) (omega arith) refl))

null_lands : (name : List ℕ) (l : Group) (o : List Group) (m : Naming) (x : Rest) (n : ℕ) → n ≡ x.nodes + 1
    → Lands (fact_then (is_null name)) (reading expect.Fact l o m x) (with_fact (test_in (is_null name) m).0 l) o (test_in (is_null name) m).1 n (depth_in l)
null_lands name l o m x n count =
    let field = (meets name m).0 in
    let naming = (meets name m).1 in
    let y = rest_of (x.nodes + 1) field x.op false [] in
    let end : Group = with_fact (tree.IsNull field) l in
    begun (Label name) (λ rest. Is ∷ Null ∷ rest) (reading expect.Fact l o m x) (reading expect.Verb l o naming y) end o naming n (depth_in l) refl refl (omega arith) (omega arith)
    (begun Is (λ rest. Null ∷ rest) (reading expect.Verb l o naming y) (reading expect.Nothing l o naming y) end o naming n (depth_in l) refl refl (omega arith) (omega arith)
    (last Null (reading expect.Nothing l o naming y) end o naming y n (depth_in l) refl refl (omega arith) (omega arith) refl))

-- how many nodes a term adds behind these facts, and terms behind these terms
abbrev facts_more : List Test → Term → ℕ
facts_more [] t = term_nodes t
facts_more (f ∷ fs) t = facts_nodes t

abbrev terms_more : List Test → Cond → ℕ
terms_more [] c = nodes_of c
terms_more (t ∷ ts) c = terms_nodes c

one_fact : (fs : List Test) (f : Fact) → facts_more fs (fact f) ≡ fact_nodes f
one_fact [] f = refl
one_fact (x ∷ fs) f = refl

next_fact : (fs : List Test) (one : Test) (f : Fact) (t : Term) → facts_more fs (and f t) ≡ fact_nodes f + list_begins (fs ++ one ∷ []) + facts_more (fs ++ one ∷ []) t
next_fact [] one f t = omega arith
next_fact (x ∷ []) one f t = omega arith
next_fact (x ∷ y ∷ fs) one f t = omega arith

one_term : (ts : List Test) (t : Term) → terms_more ts (term t) ≡ term_nodes t
one_term [] t = refl
one_term (x ∷ ts) t = refl

next_term : (ts : List Test) (whole : Test) (t : Term) (c : Cond) → terms_more ts (or t c) ≡ term_nodes t + choice_begins ts + terms_more (ts ++ whole ∷ []) c
next_term [] whole t c = omega arith
next_term (x ∷ ts) whole t c = omega arith

-- a condition ends with a group whose terms are those of the tree
pub record CondLands (c : Cond) (ts : List Test) (d : ℕ) (o : List Group) (m : Naming) (x : Rest) (n p : ℕ) : Type 0 where
  pub group : Group
  pub same : group.terms ++ gathered tree.All group.facts ∷ [] ≡ ts ++ (terms_of c m).0
  pub flat : depth_in group ≤ d
  pub lands : Lands (cond_then c) (reading expect.Fact (lv ts [] d) o m x) group o (terms_of c m).1 n p

mutual
  pub cond_lands : (c : Cond) (ts : List Test) (d : ℕ) (o : List Group) (m : Naming) (x : Rest) (n p : ℕ) → n ≡ x.nodes + terms_more ts c → p ≡ d + depth_of c → CondLands c ts d o m x n p
  cond_lands (term t) ts d o m x n p count high = record {
    group = lv ts (facts_of t m).0 d;
    same = refl;
    flat = omega arith;
    lands = term_lands t ts [] d o m x n p (omega (arith, one_term ts t)) high;
  }
  cond_lands (or t c) ts d o m x n p count high =
      let first = term_lands t ts [] d o m x (x.nodes + term_nodes t) (d + term_depth t) refl refl in
      let y = first.left in
      let whole : Test = gathered tree.All (facts_of t m).0 in
      let z = rest_of (y.nodes + choice_begins ts) y.field y.op y.negated y.vals in
      let second = cond_lands c (ts ++ whole ∷ []) d o (facts_of t m).1 z n (d + depth_of c) (omega (arith, next_term ts whole t c, first.count)) refl in
      record {
        group = second.group;
        same = subst (λ tests. second.group.terms ++ gathered tree.All second.group.facts ∷ [] ≡ tests) (one_more ts whole (terms_of c (facts_of t m).1).0) second.same;
        flat = second.flat;
        lands =
            both Or (term_then t) (cond_then c) (reading expect.Fact (lv ts [] d) o m x) (reading expect.Fact (lv (ts ++ whole ∷ []) [] d) o (facts_of t m).1 z) (lv ts (facts_of t m).0 d) second.group o (facts_of t m).1 (terms_of c (facts_of t m).1).1
            (x.nodes + term_nodes t) n (d + term_depth t) (d + depth_of c) p first refl refl (omega (arith, next_term ts whole t c)) (omega arith) (omega arith) second.lands;
      }

  pub term_lands : (t : Term) (ts fs : List Test) (d : ℕ) (o : List Group) (m : Naming) (x : Rest) (n p : ℕ) → n ≡ x.nodes + facts_more fs t → p ≡ d + term_depth t
      → Lands (term_then t) (reading expect.Fact (lv ts fs d) o m x) (lv ts (fs ++ (facts_of t m).0) d) o (facts_of t m).1 n p
  term_lands (fact f) ts fs d o m x n p count high = fact_lands f (lv ts fs d) o m x n p (omega (arith, one_fact fs f)) (omega arith)
  term_lands (and f t) ts fs d o m x n p count high =
      let first = fact_lands f (lv ts fs d) o m x (x.nodes + fact_nodes f) (d + fact_depth f) refl (omega arith) in
      let y = first.left in
      let one : Test = (test_in f m).0 in
      let z = rest_of (y.nodes + list_begins (fs ++ one ∷ [])) y.field y.op y.negated y.vals in
      let end : List Test = (fs ++ one ∷ []) ++ (facts_of t (test_in f m).1).0 in
      let second = term_lands t ts (fs ++ one ∷ []) d o (test_in f m).1 z n (d + term_depth t) (omega (arith, next_fact fs one f t, first.count)) refl in
      subst (λ facts. Lands (term_then (and f t)) (reading expect.Fact (lv ts fs d) o m x) (lv ts facts d) o (facts_of (and f t) m).1 n p)
      (one_more fs one (facts_of t (test_in f m).1).0)
      (both And (fact_then f) (term_then t) (reading expect.Fact (lv ts fs d) o m x) (reading expect.Fact (lv ts (fs ++ one ∷ []) d) o (test_in f m).1 z) (lv ts (fs ++ one ∷ []) d) (lv ts end d) o (test_in f m).1 (facts_of t (test_in f m).1).1
      (x.nodes + fact_nodes f) n (d + fact_depth f) (d + term_depth t) p first refl refl (omega (arith, next_fact fs one f t)) (omega arith) (omega arith) second)

  pub fact_lands : (f : Fact) (l : Group) (o : List Group) (m : Naming) (x : Rest) (n p : ℕ) → n ≡ x.nodes + fact_nodes f → p ≡ depth_in l + fact_depth f
      → Lands (fact_then f) (reading expect.Fact l o m x) (with_fact (test_in f m).0 l) o (test_in f m).1 n p
  fact_lands (not_of f) l o m x n p count high =
      let y = rest_of (x.nodes + 1) x.field x.op x.negated x.vals in
      let inner = fact_lands f (with_not l) o m y n p (omega arith) (omega arith) in
      subst (λ t. Lands (fact_then (not_of f)) (reading expect.Fact l o m x) (lv l.terms (l.facts ++ t ∷ []) l.depth) o (test_in f m).1 n p)
      (under_swap l.nots (test_in f m).0)
      (begun Not (fact_then f) (reading expect.Fact l o m x) (reading expect.Fact (with_not l) o m y) (with_fact (test_in f m).0 (with_not l)) o (test_in f m).1 n p refl refl (omega arith) (omega arith) inner)
  fact_lands (paren c) l o m x n p count high =
      let inner = cond_lands c [] (depth_in l + 1) (l ∷ o) m x n p count (omega arith) in
      let end : Test = gathered tree.Any (inner.group.terms ++ gathered tree.All inner.group.facts ∷ []) in
      subst (λ t. Lands (fact_then (paren c)) (reading expect.Fact l o m x) (with_fact t l) o (terms_of c m).1 n p)
      (ap (gathered tree.Any) inner.same)
      (begun Open (λ rest. cond_then c (Close ∷ rest)) (reading expect.Fact l o m x) (reading expect.Fact (lv [] [] (depth_in l + 1)) (l ∷ o) m x) (with_fact end l) o (terms_of c m).1 n p refl refl (omega arith) (omega arith)
      (shuts Close (cond_then c) (reading expect.Fact (lv [] [] (depth_in l + 1)) (l ∷ o) m x) inner.group (with_fact end l) (l ∷ o) o (terms_of c m).1 n p inner.lands refl refl (omega (arith, inner.flat))))
  fact_lands (compare name op v) l o m x n p count high = as_deep (fact_then (compare name op v)) (reading expect.Fact l o m x) _ o _ n (depth_in l) p (omega arith) (compare_lands name op v l o m x n count)
  fact_lands (member name negated v vs) l o m x n p count high = as_deep (fact_then (member name negated v vs)) (reading expect.Fact l o m x) _ o _ n (depth_in l) p (omega arith) (member_lands name negated v vs l o m x n count)
  fact_lands (is_null name) l o m x n p count high = as_deep (fact_then (is_null name)) (reading expect.Fact l o m x) _ o _ n (depth_in l) p (omega arith) (null_lands name l o m x n count)

-- a whole tree, from the start: where it lands, and how deep and large it is
pub record Whole (c : Cond) (fields : List CondField) : Type 0 where
  pub group : Group
  pub left : Rest
  pub same : group.terms ++ gathered tree.All group.facts ∷ [] ≡ (terms_of c (start fields).naming).0
  pub lands : goes (start fields) (cond_then c []) ≡ Some (reading expect.Joint group [] (terms_of c (start fields).naming).1 left)
  pub deep : deepest (start fields) (cond_then c []) ≡ depth_of c
  pub large : largest (start fields) (cond_then c []) ≡ nodes_of c

pub tree_lands : (c : Cond) (fields : List CondField) → Whole c fields
unfolding goes deepest largest
tree_lands c fields =
    let found = cond_lands c [] 0 [] (start fields).naming (rest_of 0 0 (start fields).op false []) (nodes_of c) (depth_of c) (omega arith) (omega arith) in
    record {
      group = found.group;
      left = found.lands.left;
      same = found.same;
      lands = found.lands.lands [];
      deep = omega (arith, found.lands.deep [], found.flat);
      large = omega (arith, found.lands.large [], found.lands.count);
    }
