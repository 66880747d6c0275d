-- What was read of a condition so far, as parts of a tree: what its tokens are, and that it can be completed.
use Rattle.std.proofs.Common.{◌≡◌, refl, sym, ap, ◌∙◌, ℕ, zero, suc, Bool, true, List, [], ◌∷◌, pos}
use Rattle.ts_cond.specs.declared.machine.Expect.{Expect}
use Rattle.ts_cond.specs.declared.machine.Expect.TheVariants as expect
use Rattle.ts_cond.specs.declared.nodes.CondOp.{CondOp}
use Rattle.ts_cond.specs.Grammar.{Value, number, kind_of, Cond, term, or, Term, fact, and, Fact, not_of, paren, compare, member, is_null, values_then, in_then, cond_then, term_then, fact_then}
use Rattle.ts_cond.specs.Tokens.{Kind, Open, Close, Comma, And, Or, Not, In, Is, Null, Compares, Label, Number}

-- a pair of parentheses that is open, or the whole text: the whole terms, each with its `or`, the whole facts of the term that is not, each with its `and`, the last one first, and the `not` before the next fact
pub record Opened : Type 0 where
  pub terms : List Term
  pub facts : List Fact
  pub nots : ℕ

-- the fact that is not whole, or that is and has nothing behind it; of several values the last one first
pub data Part : Type 0 where
  none : Part
  named : List ℕ → Part
  compared : List ℕ → CondOp → Part
  denied : List ℕ → Part
  chosen : List ℕ → Bool → Part
  opened : List ℕ → Bool → Part
  listed : List ℕ → Bool → Value → List Value → Part
  listing : List ℕ → Bool → Value → List Value → Part
  asked : List ℕ → Part
  whole : Fact → Part

-- what was read: the groups that are open, the innermost first
pub record Front : Type 0 where
  pub outer : List Opened
  pub group : Opened
  pub part : Part

-- what may come next
abbrev pub expected : Part → Expect
expected none = expect.Fact
expected (named name) = expect.Verb
expected (compared name op) = expect.Operand
expected (denied name) = expect.Within
expected (chosen name negated) = expect.Members
expected (opened name negated) = expect.Member
expected (listed name negated v vs) = expect.MoreMembers
expected (listing name negated v vs) = expect.Member
expected (asked name) = expect.Nothing
expected (whole f) = expect.Joint

-- the tokens, and then others
abbrev pub terms_before : List Term → List Kind → List Kind
terms_before [] rest = rest
terms_before (t ∷ ts) rest = terms_before ts (term_then t (Or ∷ rest))

abbrev pub facts_before : List Fact → List Kind → List Kind
facts_before [] rest = rest
facts_before (f ∷ fs) rest = facts_before fs (fact_then f (And ∷ rest))

abbrev pub nots_before : ℕ → List Kind → List Kind
nots_before zero rest = rest
nots_before (suc n) rest = nots_before n (Not ∷ rest)

abbrev pub values_before : List Value → List Kind → List Kind
values_before [] rest = rest
values_before (v ∷ vs) rest = values_before vs (Comma ∷ kind_of v ∷ rest)

abbrev pub group_then : Opened → List Kind → List Kind
group_then l rest = terms_before l.terms (facts_before l.facts (nots_before l.nots rest))

abbrev pub outer_then : List Opened → List Kind → List Kind
outer_then [] rest = rest
outer_then (l ∷ outer) rest = outer_then outer (group_then l (Open ∷ rest))

abbrev pub part_then : Part → List Kind → List Kind
part_then none rest = rest
part_then (named name) rest = Label name ∷ rest
part_then (compared name op) rest = Label name ∷ Compares op ∷ rest
part_then (denied name) rest = Label name ∷ Not ∷ rest
part_then (chosen name negated) rest = Label name ∷ in_then negated rest
part_then (opened name negated) rest = Label name ∷ in_then negated (Open ∷ rest)
part_then (listed name negated v vs) rest = Label name ∷ in_then negated (Open ∷ kind_of v ∷ values_before vs rest)
part_then (listing name negated v vs) rest = Label name ∷ in_then negated (Open ∷ kind_of v ∷ values_before vs (Comma ∷ rest))
part_then (asked name) rest = Label name ∷ Is ∷ rest
part_then (whole f) rest = fact_then f rest

abbrev pub front_then : Front → List Kind → List Kind
front_then p rest = outer_then p.outer (group_then p.group (part_then p.part rest))

-- values in the order of the text
abbrev pub turned : List Value → List Value → List Value
turned [] after = after
turned (v ∷ vs) after = turned vs (v ∷ after)

pub turned_then : (vs after : List Value) (rest : List Kind) → values_before vs (values_then after rest) ≡ values_then (turned vs after) rest
turned_then [] after rest = refl
turned_then (v ∷ vs) after rest = turned_then vs (v ∷ after) rest

abbrev pub not_of_all : ℕ → Fact → Fact
not_of_all zero f = f
not_of_all (suc n) f = not_of_all n (not_of f)

pub not_then : (n : ℕ) (f : Fact) (rest : List Kind) → nots_before n (fact_then f rest) ≡ fact_then (not_of_all n f) rest
not_then zero f rest = refl
not_then (suc n) f rest = not_then n (not_of f) rest

abbrev pub and_all : List Fact → Term → Term
and_all [] t = t
and_all (f ∷ fs) t = and_all fs (and f t)

and_then : (fs : List Fact) (t : Term) (rest : List Kind) → facts_before fs (term_then t rest) ≡ term_then (and_all fs t) rest
and_then [] t rest = refl
and_then (f ∷ fs) t rest = and_then fs (and f t) rest

abbrev pub or_all : List Term → Cond → Cond
or_all [] c = c
or_all (t ∷ ts) c = or_all ts (or t c)

or_then : (ts : List Term) (c : Cond) (rest : List Kind) → terms_before ts (cond_then c rest) ≡ cond_then (or_all ts c) rest
or_then [] c rest = refl
or_then (t ∷ ts) c rest = or_then ts (or t c) rest

-- the term, and the condition, whose last fact is this one
abbrev pub term_with : Opened → Fact → Term
term_with l f = and_all l.facts (fact (not_of_all l.nots f))

abbrev pub cond_with : Opened → Fact → Cond
cond_with l f = or_all l.terms (term (term_with l f))

pub term_ends : (l : Opened) (f : Fact) (rest : List Kind) → facts_before l.facts (nots_before l.nots (fact_then f rest)) ≡ term_then (term_with l f) rest
term_ends l f rest = ap (facts_before l.facts) (not_then l.nots f rest) ∙ and_then l.facts (fact (not_of_all l.nots f)) rest

pub cond_ends : (l : Opened) (f : Fact) (rest : List Kind) → group_then l (fact_then f rest) ≡ cond_then (cond_with l f) rest
cond_ends l f rest = ap (terms_before l.terms) (term_ends l f rest) ∙ or_then l.terms (term (term_with l f)) rest

-- a tree, whose tokens begin so
pub record Completed (begin : List Kind → List Kind) : Type 0 where
  pub tree : Cond
  pub rest : List Kind
  pub spells : cond_then tree [] ≡ begin rest

abbrev shut_all : (outer : List Opened) (l : Opened) (f : Fact) → Completed (λ rest. outer_then outer (group_then l (fact_then f rest)))
shut_all [] l f = record { tree = cond_with l f; rest = []; spells = sym (cond_ends l f []) }
shut_all (around ∷ outer) l f =
    let found = shut_all outer around (paren (cond_with l f)) in
    record {
      tree = found.tree;
      rest = Close ∷ found.rest;
      spells = found.spells ∙ ap (λ ks. outer_then outer (group_then around (Open ∷ ks))) (sym (cond_ends l f (Close ∷ found.rest)));
    }

-- with a fact in the place of what is not whole
abbrev with_whole : (p : Front) (f : Fact) (more : List Kind → List Kind) → ((rest : List Kind) → fact_then f rest ≡ part_then p.part (more rest)) → Completed (front_then p)
with_whole p f more same =
    let found = shut_all p.outer p.group f in
    record { tree = found.tree; rest = more found.rest; spells = found.spells ∙ ap (λ ks. outer_then p.outer (group_then p.group ks)) (same found.rest) }

abbrev a_label : List ℕ
a_label = 97 ∷ []

abbrev nought : Value
nought = number (pos 0)

completed_by : (outer : List Opened) (l : Opened) (part : Part) → Completed (front_then (record { outer = outer; group = l; part = part }))
completed_by outer l none = with_whole (record { outer = outer; group = l; part = none }) (is_null a_label) (λ rest. Label a_label ∷ Is ∷ Null ∷ rest) (λ rest. refl)
completed_by outer l (named name) = with_whole (record { outer = outer; group = l; part = named name }) (is_null name) (λ rest. Is ∷ Null ∷ rest) (λ rest. refl)
completed_by outer l (compared name op) = with_whole (record { outer = outer; group = l; part = compared name op }) (compare name op nought) (λ rest. Number (pos 0) ∷ rest) (λ rest. refl)
completed_by outer l (denied name) = with_whole (record { outer = outer; group = l; part = denied name }) (member name true nought []) (λ rest. In ∷ Open ∷ Number (pos 0) ∷ Close ∷ rest) (λ rest. refl)
completed_by outer l (chosen name negated) = with_whole (record { outer = outer; group = l; part = chosen name negated }) (member name negated nought []) (λ rest. Open ∷ Number (pos 0) ∷ Close ∷ rest) (λ rest. refl)
completed_by outer l (opened name negated) = with_whole (record { outer = outer; group = l; part = opened name negated }) (member name negated nought []) (λ rest. Number (pos 0) ∷ Close ∷ rest) (λ rest. refl)
completed_by outer l (listed name negated v vs) =
    with_whole (record { outer = outer; group = l; part = listed name negated v vs }) (member name negated v (turned vs [])) (λ rest. Close ∷ rest)
    (λ rest. ap (λ ks. Label name ∷ in_then negated (Open ∷ kind_of v ∷ ks)) (sym (turned_then vs [] rest)))
completed_by outer l (listing name negated v vs) =
    with_whole (record { outer = outer; group = l; part = listing name negated v vs }) (member name negated v (turned vs (nought ∷ []))) (λ rest. Number (pos 0) ∷ Close ∷ rest)
    (λ rest. ap (λ ks. Label name ∷ in_then negated (Open ∷ kind_of v ∷ ks)) (sym (turned_then vs (nought ∷ []) rest)))
completed_by outer l (asked name) = with_whole (record { outer = outer; group = l; part = asked name }) (is_null name) (λ rest. Null ∷ rest) (λ rest. refl)
completed_by outer l (whole f) = with_whole (record { outer = outer; group = l; part = whole f }) f (λ rest. rest) (λ rest. refl)

-- whatever was read, a tree begins so
pub completed : (p : Front) → Completed (front_then p)
completed p = completed_by p.outer p.group p.part
