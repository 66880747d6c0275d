-- One token more of what may come next.
use Rattle.std.proofs.Common.{◌≡◌, refl, ap, suc, true, false, List, [], ◌∷◌}
use Rattle.ts_cond.specs.declared.naming.Naming.{Naming}
use Rattle.ts_cond.specs.Grammar.{number, text, blob, kind_of, Cond, paren, compare, member, is_null, in_then, cond_then}
use Rattle.ts_cond.specs.Machine.{Group, Reading, stands, moved, is_inside, may_end}
use Rattle.ts_cond.specs.Tokens.{Kind, Open, Close, Comma, And, Or, Not, In, Is, Null, Compares, Label, Number, Text, Blob}
use Rattle.ts_cond.proofs.Fronts.{Opened, Part, none, named, compared, denied, chosen, opened, listed, listing, asked, whole, Front, expected, front_then, group_then, outer_then, terms_before, facts_before, turned, turned_then, not_of_all, not_then, term_with, term_ends, cond_with, cond_ends}
use Rattle.ts_cond.proofs.GrammarLaws.{Rest, reading}

-- as many groups are open
abbrev pub AreAs : List Opened → List Group → Type 0
AreAs [] [] = Unit {0}
AreAs (p ∷ ps) (l ∷ ls) = AreAs ps ls
AreAs _ _ = ⊥

-- what was read with this token more
pub record Next (k : Kind) (r : Reading) (p : Front) : Type 0 where
  pub next : Front
  pub expects : (moved k r).expects ≡ expected next.part
  pub around : AreAs next.outer (moved k r).outer
  pub spells : (rest : List Kind) → front_then p (k ∷ rest) ≡ front_then next rest

abbrev with_part : List Opened → Opened → Part → Front
with_part outer l part = record { outer = outer; group = l; part = part }

pub goes_on : (part : Part) (k : Kind) (outer : List Opened) (p : Opened) (l : Group) (o : List Group) (m : Naming) (x : Rest) → AreAs outer o → stands (expected part) (is_inside o) k ≡ true
    → Next k (reading (expected part) l o m x) (record { outer = outer; group = p; part = part })
goes_on none Not outer p l o m x same may =
    record { next = with_part outer (record { terms = p.terms; facts = p.facts; nots = suc p.nots }) none; expects = refl; around = same; spells = λ rest. refl }
goes_on none Open outer p l o m x same may =
    record { next = with_part (p ∷ outer) (record { terms = []; facts = []; nots = 0 }) none; expects = refl; around = same; spells = λ rest. refl }
goes_on none (Label name) outer p l o m x same may = record { next = with_part outer p (named name); expects = refl; around = same; spells = λ rest. refl }
goes_on (named name) (Compares op) outer p l o m x same may = record { next = with_part outer p (compared name op); expects = refl; around = same; spells = λ rest. refl }
goes_on (named name) Not outer p l o m x same may = record { next = with_part outer p (denied name); expects = refl; around = same; spells = λ rest. refl }
goes_on (named name) In outer p l o m x same may = record { next = with_part outer p (chosen name false); expects = refl; around = same; spells = λ rest. refl }
goes_on (named name) Is outer p l o m x same may = record { next = with_part outer p (asked name); expects = refl; around = same; spells = λ rest. refl }
goes_on (compared name op) (Number z) outer p l o m x same may = record { next = with_part outer p (whole (compare name op (number z))); expects = refl; around = same; spells = λ rest. refl }
goes_on (compared name op) (Text raw) outer p l o m x same may = record { next = with_part outer p (whole (compare name op (text raw))); expects = refl; around = same; spells = λ rest. refl }
goes_on (compared name op) (Blob digits) outer p l o m x same may = record { next = with_part outer p (whole (compare name op (blob digits))); expects = refl; around = same; spells = λ rest. refl }
goes_on (denied name) In outer p l o m x same may = record { next = with_part outer p (chosen name true); expects = refl; around = same; spells = λ rest. refl }
goes_on (chosen name negated) Open outer p l o m x same may = record { next = with_part outer p (opened name negated); expects = refl; around = same; spells = λ rest. refl }
goes_on (opened name negated) (Number z) outer p l o m x same may = record { next = with_part outer p (listed name negated (number z) []); expects = refl; around = same; spells = λ rest. refl }
goes_on (opened name negated) (Text raw) outer p l o m x same may = record { next = with_part outer p (listed name negated (text raw) []); expects = refl; around = same; spells = λ rest. refl }
goes_on (opened name negated) (Blob digits) outer p l o m x same may = record { next = with_part outer p (listed name negated (blob digits) []); expects = refl; around = same; spells = λ rest. refl }
goes_on (listed name negated v vs) Comma outer p l o m x same may = record { next = with_part outer p (listing name negated v vs); expects = refl; around = same; spells = λ rest. refl }
goes_on (listed name negated v vs) Close outer p l o m x same may = record {
  next = with_part outer p (whole (member name negated v (turned vs [])));
  expects = refl;
  around = same;
  spells = λ rest. ap (λ ks. outer_then outer (group_then p (Label name ∷ in_then negated (Open ∷ kind_of v ∷ ks)))) (turned_then vs [] rest);
}
goes_on (listing name negated v vs) (Number z) outer p l o m x same may = record { next = with_part outer p (listed name negated v (number z ∷ vs)); expects = refl; around = same; spells = λ rest. refl }
goes_on (listing name negated v vs) (Text raw) outer p l o m x same may = record { next = with_part outer p (listed name negated v (text raw ∷ vs)); expects = refl; around = same; spells = λ rest. refl }
goes_on (listing name negated v vs) (Blob digits) outer p l o m x same may = record { next = with_part outer p (listed name negated v (blob digits ∷ vs)); expects = refl; around = same; spells = λ rest. refl }
goes_on (asked name) Null outer p l o m x same may = record { next = with_part outer p (whole (is_null name)); expects = refl; around = same; spells = λ rest. refl }
goes_on (whole f) And outer p l o m x same may = record {
  next = with_part outer (record { terms = p.terms; facts = not_of_all p.nots f ∷ p.facts; nots = 0 }) none;
  expects = refl;
  around = same;
  spells = λ rest. ap (λ ks. outer_then outer (terms_before p.terms (facts_before p.facts ks))) (not_then p.nots f (And ∷ rest));
}
goes_on (whole f) Or outer p l o m x same may = record {
  next = with_part outer (record { terms = term_with p f ∷ p.terms; facts = []; nots = 0 }) none;
  expects = refl;
  around = same;
  spells = λ rest. ap (λ ks. outer_then outer (terms_before p.terms ks)) (term_ends p f (Or ∷ rest));
}
goes_on (whole f) Close (around ∷ outer) p l (lo ∷ o) m x same may = record {
  next = with_part outer around (whole (paren (cond_with p f)));
  expects = refl;
  around = same;
  spells = λ rest. ap (λ ks. outer_then outer (group_then around (Open ∷ ks))) (cond_ends p f (Close ∷ rest));
}
goes_on (whole f) Close [] p l (lo ∷ o) m x same may = absurd same
goes_on part k outer p l o m x same may = cc

-- where the text may end a whole tree was read
pub tree_at_end : (part : Part) (outer : List Opened) (p : Opened) (o : List Group) → AreAs outer o → may_end (expected part) o ≡ true
    → (c : Cond) × (front_then (record { outer = outer; group = p; part = part }) [] ≡ cond_then c [])
tree_at_end (whole f) [] p [] same may = (cond_with p f, cond_ends p f [])
tree_at_end (whole f) (around ∷ outer) p [] same may = absurd same
tree_at_end part outer p o same may = cc
