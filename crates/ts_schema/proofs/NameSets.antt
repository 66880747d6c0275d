-- Sets of the names of a list, name by name.
use Rattle.std.proofs.Common.{◌≡◌, ℕ, ◌+◌, ◌<◌, Bool, true, false, not, ◌||◌, ◌&&◌, cond, List, [], ◌∷◌, ◌++◌, length, take, drop, get_or, refl, sym, ap, ◌∙◌}
use Rattle.std.specs.List.{list_any}
use Rattle.std.specs.Ordering.{nat_cmp}
use Rattle.std.specs.Cmp.Lexicographic.{slice_cmp, texts_ties}
use Rattle.std.specs.Prelude.{Option, Some, None, if◌then◌else◌}
use Rattle.std.specs.Option.{option_or}
use Rattle.std.specs.BTreeSet.{BTreeSet, contains, Updates, UpdatesBy}
use Rattle.std.proofs.lemmas.List.{drop_more, take_more}
use Rattle.ts_domain.specs.declared.dims.Dim.{Dim}
use Rattle.ts_schema.specs.declared.attrs.Attr.{Attr}
use Rattle.ts_schema.specs.declared.faults.SchemaFault.{SchemaFault}
use Rattle.ts_schema.specs.declared.faults.SchemaFault.TheVariants.{UnknownAttr}
use Rattle.ts_schema.specs.Attrs.{same_name, has_attr, has_label, HasNames}
use Rattle.ts_schema.specs.Evolutions.{less_fault}
use Rattle.ts_schema.specs.Faults.{attr_fault, fault_behind}

-- whether one of the items has this name
abbrev named : {X : Type 0} → (X → List ℕ) → List X → List ℕ → Bool
named name xs q = list_any (λ x. same_name (name x) q) xs

-- a name is that of one item more where it is that of one before, or that item's
named_more : {X : Type 0} (name : X → List ℕ) (before : List X) (x : X) (q : List ℕ) → named name (before ++ x ∷ []) q ≡ cond (same_name (name x) q) true (named name before q)
named_more name [] x q = by (same_name (name x) q)
  where
    by : (b : Bool) → (b || false) ≡ cond b true false
    by true = refl
    by false = refl
named_more name (y ∷ before) x q = by (same_name (name y) q) (same_name (name x) q) (named_more name before x q)
  where
    by : (b d : Bool) → named name (before ++ x ∷ []) q ≡ cond d true (named name before q) → (b || named name (before ++ x ∷ []) q) ≡ cond d true (b || named name before q)
    by true true e = refl
    by true false e = refl
    by false d e = e

take_next : {X : Type 0} (xs : List X) (place : ℕ) (x : X) → place < length xs → x ≡ get_or xs place x → take (place + 1) xs ≡ take place xs ++ x ∷ []
take_next xs place x lt is = take_more xs place x lt ∙ ap (λ y. take place xs ++ y ∷ []) (sym is)

-- a set that has the names so far, and one more name
pub names_more : {X : Type 0} (name : X → List ℕ) (s n : BTreeSet (List ℕ)) (xs : List X) (place : ℕ) (x : X) → place < length xs → x ≡ get_or xs place x
    → Updates (slice_cmp nat_cmp) s n (name x) true → HasNames s (named name (take place xs)) → HasNames n (named name (take (place + 1) xs))
names_more name s n xs place x lt is updates has q =
    updates.0 q ∙ ap (λ b. cond b true (contains (slice_cmp nat_cmp) s q)) (sym (texts_ties (name x) q))
    ∙ ap (cond (same_name (name x) q) true) (has q) ∙ sym (named_more name (take place xs) x q)
    ∙ ap (λ before. named name before q) (sym (take_next xs place x lt is))

rest_is : {X : Type 0} (xs : List X) (place : ℕ) (x : X) → place < length xs → x ≡ get_or xs place x → drop place xs ≡ x ∷ drop (place + 1) xs
rest_is xs place x lt is = drop_more xs place x lt ∙ ap (λ y. y ∷ drop (place + 1) xs) (sym is)

-- ---- the faults of attributes

-- the next attribute has no fault
pub fault_next : (dims : List Dim) (attrs : List Attr) (place : ℕ) (a : Attr) (whole : Option SchemaFault) → place < length attrs → a ≡ get_or attrs place a → attr_fault dims (take place attrs) a ≡ None
    → fault_behind dims (take place attrs) (drop place attrs) ≡ whole → fault_behind dims (take (place + 1) attrs) (drop (place + 1) attrs) ≡ whole
fault_next dims attrs place a whole lt is none was =
    ap (λ before. fault_behind dims before (drop (place + 1) attrs)) (take_next attrs place a lt is)
    ∙ ap (λ fault. option_or fault (fault_behind dims (take place attrs ++ a ∷ []) (drop (place + 1) attrs))) (sym none)
    ∙ ap (fault_behind dims (take place attrs)) (sym (rest_is attrs place a lt is)) ∙ was

-- ---- the names to be taken away

-- the names that are left of those that pass a test, without one more
pub names_less : (test : List ℕ → Bool) (s n : BTreeSet (List ℕ)) (names : List (List ℕ)) (place : ℕ) (name : List ℕ) → place < length names → name ≡ get_or names place name
    → UpdatesBy (slice_cmp nat_cmp) (slice_cmp nat_cmp name) s n false → HasNames s (λ q. test q && not (has_label (take place names) q)) → HasNames n (λ q. test q && not (has_label (take (place + 1) names) q))
names_less test s n names place name lt is updates has q =
    updates.0 q ∙ ap (λ b. cond b false (contains (slice_cmp nat_cmp) s q)) (sym (texts_ties name q))
    ∙ ap (cond (same_name name q) false) (has q) ∙ by (test q) (same_name name q) (has_label (take place names) q)
    ∙ ap (λ b. test q && not b) (sym (named_more (λ x. x) (take place names) name q))
    ∙ ap (λ before. test q && not (has_label before q)) (sym (take_next names place name lt is))
  where
    by : (h b o : Bool) → cond b false (h && not o) ≡ (h && not (cond b true o))
    by true true o = refl
    by false true o = refl
    by h false o = refl

-- the next name can be taken away
pub less_next : (attrs : List Attr) (names : List (List ℕ)) (place : ℕ) (name : List ℕ) (whole : Option SchemaFault) → place < length names → name ≡ get_or names place name
    → (has_attr attrs name && not (has_label (take place names) name)) ≡ true
    → less_fault attrs (take place names) (drop place names) ≡ whole → less_fault attrs (take (place + 1) names) (drop (place + 1) names) ≡ whole
less_next attrs names place name whole lt is may was =
    ap (λ before. less_fault attrs before (drop (place + 1) names)) (take_next names place name lt is)
    ∙ ap (λ b. if b then less_fault attrs (take place names ++ name ∷ []) (drop (place + 1) names) else Some (UnknownAttr name)) (sym may)
    ∙ ap (less_fault attrs (take place names)) (sym (rest_is names place name lt is)) ∙ was

pub not_not : (b : Bool) → not (not b) ≡ b
not_not true = refl
not_not false = refl
