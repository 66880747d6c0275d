-- What is in the grammar is read as what it means, within the limits.
use Rattle.std.proofs.Common.{◌≡◌, ◌≤◌, ◌<◌, refl, sym, subst, ap, ◌∙◌, ℕ, max, Bool, true, false, if◌then◌else◌, nat_lt, List, [], ◌∷◌, Option, Some, None, Result, Ok, Err, slice_get, arith}
use Rattle.std.proofs.lemmas.Bool.{ltb-true, ltb-false}
use Rattle.ts_cond.specs.declared.faults.CondFault.{CondFault}
use Rattle.ts_cond.specs.declared.faults.CondFault.TheVariants as fault
use Rattle.ts_cond.specs.declared.fields.CondField.{CondField}
use Rattle.ts_cond.specs.declared.machine.Expect.TheVariants as expect
use Rattle.ts_cond.specs.declared.machine.Wrong.TheVariants as wrong
use Rattle.ts_cond.specs.declared.naming.Naming.{Naming}
use Rattle.ts_cond.specs.Causes.{IsReadAs}
use Rattle.ts_cond.specs.Grammar.{Value, kind_of, Cond, term, or, Term, fact, and, Fact, not_of, paren, compare, member, is_null, cond_then, all_judged, terms_of, facts_of, test_in, AreKinds, IsSpelled, concluded, meant}
use Rattle.ts_cond.specs.Limits.{depth_of, nodes_of, IsWithin}
use Rattle.ts_cond.specs.Machine.{Reading, stands, moved, is_inside, within, after, depth_in, may_end, reads, start, closed, gathered, first, named_from, newly_named, newly, meets_by, meets, suits, judged, judges, settled, settled_by, parsed}
use Rattle.ts_cond.specs.Tests.{Test}
use Rattle.ts_cond.specs.Tests as tree
use Rattle.ts_cond.specs.Tokens.{Kind, Scan, End, Bad, Then, tokens_of}
use Rattle.ts_cond.proofs.GrammarLaws.{reading, goes, deepest, largest, tree_lands}

-- what a text without a wrong token is read as, so deep and so large: within the limits as this, and else as too deep or too large
abbrev IsRead : Result Reading CondFault → Reading → ℕ → ℕ → Type 0
IsRead (Ok r) s d n = (r ≡ s) × (d ≤ 32) × (n ≤ 1024)
IsRead (Err fault.TooDeep) s d n = 32 < d
IsRead (Err fault.TooLarge) s d n = 1024 < n
IsRead (Err (fault.Syntax at)) s d n = ⊥
IsRead (Err (fault.UnknownField name)) s d n = ⊥
IsRead (Err (fault.TypeClash name)) s d n = ⊥
IsRead (Err fault.OutOfMemory) s d n = ⊥

pub deep_here : (r : Reading) (ks : List Kind) → depth_in r.group ≤ deepest r ks
unfolding deepest
deep_here r [] = omega arith
deep_here r (k ∷ ks) = omega arith

pub large_here : (r : Reading) (ks : List Kind) → r.nodes ≤ largest r ks
unfolding largest
large_here r [] = omega arith
large_here r (k ∷ ks) = omega arith

-- what was within before
widened : (x : Result Reading CondFault) (s : Reading) (d n more most : ℕ) → more ≤ 32 → most ≤ 1024 → IsRead x s d n → IsRead x s (max more d) (max most n)
widened (Ok r) s d n more most deep large is =
    let high = is.1 in
    let many = is.2 in
    (is.0, omega arith, omega arith)
widened (Err fault.TooDeep) s d n more most deep large is = omega arith
widened (Err fault.TooLarge) s d n more most deep large is = omega arith
widened (Err (fault.Syntax at)) s d n more most deep large is = absurd is
widened (Err (fault.UnknownField name)) s d n more most deep large is = absurd is
widened (Err (fault.TypeClash name)) s d n more most deep large is = absurd is
widened (Err fault.OutOfMemory) s d n more most deep large is = absurd is

abbrev some_or : {A : Type 0} → A → Option A → A
some_or d (Some x) = x
some_or d None = d

end_case : (b : Bool) (r s : Reading) (at : ℕ) → depth_in r.group ≤ 32 → r.nodes ≤ 1024 → (if b then Some r else None) ≡ Some s
    → IsRead (if b then Ok r else Err (fault.Syntax at)) s (depth_in r.group) r.nodes
end_case true r s at deep large e = (ap (some_or r) e, deep, large)
end_case false r s at deep large e = cc

within_case : (a b : Bool) (t s : Reading) (at d n : ℕ) (next : Reading → Result Reading CondFault) → nat_lt 32 (depth_in t.group) ≡ a → nat_lt 1024 t.nodes ≡ b → depth_in t.group ≤ d → t.nodes ≤ n
    → (depth_in t.group ≤ 32 → t.nodes ≤ 1024 → IsRead (next t) s d n)
    → IsRead (after (if a then Err wrong.TooDeep else (if b then Err wrong.TooLarge else Ok t)) at next) s d n
within_case true b t s at d n next deep large more most goes_on = omega (arith, ltb-true 32 (depth_in t.group) deep)
within_case false true t s at d n next deep large more most goes_on = omega (arith, ltb-true 1024 t.nodes large)
within_case false false t s at d n next deep large more most goes_on = goes_on (ltb-false 32 (depth_in t.group) deep) (ltb-false 1024 t.nodes large)

step_case : (b : Bool) (t s : Reading) (at : ℕ) (rest : Scan) (ks : List Kind) → (if b then goes t ks else None) ≡ Some s
    → (goes t ks ≡ Some s → depth_in t.group ≤ 32 → t.nodes ≤ 1024 → IsRead (reads t rest) s (deepest t ks) (largest t ks))
    → IsRead (after (if b then within t else Err wrong.Syntax) at (λ u. reads u rest)) s (deepest t ks) (largest t ks)
step_case true t s at rest ks e next =
    within_case (nat_lt 32 (depth_in t.group)) (nat_lt 1024 t.nodes) t s at (deepest t ks) (largest t ks) (λ u. reads u rest) refl refl (deep_here t ks) (large_here t ks) (next e)
step_case false t s at rest ks e next = cc

reads_goes : (ts : Scan) (ks : List Kind) (r s : Reading) → AreKinds ts ks → goes r ks ≡ Some s → depth_in r.group ≤ 32 → r.nodes ≤ 1024
    → IsRead (reads r ts) s (deepest r ks) (largest r ks)
unfolding goes reads deepest largest
reads_goes (End at) [] r s are e deep large = end_case (may_end r.expects r.outer) r s at deep large e
reads_goes (End at) (k ∷ ks) r s are e deep large = absurd are
reads_goes (Bad at) ks r s are e deep large = absurd are
reads_goes (Then kind at rest) [] r s are e deep large = absurd are
reads_goes (Then kind at rest) (k ∷ ks) r s are e deep large =
    let known : goes r (kind ∷ ks) ≡ Some s = ap (λ j. goes r (j ∷ ks)) are.0 ∙ e in
    let found : IsRead (reads r (Then kind at rest)) s (deepest (moved kind r) ks) (largest (moved kind r) ks) =
    step_case (stands r.expects (is_inside r.outer) kind) (moved kind r) s at rest ks known (λ next higher more. reads_goes rest ks (moved kind r) s are.1 next higher more)
    in
    subst (λ j. IsRead (reads r (Then kind at rest)) s (deepest r (j ∷ ks)) (largest r (j ∷ ks))) are.0
    (widened (reads r (Then kind at rest)) s (deepest (moved kind r) ks) (largest (moved kind r) ks) (depth_in r.group) r.nodes deep large found)

-- none, or the fault of a test
abbrev pub IsOfTest : Option CondFault → Type 0
IsOfTest (Some (fault.Syntax at)) = ⊥
IsOfTest (Some fault.TooDeep) = ⊥
IsOfTest (Some fault.TooLarge) = ⊥
IsOfTest (Some fault.OutOfMemory) = ⊥
IsOfTest _ = Unit {0}

first_of_test : (before : Option CondFault) (next : CondFault) → IsOfTest before → IsOfTest (Some next) → IsOfTest (first before next)
first_of_test (Some fault) next is new = is
first_of_test None next is new = new

newly_named_of_test : (place : ℕ) (field : Option CondField) (m : Naming) → IsOfTest m.clash → IsOfTest (newly_named place field m).clash
newly_named_of_test place (Some field) m is = is
newly_named_of_test place None m is = is

newly_of_test : (place : Option ℕ) (name : List ℕ) (m : Naming) → IsOfTest m.clash → IsOfTest (newly place name m).1.clash
newly_of_test (Some place) name m is = newly_named_of_test place (slice_get m.unused place) m is
newly_of_test None name m is = first_of_test m.clash (fault.UnknownField name) is tt

meets_of_test : (place : Option ℕ) (name : List ℕ) (m : Naming) → IsOfTest m.clash → IsOfTest (meets_by place name m).1.clash
meets_of_test (Some place) name m is = is
meets_of_test None name m is = newly_of_test (named_from 0 name m.unused) name m is

suits_of_test : (b : Bool) (name : List ℕ) (m : Naming) → IsOfTest m.clash
    → IsOfTest (if b then m else (record { used = m.used; unused = m.unused; clash = first m.clash (fault.TypeClash name) })).clash
suits_of_test true name m is = is
suits_of_test false name m is = first_of_test m.clash (fault.TypeClash name) is tt

judged_of_test : (field : Option CondField) (k : Kind) (m : Naming) → IsOfTest m.clash → IsOfTest (judged field k m).clash
judged_of_test None k m is = is
judged_of_test (Some field) k m is = suits_of_test (suits field.ty k) field.name m is

all_of_test : (field : ℕ) (vs : List Value) (m : Naming) → IsOfTest m.clash → IsOfTest (all_judged field vs m).clash
all_of_test field [] m is = is
all_of_test field (v ∷ vs) m is = all_of_test field vs (judges field (kind_of v) m) (judged_of_test (slice_get m.used field) (kind_of v) m is)

mutual
  pub cond_of_test : (c : Cond) (m : Naming) → IsOfTest m.clash → IsOfTest (terms_of c m).1.clash
  cond_of_test (term t) m is = term_of_test t m is
  cond_of_test (or t c) m is = cond_of_test c (facts_of t m).1 (term_of_test t m is)

  term_of_test : (t : Term) (m : Naming) → IsOfTest m.clash → IsOfTest (facts_of t m).1.clash
  term_of_test (fact f) m is = fact_of_test f m is
  term_of_test (and f t) m is = term_of_test t (test_in f m).1 (fact_of_test f m is)

  fact_of_test : (f : Fact) (m : Naming) → IsOfTest m.clash → IsOfTest (test_in f m).1.clash
  fact_of_test (not_of f) m is = fact_of_test f m is
  fact_of_test (paren c) m is = cond_of_test c m is
  fact_of_test (compare name op v) m is =
      let naming = (meets name m).1 in
      judged_of_test (slice_get naming.used (meets name m).0) (kind_of v) naming (meets_of_test (named_from 0 name m.used) name m is)
  fact_of_test (member name negated v vs) m is = all_of_test (meets name m).0 (v ∷ vs) (meets name m).1 (meets_of_test (named_from 0 name m.used) name m is)
  fact_of_test (is_null name) m is = meets_of_test (named_from 0 name m.used) name m is

settles : (clash : Option CondFault) (r : Reading) (t : Test) → closed r.group ≡ t → settled_by clash r ≡ concluded clash t r.naming.used
settles (Some fault) r t e = refl
settles None r t e = ap (λ root. Ok (record { fields = r.naming.used; root = root })) e

settle_case : (clash : Option CondFault) (s : Reading) (fields : List CondField) (c : Cond) → IsWithin c → IsOfTest clash → settled_by clash s ≡ meant fields c
    → IsReadAs (settled_by clash s) fields c
settle_case None s fields c within is e = (within, sym e)
settle_case (Some (fault.UnknownField name)) s fields c within is e = (within, sym e)
settle_case (Some (fault.TypeClash name)) s fields c within is e = (within, sym e)
settle_case (Some (fault.Syntax at)) s fields c within is e = absurd is
settle_case (Some fault.TooDeep) s fields c within is e = absurd is
settle_case (Some fault.TooLarge) s fields c within is e = absurd is
settle_case (Some fault.OutOfMemory) s fields c within is e = absurd is

settled_as : (x : Result Reading CondFault) (s : Reading) (fields : List CondField) (c : Cond) → IsOfTest s.naming.clash → settled (Ok s) ≡ meant fields c → IsRead x s (depth_of c) (nodes_of c)
    → IsReadAs (settled x) fields c
settled_as (Ok r) s fields c is e read = subst (λ u. IsReadAs (settled (Ok u)) fields c) (sym read.0) (settle_case s.naming.clash s fields c (read.1, read.2) is e)
settled_as (Err fault.TooDeep) s fields c is e read = read
settled_as (Err fault.TooLarge) s fields c is e read = read
settled_as (Err (fault.Syntax at)) s fields c is e read = absurd read
settled_as (Err (fault.UnknownField name)) s fields c is e read = absurd read
settled_as (Err (fault.TypeClash name)) s fields c is e read = absurd read
settled_as (Err fault.OutOfMemory) s fields c is e read = absurd read

-- the reading of a text that spells a tree
spelled_is_read : (text : List ℕ) (fields : List CondField) (c : Cond) → IsSpelled text c
    → IsRead (reads (start fields) (tokens_of text)) (reading expect.Joint (tree_lands c fields).group [] (terms_of c (start fields).naming).1 (tree_lands c fields).left) (depth_of c) (nodes_of c)
spelled_is_read text fields c are =
    let found = tree_lands c fields in
    let s = reading expect.Joint found.group [] (terms_of c (start fields).naming).1 found.left in
    let read : IsRead (reads (start fields) (tokens_of text)) s (deepest (start fields) (cond_then c [])) (largest (start fields) (cond_then c [])) =
    reads_goes (tokens_of text) (cond_then c []) (start fields) s are found.lands (omega arith) (omega arith)
    in
    subst (λ d. IsRead (reads (start fields) (tokens_of text)) s d (nodes_of c)) found.deep
    (subst (λ n. IsRead (reads (start fields) (tokens_of text)) s (deepest (start fields) (cond_then c [])) n) found.large read)

pub spelled_of_test : (text : List ℕ) (fields : List CondField) (c : Cond) (r : Reading) → IsSpelled text c → reads (start fields) (tokens_of text) ≡ Ok r → IsOfTest r.naming.clash
spelled_of_test text fields c r are e =
    let found = tree_lands c fields in
    let s = reading expect.Joint found.group [] (terms_of c (start fields).naming).1 found.left in
    let read : IsRead (Ok r) s (depth_of c) (nodes_of c) = subst (λ x. IsRead x s (depth_of c) (nodes_of c)) e (spelled_is_read text fields c are) in
    subst (λ u. IsOfTest u.naming.clash) (sym read.0) (cond_of_test c (start fields).naming tt)

pub grammar_is_read : (text : List ℕ) (fields : List CondField) (c : Cond) → IsSpelled text c → IsReadAs (parsed text fields) fields c
grammar_is_read text fields c are =
    let found = tree_lands c fields in
    let s = reading expect.Joint found.group [] (terms_of c (start fields).naming).1 found.left in
    settled_as (reads (start fields) (tokens_of text)) s fields c (cond_of_test c (start fields).naming tt)
    (settles (terms_of c (start fields).naming).1.clash s (gathered tree.Any (terms_of c (start fields).naming).0) (ap (gathered tree.Any) found.same))
    (spelled_is_read text fields c are)
