-- What was read of a text names its fields in turn, holds values of their kinds, and is low and small, token by token.
use Rattle.std.proofs.Common.{◌≡◌, ℕ, zero, suc, ◌+◌, ◌-◌, ◌*◌, ◌<◌, ◌≤◌, Bool, true, false, List, [], ◌∷◌, ◌++◌, length, map, slice_get, Some, None, ◌⊎◌, inl, inr, refl, sym, ap, ◌∙◌, subst, arith, append_assoc, length-append}
use Rattle.std.proofs.lemmas.Bool.{eq-eqb, ne_eqb}
use Rattle.std.proofs.lemmas.List.{append-nil, map-append}
use Rattle.ts_base.specs.declared.values.Val.{Val}
use Rattle.ts_base.specs.declared.values.Val.TheVariants as val
use Rattle.ts_cond.specs.declared.fields.CondField.{CondField}
use Rattle.ts_cond.specs.declared.machine.Expect.{Expect}
use Rattle.ts_cond.specs.declared.machine.Expect.TheVariants as expect
use Rattle.ts_cond.specs.declared.naming.Naming.{Naming}
use Rattle.ts_cond.specs.CondTexts.{indexes, compared, nodes_of, height_of, IsWide, more_named, named_by, AreInTurn, suits_field, FitsCompared, AreCompared}
use Rattle.ts_cond.specs.Machine.{suits, judges, meets, Group, group_at, depth_in, closed, with_fact, with_term, with_not, Reading, stands, expecting, fact_ends, under, list_begins, choice_begins, left, moved, is_inside}
use Rattle.ts_cond.specs.Tests.{Test}
use Rattle.ts_cond.specs.Tests as tree
use Rattle.ts_cond.specs.Tokens.{Kind, Open, Close, Comma, And, Or, Not, In, Is, Null, Compares, Label, Number, Text, Blob, unquoted, unhexed}
use Rattle.ts_cond.proofs.GoodTokens.{IsGood}
use Rattle.ts_cond.proofs.GroupLaws.{group_flat, around_flat, indexes_flatten, compared_flatten, flat_fact, flat_term, flat_closed, GroupFits, fresh_fits, fact_fits, term_fits, closed_wide, closed_low, cost, costs_around, fact_cost, term_cost, and_cost, closed_cost, some_terms}
use Rattle.ts_cond.proofs.NamingLaws.{NamingFits, IsOld, IsNew, meets_fits, IsSpelledBy, number_spelled, text_spelled, blob_spelled, judges_clear}
use Rattle.ts_cond.proofs.TreeLaws.{named_by-append, in_turn-append, in_turn_last, compared-append, compared_first, compared_last}

-- ---- what is kept

-- of a test that is not whole: its field, its values, and its nodes

abbrev pub open_indexes : Expect → ℕ → List ℕ
open_indexes expect.Fact field = []
open_indexes expect.Joint field = []
open_indexes _ field = field ∷ []

-- the values of a membership, with their field
abbrev pub pairs : ℕ → List Val → List (ℕ × Val)
pairs field vals = map (λ v. (field, v)) vals

abbrev pub open_vals : Expect → ℕ → List Val → List (ℕ × Val)
open_vals expect.Fact field vals = []
open_vals expect.Joint field vals = []
open_vals _ field vals = pairs field vals

abbrev pub open_nodes : Expect → List Val → ℕ
open_nodes expect.Fact vals = 0
open_nodes expect.Joint vals = 0
open_nodes _ vals = 1 + length vals

-- a fact has begun behind those that are whole
abbrev pub begun : Expect → Bool
begun expect.Joint = false
begun _ = true

-- behind a fact there is one, and behind a value there is one
abbrev pub HasFact : Expect → List Test → Type 0
HasFact expect.Joint facts = 1 ≤ length facts
HasFact _ facts = Unit {0}

abbrev pub HasVal : Expect → List Val → Type 0
HasVal expect.MoreMembers vals = 1 ≤ length vals
HasVal _ vals = Unit {0}

abbrev pub AroundFits : List Group → Type 0
AroundFits [] = Unit {0}
AroundFits (l ∷ outer) = GroupFits l × AroundFits outer

-- each group stands one deeper than the fact around it
abbrev pub Nested : ℕ → List Group → Type 0
Nested depth [] = Unit {0}
Nested depth (l ∷ outer) = (depth ≡ l.depth + l.nots + 1) × Nested l.depth outer

-- the tests that are whole, one after the other
abbrev pub seen : {X : Type 0} → (Test → List X) → List Group → Group → List X
seen g outer l = around_flat g outer ++ group_flat g l

pub record Kept (r : Reading) : Type 0 where
  pub naming : NamingFits r.naming
  pub turn : AreInTurn (length r.naming.used) 0 (seen indexes r.outer r.group ++ open_indexes r.expects r.field)
  pub named : named_by 0 (seen indexes r.outer r.group ++ open_indexes r.expects r.field) ≡ length r.naming.used
  pub vals : AreCompared r.naming.used (seen compared r.outer r.group ++ open_vals r.expects r.field r.vals)
  pub group : GroupFits r.group
  pub around : AroundFits r.outer
  pub nested : Nested r.group.depth r.outer
  pub fact : HasFact r.expects r.group.facts
  pub val : HasVal r.expects r.vals
  pub nodes : costs_around r.outer + cost (begun r.expects) r.group + open_nodes r.expects r.vals ≤ r.nodes

-- and it is within the limits
pub record Sound (r : Reading) : Type 0 where
  pub kept : Kept r
  pub deep : depth_in r.group ≤ 32
  pub few : r.nodes ≤ 1024

-- ---- a test that is not whole

record IsOpen (outer : List Group) (l : Group) (nodes : ℕ) (m : Naming) (field : ℕ) (vals : List Val) : Type 0 where
  pub naming : NamingFits m
  pub turn : AreInTurn (length m.used) 0 (seen indexes outer l ++ field ∷ [])
  pub named : named_by 0 (seen indexes outer l ++ field ∷ []) ≡ length m.used
  pub pairs : AreCompared m.used (seen compared outer l ++ pairs field vals)
  pub group : GroupFits l
  pub around : AroundFits outer
  pub nested : Nested l.depth outer
  pub nodes_are : costs_around outer + cost true l + (1 + length vals) ≤ nodes

abbrev Within : Expect → Type 0
Within expect.Fact = ⊥
Within expect.Joint = ⊥
Within _ = Unit {0}

opened_by : (e : Expect) (r : Reading) → Within e → Kept (expecting e r) → IsOpen r.outer r.group r.nodes r.naming r.field r.vals
opened_by expect.Fact r is k = absurd is
opened_by expect.Joint r is k = absurd is
opened_by expect.Verb r is k = record { naming = k.naming; turn = k.turn; named = k.named; pairs = k.vals; group = k.group; around = k.around; nested = k.nested; nodes_are = k.nodes }
opened_by expect.Operand r is k = record { naming = k.naming; turn = k.turn; named = k.named; pairs = k.vals; group = k.group; around = k.around; nested = k.nested; nodes_are = k.nodes }
opened_by expect.Within r is k = record { naming = k.naming; turn = k.turn; named = k.named; pairs = k.vals; group = k.group; around = k.around; nested = k.nested; nodes_are = k.nodes }
opened_by expect.Members r is k = record { naming = k.naming; turn = k.turn; named = k.named; pairs = k.vals; group = k.group; around = k.around; nested = k.nested; nodes_are = k.nodes }
opened_by expect.Member r is k = record { naming = k.naming; turn = k.turn; named = k.named; pairs = k.vals; group = k.group; around = k.around; nested = k.nested; nodes_are = k.nodes }
opened_by expect.MoreMembers r is k = record { naming = k.naming; turn = k.turn; named = k.named; pairs = k.vals; group = k.group; around = k.around; nested = k.nested; nodes_are = k.nodes }
opened_by expect.Nothing r is k = record { naming = k.naming; turn = k.turn; named = k.named; pairs = k.vals; group = k.group; around = k.around; nested = k.nested; nodes_are = k.nodes }

goes_on_as : (e : Expect) (r : Reading) → Within e → HasVal e r.vals → IsOpen r.outer r.group r.nodes r.naming r.field r.vals → Kept (expecting e r)
goes_on_as expect.Fact r is some o = absurd is
goes_on_as expect.Joint r is some o = absurd is
goes_on_as expect.Verb r is some o = record { naming = o.naming; turn = o.turn; named = o.named; vals = o.pairs; group = o.group; around = o.around; nested = o.nested; fact = tt; val = some; nodes = o.nodes_are }
goes_on_as expect.Operand r is some o = record { naming = o.naming; turn = o.turn; named = o.named; vals = o.pairs; group = o.group; around = o.around; nested = o.nested; fact = tt; val = some; nodes = o.nodes_are }
goes_on_as expect.Within r is some o = record { naming = o.naming; turn = o.turn; named = o.named; vals = o.pairs; group = o.group; around = o.around; nested = o.nested; fact = tt; val = some; nodes = o.nodes_are }
goes_on_as expect.Members r is some o = record { naming = o.naming; turn = o.turn; named = o.named; vals = o.pairs; group = o.group; around = o.around; nested = o.nested; fact = tt; val = some; nodes = o.nodes_are }
goes_on_as expect.Member r is some o = record { naming = o.naming; turn = o.turn; named = o.named; vals = o.pairs; group = o.group; around = o.around; nested = o.nested; fact = tt; val = some; nodes = o.nodes_are }
goes_on_as expect.MoreMembers r is some o = record { naming = o.naming; turn = o.turn; named = o.named; vals = o.pairs; group = o.group; around = o.around; nested = o.nested; fact = tt; val = some; nodes = o.nodes_are }
goes_on_as expect.Nothing r is some o = record { naming = o.naming; turn = o.turn; named = o.named; vals = o.pairs; group = o.group; around = o.around; nested = o.nested; fact = tt; val = some; nodes = o.nodes_are }

-- ---- a fact that is whole

-- a fact stands behind those before it
fact_seen : {X : Type 0} (g : Test → List X) (outer : List Group) (l : Group) (t : Test) → group_flat g (with_fact t l) ≡ group_flat g l ++ g t → seen g outer (with_fact t l) ++ [] ≡ seen g outer l ++ g t
fact_seen g outer l t same =
    append-nil (around_flat g outer ++ group_flat g (with_fact t l)) ∙ ap (λ more. around_flat g outer ++ more) same ∙ sym (append_assoc (around_flat g outer) (group_flat g l) (g t))

ends : (r : Reading) (t : Test) → NamingFits r.naming → AreInTurn (length r.naming.used) 0 (seen indexes r.outer r.group ++ indexes t) → named_by 0 (seen indexes r.outer r.group ++ indexes t) ≡ length r.naming.used
    → AreCompared r.naming.used (seen compared r.outer r.group ++ compared t) → GroupFits r.group → AroundFits r.outer → Nested r.group.depth r.outer
    → IsWide t → r.group.nots + height_of t ≤ 65 - 2 * r.group.depth → costs_around r.outer + cost true r.group + nodes_of t ≤ r.nodes → Kept (fact_ends t r)
ends r t naming turn named vals group around nested wide low nodes =
    let named_same = fact_seen indexes r.outer r.group t (flat_fact indexes indexes_flatten t r.group) in
    let vals_same = fact_seen compared r.outer r.group t (flat_fact compared compared_flatten t r.group) in
    record {
      naming = naming;
      turn = subst (AreInTurn (length r.naming.used) 0) (sym named_same) turn;
      named = ap (named_by 0) named_same ∙ named;
      vals = subst (AreCompared r.naming.used) (sym vals_same) vals;
      group = fact_fits t r.group group wide low;
      around = around;
      nested = nested;
      fact = some_terms r.group.facts (under r.group.nots t);
      val = tt;
      nodes = omega (arith, nodes, fact_cost t r.group);
    }

-- a test of one field that was read whole
leaf_ends : (r : Reading) (t : Test) → IsOpen r.outer r.group r.nodes r.naming r.field r.vals → depth_in r.group ≤ 32 → indexes t ≡ r.field ∷ []
    → AreCompared r.naming.used (compared t) → IsWide t → height_of t ≡ 1 → nodes_of t ≤ 1 + length r.vals → Kept (fact_ends t r)
leaf_ends r t o deep same vals wide low few =
    let flat = seen indexes r.outer r.group in
    ends r t o.naming
    (subst (λ is. AreInTurn (length r.naming.used) 0 (flat ++ is)) (sym same) o.turn)
    (ap (λ is. named_by 0 (flat ++ is)) same ∙ o.named)
    (compared-append r.naming.used (seen compared r.outer r.group) (compared t) (compared_first r.naming.used (seen compared r.outer r.group) (pairs r.field r.vals) o.pairs) vals)
    o.group o.around o.nested wide (omega (arith, deep, low)) (let nodes = o.nodes_are in omega (arith, nodes, few))

-- ---- fields and values

-- there is an item at each place
got : (xs : List CondField) (n : ℕ) → n < length xs → (f : CondField) × (slice_get xs n ≡ Some f)
got [] n few = absurd (omega (arith, few))
got (x ∷ xs) zero few = (x, refl)
got (x ∷ xs) (suc n) few = got xs n (omega (arith, few))

-- the field of a test that is not whole is one that was named
open_field : (r : Reading) → IsOpen r.outer r.group r.nodes r.naming r.field r.vals → r.field < length r.naming.used
open_field r o = (in_turn_last (length r.naming.used) 0 (seen indexes r.outer r.group) (r.field ∷ []) o.turn).0

-- a value is of its field's kind
value_fits : (kind : Kind) (v : Val) (used : List CondField) (field : ℕ) → IsSpelledBy kind v → field < length used
    → ((f : CondField) → slice_get used field ≡ Some f → suits f.ty kind ≡ true) → FitsCompared used (field, v)
value_fits kind v used field spelled few suit =
    let found = got used field few in
    record { value = spelled.value; suits = ap (λ g. suits_field g v) found.1 ∙ spelled.suits found.0.ty (suit found.0 found.1) }

got_more : (xs ys : List CondField) (n : ℕ) (v : Val) → suits_field (slice_get xs n) v ≡ true → suits_field (slice_get (xs ++ ys) n) v ≡ true
got_more [] ys n v h = absurd (let same : false ≡ true = h in cc)
got_more (x ∷ xs) ys zero v h = h
got_more (x ∷ xs) ys (suc n) v h = got_more xs ys n v h

-- more fields are named
compared_wider : (used more : List CondField) (xs : List (ℕ × Val)) → AreCompared used xs → AreCompared (used ++ more) xs
compared_wider used more [] are = tt
compared_wider used more (x ∷ xs) are = (record { value = are.0.value; suits = got_more used more x.0 x.1 are.0.suits }, compared_wider used more xs are.1)

in_turn_wider : (count more n : ℕ) (is : List ℕ) → count ≤ more → AreInTurn count n is → AreInTurn more n is
in_turn_wider count more n [] less are = tt
in_turn_wider count more n (i ∷ is) less are = (let few = are.0 in omega (arith, less, few), are.1, in_turn_wider count more (more_named n i) is less are.2)

named_old : (count field : ℕ) → field < count → more_named count field ≡ count
named_old count field few = rw (ne_eqb field count (λ same. omega (arith, same, few))) refl

named_new : (count : ℕ) → more_named count count ≡ count + 1
named_new count = rw (eq-eqb count count refl) refl

-- ---- token by token

-- a field is named
label_kept : (name : List ℕ) (r : Reading) → Kept (expecting expect.Fact r) → (meets name r.naming).1.clash ≡ None → Kept (moved (Label name) (expecting expect.Fact r))
label_kept name r k clear = by_met (meets_fits name r.naming k.naming clear)
  where
    flat : List ℕ
    flat = seen indexes r.outer r.group

    no_more : flat ++ [] ≡ flat
    no_more = append-nil flat

    turn : AreInTurn (length r.naming.used) 0 flat
    turn = subst (AreInTurn (length r.naming.used) 0) no_more k.turn

    named : named_by 0 flat ≡ length r.naming.used
    named = sym (ap (named_by 0) no_more) ∙ k.named

    vals : AreCompared r.naming.used (seen compared r.outer r.group)
    vals = compared_first r.naming.used (seen compared r.outer r.group) [] k.vals

    s : Reading
    s = moved (Label name) (expecting expect.Fact r)

    by_met : IsOld r.naming (meets name r.naming) ⊎ IsNew r.naming (meets name r.naming) → Kept s
    by_met (inl old) = record {
      naming = subst NamingFits (sym old.same) k.naming;
      turn = subst (λ m. AreInTurn (length m.used) 0 (flat ++ s.field ∷ [])) (sym old.same)
          (in_turn-append (length r.naming.used) 0 flat (s.field ∷ []) turn (old.within, let few = old.within in omega (arith, few, named), tt));
      named = named_by-append 0 flat (s.field ∷ []) ∙ ap (λ n. more_named n s.field) named ∙ named_old (length r.naming.used) s.field old.within ∙ sym (ap (λ m. length m.used) old.same);
      vals = subst (λ m. AreCompared m.used (seen compared r.outer r.group ++ [])) (sym old.same) k.vals;
      group = k.group;
      around = k.around;
      nested = k.nested;
      fact = tt;
      val = tt;
      nodes = let nodes = k.nodes in omega (arith, nodes);
    }
    by_met (inr new) =
        let count : length s.naming.used ≡ length r.naming.used + 1 = ap length new.used ∙ length-append r.naming.used (new.field ∷ []) ∙ omega arith in
        record {
          naming = new.fits;
          turn = in_turn-append (length s.naming.used) 0 flat (s.field ∷ []) (in_turn_wider (length r.naming.used) (length s.naming.used) 0 flat (omega (arith, count)) turn)
              (let place = new.place in omega (arith, place, count), let place = new.place in omega (arith, place, named), tt);
          named = named_by-append 0 flat (s.field ∷ []) ∙ ap (λ n. more_named n s.field) named ∙ ap (more_named (length r.naming.used)) new.place ∙ named_new (length r.naming.used) ∙ sym count;
          vals = subst (λ used. AreCompared used (seen compared r.outer r.group ++ [])) (sym new.used) (compared_wider r.naming.used (new.field ∷ []) (seen compared r.outer r.group ++ []) k.vals);
          group = k.group;
          around = k.around;
          nested = k.nested;
          fact = tt;
          val = tt;
          nodes = let nodes = k.nodes in omega (arith, nodes);
        }

-- a value is compared with its field
operand_kept : (kind : Kind) (v : Val) (r : Reading) → IsSpelledBy kind v → Kept (expecting expect.Operand r) → depth_in r.group ≤ 32 → (judges r.field kind r.naming).clash ≡ None
    → Kept (fact_ends (tree.Compare r.op r.field v) (record r { expects = expect.Operand; naming = judges r.field kind r.naming }))
operand_kept kind v r spelled k deep clear =
    let judged_as = judges_clear (slice_get r.naming.used r.field) kind r.naming clear in
    let o = opened_by expect.Operand r tt k in
    let one = value_fits kind v r.naming.used r.field spelled (open_field r o) judged_as.1 in
    subst (λ m. Kept (fact_ends (tree.Compare r.op r.field v) (record r { expects = expect.Operand; naming = m }))) (sym judged_as.0)
    (leaf_ends (expecting expect.Operand r) (tree.Compare r.op r.field v) o deep refl (one, tt) tt refl (omega arith))

-- a value of a membership
member_kept : (kind : Kind) (v : Val) (r : Reading) → IsSpelledBy kind v → Kept (expecting expect.Member r) → (judges r.field kind r.naming).clash ≡ None
    → Kept (record r { expects = expect.MoreMembers; nodes = r.nodes + 1; naming = judges r.field kind r.naming; vals = r.vals ++ v ∷ [] })
member_kept kind v r spelled k clear =
    let judged_as = judges_clear (slice_get r.naming.used r.field) kind r.naming clear in
    let o = opened_by expect.Member r tt k in
    let one = value_fits kind v r.naming.used r.field spelled (open_field r o) judged_as.1 in
    let flat = seen compared r.outer r.group in
    let count = length-append r.vals (v ∷ []) in
    let same : flat ++ pairs r.field (r.vals ++ v ∷ []) ≡ (flat ++ pairs r.field r.vals) ++ (r.field, v) ∷ [] =
    ap (λ more. flat ++ more) (map-append (λ u. (r.field, u)) r.vals (v ∷ [])) ∙ sym (append_assoc flat (pairs r.field r.vals) ((r.field, v) ∷ [])) in
    subst (λ m. Kept (record r { expects = expect.MoreMembers; nodes = r.nodes + 1; naming = m; vals = r.vals ++ v ∷ [] })) (sym judged_as.0) (record {
      naming = o.naming;
      turn = o.turn;
      named = o.named;
      vals = subst (AreCompared r.naming.used) (sym same) (compared-append r.naming.used (flat ++ pairs r.field r.vals) ((r.field, v) ∷ []) o.pairs (one, tt));
      group = o.group;
      around = o.around;
      nested = o.nested;
      fact = tt;
      val = omega (arith, count);
      nodes = let nodes = o.nodes_are in omega (arith, nodes, count);
    })

-- a membership is whole
membership_kept : (r : Reading) → Kept (expecting expect.MoreMembers r) → depth_in r.group ≤ 32 → Kept (fact_ends (tree.Member r.negated r.field r.vals) (expecting expect.MoreMembers r))
membership_kept r k deep =
    let o = opened_by expect.MoreMembers r tt k in
    leaf_ends (expecting expect.MoreMembers r) (tree.Member r.negated r.field r.vals) o deep refl (last_pairs (seen compared r.outer r.group) (pairs r.field r.vals) o.pairs) k.val refl (omega arith)
  where
    last_pairs : (xs ys : List (ℕ × Val)) → AreCompared r.naming.used (xs ++ ys) → AreCompared r.naming.used ys
    last_pairs xs ys are = compared_last r.naming.used xs ys are

-- a pair of parentheses is whole
left_kept : (outer : List Group) (r : Reading) → is_inside outer ≡ true → Kept (record r { expects = expect.Joint; outer = outer }) → depth_in r.group ≤ 32
    → Kept (left outer (closed r.group) (record r { expects = expect.Joint; outer = outer }))
left_kept [] r inside k deep = absurd (let same : false ≡ true = inside in cc)
left_kept (l ∷ outer) r inside k deep =
    let t = closed r.group in
    let depth : r.group.depth ≤ 32 = omega (arith, deep) in
    let height = closed_low r.group k.group k.fact depth in
    let nested = k.nested.0 in
    let nodes = k.nodes in
    let idx = whole_seen indexes outer l r.group t (flat_closed indexes indexes_flatten r.group) in
    let cmp = whole_seen compared outer l r.group t (flat_closed compared compared_flatten r.group) in
    ends (record r { group = l; outer = outer }) t k.naming (subst (AreInTurn (length r.naming.used) 0) idx k.turn) (sym (ap (named_by 0) idx) ∙ k.named)
    (subst (AreCompared r.naming.used) cmp k.vals) k.around.0 k.around.1 k.nested.1 (closed_wide r.group k.group k.fact)
    (omega (arith, height, nested, deep)) (omega (arith, nodes, closed_cost r.group k.fact))
  where
    whole_seen : {X : Type 0} (g : Test → List X) (around : List Group) (l m : Group) (t : Test) → g t ≡ group_flat g m → seen g (l ∷ around) m ++ [] ≡ seen g around l ++ g t
    whole_seen g around l m t same = append-nil (seen g (l ∷ around) m) ∙ ap (λ more. seen g around l ++ more) (sym same)

-- parentheses open
open_kept : (r : Reading) → Kept (expecting expect.Fact r) → depth_in r.group ≤ 32 → Kept (record r { expects = expect.Fact; group = group_at (depth_in r.group + 1); outer = r.group ∷ r.outer })
open_kept r k deep =
    let nodes = k.nodes in
    let idx : seen indexes (r.group ∷ r.outer) (group_at (depth_in r.group + 1)) ≡ seen indexes r.outer r.group = append-nil (seen indexes r.outer r.group) in
    let cmp : seen compared (r.group ∷ r.outer) (group_at (depth_in r.group + 1)) ≡ seen compared r.outer r.group = append-nil (seen compared r.outer r.group) in
    record {
      naming = k.naming;
      turn = subst (λ is. AreInTurn (length r.naming.used) 0 (is ++ [])) (sym idx) k.turn;
      named = ap (λ is. named_by 0 (is ++ [])) idx ∙ k.named;
      vals = subst (λ xs. AreCompared r.naming.used (xs ++ [])) (sym cmp) k.vals;
      group = fresh_fits (depth_in r.group + 1);
      around = (k.group, k.around);
      nested = (refl, k.nested);
      fact = tt;
      val = tt;
      nodes = omega (arith, nodes);
    }

-- `not` before a fact
not_kept : (r : Reading) → Kept (expecting expect.Fact r) → Kept (record r { expects = expect.Fact; group = with_not r.group; nodes = r.nodes + 1 })
not_kept r k =
    let nodes = k.nodes in
    let group = k.group in
    record {
      naming = k.naming;
      turn = k.turn;
      named = k.named;
      vals = k.vals;
      group = record { terms_low = group.terms_low; facts_low = group.facts_low; terms_wide = group.terms_wide; facts_wide = group.facts_wide };
      around = k.around;
      nested = k.nested;
      fact = tt;
      val = tt;
      nodes = omega (arith, nodes);
    }

-- `and` behind a fact
and_kept : (r : Reading) → Kept (expecting expect.Joint r) → Kept (record r { expects = expect.Fact; nodes = r.nodes + list_begins r.group.facts })
and_kept r k =
    let nodes = k.nodes in
    record {
      naming = k.naming;
      turn = k.turn;
      named = k.named;
      vals = k.vals;
      group = k.group;
      around = k.around;
      nested = k.nested;
      fact = tt;
      val = tt;
      nodes = omega (arith, nodes, and_cost r.group);
    }

-- `or` behind a fact
or_kept : (r : Reading) → Kept (expecting expect.Joint r) → depth_in r.group ≤ 32
    → Kept (record r { expects = expect.Fact; nodes = r.nodes + choice_begins r.group.terms; group = with_term r.group })
or_kept r k deep =
    let nodes = k.nodes in
    let idx = ap (λ more. around_flat indexes r.outer ++ more) (flat_term indexes indexes_flatten r.group) in
    let cmp = ap (λ more. around_flat compared r.outer ++ more) (flat_term compared compared_flatten r.group) in
    record {
      naming = k.naming;
      turn = subst (λ is. AreInTurn (length r.naming.used) 0 (is ++ [])) (sym idx) k.turn;
      named = ap (λ is. named_by 0 (is ++ [])) idx ∙ k.named;
      vals = subst (λ xs. AreCompared r.naming.used (xs ++ [])) (sym cmp) k.vals;
      group = term_fits r.group k.group k.fact (omega (arith, deep));
      around = k.around;
      nested = k.nested;
      fact = tt;
      val = tt;
      nodes = omega (arith, nodes, term_cost r.group k.fact);
    }

-- a token that may stand there
pub moved_kept : (kind : Kind) (e : Expect) (r : Reading) → stands e (is_inside r.outer) kind ≡ true → IsGood kind → Sound (expecting e r)
    → (moved kind (expecting e r)).naming.clash ≡ None → Kept (moved kind (expecting e r))
moved_kept Open expect.Fact r may good s clear = open_kept r s.kept s.deep
moved_kept Open expect.Members r may good s clear = goes_on_as expect.Member r tt tt (opened_by expect.Members r tt s.kept)
moved_kept Close expect.MoreMembers r may good s clear = membership_kept r s.kept s.deep
moved_kept Close expect.Joint r may good s clear = left_kept r.outer r may s.kept s.deep
moved_kept Comma expect.MoreMembers r may good s clear = goes_on_as expect.Member r tt tt (opened_by expect.MoreMembers r tt s.kept)
moved_kept Not expect.Fact r may good s clear = not_kept r s.kept
moved_kept Not expect.Verb r may good s clear = goes_on_as expect.Within (record r { negated = true }) tt tt (opened_by expect.Verb r tt s.kept)
moved_kept And expect.Joint r may good s clear = and_kept r s.kept
moved_kept Or expect.Joint r may good s clear = or_kept r s.kept s.deep
moved_kept In expect.Verb r may good s clear = goes_on_as expect.Members r tt tt (opened_by expect.Verb r tt s.kept)
moved_kept In expect.Within r may good s clear = goes_on_as expect.Members r tt tt (opened_by expect.Within r tt s.kept)
moved_kept Is expect.Verb r may good s clear = goes_on_as expect.Nothing r tt tt (opened_by expect.Verb r tt s.kept)
moved_kept Null expect.Nothing r may good s clear =
    leaf_ends (expecting expect.Nothing r) (tree.IsNull r.field) (opened_by expect.Nothing r tt s.kept) s.deep refl tt tt refl (omega arith)
moved_kept (Compares o) expect.Verb r may good s clear = goes_on_as expect.Operand (record r { op = o }) tt tt (opened_by expect.Verb r tt s.kept)
moved_kept (Label name) expect.Fact r may good s clear = label_kept name r s.kept clear
moved_kept (Number z) expect.Operand r may good s clear = operand_kept (Number z) (val.Int z) r (number_spelled z good) s.kept s.deep clear
moved_kept (Number z) expect.Member r may good s clear = member_kept (Number z) (val.Int z) r (number_spelled z good) s.kept clear
moved_kept (Text raw) expect.Operand r may good s clear = operand_kept (Text raw) (val.Bytes (unquoted false raw)) r (text_spelled raw good) s.kept s.deep clear
moved_kept (Text raw) expect.Member r may good s clear = member_kept (Text raw) (val.Bytes (unquoted false raw)) r (text_spelled raw good) s.kept clear
moved_kept (Blob digits) expect.Operand r may good s clear = operand_kept (Blob digits) (val.Bytes (unhexed digits)) r (blob_spelled digits good) s.kept s.deep clear
moved_kept (Blob digits) expect.Member r may good s clear = member_kept (Blob digits) (val.Bytes (unhexed digits)) r (blob_spelled digits good) s.kept clear
moved_kept _ _ r may good s clear = absurd (let same : false ≡ true = may in cc)
