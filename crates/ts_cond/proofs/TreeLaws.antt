-- A condition's tree, and a condition, are read exactly.
use Rattle.std.proofs.Common.{◌≡◌, ℕ, zero, suc, ◌+◌, ◌<◌, ◌≤◌, ◌^◌, Bool, true, ◌&&◌, nat_lt, nat_le, List, [], ◌∷◌, ◌++◌, length, map, Option, Err, refl, sym, ap, ◌∙◌, subst, arith, slice_get, length-append}
use Rattle.std.proofs.Math.Nat.{le-max_left, le-max_right, max-le}
use Rattle.std.specs.List.{flat_map}
use Rattle.ts_base.specs.declared.values.Val.{Val}
use Rattle.ts_wire.specs.Place.{Place, Read}
use Rattle.ts_wire.specs.Exact.{Exact, InTurn}
use Rattle.ts_wire.specs.Numbers.{number_bytes}
use Rattle.ts_wire.specs.Fields.{bool_bytes, val_bytes, FitsVal}
use Rattle.ts_wire.proofs.Laws.{not_both, same_err, restated, mapped_exact, both_exact, ruled_exact, counted_exact}
use Rattle.ts_wire.proofs.Numbers.{number_exact}
use Rattle.ts_wire.proofs.FieldLaws.{bool_exact, val_exact}
use Rattle.ts_cond.specs.declared.fields.CondField.{CondField}
use Rattle.ts_cond.specs.declared.nodes.CondOp.{CondOp}
use Rattle.ts_cond.specs.declared.tags.Tag.{Tag}
use Rattle.ts_cond.specs.declared.tags.Tag.TheVariants.{AllOf, AnyOf, NotOf, Comparing, Membership, Nullness}
use Rattle.ts_cond.specs.CondTexts.{indexes, all_indexes, compared, all_compared, nodes_of, all_nodes, height_of, highest, count_of, IsWide, AreWide, more_named, named_by, AreInTurn, suits_field, AreCompared, tag_bytes, op_bytes, index_at, operand_at, member_at, member_count_at, members_at, list_count_at, Walk, walk, past_tag, past_all, nodes_at, compare_at, membership_at, null_at, untagged_at, node_at, node_bytes, nodes_bytes}
use Rattle.ts_cond.specs.Machine.{tests_from}
use Rattle.ts_cond.specs.Tests.{Test, Tests, All, Any, Not, Compare, Member, IsNull, no_test, test}
use Rattle.ts_cond.proofs.CondLaws.{tag_exact, op_exact}
use Rattle.ts_cond.proofs.Trees.{tests_count, tests_bytes, indexes_more, nodes_more}

-- ---- what fits

-- a tree fits behind what was read, where it may be so high
pub record FitsTest (fields : List CondField) (most : ℕ) (w : Walk) (t : Test) : Type 0 where
  pub in_turn : AreInTurn (length fields) w.named (indexes t)
  pub vals : AreCompared fields (compared t)
  pub wide : IsWide t
  pub height : height_of t ≤ most
  pub nodes : w.nodes + nodes_of t ≤ 1024

-- the same of the tests of a list
pub record FitTests (fields : List CondField) (most : ℕ) (w : Walk) (ts : Tests) : Type 0 where
  pub in_turn : AreInTurn (length fields) w.named (all_indexes ts)
  pub vals : AreCompared fields (all_compared ts)
  pub wide : AreWide ts
  pub height : highest ts ≤ most
  pub nodes : w.nodes + all_nodes ts ≤ 1024

-- behind the fields that are named last
pub named_by-append : (n : ℕ) (xs ys : List ℕ) → named_by n (xs ++ ys) ≡ named_by (named_by n xs) ys
named_by-append n [] ys = refl
named_by-append n (x ∷ xs) ys = named_by-append (more_named n x) xs ys

pub in_turn-append : (count n : ℕ) (xs ys : List ℕ) → AreInTurn count n xs → AreInTurn count (named_by n xs) ys → AreInTurn count n (xs ++ ys)
in_turn-append count n [] ys some more = more
in_turn-append count n (x ∷ xs) ys some more = (some.0, some.1, in_turn-append count (more_named n x) xs ys some.2 more)

pub in_turn_first : (count n : ℕ) (xs ys : List ℕ) → AreInTurn count n (xs ++ ys) → AreInTurn count n xs
in_turn_first count n [] ys all = tt
in_turn_first count n (x ∷ xs) ys all = (all.0, all.1, in_turn_first count (more_named n x) xs ys all.2)

pub in_turn_last : (count n : ℕ) (xs ys : List ℕ) → AreInTurn count n (xs ++ ys) → AreInTurn count (named_by n xs) ys
in_turn_last count n [] ys all = all
in_turn_last count n (x ∷ xs) ys all = in_turn_last count (more_named n x) xs ys all.2

pub compared-append : (fields : List CondField) (xs ys : List (ℕ × Val)) → AreCompared fields xs → AreCompared fields ys → AreCompared fields (xs ++ ys)
compared-append fields [] ys some more = more
compared-append fields (x ∷ xs) ys some more = (some.0, compared-append fields xs ys some.1 more)

pub compared_first : (fields : List CondField) (xs ys : List (ℕ × Val)) → AreCompared fields (xs ++ ys) → AreCompared fields xs
compared_first fields [] ys all = tt
compared_first fields (x ∷ xs) ys all = (all.0, compared_first fields xs ys all.1)

pub compared_last : (fields : List CondField) (xs ys : List (ℕ × Val)) → AreCompared fields (xs ++ ys) → AreCompared fields ys
compared_last fields [] ys all = all
compared_last fields (x ∷ xs) ys all = compared_last fields xs ys all.1

-- behind one test more
pub past_more : (w : Walk) (front : List Test) (t : Test) → past_all w (front ++ t ∷ []) ≡ walk (named_by (past_all w front).named (indexes t)) ((past_all w front).nodes + nodes_of t)
past_more w front t =
    let named = ap (named_by w.named) (indexes_more front t) ∙ named_by-append w.named (all_indexes (tests_from front)) (indexes t) in
    let nodes : w.nodes + all_nodes (tests_from (front ++ t ∷ [])) ≡ w.nodes + all_nodes (tests_from front) + nodes_of t = omega (arith, nodes_more front t) in
    ap (λ n. walk n (w.nodes + all_nodes (tests_from (front ++ t ∷ [])))) named ∙ ap (walk (named_by (named_by w.named (all_indexes (tests_from front))) (indexes t))) nodes

module _ (fields : List CondField) (most : ℕ) (w : Walk) where
  -- each test of a list, behind those before it
  abbrev Each : List Test → Test → Type 0
  Each front t = FitsTest fields most (past_all w front) t

  -- what fits test by test fits as a list
  pub tests_there : (front ts : List Test) → (past_all w front).nodes ≤ 1024 → InTurn Each front ts → FitTests fields most (past_all w front) (tests_from ts)
  tests_there front [] few fits = record { in_turn = tt; vals = tt; wide = tt; height = omega arith; nodes = omega (arith, few) }
  tests_there front (t ∷ ts) few fits =
      let one = fits.0 in
      let next = past_more w front t in
      let room : (past_all w (front ++ t ∷ [])).nodes ≤ 1024 = omega (arith, nodes_more front t, one.nodes) in
      let more = subst (λ v. FitTests fields most v (tests_from ts)) next (tests_there (front ++ t ∷ []) ts room fits.1) in
      record {
        in_turn = in_turn-append (length fields) (past_all w front).named (indexes t) (all_indexes (tests_from ts)) one.in_turn more.in_turn;
        vals = compared-append fields (compared t) (all_compared (tests_from ts)) one.vals more.vals;
        wide = (one.wide, more.wide);
        height = max-le one.height more.height;
        nodes = omega (arith, more.nodes);
      }

  -- what fits as a list fits test by test
  pub tests_back : (front ts : List Test) → FitTests fields most (past_all w front) (tests_from ts) → InTurn Each front ts
  tests_back front [] fits = tt
  tests_back front (t ∷ ts) fits =
      let one : Each front t = record {
        in_turn = in_turn_first (length fields) (past_all w front).named (indexes t) (all_indexes (tests_from ts)) fits.in_turn;
        vals = compared_first fields (compared t) (all_compared (tests_from ts)) fits.vals;
        wide = fits.wide.0;
        height = omega (arith, fits.height, le-max_left (height_of t) (highest (tests_from ts)));
        nodes = omega (arith, fits.nodes);
      } in
      let more : FitTests fields most (walk (named_by (past_all w front).named (indexes t)) ((past_all w front).nodes + nodes_of t)) (tests_from ts) = record {
        in_turn = in_turn_last (length fields) (past_all w front).named (indexes t) (all_indexes (tests_from ts)) fits.in_turn;
        vals = compared_last fields (compared t) (all_compared (tests_from ts)) fits.vals;
        wide = fits.wide.1;
        height = omega (arith, fits.height, le-max_right (height_of t) (highest (tests_from ts)));
        nodes = omega (arith, fits.nodes);
      } in
      (one, tests_back (front ++ t ∷ []) ts (subst (λ v. FitTests fields most v (tests_from ts)) (sym (past_more w front t)) more))

-- ---- nodes

-- the tests of a node, as a list
abbrev list_of : Tests → List Test
list_of no_test = []
list_of (test t ts) = t ∷ list_of ts

list_again : (ts : Tests) → tests_from (list_of ts) ≡ ts
list_again no_test = refl
list_again (test t ts) = ap (test t) (list_again ts)

-- nothing was read of a list yet
past_none : (w : Walk) → past_all w [] ≡ w
past_none w = ap (walk w.named) (omega arith)

pub some_nodes : (t : Test) → 1 ≤ nodes_of t
some_nodes (All ts) = omega arith
some_nodes (Any ts) = omega arith
some_nodes (Not t) = omega arith
some_nodes (Compare o field val) = omega arith
some_nodes (Member negated field vals) = omega arith
some_nodes (IsNull field) = omega arith

pub some_height : (t : Test) → 1 ≤ height_of t
some_height (All ts) = omega arith
some_height (Any ts) = omega arith
some_height (Not t) = omega arith
some_height (Compare o field val) = omega arith
some_height (Member negated field vals) = omega arith
some_height (IsNull field) = omega arith

pub few_tests : (ts : List Test) → length ts ≤ all_nodes (tests_from ts)
few_tests [] = omega arith
few_tests (t ∷ ts) = omega (arith, few_tests ts, some_nodes t)

list_count_exact : Exact (λ count. (count < 256 ^ 2) × (nat_le 2 count ≡ true)) (number_bytes 2) list_count_at
unfolding list_count_at
list_count_exact = ruled_exact (λ count. nat_le 2 count) (number_exact 2)

member_count_exact : Exact (λ count. (count < 256 ^ 2) × (nat_le 1 count ≡ true)) (number_bytes 2) member_count_at
unfolding member_count_at
member_count_exact = ruled_exact (λ count. nat_le 1 count) (number_exact 2)

pub index_exact : (fields : List CondField) (named : ℕ) → length fields ≤ 72
    → Exact (λ field. (field < length fields) × (field ≤ named)) (number_bytes 1) (index_at fields named)
unfolding index_at
index_exact fields named few = restated (ruled_exact (λ field. nat_lt field (length fields) && nat_le field named) (number_exact 1))
    (λ field fits. ((grind (arith, fits.1), grind (arith, fits.1)), refl))
    (λ field fits. (omega (arith, fits.0, few), grind (arith, fits.0, fits.1)))

operand_exact : (field : Option CondField) → Exact (λ val. FitsVal val × (suits_field field val ≡ true)) val_bytes (operand_at field)
unfolding operand_at
operand_exact field = ruled_exact (suits_field field) val_exact

-- a value of a membership behind others
abbrev IsMember : Option CondField → ℕ → List Val → Val → Type 0
IsMember field nodes front val = FitsVal val × ((suits_field field val && nat_lt (nodes + length front) 1024) ≡ true)

member_exact : (field : Option CondField) (nodes : ℕ) (front : List Val) → Exact (IsMember field nodes front) val_bytes (member_at field nodes front)
unfolding member_at
member_exact field nodes front = ruled_exact (λ val. suits_field field val && nat_lt (nodes + length front) 1024) val_exact

-- the values of a membership, where so many nodes and values stand before them
pub record AreMembers (fields : List CondField) (field nodes : ℕ) (vals : List Val) : Type 0 where
  pub some : 1 ≤ length vals
  pub suit : AreCompared fields (map (λ val. (field, val)) vals)
  pub few : nodes + length vals ≤ 1024

module _ (fields : List CondField) (field nodes : ℕ) where
  members_suit : (front vals : List Val) → InTurn (IsMember (slice_get fields field) nodes) front vals → AreCompared fields (map (λ val. (field, val)) vals)
  members_suit front [] fits = tt
  members_suit front (v ∷ vs) fits = (record { value = fits.0.0; suits = grind (arith, fits.0.1) }, members_suit (front ++ v ∷ []) vs fits.1)

  members_few : (front vals : List Val) → nodes + length front ≤ 1024 → InTurn (IsMember (slice_get fields field) nodes) front vals → nodes + length front + length vals ≤ 1024
  members_few front [] room fits = omega (arith, room)
  members_few front (v ∷ vs) room fits =
      let one : nodes + length front < 1024 = grind (arith, fits.0.1) in
      let count = length-append front (v ∷ []) in
      omega (arith, members_few (front ++ v ∷ []) vs (omega (arith, one, count)) fits.1, count)

  members_back : (front vals : List Val) → AreCompared fields (map (λ val. (field, val)) vals) → nodes + length front + length vals ≤ 1024 → InTurn (IsMember (slice_get fields field) nodes) front vals
  members_back front [] suit few = tt
  members_back front (v ∷ vs) suit few =
      let room : nodes + length front < 1024 = omega (arith, few) in
      let count = length-append front (v ∷ []) in
      ((suit.0.value, grind (arith, suit.0.suits, room)), members_back (front ++ v ∷ []) vs suit.1 (omega (arith, few, count)))

members_exact : (fields : List CondField) (field nodes : ℕ) → nodes ≤ 1024
    → Exact (AreMembers fields field nodes) (λ vals. number_bytes 2 (length vals) ++ flat_map val_bytes vals) (members_at (slice_get fields field) nodes)
unfolding members_at
members_exact fields field nodes room = restated (counted_exact member_count_exact (member_exact (slice_get fields field) nodes))
    (λ vals fits. (
      record {
        some = grind (arith, fits.0.1);
        suit = members_suit fields field nodes [] vals fits.1;
        few = let all = members_few fields field nodes [] vals (omega (arith, room)) fits.1 in omega (arith, all);
      },
      refl,
    ))
    (λ vals fits. ((let few = fits.few in omega (arith, few), let some = fits.some in grind (arith, some)), members_back fields field nodes [] vals fits.suit (let few = fits.few in omega (arith, few))))

-- the tag of a test
abbrev tag_in : Test → Tag
tag_in (All ts) = AllOf
tag_in (Any ts) = AnyOf
tag_in (Not t) = NotOf
tag_in (Compare o field val) = Comparing
tag_in (Member negated field vals) = Membership
tag_in (IsNull field) = Nullness

-- what stands behind the tag of a test
abbrev untagged : Test → List ℕ
untagged (All ts) = number_bytes 2 (count_of ts) ++ nodes_bytes ts
untagged (Any ts) = number_bytes 2 (count_of ts) ++ nodes_bytes ts
untagged (Not t) = node_bytes t
untagged (Compare o field val) = op_bytes o ++ (number_bytes 1 field ++ val_bytes val)
untagged (Member negated field vals) = bool_bytes negated ++ (number_bytes 1 field ++ (number_bytes 2 (length vals) ++ flat_map val_bytes vals))
untagged (IsNull field) = number_bytes 1 field

tagged_bytes : (t : Test) → tag_bytes (tag_in t) ++ untagged t ≡ node_bytes t
unfolding node_bytes
tagged_bytes (All ts) = refl
tagged_bytes (Any ts) = refl
tagged_bytes (Not t) = refl
tagged_bytes (Compare o field val) = refl
tagged_bytes (Member negated field vals) = refl
tagged_bytes (IsNull field) = refl

-- a test fits, and has this tag
abbrev FitsTagged : List CondField → ℕ → Walk → Tag → Test → Type 0
FitsTagged fields most w tag t = FitsTest fields (suc most) w t × (tag_in t ≡ tag)

-- some tests, as the tests of one node, are spelled the same
lists_alike : (ts : List Test) → number_bytes 2 (length ts) ++ flat_map node_bytes ts ≡ number_bytes 2 (count_of (tests_from ts)) ++ nodes_bytes (tests_from ts)
lists_alike ts = ap (λ n. number_bytes 2 n ++ flat_map node_bytes ts) (sym (tests_count ts)) ∙ ap (λ bytes. number_bytes 2 (count_of (tests_from ts)) ++ bytes) (sym (tests_bytes ts))

-- the tests of a list: two or more that fit
abbrev AreListed : List CondField → ℕ → Walk → List Test → Type 0
AreListed fields most w ts = (2 ≤ length ts) × FitTests fields most w (tests_from ts)

module _ (fields : List CondField) (few : length fields ≤ 72) (most : ℕ) (node : Walk → Place → Read Test) (law : (v : Walk) → Exact (FitsTest fields most v) node_bytes (node v)) where
  nodes_exact : (w : Walk) → w.nodes ≤ 1024 → Exact (AreListed fields most w) (λ ts. number_bytes 2 (length ts) ++ flat_map node_bytes ts) (nodes_at node w)
  unfolding nodes_at
  nodes_exact w room = restated (counted_exact list_count_exact (λ front. law (past_all w front)))
      (λ ts fits. ((grind (arith, fits.0.1), subst (λ v. FitTests fields most v (tests_from ts)) (past_none w) (tests_there fields most w [] ts (omega (arith, room)) fits.1)), refl))
      (λ ts fits. (
        (let count = few_tests ts in let nodes = fits.1.nodes in omega (arith, count, nodes), let some = fits.0 in grind (arith, some)),
        tests_back fields most w [] ts (subst (λ v. FitTests fields most v (tests_from ts)) (sym (past_none w)) fits.1),
      ))

  -- the tests behind a tag, and the tests of a node that fits
  listed_back : (w : Walk) (ts : Tests) → 2 ≤ count_of ts → FitTests fields most w ts → AreListed fields most w (list_of ts)
  listed_back w ts some fits =
      let again = list_again ts in
      (subst (λ n. 2 ≤ n) (sym (ap count_of again) ∙ tests_count (list_of ts)) some, subst (FitTests fields most w) (sym again) fits)

  all_exact : (w : Walk) → w.nodes < 1024 → Exact (FitsTagged fields most w AllOf) untagged (untagged_at fields node (past_tag w) AllOf)
  unfolding untagged_at
  all_exact w room = mapped_exact (nodes_exact (past_tag w) (omega (arith, room))) (record {
    there = λ ts fits. (
      (
        record {
          in_turn = fits.1.in_turn;
          vals = fits.1.vals;
          wide = (subst (λ n. 2 ≤ n) (sym (tests_count ts)) fits.0, fits.1.wide);
          height = let height = fits.1.height in omega (arith, height);
          nodes = let nodes = fits.1.nodes in omega (arith, nodes);
        },
        refl,
      ),
      lists_alike ts,
    );
    back = back;
  })
    where
      back : (t : Test) → FitsTagged fields most w AllOf t
          → (ts : List Test) × AreListed fields most (past_tag w) ts × (All (tests_from ts) ≡ t) × (number_bytes 2 (length ts) ++ flat_map node_bytes ts ≡ untagged t)
      back (All ts) fits =
          let list : FitTests fields most (past_tag w) ts = record {
            in_turn = fits.0.in_turn;
            vals = fits.0.vals;
            wide = fits.0.wide.1;
            height = let height = fits.0.height in omega (arith, height);
            nodes = let nodes = fits.0.nodes in omega (arith, nodes);
          } in
          let again = list_again ts in
          (list_of ts, listed_back (past_tag w) ts fits.0.wide.0 list, ap All again, lists_alike (list_of ts) ∙ ap (λ us. number_bytes 2 (count_of us) ++ nodes_bytes us) again)
      back (Any ts) fits = absurd (let other = fits.1 in cc)
      back (Not t) fits = absurd (let other = fits.1 in cc)
      back (Compare o field val) fits = absurd (let other = fits.1 in cc)
      back (Member negated field vals) fits = absurd (let other = fits.1 in cc)
      back (IsNull field) fits = absurd (let other = fits.1 in cc)

  any_exact : (w : Walk) → w.nodes < 1024 → Exact (FitsTagged fields most w AnyOf) untagged (untagged_at fields node (past_tag w) AnyOf)
  unfolding untagged_at
  any_exact w room = mapped_exact (nodes_exact (past_tag w) (omega (arith, room))) (record {
    there = λ ts fits. (
      (
        record {
          in_turn = fits.1.in_turn;
          vals = fits.1.vals;
          wide = (subst (λ n. 2 ≤ n) (sym (tests_count ts)) fits.0, fits.1.wide);
          height = let height = fits.1.height in omega (arith, height);
          nodes = let nodes = fits.1.nodes in omega (arith, nodes);
        },
        refl,
      ),
      lists_alike ts,
    );
    back = back;
  })
    where
      back : (t : Test) → FitsTagged fields most w AnyOf t
          → (ts : List Test) × AreListed fields most (past_tag w) ts × (Any (tests_from ts) ≡ t) × (number_bytes 2 (length ts) ++ flat_map node_bytes ts ≡ untagged t)
      back (Any ts) fits =
          let list : FitTests fields most (past_tag w) ts = record {
            in_turn = fits.0.in_turn;
            vals = fits.0.vals;
            wide = fits.0.wide.1;
            height = let height = fits.0.height in omega (arith, height);
            nodes = let nodes = fits.0.nodes in omega (arith, nodes);
          } in
          let again = list_again ts in
          (list_of ts, listed_back (past_tag w) ts fits.0.wide.0 list, ap Any again, lists_alike (list_of ts) ∙ ap (λ us. number_bytes 2 (count_of us) ++ nodes_bytes us) again)
      back (All ts) fits = absurd (let other = fits.1 in cc)
      back (Not t) fits = absurd (let other = fits.1 in cc)
      back (Compare o field val) fits = absurd (let other = fits.1 in cc)
      back (Member negated field vals) fits = absurd (let other = fits.1 in cc)
      back (IsNull field) fits = absurd (let other = fits.1 in cc)

  not_exact : (w : Walk) → Exact (FitsTagged fields most w NotOf) untagged (untagged_at fields node (past_tag w) NotOf)
  unfolding untagged_at
  not_exact w = mapped_exact (law (past_tag w)) (record {
    there = λ t fits. (
      (
        record {
          in_turn = fits.in_turn;
          vals = fits.vals;
          wide = fits.wide;
          height = let height = fits.height in omega (arith, height);
          nodes = let nodes = fits.nodes in omega (arith, nodes);
        },
        refl,
      ),
      refl,
    );
    back = back;
  })
    where
      back : (t : Test) → FitsTagged fields most w NotOf t → (u : Test) × FitsTest fields most (past_tag w) u × (Not u ≡ t) × (node_bytes u ≡ untagged t)
      back (Not t) fits = (
        t,
        record {
          in_turn = fits.0.in_turn;
          vals = fits.0.vals;
          wide = fits.0.wide;
          height = let height = fits.0.height in omega (arith, height);
          nodes = let nodes = fits.0.nodes in omega (arith, nodes);
        },
        refl,
        refl,
      )
      back (All ts) fits = absurd (let other = fits.1 in cc)
      back (Any ts) fits = absurd (let other = fits.1 in cc)
      back (Compare o field val) fits = absurd (let other = fits.1 in cc)
      back (Member negated field vals) fits = absurd (let other = fits.1 in cc)
      back (IsNull field) fits = absurd (let other = fits.1 in cc)

  compare_exact : (w : Walk) → w.nodes < 1024 → Exact (FitsTagged fields most w Comparing) untagged (untagged_at fields node (past_tag w) Comparing)
  unfolding untagged_at compare_at
  compare_exact w room =
      mapped_exact (both_exact op_exact (λ _ _. both_exact (index_exact fields w.named few) (λ field _. operand_exact (slice_get fields field)))) (record {
        there = λ x fits. (
          (
            record {
              in_turn = (fits.1.0.0, fits.1.0.1, tt);
              vals = (record { value = fits.1.1.0; suits = fits.1.1.1 }, tt);
              wide = tt;
              height = omega arith;
              nodes = omega (arith, room);
            },
            refl,
          ),
          refl,
        );
        back = back;
      })
    where
      back : (t : Test) → FitsTagged fields most w Comparing t
          → (x : CondOp × (ℕ × Val)) × (Unit {0} × (((x.1.0 < length fields) × (x.1.0 ≤ w.named)) × (FitsVal x.1.1 × (suits_field (slice_get fields x.1.0) x.1.1 ≡ true))))
          × (Compare x.0 x.1.0 x.1.1 ≡ t) × (op_bytes x.0 ++ (number_bytes 1 x.1.0 ++ val_bytes x.1.1) ≡ untagged t)
      back (Compare o field val) fits =
          ((o, (field, val)), (tt, ((fits.0.in_turn.0, fits.0.in_turn.1), (fits.0.vals.0.value, fits.0.vals.0.suits))), refl, refl)
      back (All ts) fits = absurd (let other = fits.1 in cc)
      back (Any ts) fits = absurd (let other = fits.1 in cc)
      back (Not t) fits = absurd (let other = fits.1 in cc)
      back (Member negated field vals) fits = absurd (let other = fits.1 in cc)
      back (IsNull field) fits = absurd (let other = fits.1 in cc)

  membership_exact : (w : Walk) → w.nodes < 1024 → Exact (FitsTagged fields most w Membership) untagged (untagged_at fields node (past_tag w) Membership)
  unfolding untagged_at membership_at
  membership_exact w room =
      mapped_exact (both_exact bool_exact (λ _ _. both_exact (index_exact fields w.named few) (λ field _. members_exact fields field (w.nodes + 1) (omega (arith, room))))) (record {
        there = λ x fits. (
          (
            record {
              in_turn = (fits.1.0.0, fits.1.0.1, tt);
              vals = fits.1.1.suit;
              wide = fits.1.1.some;
              height = omega arith;
              nodes = let nodes = fits.1.1.few in omega (arith, nodes);
            },
            refl,
          ),
          refl,
        );
        back = back;
      })
    where
      back : (t : Test) → FitsTagged fields most w Membership t
          → (x : Bool × (ℕ × List Val)) × (Unit {0} × (((x.1.0 < length fields) × (x.1.0 ≤ w.named)) × AreMembers fields x.1.0 (w.nodes + 1) x.1.1))
          × (Member x.0 x.1.0 x.1.1 ≡ t) × (bool_bytes x.0 ++ (number_bytes 1 x.1.0 ++ (number_bytes 2 (length x.1.1) ++ flat_map val_bytes x.1.1)) ≡ untagged t)
      back (Member negated field vals) fits =
          let nodes = fits.0.nodes in
          ((negated, (field, vals)), (tt, ((fits.0.in_turn.0, fits.0.in_turn.1), record { some = fits.0.wide; suit = fits.0.vals; few = omega (arith, nodes) })), refl, refl)
      back (All ts) fits = absurd (let other = fits.1 in cc)
      back (Any ts) fits = absurd (let other = fits.1 in cc)
      back (Not t) fits = absurd (let other = fits.1 in cc)
      back (Compare o field val) fits = absurd (let other = fits.1 in cc)
      back (IsNull field) fits = absurd (let other = fits.1 in cc)

  null_exact : (w : Walk) → w.nodes < 1024 → Exact (FitsTagged fields most w Nullness) untagged (untagged_at fields node (past_tag w) Nullness)
  unfolding untagged_at null_at
  null_exact w room = mapped_exact (index_exact fields w.named few) (record {
    there = λ field fits. ((record { in_turn = (fits.0, fits.1, tt); vals = tt; wide = tt; height = omega arith; nodes = omega (arith, room) }, refl), refl);
    back = back;
  })
    where
      back : (t : Test) → FitsTagged fields most w Nullness t
          → (field : ℕ) × ((field < length fields) × (field ≤ w.named)) × (IsNull field ≡ t) × (number_bytes 1 field ≡ untagged t)
      back (IsNull field) fits = (field, (fits.0.in_turn.0, fits.0.in_turn.1), refl, refl)
      back (All ts) fits = absurd (let other = fits.1 in cc)
      back (Any ts) fits = absurd (let other = fits.1 in cc)
      back (Not t) fits = absurd (let other = fits.1 in cc)
      back (Compare o field val) fits = absurd (let other = fits.1 in cc)
      back (Member negated field vals) fits = absurd (let other = fits.1 in cc)

  untagged_exact : (w : Walk) → w.nodes < 1024 → (tag : Tag) → Exact (FitsTagged fields most w tag) untagged (untagged_at fields node (past_tag w) tag)
  untagged_exact w room AllOf = all_exact w room
  untagged_exact w room AnyOf = any_exact w room
  untagged_exact w room NotOf = not_exact w
  untagged_exact w room Comparing = compare_exact w room
  untagged_exact w room Membership = membership_exact w room
  untagged_exact w room Nullness = null_exact w room

pub node_exact : (fields : List CondField) → length fields ≤ 72 → (most : ℕ) (w : Walk) → Exact (FitsTest fields most w) node_bytes (node_at fields most w)
unfolding node_at
node_exact fields few zero w = record {
  takes = λ p y all h. absurd (not_both (Err p.at) y p.at h refl);
  again = λ t rest at fits. absurd (let height = fits.height in omega (arith, height, some_height t));
  within = λ p at all h. let same = same_err (Err p.at) p.at at refl h in (omega (arith, same), omega (arith, same));
}
node_exact fields few (suc most) w =
    mapped_exact (both_exact (tag_exact w.nodes) (λ tag room. untagged_exact fields few most (λ v. node_at fields most v) (λ v. node_exact fields few most v) w room tag)) (record {
      there = λ x fits. (fits.1.0, ap (λ tag. tag_bytes tag ++ untagged x.1) (sym fits.1.1) ∙ tagged_bytes x.1);
      back = λ t fits. ((tag_in t, t), (let nodes = fits.nodes in omega (arith, nodes, some_nodes t), (fits, refl)), refl, tagged_bytes t);
    })
