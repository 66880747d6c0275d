-- The groups of a text that is read: what their tests name and hold, how wide, how high and how many they are.
use Rattle.std.proofs.Common.{◌≡◌, ℕ, zero, suc, ◌+◌, ◌-◌, ◌*◌, ◌≤◌, Bool, true, false, List, [], ◌∷◌, ◌++◌, length, refl, sym, ap, ◌∙◌, arith, append_assoc, length-append}
use Rattle.std.proofs.Math.Nat.{le-max_left, le-max_right, max-le}
use Rattle.std.proofs.lemmas.List.{append-nil}
use Rattle.std.proofs.lemmas.Grind.{flat_map-append}
use Rattle.std.specs.List.{flat_map}
use Rattle.ts_cond.specs.CondTexts.{indexes, all_indexes, compared, all_compared, nodes_of, all_nodes, height_of, highest, count_of, IsWide, AreWide}
use Rattle.ts_cond.specs.Machine.{tests_from, gathered, under, Group, group_at, closed, with_fact, with_term, list_begins, choice_begins}
use Rattle.ts_cond.specs.Tests.{Test, Tests, All, Any, Not}
use Rattle.ts_cond.proofs.Trees.{nodes_more}

-- ---- what the tests name and hold, one after the other

abbrev pub group_flat : {X : Type 0} → (Test → List X) → Group → List X
group_flat g l = flat_map g l.terms ++ flat_map g l.facts

abbrev pub around_flat : {X : Type 0} → (Test → List X) → List Group → List X
around_flat g [] = []
around_flat g (l ∷ outer) = around_flat g outer ++ group_flat g l

-- a list has what its tests have, and `not` what its test has
pub record Flattens {X : Type 0} (g : Test → List X) : Type 0 where
  pub all : (ts : List Test) → g (All (tests_from ts)) ≡ flat_map g ts
  pub any : (ts : List Test) → g (Any (tests_from ts)) ≡ flat_map g ts
  pub none : (t : Test) → g (Not t) ≡ g t

tests_indexes : (ts : List Test) → all_indexes (tests_from ts) ≡ flat_map indexes ts
tests_indexes [] = refl
tests_indexes (t ∷ ts) = ap (λ more. indexes t ++ more) (tests_indexes ts)

pub indexes_flatten : Flattens indexes
indexes_flatten = record { all = tests_indexes; any = tests_indexes; none = λ t. refl }

tests_compared : (ts : List Test) → all_compared (tests_from ts) ≡ flat_map compared ts
tests_compared [] = refl
tests_compared (t ∷ ts) = ap (λ more. compared t ++ more) (tests_compared ts)

pub compared_flatten : Flattens compared
compared_flatten = record { all = tests_compared; any = tests_compared; none = λ t. refl }

module _ {X : Type 0} (g : Test → List X) (flat : Flattens g) where
  gathered_flat : (make : Tests → Test) → ((ts : List Test) → g (make (tests_from ts)) ≡ flat_map g ts) → (ts : List Test) → g (gathered make ts) ≡ flat_map g ts
  gathered_flat make made [] = made []
  gathered_flat make made (t ∷ []) = sym (append-nil (g t))
  gathered_flat make made (t ∷ u ∷ ts) = made (t ∷ u ∷ ts)

  under_flat : (n : ℕ) (t : Test) → g (under n t) ≡ g t
  under_flat zero t = refl
  under_flat (suc n) t = flat.none (under n t) ∙ under_flat n t

  one_more : (ts : List Test) (t : Test) → flat_map g (ts ++ t ∷ []) ≡ flat_map g ts ++ g t
  one_more ts t = flat_map-append g ts (t ∷ []) ∙ ap (λ more. flat_map g ts ++ more) (append-nil (g t))

  -- a fact more
  pub flat_fact : (t : Test) (l : Group) → group_flat g (with_fact t l) ≡ group_flat g l ++ g t
  flat_fact t l =
      ap (λ more. flat_map g l.terms ++ more) (one_more l.facts (under l.nots t) ∙ ap (λ more. flat_map g l.facts ++ more) (under_flat l.nots t))
      ∙ sym (append_assoc (flat_map g l.terms) (flat_map g l.facts) (g t))

  -- a term that is whole
  pub flat_term : (l : Group) → group_flat g (with_term l) ≡ group_flat g l
  flat_term l =
      append-nil (flat_map g (l.terms ++ gathered All l.facts ∷ []))
      ∙ one_more l.terms (gathered All l.facts) ∙ ap (λ more. flat_map g l.terms ++ more) (gathered_flat All flat.all l.facts)

  -- a group that is whole
  pub flat_closed : (l : Group) → g (closed l) ≡ group_flat g l
  flat_closed l =
      gathered_flat Any flat.any (l.terms ++ gathered All l.facts ∷ [])
      ∙ one_more l.terms (gathered All l.facts) ∙ ap (λ more. flat_map g l.terms ++ more) (gathered_flat All flat.all l.facts)

-- ---- how high and how wide they are

pub under_height : (n : ℕ) (t : Test) → height_of (under n t) ≡ n + height_of t
under_height zero t = omega arith
under_height (suc n) t = omega (arith, under_height n t)

pub under_nodes : (n : ℕ) (t : Test) → nodes_of (under n t) ≡ n + nodes_of t
under_nodes zero t = omega arith
under_nodes (suc n) t = omega (arith, under_nodes n t)

pub under_wide : (n : ℕ) (t : Test) → IsWide t → IsWide (under n t)
under_wide zero t wide = wide
under_wide (suc n) t wide = under_wide n t wide

highest_more : (most : ℕ) (ts : List Test) (t : Test) → highest (tests_from ts) ≤ most → height_of t ≤ most → highest (tests_from (ts ++ t ∷ [])) ≤ most
highest_more most [] t low one = max-le one (omega arith)
highest_more most (u ∷ us) t low one =
    max-le (omega (arith, low, le-max_left (height_of u) (highest (tests_from us))))
    (highest_more most us t (omega (arith, low, le-max_right (height_of u) (highest (tests_from us)))) one)

wide_more : (ts : List Test) (t : Test) → AreWide (tests_from ts) → IsWide t → AreWide (tests_from (ts ++ t ∷ []))
wide_more [] t wide one = (one, tt)
wide_more (u ∷ us) t wide one = (wide.0, wide_more us t wide.1 one)

-- the node of a list of facts, or of terms, counts where there are two, or where the next has begun
abbrev pub list_cost : Bool → List Test → ℕ
list_cost begun [] = 0
list_cost true (t ∷ []) = 1
list_cost false (t ∷ []) = 0
list_cost begun (t ∷ u ∷ ts) = 1

-- a list is a node of its own
record Makes (make : Tests → Test) : Type 0 where
  pub wide : (ts : Tests) → 2 ≤ count_of ts → AreWide ts → IsWide (make ts)
  pub height : (ts : Tests) → height_of (make ts) ≡ suc (highest ts)
  pub nodes : (ts : Tests) → nodes_of (make ts) ≡ 1 + all_nodes ts

makes_all : Makes All
makes_all = record { wide = λ ts two wide. (two, wide); height = λ ts. refl; nodes = λ ts. refl }

makes_any : Makes Any
makes_any = record { wide = λ ts two wide. (two, wide); height = λ ts. refl; nodes = λ ts. refl }

gathered_wide : (make : Tests → Test) → Makes make → (ts : List Test) → 1 ≤ length ts → AreWide (tests_from ts) → IsWide (gathered make ts)
gathered_wide make makes [] some wide = absurd (omega (arith, some))
gathered_wide make makes (t ∷ []) some wide = wide.0
gathered_wide make makes (t ∷ u ∷ ts) some wide = makes.wide (tests_from (t ∷ u ∷ ts)) (omega arith) wide

gathered_low : (make : Tests → Test) → Makes make → (most : ℕ) (ts : List Test) → 1 ≤ length ts → highest (tests_from ts) ≤ most → height_of (gathered make ts) ≤ most + 1
gathered_low make makes most [] some low = absurd (omega (arith, some))
gathered_low make makes most (t ∷ []) some low = omega (arith, low, le-max_left (height_of t) 0)
gathered_low make makes most (t ∷ u ∷ ts) some low = omega (arith, low, makes.height (tests_from (t ∷ u ∷ ts)))

gathered_few : (make : Tests → Test) → Makes make → (ts : List Test) → 1 ≤ length ts → nodes_of (gathered make ts) ≤ all_nodes (tests_from ts) + list_cost false ts
gathered_few make makes [] some = absurd (omega (arith, some))
gathered_few make makes (t ∷ []) some = omega arith
gathered_few make makes (t ∷ u ∷ ts) some = omega (arith, makes.nodes (tests_from (t ∷ u ∷ ts)))

-- the tests of a group are wide, and low by its depth
pub record GroupFits (l : Group) : Type 0 where
  pub terms_low : highest (tests_from l.terms) ≤ 66 - 2 * l.depth
  pub facts_low : highest (tests_from l.facts) ≤ 65 - 2 * l.depth
  pub terms_wide : AreWide (tests_from l.terms)
  pub facts_wide : AreWide (tests_from l.facts)

pub fresh_fits : (depth : ℕ) → GroupFits (group_at depth)
fresh_fits depth = record { terms_low = omega arith; facts_low = omega arith; terms_wide = tt; facts_wide = tt }

pub fact_fits : (t : Test) (l : Group) → GroupFits l → IsWide t → l.nots + height_of t ≤ 65 - 2 * l.depth → GroupFits (with_fact t l)
fact_fits t l fits wide low = record {
  terms_low = fits.terms_low;
  facts_low = highest_more (65 - 2 * l.depth) l.facts (under l.nots t) fits.facts_low (omega (arith, low, under_height l.nots t));
  terms_wide = fits.terms_wide;
  facts_wide = wide_more l.facts (under l.nots t) fits.facts_wide (under_wide l.nots t wide);
}

-- the facts of a term, as one test
facts_low_of : (l : Group) → GroupFits l → 1 ≤ length l.facts → l.depth ≤ 32 → height_of (gathered All l.facts) ≤ 66 - 2 * l.depth
facts_low_of l fits some deep = omega (arith, deep, gathered_low All makes_all (65 - 2 * l.depth) l.facts some fits.facts_low)

pub term_fits : (l : Group) → GroupFits l → 1 ≤ length l.facts → l.depth ≤ 32 → GroupFits (with_term l)
term_fits l fits some deep = record {
  terms_low = highest_more (66 - 2 * l.depth) l.terms (gathered All l.facts) fits.terms_low (facts_low_of l fits some deep);
  facts_low = omega arith;
  terms_wide = wide_more l.terms (gathered All l.facts) fits.terms_wide (gathered_wide All makes_all l.facts some fits.facts_wide);
  facts_wide = tt;
}

pub some_terms : (ts : List Test) (t : Test) → 1 ≤ length (ts ++ t ∷ [])
some_terms ts t = omega (arith, length-append ts (t ∷ []))

pub closed_wide : (l : Group) → GroupFits l → 1 ≤ length l.facts → IsWide (closed l)
closed_wide l fits some =
    gathered_wide Any makes_any (l.terms ++ gathered All l.facts ∷ []) (some_terms l.terms (gathered All l.facts))
    (wide_more l.terms (gathered All l.facts) fits.terms_wide (gathered_wide All makes_all l.facts some fits.facts_wide))

pub closed_low : (l : Group) → GroupFits l → 1 ≤ length l.facts → l.depth ≤ 32 → height_of (closed l) ≤ 67 - 2 * l.depth
closed_low l fits some deep =
    omega (
      arith,
      deep,
      gathered_low Any makes_any (66 - 2 * l.depth) (l.terms ++ gathered All l.facts ∷ []) (some_terms l.terms (gathered All l.facts))
          (highest_more (66 - 2 * l.depth) l.terms (gathered All l.facts) fits.terms_low (facts_low_of l fits some deep)),
    )

-- ---- how many nodes they have

-- the node of a choice counts where there is a whole term
abbrev pub choice_cost : List Test → ℕ
choice_cost [] = 0
choice_cost (t ∷ ts) = 1

-- the nodes of a group, whose next fact has begun or not
abbrev pub cost : Bool → Group → ℕ
cost begun l = all_nodes (tests_from l.terms) + choice_cost l.terms + all_nodes (tests_from l.facts) + list_cost begun l.facts + l.nots

abbrev pub costs_around : List Group → ℕ
costs_around [] = 0
costs_around (l ∷ outer) = costs_around outer + cost true l

list_cost_more : (ts : List Test) (t : Test) → list_cost false (ts ++ t ∷ []) ≡ list_cost true ts
list_cost_more [] t = refl
list_cost_more (u ∷ []) t = refl
list_cost_more (u ∷ v ∷ ts) t = refl

choice_cost_more : (ts : List Test) (t : Test) → list_cost false (ts ++ t ∷ []) ≡ choice_cost ts
choice_cost_more [] t = refl
choice_cost_more (u ∷ []) t = refl
choice_cost_more (u ∷ v ∷ ts) t = refl

pub fact_cost : (t : Test) (l : Group) → cost false (with_fact t l) ≡ cost true l + nodes_of t
fact_cost t l = omega (arith, nodes_more l.facts (under l.nots t), under_nodes l.nots t, list_cost_more l.facts (under l.nots t))

choice_made : (ts : List Test) (t : Test) → choice_cost (ts ++ t ∷ []) ≡ choice_cost ts + choice_begins ts
choice_made [] t = refl
choice_made (u ∷ ts) t = refl

pub term_cost : (l : Group) → 1 ≤ length l.facts → cost true (with_term l) ≤ cost false l + choice_begins l.terms
term_cost l some = omega (arith, nodes_more l.terms (gathered All l.facts), choice_made l.terms (gathered All l.facts), gathered_few All makes_all l.facts some)

list_begun : (ts : List Test) → list_cost true ts ≡ list_cost false ts + list_begins ts
list_begun [] = refl
list_begun (t ∷ []) = refl
list_begun (t ∷ u ∷ ts) = refl

pub and_cost : (l : Group) → cost true l ≡ cost false l + list_begins l.facts
and_cost l = omega (arith, list_begun l.facts)

pub closed_cost : (l : Group) → 1 ≤ length l.facts → nodes_of (closed l) ≤ cost false l
closed_cost l some =
    let terms = l.terms ++ gathered All l.facts ∷ [] in
    omega (arith, gathered_few Any makes_any terms (some_terms l.terms (gathered All l.facts)), nodes_more l.terms (gathered All l.facts), choice_cost_more l.terms (gathered All l.facts), gathered_few All makes_all l.facts some)
