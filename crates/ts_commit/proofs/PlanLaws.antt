-- A plan is what is told of it, and depends on the attributes of the heads' schemas alone.
use Rattle.std.proofs.Common.{◌≡◌, ℕ, ◌^◌, ◌<◌, ◌≤◌, Bool, true, false, ◌&&◌, ◌||◌, not, List, [], ◌∷◌, ◌++◌, Option, Some, None, Result, Ok, Err, IfOk, length, get_or, refl, sym, ap, ◌∙◌, inl, inr, subst, arith}
use Rattle.std.specs.Prelude.{All, Contains, cond, find, nat_le, nat_lt, map as list_map}
use Rattle.std.specs.BTreeSet.{contains}
use Rattle.std.specs.List.{AllByRecursion, list_any}
use Rattle.std.specs.List.Sorted.{IsStrictlySortedBy}
use Rattle.std.specs.Option.{option_map}
use Rattle.std.specs.declared.cmp.Ordering.{Ordering}
use Rattle.std.specs.declared.cmp.Ordering.TheVariants.{Less}
use Rattle.std.proofs.lemmas.Bool.{and_parts, and_from, leb-true, leb-false, ltb-true, le-leb}
use Rattle.std.proofs.lemmas.List.{append-nil, append_assoc}
use Rattle.std.proofs.lemmas.List.Elements.{All-nil, All-cons, All-contains, All-contains_itself, All-filter, filter_passes, Contains-append_left, Contains-append_right, filter_agree}
use Rattle.std.proofs.lemmas.List.Folds.{list_any_at}
use Rattle.std.proofs.lemmas.List.Kept.{IsStrictlySortedBy-filter}
use Rattle.ts_base.specs.Exact.{key_decides}
use Rattle.ts_base.specs.Keys.{frag_cmp, key_eq}
use Rattle.ts_base.specs.declared.keys.Key.{Key}
use Rattle.ts_base.specs.declared.keys.FragKey.{FragKey}
use Rattle.ts_base.specs.declared.heads.Head.{Head}
use Rattle.ts_commit.specs.declared.choices.Eligible.{Eligible}
use Rattle.ts_commit.specs.declared.vacs.VacOf.{VacOf}
use Rattle.ts_commit.specs.declared.vacs.Limits.{Limits}
use Rattle.ts_commit.specs.declared.vacs.Planned.{Planned}
use Rattle.ts_commit.specs.declared.vacs.Planned.TheVariants as planned
use Rattle.ts_commit.specs.Selections.{lies_in, is_merged}
use Rattle.ts_commit.specs.Plans.{is_inside, is_eligible, eligible, of_schema, is_shared, weight, origins_of_all, is_in_bounds, taken_from, plan_by, plan_in, plan_of, AreAttributes, attributes_in, CanBeTaken, IsPlan}
use Rattle.ts_commit.specs.Passes.{passes, passed}

-- ---- the first that passes

record IsFound {X : Type 0} (p : X → Bool) (xs : List X) (x : X) : Type 0 where
  before : List X
  after : List X
  split : xs ≡ before ++ x ∷ after
  passes : p x ≡ true
  fails : All (λ y. p y ≡ false) before

module _ {X : Type 0} (p : X → Bool) where
  found : (xs : List X) (x : X) → find p xs ≡ Some x → IsFound p xs x
  found [] x is = cc
  found (y ∷ ys) x is = by (p y) refl is (found ys x)
    where
      by : (t : Bool) → p y ≡ t → cond t (Some y) (find p ys) ≡ Some x → (find p ys ≡ Some x → IsFound p ys x) → IsFound p (y ∷ ys) x
      by true passes is rest =
          let same : y ≡ x = cc in
          record { before = []; after = ys; split = ap (λ z. z ∷ ys) same; passes = ap p (sym same) ∙ passes; fails = All-nil (λ z. p z ≡ false) }
      by false fails is rest =
          let r = rest is in
          record { before = y ∷ r.before; after = r.after; split = ap (λ l. y ∷ l) r.split; passes = r.passes; fails = All-cons (λ z. p z ≡ false) y r.before fails r.fails }

  none_found : (xs : List X) → find p xs ≡ None → All (λ y. p y ≡ false) xs
  none_found [] is = All-nil (λ y. p y ≡ false)
  none_found (y ∷ ys) is = by (p y) refl is (none_found ys)
    where
      by : (t : Bool) → p y ≡ t → cond t (Some y) (find p ys) ≡ None → (find p ys ≡ None → All (λ y. p y ≡ false) ys) → All (λ y. p y ≡ false) (y ∷ ys)
      by true passes is rest = cc
      by false fails is rest = All-cons (λ z. p z ≡ false) y ys fails (rest is)

-- ---- order

abbrev frags : List Head → List FragKey
frags heads = list_map (λ head. head.frag) heads

-- heads by their fragments
abbrev by_frag : Head → Head → Ordering
by_frag x y = frag_cmp x.frag y.frag

all_heads : (f : FragKey) (heads : List Head) → AllByRecursion (λ g. frag_cmp f g ≡ Less) (frags heads) → AllByRecursion (λ (head : Head). frag_cmp f head.frag ≡ Less) heads
all_heads f [] all = all
all_heads f (head ∷ heads) all = (all.0, all_heads f heads all.1)

all_frags : (f : FragKey) (heads : List Head) → AllByRecursion (λ (head : Head). frag_cmp f head.frag ≡ Less) heads → AllByRecursion (λ g. frag_cmp f g ≡ Less) (frags heads)
all_frags f [] all = all
all_frags f (head ∷ heads) all = (all.0, all_frags f heads all.1)

heads_ascend : (heads : List Head) → IsStrictlySortedBy frag_cmp (frags heads) → IsStrictlySortedBy by_frag heads
unfolding IsStrictlySortedBy
heads_ascend [] ascend = ascend
heads_ascend (head ∷ heads) ascend = (all_heads head.frag heads ascend.0, heads_ascend heads ascend.1)

frags_ascend : (heads : List Head) → IsStrictlySortedBy by_frag heads → IsStrictlySortedBy frag_cmp (frags heads)
unfolding IsStrictlySortedBy
frags_ascend [] ascend = ascend
frags_ascend (head ∷ heads) ascend = (all_frags head.frag heads ascend.0, frags_ascend heads ascend.1)

-- a front of what ascends ascends
all_front : {X : Type 0} (P : X → Type 0) (xs ys : List X) → AllByRecursion P (xs ++ ys) → AllByRecursion P xs
all_front P [] ys all = tt
all_front P (x ∷ xs) ys all = (all.0, all_front P xs ys all.1)

front_ascends : {X : Type 0} (c : X → X → Ordering) (xs ys : List X) → IsStrictlySortedBy c (xs ++ ys) → IsStrictlySortedBy c xs
unfolding IsStrictlySortedBy
front_ascends c [] ys ascend = tt
front_ascends c (x ∷ xs) ys ascend = (all_front (λ y. c x y ≡ Less) xs ys ascend.0, front_ascends c xs ys ascend.1)

-- ---- what is taken

record IsFront (attributes : ℕ) (limits : Limits) (so_far rest taken : List Head) : Type 0 where
  more : List Head
  left : List Head
  whole : taken ≡ so_far ++ more
  split : rest ≡ more ++ left
  bounds : is_in_bounds attributes limits taken ≡ true
  full : (next : Head) (others : List Head) → left ≡ next ∷ others → is_in_bounds attributes limits (taken ++ next ∷ []) ≡ false

front_is : (attributes : ℕ) (limits : Limits) (so_far rest : List Head) → is_in_bounds attributes limits so_far ≡ true → IsFront attributes limits so_far rest (taken_from attributes limits so_far rest)
front_is attributes limits so_far [] bounds =
    record { more = []; left = []; whole = sym (append-nil so_far); split = refl; bounds = bounds; full = λ next others is. cc }
front_is attributes limits so_far (head ∷ rest) bounds = by (is_in_bounds attributes limits (so_far ++ head ∷ [])) refl (front_is attributes limits (so_far ++ head ∷ []) rest)
  where
    by : (t : Bool) → is_in_bounds attributes limits (so_far ++ head ∷ []) ≡ t
        → (is_in_bounds attributes limits (so_far ++ head ∷ []) ≡ true → IsFront attributes limits (so_far ++ head ∷ []) rest (taken_from attributes limits (so_far ++ head ∷ []) rest))
        → IsFront attributes limits so_far (head ∷ rest) (cond t (taken_from attributes limits (so_far ++ head ∷ []) rest) so_far)
    by true light next =
        let r = next light in
        record { more = head ∷ r.more; left = r.left; whole = r.whole ∙ append_assoc so_far (head ∷ []) r.more; split = ap (λ l. head ∷ l) r.split; bounds = r.bounds; full = r.full }
    by false heavy next =
        record { more = []; left = head ∷ rest; whole = sym (append-nil so_far); split = refl; bounds = bounds; full = λ other others is. (let same : head ≡ other = cc in ap (λ h. is_in_bounds attributes limits (so_far ++ h ∷ [])) (sym same) ∙ heavy) }

-- no fragments keep the bounds
none_in_bounds : (attributes : ℕ) (limits : Limits) → is_in_bounds attributes limits [] ≡ true
none_in_bounds attributes limits =
    let light : weight attributes [] ≤ 2 ^ 24 = omega arith in
    and_from (nat_le 0 limits.max) _ (le-leb 0 limits.max (omega arith)) (and_from (nat_le (weight attributes []) (2 ^ 24)) (nat_lt 0 (2 ^ 32)) (le-leb (weight attributes []) (2 ^ 24) light) refl)

-- what the bounds say
record InBounds (attributes : ℕ) (limits : Limits) (heads : List Head) : Type 0 where
  most : length heads ≤ limits.max
  light : weight attributes heads ≤ 2 ^ 24
  origins : origins_of_all heads < 2 ^ 32

bounds_say : (attributes : ℕ) (limits : Limits) (heads : List Head) → is_in_bounds attributes limits heads ≡ true → InBounds attributes limits heads
bounds_say attributes limits heads is =
    let first = and_parts (nat_le (length heads) limits.max) _ is in
    let rest = and_parts (nat_le (weight attributes heads) (2 ^ 24)) (nat_lt (origins_of_all heads) (2 ^ 32)) first.1 in
    record { most = leb-true (length heads) limits.max first.0; light = leb-true (weight attributes heads) (2 ^ 24) rest.0; origins = ltb-true (origins_of_all heads) (2 ^ 32) rest.1 }

-- ---- what an eligible fragment of a schema is

record IsSource (heads : List Head) (vacs : List VacOf) (from to : ℕ) (k : Key) (head : Head) : Type 0 where
  committed : Contains heads head
  inside : is_inside from to head.frag ≡ true
  unmerged : is_merged vacs head.frag ≡ false
  alike : head.schema ≡ k

not_true : (b : Bool) → not b ≡ true → b ≡ false
not_true true is = sym is
not_true false is = refl

module _ (heads : List Head) (vacs : List VacOf) (from to : ℕ) where
  module _ (k : Key) where
    sources : All (IsSource heads vacs from to k) (of_schema k (eligible heads vacs from to))
    sources =
        let all = eligible heads vacs from to in
        let eligibles : All (λ head. Contains heads head × (is_eligible vacs from to head ≡ true)) all =
        λ i d within. (All-filter (is_eligible vacs from to) (Contains heads) heads (All-contains_itself heads) i d within, filter_passes (is_eligible vacs from to) heads i d within) in
        let here = All-filter (λ (head : Head). key_eq head.schema k) (λ head. Contains heads head × (is_eligible vacs from to head ≡ true)) all eligibles in
        let same = filter_passes (λ (head : Head). key_eq head.schema k) all in
        λ i d within. (
        let head = get_or (of_schema k all) i d in
        let both = here i d within in
        let parts = and_parts (is_inside from to head.frag) (not (is_merged vacs head.frag)) both.1 in
        record { committed = both.0; inside = parts.0; unmerged = not_true (is_merged vacs head.frag) parts.1; alike = (key_decides head.schema k).0 (same i d within) }
        )

  module _ (attributes : Key → ℕ) (limits : Limits) where
    -- the fragments that are taken can be taken
    can_be_taken : (head : Head) → find (is_shared limits.min (eligible heads vacs from to)) (eligible heads vacs from to) ≡ Some head
        → CanBeTaken heads vacs attributes from to limits head.schema (taken_from (attributes head.schema) limits [] (of_schema head.schema (eligible heads vacs from to)))
    can_be_taken head is =
        let all = eligible heads vacs from to in
        let k = head.schema in
        let taken = taken_from (attributes k) limits [] (of_schema k all) in
        let front = front_is (attributes k) limits [] (of_schema k all) (none_in_bounds (attributes k) limits) in
        let split : of_schema k all ≡ taken ++ front.left = front.split ∙ ap (λ l. l ++ front.left) (sym front.whole) in
        let bounds = bounds_say (attributes k) limits taken front.bounds in
        let first = found (is_shared limits.min all) all head is in
        let source : (x : Head) → Contains taken x → IsSource heads vacs from to k x =
        λ x there. All-contains (IsSource heads vacs from to k) (of_schema k all) x (sources k) (subst (λ l. Contains l x) (sym split) (Contains-append_left taken front.left x there)) in
        record {
          schema = record {
            before = first.before;
            head = head;
            after = first.after;
            split = first.split;
            schema = refl;
            enough = leb-true limits.min (length (of_schema k all)) first.passes;
            fewer = λ other there. leb-false limits.min (length (of_schema other.schema all)) (All-contains (λ y. is_shared limits.min all y ≡ false) first.before other first.fails there);
          };
          committed = λ x there. (source x there).committed;
          inside = λ x there. (source x there).inside;
          unmerged = λ x there. (source x there).unmerged;
          alike = λ x there. (source x there).alike;
          left = front.left;
          first = split;
          most = bounds.most;
          light = bounds.light;
          origins = bounds.origins;
          full = front.full;
        }

    -- they ascend where the heads do
    taken_ascend : (k : Key) (taken left : List Head) → of_schema k (eligible heads vacs from to) ≡ taken ++ left → IsStrictlySortedBy frag_cmp (frags heads) → IsStrictlySortedBy frag_cmp (frags taken)
    taken_ascend k taken left split ascend =
        let kept = IsStrictlySortedBy-filter by_frag (λ head. key_eq head.schema k) (eligible heads vacs from to) (IsStrictlySortedBy-filter by_frag (is_eligible vacs from to) heads (heads_ascend heads ascend)) in
        frags_ascend taken (front_ascends by_frag taken left (subst (λ l. IsStrictlySortedBy by_frag l) split kept))

    pub plan_is : IsPlan heads vacs attributes from to limits (plan_of heads vacs attributes from to limits)
    plan_is = by (find (is_shared limits.min (eligible heads vacs from to)) (eligible heads vacs from to)) refl
      where
        by_count : (head : Head) → CanBeTaken heads vacs attributes from to limits head.schema (taken_from (attributes head.schema) limits [] (of_schema head.schema (eligible heads vacs from to)))
            → (t : Bool) → nat_le limits.min (length (taken_from (attributes head.schema) limits [] (of_schema head.schema (eligible heads vacs from to)))) ≡ t
            → IsPlan heads vacs attributes from to limits (cond t (planned.Take (frags (taken_from (attributes head.schema) limits [] (of_schema head.schema (eligible heads vacs from to))))) (planned.Nothing (length (eligible heads vacs from to))))
        by_count head can true enough =
            let k = head.schema in
            let taken = taken_from (attributes k) limits [] (of_schema k (eligible heads vacs from to)) in
            record { schema = k; taken = taken; named = refl; can = can; least = leb-true limits.min (length taken) enough; ascend = taken_ascend k taken can.left can.first }
        by_count head can false few =
            let k = head.schema in
            let taken = taken_from (attributes k) limits [] (of_schema k (eligible heads vacs from to)) in
            record { counted = refl; cause = inr (record { schema = k; taken = taken; can = can; fewer = leb-false limits.min (length taken) few }) }

        by : (first : Option Head) → find (is_shared limits.min (eligible heads vacs from to)) (eligible heads vacs from to) ≡ first
            → IsPlan heads vacs attributes from to limits (plan_in attributes limits (eligible heads vacs from to) (option_map (λ head. head.schema) first))
        by None none =
            let all = eligible heads vacs from to in
            record {
              counted = refl;
              cause = inl (λ head there. leb-false limits.min (length (of_schema head.schema all)) (All-contains (λ y. is_shared limits.min all y ≡ false) all head (none_found (is_shared limits.min all) all none) there));
            }
        by (Some head) is = by_count head (can_be_taken head is) (nat_le limits.min (length (taken_from (attributes head.schema) limits [] (of_schema head.schema (eligible heads vacs from to))))) refl

-- ---- the number of attributes

attributes_found : (attributes : Key → ℕ) (heads : List Head) (k : Key) → list_any (λ head. key_eq head.schema k) heads ≡ true → attributes_in heads (list_map (λ head. attributes head.schema) heads) k ≡ attributes k
attributes_found attributes [] k there = cc
attributes_found attributes (head ∷ heads) k there = by (key_eq head.schema k) refl there (attributes_found attributes heads k)
  where
    by : (t : Bool) → key_eq head.schema k ≡ t → (t || list_any (λ h. key_eq h.schema k) heads) ≡ true
        → (list_any (λ h. key_eq h.schema k) heads ≡ true → attributes_in heads (list_map (λ h. attributes h.schema) heads) k ≡ attributes k)
        → cond t (attributes head.schema) (attributes_in heads (list_map (λ h. attributes h.schema) heads) k) ≡ attributes k
    by true same there rest = ap attributes ((key_decides head.schema k).0 same)
    by false other there rest = rest there

-- it is that of the schema, whatever tells it
pub attributes_are : (attributes : Key → ℕ) (heads : List Head) (counts : List ℕ) → AreAttributes attributes heads counts → (head : Head) → Contains heads head → attributes_in heads counts head.schema ≡ attributes head.schema
attributes_are attributes heads counts are head there =
    let same = λ (h : Head). key_eq h.schema head.schema in
    let itself : same (get_or heads there.0 head) ≡ true = ap same there.2 ∙ (key_decides head.schema head.schema).1 refl in
    ap (λ l. attributes_in heads l head.schema) (sym are) ∙ attributes_found attributes heads head.schema (list_any_at same heads there.0 head there.1 itself)

pub plan_by_schema : (attributes : Key → ℕ) (heads : List Head) (counts : List ℕ) (vacs : List VacOf) (from to : ℕ) (limits : Limits) → AreAttributes attributes heads counts
    → plan_of heads vacs (attributes_in heads counts) from to limits ≡ plan_of heads vacs attributes from to limits
plan_by_schema attributes heads counts vacs from to limits are = by (find (is_shared limits.min (eligible heads vacs from to)) (eligible heads vacs from to)) refl
  where
    by : (first : Option Head) → find (is_shared limits.min (eligible heads vacs from to)) (eligible heads vacs from to) ≡ first
        → plan_in (attributes_in heads counts) limits (eligible heads vacs from to) (option_map (λ head. head.schema) first) ≡ plan_in attributes limits (eligible heads vacs from to) (option_map (λ head. head.schema) first)
    by None none = refl
    by (Some head) is =
        let all = eligible heads vacs from to in
        let first = found (is_shared limits.min all) all head is in
        let there : Contains all head = subst (λ l. Contains l head) (sym first.split) (Contains-append_right first.before (head ∷ first.after) head (0, omega arith, refl)) in
        let committed = All-contains (Contains heads) all head (All-filter (is_eligible vacs from to) (Contains heads) heads (All-contains_itself heads)) there in
        ap (λ n. plan_by limits (length all) (taken_from n limits [] (of_schema head.schema all))) (attributes_are attributes heads counts are head committed)

-- ---- the same eligible fragments

-- a test that tells what is named keeps the same
pub passed_is : (e : Eligible) (heads : List Head) (vacs : List VacOf) → ((f : FragKey) → contains frag_cmp e.merged f ≡ is_merged vacs f) → passed e heads ≡ eligible heads vacs e.from e.to
passed_is e heads vacs same = filter_agree (passes e) (is_eligible vacs e.from e.to) (λ head. ap (λ t. is_inside e.from e.to head.frag && not t) (same head.frag)) heads

-- a fragment that ends no earlier than it begins is inside just where its span lies in the interval
pub inside_is : (a b : ℕ) (f : FragKey) → f.t1 ≤ f.t2 → is_inside a b f ≡ lies_in a b f
inside_is a b f span = by (nat_le a f.t1) (nat_le f.t2 b) refl refl
  where
    by : (s t : Bool) → nat_le a f.t1 ≡ s → nat_le f.t2 b ≡ t → ((s && nat_le f.t1 b) && (nat_le a f.t2 && t)) ≡ (s && t)
    by true true begins ends =
        let from = leb-true a f.t1 begins in
        let to = leb-true f.t2 b ends in
        and_from (nat_le f.t1 b) (nat_le a f.t2 && true) (le-leb f.t1 b (omega arith)) (and_from (nat_le a f.t2) true (le-leb a f.t2 (omega arith)) refl)
    by true false begins ends = both_false (nat_le f.t1 b) (nat_le a f.t2)
      where
        both_false : (x y : Bool) → (x && (y && false)) ≡ false
        both_false true true = refl
        both_false true false = refl
        both_false false y = refl
    by false t begins ends = refl

-- ---- of an answer

pub told_if : {E : Type 0} (r : Result Planned E) (heads : List Head) (vacs : List VacOf) (attributes : Key → ℕ) (from to : ℕ) (limits : Limits)
    → IfOk r (λ planned. planned ≡ plan_of heads vacs attributes from to limits) → IfOk r (IsPlan heads vacs attributes from to limits)
told_if (Ok planned) heads vacs attributes from to limits is = subst (IsPlan heads vacs attributes from to limits) (sym is) (plan_is heads vacs from to attributes limits)
told_if (Err fault) heads vacs attributes from to limits is = tt

pub by_schema_if : {E : Type 0} (r : Result Planned E) (heads : List Head) (counts : List ℕ) (vacs : List VacOf) (from to : ℕ) (limits : Limits)
    → IfOk r (λ planned. planned ≡ plan_of heads vacs (attributes_in heads counts) from to limits)
    → IfOk r (λ planned. (attributes : Key → ℕ) → AreAttributes attributes heads counts → planned ≡ plan_of heads vacs attributes from to limits)
by_schema_if (Ok planned) heads counts vacs from to limits is = λ attributes are. is ∙ plan_by_schema attributes heads counts vacs from to limits are
by_schema_if (Err fault) heads counts vacs from to limits is = tt
