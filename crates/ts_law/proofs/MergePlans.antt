-- What a plan takes of the fragments that a consolidation opened, and on which attributes it depends.
use Rattle.std.proofs.Common.{◌≡◌, ℕ, Bool, true, false, cond, ◌&&◌, ◌||◌, ◌⊎◌, inl, inr, List, [], ◌∷◌, ◌++◌, Option, Some, None, length, T, refl, sym, ◌∙◌, ap, subst}
use Rattle.std.specs.Prelude.{Contains, filter, filter_map, find, nat_le, option_map, ⊤, map as list_map}
use Rattle.std.specs.List.{cons_option}
use Rattle.std.specs.Ordering.{is_lt}
use Rattle.std.specs.Cmp.{IsTotalOrder, tied_itself}
use Rattle.std.specs.declared.cmp.Ordering.{Ordering}
use Rattle.std.specs.FinMap as map
use Rattle.std.specs.FinMap.Entries.{below_all, is_sorted}
use Rattle.std.proofs.lemmas.Bool.{true≢false}
use Rattle.std.proofs.lemmas.List.{append-nil, append_assoc}
use Rattle.ts_base.specs.declared.keys.Key.{Key}
use Rattle.ts_base.specs.declared.keys.FragKey.{FragKey}
use Rattle.ts_base.specs.declared.heads.Head.{Head}
use Rattle.ts_base.specs.declared.names.Prefix.TheVariants.{Commits}
use Rattle.ts_base.specs.Exact.{name_total}
use Rattle.ts_base.specs.Held.{Held}
use Rattle.ts_base.specs.Keys.{frag_eq, key_eq}
use Rattle.ts_base.specs.Names.{is_under}
use Rattle.ts_store.specs.Calls.{names_under}
use Rattle.ts_commit.specs.declared.vacs.VacOf.{VacOf}
use Rattle.ts_commit.specs.declared.vacs.Limits.{Limits}
use Rattle.ts_commit.specs.declared.vacs.Planned.TheVariants as planned
use Rattle.ts_commit.specs.Plans.{eligible, is_eligible, is_in_bounds, is_shared, of_schema, plan_by, plan_in, plan_of, shared_schema, taken_from}
use Rattle.ts_commit.specs.Selections.{is_among}
use Rattle.ts_model.specs.States.{committed_in, wrt_in}
use Rattle.ts_model.proofs.KeyLemmas.{frag_itself, frag_same, key_same}
use Rattle.ts_model.proofs.ListLemmas.{Contains-cons, Contains-here, Contains-nil, Contains-there, filter-Contains, filter_map-Contains, find-Some}
use Rattle.ts_law.proofs.Fetches.{Contains-map, map-Contains}
use Rattle.ts_law.proofs.ListSteps.{wrt_in-some}

-- ---- lists in which nothing comes twice

-- no item comes twice
abbrev pub NoRepeats : {X : Type 0} → List X → Type 0
NoRepeats [] = ⊤
NoRepeats (x ∷ xs) = (Contains xs x → ⊥) × NoRepeats xs

module _ {X : Type 0} where
  -- so it is in what passes a test
  pub filter_once : (p : X → Bool) (xs : List X) → NoRepeats xs → NoRepeats (filter p xs)
  filter_once p [] once = tt
  filter_once p (x ∷ xs) once = by (p x) (filter_once p xs once.1)
    where
      by : (t : Bool) → NoRepeats (filter p xs) → NoRepeats (cond t (x ∷ filter p xs) (filter p xs))
      by true rest = (λ at. once.0 (filter-Contains p xs x at).0, rest)
      by false rest = rest

  -- and in what is made of items, where two make no one
  filter_map_once : {Y : Type 0} (f : X → Option Y) → ((x z : X) (y : Y) → f x ≡ Some y → f z ≡ Some y → x ≡ z) → (xs : List X) → NoRepeats xs → NoRepeats (filter_map f xs)
  filter_map_once f own [] once = tt
  filter_map_once {Y} f own (x ∷ xs) once = by (f x) refl (filter_map_once f own xs once.1)
    where
      by : (o : Option Y) → f x ≡ o → NoRepeats (filter_map f xs) → NoRepeats (cons_option o (filter_map f xs))
      by None none rest = rest
      by (Some y) some rest = (
        λ at.
            let other = filter_map-Contains f xs y at in
            once.0 (subst (Contains xs) (own other.0 x y other.2 some) other.1),
        rest,
      )

-- ---- the committed fragments of a listing

-- a test of two tests
tests : (a b : Bool) → T (a && b) → T a × T b
tests true b is = (tt, is)
tests false b is = absurd is

module _ {K X : Type 0} {R : K → K → Ordering} (total : IsTotalOrder R) where
  -- a key that is below all entries is the key of none
  not_below : (k : K) (es : List (K × X)) → T (below_all R k es) → Contains (list_map (λ e. e.0) es) k → ⊥
  not_below k [] below at = Contains-nil k at
  not_below k (e ∷ es) below at =
      let parts = tests (is_lt (R k e.0)) (below_all R k es) below in
      elim (Contains-cons e.0 (list_map (λ f. f.0) es) k at) [
        | inl same ↦ subst (λ o. T (is_lt o)) (tied_itself total k) (subst (λ l. T (is_lt (R k l))) same parts.0)
        | inr later ↦ not_below k es parts.1 later
      ]

  -- the keys of entries in order
  keys_once : (es : List (K × X)) → T (is_sorted R es) → NoRepeats (list_map (λ e. e.0) es)
  keys_once [] sorted = tt
  keys_once (e ∷ es) sorted = let parts = tests (below_all R e.0 es) (is_sorted R es) sorted in (not_below e.0 es parts.0, keys_once es parts.1)

-- a listing tells no committed fragment twice
pub committed_once : (m : Held) → NoRepeats (committed_in (names_under Commits m))
committed_once m =
    filter_map_once wrt_in (λ n q f is also. wrt_in-some n f is ∙ sym (wrt_in-some q f also)) (names_under Commits m)
    (filter_once (is_under Commits) (map.keys m) (keys_once name_total (map.entries m) (map.entries_sorted m)))

-- ---- parts of lists

-- the items of the first list stand in the second one, in the same order
abbrev pub IsPart : {X : Type 0} → List X → List X → Type 0
IsPart xs [] = xs ≡ []
IsPart {X} xs (y ∷ ys) = IsPart xs ys ⊎ ((zs : List X) × (xs ≡ y ∷ zs) × IsPart zs ys)

module _ {X : Type 0} where
  -- an item of a part is one of the whole
  pub part_member : (xs ys : List X) (x : X) → IsPart xs ys → Contains xs x → Contains ys x
  part_member xs [] x part at = subst (λ l. Contains l x) part at
  part_member xs (y ∷ ys) x (inl later) at = Contains-there y ys x (part_member xs ys x later at)
  part_member xs (y ∷ ys) x (inr (zs, is, rest)) at = elim (Contains-cons y zs x (subst (λ l. Contains l x) is at)) [
    | inl same ↦ subst (Contains (y ∷ ys)) same (Contains-here y ys)
    | inr behind ↦ Contains-there y ys x (part_member zs ys x rest behind)
  ]

  -- what passes a test is a part
  filter_part : (p : X → Bool) (xs : List X) → IsPart (filter p xs) xs
  filter_part p [] = refl
  filter_part p (x ∷ xs) = by (p x) (filter_part p xs)
    where
      by : (t : Bool) → IsPart (filter p xs) xs → IsPart (cond t (x ∷ filter p xs) (filter p xs)) (x ∷ xs)
      by true rest = inr (filter p xs, refl, rest)
      by false rest = inl rest

  -- a part of a part is a part
  part_of_part : (xs ys zs : List X) → IsPart xs ys → IsPart ys zs → IsPart xs zs
  part_of_part xs ys [] inner outer = subst (IsPart xs) outer inner
  part_of_part xs ys (z ∷ zs) inner (inl later) = inl (part_of_part xs ys zs inner later)
  part_of_part xs ys (z ∷ zs) inner (inr (us, is, rest)) = by (λ vs behind. part_of_part vs us zs behind rest) (subst (IsPart xs) is inner)
    where
      by : ((vs : List X) → IsPart vs us → IsPart vs zs) → IsPart xs (z ∷ us) → IsPart xs (z ∷ zs)
      by on (inl later) = inl (on xs later)
      by on (inr (vs, same, behind)) = inr (vs, same, on vs behind)

  -- nothing is a part of each list
  none_part : (ys : List X) → IsPart [] ys
  none_part [] = refl
  none_part (y ∷ ys) = inl (none_part ys)

  -- a front of a list is a part of it
  front_part : (xs more : List X) → IsPart xs (xs ++ more)
  front_part [] more = none_part more
  front_part (x ∷ xs) more = inr (xs, refl, front_part xs more)

-- ---- the heads of named fragments

-- the fragments of heads
abbrev pub frags_in : List Head → List FragKey
frags_in heads = list_map (λ head. head.frag) heads

-- a fragment is among those that contain it
pub among_from : (f : FragKey) (fs : List FragKey) → Contains fs f → is_among f fs ≡ true
among_from f [] at = absurd (Contains-nil f at)
among_from f (g ∷ fs) at = by (frag_eq f g) refl (Contains-cons g fs f at) (among_from f fs)
  where
    by : (t : Bool) → frag_eq f g ≡ t → (g ≡ f) ⊎ Contains fs f → (Contains fs f → is_among f fs ≡ true) → (t || is_among f fs) ≡ true
    by true tie is on = refl
    by false other (inl same) on = absurd (true≢false (sym (frag_itself f) ∙ ap (frag_eq f) (sym same) ∙ other))
    by false other (inr later) on = on later

-- and those among which it is contain it
pub contains_from : (f : FragKey) (fs : List FragKey) → is_among f fs ≡ true → Contains fs f
contains_from f [] is = absurd (true≢false (sym is))
contains_from f (g ∷ fs) is = by (frag_eq f g) refl is (contains_from f fs)
  where
    by : (t : Bool) → frag_eq f g ≡ t → (t || is_among f fs) ≡ true → (is_among f fs ≡ true → Contains fs f) → Contains (g ∷ fs) f
    by true tie found on = subst (Contains (g ∷ fs)) (sym (frag_same f g tie)) (Contains-here g fs)
    by false other found on = Contains-there g fs f (on found)

-- what is not contained is not among
not_among : (f : FragKey) (fs : List FragKey) → (Contains fs f → ⊥) → is_among f fs ≡ false
not_among f fs apart = by (is_among f fs) refl
  where
    by : (t : Bool) → is_among f fs ≡ t → t ≡ false
    by true is = absurd (apart (contains_from f fs is))
    by false is = refl

-- tests that agree at each item keep the same
filter_on : {X : Type 0} (p q : X → Bool) (xs : List X) → ((x : X) → Contains xs x → p x ≡ q x) → filter p xs ≡ filter q xs
filter_on p q [] agree = refl
filter_on p q (x ∷ xs) agree =
    ap (λ t. cond t (x ∷ filter p xs) (filter p xs)) (agree x (Contains-here x xs))
    ∙ ap (λ l. cond (q x) (x ∷ l) l) (filter_on p q xs (λ y at. agree y (Contains-there x xs y at)))

-- the heads that are named by a part of heads are the part, where no fragment comes twice
pub named_part : (xs ys : List Head) → IsPart xs ys → NoRepeats (frags_in ys) → filter (λ head. is_among head.frag (frags_in xs)) ys ≡ xs
named_part xs [] part once = sym part
named_part xs (y ∷ ys) (inl later) once =
    let apart : is_among y.frag (frags_in xs) ≡ false = not_among y.frag (frags_in xs) (λ at.
    let head = map-Contains (λ (h : Head). h.frag) xs y.frag at in
    once.0 (subst (Contains (frags_in ys)) head.2 (Contains-map (λ (h : Head). h.frag) ys head.0 (part_member xs ys head.0 later head.1)))) in
    let rest : List Head = filter (λ head. is_among head.frag (frags_in xs)) ys in
    ap (λ t. cond t (y ∷ rest) rest) apart ∙ named_part xs ys later once.1
named_part xs (y ∷ ys) (inr (zs, is, behind)) once =
    subst (λ us. filter (λ head. is_among head.frag (frags_in us)) (y ∷ ys) ≡ us) (sym is)
    (ap (λ t. cond t (y ∷ rest) rest) (among_from y.frag (y.frag ∷ frags_in zs) (Contains-here y.frag (frags_in zs)))
    ∙ ap (λ l. y ∷ l) (filter_on (λ head. is_among head.frag (y.frag ∷ frags_in zs)) (λ head. is_among head.frag (frags_in zs)) ys agree ∙ named_part zs ys behind once.1))
  where
    rest : List Head
    rest = filter (λ head. is_among head.frag (y.frag ∷ frags_in zs)) ys

    agree : (x : Head) → Contains ys x → is_among x.frag (y.frag ∷ frags_in zs) ≡ is_among x.frag (frags_in zs)
    agree x at = ap (λ t. t || is_among x.frag (frags_in zs)) (by (frag_eq x.frag y.frag) refl)
      where
        by : (t : Bool) → frag_eq x.frag y.frag ≡ t → t ≡ false
        by true tie = absurd (once.0 (subst (Contains (frags_in ys)) (frag_same x.frag y.frag tie) (Contains-map (λ (h : Head). h.frag) ys x at)))
        by false other = refl

-- ---- what is taken

-- what is taken is what was taken so far, and then a front of the rest
record IsTaken (so_far rest taken : List Head) : Type 0 where
  more : List Head
  left : List Head
  whole : taken ≡ so_far ++ more
  split : rest ≡ more ++ left

taken_is : (attributes : ℕ) (limits : Limits) (so_far rest : List Head) → IsTaken so_far rest (taken_from attributes limits so_far rest)
taken_is attributes limits so_far [] = record { more = []; left = []; whole = sym (append-nil so_far); split = refl }
taken_is attributes limits so_far (head ∷ rest) = by (is_in_bounds attributes limits (so_far ++ head ∷ [])) (taken_is attributes limits (so_far ++ head ∷ []) rest)
  where
    by : (t : Bool) → IsTaken (so_far ++ head ∷ []) rest (taken_from attributes limits (so_far ++ head ∷ []) rest)
        → IsTaken so_far (head ∷ rest) (cond t (taken_from attributes limits (so_far ++ head ∷ []) rest) so_far)
    by true next = record {
      more = head ∷ next.more;
      left = next.left;
      whole = next.whole ∙ append_assoc so_far (head ∷ []) next.more;
      split = ap (λ l. head ∷ l) next.split;
    }
    by false next = record { more = []; left = head ∷ rest; whole = sym (append-nil so_far); split = refl }

-- fragments that a plan takes: their heads are a part of all, and in one schema
pub record TakesPart (heads : List Head) (frags : List FragKey) : Type 0 where
  pub schema : Key
  pub taken : List Head
  pub named : frags ≡ frags_in taken
  pub part : IsPart taken heads
  pub alike : (head : Head) → Contains taken head → head.schema ≡ schema

module _ (heads : List Head) (vacs : List VacOf) (from to : ℕ) (limits : Limits) where
  -- the heads that may be merged
  abbrev all : List Head
  all = eligible heads vacs from to

  -- what is taken in a schema is a part of all, and in it
  in_schema : (attributes : ℕ) (k : Key) (frags : List FragKey) → frags_in (taken_from attributes limits [] (of_schema k all)) ≡ frags → TakesPart heads frags
  in_schema attributes k frags are =
      let taken = taken_is attributes limits [] (of_schema k all) in
      let front : IsPart taken.more (of_schema k all) = subst (IsPart taken.more) (sym taken.split) (front_part taken.more taken.left) in
      record {
        schema = k;
        taken = taken.more;
        named = sym are ∙ ap frags_in taken.whole;
        part = part_of_part taken.more all heads (part_of_part taken.more (of_schema k all) all front (filter_part (λ head. key_eq head.schema k) all)) (filter_part (is_eligible vacs from to) heads);
        alike = λ head at. key_same head.schema k (filter-Contains (λ (h : Head). key_eq h.schema k) all head (part_member taken.more (of_schema k all) head front at)).1;
      }

  -- a plan that takes fragments takes such
  pub takes_part : (attributes : Key → ℕ) (frags : List FragKey) → plan_of heads vacs attributes from to limits ≡ planned.Take frags → TakesPart heads frags
  takes_part attributes frags is = by (shared_schema limits.min all) is
    where
      by_count : (k : Key) (t : Bool) → cond t (planned.Take (frags_in (taken_from (attributes k) limits [] (of_schema k all)))) (planned.Nothing (length all)) ≡ planned.Take frags → TakesPart heads frags
      by_count k true same = in_schema (attributes k) k frags cc
      by_count k false same = absurd cc

      by : (o : Option Key) → plan_in attributes limits all o ≡ planned.Take frags → TakesPart heads frags
      by None same = absurd cc
      by (Some k) same = by_count k (nat_le limits.min (length (taken_from (attributes k) limits [] (of_schema k all)))) same

  -- a plan depends on the attributes of the heads' schemas alone
  pub plan_alike : (a b : Key → ℕ) → ((head : Head) → Contains heads head → a head.schema ≡ b head.schema) → plan_of heads vacs a from to limits ≡ plan_of heads vacs b from to limits
  plan_alike a b alike = by (find (is_shared limits.min all) all) refl
    where
      by : (o : Option Head) → find (is_shared limits.min all) all ≡ o → plan_in a limits all (option_map (λ head. head.schema) o) ≡ plan_in b limits all (option_map (λ head. head.schema) o)
      by None none = refl
      by (Some head) some =
          let at = filter-Contains (is_eligible vacs from to) heads head (find-Some (is_shared limits.min all) all head some).0 in
          ap (λ n. plan_by limits (length all) (taken_from n limits [] (of_schema head.schema all))) (alike head at.0)
