-- Maps of which some values are left, each as another value.
use Rattle.std.proofs.Common.{◌≡◌, Bool, true, false, cond, List, [], ◌∷◌, Option, Some, None, Ordering, refl, sym, ◌∙◌, ap, subst, is_lt}
use Rattle.std.specs.Prelude.{T, option_and_then}
use Rattle.std.specs.Ordering.{is_eq, eq_by_cmp}
use Rattle.std.specs.declared.cmp.Ordering.TheVariants.{Less, Equal, Greater}
use Rattle.std.specs.Cmp.{Equal-is}
use Rattle.std.specs.FinMap.{IsAntisymmetric}
use Rattle.std.specs.FinMap as map
use Rattle.std.specs.FinMap.Entries.{below_all}
use Rattle.std.proofs.lemmas.Bool.{true≢false, and_parts, and_from, cond-true, cond-false}
use Rattle.std.proofs.lemmas.Float.{T_from_true}

-- a test that holds is true
pub true_from_T : (b : Bool) → T b → b ≡ true
true_from_T true holds = refl
true_from_T false holds = absurd holds

-- what is below ties with nothing
lt-not_eq : (o : Ordering) → is_lt o ≡ true → is_eq o ≡ false
lt-not_eq Less e = refl
lt-not_eq Equal e = absurd (true≢false (sym e))
lt-not_eq Greater e = refl

module _ {K X Y : Type 0} (R : K → K → Ordering) (exact : IsAntisymmetric R) (keep : X → Bool) (f : X → Y) where
  -- the entries whose values are left, each with the other value
  abbrev pub left_of : List (K × X) → List (K × Y)
  left_of [] = []
  left_of (e ∷ es) = cond (keep e.1) ((e.0, f e.1) ∷ left_of es) (left_of es)

  -- what is left of a value
  abbrev pub left_value : X → Option Y
  left_value x = cond (keep x) (Some (f x)) None

  -- what is below all keys is below those that are left
  below_left : (k : K) (es : List (K × X)) → below_all R k es ≡ true → below_all R k (left_of es) ≡ true
  below_left k [] below = refl
  below_left k (e ∷ es) below =
      let parts = and_parts (is_lt (R k e.0)) (below_all R k es) below in
      elim (keep e.1) as (λ b. below_all R k (cond b ((e.0, f e.1) ∷ left_of es) (left_of es)) ≡ true) [
        | true ↦ and_from (is_lt (R k e.0)) (below_all R k (left_of es)) parts.0 (below_left k es parts.1)
        | false ↦ below_left k es parts.1
      ]

  -- the entries that are left are in order
  sorted_left : (es : List (K × X)) → map.is_sorted R es ≡ true → map.is_sorted R (left_of es) ≡ true
  sorted_left [] sorted = refl
  sorted_left (e ∷ es) sorted =
      let parts = and_parts (below_all R e.0 es) (map.is_sorted R es) sorted in
      elim (keep e.1) as (λ b. map.is_sorted R (cond b ((e.0, f e.1) ∷ left_of es) (left_of es)) ≡ true) [
        | true ↦ and_from (below_all R e.0 (left_of es)) (map.is_sorted R (left_of es)) (below_left e.0 es parts.0) (sorted_left es parts.1)
        | false ↦ sorted_left es parts.1
      ]

  -- nothing is found of a key that is below all
  none_below : (k : K) (es : List (K × X)) → below_all R k es ≡ true → map.find R k es ≡ None
  none_below k [] below = refl
  none_below k (e ∷ es) below =
      let parts = and_parts (is_lt (R k e.0)) (below_all R k es) below in
      cond-false (eq_by_cmp R k e.0) (Some e.1) (map.find R k es) (lt-not_eq (R k e.0) parts.0) ∙ none_below k es parts.1

  -- what is found of those that are left is what is left of what was found
  found_left : (k : K) (es : List (K × X)) → map.is_sorted R es ≡ true → map.find R k (left_of es) ≡ option_and_then left_value (map.find R k es)
  found_left k [] sorted = refl
  found_left k (e ∷ es) sorted =
      let parts = and_parts (below_all R e.0 es) (map.is_sorted R es) sorted in
      by_tie parts.0 (found_left k es parts.1) (eq_by_cmp R k e.0) refl
    where
      no_more : below_all R e.0 es ≡ true → map.find R k (left_of es) ≡ option_and_then left_value (map.find R k es) → eq_by_cmp R k e.0 ≡ true → map.find R k (left_of es) ≡ None
      no_more below later tie = later ∙ ap (option_and_then left_value) (none_below k es (subst (λ l. below_all R l es ≡ true) (sym (exact k e.0 ((Equal-is (R k e.0)).0 tie))) below))

      by_tie : below_all R e.0 es ≡ true → map.find R k (left_of es) ≡ option_and_then left_value (map.find R k es) → (t : Bool) → eq_by_cmp R k e.0 ≡ t
          → map.find R k (left_of (e ∷ es)) ≡ option_and_then left_value (cond t (Some e.1) (map.find R k es))
      by_tie below later true tie = elim (keep e.1) as (λ b. map.find R k (cond b ((e.0, f e.1) ∷ left_of es) (left_of es)) ≡ cond b (Some (f e.1)) None) [
        | true ↦ cond-true (eq_by_cmp R k e.0) (Some (f e.1)) (map.find R k (left_of es)) tie
        | false ↦ no_more below later tie
      ]
      by_tie below later false apart = elim (keep e.1) as (λ b. map.find R k (cond b ((e.0, f e.1) ∷ left_of es) (left_of es)) ≡ option_and_then left_value (map.find R k es)) [
        | true ↦ cond-false (eq_by_cmp R k e.0) (Some (f e.1)) (map.find R k (left_of es)) apart ∙ later
        | false ↦ later
      ]

  -- the map of the values that are left
  abbrev pub left_values : map.FinMap R X → map.FinMap R Y
  left_values m = map.from_sorted (left_of (map.entries m))

  -- its entries are those that are left, in order
  are_sorted : (m : map.FinMap R X) → T (map.is_sorted R (left_of (map.entries m)))
  are_sorted m = T_from_true (map.is_sorted R (left_of (map.entries m))) (sorted_left (map.entries m) (true_from_T (map.is_sorted R (map.entries m)) (map.entries_sorted m)))

  -- the entries of the map are those that are left
  pub entries_left : (m : map.FinMap R X) → map.entries (left_values m) ≡ left_of (map.entries m)
  entries_left m = map.entries-from_sorted R (left_of (map.entries m)) (are_sorted m)

  -- at each key it has what is left of the value
  pub get_left : (m : map.FinMap R X) (k : K) → map.get (left_values m) k ≡ option_and_then left_value (map.get m k)
  get_left m k =
      map.get-from_sorted R (left_of (map.entries m)) k (are_sorted m) ∙ found_left k (map.entries m) (true_from_T (map.is_sorted R (map.entries m)) (map.entries_sorted m))
      ∙ ap (option_and_then left_value) (sym (map.get-entries m k))
