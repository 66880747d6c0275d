-- Keys that are put into a list in order: which are in it.
use Rattle.std.proofs.Common.{◌≡◌, ℕ, ◌+◌, ◌<◌, length, take, get_or, Bool, true, false, ◌&&◌, ◌||◌, List, [], ◌∷◌, ◌++◌, Result, Ok, Err, IfOk, refl, sym, ap, ◌∙◌, zero, suc, arith}
use Rattle.std.specs.Prelude.{filter, cond}
use Rattle.std.specs.BTreeSet.{insert_key}
use Rattle.std.specs.Cmp.{IsTotalOrder}
use Rattle.std.specs.List.{list_any, fold, flat_map}
use Rattle.std.specs.Ordering.{eq_by_cmp, is_eq, match_ordering, ordering_reverse}
use Rattle.std.specs.declared.cmp.Ordering.{Ordering}
use Rattle.std.specs.declared.cmp.Ordering.TheVariants.{Less, Equal, Greater}
use Rattle.std.proofs.lemmas.List.Folds.{list_any-append, list_any_more}
use Rattle.std.proofs.lemmas.List.Sums.{fold-append, fold_more}
use Rattle.ts_base.specs.Exact.{frag_total, key_total}
use Rattle.ts_base.specs.Keys.{key_eq, key_cmp, frag_cmp, frag_eq}
use Rattle.ts_base.specs.declared.keys.FragKey.{FragKey}
use Rattle.ts_base.specs.declared.keys.Key.{Key}
use Rattle.ts_base.specs.declared.heads.Head.{Head}
use Rattle.ts_commit.specs.declared.vacs.VacOf.{VacOf}
use Rattle.ts_commit.specs.Selections.{is_among, is_merged, with_names, in_order, removal_set, names_merged, is_taken, is_head_of, is_named}

-- ---- tests

pub or_assoc : (a b c : Bool) → ((a || b) || c) ≡ (a || (b || c))
or_assoc true b c = refl
or_assoc false b c = refl

or_swap : (a b c : Bool) → (a || (b || c)) ≡ (b || (a || c))
or_swap true true c = refl
or_swap true false c = refl
or_swap false b c = refl

or_twice : (a b : Bool) → (a || b) ≡ (a || (a || b))
or_twice true b = refl
or_twice false b = refl

-- tests that agree at each item find the same
pub any_same : {X : Type 0} (p q : X → Bool) → ((x : X) → p x ≡ q x) → (xs : List X) → list_any p xs ≡ list_any q xs
any_same p q same [] = refl
any_same p q same (x ∷ xs) = ap (λ b. b || list_any p xs) (same x) ∙ ap (λ b. q x || b) (any_same p q same xs)

-- tests that agree at each item keep the same
pub filter_same : {X : Type 0} (p q : X → Bool) → ((x : X) → p x ≡ q x) → (xs : List X) → filter p xs ≡ filter q xs
filter_same p q same [] = refl
filter_same p q same (x ∷ xs) = ap (λ b. cond b (x ∷ filter p xs) (filter p xs)) (same x) ∙ ap (λ l. cond (q x) (x ∷ l) l) (filter_same p q same xs)

-- what is found among the items that pass a test
pub any_filter : {X : Type 0} (p q : X → Bool) (xs : List X) → list_any q (filter p xs) ≡ list_any (λ x. p x && q x) xs
any_filter p q [] = refl
any_filter p q (x ∷ xs) = by (p x) (any_filter p q xs)
  where
    by : (t : Bool) → list_any q (filter p xs) ≡ list_any (λ y. p y && q y) xs → list_any q (cond t (x ∷ filter p xs) (filter p xs)) ≡ ((t && q x) || list_any (λ y. p y && q y) xs)
    by true rest = ap (λ b. q x || b) rest
    by false rest = rest

-- ---- keys in order

module _ {K : Type 0} {R : K → K → Ordering} (total : IsTotalOrder R) where
  -- what ties with a key ties with the keys that it ties with
  ties_same : (q k x : K) → R k x ≡ Equal → eq_by_cmp R q k ≡ eq_by_cmp R q x
  ties_same q k x tie = ap is_eq (total.antisymm q k ∙ ap ordering_reverse (total.congr k x q tie) ∙ sym (total.antisymm q x))

  -- a key more
  pub any_insert : (q k : K) (ks : List K) → list_any (eq_by_cmp R q) (insert_key R ks k) ≡ (eq_by_cmp R q k || list_any (eq_by_cmp R q) ks)
  any_insert q k [] = refl
  any_insert q k (x ∷ xs) = by (R k x) refl (any_insert q k xs)
    where
      by : (o : Ordering) → R k x ≡ o → list_any (eq_by_cmp R q) (insert_key R xs k) ≡ (eq_by_cmp R q k || list_any (eq_by_cmp R q) xs)
          → list_any (eq_by_cmp R q) (match_ordering o (k ∷ x ∷ xs) (x ∷ xs) (x ∷ insert_key R xs k)) ≡ (eq_by_cmp R q k || (eq_by_cmp R q x || list_any (eq_by_cmp R q) xs))
      by Less is rest = refl
      by Equal is rest = or_twice (eq_by_cmp R q x) (list_any (eq_by_cmp R q) xs) ∙ ap (λ b. b || (eq_by_cmp R q x || list_any (eq_by_cmp R q) xs)) (sym (ties_same q k x is))
      by Greater is rest = ap (λ b. eq_by_cmp R q x || b) rest ∙ or_swap (eq_by_cmp R q x) (eq_by_cmp R q k) (list_any (eq_by_cmp R q) xs)

  -- several keys more
  pub any_insert_all : (q : K) (ks more : List K) → list_any (eq_by_cmp R q) (fold (insert_key R) ks more) ≡ (list_any (eq_by_cmp R q) ks || list_any (eq_by_cmp R q) more)
  any_insert_all q ks [] = or_false (list_any (eq_by_cmp R q) ks)
    where
      or_false : (b : Bool) → b ≡ (b || false)
      or_false true = refl
      or_false false = refl
  any_insert_all q ks (k ∷ more) =
      any_insert_all q (insert_key R ks k) more ∙ ap (λ b. b || list_any (eq_by_cmp R q) more) (any_insert q k ks)
      ∙ or_assoc (eq_by_cmp R q k) (list_any (eq_by_cmp R q) ks) (list_any (eq_by_cmp R q) more) ∙ or_swap (eq_by_cmp R q k) (list_any (eq_by_cmp R q) ks) (list_any (eq_by_cmp R q) more)

-- ---- names

-- the fragments in order are the fragments
pub among_in_order : (f : FragKey) (frags : List FragKey) → is_among f (in_order frags) ≡ is_among f frags
among_in_order f frags = any_insert_all frag_total f [] frags

-- what one of the lists names
among_named : (f : FragKey) (vacs : List VacOf) → is_among f (flat_map (λ v. v.names) vacs) ≡ is_merged vacs f
among_named f [] = refl
among_named f (v ∷ vacs) = list_any-append (frag_eq f) v.names (flat_map (λ w. w.names) vacs) ∙ ap (λ b. is_among f v.names || b) (among_named f vacs)

-- the removal set has just what the `.vac` objects name
pub among_removed : (f : FragKey) (vacs : List VacOf) → is_among f (removal_set vacs) ≡ is_merged vacs f
among_removed f vacs = among_in_order f (flat_map (λ v. v.names) vacs) ∙ among_named f vacs

-- the names of a consolidation are just its sources, and what the `.vac` objects of these name
pub among_merged : (f : FragKey) (vacs : List VacOf) (sources : List FragKey) → is_among f (names_merged vacs sources) ≡ is_taken vacs sources f
among_merged f vacs sources =
    let own = λ (v : VacOf). is_among v.frag sources in
    among_in_order f (sources ++ flat_map (λ v. v.names) (filter own vacs)) ∙ list_any-append (frag_eq f) sources (flat_map (λ v. v.names) (filter own vacs))
    ∙ ap (λ b. is_among f sources || b) (among_named f (filter own vacs) ∙ any_filter own (λ v. is_among f v.names) vacs)

-- the same of a list that was made so, by any test that tells the sources
pub merged_from : {E : Type 0} (r : Result (List FragKey) E) (test : FragKey → Bool) (vacs : List VacOf) (sources own keys : List FragKey) → IfOk r (λ names. names ≡ keys)
    → own ≡ with_names [] sources → keys ≡ with_names own (flat_map (λ v. v.names) (filter (λ v. test v.frag) vacs)) → ((f : FragKey) → test f ≡ is_among f sources)
    → IfOk r (λ names. (f : FragKey) → is_among f names ≡ is_taken vacs sources f)
merged_from (Ok names) test vacs sources own keys are same made tells =
    let of = λ (l : List VacOf). flat_map (λ v. v.names) l in
    let whole : keys ≡ names_merged vacs sources = made ∙ ap (λ l. with_names l (of (filter (λ v. test v.frag) vacs))) same
    ∙ sym (fold-append (insert_key frag_cmp) [] sources (of (filter (λ v. test v.frag) vacs)))
    ∙ ap (λ l. in_order (sources ++ of l)) (filter_same (λ v. test v.frag) (λ v. is_among v.frag sources) (λ v. tells v.frag) vacs) in
    λ f. ap (is_among f) (are ∙ whole) ∙ among_merged f vacs sources
merged_from (Err fault) test vacs sources own keys are same made tells = tt

-- what the `.vac` objects of some fragments name, by any test that tells these fragments
pub named_by : (test : FragKey → Bool) (heads : List Head) (vacs : List VacOf) → ((f : FragKey) → test f ≡ list_any (is_head_of f) heads)
    → (f : FragKey) → is_among f (with_names [] (flat_map (λ v. v.names) (filter (λ v. test v.frag) vacs))) ≡ is_named heads vacs f
named_by test heads vacs same f =
    among_in_order f (flat_map (λ v. v.names) (filter (λ v. test v.frag) vacs)) ∙ among_named f (filter (λ v. test v.frag) vacs)
    ∙ any_filter (λ v. test v.frag) (λ v. is_among f v.names) vacs
    ∙ any_same (λ v. test v.frag && is_among f v.names) (λ v. list_any (is_head_of v.frag) heads && is_among f v.names) (λ v. ap (λ b. b && is_among f v.names) (same v.frag)) vacs

-- the same of the list that was made so
pub named_from : (test : FragKey → Bool) (heads : List Head) (vacs : List VacOf) (start names : List FragKey) → start ≡ []
    → names ≡ with_names start (flat_map (λ v. v.names) (filter (λ v. test v.frag) vacs)) → ((f : FragKey) → test f ≡ list_any (is_head_of f) heads)
    → (f : FragKey) → is_among f names ≡ is_named heads vacs f
named_from test heads vacs start names none made same f =
    ap (is_among f) (made ∙ ap (λ l. with_names l (flat_map (λ v. v.names) (filter (λ v. test v.frag) vacs))) none) ∙ named_by test heads vacs same f

-- a name more
pub names_more : (start names : List FragKey) (i : ℕ) (d : FragKey) (so_far new : List FragKey) → i < length names → new ≡ insert_key frag_cmp so_far (get_or names i d)
    → so_far ≡ with_names start (take i names) → new ≡ with_names start (take (i + 1) names)
names_more start names i d so_far new more is was = is ∙ ap (λ l. insert_key frag_cmp l (get_or names i d)) was ∙ sym (fold_more (insert_key frag_cmp) start names i d more)

-- ---- sets of keys

is_eq-reverse : (o : Ordering) → is_eq (ordering_reverse o) ≡ is_eq o
is_eq-reverse Less = refl
is_eq-reverse Equal = refl
is_eq-reverse Greater = refl

pub key_eq-swap : (k l : Key) → key_eq k l ≡ key_eq l k
key_eq-swap k l = ap is_eq (key_total.antisymm k l) ∙ is_eq-reverse (key_cmp l k)

-- a key more
pub added_more : (k : Key) (keys : List Key) (i : ℕ) (d : Key) (before so_far new : Bool) → i < length keys → new ≡ cond (key_eq (get_or keys i d) k) true so_far
    → so_far ≡ (before || list_any (key_eq k) (take i keys)) → new ≡ (before || list_any (key_eq k) (take (i + 1) keys))
added_more k keys i d before so_far new more is was =
    is ∙ ap (λ b. cond b true so_far) (key_eq-swap (get_or keys i d) k) ∙ ap (cond (key_eq k (get_or keys i d)) true) was
    ∙ by before (list_any (key_eq k) (take i keys)) (key_eq k (get_or keys i d)) ∙ ap (λ b. before || b) (sym (list_any_more (key_eq k) keys i d more))
  where
    by : (a b t : Bool) → cond t true (a || b) ≡ (a || (b || t))
    by true b true = refl
    by true b false = refl
    by false true true = refl
    by false true false = refl
    by false false true = refl
    by false false false = refl

-- an item that passes is found
pub any_at : {X : Type 0} (p : X → Bool) (xs : List X) (i : ℕ) (d : X) → i < length xs → p (get_or xs i d) ≡ true → true ≡ list_any p xs
any_at p [] i d more is = absurd (omega arith)
any_at p (x ∷ xs) zero d more is = ap (λ b. b || list_any p xs) (sym is)
any_at p (x ∷ xs) (suc i) d more is = true_or (p x) ∙ ap (λ b. p x || b) (any_at p xs i d (omega arith) is)
  where
    true_or : (b : Bool) → true ≡ (b || true)
    true_or true = refl
    true_or false = refl
