-- Keys: one key where two tie, and what the greatest one of a list is.
use Rattle.std.proofs.Common.{◌≡◌, true, false, cond, inl, inr, List, [], ◌∷◌, Option, Some, None, refl, sym, ◌∙◌, ap, subst}
use Rattle.std.specs.Prelude.{Contains, find}
use Rattle.std.specs.declared.cmp.Ordering.{Ordering}
use Rattle.std.specs.declared.cmp.Ordering.TheVariants.{Less, Equal, Greater}
use Rattle.std.specs.Ordering.{is_lt, is_eq, is_gt, ordering_reverse, eq_by_cmp}
use Rattle.std.specs.Cmp.{IsTotalOrder, Equal-is}
use Rattle.std.specs.FinMap.{IsAntisymmetric}
use Rattle.std.proofs.lemmas.Cmp.{upto, tied_itself}
use Rattle.std.proofs.lemmas.Bool.{true≢false, false_from_ne_true, cond-true, cond-false}
use Rattle.ts_base.specs.declared.keys.Key.{Key}
use Rattle.ts_base.specs.declared.keys.FragKey.{FragKey}
use Rattle.ts_base.specs.Keys.{key_cmp, key_eq, key_lt, frag_eq, frag_of, greater, greatest}
use Rattle.ts_base.specs.Exact.{key_total, key_exact, frag_total, frag_exact}
use Rattle.ts_model.proofs.ListLemmas.{Contains-nil, Contains-cons, Contains-here, Contains-there}

is_lt-reverse : (o : Ordering) → is_lt (ordering_reverse o) ≡ is_gt o
is_lt-reverse Less = refl
is_lt-reverse Equal = refl
is_lt-reverse Greater = refl

is_lt-not_eq : (o : Ordering) → is_lt o ≡ true → is_eq o ≡ false
is_lt-not_eq Less e = refl
is_lt-not_eq Equal e = absurd (true≢false (sym e))
is_lt-not_eq Greater e = refl

is_lt-not_gt : (o : Ordering) → is_lt o ≡ true → is_gt o ≡ false
is_lt-not_gt Less e = refl
is_lt-not_gt Equal e = refl
is_lt-not_gt Greater e = absurd (true≢false (sym e))

-- ---- equal keys and names

module _ {K : Type 0} {R : K → K → Ordering} (total : IsTotalOrder R) (exact : IsAntisymmetric R) where
  pub same_from_tie : (x y : K) → eq_by_cmp R x y ≡ true → x ≡ y
  same_from_tie x y tie = exact x y ((Equal-is (R x y)).0 tie)

  pub tie_itself : (x : K) → eq_by_cmp R x x ≡ true
  tie_itself x = ap is_eq (tied_itself total x)

  pub no_tie : (x y : K) → (x ≡ y → ⊥) → eq_by_cmp R x y ≡ false
  no_tie x y other = false_from_ne_true (eq_by_cmp R x y) (λ tie. other (same_from_tie x y tie))

pub key_same : (k l : Key) → key_eq k l ≡ true → k ≡ l
key_same = same_from_tie key_total key_exact

pub key_itself : (k : Key) → key_eq k k ≡ true
key_itself = tie_itself key_total key_exact

pub key_other : (k l : Key) → (k ≡ l → ⊥) → key_eq k l ≡ false
key_other = no_tie key_total key_exact

pub frag_same : (f g : FragKey) → frag_eq f g ≡ true → f ≡ g
frag_same = same_from_tie frag_total frag_exact

pub frag_itself : (f : FragKey) → frag_eq f f ≡ true
frag_itself = tie_itself frag_total frag_exact

-- a key makes one fragment, and one name of a delete
pub key_of_frag : (k l : Key) → frag_of k ≡ frag_of l → k ≡ l
key_of_frag k l same = λ i. record { t = (same i).t1; id = (same i).id }

-- ---- the order of keys

pub lt-gt : (k l : Key) → key_lt k l ≡ is_gt (key_cmp l k)
lt-gt k l = ap is_lt (key_total.antisymm k l) ∙ is_lt-reverse (key_cmp l k)

pub not_below_itself : (k : Key) → key_lt k k ≡ false
not_below_itself k = ap is_lt (tied_itself key_total k)

pub not_below_back : (k l : Key) → key_lt k l ≡ true → key_lt l k ≡ false
not_below_back k l below = lt-gt l k ∙ is_lt-not_gt (key_cmp k l) below

pub not_below_on : (k l m : Key) → key_lt k l ≡ false → key_lt l m ≡ false → key_lt k m ≡ false
not_below_on k l m first second = lt-gt k m ∙ upto key_total m l k (sym (lt-gt l m) ∙ second) (sym (lt-gt k l) ∙ first)

-- neither of two keys is below the other
pub same_from_both : (k l : Key) → key_lt k l ≡ false → key_lt l k ≡ false → k ≡ l
same_from_both k l first second = key_exact k l (level (key_cmp k l) first (sym (lt-gt l k) ∙ second))
  where
    level : (o : Ordering) → is_lt o ≡ false → is_gt o ≡ false → o ≡ Equal
    level Less e f = absurd (true≢false e)
    level Equal e f = refl
    level Greater e f = absurd (true≢false f)

-- ---- the greatest

module _ {X : Type 0} (key : X → Key) where
  -- an item with the greatest key: it is in the list, no key there is above its key, and it is the first with that key
  pub record IsGreatest (xs : List X) (x : X) : Type 0 where
    pub member : Contains xs x
    pub top : (y : X) → Contains xs y → key_lt (key x) (key y) ≡ false
    pub first : find (λ y. key_eq (key y) (key x)) xs ≡ Some x

  -- what an answer of `greatest` says of the list
  abbrev Tells : List X → Option X → Type 0
  Tells xs None = xs ≡ []
  Tells xs (Some x) = IsGreatest xs x

  alone : (x : X) (xs : List X) → xs ≡ [] → IsGreatest (x ∷ xs) x
  alone x xs none = record {
    member = Contains-here x xs;
    top = λ y at. elim (Contains-cons x xs y at) [
      | inl same ↦ rw (← same) (not_below_itself (key x))
      | inr later ↦ absurd (Contains-nil y (subst (λ ys. Contains ys y) none later))
    ];
    first = cond-true (key_eq (key x) (key x)) _ _ (key_itself (key x));
  }

  -- the head is below the greatest of the rest
  passed : (x : X) (xs : List X) (z : X) → key_lt (key x) (key z) ≡ true → IsGreatest xs z → IsGreatest (x ∷ xs) z
  passed x xs z below rest = record {
    member = Contains-there x xs z rest.member;
    top = λ y at. elim (Contains-cons x xs y at) [
      | inl same ↦ rw (← same) (not_below_back (key x) (key z) below)
      | inr later ↦ rest.top y later
    ];
    first = cond-false (key_eq (key x) (key z)) _ _ (is_lt-not_eq (key_cmp (key x) (key z)) below) ∙ rest.first;
  }

  -- the head is not below the greatest of the rest
  stays : (x : X) (xs : List X) (z : X) → key_lt (key x) (key z) ≡ false → IsGreatest xs z → IsGreatest (x ∷ xs) x
  stays x xs z level rest = record {
    member = Contains-here x xs;
    top = λ y at. elim (Contains-cons x xs y at) [
      | inl same ↦ rw (← same) (not_below_itself (key x))
      | inr later ↦ not_below_on (key x) (key z) (key y) level (rest.top y later)
    ];
    first = cond-true (key_eq (key x) (key x)) _ _ (key_itself (key x));
  }

  tells_more : (x : X) (xs : List X) (o : Option X) → Tells xs o → Tells (x ∷ xs) (greater key (Some x) o)
  tells_more x xs None none = alone x xs none
  tells_more x xs (Some z) rest = elim (key_lt (key x) (key z)) as (λ b. key_lt (key x) (key z) ≡ b → IsGreatest (x ∷ xs) (cond b z x)) [
    | true ↦ λ below. passed x xs z below rest
    | false ↦ λ level. stays x xs z level rest
  ] refl

  tells : (xs : List X) → Tells xs (greatest key xs)
  tells [] = refl
  tells (x ∷ xs) = tells_more x xs (greatest key xs) (tells xs)

  pub greatest-None : (xs : List X) → greatest key xs ≡ None → xs ≡ []
  greatest-None xs e = subst (Tells xs) e (tells xs)

  pub greatest-Some : (xs : List X) (x : X) → greatest key xs ≡ Some x → IsGreatest xs x
  greatest-Some xs x e = subst (Tells xs) e (tells xs)
