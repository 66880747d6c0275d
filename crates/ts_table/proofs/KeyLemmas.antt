-- Keys: one key where two tie, and none is both below and above another.
use Rattle.std.proofs.Common.{◌≡◌, true, false, refl, sym, ◌∙◌, ap}
use Rattle.std.specs.declared.cmp.Ordering.{Ordering}
use Rattle.std.specs.declared.cmp.Ordering.TheVariants.{Less, Equal, Greater}
use Rattle.std.specs.Ordering.{is_lt, is_eq, is_gt, ordering_reverse}
use Rattle.std.specs.Cmp.{Equal-is}
use Rattle.std.proofs.lemmas.Cmp.{tied_itself, upto}
use Rattle.std.proofs.lemmas.Bool.{true≢false}
use Rattle.ts_base.specs.declared.keys.Key.{Key}
use Rattle.ts_base.specs.Keys.{key_cmp, key_eq, key_lt}
use Rattle.ts_base.specs.Exact.{key_total, key_exact}

pub key_same : (k l : Key) → key_eq k l ≡ true → k ≡ l
key_same k l tie = key_exact k l ((Equal-is (key_cmp k l)).0 tie)

pub key_itself : (k : Key) → key_eq k k ≡ true
key_itself k = ap is_eq (tied_itself key_total k)

is_lt-reverse : (o : Ordering) → is_lt (ordering_reverse o) ≡ is_gt o
is_lt-reverse Less = refl
is_lt-reverse Equal = refl
is_lt-reverse Greater = refl

is_lt-not_gt : (o : Ordering) → is_lt o ≡ true → is_gt o ≡ false
is_lt-not_gt Less e = refl
is_lt-not_gt Equal e = absurd (true≢false (sym e))
is_lt-not_gt Greater e = absurd (true≢false (sym e))

pub not_below_back : (k l : Key) → key_lt k l ≡ true → key_lt l k ≡ false
not_below_back k l below = ap is_lt (key_total.antisymm l k) ∙ is_lt-reverse (key_cmp k l) ∙ is_lt-not_gt (key_cmp k l) below

-- what is below is Less
less_from : (o : Ordering) → is_lt o ≡ true → o ≡ Less
less_from Less e = refl
less_from Equal e = absurd (true≢false (sym e))
less_from Greater e = absurd (true≢false (sym e))

-- a key is below what is above a key above it
pub below_on : (k l m : Key) → key_lt k l ≡ true → key_lt l m ≡ true → key_lt k m ≡ true
below_on k l m first second = ap is_lt (key_total.trans k l m (less_from (key_cmp k l) first) (less_from (key_cmp l m) second))

-- one key is below another where that one is above it
lt-gt : (k l : Key) → key_lt k l ≡ is_gt (key_cmp l k)
lt-gt k l = ap is_lt (key_total.antisymm k l) ∙ is_lt-reverse (key_cmp l k)

-- a key that is not below a second, which is not below a third, is not below the third
pub not_below_on : (k l m : Key) → key_lt k l ≡ false → key_lt l m ≡ false → key_lt k m ≡ false
not_below_on k l m first second = lt-gt k m ∙ upto key_total m l k (sym (lt-gt l m) ∙ second) (sym (lt-gt k l) ∙ first)
