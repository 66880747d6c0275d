-- Schemas whose keys rise: what a search finds among them, and what one more of them keeps.
use Rattle.std.proofs.Common.{◌≡◌, ℕ, ◌<◌, ◌≤◌, suc, zero, Bool, true, false, List, [], ◌∷◌, ◌++◌, Some, None, Result, Ok, Err, length, take, get_or, map, nat_lt, refl, sym, ap, subst, ◌∙◌, arith, IfOk}
use Rattle.std.specs.Prelude.{find, slice_get, IsErr}
use Rattle.std.specs.declared.cmp.Ordering.{Ordering}
use Rattle.std.specs.declared.cmp.Ordering.TheVariants.{Less, Equal, Greater}
use Rattle.std.specs.List.{AllByRecursion}
use Rattle.std.specs.List.Sorted.{IsStrictlySortedBy, IsSearchInRange, IsBinarySearchResult, IsNonDecreasingBy}
use Rattle.std.specs.Ordering.{is_lt, is_eq, ordering_index}
use Rattle.std.proofs.lemmas.Bool.{true≢false, cond-true, cond-false}
use Rattle.std.proofs.lemmas.Bool.Decides.{nat_tests}
use Rattle.std.proofs.lemmas.List.{map-append, length_push}
use Rattle.ts_base.specs.declared.keys.Key.{Key}
use Rattle.ts_base.specs.Keys.{key_cmp, key_eq, key_lt}
use Rattle.ts_base.specs.Exact.{key_exact}
use Rattle.ts_schema.specs.declared.schemas.Schema.{Schema}
use Rattle.ts_model.proofs.KeyLemmas.{not_below_back, not_below_on}
use Rattle.ts_model.proofs.ListLemmas.{take_next}
use Rattle.ts_actor.specs.Known.{AreRising, AreFirst}

-- ---- comparisons with one key

module _ (k : Key) where
  -- what is not below the key has nothing above it that is
  over : (a b : Key) → key_cmp a b ≡ Less → key_lt a k ≡ false → key_cmp b k ≡ Less → ⊥
  over a b below level less = true≢false (sym (ap is_lt less) ∙ not_below_on b a k (not_below_back a b (ap is_lt below)) level)

  -- the greater of two keys compares no lower
  mono : (a b : Key) → key_cmp a b ≡ Less → ordering_index (key_cmp a k) ≤ ordering_index (key_cmp b k)
  mono a b below = by (key_cmp a k) (key_cmp b k) refl refl
    where
      by : (u v : Ordering) → key_cmp a k ≡ u → key_cmp b k ≡ v → ordering_index u ≤ ordering_index v
      by Less v e f = omega arith
      by Equal Less e f = absurd (over a b below (ap is_lt e) f)
      by Equal Equal e f = omega arith
      by Equal Greater e f = omega arith
      by Greater Less e f = absurd (over a b below (ap is_lt e) f)
      by Greater Equal e f =
          let less : Greater ≡ Less = sym e ∙ ap (key_cmp a) (sym (key_exact b k f)) ∙ below in
          let apart : 2 ≡ 0 = ap ordering_index less in
          absurd (omega (arith, apart))
      by Greater Greater e f = omega arith

  -- a key is below each later one
  below_later : (first : Key) (xs : List Schema) (j : ℕ) (d : Schema) → AllByRecursion (λ l. key_cmp first l ≡ Less) (map (λ s. s.key) xs) → j < length xs → key_cmp first (get_or xs j d).key ≡ Less
  below_later first [] j d below within = absurd (omega (arith, within))
  below_later first (x ∷ xs) zero d below within = below.0
  below_later first (x ∷ xs) (suc j) d below within = below_later first xs j d below.1 (omega (arith, within))

  comparisons_rise : (xs : List Schema) → AreRising xs → IsNonDecreasingBy (λ s. ordering_index (key_cmp s.key k)) xs
  unfolding IsStrictlySortedBy
  comparisons_rise [] rise i j d before within = absurd (omega (arith, within))
  comparisons_rise (x ∷ xs) rise zero zero d before within = omega arith
  comparisons_rise (x ∷ xs) rise zero (suc j) d before within = mono x.key (get_or xs j d).key (below_later x.key xs j d rise.0 (omega (arith, within)))
  comparisons_rise (x ∷ xs) rise (suc i) zero d before within = absurd (omega (arith, before))
  comparisons_rise (x ∷ xs) rise (suc i) (suc j) d before within = comparisons_rise xs rise.1 i j d (omega (arith, before)) (omega (arith, within))

  find_at : (xs : List Schema) → AreRising xs → (i : ℕ) (d : Schema) → i < length xs → key_cmp (get_or xs i d).key k ≡ Equal → find (λ s. key_eq s.key k) xs ≡ Some (get_or xs i d)
  unfolding IsStrictlySortedBy
  find_at [] rise i d within tie = absurd (omega (arith, within))
  find_at (x ∷ xs) rise zero d within tie = cond-true (key_eq x.key k) _ _ (ap is_eq tie)
  find_at (x ∷ xs) rise (suc i) d within tie =
      let less : key_cmp x.key k ≡ Less = subst (λ l. key_cmp x.key l ≡ Less) (key_exact (get_or xs i d).key k tie) (below_later x.key xs i d rise.0 (omega (arith, within))) in
      cond-false (key_eq x.key k) _ _ (ap is_eq less) ∙ find_at xs rise.1 i d (omega (arith, within)) tie

  find_nowhere : (xs : List Schema) → ((j : ℕ) (d : Schema) → j < length xs → key_eq (get_or xs j d).key k ≡ false) → find (λ s. key_eq s.key k) xs ≡ None
  find_nowhere [] apart = refl
  find_nowhere (x ∷ xs) apart = cond-false (key_eq x.key k) _ _ (apart 0 x (omega arith)) ∙ find_nowhere xs (λ j d within. apart (suc j) d (omega (arith, within)))

  -- what a binary search by key found
  pub searched : (xs : List Schema) → AreRising xs → (r : Result ℕ ℕ) → IsSearchInRange r (length xs) → IsBinarySearchResult (λ s. key_cmp s.key k) xs r
      → record {
        bound : IfOk r (λ i. i < length xs);
        found : IfOk r (λ i. (d : Schema) → find (λ s. key_eq s.key k) xs ≡ Some (get_or xs i d));
        absent : IsErr r → find (λ s. key_eq s.key k) xs ≡ None;
      }
  searched xs rise (Ok i) within tie = record { bound = within; found = λ d. find_at xs rise i d within (tie d); absent = λ none. absurd (true≢false (sym none)) }
  searched xs rise (Err i) within parted = record {
    bound = tt;
    found = tt;
    absent = λ none. find_nowhere xs (λ j d inside. apart j d inside (nat_lt j i) refl);
  }
    where
      apart : (j : ℕ) (d : Schema) → j < length xs → (b : Bool) → nat_lt j i ≡ b → key_eq (get_or xs j d).key k ≡ false
      apart j d inside true before = ap is_eq ((parted (comparisons_rise xs rise)).0 j d (omega arith) (grind (arith, nat_tests)))
      apart j d inside false before = ap is_eq ((parted (comparisons_rise xs rise)).1 j d (grind (arith, nat_tests)) inside)

-- ---- the schemas of the first keys

-- the schema of the next key comes behind them
pub next_first : (keys : List Key) (schemas : List Schema) (s : Schema) → AreFirst keys schemas → slice_get keys (length schemas) ≡ Some s.key → AreFirst keys (schemas ++ s ∷ [])
next_first keys schemas s are at = record {
  rise = are.rise;
  first =
      map-append (λ x. x.key) schemas (s ∷ [])
      ∙ ap (λ ks. ks ++ s.key ∷ []) are.first
      ∙ sym (take_next keys (length schemas) s.key at)
      ∙ ap (λ n. take n keys) (sym (length_push schemas s));
}
