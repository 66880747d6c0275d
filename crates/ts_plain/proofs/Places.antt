-- The place of a key in a list that ascends.
use Rattle.std.proofs.Common.{◌≡◌, ℕ, zero, suc, ◌+◌, ◌<◌, Bool, true, false, cond, List, [], ◌∷◌, length, get_or, refl, sym, ap, ◌∙◌, arith, inl, inr}
use Rattle.std.proofs.lemmas.Bool.{cases_lt}
use Rattle.std.proofs.lemmas.Map.Keys.{sorted_tail, Less-from_sorted}
use Rattle.std.proofs.lemmas.List.Sorted.{searchable_from_sorted}
use Rattle.std.specs.Cmp.{tied_itself}
use Rattle.std.specs.List.Sorted.{IsStrictlySortedBy, IsNonDecreasingBy, IsPartitionPoint}
use Rattle.std.specs.Ordering.{is_lt, is_eq, ordering_index}
use Rattle.std.specs.declared.cmp.Ordering.TheVariants.{Less, Equal, Greater}
use Rattle.ts_base.specs.declared.keys.Key.{Key}
use Rattle.ts_base.specs.Keys.{key_cmp, key_eq}
use Rattle.ts_base.specs.Exact.{key_total, key_exact}
use Rattle.ts_plain.proofs.KeyLemmas.{key_same, key_itself, not_below_back}
use Rattle.ts_plain.specs.Writes.{place_of, HasPlace}

-- the key at a place has that place
pub place_of-at : (ks : List Key) (i : ℕ) (d : Key) → IsStrictlySortedBy key_cmp ks → i < length ks → place_of ks (get_or ks i d) ≡ i
unfolding place_of
place_of-at [] i d up h = absurd (omega arith)
place_of-at (k ∷ ks) zero d up h = rw (key_itself k) refl
place_of-at (k ∷ ks) (suc i) d up h =
    let apart : key_eq k (get_or ks i d) ≡ false = ap is_eq (Less-from_sorted key_cmp (k ∷ ks) 0 (suc i) d up (omega arith) h) in
    rw apart (ap suc (place_of-at ks i d (sorted_tail key_cmp k ks up) (omega arith)))

-- at the place of a key stands the key
pub at-place_of : (ks : List Key) (key d : Key) → HasPlace ks key → get_or ks (place_of ks key) d ≡ key
unfolding place_of
at-place_of [] key d h = absurd (omega arith)
at-place_of (k ∷ ks) key d h = here (key_eq k key) refl h (at-place_of ks key d)
  where
    here : (b : Bool) → key_eq k key ≡ b → cond b 0 (suc (place_of ks key)) < suc (length ks) → (HasPlace ks key → get_or ks (place_of ks key) d ≡ key)
        → get_or (k ∷ ks) (cond b 0 (suc (place_of ks key))) d ≡ key
    here true e h next = key_same k key e
    here false e h next = next (omega arith)

-- a place that ties with the key is the key's place
pub place_of-tied : (ks : List Key) (key : Key) (place : ℕ) → IsStrictlySortedBy key_cmp ks → place < length ks → key_cmp (get_or ks place key) key ≡ Equal → place ≡ place_of ks key
place_of-tied ks key place up h tie = sym (ap (place_of ks) (sym (key_exact (get_or ks place key) key tie)) ∙ place_of-at ks place key up h)

-- keys that ascend can be searched
pub keys_searchable : (ks : List Key) (key : Key) → IsStrictlySortedBy key_cmp ks → IsNonDecreasingBy (λ k. ordering_index (key_cmp k key)) ks
keys_searchable ks key up = searchable_from_sorted key_total (λ k. k) ks key (λ i d low high.
    let here : i < i + 1 = omega arith in
    not_below_back (get_or ks i d) (get_or ks (i + 1) d) (ap is_lt (Less-from_sorted key_cmp ks i (i + 1) d up here high)))

-- a key that has a place is not missed
pub not_missed : (ks : List Key) (key : Key) (i : ℕ) → HasPlace ks key → IsPartitionPoint (λ k. key_cmp k key ≡ Less) (λ k. key_cmp k key ≡ Greater) ks i → ⊥
not_missed ks key i has point =
    let place = place_of ks key in
    let tie : key_cmp (get_or ks place key) key ≡ Equal = ap (λ k. key_cmp k key) (at-place_of ks key key has) ∙ tied_itself key_total key in
    elim (cases_lt place i) [
      | inl below ↦ let less = point.0 place key (omega arith) below in absurd (cc)
      | inr above ↦ let greater = point.1 place key above has in absurd (cc)
    ]
