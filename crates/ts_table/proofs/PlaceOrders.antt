-- What stands for the places of a list, brought into its order.
use Rattle.std.proofs.Common.{◌≡◌, ℕ, ◌+◌, ◌<◌, List, [], ◌∷◌, map, length, get_or, Result, IfOk, refl, sym, ap, subst, ◌∙◌, arith}
use Rattle.std.specs.List.{All, range_with_len}
use Rattle.std.specs.List.Sorted.{IsPermutation, IsSorted}
use Rattle.std.specs.Ordering.{is_lt}
use Rattle.std.specs.declared.cmp.Ordering.{Ordering}
use Rattle.std.proofs.lemmas.List.{get_or-map, length-map}
use Rattle.std.proofs.lemmas.List.FromFn.{length-range_with_len, get_or-map-range_with_len}
use Rattle.std.proofs.lemmas.List.Sorted.{IsPermutation-map, All-permutation}
use Rattle.std.proofs.lemmas.Result.{IfOk-weaker}
use Rattle.ts_base.specs.declared.heads.Version.{Version}
use Rattle.ts_table.specs.Merges.{Order}
use Rattle.ts_table.specs.Ordered.{place_cmp, AreOrdered}

-- each place of the list has a thing that knows its place, and two things stand as their places do
module _ {A : Type 0} (thing_cmp : A → A → Ordering) (at : ℕ → A) (place_of : A → ℕ) (none : A) (cmp : Order) (vs : List Version)
    (known : (i : ℕ) → place_of (at i) ≡ i)
    (agree : (i j : ℕ) → i < length vs → j < length vs → thing_cmp (at i) (at j) ≡ place_cmp cmp vs i j)
  where
    places_back : (places : List ℕ) → map place_of (map at places) ≡ places
    places_back [] = refl
    places_back (p ∷ places) =
        let here = known p in
        let rest = places_back places in
        λ i. here i ∷ rest i

    -- a thing is that of its place
    abbrev IsItsOwn : A → Type 0
    IsItsOwn s = (s ≡ at (place_of s)) × (place_of s < length vs)

    own_all : All IsItsOwn (map at (range_with_len 0 (length vs)))
    own_all k d within =
        let few : k < length vs = omega (arith, within, length-map (range_with_len 0 (length vs)) at, length-range_with_len 0 (length vs)) in
        let here : get_or (map at (range_with_len 0 (length vs))) k d ≡ at k = get_or-map-range_with_len at 0 (length vs) k k d few (omega arith) in
        let place : place_of (at k) < length vs = rw (known k) few in
        rw here (ap at (sym (known k)), place)

    pub ordered_from : (things : List A) → IsPermutation (map at (range_with_len 0 (length vs))) things → IsSorted thing_cmp things → AreOrdered cmp vs (map place_of things)
    ordered_from things moved sorted = record {
      each = rw (places_back (range_with_len 0 (length vs))) at (IsPermutation-map place_of (map at (range_with_len 0 (length vs))) things moved);
      sorted = λ k d low high.
          let own = All-permutation IsItsOwn (map at (range_with_len 0 (length vs))) things moved own_all in
          let next : k + 1 < length things = omega (arith, high, length-map things place_of) in
          let first = own k none (omega (arith, next)) in
          let second = own (k + 1) none next in
          let i : get_or (map place_of things) k d ≡ place_of (get_or things k none) = get_or-map place_of things k none d (omega (arith, next)) in
          let j : get_or (map place_of things) (k + 1) d ≡ place_of (get_or things (k + 1) none) = get_or-map place_of things (k + 1) none d next in
          let by : thing_cmp (get_or things (k + 1) none) (get_or things k none) ≡ place_cmp cmp vs (place_of (get_or things (k + 1) none)) (place_of (get_or things k none)) =
          (λ n. thing_cmp (second.0 n) (first.0 n)) ∙ agree (place_of (get_or things (k + 1) none)) (place_of (get_or things k none)) second.1 first.1 in
          rw (i, j) (ap is_lt (sym by) ∙ sorted k none low next);
    }

-- an answer that is the list of these places is in order where they are
pub answered : {E : Type 0} (cmp : Order) (vs : List Version) (places : List ℕ) (result : Result (List ℕ) E) → AreOrdered cmp vs places → IfOk result (λ list. list ≡ places) → IfOk result (AreOrdered cmp vs)
answered cmp vs places result law is = IfOk-weaker result (λ list. list ≡ places) (AreOrdered cmp vs) (λ list same. subst (AreOrdered cmp vs) (sym same) law) is
