-- The names that a read shows, and the places that it uses, one item after the other.
use Rattle.std.proofs.Common.{◌≡◌, ℕ, ◌+◌, zero, suc, Bool, true, false, ◌||◌, cond, List, [], ◌∷◌, ◌++◌, drop, Option, Some, None, refl, ap, ◌∙◌, arith}
use Rattle.std.specs.Prelude.{slice_get}
use Rattle.std.specs.List.{cons_option}
use Rattle.std.specs.Option.{option_map_or}
use Rattle.ts_schema.specs.declared.attrs.Attr.{Attr}
use Rattle.ts_schema.specs.Attrs.{has_label, same_name}
use Rattle.ts_model.specs.declared.states.Reading.{Reading}
use Rattle.ts_model.specs.Queries.{items_at}
use Rattle.ts_model.specs.Used.{places_used, uses_name}

-- a name is shown from a field on where that field has it, or one behind it
pub shown_on : (names : List (List ℕ)) (name : List ℕ) (fields : List ℕ) (i place : ℕ) → slice_get fields i ≡ Some place
    → has_label (items_at (drop i fields) names) name ≡ (option_map_or (λ other. same_name other name) (slice_get names place) false || has_label (items_at (drop (i + 1) fields) names) name)
shown_on names name [] i place at = absurd (cc)
shown_on names name (p ∷ fields) zero place at =
    let one : p ≡ place = cc in
    by_name (slice_get names p) ∙ ap (λ q. option_map_or (λ other. same_name other name) (slice_get names q) false || has_label (items_at fields names) name) one
  where
    by_name : (o : Option (List ℕ)) → has_label (cons_option o (items_at fields names)) name ≡ (option_map_or (λ other. same_name other name) o false || has_label (items_at fields names) name)
    by_name None = refl
    by_name (Some other) = refl
shown_on names name (p ∷ fields) (suc i) place at = let next : suc i + 1 ≡ suc (i + 1) = omega arith in rw next (shown_on names name fields i place at)

-- the places that are used from an attribute on are its own, where it is used, and those behind it
pub places_on : (r : Reading) (attrs : List Attr) (i : ℕ) (a : Attr) → slice_get attrs i ≡ Some a → (k : ℕ) → places_used r k (drop i attrs) ≡ cond (uses_name r a.name) (k ∷ []) [] ++ places_used r (suc k) (drop (i + 1) attrs)
places_on r [] i a at k = absurd (cc)
places_on r (b ∷ attrs) zero a at k =
    let one : b ≡ a = cc in
    by_use (uses_name r b.name) ∙ ap (λ (x : Attr). cond (uses_name r x.name) (k ∷ []) [] ++ places_used r (suc k) attrs) one
  where
    by_use : (u : Bool) → cond u (k ∷ places_used r (suc k) attrs) (places_used r (suc k) attrs) ≡ cond u (k ∷ []) [] ++ places_used r (suc k) attrs
    by_use true = refl
    by_use false = refl
places_on r (b ∷ attrs) (suc i) a at k = let next : suc i + 1 ≡ suc (i + 1) = omega arith in rw next (places_on r attrs i a at k)
