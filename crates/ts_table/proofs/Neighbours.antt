-- Lists of versions ascend where neighbours do.
use Rattle.std.proofs.Common.{◌≡◌, zero, suc, ◌+◌, ℤ, List, [], ◌∷◌, length, get_or, subst, arith}
use Rattle.std.specs.declared.cmp.Ordering.{Ordering}
use Rattle.std.specs.declared.cmp.Ordering.TheVariants.{Less}
use Rattle.std.specs.Cmp.{IsTotalOrder}
use Rattle.std.specs.List.{AllAdjacentBelow}
use Rattle.std.specs.List.Sorted.{IsStrictlySortedBy}
use Rattle.std.proofs.lemmas.Cmp.{on_total, then_total}
use Rattle.std.proofs.lemmas.Map.Keys.{sorted_from_all_adjacent}
use Rattle.ts_base.specs.declared.keys.Key.{Key}
use Rattle.ts_base.specs.declared.heads.Version.{Version}
use Rattle.ts_base.specs.Exact.{key_total}
use Rattle.ts_table.specs.Merges.{Order, Climbs, version_cmp, VersionsAscend}

-- each item comes before the next
abbrev Neighbours : {A : Type 0} → (A → A → Ordering) → List A → Type 0
Neighbours R xs = AllAdjacentBelow (λ x y. R x y ≡ Less) xs (length xs)

abbrev coords_of : Version → List ℤ
coords_of v = v.coords

abbrev key_of : Version → Key
key_of v = v.key

-- each item and the next ascend, so all do
sorted_of_neighbours : {A : Type 0} {R : A → A → Ordering} → IsTotalOrder R → (xs : List A) → Neighbours R xs → IsStrictlySortedBy R xs
unfolding IsStrictlySortedBy
sorted_of_neighbours total [] up = tt
sorted_of_neighbours total (x ∷ xs) up = sorted_from_all_adjacent total (x ∷ xs) x (λ k below. up k x below)

-- where all ascend each item and the next do
neighbours_of_sorted : {A : Type 0} (R : A → A → Ordering) (xs : List A) → IsStrictlySortedBy R xs → Neighbours R xs
unfolding IsStrictlySortedBy
neighbours_of_sorted R [] sorted k d below = absurd (omega arith)
neighbours_of_sorted R (x ∷ []) sorted k d below = absurd (omega arith)
neighbours_of_sorted R (x ∷ y ∷ ys) sorted zero d below = sorted.0.0
neighbours_of_sorted R (x ∷ y ∷ ys) sorted (suc k) d below =
    subst (λ n. R (get_or (y ∷ ys) k d) (get_or (x ∷ y ∷ ys) n d) ≡ Less) {x = suc (k + 1)} {y = suc k + 1} (omega arith) (neighbours_of_sorted R (y ∷ ys) sorted.1 k d (omega arith))

-- ---- by cells

climbs_from_sorted : (cmp : Order) (vs : List Version) → IsStrictlySortedBy (λ v w. cmp v.coords w.coords) vs → Climbs cmp vs
unfolding IsStrictlySortedBy
climbs_from_sorted cmp [] sorted = tt
climbs_from_sorted cmp (v ∷ vs) sorted = (sorted.0, climbs_from_sorted cmp vs sorted.1)

sorted_from_climbs : (cmp : Order) (vs : List Version) → Climbs cmp vs → IsStrictlySortedBy (λ v w. cmp v.coords w.coords) vs
unfolding IsStrictlySortedBy
sorted_from_climbs cmp [] climbs = tt
sorted_from_climbs cmp (v ∷ vs) climbs = (climbs.0, sorted_from_climbs cmp vs climbs.1)

pub climbs_of : (cmp : Order) (vs : List Version) → IsTotalOrder cmp → Neighbours (λ (v w : Version). cmp v.coords w.coords) vs → Climbs cmp vs
climbs_of cmp vs total up = climbs_from_sorted cmp vs (sorted_of_neighbours (on_total coords_of total) vs up)

pub neighbours_climb : (cmp : Order) (vs : List Version) → Climbs cmp vs → Neighbours (λ (v w : Version). cmp v.coords w.coords) vs
neighbours_climb cmp vs climbs = neighbours_of_sorted (λ v w. cmp v.coords w.coords) vs (sorted_from_climbs cmp vs climbs)

-- ---- by cells and keys

ascend_from_sorted : (cmp : Order) (vs : List Version) → IsStrictlySortedBy (version_cmp cmp) vs → VersionsAscend cmp vs
unfolding IsStrictlySortedBy
ascend_from_sorted cmp [] sorted = tt
ascend_from_sorted cmp (v ∷ vs) sorted = (sorted.0, ascend_from_sorted cmp vs sorted.1)

sorted_from_ascend : (cmp : Order) (vs : List Version) → VersionsAscend cmp vs → IsStrictlySortedBy (version_cmp cmp) vs
unfolding IsStrictlySortedBy
sorted_from_ascend cmp [] ascend = tt
sorted_from_ascend cmp (v ∷ vs) ascend = (ascend.0, sorted_from_ascend cmp vs ascend.1)

pub ascend_of : (cmp : Order) (vs : List Version) → IsTotalOrder cmp → Neighbours (version_cmp cmp) vs → VersionsAscend cmp vs
ascend_of cmp vs total up = ascend_from_sorted cmp vs (sorted_of_neighbours (then_total (on_total coords_of total) (on_total key_of key_total)) vs up)

pub neighbours_ascend : (cmp : Order) (vs : List Version) → VersionsAscend cmp vs → Neighbours (version_cmp cmp) vs
neighbours_ascend cmp vs ascend = neighbours_of_sorted (version_cmp cmp) vs (sorted_from_ascend cmp vs ascend)
