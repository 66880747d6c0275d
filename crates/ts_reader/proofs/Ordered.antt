-- Versions in row order: to bring them there leaves their newest ones as they are, and those that ascend are their own newest ones.
use Rattle.std.proofs.Common.{◌≡◌, ℕ, suc, ℤ, Bool, true, false, not, ◌&&◌, cond, List, [], ◌∷◌, Some, map, int_cmp, refl, sym, ap, subst, ◌∙◌, arith, Ordering, Less, Equal, Greater}
use Rattle.std.specs.Prelude.{filter, slice_get}
use Rattle.std.specs.Cmp.Lexicographic.{slice_cmp}
use Rattle.std.specs.FinMap as finite
use Rattle.std.specs.List.{AllByRecursion}
use Rattle.std.specs.List.Sorted.{IsStableByKey, IsStrictlySortedBy, ties}
use Rattle.std.specs.Map.{keys_of}
use Rattle.std.specs.Ordering.{eq_by_cmp, is_eq, is_lt, ordering_reverse}
use Rattle.ts_base.specs.declared.heads.Version.{Version}
use Rattle.ts_base.specs.Coords.{coords_eq}
use Rattle.ts_base.specs.Keys.{greatest}
use Rattle.ts_domain.specs.declared.orders.Order.TheVariants.{Row}
use Rattle.ts_domain.specs.declared.boxes.SubBox.{SubBox}
use Rattle.ts_domain.specs.Boxes.{IsBox, coords_of_box}
use Rattle.ts_order.specs.Orders.{Ascends}
use Rattle.ts_order.proofs.OrderedCoords.{Ascends-coords_in_order}
use Rattle.ts_store.proofs.Trees.{entries-tree}
use Rattle.ts_model.specs.Pieces.{newest_of}
use Rattle.ts_reader.proofs.BoxSlots.{in_row_order}
use Rattle.ts_model.proofs.Newest.{coords_total, coords_exact, coords_same, coords_tie, get_newest_of}

-- ---- in a stable order

-- neither is less where they tie
neither_less : (r s : Ordering) → s ≡ ordering_reverse r → (not (is_lt r) && not (is_lt s)) ≡ is_eq r
neither_less Less s turned = refl
neither_less Equal s turned = rw turned refl
neither_less Greater s turned = rw turned refl

-- a version of these coordinates
abbrev standing : List ℤ → Version
standing c = record { key = record { t = 0; id = 0 }; schema = record { t = 0; id = 0 }; coords = c; row = [] }

-- the versions of a cell are those that tie with one of it
one_test : (c : List ℤ) → ◌≡◌ {A = Version → Bool} (λ v. coords_eq v.coords c) (ties (λ (x y : Version). is_lt (slice_cmp int_cmp x.coords y.coords)) (standing c))
one_test c = λ i v. (sym (coords_tie c v.coords) ∙ sym (neither_less (slice_cmp int_cmp c v.coords) (slice_cmp int_cmp v.coords c) (coords_total.antisymm v.coords c))) i

-- versions that were sorted, those of one cell in their own order, have the same newest ones
pub newest_of_sorted : (vs ws : List Version) → IsStableByKey (λ (v : Version). v.coords) (slice_cmp int_cmp) vs ws → newest_of ws ≡ newest_of vs
newest_of_sorted vs ws stable = finite.same_map coords_total coords_exact (newest_of ws) (newest_of vs) (λ c.
    get_newest_of ws c
    ∙ ap (λ (p : Version → Bool). greatest (λ v. v.key) (filter p ws)) (one_test c) ∙ ap (greatest (λ v. v.key)) (stable (standing c)) ∙ sym (ap (λ (p : Version → Bool). greatest (λ v. v.key) (filter p vs)) (one_test c))
    ∙ sym (get_newest_of vs c))

-- ---- that ascend

-- a version by its coordinates
abbrev entry : Version → List ℤ × Version
entry v = (v.coords, v)

-- no version of a cell stands behind one whose coordinates are below those of all behind it
pub none_behind : (v : Version) (c : List ℤ) → v.coords ≡ c → (vs : List Version) → AllByRecursion (λ (w : Version). slice_cmp int_cmp v.coords w.coords ≡ Less) vs → filter (λ w. coords_eq w.coords c) vs ≡ []
none_behind v c same [] below = refl
none_behind v c same (w ∷ vs) below =
    let other : coords_eq w.coords c ≡ false = sym (coords_tie c w.coords) ∙ ap (λ d. is_eq (slice_cmp int_cmp d w.coords)) (sym same) ∙ ap is_eq below.0 in
    rw other (none_behind v c same vs below.1)

-- the newest version of a cell is the one that stands there
one_there : (vs : List Version) → IsStrictlySortedBy (λ (a b : Version). slice_cmp int_cmp a.coords b.coords) vs → (c : List ℤ) → greatest (λ v. v.key) (filter (λ v. coords_eq v.coords c) vs) ≡ finite.find (slice_cmp int_cmp) c (map entry vs)
unfolding IsStrictlySortedBy
one_there [] sorted c = refl
one_there (v ∷ vs) sorted c = by_test (coords_eq v.coords c) refl (one_there vs sorted.1 c)
  where
    by_test : (b : Bool) → coords_eq v.coords c ≡ b → greatest (λ w. w.key) (filter (λ w. coords_eq w.coords c) vs) ≡ finite.find (slice_cmp int_cmp) c (map entry vs)
        → greatest (λ w. w.key) (cond b (v ∷ filter (λ w. coords_eq w.coords c) vs) (filter (λ w. coords_eq w.coords c) vs)) ≡ cond (eq_by_cmp (slice_cmp int_cmp) c v.coords) (Some v) (finite.find (slice_cmp int_cmp) c (map entry vs))
    by_test true same behind = rw (coords_tie c v.coords, same) (ap (λ ws. greatest (λ (w : Version). w.key) (v ∷ ws)) (none_behind v c (coords_same v.coords c same) vs sorted.0))
    by_test false other behind = rw (coords_tie c v.coords, other) behind

all_keys : (P : List ℤ → Type 0) (vs : List Version) → AllByRecursion (λ (v : Version). P v.coords) vs → AllByRecursion P (keys_of (map entry vs))
all_keys P [] all = tt
all_keys P (v ∷ vs) all = (all.0, all_keys P vs all.1)

keys_ascend : (vs : List Version) → IsStrictlySortedBy (λ (a b : Version). slice_cmp int_cmp a.coords b.coords) vs → IsStrictlySortedBy (slice_cmp int_cmp) (keys_of (map entry vs))
unfolding IsStrictlySortedBy
keys_ascend [] sorted = tt
keys_ascend (v ∷ vs) sorted = (all_keys (λ c. slice_cmp int_cmp v.coords c ≡ Less) vs sorted.0, keys_ascend vs sorted.1)

versions_back : (vs : List Version) → map (λ (e : List ℤ × Version). e.1) (map entry vs) ≡ vs
versions_back [] = refl
versions_back (v ∷ vs) = ap (λ ws. v ∷ ws) (versions_back vs)

-- versions that ascend are the newest ones of their cells, in row order
pub newest_of_ascending : (vs : List Version) → IsStrictlySortedBy (λ (a b : Version). slice_cmp int_cmp a.coords b.coords) vs → finite.values (newest_of vs) ≡ vs
newest_of_ascending vs sorted =
    ap finite.values (finite.same_map coords_total coords_exact (newest_of vs) (finite.from_entries (map entry vs)) (λ c. get_newest_of vs c ∙ one_there vs sorted c ∙ sym (finite.get-from_entries coords_total (map entry vs) c)))
    ∙ ap (map (λ e. e.1)) (entries-tree coords_total (map entry vs) (keys_ascend vs sorted)) ∙ versions_back vs

-- ---- of a box

all_at : (P : List ℤ → Type 0) (cs : List (List ℤ)) → ((place : ℕ) (c : List ℤ) → slice_get cs place ≡ Some c → P c) → AllByRecursion P cs
all_at P [] each = tt
all_at P (c ∷ cs) each = (each 0 c refl, all_at P cs (λ place d at. each (suc place) d at))

sorted_from_ascends : (cs : List (List ℤ)) → Ascends (slice_cmp int_cmp) cs → IsStrictlySortedBy (slice_cmp int_cmp) cs
unfolding IsStrictlySortedBy
sorted_from_ascends [] ascends = tt
sorted_from_ascends (c ∷ cs) ascends = (
  all_at (λ d. slice_cmp int_cmp c d ≡ Less) cs (λ place d at. ascends 0 (suc place) c d (omega arith) refl at),
  sorted_from_ascends cs (λ i j d e later at_i at_j. ascends (suc i) (suc j) d e (omega arith) at_i at_j),
)

-- the coordinates of a box ascend
pub box_rises : (sub : SubBox) → IsBox sub → IsStrictlySortedBy (slice_cmp int_cmp) (coords_of_box sub)
box_rises sub valid = sorted_from_ascends (coords_of_box sub) (subst (Ascends (slice_cmp int_cmp)) (in_row_order sub) (Ascends-coords_in_order Row sub valid))
