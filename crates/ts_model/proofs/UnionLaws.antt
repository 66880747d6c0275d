-- What a consolidation of a sparse array keeps: all versions in order, each found as before.
use Rattle.std.proofs.Common.{◌≡◌, ℤ, Bool, true, false, cond, ◌&&◌, List, [], ◌∷◌, Some, None, int_cmp, refl, sym, ◌∙◌, ap, subst}
use Rattle.std.specs.Prelude.{map as list_map, reverse, T}
use Rattle.std.specs.Cmp.{IsTotalOrder, both_ways}
use Rattle.std.specs.Cmp.Lexicographic.{slice_cmp}
use Rattle.std.specs.Ordering.{ordering_then, eq_by_cmp, is_lt, is_eq}
use Rattle.std.specs.FinMap.{IsAntisymmetric, int_cmp-IsAntisymmetric, slice_cmp-IsAntisymmetric}
use Rattle.std.specs.FinMap as map
use Rattle.std.specs.declared.cmp.Ordering.{Ordering}
use Rattle.std.specs.declared.cmp.Ordering.TheVariants.{Less, Equal, Greater}
use Rattle.std.specs.List.{AllByRecursion}
use Rattle.std.proofs.lemmas.Bool.{and_parts, and_from, and_right}
use Rattle.std.proofs.lemmas.List.{reverse-reverse}
use Rattle.std.specs.FinMap.Entries.{by_order, below_all}
use Rattle.std.proofs.lemmas.List.{nil_from_length}
use Rattle.ts_base.specs.declared.keys.Key.{Key}
use Rattle.ts_base.specs.declared.heads.Version.{Version}
use Rattle.ts_base.specs.Keys.{key_eq, key_cmp}
use Rattle.ts_base.specs.Coords.{coords_eq}
use Rattle.ts_base.specs.Exact.{key_exact}
use Rattle.ts_domain.specs.declared.orders.Order.{Order}
use Rattle.ts_domain.specs.declared.orders.Order.TheVariants as order
use Rattle.ts_order.specs.Orders.{turned}
use Rattle.ts_schema.specs.declared.frames.Frame.{Frame}
use Rattle.ts_model.specs.Pieces.{version_at, newest_of}
use Rattle.ts_model.specs.Places.{place_cmp}
use Rattle.ts_model.proofs.KeyLemmas.{same_from_tie, tie_itself, key_same, key_itself}
use Rattle.ts_model.proofs.Newest.{coords_same, coords_itself, coords_tie, OwnCoords, own_newest, get_newest_of}
use Rattle.ts_model.specs.Merging.{with_key, left_of, version_place_cmp, version_place, placed_of, in_version_order, merged_versions}
use Rattle.ts_model.specs.declared.merging.VersionPlace.{VersionPlace}
use Rattle.ts_model.specs.contracts.merging.VersionPlaceOrd.TheImpl.Laws as laws

-- ---- the order of places

-- two comparisons, one after the other, tie where both do
both_tie : (first second : Ordering) → ordering_then first second ≡ Equal → (first ≡ Equal) × (second ≡ Equal)
both_tie Less second tie = cc
both_tie Equal second tie = (refl, tie)
both_tie Greater second tie = cc

pub place_exact : IsAntisymmetric place_cmp
place_exact p q tie =
    let ties = both_tie (slice_cmp int_cmp p.tile q.tile) (slice_cmp int_cmp p.cell q.cell) tie in
    let lists : IsAntisymmetric (slice_cmp int_cmp) = slice_cmp-IsAntisymmetric int_cmp-IsAntisymmetric in
    λ i. record { tile = lists p.tile q.tile ties.0 i; cell = lists p.cell q.cell ties.1 i }

pub version_total : IsTotalOrder version_place_cmp
version_total = laws.total-law

pub version_exact : IsAntisymmetric version_place_cmp
version_exact p q tie =
    let ties = both_tie (place_cmp p.place q.place) (key_cmp p.key q.key) tie in
    λ i. record { place = place_exact p.place q.place ties.0 i; key = key_exact p.key q.key ties.1 i }

-- coordinates that are turned alike are the same
pub turned_once : (o : Order) (c d : List ℤ) → turned o c ≡ turned o d → c ≡ d
turned_once order.Row c d same = same
turned_once order.Col c d same = sym (reverse-reverse c) ∙ ap reverse same ∙ reverse-reverse d

-- a version has the place of a key and coordinates where it is theirs
place_is : (frame : Frame) (c : List ℤ) (k : Key) (v : Version) → eq_by_cmp version_place_cmp (version_place frame c k) (version_place frame v.coords v.key) ≡ (key_eq v.key k && coords_eq v.coords c)
place_is frame c k v = both_ways (eq_by_cmp version_place_cmp (version_place frame c k) (version_place frame v.coords v.key)) (key_eq v.key k && coords_eq v.coords c)
    (λ tie.
    let same = same_from_tie version_total version_exact (version_place frame c k) (version_place frame v.coords v.key) tie in
    let cells = turned_once frame.cell c v.coords (ap (λ (p : VersionPlace). p.place.cell) same) in
    and_from (key_eq v.key k) (coords_eq v.coords c) (ap (λ (p : VersionPlace). key_eq v.key p.key) same ∙ key_itself v.key) (ap (coords_eq v.coords) cells ∙ coords_itself v.coords))
    (λ is.
    let parts = and_parts (key_eq v.key k) (coords_eq v.coords c) is in
    let cells = coords_same v.coords c parts.1 in
    let keys = key_same v.key k parts.0 in
    ap (eq_by_cmp version_place_cmp (version_place frame c k)) (λ i. version_place frame (cells i) (keys i)) ∙ tie_itself version_total version_exact (version_place frame c k))

-- ---- maps

-- what holds of each entry and of a new one holds of each when that is put in its place
pub put_all : {K X : Type 0} {R : K → K → Ordering} → IsAntisymmetric R → (Q : K × X → Type 0) (k : K) (v : X) (es : List (K × X)) → AllByRecursion Q es → Q (k, v) → AllByRecursion Q (map.put R k v es)
put_all exact Q k v [] all new = (new, tt)
put_all {R = R} exact Q k v (e ∷ es) all new =
    elim (R k e.0) as (λ o. R k e.0 ≡ o → AllByRecursion Q (by_order o ((k, v) ∷ e ∷ es) ((e.0, v) ∷ es) (e ∷ map.put R k v es))) [
      | Less ↦ λ p. (new, all)
      | Equal ↦ λ p. (subst (λ x. Q (x, v)) (exact k e.0 p) new, all.1)
      | Greater ↦ λ p. (all.0, put_all exact Q k v es all.1 new)
    ] refl

-- the map of nothing has no entry
pub entries_empty : {K X : Type 0} (R : K → K → Ordering) → map.entries (map.empty {X = X} {R = R}) ≡ []
entries_empty {X = X} R = nil_from_length (map.entries (map.empty {R = R})) (sym (map.len-entries (map.empty {R = R})) ∙ map.len-empty R X)

-- what holds of each entry of a list holds of each entry of its map
pub entries_all : {K X : Type 0} {R : K → K → Ordering} → IsTotalOrder R → IsAntisymmetric R → (Q : K × X → Type 0) (es : List (K × X)) → AllByRecursion Q es
    → AllByRecursion Q (map.entries (map.from_entries {R = R} es))
entries_all {R = R} total exact Q [] all = subst (AllByRecursion Q) (sym (entries_empty R)) tt
entries_all {R = R} total exact Q (e ∷ es) all =
    subst (AllByRecursion Q) (sym (map.entries-insert total (map.from_entries {R = R} es) e.0 e.1)) (put_all exact Q e.0 e.1 (map.entries (map.from_entries {R = R} es)) (entries_all total exact Q es all.1) all.0)

-- ---- what is found

-- a version behind its place
abbrev pub Entry : Type 0
Entry = VersionPlace × Version

abbrev pub IsNamed : Frame → Entry → Type 0
IsNamed frame e = e.0 ≡ version_place frame e.1.coords e.1.key

module _ (frame : Frame) where
  -- the versions of entries
  abbrev pub versions_of : List Entry → List Version
  versions_of es = list_map (λ e. e.1) es

  abbrev pub entries_in : List Version → List Entry
  entries_in vs = list_map (λ v. (version_place frame v.coords v.key, v)) vs

  pub named : (vs : List Version) → AllByRecursion (IsNamed frame) (entries_in vs)
  named [] = tt
  named (v ∷ vs) = (refl, named vs)

  pub back : (vs : List Version) → versions_of (entries_in vs) ≡ vs
  back [] = refl
  back (v ∷ vs) = ap (λ l. v ∷ l) (back vs)

  -- a version is found among entries by its place
  pub found : (k : Key) (c : List ℤ) (es : List Entry) → AllByRecursion (IsNamed frame) es → version_at (versions_of es) k c ≡ map.find version_place_cmp (version_place frame c k) es
  found k c [] are = refl
  found k c (e ∷ es) are =
      let test : eq_by_cmp version_place_cmp (version_place frame c k) e.0 ≡ (key_eq (e.1).key k && coords_eq (e.1).coords c) = ap (eq_by_cmp version_place_cmp (version_place frame c k)) are.0 ∙ place_is frame c k e.1 in
      ap (λ o. cond (key_eq (e.1).key k && coords_eq (e.1).coords c) (Some e.1) o) (found k c es are.1) ∙ ap (λ b. cond b (Some e.1) (map.find version_place_cmp (version_place frame c k) es)) (sym test)

  -- in order each version is found as before
  pub version_at-in_order : (vs : List Version) (k : Key) (c : List ℤ) → version_at (in_version_order frame vs) k c ≡ version_at vs k c
  unfolding placed_of
  version_at-in_order vs k c =
      found k c (map.entries (map.from_entries {R = version_place_cmp} (entries_in vs))) (entries_all version_total version_exact (IsNamed frame) (entries_in vs) (named vs))
      ∙ sym (map.get-entries (map.from_entries {R = version_place_cmp} (entries_in vs)) (version_place frame c k)) ∙ map.get-from_entries version_total (entries_in vs) (version_place frame c k)
      ∙ sym (found k c (entries_in vs) (named vs)) ∙ ap (λ l. version_at l k c) (back vs)

-- ---- the newest versions

-- of two tests that pass together each passes
pub parts_of : (a b : Bool) → T (a && b) → T a × T b
parts_of true b h = (tt, h)
parts_of false b h = absurd h

-- what is below is Less
pub less_of : (o : Ordering) → T (is_lt o) → o ≡ Less
less_of Less h = refl
less_of Equal h = absurd h
less_of Greater h = absurd h

-- coordinates that are below others are not the same
pub below_apart : (c d : List ℤ) → slice_cmp int_cmp c d ≡ Less → coords_eq d c ≡ false
below_apart c d less = sym (coords_tie c d) ∙ ap is_eq less

-- no version of a cell stands behind it
none_behind : (k : Key) (c : List ℤ) (es : List (List ℤ × Version)) → OwnCoords es → T (below_all (slice_cmp int_cmp) c es) → version_at (list_map (λ e. e.1) es) k c ≡ None
none_behind k c [] own below = refl
none_behind k c (e ∷ es) own below =
    let parts = parts_of (is_lt (slice_cmp int_cmp c e.0)) (below_all (slice_cmp int_cmp) c es) below in
    let apart : coords_eq (e.1).coords c ≡ false = ap (λ x. coords_eq x c) own.0 ∙ below_apart c e.0 (less_of (slice_cmp int_cmp c e.0) parts.0) in
    ap (λ b. cond b (Some e.1) (version_at (list_map (λ x. x.1) es) k c)) (and_right (key_eq (e.1).key k) (coords_eq (e.1).coords c) apart) ∙ none_behind k c es own.1 parts.1

-- the version of a key and a cell is the one of the cell, if it has the key
find_own : (k : Key) (c : List ℤ) (es : List (List ℤ × Version)) → OwnCoords es → T (map.is_sorted (slice_cmp int_cmp) es) → version_at (list_map (λ e. e.1) es) k c ≡ with_key k (map.find (slice_cmp int_cmp) c es)
find_own k c [] own sorted = refl
find_own k c (e ∷ es) own sorted = by (coords_eq (e.1).coords c) refl (find_own k c es own.1 parts.1)
  where
    parts : T (below_all (slice_cmp int_cmp) e.0 es) × T (map.is_sorted (slice_cmp int_cmp) es)
    parts = parts_of (below_all (slice_cmp int_cmp) e.0 es) (map.is_sorted (slice_cmp int_cmp) es) sorted

    test : eq_by_cmp (slice_cmp int_cmp) c e.0 ≡ coords_eq (e.1).coords c
    test = coords_tie c e.0 ∙ ap (λ x. coords_eq x c) (sym own.0)

    by : (b : Bool) → coords_eq (e.1).coords c ≡ b → version_at (list_map (λ x. x.1) es) k c ≡ with_key k (map.find (slice_cmp int_cmp) c es)
        → cond (key_eq (e.1).key k && coords_eq (e.1).coords c) (Some e.1) (version_at (list_map (λ x. x.1) es) k c) ≡ with_key k (cond (eq_by_cmp (slice_cmp int_cmp) c e.0) (Some e.1) (map.find (slice_cmp int_cmp) c es))
    by true at rest =
        ap (λ b. cond (key_eq (e.1).key k && b) (Some e.1) (version_at (list_map (λ x. x.1) es) k c)) at ∙ own_key (key_eq (e.1).key k)
        ∙ ap (λ b. with_key k (cond b (Some e.1) (map.find (slice_cmp int_cmp) c es))) (sym (test ∙ at))
      where
        behind : version_at (list_map (λ x. x.1) es) k c ≡ None
        behind = none_behind k c es own.1 (subst (λ x. T (below_all (slice_cmp int_cmp) x es)) (sym own.0 ∙ coords_same (e.1).coords c at) parts.0)

        own_key : (t : Bool) → cond (t && true) (Some e.1) (version_at (list_map (λ x. x.1) es) k c) ≡ cond t (Some e.1) None
        own_key true = refl
        own_key false = behind
    by false at rest =
        ap (λ b. cond b (Some e.1) (version_at (list_map (λ x. x.1) es) k c)) (and_right (key_eq (e.1).key k) (coords_eq (e.1).coords c) at) ∙ rest
        ∙ ap (λ b. with_key k (cond b (Some e.1) (map.find (slice_cmp int_cmp) c es))) (sym (test ∙ at))

-- what is left of versions is what stands among those that are kept, in order
pub merged_at : (frame : Frame) (last : Bool) (vs : List Version) (k : Key) (c : List ℤ) → version_at (merged_versions frame last vs) k c ≡ left_of last vs k c
merged_at frame true vs k c =
    version_at-in_order frame (map.values (newest_of vs)) k c ∙ find_own k c (map.entries (newest_of vs)) (own_newest vs) (map.entries_sorted (newest_of vs))
    ∙ ap (with_key k) (sym (map.get-entries (newest_of vs) c) ∙ get_newest_of vs c)
merged_at frame false vs k c = version_at-in_order frame vs k c
