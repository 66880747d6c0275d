-- Versions that ascend are in order as they stand, and the last of each cell are its newest.
use Rattle.std.proofs.Common.{◌≡◌, ℤ, Bool, true, false, cond, ◌&&◌, not, List, [], ◌∷◌, map, Option, Some, None, inl, inr, refl, sym, ap, ◌∙◌, subst}
use Rattle.std.specs.Prelude.{Contains, T, filter}
use Rattle.std.specs.Cmp.{both_ways}
use Rattle.std.specs.List.{AllByRecursion}
use Rattle.std.specs.List.Sorted.{IsPermutation, IsStrictlySortedBy}
use Rattle.std.specs.Ordering.{is_eq, is_lt, ordering_then}
use Rattle.std.specs.FinMap as finite
use Rattle.std.specs.FinMap.Entries.{below_all}
use Rattle.std.specs.declared.cmp.Ordering.{Ordering}
use Rattle.std.specs.declared.cmp.Ordering.TheVariants.{Less, Equal, Greater}
use Rattle.std.proofs.lemmas.Bool.{true≢false, and_parts, and_right}
use Rattle.std.proofs.lemmas.List.{append-nil}
use Rattle.std.proofs.lemmas.List.Sorted.{Contains-permutation, IsPermutation-sym}
use Rattle.std.proofs.lemmas.Option.{none-some}
use Rattle.ts_base.specs.declared.keys.Key.{Key}
use Rattle.ts_base.specs.declared.heads.Version.{Version}
use Rattle.ts_base.specs.Keys.{key_cmp, key_eq, greatest}
use Rattle.ts_base.specs.Coords.{coords_eq}
use Rattle.ts_order.proofs.OrderLemmas.{global_cmp-exact, global_cmp-same, global_total}
use Rattle.ts_schema.specs.declared.frames.Frame.{Frame}
use Rattle.ts_store.proofs.Trees.{entries-tree}
use Rattle.ts_table.specs.Merges as merges
use Rattle.ts_table.proofs.MergeAllLaws.{one_merged}
use Rattle.ts_model.specs.declared.merging.VersionPlace.{VersionPlace}
use Rattle.ts_model.specs.Commands.{global_order}
use Rattle.ts_model.specs.Pieces.{version_at, newest_of}
use Rattle.ts_model.specs.Merging.{AreAlike, newest_at, with_key, version_place, version_place_cmp, placed_of, in_version_order, newest_in_order}
use Rattle.ts_model.proofs.Alike.{in_order_alike, newest_alike}
use Rattle.ts_model.proofs.KeyLemmas.{key_same, tie_itself}
use Rattle.ts_model.proofs.ListLemmas.{Contains-nil, Contains-cons, find-Some, find_member}
use Rattle.ts_model.proofs.Newest.{coords_same, coords_itself}
use Rattle.ts_model.proofs.UnionLaws.{version_total, version_exact, Entry, IsNamed, versions_of, entries_in, named, back, entries_all, parts_of, less_of, version_at-in_order, merged_at}
use Rattle.ts_consolidate.specs.Placing.{by_version, is_last, last_alone, place_of}

-- what ties is equal
equal_of : (o : Ordering) → is_eq o ≡ true → o ≡ Equal
equal_of Less h = cc
equal_of Equal h = refl
equal_of Greater h = cc

module _ (frame : Frame) where
  -- ---- the last version of each cell

  -- coordinates tie where they are the same
  ties : (a b : List ℤ) → is_eq (global_order frame a b) ≡ coords_eq a b
  ties a b = both_ways (is_eq (global_order frame a b)) (coords_eq a b)
      (λ tie. ap (coords_eq a) (sym (global_cmp-exact frame.domain frame.tile frame.cell a b (equal_of (global_order frame a b) tie))) ∙ coords_itself a)
      (λ one. ap is_eq (global_cmp-same frame.domain frame.tile frame.cell a b (coords_same a b one)))

  last_same : (v : Version) (vs : List Version) → is_last v vs ≡ merges.is_last (global_order frame) v vs
  last_same v [] = refl
  last_same v (w ∷ ws) = ap not (sym (ties v.coords w.coords))

  alone_same : (vs : List Version) → last_alone vs ≡ merges.last_alone (global_order frame) vs
  alone_same [] = refl
  alone_same (v ∷ vs) =
      let here = last_same v vs in
      let rest = alone_same vs in
      λ i. cond (here i) (v ∷ rest i) (rest i)

  -- behind a version that comes before all there is none of its cell
  none_behind : (k : Key) (c : List ℤ) (v : Version) (vs : List Version) → v.coords ≡ c → AllByRecursion (λ (w : Version). global_order frame v.coords w.coords ≡ Less) vs → version_at vs k c ≡ None
  none_behind k c v [] at all = refl
  none_behind k c v (w ∷ vs) at all =
      ap (λ b. cond b (Some w) (version_at vs k c)) (and_right (key_eq w.key k) (coords_eq w.coords c) (by (coords_eq w.coords c) refl)) ∙ none_behind k c v vs at all.1
    where
      by : (b : Bool) → coords_eq w.coords c ≡ b → coords_eq w.coords c ≡ false
      by false other = other
      by true one =
          absurd (true≢false (sym (ap is_eq (global_cmp-same frame.domain frame.tile frame.cell v.coords w.coords (at ∙ sym (coords_same w.coords c one)))) ∙ ap is_eq all.0))

  -- where cells come one before the other, the version of a key and a cell is that of the cell, if it has the key
  climbs_at : (vs : List Version) → merges.Climbs (global_order frame) vs → (k : Key) (c : List ℤ) → version_at vs k c ≡ with_key k (merges.one_at (global_order frame) c vs)
  climbs_at [] climbs k c = refl
  climbs_at (v ∷ vs) climbs k c = by (coords_eq v.coords c) refl (climbs_at vs climbs.1 k c)
    where
      by : (b : Bool) → coords_eq v.coords c ≡ b → version_at vs k c ≡ with_key k (merges.one_at (global_order frame) c vs)
          → cond (key_eq v.key k && coords_eq v.coords c) (Some v) (version_at vs k c) ≡ with_key k (cond (is_eq (global_order frame v.coords c)) (Some v) (merges.one_at (global_order frame) c vs))
      by true at rest =
          ap (λ b. cond (key_eq v.key k && b) (Some v) (version_at vs k c)) at ∙ own_key (key_eq v.key k)
          ∙ ap (λ b. with_key k (cond b (Some v) (merges.one_at (global_order frame) c vs))) (sym (ties v.coords c ∙ at))
        where
          own_key : (t : Bool) → cond (t && true) (Some v) (version_at vs k c) ≡ cond t (Some v) None
          own_key true = refl
          own_key false = none_behind k c v vs (coords_same v.coords c at) climbs.0
      by false at rest =
          ap (λ b. cond b (Some v) (version_at vs k c)) (and_right (key_eq v.key k) (coords_eq v.coords c) at) ∙ rest
          ∙ ap (λ b. with_key k (cond b (Some v) (merges.one_at (global_order frame) c vs))) (sym (ties v.coords c ∙ at))

  -- ---- versions that ascend

  ascends : (vs : List Version) → IsStrictlySortedBy (by_version frame) vs → merges.VersionsAscend (global_order frame) vs
  unfolding IsStrictlySortedBy
  ascends [] up = tt
  ascends (v ∷ vs) up = (up.0, ascends vs up.1)

  all_up : (v : Version) (vs : List Version) → AllByRecursion (λ (w : Version). global_order frame v.coords w.coords ≡ Less) vs → AllByRecursion (λ (w : Version). by_version frame v w ≡ Less) vs
  all_up v [] all = tt
  all_up v (w ∷ vs) all = (ap (λ o. ordering_then o (key_cmp v.key w.key)) all.0, all_up v vs all.1)

  climbs_up : (vs : List Version) → merges.Climbs (global_order frame) vs → IsStrictlySortedBy (by_version frame) vs
  unfolding IsStrictlySortedBy
  climbs_up [] climbs = tt
  climbs_up (v ∷ vs) climbs = (all_up v vs climbs.0, climbs_up vs climbs.1)

  above_keys : (v : Version) (vs : List Version) → AllByRecursion (λ (w : Version). by_version frame v w ≡ Less) vs
      → AllByRecursion (λ (p : VersionPlace). version_place_cmp (place_of frame v) p ≡ Less) (map (λ (e : Entry). e.0) (entries_in frame vs))
  above_keys v [] all = tt
  above_keys v (w ∷ vs) all = (all.0, above_keys v vs all.1)

  keys_up : (vs : List Version) → IsStrictlySortedBy (by_version frame) vs → IsStrictlySortedBy version_place_cmp (map (λ (e : Entry). e.0) (entries_in frame vs))
  unfolding IsStrictlySortedBy
  keys_up [] up = tt
  keys_up (v ∷ vs) up = (above_keys v vs up.0, keys_up vs up.1)

  -- versions that ascend are in order as they stand
  pub in_order_same : (vs : List Version) → IsStrictlySortedBy (by_version frame) vs → in_version_order frame vs ≡ vs
  unfolding placed_of
  in_order_same vs up = ap (map (λ (e : Entry). e.1)) (entries-tree version_total (entries_in frame vs) (keys_up vs up)) ∙ back frame vs

  above_values : (v : Version) (es : List Entry) → AllByRecursion (IsNamed frame) es → T (below_all version_place_cmp (place_of frame v) es) → AllByRecursion (λ (w : Version). by_version frame v w ≡ Less) (versions_of frame es)
  above_values v [] own below = tt
  above_values v (e ∷ es) own below =
      let parts = parts_of (is_lt (version_place_cmp (place_of frame v) e.0)) (below_all version_place_cmp (place_of frame v) es) below in
      (subst (λ x. version_place_cmp (place_of frame v) x ≡ Less) own.0 (less_of (version_place_cmp (place_of frame v) e.0) parts.0), above_values v es own.1 parts.1)

  values_up : (es : List Entry) → AllByRecursion (IsNamed frame) es → T (finite.is_sorted version_place_cmp es) → IsStrictlySortedBy (by_version frame) (versions_of frame es)
  unfolding IsStrictlySortedBy
  values_up [] own up = tt
  values_up (e ∷ es) own up =
      let parts = parts_of (below_all version_place_cmp e.0 es) (finite.is_sorted version_place_cmp es) up in
      (above_values e.1 es own.1 (subst (λ x. T (below_all version_place_cmp x es)) own.0 parts.0), values_up es own.1 parts.1)

  -- versions in order ascend
  in_order_up : (vs : List Version) → IsStrictlySortedBy (by_version frame) (in_version_order frame vs)
  unfolding placed_of
  in_order_up vs =
      values_up (finite.entries (finite.from_entries {R = version_place_cmp} (entries_in frame vs))) (entries_all version_total version_exact (IsNamed frame) (entries_in frame vs) (named frame vs))
      (finite.entries_sorted (finite.from_entries {R = version_place_cmp} (entries_in frame vs)))

  -- ---- the newest of versions in order

  -- of versions in order the last of each cell are the newest ones
  pub last_of_order : (vs ws : List Version) → ws ≡ in_version_order frame vs → last_alone ws ≡ newest_in_order frame vs
  last_of_order vs ws is =
      ap last_alone is ∙ alone_same (in_version_order frame vs) ∙ sym (in_order_same last (climbs_up last merged.climbs)) ∙ in_order_alike frame last (newest_in_order frame vs) alike
      ∙ in_order_same (newest_in_order frame vs) (in_order_up (finite.values (newest_of vs)))
    where
      last : List Version
      last = merges.last_alone (global_order frame) (in_version_order frame vs)

      merged : merges.IsMergedAll (global_order frame) (in_version_order frame vs ∷ []) last
      merged = one_merged (global_order frame) (global_total frame.domain frame.tile frame.cell) (in_version_order frame vs) (ascends (in_version_order frame vs) (in_order_up vs))

      tests : (c : List ℤ) → merges.is_at (global_order frame) c ≡ λ (v : Version). coords_eq v.coords c
      tests c = λ i v. ties v.coords c i

      one : (c : List ℤ) → merges.one_at (global_order frame) c last ≡ newest_at vs c
      one c =
          merged.at c ∙ ap (greatest (λ (v : Version). v.key)) (append-nil (filter (merges.is_at (global_order frame) c) (in_version_order frame vs)))
          ∙ ap (λ p. greatest (λ (v : Version). v.key) (filter p (in_version_order frame vs))) (tests c) ∙ newest_alike (in_version_order frame vs) vs (version_at-in_order frame vs) c

      alike : AreAlike last (newest_in_order frame vs)
      alike k c = climbs_at last merged.climbs k c ∙ ap (with_key k) (one c) ∙ sym (merged_at frame true vs k c)

  -- ---- versions that were sorted

  -- the version has the key and the coordinates
  abbrev has : Key → List ℤ → Version → Bool
  has k c v = key_eq v.key k && coords_eq v.coords c

  -- a version of a list comes after one that comes before all of it
  later : (w : Version) (vs : List Version) (v : Version) → AllByRecursion (λ (x : Version). by_version frame w x ≡ Less) vs → Contains vs v → by_version frame w v ≡ Less
  later w [] v all at = absurd (Contains-nil v at)
  later w (x ∷ vs) v all at = elim (Contains-cons x vs v at) [ inl same ↦ ap (by_version frame w) (sym same) ∙ all.0 | inr more ↦ later w vs v all.1 more ]

  -- of two versions of which one comes before the other, one has the key and the coordinates
  other_apart : (k : Key) (c : List ℤ) (w v : Version) → has k c v ≡ true → by_version frame w v ≡ Less → has k c w ≡ false
  other_apart k c w v is less = by (has k c w) refl
    where
      by : (b : Bool) → has k c w ≡ b → has k c w ≡ false
      by false other = other
      by true one =
          let first = and_parts (key_eq w.key k) (coords_eq w.coords c) one in
          let second = and_parts (key_eq v.key k) (coords_eq v.coords c) is in
          let keys : w.key ≡ v.key = key_same w.key k first.0 ∙ sym (key_same v.key k second.0) in
          let cells : w.coords ≡ v.coords = coords_same w.coords c first.1 ∙ sym (coords_same v.coords c second.1) in
          let places : place_of frame w ≡ place_of frame v = λ i. version_place frame (cells i) (keys i) in
          absurd (true≢false (sym (tie_itself version_total version_exact (place_of frame w)) ∙ ap (λ p. is_eq (version_place_cmp (place_of frame w) p)) places ∙ ap is_eq less))

  -- of versions that ascend the one of a key and a cell is found
  found_up : (vs : List Version) (v : Version) (k : Key) (c : List ℤ) → IsStrictlySortedBy (by_version frame) vs → Contains vs v → has k c v ≡ true → version_at vs k c ≡ Some v
  unfolding IsStrictlySortedBy
  found_up [] v k c up at is = absurd (Contains-nil v at)
  found_up (w ∷ vs) v k c up at is = elim (Contains-cons w vs v at) [
    | inl same ↦ ap (λ b. cond b (Some w) (version_at vs k c)) (ap (has k c) same ∙ is) ∙ ap Some same
    | inr more ↦ ap (λ b. cond b (Some w) (version_at vs k c)) (other_apart k c w v is (later w vs v up.0 more)) ∙ found_up vs v k c up.1 more is
  ]

  -- versions that ascend once they were moved are those in order
  pub moved_in_order : (vs ws : List Version) → IsPermutation vs ws → IsStrictlySortedBy (by_version frame) ws → in_version_order frame vs ≡ ws
  moved_in_order vs ws moved up = in_order_alike frame vs ws alike ∙ in_order_same ws up
    where
      alike : AreAlike vs ws
      alike k c = by (version_at vs k c) (version_at ws k c) refl refl
        where
          by : (o q : Option Version) → version_at vs k c ≡ o → version_at ws k c ≡ q → version_at vs k c ≡ version_at ws k c
          by None None e f = e ∙ sym f
          by (Some v) q e f =
              let there = find-Some (has k c) vs v e in
              e ∙ sym (found_up ws v k c up (Contains-permutation vs ws v moved there.0) there.1)
          by None (Some w) e f =
              let there = find-Some (has k c) ws w f in
              let back = find_member (has k c) vs w (Contains-permutation ws vs w (IsPermutation-sym vs ws moved) there.0) there.1 in
              absurd (none-some back.0 (sym e ∙ back.1))
